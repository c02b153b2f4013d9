-- No number of what is turned back is larger than those of the span.
use Rattle.std.proofs.Common.{rules, FitsSigned}
use Rattle.std.specs.Int.{w128}
use Rattle.std.proofs.lemmas.Int.{to_z-of_z}
use Rattle.sb_ifc_out.proofs.in_space.turned_back.Goals as goal

pub returns-clause-size : goal.returns-clause-size
returns-clause-size c = λ most within.
    let x : FitsSigned w128 c.along.result = search rules in
    let y : FitsSigned w128 c.along-2.result = search rules in
    let z : FitsSigned w128 c.along-3.result = search rules in
    record {
      of_x = rw (to_z-of_z w128 c.along.result x) (c.along.ensures.size most within);
      of_y = rw (to_z-of_z w128 c.along-2.result y) (c.along-2.ensures.size most within);
      of_z = rw (to_z-of_z w128 c.along-3.result z) (c.along-3.ensures.size most within);
    }
