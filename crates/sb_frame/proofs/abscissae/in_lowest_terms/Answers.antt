-- A fraction in lowest terms is no larger.
use Rattle.std.proofs.Common.{FitsSigned, rules, sym, subst, IsTrue}
use Rattle.std.specs.Int.{w128}
use Rattle.std.proofs.lemmas.Int.{to_z-of_z}
use Rattle.sb_fraction.specs.Bounds.{is_abscissa_size}
use Rattle.sb_frame.proofs.Along.ReducedSizes.{reduced_size}
use Rattle.sb_frame.proofs.abscissae.in_lowest_terms.Goals as goal

pub invariant_of-result : goal.invariant_of-result
invariant_of-result c =
    let num : FitsSigned w128 c.args.num = search rules in
    let den : FitsSigned w128 c.args.den = search rules in
    let value = simp to_z-of_z at c.new.ensures.value in
    record {
      size =
          subst (λ r. IsTrue (is_abscissa_size r)) (sym value)
          (reduced_size c.args.num c.args.den c.requires.num_size c.requires.den_size);
      lowest = c.new.ensures.in_lowest_terms;
    }
