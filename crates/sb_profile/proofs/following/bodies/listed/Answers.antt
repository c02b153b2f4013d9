use Rattle.std.proofs.Common.{ap, ◌∙◌, ◌++◌, get_or}
use Rattle.std.specs.List.{flat_map}
use Rattle.std.proofs.lemmas.List.{take_all}
use Rattle.sb_profile.specs.Steps.Read.{representations_of}
use Rattle.sb_profile.proofs.ListsOfNumbers.{flat_map_more}
use Rattle.sb_profile.proofs.following.bodies.listed.Goals as goal

pub shapes-preserved : goal.shapes-preserved
shapes-preserved c = λ said says.
    let xs = c.args.shapes.now in
    let i = c.shapes.shape-index in
    c.in_ok-list.ensures said says
    ∙ (ap (λ ns. ns ++ representations_of said (get_or xs i 0)) (c.shapes.invariant said says)
    ∙ flat_map_more (representations_of said) xs i c.shapes-test.true)

pub returns : goal.returns
returns c = λ said says.
    c.shapes.invariant said says
    ∙ ap (flat_map (representations_of said))
    (take_all c.shapes.shape-index c.args.shapes.now c.shapes-test.false)
