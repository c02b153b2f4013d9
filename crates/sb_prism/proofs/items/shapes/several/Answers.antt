use Rattle.std.proofs.Common.{◌++◌, ◌∷◌, [], ◌∙◌, ap, Some, sym, subst}
use Rattle.sb_prism.specs.Shapes.{IsSolid}
use Rattle.sb_prism.specs.Kept.{IsItemsOf, joined, instances_alone}
use Rattle.sb_prism.proofs.EachIsRead.{each_next, each_whole}
use Rattle.sb_prism.proofs.Solids.ShapesAreRead.{solids_more, solids_faults, several_is}
use Rattle.sb_prism.proofs.items.shapes.several.Goals as goal

pub numbers-preserved : goal.numbers-preserved
numbers-preserved c =
    let (solids, are, is) = c.numbers.invariant in
    let (s, seen, kept) = c.in_ok-solid.ensures in (
      solids ++ s ∷ [],
      each_next (IsSolid c.args.file.now) c.args.numbers.now solids c.numbers.number-index s c.numbers-test.true are seen,
      c.and-faults.ensures
          ∙ (ap (λ f. joined f c.instances_alone.result) is
          ∙ (ap (joined (solids_faults solids)) (c.instances_alone.ensures ∙ ap instances_alone kept.faults)
          ∙ solids_more c.args.unit solids s)),
    )

pub returns : goal.returns
returns c =
    let (solids, are, is) = c.numbers.invariant in
    let whole = each_whole (IsSolid c.args.file.now) c.args.numbers.now solids c.numbers.number-index c.numbers-test.false are in (
      solids,
      whole,
      subst (IsItemsOf c.args.unit (Some solids)) (sym c.no_solid.ensures)
          (several_is c.args.unit c.args.file.now c.args.numbers.now solids c.numbers.faults c.requires whole is),
    )
