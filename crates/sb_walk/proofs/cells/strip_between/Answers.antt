-- A patch stands between the two lines.
use Rattle.std.proofs.Common.{refl}
use Rattle.sb_model.specs.declared.faces.face.FaceKind.TheVariants as kind
use Rattle.sb_frame.specs.Network.{plan_edge_of}
use Rattle.sb_walk.proofs.CellsOfGaps.StripsOfGaps.{has_patch}
use Rattle.sb_walk.proofs.cells.strip_between.Goals as goal

pub invariant_of-result-clause-bottom : goal.invariant_of-result-clause-bottom
invariant_of-result-clause-bottom c =
    has_patch c.args.model.now c.ground-ground.ensures.is_building c.args.slab.now c.requires.slab
    c.requires.direction c.requires.ends c.args.gap (plan_edge_of c.args.below)
    (plan_edge_of c.args.above) c.requires.between c.requires.apart c.line_through-lower.result
    c.line_through-upper.result c.line_through-lower.ensures.direction
    c.line_through-lower.ensures.offset c.line_through-lower.ensures.size
    c.line_through-upper.ensures.direction c.line_through-upper.ensures.offset
    c.line_through-upper.ensures.size kind.Bottom refl

pub invariant_of-result-clause-top : goal.invariant_of-result-clause-top
invariant_of-result-clause-top c =
    has_patch c.args.model.now c.ground-ground.ensures.is_building c.args.slab.now c.requires.slab
    c.requires.direction c.requires.ends c.args.gap (plan_edge_of c.args.below)
    (plan_edge_of c.args.above) c.requires.between c.requires.apart c.line_through-lower.result
    c.line_through-upper.result c.line_through-lower.ensures.direction
    c.line_through-lower.ensures.offset c.line_through-lower.ensures.size
    c.line_through-upper.ensures.direction c.line_through-upper.ensures.offset
    c.line_through-upper.ensures.size kind.Top refl
