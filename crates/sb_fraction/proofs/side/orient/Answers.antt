use Rattle.std.proofs.Common.{rules, ◌≡◌, ◌∙◌, ap, pos, w64, FitsSigned}
use Rattle.std.specs.Ordering.{int_cmp}
use Rattle.std.proofs.lemmas.Int.{to_z-of_z}
use Rattle.sb_fraction.specs.Edges.{edge_of, turn_at}
use Rattle.sb_fraction.specs.Spots.{spot_at}
use Rattle.sb_fraction.proofs.SidesOfPoints.{turn_at_point}
use Rattle.sb_fraction.proofs.side.orient.Goals as goal

pub returns : goal.returns
returns c =
    let f : FitsSigned w64 c.cross.result = search rules in
    let order = simp to_z-of_z at c.cmp.ensures in
    let turn : c.cross.result ≡ turn_at (edge_of c.args.s.now) (spot_at c.args.p) =
    c.cross.ensures.value
    ∙ rw (c.between-to_a.ensures.value, c.between-to_b.ensures.value)
    (turn_at_point (edge_of c.args.s.now) c.args.p) in
    record { side = order ∙ ap (λ n. int_cmp n (pos 0)) turn }
