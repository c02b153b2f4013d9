use Rattle.std.proofs.Common.{◌++◌, ◌∷◌, [], ◌∙◌, ap, refl, subst, sym}
use Rattle.sb_place.specs.Positions.{IsPoint}
use Rattle.sb_prism.specs.Shapes.{AreEach}
use Rattle.sb_prism.specs.Outlines.{texts_at}
use Rattle.sb_prism.specs.Kept.{with_spot, point_faults, spot_at, without_points}
use Rattle.sb_prism.proofs.EachIsRead.{each_more, one_taken, all_taken}
use Rattle.sb_prism.proofs.Outlines.OutlinesAreRead.{polyline_more}
use Rattle.sb_prism.proofs.sections.curves.along.Goals as goal

pub numbers-init : goal.numbers-init
numbers-init c = ([], [], refl, tt, c.no_points-outline.ensures ∙ ap without_points c.none.ensures)

pub numbers-preserved-in_ok-push_point : goal.numbers-preserved-in_ok-push_point
numbers-preserved-in_ok-push_point c =
    let (taken, points, all, are, is) = c.numbers.invariant in (
      taken ++ c.in-Some.number ∷ [],
      points ++ c.in_ok-point.point ∷ [],
      one_taken c.args.numbers.now taken c.numbers.numbers c.next.new.self c.in-Some.number all c.in-Some.ensures.item c.next.ensures.left,
      each_more (IsPoint c.args.file.now) taken points c.in-Some.number c.in_ok-point.point are c.in_ok-point.ensures,
      c.in_ok-push_point.ensures
          ∙ (ap (λ o. with_spot o (point_faults c.args.unit c.in_ok-point.point) (spot_at c.args.unit (texts_at c.in_ok-point.point))) is
          ∙ polyline_more c.args.unit points c.in_ok-point.point),
    )

pub numbers-preserved : goal.numbers-preserved
numbers-preserved c =
    let (taken, points, all, are, is) = c.numbers.invariant in (
      taken ++ c.in-Some.number ∷ [],
      points ++ c.in_ok-point.point ∷ [],
      one_taken c.args.numbers.now taken c.numbers.numbers c.next.new.self c.in-Some.number all c.in-Some.ensures.item c.next.ensures.left,
      each_more (IsPoint c.args.file.now) taken points c.in-Some.number c.in_ok-point.point are c.in_ok-point.ensures,
      c.in_ok-push_point.ensures
          ∙ (ap (λ o. with_spot o (point_faults c.args.unit c.in_ok-point.point) (spot_at c.args.unit (texts_at c.in_ok-point.point))) is
          ∙ polyline_more c.args.unit points c.in_ok-point.point),
    )

pub returns : goal.returns
returns c =
    let (taken, points, all, are, is) = c.numbers.invariant in (
      points,
      subst (λ ns. AreEach (IsPoint c.args.file.now) ns points) (all_taken c.args.numbers.now taken c.numbers.numbers all (sym c.in_default.is ∙ c.next.ensures.item)) are,
      is,
    )
