-- Two trimmed lists that put the same plain points under the same marks cover alike: where a patch
-- of the one contains a point off the cuts, one of the other with its mark does.
use Rattle.std.proofs.Common.{◌≡◌, arith, List, refl, ◌*ℤ◌}
use Rattle.std.specs.List.{AllByRecursion}
use Rattle.theory_numbers.specs.Arrows.{Arrow, cross}
use Rattle.theory_numbers.specs.Rationals.{IsRational, IsSame}
use Rattle.theory_plane.specs.Sides.{LineSide, value_on}
use Rattle.theory_plane.specs.Regions.{IsInner}
use Rattle.theory_lists.specs.Members.{Stands}
use Rattle.theory_patches.specs.Marked.{MarkedPatch}
use Rattle.theory_patches.specs.Sheets.{Sheet, IsSheet, IsNoAbscissa, IsOffCuts, IsMarkedAt}
use Rattle.theory_patches.specs.Sheets.{ArePlainOffCuts}
use Rattle.theory_lists.proofs.Members.{all_follow}
use Rattle.theory_patches.proofs.Spaced.{IsSpacedList, trimmed_is_spaced}
use Rattle.std.proofs.lemmas.Bool.{false_from_ne_true}
use Rattle.theory_numbers.proofs.Shapes.{var, plus, times, equal, cross_by, cross_is}
use Rattle.theory_numbers.proofs.Products.{positive_product, zero_of_positive}
use Rattle.theory_plane.specs.Points.{FacePoint, IsFacePoint, point_at, abscissa_of, ordinate_of}
use Rattle.theory_plane.specs.Points.{is_on_side}
use Rattle.theory_plane.proofs.Points.{inner_from, inner_passes, on_is}
use Rattle.theory_patches.specs.Laws.{CoverAlike}

-- v lies on no cut at u
abbrev pub IsOnNoCut : Sheet → Arrow → Arrow → Type 0
IsOnNoCut sheet u v = AllByRecursion (λ cut. IsSame (value_on cut u) v → ⊥) sheet.cuts

-- where a patch of the first list contains a point off the cuts, so does one of the second with
-- its mark
abbrev pub CoversAlso : {M : Type 0} → Sheet → List (MarkedPatch M) → List (MarkedPatch M)
    → Type 0
CoversAlso {M} sheet ps qs =
    (u v : Arrow) → IsRational u → IsRational v → IsNoAbscissa sheet u → IsOnNoCut sheet u v
    → (p : MarkedPatch M) → Stands p ps → IsInner p.region u v
    → (q : MarkedPatch M) × Stands q qs × (q.mark ≡ p.mark) × IsInner q.region u v

-- two spaced lists that cover alike
pub record AreTwoCovers {M : Type 0} (sheet : Sheet) (ps qs : List (MarkedPatch M)) : Type 0 where
  pub sheet_in : IsSheet sheet
  pub first : IsSpacedList sheet ps
  pub second : IsSpacedList sheet qs
  pub there : CoversAlso sheet ps qs
  pub back : CoversAlso sheet qs ps

-- the same, seen from the other list
pub exchanged : {M : Type 0} (sheet : Sheet) (ps qs : List (MarkedPatch M))
    → AreTwoCovers sheet ps qs → AreTwoCovers sheet qs ps
exchanged sheet ps qs two =
    record {
      sheet_in = two.sheet_in;
      first = two.second;
      second = two.first;
      there = two.back;
      back = two.there;
    }

-- ---- from the points of the face

cross-abscissa_at : (r u v : Arrow) → cross r (abscissa_of (point_at u v)) ≡ v.x *ℤ cross r u
cross-abscissa_at r u v =
    equal
    (cross_by r (abscissa_of (point_at u v)) (var r.x) (var r.y) (times (var u.x) (var v.x))
    (times (var u.y) (var v.x)))
    (times (var v.x) (cross_is r u)) (omega arith)

cross-value_at : (l : LineSide) (u v : Arrow)
    → cross (value_on l (abscissa_of (point_at u v))) (ordinate_of (point_at u v))
    ≡ (u.x *ℤ v.x) *ℤ cross (value_on l u) v
unfolding value_on
cross-value_at l u v =
    equal
    (cross_by (value_on l (abscissa_of (point_at u v))) (ordinate_of (point_at u v))
    (times (var l.dx) (times (var u.x) (var v.x)))
    (plus (times (var l.dy) (times (var u.y) (var v.x)))
    (times (var l.off) (times (var u.x) (var v.x))))
    (times (var u.x) (var v.x)) (times (var v.y) (var u.x)))
    (times (times (var u.x) (var v.x))
    (cross_by (value_on l u) v (times (var l.dx) (var u.x))
    (plus (times (var l.dy) (var u.y)) (times (var l.off) (var u.x))) (var v.x) (var v.y)))
    (omega arith)

-- a point off the cuts, said by its two numbers
off_cuts_at : (sheet : Sheet) (u v : Arrow) → IsRational u → IsRational v → IsNoAbscissa sheet u
    → IsOnNoCut sheet u v → IsOffCuts sheet (point_at u v)
off_cuts_at sheet u v u_in v_in off no_cut =
    record {
      no_abscissa =
          all_follow
          (λ f apart same.
          apart (zero_of_positive v.x (cross f u) v_in (rw (cross-abscissa_at f u v) at same)))
          sheet.abscissae off;
      no_cut =
          all_follow
          (λ cut apart.
          false_from_ne_true (is_on_side cut (point_at u v))
          (λ answer.
          apart
          (zero_of_positive (u.x *ℤ v.x) (cross (value_on cut u) v) point_in
          (rw (cross-value_at cut u v) at (on_is cut (point_at u v) point_in).0 answer))))
          sheet.cuts no_cut;
    }
  where
    point_in : IsFacePoint (point_at u v)
    point_in = positive_product u.x v.x u_in v_in

-- lists that put the same plain points under the same marks cover alike
covers_from_marks : {M : Type 0} (sheet : Sheet) (IsPlain : FacePoint → Type 0)
    (ps qs : List (MarkedPatch M)) → ArePlainOffCuts sheet IsPlain ps
    → ((point : FacePoint) → IsFacePoint point → IsPlain point → (mark : M)
    → IsMarkedAt ps point mark → IsMarkedAt qs point mark)
    → CoversAlso sheet ps qs
covers_from_marks sheet IsPlain ps qs plain marks u v u_in v_in off no_cut p at_p inner =
    let point = point_at u v in
    let point_in : IsFacePoint point = positive_product u.x v.x u_in v_in in
    let here : IsMarkedAt ps point p.mark =
    (p, at_p, refl, inner_passes p.region u v v_in inner)
    in
    let found =
    marks point point_in
    (plain point point_in (off_cuts_at sheet u v u_in v_in off no_cut) p.mark here) p.mark here
    in
    (found.0, found.1, found.2, inner_from found.0.region u v v_in found.3)

-- so two such trimmed lists are two covers
pub two_covers : {M : Type 0} (sheet : Sheet) (IsPlain : FacePoint → Type 0)
    (ps qs : List (MarkedPatch M)) → CoverAlike sheet IsPlain ps qs → AreTwoCovers sheet ps qs
two_covers sheet IsPlain ps qs alike =
    record {
      sheet_in = alike.sheet_in;
      first = trimmed_is_spaced sheet ps alike.first;
      second = trimmed_is_spaced sheet qs alike.second;
      there =
          covers_from_marks sheet IsPlain ps qs alike.first_plain
          (λ point point_in plain mark. (alike.same_marks point point_in plain mark).0);
      back =
          covers_from_marks sheet IsPlain qs ps alike.second_plain
          (λ point point_in plain mark. (alike.same_marks point point_in plain mark).1);
    }
