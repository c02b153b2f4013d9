-- Two numbers counted from their anchors.
use Rattle.std.proofs.Common.{◌≡◌, ℤ, Bool, true, false, ◌&&◌, Option, Some, None, IsTrue, refl, ap, ◌∙◌}
use Rattle.std.proofs.lemmas.Bool.{and_from}
use Rattle.sb_fraction.specs.declared.point.Point.{Point}
use Rattle.sb_fraction.specs.Plane.{is_plan_point, is_coordinate}
use Rattle.theory_plans.specs.Rectangles.{corner}
use Rattle.sb_solid.specs.Judged.{is_close, base_of, IsBase, point_of, both}

-- as a point of the plane
abbrev pub IsPair : ℤ → ℤ → ℤ → ℤ → Option Point → Type 0
IsPair a b m n None = (is_close a m && is_close b n) ≡ false
IsPair a b m n (Some p) =
    ((is_close a m && is_close b n) ≡ true) × (p ≡ corner (base_of a m) (base_of b n)) × IsTrue (is_plan_point p)

second_fails : (s t : Bool) → t ≡ false → (s && t) ≡ false
second_fails true t fails = fails
second_fails false t fails = refl

pub seen_pair : (a b m n : ℤ) (r s : Option ℤ) → IsBase a m r → IsBase b n s → IsPair a b m n (point_of r s)
seen_pair a b m n None None first second = second_fails (is_close a m) (is_close b n) second
seen_pair a b m n None (Some y) first second = ap (λ t. t && is_close b n) first
seen_pair a b m n (Some x) None first second = second_fails (is_close a m) (is_close b n) second
seen_pair a b m n (Some x) (Some y) (close, is, inside) (close_too, is_too, inside_too) = (
  and_from (is_close a m) (is_close b n) close close_too,
  ap (λ t. corner t y) is ∙ ap (corner (base_of a m)) is_too,
  and_from (is_coordinate x) (is_coordinate y) inside inside_too,
)

-- and as the two ends of an extrusion
abbrev pub IsBoth : ℤ → ℤ → ℤ → Option (ℤ × ℤ) → Type 0
IsBoth a m n None = (is_close a m && is_close a n) ≡ false
IsBoth a m n (Some (k, l)) = (k ≡ base_of a m) × (l ≡ base_of a n) × IsTrue (is_coordinate k) × IsTrue (is_coordinate l)

pub seen_both : (a m n : ℤ) (r s : Option ℤ) → IsBase a m r → IsBase a n s → IsBoth a m n (both r s)
seen_both a m n None None first second = second_fails (is_close a m) (is_close a n) second
seen_both a m n None (Some y) first second = ap (λ t. t && is_close a n) first
seen_both a m n (Some x) None first second = second_fails (is_close a m) (is_close a n) second
seen_both a m n (Some x) (Some y) (close, is, inside) (close_too, is_too, inside_too) = (is, is_too, inside, inside_too)
