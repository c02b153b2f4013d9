-- The sides of every patch have lines within bounds, and so have its ends.

use Rattle.std.proofs.Common.{refl, subst, sym, arith, inl, inr, ◌⊎◌, ◌≤ℤ◌, ◌*ℤ◌, ◌+ℤ◌, ℤ, pos, ◌≡◌, ◌≤◌, ◌<ℤ◌, true, ◌&&◌, IsTrue, int_lt, nat_le, unsigned_abs}
use Rattle.std.proofs.lemmas.Bool.{and_parts, and_from, leb-true, le-leb, false≢true}
use Rattle.std.proofs.lemmas.Int.{to_z-of_z, ints}
use Rattle.std.proofs.lemmas.Bool.Decides.{Decides-int_eq}
use Rattle.theory_numbers.specs.Divisors.{are_coprime}
use Rattle.theory_numbers.proofs.Signs.{less_from, equal_or_not}
use Rattle.theory_numbers.proofs.Products.{positive_square, weak_square}
use Rattle.theory_plane.specs.Regions.{is_region}
use Rattle.sb_fraction.specs.declared.direction.Direction.{Direction}
use Rattle.sb_fraction.specs.Plane.{is_forward, longest_step}
use Rattle.sb_model.specs.declared.faces.face.FaceKind.{FaceKind}
use Rattle.sb_model.specs.declared.faces.face.FaceKind.TheVariants as kind
use Rattle.sb_model.specs.declared.faces.face.Side.{Side}
use Rattle.sb_model.specs.declared.faces.face.Side.TheVariants.{OnLine, Height}
use Rattle.sb_model.specs.declared.patches.patch.Patch.{Patch}
use Rattle.sb_model.specs.declared.faces.side_line.SideLine.{SideLine}
use Rattle.sb_model.specs.Surfaces.Sides.{is_abscissa_size, is_side_of, region_between, greatest_offset}
use Rattle.sb_model.specs.Surfaces.SideLines.{is_side, is_side_line}

-- ---- patches

side_is : (k : FaceKind) (s : Side) → is_side_of k s ≡ true → is_side s ≡ true
side_is k (Height h) is = refl
side_is (kind.Side k) (OnLine l) is = absurd (false≢true is)
side_is kind.Bottom (OnLine l) is = is
side_is kind.Top (OnLine l) is = is

-- what the test of a patch says of its ends and sides
record IsBounded (p : Patch) : Type 0 where
  low : is_abscissa_size p.low ≡ true
  high : is_abscissa_size p.high ≡ true
  lower : is_side_of p.face.kind p.lower ≡ true
  upper : is_side_of p.face.kind p.upper ≡ true

bounded : (p : Patch) → IsBounded p
bounded p =
    let parts = and_parts (is_abscissa_size p.low && is_abscissa_size p.high)
    ((is_side_of p.face.kind p.lower && is_side_of p.face.kind p.upper)
    && is_region (region_between p.low p.high p.lower p.upper)) p.is_patch in
    let ends = and_parts (is_abscissa_size p.low) (is_abscissa_size p.high) parts.0 in
    let sides = and_parts (is_side_of p.face.kind p.lower && is_side_of p.face.kind p.upper)
    (is_region (region_between p.low p.high p.lower p.upper)) parts.1 in
    let both = and_parts (is_side_of p.face.kind p.lower) (is_side_of p.face.kind p.upper) sides.0 in
    record { low = ends.0; high = ends.1; lower = both.0; upper = both.1 }

-- its low end is within the bounds of abscissae
pub low_in : (p : Patch) → is_abscissa_size p.low ≡ true
low_in p = (bounded p).low

-- and its high end
pub high_in : (p : Patch) → is_abscissa_size p.high ≡ true
high_in p = (bounded p).high

-- its lower side is one of some face
pub lower_in : (p : Patch) → is_side p.lower ≡ true
lower_in p = side_is p.face.kind p.lower (bounded p).lower

-- and its upper side
pub upper_in : (p : Patch) → is_side p.upper ≡ true
upper_in p = side_is p.face.kind p.upper (bounded p).upper

-- ---- directions

direction_parts : (d : Direction) → (unsigned_abs d.x ≤ longest_step) × (unsigned_abs d.y ≤ longest_step)
direction_parts d =
    let first = and_parts (are_coprime (unsigned_abs d.x) (unsigned_abs d.y) && is_forward d.x d.y
    && nat_le (unsigned_abs d.x) longest_step) (nat_le (unsigned_abs d.y) longest_step) d.is_direction in
    let second = and_parts (are_coprime (unsigned_abs d.x) (unsigned_abs d.y) && is_forward d.x d.y)
    (nat_le (unsigned_abs d.x) longest_step) first.0 in
    (leb-true _ _ second.1, leb-true _ _ first.1)

-- the numbers of a direction are short
pub direction_x_in : (d : Direction) → unsigned_abs d.x ≤ longest_step
direction_x_in d = (direction_parts d).0

pub direction_y_in : (d : Direction) → unsigned_abs d.y ≤ longest_step
direction_y_in d = (direction_parts d).1

-- ---- lines of sides

-- the line of a side that is one has bounded numbers
pub on_line_in : (dx dy off : ℤ) → int_lt (pos 0) dx ≡ true → unsigned_abs dx ≤ longest_step
    → unsigned_abs dy ≤ longest_step → nat_le (unsigned_abs off) greatest_offset ≡ true
    → IsTrue (is_side_line dx dy off)
on_line_in dx dy off right dx_in dy_in off_in =
    and_from _ _ (and_from _ _ right (le-leb _ _ dx_in)) (and_from _ _ (le-leb _ _ dy_in) off_in)

-- what is known of the line of a side
record IsSideLine (s : SideLine) : Type 0 where
  right : pos 0 <ℤ s.dx
  dx_in : unsigned_abs s.dx ≤ longest_step
  dy_in : unsigned_abs s.dy ≤ longest_step
  off_in : unsigned_abs s.off ≤ greatest_offset

line_parts : (s : SideLine) → IsSideLine s
line_parts s =
    let parts = and_parts (int_lt (pos 0) s.dx && nat_le (unsigned_abs s.dx) longest_step)
    (nat_le (unsigned_abs s.dy) longest_step && nat_le (unsigned_abs s.off) greatest_offset) s.is_side_line in
    let first = and_parts (int_lt (pos 0) s.dx) (nat_le (unsigned_abs s.dx) longest_step) parts.0 in
    let second = and_parts (nat_le (unsigned_abs s.dy) longest_step) (nat_le (unsigned_abs s.off) greatest_offset) parts.1 in
    record {
      right = less_from (pos 0) s.dx first.0;
      dx_in = leb-true _ _ first.1;
      dy_in = leb-true _ _ second.0;
      off_in = leb-true _ _ second.1;
    }

-- it runs forward in u, and its numbers are bounded
pub side_runs_right : (s : SideLine) → pos 0 <ℤ s.dx
side_runs_right s = (line_parts s).right

pub side_dx_in : (s : SideLine) → unsigned_abs s.dx ≤ longest_step
side_dx_in s = (line_parts s).dx_in

pub side_dy_in : (s : SideLine) → unsigned_abs s.dy ≤ longest_step
side_dy_in s = (line_parts s).dy_in

pub side_off_in : (s : SideLine) → unsigned_abs s.off ≤ greatest_offset
side_off_in s = (line_parts s).off_in

-- for `line_of_side`
pub ruleset side_lines = (to_z-of_z, direction_x_in, direction_y_in)

-- ---- the length of a direction

-- a direction has a length
pub square_is_positive : (d : Direction) → pos 0 <ℤ ((d.x *ℤ d.x) +ℤ (d.y *ℤ d.y))
square_is_positive d =
    let first = and_parts (are_coprime (unsigned_abs d.x) (unsigned_abs d.y) && is_forward d.x d.y
    && nat_le (unsigned_abs d.x) longest_step) (nat_le (unsigned_abs d.y) longest_step) d.is_direction in
    let second = and_parts (are_coprime (unsigned_abs d.x) (unsigned_abs d.y) && is_forward d.x d.y)
    (nat_le (unsigned_abs d.x) longest_step) first.0 in
    let forward = (and_parts (are_coprime (unsigned_abs d.x) (unsigned_abs d.y)) (is_forward d.x d.y) second.0).1 in
    from d.x d.y (equal_or_not d.x (pos 0)) forward
  where
    more : (a b : ℤ) → pos 0 <ℤ a → pos 0 ≤ℤ b → pos 0 <ℤ (a +ℤ b)
    more a b a_in b_in = omega (arith, ints)

    up : (y : ℤ) → is_forward (pos 0) y ≡ true → pos 0 <ℤ ((pos 0 *ℤ pos 0) +ℤ (y *ℤ y))
    up y forward = rw ((Decides-int_eq y (pos 1)).0 forward) (less_from (pos 0) (pos 1) refl)

    from : (x y : ℤ) → (x ≡ pos 0) ⊎ (x ≡ pos 0 → ⊥) → is_forward x y ≡ true
        → pos 0 <ℤ ((x *ℤ x) +ℤ (y *ℤ y))
    from x y (inl none) forward =
        subst (λ t. pos 0 <ℤ ((t *ℤ t) +ℤ (y *ℤ y))) (sym none)
        (up y (subst (λ t. is_forward t y ≡ true) none forward))
    from x y (inr other) forward = more (x *ℤ x) (y *ℤ y) (positive_square x other) (weak_square y)

-- the sides are of the kind of the patch's face
pub lower_of_kind : (p : Patch) → is_side_of p.face.kind p.lower ≡ true
lower_of_kind p = (bounded p).lower

pub upper_of_kind : (p : Patch) → is_side_of p.face.kind p.upper ≡ true
upper_of_kind p = (bounded p).upper
