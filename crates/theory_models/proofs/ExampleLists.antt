-- Lists that the definitions refuse: one boundary too few, one twice, halves of one patch, a pair
-- with its items in the same order, a child outside its parent.

use Rattle.std.proofs.Common.{◌≡◌, refl, ap, subst, sym, arith, nat_eq, ◌<ℤ◌, ℕ, List, [], ◌∷◌, pos}
use Rattle.std.proofs.Common.{Some, None, IsTrue, inl}
use Rattle.std.proofs.lemmas.Int.{ints}
use Rattle.std.proofs.lemmas.Bool.{true≢false, false≢true}
use Rattle.theory_numbers.specs.Divisors.{divisor_within, greatest_divisor}
use Rattle.sb_fraction.specs.Plane.{is_direction}
use Rattle.theory_numbers.specs.Arrows.{cross, dot}
use Rattle.theory_plane.specs.Sides.{clearance}
use Rattle.theory_plane.specs.Points.{face_point}
use Rattle.theory_plane.specs.Regions.{is_inside}
use Rattle.sb_model.specs.declared.boundary.Boundary.{Boundary}
use Rattle.sb_model.specs.declared.faces.face.FaceKind.{FaceKind}
use Rattle.sb_model.specs.declared.faces.face.FaceKind.TheVariants as kind
use Rattle.sb_model.specs.declared.faces.face.Side.{Side}
use Rattle.sb_model.specs.declared.faces.face.Side.TheVariants.{OnLine, Height}
use Rattle.sb_model.specs.declared.patches.patch.Patch.{Patch}
use Rattle.sb_model.specs.declared.walk.End.{End}
use Rattle.sb_model.specs.declared.walk.End.TheVariants as end
use Rattle.sb_model.specs.declared.walk.Item.{Item}
use Rattle.sb_fraction.specs.Spots.{spot}
use Rattle.sb_model.specs.Surfaces.Sides.{is_patch}
use Rattle.sb_model.specs.Building.{Building}
use Rattle.sb_model.specs.Surfaces.Faces.{bottom_of}
use Rattle.theory_numbers.specs.Fractions.{whole}
use Rattle.sb_model.specs.Walks.{item}
use Rattle.sb_model.specs.Surfaces.Patches.{region_of}
use Rattle.sb_model.specs.Boundaries.Covers.{Covers}
use Rattle.sb_model.specs.Boundaries.Trimmed.{AreTopsTrimmed}
use Rattle.sb_model.specs.Boundaries.Mirrors.{Mirrors}
use Rattle.sb_model.specs.Boundaries.Nested.{IsInParent}
use Rattle.theory_models.proofs.ExampleModels.{block, box_room, box}

one_is_positive : pos 0 <ℤ pos 1
one_is_positive = omega (arith, ints)

along_x_is_direction : IsTrue (is_direction (pos 1) (pos 0))
unfolding greatest_divisor divisor_within
along_x_is_direction = refl

-- the line y = off
abbrev level_line : ℕ → Side
level_line off =
    OnLine (record {
      dir = record { x = pos 1; y = pos 0; is_direction = along_x_is_direction };
      off = pos off;
    })

abbrev height : ℕ → Side
height z = Height (pos z)

-- a patch of a face of space #20 between two whole abscissae
abbrev patch_of : (k : FaceKind) (low high : ℕ) (lower upper : Side)
    → IsTrue (is_patch k (whole (pos low)) (whole (pos high)) lower upper) → Patch
patch_of k low high lower upper good = record {
  face = record { space = 20; kind = k };
  low = whole (pos low);
  high = whole (pos high);
  lower = lower;
  upper = upper;
  is_patch = good;
}

-- a top-level boundary without items
abbrev bare : Patch → End → Boundary
bare patch found = record {
  patch = patch;
  walk = record { items = []; depth = pos 0; end = found };
  pair = None;
  parent = None;
  key = None;
}

level_is_patch : (k : ℕ) → IsTrue (is_patch kind.Bottom (whole (pos 0)) (whole (pos 4000))
    (level_line 0) (level_line 3000))
unfolding greatest_divisor divisor_within cross dot clearance
level_is_patch k = refl

long_side_is_patch : (k : ℕ) → IsTrue (is_patch (kind.Side k) (whole (pos 0)) (whole (pos 4000))
    (height 0) (height 2500))
unfolding greatest_divisor divisor_within cross dot clearance
long_side_is_patch k = refl

short_side_is_patch : (k : ℕ) → IsTrue (is_patch (kind.Side k) (whole (pos 0)) (whole (pos 3000))
    (height 0) (height 2500))
unfolding greatest_divisor divisor_within cross dot clearance
short_side_is_patch k = refl

top_is_patch : IsTrue (is_patch kind.Top (whole (pos 0)) (whole (pos 4000)) (level_line 0)
    (level_line 3000))
unfolding greatest_divisor divisor_within cross dot clearance
top_is_patch = refl

abbrev bottom : Boundary
bottom = bare (patch_of kind.Bottom 0 4000 (level_line 0) (level_line 3000) (level_is_patch 0))
    end.Earth

abbrev top : Boundary
top = bare (patch_of kind.Top 0 4000 (level_line 0) (level_line 3000) top_is_patch) end.Outside

abbrev long_side : ℕ → Boundary
long_side k = bare (patch_of (kind.Side k) 0 4000 (height 0) (height 2500) (long_side_is_patch k))
    end.Outside

abbrev short_side : ℕ → Boundary
short_side k = bare (patch_of (kind.Side k) 0 3000 (height 0) (height 2500)
    (short_side_is_patch k)) end.Outside

-- the five boundaries of the row 'box' but Bottom
abbrev all_but_bottom : List Boundary
all_but_bottom = top ∷ long_side 0 ∷ short_side 1 ∷ long_side 2 ∷ short_side 3 ∷ []

-- Bottom left out: its plain point (1000, 1000, 0) lies in no patch
one_too_few : Covers box all_but_bottom → ⊥
unfolding cross dot
one_too_few c =
    (c.faces (box_room 20 0 4000 0 3000 2500 refl) (inl refl) kind.Bottom
    (bottom_of (block 0 4000 0 3000 2500)) refl).once
    (spot (pos 1000) (pos 1000) (pos 0) (pos 1)) one_is_positive refl

-- Bottom twice: the same point lies in two
one_twice : Covers box (bottom ∷ bottom ∷ all_but_bottom) → ⊥
unfolding cross dot
one_twice c =
    true≢false
    ((c.faces (box_room 20 0 4000 0 3000 2500 refl) (inl refl) kind.Bottom
    (bottom_of (block 0 4000 0 3000 2500)) refl).once
    (spot (pos 1000) (pos 1000) (pos 0) (pos 1)) one_is_positive refl)

left_is_patch : IsTrue (is_patch kind.Bottom (whole (pos 0)) (whole (pos 2000)) (level_line 0)
    (level_line 3000))
unfolding greatest_divisor divisor_within cross dot clearance
left_is_patch = refl

right_is_patch : IsTrue (is_patch kind.Bottom (whole (pos 2000)) (whole (pos 4000)) (level_line 0)
    (level_line 3000))
unfolding greatest_divisor divisor_within cross dot clearance
right_is_patch = refl

abbrev left_half : Boundary
left_half = bare (patch_of kind.Bottom 0 2000 (level_line 0) (level_line 3000) left_is_patch)
    end.Earth

abbrev right_half : Boundary
right_half = bare (patch_of kind.Bottom 2000 4000 (level_line 0) (level_line 3000) right_is_patch)
    end.Earth

-- the halves of Bottom on both sides of x = 2000 share a whole side
halves : AreTopsTrimmed box (left_half ∷ right_half ∷ []) → ⊥
unfolding cross dot clearance
halves t = true≢false (t.0.0 refl refl refl refl).first_before

-- plaster, brick and gypsum, as seen from space #20
abbrev items_outwards : List Item
items_outwards = item 30 1 (whole (pos 12500)) ∷ item 30 2 (whole (pos 75000))
    ∷ item 30 3 (whole (pos 12500)) ∷ []

abbrev first_layer : List Item → ℕ
first_layer [] = 0
first_layer (i ∷ is) = i.layer

-- the boundary with these items
abbrev with_items : Boundary → List Item → Boundary
with_items b items = record b {
  walk = record
      { items = items; depth = pos 100; end = end.Space 21 };
}

-- with its items in the same order a boundary mirrors none: gypsum comes first from the other room
same_order : (m : Building) (list : List Boundary) (b c : Boundary)
    → Mirrors m list (with_items b items_outwards) (with_items c items_outwards) → ⊥
same_order m list b c r = false≢true (ap (λ items. nat_eq (first_layer items) 3) r.items)

child_is_patch : IsTrue (is_patch kind.Bottom (whole (pos 1000)) (whole (pos 3000)) (level_line 0)
    (level_line 3000))
unfolding greatest_divisor divisor_within cross dot clearance
child_is_patch = refl

-- a child over x from 1000 to 3000 of the left half, which ends at 2000
abbrev outside : Boundary
outside =
    record (bare (patch_of kind.Bottom 1000 3000 (level_line 0) (level_line 3000) child_is_patch)
    end.Earth) {
      parent = Some 1;
      key = Some 40;
    }

some_equal : {X : Type 0} {x y : X} → Some x ≡ Some y → x ≡ y
some_equal e = cc

-- its point (2500, 1500) is not in the parent
child_outside : IsInParent (left_half ∷ outside ∷ []) outside 1 → ⊥
unfolding cross dot
child_outside n =
    let q = face_point (pos 2500) (pos 1500) (pos 1) in
    let p : left_half ≡ n.parent = some_equal n.parent_is in
    false≢true (subst (λ b. IsTrue (is_inside (region_of b.patch) q)) (sym p)
    (n.inside q one_is_positive refl))
