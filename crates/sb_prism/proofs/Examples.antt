-- Worked coordinates, curves and solids that the definitions accept, and wrong ones that they refuse.
use Rattle.std.proofs.Common.{◌≡◌, pos, true, false, [], ◌∷◌, Some, None, codes, refl}
use Rattle.std.specs.Prelude.{neg_ℤ}
use Rattle.sb_fraction.specs.declared.unit.Unit.TheVariants as unit
use Rattle.sb_fraction.specs.Spots.{vector}
use Rattle.sb_fixed.specs.Decimals.{decimal_of}
use Rattle.sb_fixed.specs.Rounding.{rounded}
use Rattle.theory_plans.specs.Rectangles.{corner}
use Rattle.sb_place.specs.declared.sight.Seen.{Seen}
use Rattle.sb_place.specs.declared.sight.Seen.TheVariants as seen
use Rattle.sb_solid.specs.Grid.{is_near, is_in_world, nearest_millimetre}
use Rattle.sb_prism.specs.Shapes.{Curve, is_named_body}
use Rattle.sb_prism.specs.Shapes.Curve.{indexed}
use Rattle.sb_prism.specs.Faults.{is_index, is_segment, is_no_curve, is_above, is_along_z}
use Rattle.sb_prism.specs.Outlines.{points_of, half_of}
use Rattle.sb_prism.specs.Moved.{depth_on}
use Rattle.sb_solid.specs.Solids.{rectangle_in, box_along_x, standing}

-- ---- the grid

-- 10 µm exactly and 1 nm more, on both sides of a millimetre and of 0
near : is_near (pos 3010000) ≡ true
near = refl

not_near : is_near (pos 3010001) ≡ false
not_near = refl

near_below : is_near (neg_ℤ (pos 2990000)) ≡ true
near_below = refl

not_near_below : is_near (neg_ℤ (pos 2989999)) ≡ false
not_near_below = refl

near_nothing : nearest_millimetre (neg_ℤ (pos 10000)) ≡ pos 0
near_nothing = refl

-- 500 m and 10 µm, and one more
in_world : is_in_world (neg_ℤ (pos 500000010000)) ≡ true
in_world = refl

not_in_world : is_in_world (pos 500000010001) ≡ false
not_in_world = refl

-- ---- curves

body : is_named_body (Some (codes "Body")) ≡ true
body = refl

no_body : is_named_body (Some (codes "body")) ≡ false
no_body = refl

last_index : is_index 4 (codes "4") ≡ true
last_index = refl

past_the_end : is_index 4 (codes "5") ≡ false
past_the_end = refl

no_index : is_index 4 (codes "0") ≡ false
no_index = refl

below_no_index : is_index 4 (codes "-1") ≡ false
below_no_index = refl

an_arc : is_segment 4 (record { keyword = codes "IFCARCINDEX"; list = codes "1" ∷ codes "2" ∷ codes "3" ∷ [] }) ≡ false
an_arc = refl

-- the indices joined name the points; those that none names are none
abbrev three : Seen Curve
three =
    seen.Shown (indexed
    (seen.Shown ((codes "0." ∷ codes "0." ∷ []) ∷ (codes "7." ∷ codes "7." ∷ []) ∷ (codes "3." ∷ codes "0." ∷ []) ∷ []))
    (Some (record { keyword = codes "IFCLINEINDEX"; list = codes "3" ∷ codes "1" ∷ [] } ∷ [])))

two_points : points_of three ≡ (codes "3." ∷ codes "0." ∷ []) ∷ (codes "0." ∷ codes "0." ∷ []) ∷ []
two_points = refl

a_curve : is_no_curve three ≡ false
a_curve = refl

another_entity : is_no_curve seen.Other ≡ true
another_entity = refl

-- ---- solids

-- a depth of less than half a nanometre is none
no_depth : is_above unit.Millimetre (codes "0.0000004") ≡ false
unfolding decimal_of rounded
no_depth = refl

a_depth : is_above unit.Millimetre (codes "0.0000005") ≡ true
unfolding decimal_of rounded
a_depth = refl

far_below : is_above unit.Millimetre (codes "-1.E+99") ≡ false
unfolding decimal_of rounded
far_below = refl

far_above : is_above unit.Millimetre (codes "1.E+99") ≡ true
unfolding decimal_of rounded
far_above = refl

downward : is_along_z (Some (vector (pos 0) (pos 0) (neg_ℤ (pos 1)))) ≡ true
downward = refl

to_the_side : is_along_z (Some (vector (pos 0) (pos 1) (pos 0))) ≡ false
to_the_side = refl

-- half of an odd number of nanometres is rounded away from 0
half : half_of (pos 3) ≡ pos 2
half = refl

-- ---- prisms

-- a level rectangle, read in either sense
level : rectangle_in (corner (pos 0) (pos 0) ∷ corner (pos 4) (pos 0) ∷ corner (pos 4) (pos 3) ∷ corner (pos 0) (pos 3) ∷ [])
    ≡ Some (corner (pos 0) (pos 0), corner (pos 4) (pos 3))
level = refl

turned_round : rectangle_in (corner (pos 0) (pos 0) ∷ corner (pos 0) (pos 3) ∷ corner (pos 4) (pos 3) ∷ corner (pos 4) (pos 0) ∷ [])
    ≡ Some (corner (pos 0) (pos 0), corner (pos 4) (pos 3))
turned_round = refl

not_level : rectangle_in (corner (pos 0) (pos 0) ∷ corner (pos 4) (pos 1) ∷ corner (pos 4) (pos 4) ∷ corner (pos 0) (pos 3) ∷ []) ≡ None
not_level = refl

no_width : box_along_x (Some (corner (pos 0) (pos 0), corner (pos 4) (pos 3))) (pos 5) (pos 5) ≡ None
no_width = refl

no_loops : standing [] (pos 0) (pos 3) ≡ None
no_loops = refl

no_height : standing ((corner (pos 0) (pos 0) ∷ corner (pos 4) (pos 0) ∷ corner (pos 4) (pos 3) ∷ []) ∷ []) (pos 3) (pos 3) ≡ None
no_height = refl

-- ---- how far along an axis

upright_way : depth_on (vector (pos 0) (pos 0) (neg_ℤ (pos 1))) (vector (pos 1) (pos 2) (pos 3)) ≡ pos 3
upright_way = refl

way_along_x : depth_on (vector (pos 1) (pos 0) (pos 0)) (vector (pos 1) (pos 2) (pos 3)) ≡ pos 1
way_along_x = refl

way_along_y : depth_on (vector (pos 0) (pos 1) (pos 0)) (vector (pos 1) (pos 2) (pos 3)) ≡ pos 2
way_along_y = refl
