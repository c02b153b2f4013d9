-- The models of the worked rows.

use Rattle.std.proofs.Common.{ℕ, pos, List, [], ◌∷◌, IsTrue, refl}
use Rattle.theory_numbers.specs.Arrows.{cross, dot}
use Rattle.theory_plans.specs.Rectangles.{corner, rectangle}
use Rattle.sb_fraction.specs.declared.point.Point.{Point}
use Rattle.sb_fraction.specs.declared.unit.Unit.TheVariants as unit
use Rattle.sb_model.specs.declared.layers.Layer.{Layer}
use Rattle.sb_model.specs.declared.layers.Layering.{Layering}
use Rattle.sb_model.specs.declared.layers.Layering.TheVariants.{Plain, Layered}
use Rattle.sb_model.specs.declared.products.Space.{Space}
use Rattle.sb_model.specs.declared.products.Element.{Element}
use Rattle.sb_fraction.specs.Spots.{vector}
use Rattle.sb_model.specs.Solids.{Upright, upright, is_upright}
use Rattle.sb_model.specs.Building.{Building, building}
use Rattle.theory_models.proofs.BoxesAreSolid.{is_box, box_is_solid}

-- the plan point (x, y)
abbrev pub plan_point : ℕ → ℕ → Point
plan_point x y = corner (pos x) (pos y)

-- the prism over one loop, from one height up to another
abbrev pub slab : List Point → ℕ → ℕ → Upright
slab points low high = upright (points ∷ []) (pos low) (pos high)

-- the box over the rectangle [x0, x1] × [y0, y1], from 0 up to h
abbrev pub block : ℕ → ℕ → ℕ → ℕ → ℕ → Upright
block x0 x1 y0 y1 h = slab (rectangle (pos x0) (pos x1) (pos y0) (pos y1)) 0 h

-- a space with this solid prism, not turned
abbrev pub room : ℕ → (prism : Upright) → IsTrue (is_upright prism) → Space
room number prism solid = record {
  number = number;
  global_id = [];
  prism = prism;
  frame = record {
    turn = record { x = vector (pos 1) (pos 0) (pos 0); z = vector (pos 0) (pos 0) (pos 1) };
    shift = pos 0 ∷ pos 0 ∷ pos 0 ∷ [];
  };
  is_solid = solid;
}

-- a box as a space
abbrev pub box_room : ℕ → (x0 x1 y0 y1 h : ℕ) → IsTrue (is_box (block x0 x1 y0 y1 h)) → Space
box_room number x0 x1 y0 y1 h box =
    room number (block x0 x1 y0 y1 h) (box_is_solid (block x0 x1 y0 y1 h) box)

-- an element with this solid prism
abbrev pub element : ℕ → (prism : Upright) → IsTrue (is_upright prism) → Layering → Element
element number prism solid layering = record {
  number = number;
  prism = prism;
  layering = layering;
  is_solid = solid;
}

-- a box as an element
abbrev pub box_element : ℕ → (x0 x1 y0 y1 h : ℕ) → IsTrue (is_box (block x0 x1 y0 y1 h))
    → Layering → Element
box_element number x0 x1 y0 y1 h box layering =
    element number (block x0 x1 y0 y1 h) (box_is_solid (block x0 x1 y0 y1 h) box) layering

-- a layer without a name
abbrev pub layer : ℕ → ℕ → Layer
layer index micro = record { index = index; material = []; micro = micro }

-- ground 0, reach 1,000
abbrev pub model : List Space → List Element → Building
model spaces elements = building unit.Millimetre (pos 0) 1000 spaces elements [] []

-- box
abbrev pub box : Building
box = model (box_room 20 0 4000 0 3000 2500 refl ∷ []) []

-- layered wall between rooms: plaster 12.5 mm, brick 75 mm and gypsum 12.5 mm along x
abbrev pub layers_of_wall : List Layer
layers_of_wall = layer 1 12500 ∷ layer 2 75000 ∷ layer 3 12500 ∷ []

-- the wall
abbrev pub layered_wall : Element
layered_wall =
    box_element 30 4000 4100 0 3000 2500 refl
    (Layered layers_of_wall (record { x = pos 1; y = pos 0; z = pos 0 }))

-- between its two rooms
abbrev pub layered_wall_between_rooms : Building
layered_wall_between_rooms =
    model
    (box_room 20 0 4000 0 3000 2500 refl ∷ box_room 21 4100 8100 0 3000 2500 refl ∷ [])
    (layered_wall ∷ [])

-- wall opposite a T-joint
abbrev pub wall_opposite_a_t_joint : Building
wall_opposite_a_t_joint =
    model
    (box_room 20 0 8000 0 3000 2500 refl ∷ box_room 21 0 3950 3200 6200 2500 refl
    ∷ box_room 22 4050 8000 3200 6200 2500 refl ∷ [])
    (box_element 30 0 8000 3000 3200 2500 refl Plain
    ∷ box_element 31 3950 4050 3200 6200 2500 refl Plain ∷ [])

-- one of two triangles that cross
abbrev pub lower_triangle : Upright
lower_triangle = slab (plan_point 0 0 ∷ plan_point 5 10 ∷ plan_point 0 10 ∷ []) 10 11

-- the other of the two
abbrev pub upper_triangle : Upright
upper_triangle = slab (plan_point 0 10 ∷ plan_point 10 0 ∷ plan_point 10 10 ∷ []) 10 11

-- the lower triangle is a solid
pub lower_is_solid : IsTrue (is_upright lower_triangle)
unfolding cross dot
lower_is_solid = refl

-- and so is the upper one
pub upper_is_solid : IsTrue (is_upright upper_triangle)
unfolding cross dot
upper_is_solid = refl

-- crossing slabs
abbrev pub crossing_slabs : Building
crossing_slabs =
    model
    (box_room 20 0 10 0 10 10 refl ∷ [])
    (element 30 lower_triangle lower_is_solid Plain
    ∷ element 31 upper_triangle upper_is_solid Plain ∷ [])

-- a triangle with a slanted side
abbrev pub triangle : Upright
triangle = slab (plan_point 0 0 ∷ plan_point 1000 0 ∷ plan_point 0 1000 ∷ []) 0 2500

-- a wall along it
abbrev pub slanted_wall : Upright
slanted_wall =
    slab (plan_point 0 1000 ∷ plan_point 1000 0 ∷ plan_point 1100 100 ∷ plan_point 100 1100 ∷ [])
    0 2500

-- the triangle is a solid
pub triangle_is_solid : IsTrue (is_upright triangle)
unfolding cross dot
triangle_is_solid = refl

-- and so is the wall
pub slanted_wall_is_solid : IsTrue (is_upright slanted_wall)
unfolding cross dot
slanted_wall_is_solid = refl

-- slanted sides, the first of its two models
abbrev pub slanted_sides : Building
slanted_sides =
    model (room 20 triangle triangle_is_solid ∷ [])
    (element 30 slanted_wall slanted_wall_is_solid Plain ∷ [])

-- half-covered layer: wall #30 lies over half of the one layer of wall #31
abbrev pub half_covered_layer : Building
half_covered_layer =
    model
    (box_room 20 0 4000 0 3000 2500 refl ∷ [])
    (box_element 30 0 4000 3000 3100 2500 refl Plain
    ∷ box_element 31 0 4000 3050 3150 2500 refl
    (Layered (layer 1 80000 ∷ []) (record { x = pos 0; y = pos 1; z = pos 0 })) ∷ [])
