-- Worked layerings that the definitions give, and materials that they refuse.
use Rattle.std.proofs.Common.{◌≡◌, refl, ℕ, nat_eq, ℤ, pos, negsuc, true, false, List, [], ◌∷◌, Option, Some, None}
use Rattle.std.specs.Prelude.{codes}
use Rattle.std.specs.Map.{lookup}
use Rattle.sb_fraction.specs.declared.unit.Unit.TheVariants as units
use Rattle.sb_fraction.specs.declared.point.Point.{Point}
use Rattle.sb_fraction.specs.Spots.{vector}
use Rattle.sb_fixed.specs.Rounding.{rounded}
use Rattle.sb_fixed.specs.Decimals.{decimal_of}
use Rattle.theory_turns.specs.Turns.{Quarter}
use Rattle.sb_schema.specs.Table.{Values}
use Rattle.sb_model.specs.declared.layers.Axis.{Axis}
use Rattle.sb_model.specs.declared.layers.Layering.TheVariants.{Plain, Single, Layered}
use Rattle.sb_model.specs.Solids.{Upright, upright}
use Rattle.sb_profile.specs.Entities.{Entity, row_of}
use Rattle.sb_profile.specs.Entities.Entity.{material, material_layer, material_layer_set, material_layer_set_usage}
use Rattle.sb_profile.specs.Contents.{Contents}
use Rattle.sb_building.specs.Layerings.{layer, layering_by, has_bad_layers}

-- ---- a file with materials

abbrev Rows : Entity → Type 0
Rows e = List (ℕ × Values (row_of e).read)

abbrev names : Rows material
names = (8, (codes "Concrete", tt)) ∷ (9, (codes "Plaster", tt)) ∷ []

-- a layer of plaster, one of concrete, one without a material, and some that just are none
abbrev layers : Rows material_layer
layers =
    (10, (Some 9, (codes "12.5", tt))) ∷ (11, (Some 8, (codes "175.", tt)))
    ∷ (12, (None, (codes "3.0004", tt))) ∷ (13, (Some 9, (codes "-0.0004", tt)))
    ∷ (14, (Some 9, (codes "-0.0005", tt))) ∷ (15, (Some 12, (codes "10000.0004", tt)))
    ∷ (16, (Some 9, (codes "10000.0005", tt))) ∷ (17, (Some 9, (codes "1.E+99", tt))) ∷ []

abbrev sets : Rows material_layer_set
sets =
    (20, (10 ∷ 11 ∷ 10 ∷ [], tt)) ∷ (21, (12 ∷ 13 ∷ 15 ∷ [], tt)) ∷ (22, (13 ∷ [], tt))
    ∷ (23, (14 ∷ [], tt)) ∷ (24, (16 ∷ [], tt)) ∷ (25, (17 ∷ [], tt)) ∷ (26, (10 ∷ 8 ∷ [], tt)) ∷ []

abbrev usages : Rows material_layer_set_usage
usages =
    (30, (20, (codes "AXIS1", (codes "POSITIVE", tt))))
    ∷ (31, (20, (codes "AXIS3", (codes "NEGATIVE", tt))))
    ∷ (32, (20, (codes "AXIS4", (codes "POSITIVE", tt))))
    ∷ (33, (22, (codes "AXIS2", (codes "POSITIV", tt))))
    ∷ (34, (11, (codes "AXIS2", (codes "POSITIVE", tt))))
    ∷ (35, (22, (codes "AXIS2", (codes "NEGATIVE", tt)))) ∷ []

abbrev given_in : (e : Entity) → ℕ → Option (Values (row_of e).read)
given_in material n = lookup (nat_eq n) names
given_in material_layer n = lookup (nat_eq n) layers
given_in material_layer_set n = lookup (nat_eq n) sets
given_in material_layer_set_usage n = lookup (nat_eq n) usages
given_in _ n = None

abbrev file : Contents
file = record {
  schema = None;
  numbers = [];
  keyword = λ n. None;
  parameters = λ n. [];
  given = given_in;
}

-- ---- a wall that is not turned

abbrev point : ℤ → ℤ → Point
point x y = record { x = x; y = y }

abbrev wall : Upright
wall =
    upright
    ((point (pos 0) (pos 0) ∷ point (pos 4000) (pos 0) ∷ point (pos 4000) (pos 200) ∷ point (pos 0) (pos 200)
    ∷ []) ∷ [])
    (pos 0) (pos 2500)

abbrev not_turned : Quarter
not_turned = record { x = vector (pos 1) (pos 0) (pos 0); z = vector (pos 0) (pos 0) (pos 1) }

abbrev axis : ℤ → ℤ → ℤ → Axis
axis x y z = record { x = x; y = y; z = z }

-- nothing, one material, and an instance that is none of the three
no_material : layering_by file units.Millimetre (Some (codes "IFCWALL")) wall not_turned None ≡ Plain
no_material = refl

one_material :
    layering_by file units.Millimetre (Some (codes "IFCWALL")) wall not_turned (Some 9)
    ≡ Single (codes "Plaster")
one_material = refl

no_such_material :
    layering_by file units.Millimetre (Some (codes "IFCWALL")) wall not_turned (Some 10) ≡ Plain
no_such_material = refl

-- a usage, forward along the local x and backward along the local z
forward :
    layering_by file units.Millimetre (Some (codes "IFCWALL")) wall not_turned (Some 30)
    ≡ Layered
    (layer 1 (codes "Plaster") 12500 ∷ layer 2 (codes "Concrete") 175000 ∷ layer 3 (codes "Plaster") 12500
    ∷ [])
    (axis (pos 1) (pos 0) (pos 0))
unfolding rounded decimal_of
forward = refl

backward :
    layering_by file units.Millimetre (Some (codes "IFCWALL")) wall not_turned (Some 31)
    ≡ Layered
    (layer 1 (codes "Plaster") 12500 ∷ layer 2 (codes "Concrete") 175000 ∷ layer 3 (codes "Plaster") 12500
    ∷ [])
    (axis (pos 0) (pos 0) (negsuc 0))
unfolding rounded decimal_of
backward = refl

-- A set by itself: across a wall, upward in a slab. A layer whose thickness rounds to 0 keeps its place.
across :
    layering_by file units.Millimetre (Some (codes "IFCWALL")) wall not_turned (Some 21)
    ≡ Layered (layer 1 [] 3000 ∷ layer 3 [] 10000000 ∷ []) (axis (pos 0) (pos 1) (pos 0))
unfolding rounded decimal_of
across = refl

upward :
    layering_by file units.Millimetre (Some (codes "IFCSLAB")) wall not_turned (Some 21)
    ≡ Layered (layer 1 [] 3000 ∷ layer 3 [] 10000000 ∷ []) (axis (pos 0) (pos 0) (pos 1))
unfolding rounded decimal_of
upward = refl

-- all layers dropped
none_left : layering_by file units.Millimetre (Some (codes "IFCWALL")) wall not_turned (Some 22) ≡ Plain
unfolding rounded decimal_of
none_left = refl

-- ---- what is not read

below_nothing : has_bad_layers file units.Millimetre (Some 23) ≡ true
unfolding rounded decimal_of
below_nothing = refl

just_nothing : has_bad_layers file units.Millimetre (Some 22) ≡ false
unfolding rounded decimal_of
just_nothing = refl

too_thick : has_bad_layers file units.Millimetre (Some 24) ≡ true
unfolding rounded decimal_of
too_thick = refl

just_not_too_thick : has_bad_layers file units.Millimetre (Some 21) ≡ false
unfolding rounded decimal_of
just_not_too_thick = refl

out_of_range : has_bad_layers file units.Millimetre (Some 25) ≡ true
unfolding rounded decimal_of
out_of_range = refl

-- in metres the same layers are a thousand times as thick
too_thick_in_metres : has_bad_layers file units.Metre (Some 20) ≡ true
unfolding rounded decimal_of
too_thick_in_metres = refl

no_layer_in_a_set : has_bad_layers file units.Millimetre (Some 26) ≡ true
unfolding rounded decimal_of
no_layer_in_a_set = refl

no_set_in_a_usage : has_bad_layers file units.Millimetre (Some 34) ≡ true
unfolding rounded decimal_of
no_set_in_a_usage = refl

no_such_axis : has_bad_layers file units.Millimetre (Some 32) ≡ true
unfolding rounded decimal_of
no_such_axis = refl

-- though all layers of the set are dropped
no_such_sense : has_bad_layers file units.Millimetre (Some 33) ≡ true
unfolding rounded decimal_of
no_such_sense = refl

its_neighbour : has_bad_layers file units.Millimetre (Some 35) ≡ false
unfolding rounded decimal_of
its_neighbour = refl

not_judged : has_bad_layers file units.Millimetre (Some 9) ≡ false
not_judged = refl
