-- First defects of files.
use Rattle.std.proofs.Common.{◌≡◌, ℕ, [], ◌∷◌, Option, Some, None, true, false, refl, sym, ap, ◌∙◌, inl, inr, arith, ◌≤◌}
use Rattle.std.specs.Prelude.{codes}
use Rattle.std.proofs.lemmas.Bool.{false≢true}
use Rattle.sb_fraction.specs.declared.unit.Unit.TheVariants as units
use Rattle.sb_profile.specs.declared.defects.Code.TheVariants as code
use Rattle.sb_profile.specs.declared.defects.Defect.{Defect}
use Rattle.sb_profile.specs.declared.following.places.Place.TheVariants as place
use Rattle.sb_schema.specs.Table.{is_one_of}
use Rattle.sb_profile.specs.Contents.{Contents}
use Rattle.sb_profile.specs.Lowest.{IsLowest}
use Rattle.sb_profile.specs.Entities.Entity.{space, local_placement}
use Rattle.sb_profile.specs.Following.IsFollowed.{chain, shape}
use Rattle.sb_profile.specs.Following.IsReadAs.{root, followed}
use Rattle.sb_profile.specs.Units.{unit_in}
use Rattle.sb_profile.specs.Defects.{is_ifc4, in_buildings, refused_classes, Occurs, file_codes}
use Rattle.sb_profile.specs.First.{defect_at, IsFirst}
use Rattle.sb_profile.proofs.Examples.Files.{Tables, file_of, no_tables}

-- ---- codes by themselves

ifc4 : is_ifc4 (Some (codes "IFC4")) ≡ true
ifc4 = refl

ifc2x3 : is_ifc4 (Some (codes "IFC2X3")) ≡ false
ifc2x3 = refl

-- a schema that only begins so
ifc4x3 : is_ifc4 (Some (codes "IFC4X3")) ≡ false
ifc4x3 = refl

no_schema : is_ifc4 None ≡ false
no_schema = refl

no_building : in_buildings [] ≡ Some 0
no_building = refl

one_building : in_buildings (5 ∷ []) ≡ None
one_building = refl

-- of several the second lowest, in whatever order they stand
the_second_lowest : in_buildings (9 ∷ 3 ∷ 7 ∷ []) ≡ Some 7
the_second_lowest = refl

the_higher_of_two : in_buildings (3 ∷ 9 ∷ []) ≡ Some 9
the_higher_of_two = refl

-- an instance that is complex has no class
abbrev classes : Contents
classes = file_of (record no_tables {
  keywords =
      (8, Some (codes "IFCCURTAINWALL")) ∷ (4, Some (codes "IFCSTAIR"))
      ∷ (6, Some (codes "IFCSLABSTANDARDCASE")) ∷ (5, None) ∷ (7, Some (codes "IFCSLAB")) ∷ [];
})

a_curtain_wall : Occurs classes code.Class 8
a_curtain_wall = (inl refl, refl)

another : Occurs classes code.Class 6
another = (inr (inr (inl refl)), refl)

a_stair_is_passed_over : Occurs classes code.Class 4 → ⊥
a_stair_is_passed_over (there, refused) = false≢true refused

a_complex_instance : Occurs classes code.Class 5 → ⊥
a_complex_instance (there, refused) = false≢true refused

a_slab_is_read : Occurs classes code.Class 7 → ⊥
a_slab_is_read (there, refused) = false≢true refused

-- The space #20 is not of its row. The space #21 is, and has no shape, but a placement; the space #22
-- has a shape that is absent, #16, and the placement #18, which is not of its row.
abbrev spaces : Contents
spaces = file_of (record no_tables {
  keywords =
      (20, Some (codes "IFCSPACE")) ∷ (21, Some (codes "IFCSPACE"))
      ∷ (22, Some (codes "IFCSPACE")) ∷ (18, Some (codes "IFCLOCALPLACEMENT")) ∷ [];
  spaces = (21, ([], (Some 17, (None, tt)))) ∷ (22, ([], (Some 18, (Some 16, tt)))) ∷ [];
})

an_unfit_space : Occurs spaces code.Fields 20
an_unfit_space = record { entity = space; read = root (inr (inl refl)) refl; none = refl }

an_unfit_placement : Occurs spaces code.Fields 18
an_unfit_placement = record {
  entity = local_placement;
  read = followed place.Placement (chain 0 18 (omega arith) (22, (refl, refl))) (inl refl) refl;
  none = refl;
}

an_absent_shape : Occurs spaces code.Missing 16
an_absent_shape =
    record { at = place.Shape; followed = shape 22 16 refl refl; absent = refl }

-- ---- the first defect

-- what has two defects has that of the earlier code
schema_before_units : IsFirst (Occurs (file_of (record no_tables { schema = None }))) file_codes
    (Some (defect_at 0 code.Schema))
schema_before_units = inl (
  0,
  (
    record {
      holds = (refl, refl);
      lowest = λ m other. omega arith;
    },
    refl,
  ),
)

-- with a schema its units are judged
units_before_buildings : IsFirst (Occurs (file_of no_tables)) file_codes
    (Some (defect_at 0 code.Units))
units_before_buildings =
    inr (
      λ n found. false≢true (sym found.1),
      inl (0, (record { holds = (refl, refl); lowest = λ m other. omega arith }, refl)),
    )

-- of a file with a schema and a unit the buildings are judged next
module _ (t : Tables) (schema : t.schema ≡ Some (codes "IFC4"))
    (unit : unit_in (file_of t) ≡ Some units.Metre) where
  -- the codes behind these two
  not_earlier : (found : Option Defect) → IsFirst (Occurs (file_of t))
      (code.Building ∷ code.Class ∷ code.Fields ∷ code.Missing ∷ []) found
      → IsFirst (Occurs (file_of t)) file_codes found
  not_earlier found first =
      inr (
        λ n is. false≢true (sym is.1 ∙ ap is_ifc4 schema),
        inr (λ n is. absurd (let none = is.1 in let some = unit in cc), first),
      )

-- of the two curtain walls and slabs that are refused the lowest is named
the_lowest_class : IsLowest (Occurs classes code.Class) 6
the_lowest_class = record { holds = another; lowest = lowest }
  where
    lowest : (m : ℕ) → Occurs classes code.Class m → 6 ≤ m
    lowest m (inl is, refused) = omega arith
    lowest m (inr (inl is), refused) =
        absurd (false≢true (ap (λ n. is_one_of refused_classes (classes.keyword n)) (sym is) ∙ refused))
    lowest m (inr (inr (inl is)), refused) = omega arith
    lowest m (inr (inr (inr (inl is))), refused) =
        absurd (false≢true (ap (λ n. is_one_of refused_classes (classes.keyword n)) (sym is) ∙ refused))
    lowest m (inr (inr (inr (inr (inl is)))), refused) = omega arith
    lowest m (inr (inr (inr (inr (inr none)))), refused) = absurd none

-- the greatest is no first defect of this code
not_the_greatest : IsLowest (Occurs classes code.Class) 8 → ⊥
not_the_greatest first = let low : 8 ≤ 6 = first.lowest 6 another in omega arith
