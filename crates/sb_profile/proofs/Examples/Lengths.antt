-- Units of files, and files that have none that is read.
use Rattle.std.proofs.Common.{◌≡◌, ℕ, List, [], ◌∷◌, Option, Some, None, refl, ap}
use Rattle.std.specs.Prelude.{codes, option_map, option_and_then, filter, filter_map}
use Rattle.sb_fraction.specs.declared.unit.Unit.TheVariants as units
use Rattle.sb_step.specs.declared.parameters.param.Param.{Param}
use Rattle.sb_step.specs.declared.parameters.param.Param.TheVariants as param
use Rattle.sb_step.specs.declared.parameters.param.Param.TheViews.{outs-List, outs-Null}
use Rattle.sb_step.specs.Cursors.Forms.{reference_in}
use Rattle.sb_schema.specs.Forms.{items_of}
use Rattle.sb_profile.specs.Contents.{Contents}
use Rattle.sb_profile.specs.Units.{assignment, is_length_unit, only_one, unit_of, unit_in}
use Rattle.sb_profile.proofs.Examples.Files.{file_of, no_tables}

-- what a file with these instances has as its unit
abbrev SI : Option (List ℕ)
SI = Some (codes "IFCSIUNIT")

abbrev the : List ℕ → Param
the letters = param.Enumeration letters

-- #5 is the assignment. #6 is the metre and #7 the millimetre, #8 the square metre, #9 the centimetre,
-- #10 a foot, #11 a unit of a conversion; #12 is the metre with a fifth attribute.
abbrev units_of : List Param → Contents
units_of listed = file_of (record no_tables {
  keywords =
      (5, Some (codes "IFCUNITASSIGNMENT")) ∷ (6, SI) ∷ (7, SI) ∷ (8, SI) ∷ (9, SI) ∷ (10, SI)
      ∷ (11, Some (codes "IFCCONVERSIONBASEDUNIT")) ∷ (12, SI) ∷ [];
  parameters =
      (5, param.List listed ∷ [])
      ∷ (6, param.Derived ∷ the (codes "LENGTHUNIT") ∷ param.Null ∷ the (codes "METRE") ∷ [])
      ∷ (7, param.Derived ∷ the (codes "LENGTHUNIT") ∷ the (codes "MILLI") ∷ the (codes "METRE") ∷ [])
      ∷ (8, param.Derived ∷ the (codes "AREAUNIT") ∷ param.Null ∷ the (codes "SQUARE_METRE") ∷ [])
      ∷ (9, param.Derived ∷ the (codes "LENGTHUNIT") ∷ the (codes "CENTI") ∷ the (codes "METRE") ∷ [])
      ∷ (10, param.Derived ∷ the (codes "LENGTHUNIT") ∷ param.Null ∷ the (codes "FOOT") ∷ [])
      ∷ (11, param.Derived ∷ the (codes "LENGTHUNIT") ∷ param.Null ∷ the (codes "METRE") ∷ [])
      ∷ (12, param.Derived ∷ the (codes "LENGTHUNIT") ∷ param.Null ∷ the (codes "METRE") ∷ param.Null ∷ [])
      ∷ [];
})

-- the unit of a file whose assignment lists these
unit_is : (listed : List Param)
    → unit_in (units_of listed)
    ≡ option_and_then (λ n. unit_of ((units_of listed).parameters n))
    (only_one (filter (is_length_unit (units_of listed)) (filter_map (λ p. reference_in (Some p)) listed)))
unit_is listed =
    ap (λ items. option_and_then (λ n. unit_of ((units_of listed).parameters n))
    (option_and_then (λ members. only_one (filter (is_length_unit (units_of listed)) members))
    (option_map (filter_map (λ p. reference_in (Some p))) items)))
    (ap items_of (outs-List listed))

abbrev r : ℕ → Param
r n = param.Reference n

a_metre : unit_in (units_of (r 6 ∷ [])) ≡ Some units.Metre
a_metre = unit_is (r 6 ∷ [])

a_millimetre : unit_in (units_of (r 7 ∷ [])) ≡ Some units.Millimetre
a_millimetre = unit_is (r 7 ∷ [])

-- units of other types and keywords, absent ones and what is no reference are passed over, and so is
-- an IFCSIUNIT of five attributes
among_others : unit_in (units_of (r 8 ∷ param.Null ∷ r 11 ∷ r 12 ∷ r 99 ∷ r 7 ∷ [])) ≡ Some units.Millimetre
among_others = unit_is (r 8 ∷ param.Null ∷ r 11 ∷ r 12 ∷ r 99 ∷ r 7 ∷ [])

none_listed : unit_in (units_of []) ≡ None
none_listed = unit_is []

none_of_lengths : unit_in (units_of (r 8 ∷ r 11 ∷ r 12 ∷ [])) ≡ None
none_of_lengths = unit_is (r 8 ∷ r 11 ∷ r 12 ∷ [])

two_of_lengths : unit_in (units_of (r 6 ∷ r 7 ∷ [])) ≡ None
two_of_lengths = unit_is (r 6 ∷ r 7 ∷ [])

one_listed_twice : unit_in (units_of (r 6 ∷ r 8 ∷ r 6 ∷ [])) ≡ None
one_listed_twice = unit_is (r 6 ∷ r 8 ∷ r 6 ∷ [])

a_centimetre : unit_in (units_of (r 9 ∷ [])) ≡ None
a_centimetre = unit_is (r 9 ∷ [])

a_foot : unit_in (units_of (r 10 ∷ [])) ≡ None
a_foot = unit_is (r 10 ∷ [])

-- the first attribute is no list
abbrev nothing_listed : Contents
nothing_listed = file_of (record no_tables {
  keywords = (5, Some (codes "IFCUNITASSIGNMENT")) ∷ [];
  parameters = (5, param.Null ∷ []) ∷ [];
})

no_list : unit_in nothing_listed ≡ None
no_list =
    ap (λ items. option_and_then (λ n. unit_of (nothing_listed.parameters n))
    (option_and_then (λ members. only_one (filter (is_length_unit nothing_listed) members))
    (option_map (filter_map (λ p. reference_in (Some p))) items)))
    (ap items_of outs-Null)

no_assignment : unit_in (file_of no_tables) ≡ None
no_assignment = refl

-- two assignments are none, whatever they list
two_assignments : assignment (file_of (record no_tables {
  keywords = (5, Some (codes "IFCUNITASSIGNMENT")) ∷ (4, Some (codes "IFCUNITASSIGNMENT")) ∷ [];
})) ≡ None
two_assignments = refl
