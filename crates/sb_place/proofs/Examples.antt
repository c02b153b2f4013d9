-- Worked directions, positions and chains that the definitions accept, and wrong ones that they refuse.
use Rattle.std.proofs.Common.{◌≡◌, ℕ, pos, true, false, List, [], ◌∷◌, Some, None, codes, refl}
use Rattle.std.specs.Prelude.{neg_ℤ}
use Rattle.sb_fixed.specs.Decimals.{decimal_of}
use Rattle.sb_fixed.specs.Rounding.{rounded}
use Rattle.sb_fraction.specs.Spots.{vector}
use Rattle.sb_fraction.specs.Directions.{axis_y, axis_z}
use Rattle.sb_place.specs.declared.sight.Seen.{Seen}
use Rattle.sb_place.specs.declared.sight.Seen.TheVariants as seen
use Rattle.sb_place.specs.declared.position.Position.{Position}
use Rattle.sb_place.specs.Directions.{axis_near}
use Rattle.sb_place.specs.Positions as position
use Rattle.sb_place.specs.Chains.{Stops, numbers_in, broken_of, within}

-- ---- directions, in units of 10^-12

-- a millionth beside the greatest, and a unit more
millionth_snaps : axis_near (vector (pos 1000000) (pos 1000000000000) (pos 0)) ≡ Some axis_y
millionth_snaps = refl

more_does_not : axis_near (vector (pos 1000001) (pos 1000000000000) (pos 0)) ≡ None
more_does_not = refl

-- the sign stays
backwards : axis_near (vector (pos 0) (pos 0) (neg_ℤ (pos 5))) ≡ Some (vector (pos 0) (pos 0) (neg_ℤ (pos 1)))
backwards = refl

no_length : axis_near (vector (pos 0) (pos 0) (pos 0)) ≡ None
no_length = refl

two_alike : axis_near (vector (pos 7) (pos 7) (pos 0)) ≡ None
two_alike = refl

-- ---- positions

abbrev along_y : Seen (List (List ℕ))
along_y = seen.Shown (codes "0" ∷ codes "1" ∷ [])

abbrev slanted : Seen (List (List ℕ))
slanted = seen.Shown (codes "1" ∷ codes "1" ∷ [])

abbrev at_origin : Seen Position
at_origin = seen.Shown (record { location = seen.Shown (codes "0" ∷ codes "0" ∷ []); axis = None; reference = None })

-- nothing is turned where both directions are left out
left_out : position.turn_in at_origin ≡ position.unturned
left_out = refl

-- an axis along the default of the other direction is turned, also where that one is left out
abbrev axis_along_x : Seen Position
axis_along_x =
    seen.Shown (record {
      location = seen.Shown (codes "0" ∷ codes "0" ∷ []);
      axis = Some (seen.Shown (codes "1" ∷ codes "0" ∷ []));
      reference = None;
    })

along_x_is_turned : position.is_turned axis_along_x ≡ true
unfolding decimal_of rounded
along_x_is_turned = refl

-- where one direction is of another entity, the other is judged alone, and the two are not compared
abbrev with_other : Seen (List (List ℕ)) → Seen Position
with_other reference =
    seen.Shown (record {
      location = seen.Shown (codes "0" ∷ codes "0" ∷ []);
      axis = Some seen.Other;
      reference = Some reference;
    })

other_is_stray : position.is_stray (with_other along_y) ≡ true
other_is_stray = refl

other_alone : position.is_turned (with_other along_y) ≡ false
unfolding decimal_of rounded
other_alone = refl

slanted_beside_other : position.is_turned (with_other slanted) ≡ true
unfolding decimal_of rounded
slanted_beside_other = refl

-- ---- chains

-- at `$` a chain has reached its end where no building has a placement, and not where one has
home : Stops None 64 None true
home = refl

past_the_building : Stops (Some 5) 64 None false
past_the_building = refl

not_past_it : Stops (Some 5) 64 None true → ⊥
not_past_it e = absurd (cc e)

-- beyond what is read it has not
too_long : Stops (Some 5) 0 (Some 6) false
too_long = (refl, λ _. refl)

not_before : Stops (Some 5) 1 (Some 6) false → ⊥
not_before stops = absurd (let none : 1 ≡ 0 = stops.1 refl in cc none)

-- every number is named, from the lowest placement upwards
all_named : numbers_in broken_of (seen.Shown (seen.Broken 7) ∷ seen.Broken 9 ∷ []) ≡ 7 ∷ 9 ∷ []
all_named = refl

-- the inner frame comes first: 1 m along its own x, which the outer one turns to y and shifts by 2 m
inner_first :
    (within (record { turn = position.unturned; shift = pos 1 ∷ pos 0 ∷ pos 0 ∷ [] })
    (record { turn = record { x = axis_y; z = axis_z }; shift = pos 2 ∷ pos 0 ∷ pos 0 ∷ [] })).shift
    ≡ pos 2 ∷ pos 1 ∷ pos 0 ∷ []
inner_first = refl
