-- Worked cases that the definitions accept, and wrong ones that they refuse.
use Rattle.std.proofs.Common.{◌≡◌, ℕ, true, false, Some, None, Ok, refl, [], ◌∷◌, arith, lit≤}
use Rattle.sb_shelf.specs.declared.shelf.Out.{Out}
use Rattle.sb_shelf.specs.declared.shelf.Out.TheVariants.{Ifc, Idf, Report, Said}
use Rattle.sb_shelf.specs.declared.steady.SteadyShelf.{SteadyShelf}
use Rattle.sb_shelf.specs.World.{Rose, last_count, faults_of, also_asked}
use Rattle.sb_shelf.specs.Places.{may_be}
use Rattle.sb_shelf.specs.declared.places.Place.TheVariants.{Regular, Other, Unknown}
use Rattle.sb_shelf.specs.Steady.{steady_state}
use Rattle.sb_shelf.specs.WholeTexts.{AppendsFirstOf}
use Rattle.sb_shelf.specs.Counting.{is_among, taken_by}

-- a fourth fault after three raises the count
a_fourth_fault_raises : Rose 3 4
a_fourth_fault_raises = lit≤ tt

-- a count that stays has not risen
three_are_three : Rose 3 3 → ⊥
three_are_three risen = omega (arith, risen)

-- but at its last value it counts as risen
the_last_count_counts : Rose last_count last_count
the_last_count_counts = lit≤ tt

-- so no count of a shelf that never fails has risen
no_steady_read_fault : (s t : SteadyShelf)
    → Rose (steady_state s).read_faults (steady_state t).read_faults → ⊥
no_steady_read_fault s t risen = omega (arith, risen)

no_steady_write_fault : (out : Out) (s t : SteadyShelf)
    → Rose (faults_of out (steady_state s)) (faults_of out (steady_state t)) → ⊥
no_steady_write_fault Ifc s t risen = omega (arith, risen)
no_steady_write_fault Idf s t risen = omega (arith, risen)
no_steady_write_fault Report s t risen = omega (arith, risen)
no_steady_write_fault Said s t risen = omega (arith, risen)

-- the fifth call is listed, and the fourth is not
the_fifth_fails : is_among (2 ∷ 5 ∷ []) 5 ≡ true
the_fifth_fails = refl

the_fourth_does_not : is_among (2 ∷ 5 ∷ []) 4 ≡ false
the_fourth_does_not = refl

-- 1, 2, 3 is 1, 2 and a first part of 3, 4
three_is_first : AppendsFirstOf (3 ∷ 4 ∷ []) (1 ∷ 2 ∷ []) (1 ∷ 2 ∷ 3 ∷ [])
three_is_first = refl

-- 1, 2, 4 is not, nor is 1, where a byte is lost
four_is_not_first : AppendsFirstOf (3 ∷ 4 ∷ []) (1 ∷ 2 ∷ []) (1 ∷ 2 ∷ 4 ∷ []) → ⊥
four_is_not_first appended = cc

none_is_lost : AppendsFirstOf (3 ∷ 4 ∷ []) (1 ∷ 2 ∷ []) (1 ∷ []) → ⊥
none_is_lost appended = cc

-- a second path is told behind the first, and a shelf that does not tell them goes on not to
the_second_is_last : also_asked {T = ℕ} (Some (1 ∷ [])) (2 ∷ []) ≡ Some (1 ∷ 2 ∷ [])
the_second_is_last = refl

the_second_is_not_told : also_asked {T = ℕ} None (2 ∷ []) ≡ None
the_second_is_not_told = refl

-- one number on two devices is two files
two_devices_are_two : may_be (Regular 1 7) (Regular 2 7) ≡ false
two_devices_are_two = refl

-- one device and number is one file
one_number_is_one : may_be (Regular 1 7) (Regular 1 7) ≡ true
one_number_is_one = refl

-- what is unknown may be any file, but no device
unknown_may_be_any : may_be Unknown (Regular 1 7) ≡ true
unknown_may_be_any = refl

unknown_is_no_device : may_be Unknown Other ≡ false
unknown_is_no_device = refl

-- of two bytes the system took one, or none, which is no answer
one_was_taken : taken_by {E = ℕ} (3 ∷ 4 ∷ []) (Ok 1) ≡ Some 1
one_was_taken = refl

none_is_a_fault : taken_by {E = ℕ} (3 ∷ 4 ∷ []) (Ok 0) ≡ None
none_is_a_fault = refl

none_of_none_is_none : taken_by {E = ℕ} [] (Ok 0) ≡ Some 0
none_of_none_is_none = refl
