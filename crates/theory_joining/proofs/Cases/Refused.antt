-- Lists that are not joined, and runs that are none, each refused by the definitions.
use Rattle.std.proofs.Common.{◌≡◌, refl, inl, inr, ℕ, pos, Bool, true, false, List, [], ◌∷◌}
use Rattle.std.proofs.Common.{arith, subst, ◌≤ℤ◌}
use Rattle.std.proofs.lemmas.Int.{ints}
use Rattle.theory_numbers.specs.Arrows.{Arrow, cross, dot}
use Rattle.theory_numbers.specs.Rationals.{IsRational, IsBelow, rational}
use Rattle.theory_plane.specs.Sides.{clearance, clearance_at}
use Rattle.theory_plane.specs.Points.{FacePoint, IsFacePoint, face_point, abscissa_of}
use Rattle.theory_plane.specs.Regions.{is_inside, is_seam}
use Rattle.theory_patches.specs.Marked.{MarkedPatch}
use Rattle.theory_patches.specs.Sheets.{IsNoAbscissa, IsOffCuts, IsMarkedAt}
use Rattle.theory_patches.specs.Trimmed.{IsOver}
use Rattle.theory_joining.specs.Runs.{AreApartInside, AreRunsOver}
use Rattle.theory_joining.specs.Joined.{IsJoinedUpTo}
use Rattle.theory_joining.specs.Slabs.{SlabRuns, all_runs, join}
use Rattle.theory_joining.specs.Laws.{TellsEqual}
use Rattle.theory_joining.proofs.Cases.Examples.{number, sheet, block, three}

clash : {b : Bool} → b ≡ false → b ≡ true → ⊥
clash none both = cc

-- ---- the number 1/2 and the point (3/2, 1/2)

abbrev half : Arrow
half = rational (pos 1) (pos 2)

half_in : IsRational half
half_in = omega (arith, ints)

half_is_no_abscissa : IsNoAbscissa sheet half
unfolding cross
half_is_no_abscissa = (
  λ same. omega (arith, ints),
  (
    λ same. omega (arith, ints),
    (λ same. omega (arith, ints), (λ same. omega (arith, ints), tt)),
  ),
)

abbrev middle : FacePoint
middle = face_point (pos 3) (pos 1) (pos 2)

middle_in : IsFacePoint middle
middle_in = omega (arith, ints)

middle_is_off : IsOffCuts sheet middle
unfolding cross
middle_is_off =
    record {
      no_abscissa = (
        λ same. omega (arith, ints),
        (
          λ same. omega (arith, ints),
          (λ same. omega (arith, ints), (λ same. omega (arith, ints), tt)),
        ),
      );
      no_cut = tt;
    }

-- blocks from 0 on that touch do so at 1/2
touch_at_half : (p q : MarkedPatch ℕ) → IsOver p.region half → IsOver q.region half
    → pos 0 ≤ℤ clearance_at p.region.lower q.region.upper half
    → pos 0 ≤ℤ clearance_at q.region.lower p.region.upper half
    → AreApartInside sheet p.region q.region → ⊥
touch_at_half p q over_p over_q first second apart =
    apart half half_in half_is_no_abscissa over_p over_q first second

-- a list that is joined up to 2 has the marks of the runs at (3/2, 1/2)
abbrev IsJoinedTo : ℕ → List (SlabRuns ℕ) → List (MarkedPatch ℕ) → Type 0
IsJoinedTo end slabs ps = IsJoinedUpTo sheet (IsMarkedAt (all_runs slabs)) (number end) ps

-- ---- joined along u first

-- over the first slab the mark 7 reaches from 0 to 2, over the second from 0 to 1. What lies
-- between 0 and 1 was joined first, so that the rest of the first slab touches it
abbrev along_first : List (MarkedPatch ℕ)
along_first = block 7 0 2 0 1 ∷ block 7 0 1 1 2 ∷ block 8 1 2 1 2 ∷ []

along_first_is_refused : (slabs : List (SlabRuns ℕ)) → IsJoinedTo 2 slabs along_first → ⊥
unfolding cross dot clearance
along_first_is_refused slabs joined =
    touch_at_half (block 7 0 2 0 1) (block 7 0 1 1 2)
    (record { after = omega (arith, ints); before = omega (arith, ints) })
    (record { after = omega (arith, ints); before = omega (arith, ints) }) (omega (arith, ints))
    (omega (arith, ints)) (joined.spaced.0.0 refl).apart

-- and so are two runs of one slab that should be one
touching_runs_are_refused : (Has : FacePoint → ℕ → Type 0)
    → AreRunsOver sheet Has (number 0) (number 1) (block 7 0 1 0 1 ∷ block 7 0 1 1 2 ∷ []) → ⊥
unfolding cross dot clearance
touching_runs_are_refused Has runs =
    touch_at_half (block 7 0 1 0 1) (block 7 0 1 1 2)
    (record { after = omega (arith, ints); before = omega (arith, ints) })
    (record { after = omega (arith, ints); before = omega (arith, ints) }) (omega (arith, ints))
    (omega (arith, ints)) (runs.apart.0.0 refl)

-- and one patch twice
twice_is_refused : (slabs : List (SlabRuns ℕ))
    → IsJoinedTo 1 slabs (block 7 0 1 0 1 ∷ block 7 0 1 0 1 ∷ []) → ⊥
unfolding cross dot clearance
twice_is_refused slabs joined =
    touch_at_half (block 7 0 1 0 1) (block 7 0 1 0 1)
    (record { after = omega (arith, ints); before = omega (arith, ints) })
    (record { after = omega (arith, ints); before = omega (arith, ints) }) (omega (arith, ints))
    (omega (arith, ints)) (joined.spaced.0.0 refl).apart

-- ---- a seam that is left

abbrev seam_left : List (MarkedPatch ℕ)
seam_left = block 7 0 1 0 1 ∷ block 7 1 2 0 1 ∷ []

has_seam : is_seam (block 7 0 1 0 1).region (block 7 1 2 0 1).region ≡ true
unfolding cross dot clearance
has_seam = refl

seam_left_is_refused : (slabs : List (SlabRuns ℕ)) → IsJoinedTo 2 slabs seam_left → ⊥
seam_left_is_refused slabs joined =
    clash (joined.spaced.0.0 refl).no_seam.first_before has_seam

-- ---- marks at (3/2, 1/2)

-- the block contains it
abbrev holds_middle : MarkedPatch ℕ → Bool
holds_middle p = is_inside p.region middle

-- ---- a mark that is not compared

-- a run of the mark 8 went on with a patch of the mark 7
abbrev mark_ignored : List (MarkedPatch ℕ)
mark_ignored = block 7 0 2 0 1 ∷ []

abbrev two_marks : List (SlabRuns ℕ)
two_marks = three (block 7 0 1 0 1 ∷ []) (block 8 1 2 0 1 ∷ []) []

-- a put whose test takes all marks for one makes it
mark_ignored_is_made : join (λ a b. true) two_marks [] ≡ mark_ignored
unfolding cross
mark_ignored_is_made = refl

-- no such test tells whether marks are equal
takes_all_for_one : TellsEqual {M = ℕ} (λ a b. true) → ⊥
takes_all_for_one tells = let same = (tells 7 8).0 refl in omega arith

eight_is_not_seven : ◌≡◌ {A = ℕ} 8 7 → ⊥
eight_is_not_seven same = omega (arith, same)

-- by the runs the point has the mark 8 and not the mark 7
not_seven : IsMarkedAt (all_runs two_marks) middle 7 → ⊥
unfolding cross
not_seven (p, inl same, has_mark, inside) =
    clash refl (subst (λ q. holds_middle q ≡ true) same inside)
not_seven (p, inr (inl same), has_mark, inside) =
    eight_is_not_seven (subst (λ q. q.mark ≡ 7) same has_mark)
not_seven (p, inr (inr none), has_mark, inside) = none

marked_seven : IsMarkedAt mark_ignored middle 7
unfolding cross
marked_seven = (block 7 0 2 0 1, inl refl, refl, refl)

two_is_beyond : IsBelow (abscissa_of middle) (number 2)
unfolding cross
two_is_beyond = omega (arith, ints)

mark_ignored_is_refused : IsJoinedTo 2 two_marks mark_ignored → ⊥
mark_ignored_is_refused joined =
    not_seven ((joined.marks middle middle_in middle_is_off two_is_beyond 7).0 marked_seven)

-- ---- a run that goes on over a slab that was left out

abbrev over_the_gap : List (MarkedPatch ℕ)
over_the_gap = block 7 0 3 0 1 ∷ []

abbrev with_gap : List (SlabRuns ℕ)
with_gap = three (block 7 0 1 0 1 ∷ []) [] (block 7 2 3 0 1 ∷ [])

none_in_gap : IsMarkedAt (all_runs with_gap) middle 7 → ⊥
unfolding cross
none_in_gap (p, inl same, has_mark, inside) =
    clash refl (subst (λ q. holds_middle q ≡ true) same inside)
none_in_gap (p, inr (inl same), has_mark, inside) =
    clash refl (subst (λ q. holds_middle q ≡ true) same inside)
none_in_gap (p, inr (inr none), has_mark, inside) = none

marked_in_gap : IsMarkedAt over_the_gap middle 7
unfolding cross
marked_in_gap = (block 7 0 3 0 1, inl refl, refl, refl)

three_is_beyond : IsBelow (abscissa_of middle) (number 3)
unfolding cross
three_is_beyond = omega (arith, ints)

over_the_gap_is_refused : IsJoinedTo 3 with_gap over_the_gap → ⊥
over_the_gap_is_refused joined =
    none_in_gap ((joined.marks middle middle_in middle_is_off three_is_beyond 7).0 marked_in_gap)

-- ---- last runs that are not closed

-- the run of the last slab did not come into the list, or its patch was not moved on to its end
abbrev not_closed : List (MarkedPatch ℕ)
not_closed = block 7 0 1 0 1 ∷ []

abbrev two_slabs : List (SlabRuns ℕ)
two_slabs = three (block 7 0 1 0 1 ∷ []) (block 7 1 2 0 1 ∷ []) []

marked_by_last : IsMarkedAt (all_runs two_slabs) middle 7
unfolding cross
marked_by_last = (block 7 1 2 0 1, inr (inl refl), refl, refl)

not_marked : IsMarkedAt not_closed middle 7 → ⊥
unfolding cross
not_marked (p, inl same, has_mark, inside) =
    clash refl (subst (λ q. holds_middle q ≡ true) same inside)
not_marked (p, inr none, has_mark, inside) = none

not_closed_is_refused : IsJoinedTo 2 two_slabs not_closed → ⊥
not_closed_is_refused joined =
    not_marked ((joined.marks middle middle_in middle_is_off two_is_beyond 7).1 marked_by_last)
