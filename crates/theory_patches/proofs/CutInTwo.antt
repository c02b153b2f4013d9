-- A patch cut in two: the law's conclusion fails for the whole patch and its two halves. All its
-- premises hold of them but one: the halves have a seam.
use Rattle.std.proofs.Common.{◌≡◌, refl, ap, subst, inl, inr, ◌⊎◌, ℕ, pos, true, false, Bool, ◌&&◌}
use Rattle.std.proofs.Common.{List, [], ◌∷◌, arith}
use Rattle.std.proofs.lemmas.Int.{ints}
use Rattle.std.proofs.lemmas.Bool.{and_parts, and_from}
use Rattle.theory_numbers.specs.Arrows.{Arrow, cross, dot}
use Rattle.theory_numbers.specs.Rationals.{IsBelow, IsSame, rational, is_below}
use Rattle.theory_numbers.proofs.Signs.{test_less, less_from}
use Rattle.theory_numbers.proofs.Fractions.Rationals.{below_trans, number_cases, same_sym, same_from_at_most}
use Rattle.theory_plane.specs.Sides.{level, clearance}
use Rattle.theory_plane.specs.Points.{FacePoint, IsFacePoint, abscissa_of, is_above_side}
use Rattle.theory_plane.specs.Points.{is_under_side}
use Rattle.theory_plane.specs.Regions.{is_region, is_inside, is_seam}
use Rattle.theory_lists.specs.Members.{Stands}
use Rattle.theory_patches.specs.Marked.{MarkedPatch}
use Rattle.theory_patches.specs.Sheets.{IsMarkedAt, ArePlainOffCuts, HaveSameMarks}
use Rattle.theory_patches.specs.Trimmed.{AreApart, AreTrimmed, IsTrimmedList}
use Rattle.theory_patches.specs.Laws.{HaveSamePatches}
use Rattle.theory_patches.proofs.Examples.{block, block_is_patch, sheet}

-- the rectangle [0, 2] x [0, 1]
abbrev whole : MarkedPatch ℕ
whole = block 7 0 2 0 1

-- its first half
abbrev first : MarkedPatch ℕ
first = block 7 0 1 0 1

-- its second half
abbrev second : MarkedPatch ℕ
second = block 7 1 2 0 1

-- both
abbrev halves : List (MarkedPatch ℕ)
halves = first ∷ second ∷ []

-- the whole number n
abbrev integer : ℕ → Arrow
integer n = rational (pos n) (pos 1)

-- ---- the conclusion fails

-- the two lists do not hold the same patches
halves_are_not_whole : HaveSamePatches (whole ∷ []) halves → ⊥
halves_are_not_whole same = from ((same whole).0 (inl refl))
  where
    from : Stands whole halves → ⊥
    from (inl one) =
        let ends : pos 2 ≡ pos 1 = ap (λ p. p.region.high.y) one in omega (arith, ints)
    from (inr (inl one)) =
        let ends : pos 0 ≡ pos 1 = ap (λ p. p.region.low.y) one in omega (arith, ints)
    from (inr (inr none)) = none

-- ---- and so does the premise that the halves are trimmed

-- they have a seam, though 1 is an abscissa
halves_have_seam : is_seam first.region second.region ≡ true
unfolding cross dot clearance
halves_have_seam = refl

-- though they are apart: their closures meet on the line u = 1 alone
halves_are_apart : AreApart sheet first.region second.region
halves_are_apart u v u_in off common =
    off.1.0 (same_from_at_most (integer 1) u common.second.after common.first.before)

-- so they are refused
halves_are_not_trimmed : IsTrimmedList sheet halves → ⊥
halves_are_not_trimmed list =
    let pair : AreTrimmed sheet first second = list.trimmed.0.0 in
    clash (pair.no_seam refl).first_before halves_have_seam
  where
    clash : {b : Bool} → b ≡ false → b ≡ true → ⊥
    clash none both = cc

-- ---- the other premises hold, with the points beside u = 1 as the plain ones

whole_is_region : is_region whole.region ≡ true
unfolding cross dot clearance
whole_is_region = refl

whole_is_trimmed : IsTrimmedList sheet (whole ∷ [])
whole_is_trimmed =
    record {
      patches = (block_is_patch 7 0 2 0 1 whole_is_region, tt);
      trimmed = (tt, tt);
    }

-- its u is not 1
abbrev IsBeside : FacePoint → Type 0
IsBeside point = IsSame (integer 1) (abscissa_of point) → ⊥

whole_is_plain : ArePlainOffCuts sheet IsBeside (whole ∷ [])
whole_is_plain point point_in off mark marked = off.no_abscissa.1.0

halves_are_plain : ArePlainOffCuts sheet IsBeside halves
halves_are_plain point point_in off mark marked = off.no_abscissa.1.0

-- a test of an end is exchanged for another one
other_end : (start end other inner : Bool) → (start && end) && inner ≡ true → other ≡ true
    → (start && other) && inner ≡ true
other_end start end other inner inside holds =
    let parts = and_parts (start && end) inner inside in
    and_from (start && other) inner
    (and_from start other ((and_parts start end parts.0).0) holds) parts.1

other_start : (start end other inner : Bool) → (start && end) && inner ≡ true → other ≡ true
    → (other && end) && inner ≡ true
other_start start end other inner inside holds =
    let parts = and_parts (start && end) inner inside in
    and_from (other && end) inner
    (and_from other end holds ((and_parts start end parts.0).1)) parts.1

both_ends : (start end inner : Bool) → (start && end) && inner ≡ true
    → (start ≡ true) × (end ≡ true)
both_ends start end inner inside =
    and_parts start end ((and_parts (start && end) inner inside).0)

zero_below_one : IsBelow (integer 0) (integer 1)
unfolding cross
zero_below_one = omega (arith, ints)

one_below_two : IsBelow (integer 1) (integer 2)
unfolding cross
one_below_two = omega (arith, ints)

-- its u is above n
abbrev is_beyond : ℕ → FacePoint → Bool
is_beyond n point = is_below (integer n) (abscissa_of point)

-- its u is below n
abbrev is_short_of : ℕ → FacePoint → Bool
is_short_of n point = is_below (abscissa_of point) (integer n)

-- its v is between 0 and 1
abbrev is_in_height : FacePoint → Bool
is_in_height point = is_above_side (level (pos 0)) point && is_under_side (level (pos 1)) point

module _ (point : FacePoint) (point_in : IsFacePoint point) where
  short_of_two : is_short_of 1 point ≡ true → is_short_of 2 point ≡ true
  short_of_two less =
      test_less (pos 0) (cross (abscissa_of point) (integer 2))
      (below_trans (abscissa_of point) (integer 1) (integer 2) point_in (omega (arith, ints))
      (omega (arith, ints)) (less_from (pos 0) (cross (abscissa_of point) (integer 1)) less)
      one_below_two)

  beyond_zero : is_beyond 1 point ≡ true → is_beyond 0 point ≡ true
  beyond_zero more =
      test_less (pos 0) (cross (integer 0) (abscissa_of point))
      (below_trans (integer 0) (integer 1) (abscissa_of point) (omega (arith, ints))
      (omega (arith, ints)) point_in zero_below_one
      (less_from (pos 0) (cross (integer 1) (abscissa_of point)) more))

  beside_cases : IsBeside point → (is_short_of 1 point ≡ true) ⊎ (is_beyond 1 point ≡ true)
  beside_cases beside = from (number_cases (abscissa_of point) (integer 1))
    where
      from : (IsBelow (abscissa_of point) (integer 1) ⊎ IsSame (abscissa_of point) (integer 1))
          ⊎ IsBelow (integer 1) (abscissa_of point)
          → (is_short_of 1 point ≡ true) ⊎ (is_beyond 1 point ≡ true)
      from (inl (inl less)) = inl (test_less (pos 0) (cross (abscissa_of point) (integer 1)) less)
      from (inl (inr same)) = absurd (beside (same_sym (abscissa_of point) (integer 1) same))
      from (inr more) = inr (test_less (pos 0) (cross (integer 1) (abscissa_of point)) more)

  in_a_half : is_inside whole.region point ≡ true
      → (is_short_of 1 point ≡ true) ⊎ (is_beyond 1 point ≡ true)
      → (is_inside first.region point ≡ true) ⊎ (is_inside second.region point ≡ true)
  in_a_half inside (inl less) =
      inl
      (other_end (is_beyond 0 point) (is_short_of 2 point) (is_short_of 1 point)
      (is_in_height point) inside less)
  in_a_half inside (inr more) =
      inr
      (other_start (is_beyond 0 point) (is_short_of 2 point) (is_beyond 1 point)
      (is_in_height point) inside more)

  first_in_whole : is_inside first.region point ≡ true → is_inside whole.region point ≡ true
  first_in_whole inside =
      other_end (is_beyond 0 point) (is_short_of 1 point) (is_short_of 2 point)
      (is_in_height point) inside
      (short_of_two
      ((both_ends (is_beyond 0 point) (is_short_of 1 point) (is_in_height point) inside).1))

  second_in_whole : is_inside second.region point ≡ true → is_inside whole.region point ≡ true
  second_in_whole inside =
      other_start (is_beyond 1 point) (is_short_of 2 point) (is_beyond 0 point)
      (is_in_height point) inside
      (beyond_zero
      ((both_ends (is_beyond 1 point) (is_short_of 2 point) (is_in_height point) inside).0))

  -- what the whole marks a half marks
  marked_by_half : IsBeside point → (mark : ℕ) → IsMarkedAt (whole ∷ []) point mark
      → IsMarkedAt halves point mark
  marked_by_half beside mark (p, inl same, has_mark, inside) =
      from
      (in_a_half (subst (λ q. is_inside q.region point ≡ true) same inside) (beside_cases beside))
    where
      seven : 7 ≡ mark
      seven = subst (λ q. q.mark ≡ mark) same has_mark

      from : (is_inside first.region point ≡ true) ⊎ (is_inside second.region point ≡ true)
          → IsMarkedAt halves point mark
      from (inl in_first) = (first, inl refl, seven, in_first)
      from (inr in_second) = (second, inr (inl refl), seven, in_second)
  marked_by_half beside mark (p, inr none, has_mark, inside) = absurd none

  -- and the other way round
  marked_by_whole : (mark : ℕ) → IsMarkedAt halves point mark → IsMarkedAt (whole ∷ []) point mark
  marked_by_whole mark (p, inl same, has_mark, inside) = (
    whole,
    inl refl,
    subst (λ q. q.mark ≡ mark) same has_mark,
    first_in_whole (subst (λ q. is_inside q.region point ≡ true) same inside),
  )
  marked_by_whole mark (p, inr (inl same), has_mark, inside) = (
    whole,
    inl refl,
    subst (λ q. q.mark ≡ mark) same has_mark,
    second_in_whole (subst (λ q. is_inside q.region point ≡ true) same inside),
  )
  marked_by_whole mark (p, inr (inr none), has_mark, inside) = absurd none

-- both put the same plain points under the same mark
same_marks : HaveSameMarks IsBeside (whole ∷ []) halves
same_marks point point_in beside mark =
    (marked_by_half point point_in beside mark, marked_by_whole point point_in mark)
