-- Worked lists of patches: the premises of the law hold for two equal lists, and patches of one
-- mark that touch are refused.
use Rattle.std.proofs.Common.{◌≡◌, refl, ap, inl, inr, ℕ, ℤ, pos, true, List, [], ◌∷◌}
use Rattle.std.proofs.Common.{◌-ℤ◌, arith, IsTrue}
use Rattle.std.proofs.lemmas.Int.{ints}
use Rattle.theory_numbers.specs.Arrows.{Arrow, cross, dot}
use Rattle.theory_numbers.specs.Rationals.{IsRational, rational}
use Rattle.std.proofs.lemmas.Bool.{and_parts}
use Rattle.std.proofs.Common.{◌&&◌}
use Rattle.theory_numbers.proofs.Signs.{at_most_from}
use Rattle.theory_numbers.proofs.Fractions.Reduced.{whole_is_reduced}
use Rattle.theory_plane.specs.Sides.{level, clearance, clearance_at}
use Rattle.theory_plane.specs.Points.{face_point}
use Rattle.theory_plane.specs.Regions.{is_region}
use Rattle.theory_plane.specs.Regions.{closures_meet, is_reached, reaches_under}
use Rattle.theory_plane.proofs.Regions.{region_from}
use Rattle.theory_plane.proofs.Closures.{test_from_common, common_from_test}
use Rattle.theory_lists.specs.Members.{Stands}
use Rattle.theory_patches.specs.Marked.{MarkedPatch, IsPatch}
use Rattle.theory_patches.specs.Sheets.{Sheet, IsSheet, IsNoAbscissa, IsMarkedAt}
use Rattle.theory_patches.specs.Trimmed.{AreApart, HaveNoSeam, IsTrimmedList}
use Rattle.theory_patches.specs.Laws.{CoverAlike, HaveSamePatches}

-- ---- patches: rectangles [from, to] x [bottom, top], marked by a number

-- such a rectangle with its mark
abbrev pub block : ℕ → ℕ → ℕ → ℕ → ℕ → MarkedPatch ℕ
block mark from to bottom top =
    record {
      region =
          record {
            low = rational (pos from) (pos 1);
            high = rational (pos to) (pos 1);
            lower = level (pos bottom);
            upper = level (pos top);
          };
      mark = mark;
    }

-- a rectangle of whole numbers is a patch where it passes the test of a region
pub block_is_patch : (mark from to bottom top : ℕ)
    → is_region (block mark from to bottom top).region ≡ true
    → IsPatch (block mark from to bottom top).region
block_is_patch mark from to bottom top answer =
    record {
      region = region_from (block mark from to bottom top).region answer;
      low_reduced = whole_is_reduced (pos from);
      high_reduced = whole_is_reduced (pos to);
      lower_reduced = whole_is_reduced (pos 0);
      upper_reduced = whole_is_reduced (pos 0);
    }

-- a unit square
abbrev left : MarkedPatch ℕ
left = block 7 0 1 0 1

-- one beside it, with another mark
abbrev right : MarkedPatch ℕ
right = block 8 1 2 0 1

-- one above the first, with its mark
abbrev above : MarkedPatch ℕ
above = block 7 0 1 2 3

-- the three
abbrev squares : List (MarkedPatch ℕ)
squares = left ∷ right ∷ above ∷ []

-- a sheet with the abscissae 0, 1 and 2 and no cut
abbrev pub sheet : Sheet
sheet =
    record {
      abscissae =
          rational (pos 0) (pos 1) ∷ rational (pos 1) (pos 1) ∷ rational (pos 2) (pos 1) ∷ [];
      cuts = [];
    }

-- it is a sheet
pub sheet_is : IsSheet sheet
sheet_is =
    record {
      abscissae_in =
          (omega (arith, ints), (omega (arith, ints), (omega (arith, ints), tt)));
      cuts_in = tt;
    }

left_is_region : is_region left.region ≡ true
unfolding cross dot clearance
left_is_region = refl

right_is_region : is_region right.region ≡ true
unfolding cross dot clearance
right_is_region = refl

above_is_region : is_region above.region ≡ true
unfolding cross dot clearance
above_is_region = refl

-- ---- the premises hold for the list of squares and itself

-- the lower side of the square above lies above the upper side of the first, everywhere
height_between : (u : Arrow) → clearance_at above.region.lower left.region.upper u ≡ (pos 0 -ℤ u.x)
unfolding clearance dot
height_between u = omega (arith, ints)

-- so the two squares of one mark are apart
left_apart_above : AreApart sheet left.region above.region
left_apart_above u v u_in off common =
    let meet =
    test_from_common left.region above.region u v (region_from left.region left_is_region)
    (region_from above.region above_is_region) u_in common
    in
    let parts =
    and_parts (is_reached left.region u && is_reached above.region u)
    (reaches_under left.region above.region u && reaches_under above.region left.region u) meet
    in
    let low =
    at_most_from (pos 0) (clearance_at above.region.lower left.region.upper u)
    (and_parts (reaches_under left.region above.region u)
    (reaches_under above.region left.region u) parts.1).1
    in
    let height = height_between u in
    omega (arith, ints)

left_above_no_seam : HaveNoSeam left.region above.region
unfolding cross dot clearance
left_above_no_seam = record { first_before = refl; second_before = refl }

squares_are_trimmed : IsTrimmedList sheet squares
squares_are_trimmed =
    record {
      patches = (
        block_is_patch 7 0 1 0 1 left_is_region,
        (
          block_is_patch 8 1 2 0 1 right_is_region,
          (block_is_patch 7 0 1 2 3 above_is_region, tt),
        ),
      );
      trimmed = (
        (
          record {
            apart = λ same. absurd (omega arith);
            no_seam = λ same. absurd (omega arith);
          },
          (record { apart = λ same. left_apart_above; no_seam = λ same. left_above_no_seam }, tt),
        ),
        (
          (
            record {
              apart = λ same. absurd (omega arith);
              no_seam = λ same. absurd (omega arith);
            },
            tt,
          ),
          (tt, tt),
        ),
      );
    }

-- where all points are plain, the premises of the law hold for the list and itself
squares_cover_alike : CoverAlike sheet (λ point. IsTrue true) squares squares
squares_cover_alike =
    record {
      sheet_in = sheet_is;
      first = squares_are_trimmed;
      second = squares_are_trimmed;
      first_plain = λ point point_in off mark marked. refl;
      second_plain = λ point point_in off mark marked. refl;
      same_marks = λ point point_in plain mark. (λ marked. marked, λ marked. marked);
    }

-- (1/2, 1/2) is marked by the first square
middle_is_marked : IsMarkedAt squares (face_point (pos 1) (pos 1) (pos 2)) 7
unfolding cross
middle_is_marked = (left, inl refl, refl, refl)

-- ---- two patches of one mark that touch

-- the unit square on top of the first
abbrev upper : MarkedPatch ℕ
upper = block 7 0 1 1 2

-- the closures of two stacked squares have a common point at u = 1/2
stacked_meet : closures_meet left.region upper.region (rational (pos 1) (pos 2)) ≡ true
unfolding cross dot clearance
stacked_meet = refl

upper_is_region : is_region upper.region ≡ true
unfolding cross dot clearance
upper_is_region = refl

half_is_no_abscissa : IsNoAbscissa sheet (rational (pos 1) (pos 2))
unfolding cross
half_is_no_abscissa =
    (λ same. omega (arith, ints), (λ same. omega (arith, ints), (λ same. omega (arith, ints), tt)))

-- so they are not apart
stacked_are_not_apart : AreApart sheet left.region upper.region → ⊥
stacked_are_not_apart apart =
    let half = rational (pos 1) (pos 2) in
    let half_in : IsRational half = omega (arith, ints) in
    let common =
    common_from_test left.region upper.region half (region_from left.region left_is_region)
    (region_from upper.region upper_is_region) half_in stacked_meet
    in
    apart half common.0 half_in half_is_no_abscissa common.1

-- ---- a patch and the same patch cut in two: what the law concludes is false of them

-- the two squares in one
abbrev tall : MarkedPatch ℕ
tall = block 7 0 1 0 2

-- where the upper side lies, and where the lower one
abbrev top_of : MarkedPatch ℕ → ℤ
top_of p = p.region.upper.off

abbrev bottom_of : MarkedPatch ℕ → ℤ
bottom_of p = p.region.lower.off

two_is_not_one : pos 2 ≡ pos 1 → ⊥
two_is_not_one same = omega (arith, ints, same)

zero_is_not_one : pos 0 ≡ pos 1 → ⊥
zero_is_not_one same = omega (arith, ints, same)

tall_is_neither : Stands tall (left ∷ upper ∷ []) → ⊥
tall_is_neither (inl same) = two_is_not_one (ap top_of same)
tall_is_neither (inr (inl same)) = zero_is_not_one (ap bottom_of same)
tall_is_neither (inr (inr none)) = none

-- both put the point (1/2, 1/2) under the mark 7
middle_is_marked_whole : IsMarkedAt (tall ∷ []) (face_point (pos 1) (pos 1) (pos 2)) 7
unfolding cross
middle_is_marked_whole = (tall, inl refl, refl, refl)

middle_is_marked_in_two : IsMarkedAt (left ∷ upper ∷ []) (face_point (pos 1) (pos 1) (pos 2)) 7
unfolding cross
middle_is_marked_in_two = (left, inl refl, refl, refl)

-- but they do not hold the same patches
cut_in_two : HaveSamePatches (tall ∷ []) (left ∷ upper ∷ []) → ⊥
cut_in_two same = tall_is_neither ((same tall).0 (inl refl))
