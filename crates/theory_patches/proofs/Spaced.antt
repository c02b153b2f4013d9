-- Two patches of one mark in a trimmed list are one, or lie apart: strictly inside both, on no line
-- that is no abscissa, do their sides let them touch.
use Rattle.std.proofs.Common.{◌≡◌, sym, inl, inr, ◌⊎◌, pos, ◌≤ℤ◌, true, ◌&&◌, List}
use Rattle.std.specs.List.{AllByRecursion}
use Rattle.std.proofs.lemmas.Bool.{and_from}
use Rattle.theory_numbers.specs.Arrows.{Arrow, cross}
use Rattle.theory_numbers.specs.Rationals.{IsRational, IsBelow, is_at_most}
use Rattle.theory_numbers.proofs.Signs.{test_at_most}
use Rattle.theory_numbers.proofs.Fractions.Rationals.{at_most_from_below}
use Rattle.theory_plane.specs.Sides.{clearance_at}
use Rattle.theory_plane.specs.Regions.{Region, IsRegion, closures_meet, is_reached, reaches_under}
use Rattle.theory_plane.proofs.Closures.{common_from_test}
use Rattle.theory_lists.specs.Members.{Stands}
use Rattle.theory_patches.specs.Marked.{MarkedPatch, IsPatch}
use Rattle.theory_patches.specs.Sheets.{Sheet, IsNoAbscissa}
use Rattle.theory_patches.specs.Trimmed.{AreApart, HaveNoSeam, IsOver, AreSpaced, AreTrimmed}
use Rattle.theory_patches.specs.Trimmed.{IsTrimmedList}
use Rattle.theory_lists.proofs.Members.{all_stands, one_or_two}

-- the same, seen from the other
pub spaced_sym : (sheet : Sheet) (p q : Region) → AreSpaced sheet p q → AreSpaced sheet q p
spaced_sym sheet p q spaced =
    record {
      apart =
          λ u u_in off over_q over_p first second.
          spaced.apart u u_in off over_p over_q second first;
      no_seam =
          record {
            first_before = spaced.no_seam.second_before;
            second_before = spaced.no_seam.first_before;
          };
    }

reached_over : (p : Region) (u : Arrow) → IsOver p u → is_reached p u ≡ true
reached_over p u over =
    and_from (is_at_most p.low u) (is_at_most u p.high)
    (test_at_most (pos 0) (cross p.low u) (at_most_from_below p.low u over.after))
    (test_at_most (pos 0) (cross u p.high) (at_most_from_below u p.high over.before))

-- regions whose closures have no common point are spaced
pub spaced_from_apart : (sheet : Sheet) (p q : Region) → IsRegion p → IsRegion q
    → AreApart sheet p q → HaveNoSeam p q → AreSpaced sheet p q
spaced_from_apart sheet p q p_in q_in apart no_seam =
    record {
      apart =
          λ u u_in off over_p over_q first second.
          let meet : closures_meet p q u ≡ true =
          and_from (is_reached p u && is_reached q u)
          (reaches_under p q u && reaches_under q p u)
          (and_from (is_reached p u) (is_reached q u) (reached_over p u over_p)
          (reached_over q u over_q))
          (and_from (reaches_under p q u) (reaches_under q p u)
          (test_at_most (pos 0) (clearance_at p.lower q.upper u) first)
          (test_at_most (pos 0) (clearance_at q.lower p.upper u) second))
          in
          let common = common_from_test p q u p_in q_in u_in meet in
          apart u common.0 u_in off common.1;
      no_seam = no_seam;
    }

-- a list of patches of which any two of one mark are one or spaced
pub record IsSpacedList {M : Type 0} (sheet : Sheet) (ps : List (MarkedPatch M)) : Type 0 where
  pub patches : AllByRecursion (λ p. IsPatch p.region) ps
  pub spaced : (p q : MarkedPatch M) → Stands p ps → Stands q ps → p.mark ≡ q.mark
      → (p ≡ q) ⊎ AreSpaced sheet p.region q.region

-- what stands in it is a patch
pub patch_there : {M : Type 0} (ps : List (MarkedPatch M))
    → AllByRecursion (λ p. IsPatch p.region) ps → (p : MarkedPatch M) → Stands p ps
    → IsPatch p.region
patch_there ps patches p stands = all_stands (λ s. IsPatch s.region) p ps patches stands

one_or_spaced : {M : Type 0} (sheet : Sheet) (ps : List (MarkedPatch M))
    → IsTrimmedList sheet ps → (p q : MarkedPatch M) → Stands p ps → Stands q ps
    → p.mark ≡ q.mark → (p ≡ q) ⊎ AreSpaced sheet p.region q.region
one_or_spaced {M} sheet ps list p q at_p at_q same_mark =
    from (one_or_two (AreTrimmed sheet) p q ps list.trimmed at_p at_q)
  where
    is_region : (r : MarkedPatch M) → Stands r ps → IsRegion r.region
    is_region r at_r = (patch_there ps list.patches r at_r).region

    from : (p ≡ q) ⊎ (AreTrimmed sheet p q ⊎ AreTrimmed sheet q p)
        → (p ≡ q) ⊎ AreSpaced sheet p.region q.region
    from (inl one) = inl one
    from (inr (inl two)) =
        inr
        (spaced_from_apart sheet p.region q.region (is_region p at_p) (is_region q at_q)
        (two.apart same_mark) (two.no_seam same_mark))
    from (inr (inr two)) =
        inr
        (spaced_sym sheet q.region p.region
        (spaced_from_apart sheet q.region p.region (is_region q at_q) (is_region p at_p)
        (two.apart (sym same_mark)) (two.no_seam (sym same_mark))))

-- a trimmed list is one
pub trimmed_is_spaced : {M : Type 0} (sheet : Sheet) (ps : List (MarkedPatch M))
    → IsTrimmedList sheet ps → IsSpacedList sheet ps
trimmed_is_spaced sheet ps list =
    record { patches = list.patches; spaced = one_or_spaced sheet ps list }
