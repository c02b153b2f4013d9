-- In a trimmed list no patch stands twice: it would touch itself.
use Rattle.std.proofs.Common.{◌≡◌, ap, subst, sym, arith, pos, ◌≤ℤ◌, List, [], ◌∷◌}
use Rattle.std.proofs.lemmas.Int.{ints}
use Rattle.std.specs.List.{AllByRecursion}
use Rattle.theory_numbers.specs.Intervals.{another}
use Rattle.theory_numbers.proofs.Fractions.Rationals.{at_most_from_below, at_most_refl}
use Rattle.theory_numbers.proofs.Fractions.Avoid.{another_is}
use Rattle.theory_plane.specs.Sides.{value_on, clearance_at}
use Rattle.theory_plane.specs.Regions.{Region, IsRegion, IsInClosure}
use Rattle.theory_plane.proofs.Clearance.{value_on-IsRational, at_least_is}
use Rattle.theory_plane.proofs.Regions.{open_between}
use Rattle.theory_patches.specs.Marked.{MarkedPatch, IsPatch}
use Rattle.theory_patches.specs.Sheets.{Sheet, IsSheet}
use Rattle.theory_patches.specs.Trimmed.{AreApart, AreTrimmed, IsTrimmed, IsTrimmedList}
use Rattle.theory_lists.proofs.Members.{all_follow}
use Rattle.theory_lists.specs.Members.{AreOnce}

-- a region is not apart from itself
not_apart_from_itself : (sheet : Sheet) → IsSheet sheet → (p : Region) → IsRegion p
    → AreApart sheet p p → ⊥
not_apart_from_itself sheet sheet_in p p_in apart =
    let u = another p.low p.high sheet.abscissae in
    let is =
    another_is p.low p.high p_in.low_in p_in.high_in p_in.wide sheet.abscissae
    sheet_in.abscissae_in
    in
    let above = open_between p p_in u is.rational is.after is.before in
    let wide : pos 0 ≤ℤ clearance_at p.lower p.upper u = omega (arith, ints) in
    let inside : IsInClosure p u (value_on p.lower u) =
    record {
      after = at_most_from_below p.low u is.after;
      before = at_most_from_below u p.high is.before;
      above = at_most_refl (value_on p.lower u);
      below = (at_least_is p.lower p.upper u is.rational).1 wide;
    }
    in
    apart u (value_on p.lower u) is.rational is.apart
    (record {
      rational = value_on-IsRational p.lower u p_in.lower_in is.rational;
      first = inside;
      second = inside;
    })

two_are_two : {M : Type 0} (sheet : Sheet) → IsSheet sheet → (p q : MarkedPatch M)
    → IsPatch p.region → AreTrimmed sheet p q → p ≡ q → ⊥
two_are_two sheet sheet_in p q p_in trimmed same =
    not_apart_from_itself sheet sheet_in p.region p_in.region
    (subst (λ r. AreApart sheet p.region r.region) (sym same)
    (trimmed.apart (ap (λ r. r.mark) same)))

once_if_trimmed : {M : Type 0} (sheet : Sheet) → IsSheet sheet → (ps : List (MarkedPatch M))
    → AllByRecursion (λ p. IsPatch p.region) ps → IsTrimmed sheet ps → AreOnce ps
once_if_trimmed sheet sheet_in [] patches trimmed = tt
once_if_trimmed sheet sheet_in (p ∷ ps) patches trimmed = (
  all_follow (λ q two. two_are_two sheet sheet_in p q patches.0 two) ps trimmed.0,
  once_if_trimmed sheet sheet_in ps patches.1 trimmed.1,
)

-- no patch of a trimmed list stands twice
pub stands_once : {M : Type 0} (sheet : Sheet) → IsSheet sheet → (ps : List (MarkedPatch M))
    → IsTrimmedList sheet ps → AreOnce ps
stands_once sheet sheet_in ps list =
    once_if_trimmed sheet sheet_in ps list.patches list.trimmed
