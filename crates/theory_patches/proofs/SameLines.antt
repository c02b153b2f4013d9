-- Over each stretch of a patch stands a patch of the other list with its mark and its two sides: a
-- u is chosen at which no two different sides have one value.
use Rattle.std.proofs.Common.{◌≡◌, refl, ◌∙◌, inl, inr, arith, List, [], ◌∷◌, map}
use Rattle.std.proofs.Common.{Bool, true, if◌then◌else◌}
use Rattle.std.proofs.Common.{false, pos}
use Rattle.std.proofs.lemmas.Int.{ints}
use Rattle.std.specs.List.{AllByRecursion}
use Rattle.theory_numbers.specs.Arrows.{Arrow, arrow}
use Rattle.theory_numbers.specs.Rationals.{IsRational, IsBelow, IsAtMost, IsForm, form_of}
use Rattle.theory_numbers.specs.Intervals.{avoiding}
use Rattle.theory_numbers.proofs.Fractions.Rationals.{at_most_below_trans, below_at_most_trans}
use Rattle.theory_numbers.proofs.Fractions.Avoid.{IsOffZero, avoiding_is, value-form_of, form_of_is_form}
use Rattle.theory_plane.specs.Sides.{LineSide, IsReducedSide, clearance, clearance_at, is_same_side}
use Rattle.theory_plane.proofs.SameSide.{same_side_decides, other_side_is_form}
use Rattle.theory_lists.specs.Members.{Stands}
use Rattle.theory_patches.specs.Marked.{MarkedPatch, IsPatch}
use Rattle.theory_patches.specs.Sheets.{Sheet, IsNoAbscissa}
use Rattle.theory_lists.proofs.Members.{all_of_images, all_images, all_follow}
use Rattle.theory_patches.proofs.Spaced.{patch_there}
use Rattle.theory_patches.proofs.CutLine.{IsOnLine, cut_line}
use Rattle.theory_patches.proofs.SamePoints.{AreTwoCovers}

-- ---- the forms that tell two sides apart

-- a form that is 0 nowhere where the two sides are one, and else 0 where they meet
difference_by : Bool → LineSide → LineSide → Arrow
difference_by same l m = if same then arrow (pos 1) (pos 0) else clearance l m

-- with the test of the two sides put in
abbrev difference : LineSide → LineSide → Arrow
difference l m = difference_by (is_same_side l m) l m

different_from : (l m : LineSide) → is_same_side l m ≡ false → l ≡ m → ⊥
different_from l m answer same = clash answer ((same_side_decides l m).1 same)
  where
    clash : {b : Bool} → b ≡ false → b ≡ true → ⊥
    clash none both = cc

difference_is_form : (l m : LineSide) → IsReducedSide l → IsReducedSide m → IsForm (difference l m)
unfolding difference_by
difference_is_form l m l_in m_in = from (is_same_side l m) refl
  where
    from : (b : Bool) → is_same_side l m ≡ b → IsForm (difference_by b l m)
    from true answer = λ zero. let none : pos 1 ≡ pos 0 = zero.0 in omega (arith, ints)
    from false answer = other_side_is_form l m l_in m_in (different_from l m answer)

-- sides that meet at a u at which it is not 0 are one
same_where_apart : (l m : LineSide) (u : Arrow) → IsOffZero u (difference l m)
    → clearance_at l m u ≡ pos 0 → l ≡ m
unfolding difference_by
same_where_apart l m u = from (is_same_side l m) refl
  where
    from : (b : Bool) → is_same_side l m ≡ b → IsOffZero u (difference_by b l m)
        → clearance_at l m u ≡ pos 0 → l ≡ m
    from true answer apart meet = (same_side_decides l m).0 answer
    from false answer apart meet = absurd (apart meet)

-- ---- all forms that are to be avoided

-- those of the sides of p and of all patches of the list, in front of others
forms_with : {M : Type 0} → MarkedPatch M → List (MarkedPatch M) → List Arrow → List Arrow
forms_with p [] others = others
forms_with p (q ∷ qs) others =
    difference p.region.lower q.region.lower ∷ difference p.region.upper q.region.upper
    ∷ forms_with p qs others

forms_with_are_forms : {M : Type 0} (p : MarkedPatch M) → IsPatch p.region
    → (qs : List (MarkedPatch M)) → AllByRecursion (λ q. IsPatch q.region) qs
    → (others : List Arrow) → AllByRecursion IsForm others
    → AllByRecursion IsForm (forms_with p qs others)
unfolding forms_with
forms_with_are_forms p p_in [] patches others others_in = others_in
forms_with_are_forms p p_in (q ∷ qs) patches others others_in = (
  difference_is_form p.region.lower q.region.lower p_in.lower_reduced patches.0.lower_reduced,
  (
    difference_is_form p.region.upper q.region.upper p_in.upper_reduced patches.0.upper_reduced,
    forms_with_are_forms p p_in qs patches.1 others others_in,
  ),
)

others_with : {M : Type 0} (P : Arrow → Type 0) (p : MarkedPatch M) (qs : List (MarkedPatch M))
    (others : List Arrow) → AllByRecursion P (forms_with p qs others) → AllByRecursion P others
unfolding forms_with
others_with P p [] others all = all
others_with P p (q ∷ qs) others all = others_with P p qs others all.1.1

differences_of : {M : Type 0} (P : Arrow → Type 0) (p q : MarkedPatch M)
    (qs : List (MarkedPatch M)) (others : List Arrow)
    → AllByRecursion P (forms_with p qs others) → Stands q qs
    → P (difference p.region.lower q.region.lower)
    × P (difference p.region.upper q.region.upper)
unfolding forms_with
differences_of P p q [] others all stands = absurd stands
differences_of P p q (r ∷ rs) others all (inl same) = rw same (all.0, all.1.0)
differences_of P p q (r ∷ rs) others all (inr later) =
    differences_of P p q rs others all.1.1 later

-- ---- the patch over a stretch

-- q stands in the list with the mark and the sides of p, and reaches over a u between s and t
pub record IsOverStretch {M : Type 0} (qs : List (MarkedPatch M)) (p : MarkedPatch M) (s t : Arrow)
    (q : MarkedPatch M) (u : Arrow) : Type 0 where
  pub rational : IsRational u
  pub after : IsBelow s u
  pub before : IsBelow u t
  pub on : IsOnLine qs p.mark u q
  pub same_lower : p.region.lower ≡ q.region.lower
  pub same_upper : p.region.upper ≡ q.region.upper

-- such a patch stands over each stretch of p
pub same_lines : {M : Type 0} (sheet : Sheet) (ps qs : List (MarkedPatch M))
    → AreTwoCovers sheet ps qs → (p : MarkedPatch M) → Stands p ps
    → (s t : Arrow) → IsRational s → IsRational t → IsBelow s t
    → IsAtMost p.region.low s → IsAtMost t p.region.high
    → (q : MarkedPatch M) × (u : Arrow) × IsOverStretch qs p s t q u
same_lines {M} sheet ps qs two p stands s t s_in t_in wide low high =
    let u = avoiding s t forms in
    let is =
    avoiding_is s t s_in t_in wide forms
    (forms_with_are_forms p p_in qs two.second.patches abscissae
    (all_images IsForm form_of sheet.abscissae
    (all_follow form_of_is_form sheet.abscissae two.sheet_in.abscissae_in)))
    in
    let off : IsNoAbscissa sheet u =
    all_follow (λ f apart same. apart (value-form_of f u ∙ same)) sheet.abscissae
    (all_of_images (IsOffZero u) form_of sheet.abscissae
    (others_with (IsOffZero u) p qs abscissae is.apart))
    in
    let found =
    cut_line sheet u is.rational off ps qs two p stands
    (record {
      after =
          at_most_below_trans p.region.low s u p_in.region.low_in s_in is.rational low is.after;
      before =
          below_at_most_trans u t p.region.high is.rational t_in p_in.region.high_in is.before high;
    })
    in
    let q : MarkedPatch M = found.0 in
    let apart = differences_of (IsOffZero u) p q qs abscissae is.apart found.1.on.stands in (
      q,
      u,
      record {
        rational = is.rational;
        after = is.after;
        before = is.before;
        on = found.1.on;
        same_lower =
            same_where_apart p.region.lower q.region.lower u apart.0 found.1.lower;
        same_upper =
            same_where_apart p.region.upper q.region.upper u apart.1 found.1.upper;
      },
    )
  where
    abscissae : List Arrow
    abscissae = map form_of sheet.abscissae

    forms : List Arrow
    forms = forms_with p qs abscissae

    p_in : IsPatch p.region
    p_in = patch_there ps two.first.patches p stands
