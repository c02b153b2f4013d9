-- On the way from a point to any other, near enough to the point, it stays in open half-planes, and
-- on its side of lines.

use Rattle.std.proofs.Common.{◌≡◌, refl, sym, ◌∙◌, inl, inr, arith, ℤ, pos, ◌<ℤ◌}
use Rattle.std.proofs.Common.{true, List, [], ◌∷◌, map}
use Rattle.std.specs.List.{AllByRecursion}
use Rattle.std.proofs.lemmas.Int.{ints}
use Rattle.std.proofs.lemmas.Bool.{and_parts, and_from}
use Rattle.theory_lists.proofs.Members.{all_images}
use Rattle.theory_numbers.specs.Arrows.{Arrow, arrow, cross, opposite}
use Rattle.theory_numbers.specs.Rationals.{IsRational, IsBelow, IsForm, value_at, mediant}
use Rattle.theory_numbers.specs.Intervals.{Keeps, AllKeep, clear_end}
use Rattle.theory_numbers.proofs.Vectors.Arrows.{opposite-dot}
use Rattle.theory_numbers.proofs.Shapes.{var, num, plus, times, equal, dot_by, cross_by}
use Rattle.theory_numbers.proofs.Signs.{less_from, test_less}
use Rattle.theory_numbers.proofs.Fractions.Rationals.{mediant-IsRational, mediant_between}
use Rattle.theory_numbers.proofs.Fractions.Clear.{clear_to, weak_at_low}
use Rattle.sb_fraction.specs.Spots.{Spot}
use Rattle.theory_parity.specs.Halves.{Half, height_over, is_in_half, is_in_all, on_way}
use Rattle.theory_parity.proofs.FromPointToPoint.Heights.{height-on_way}

-- the second number is above 0 where the first is, and below 0 where the first is
pub record HasSignOf (first second : ℤ) : Type 0 where
  pub above : pos 0 <ℤ first → pos 0 <ℤ second
  pub below : first <ℤ pos 0 → second <ℤ pos 0
  pub apart : second ≡ pos 0 → ⊥

-- the height over a line on the way from t to o, as a form of the weights
abbrev pub form_on : Spot → Spot → Half → Arrow
form_on t o h = arrow (height_over h t) (height_over h o)

-- the form's value is the height
pub value-form_on : (h : Half) (t o : Spot) (s : Arrow)
    → value_at (form_on t o h) s ≡ height_over h (on_way s.x t s.y o)
value-form_on h t o s =
    equal
    (dot_by (form_on t o h) s (var (height_over h t)) (var (height_over h o)) (var s.x) (var s.y))
    (plus (times (var s.x) (var (height_over h t))) (times (var s.y) (var (height_over h o))))
    (omega arith)
    ∙ sym (height-on_way h s.x t s.y o)

-- near a point on the way to another, with positive weights: each of the heights has its sign, or
-- has one if it has none at the point
pub record IsNear (t o : Spot) (hs : List Half) (s : Arrow) : Type 0 where
  pub rational : pos 0 <ℤ s.x
  pub up : pos 0 <ℤ s.y
  pub signs : AllByRecursion
      (λ h. HasSignOf (height_over h t) (height_over h (on_way s.x t s.y o))) hs

abbrev begins : Arrow
begins = arrow (pos 1) (pos 0)

abbrev ends : Arrow
ends = arrow (pos 1) (pos 1)

value_at_start : (form : Arrow) → value_at form begins ≡ form.x
value_at_start form =
    equal (dot_by form begins (var form.x) (var form.y) (num 1) (num 0)) (var form.x) (omega arith)

below_is_up : (s : Arrow) → cross begins s ≡ s.y
below_is_up s =
    equal (cross_by begins s (num 1) (num 0) (var s.x) (var s.y)) (var s.y) (omega arith)

module _ (end s : Arrow) (end_in : IsRational end) (wide : IsBelow begins end)
    (s_in : IsRational s) (after : IsBelow begins s) (before : IsBelow s end) where
  sign_kept : (form : Arrow) → Keeps begins end form → HasSignOf form.x (value_at form s)
  sign_kept form (inl positive) =
      let here = positive s s_in after before in
      let low =
      weak_at_low form begins end (omega (arith, ints)) end_in wide
      (λ u u_in after_u before_u.
      let above = positive u u_in after_u before_u in
      omega (arith, ints))
      in
      let at = value_at_start form in
      record {
        above = λ above. here;
        below = λ below. absurd (omega (arith, ints));
        apart = λ zero. omega (arith, ints);
      }
  sign_kept form (inr negative) =
      let here = negative s s_in after before in
      let low =
      weak_at_low (opposite form) begins end (omega (arith, ints)) end_in wide
      (λ u u_in after_u before_u.
      let turned = opposite-dot form u in
      let below = negative u u_in after_u before_u in
      omega (arith, ints))
      in
      let turned = opposite-dot form begins in
      let at = value_at_start form in
      record {
        above = λ above. absurd (omega (arith, ints));
        below = λ below. here;
        apart = λ zero. omega (arith, ints);
      }

  signs_kept : (t o : Spot) (hs : List Half) → AllKeep begins end (map (form_on t o) hs)
      → AllByRecursion
      (λ h. HasSignOf (height_over h t) (height_over h (on_way s.x t s.y o))) hs
  signs_kept t o [] kept = tt
  signs_kept t o (h ∷ hs) kept =
      let sign = sign_kept (form_on t o h) kept.0 in
      let same = value-form_on h t o s in (
        record {
          above = λ above. let there = sign.above above in omega (arith, ints);
          below = λ below. let there = sign.below below in omega (arith, ints);
          apart = λ zero. sign.apart (same ∙ zero);
        },
        signs_kept t o hs kept.1,
      )

-- there are such weights
pub stay_near : (t o : Spot) (hs : List Half) → AllByRecursion (λ h. IsForm (form_on t o h)) hs
    → (s : Arrow) × IsNear t o hs s
stay_near t o hs are_forms =
    let forms = map (form_on t o) hs in
    let end = clear_end begins ends forms in
    let wide : IsBelow begins ends = rw (below_is_up ends) (omega (arith, ints)) in
    let found =
    clear_to begins ends (omega (arith, ints)) (omega (arith, ints)) wide forms
    (all_images IsForm (form_on t o) hs are_forms)
    in
    let s = mediant begins end in
    let inside = mediant_between begins end found.after in
    let s_in = mediant-IsRational begins end (omega (arith, ints)) found.rational in (
      s,
      record {
        rational = s_in;
        up = rw (below_is_up s) at inside.0;
        signs =
            signs_kept end s found.rational found.after s_in inside.0 inside.1 t o hs found.keep;
      },
    )

-- ---- half-planes

-- in the half-planes at first, in them after
pub still_in_all : (t p : Spot) (halves : List Half)
    → AllByRecursion (λ h. HasSignOf (height_over h t) (height_over h p)) halves
    → is_in_all halves t ≡ true → is_in_all halves p ≡ true
still_in_all t p [] signs at = refl
still_in_all t p (h ∷ halves) signs at =
    let parts = and_parts (is_in_half t h) (is_in_all halves t) at in
    and_from (is_in_half p h) (is_in_all halves p)
    (test_less (pos 0) (height_over h p)
    (signs.0.above (less_from (pos 0) (height_over h t) parts.0)))
    (still_in_all t p halves signs.1 parts.1)

-- a half-plane that holds the point gives a form that is not 0
pub in_all_are_forms : (t o : Spot) (halves : List Half) → is_in_all halves t ≡ true
    → AllByRecursion (λ h. IsForm (form_on t o h)) halves
in_all_are_forms t o [] at = tt
in_all_are_forms t o (h ∷ halves) at =
    let parts = and_parts (is_in_half t h) (is_in_all halves t) at in (
      λ zero.
          let none = zero.0 in
          let above = less_from (pos 0) (height_over h t) parts.0 in
          omega (arith, ints),
      in_all_are_forms t o halves parts.1,
    )
