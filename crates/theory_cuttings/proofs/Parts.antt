-- Two cuttings that meet at x are glued to one, and a cutting is cut off to a part of its interval.
use Rattle.std.proofs.Common.{◌≡◌, refl, Option, Some, List, [], ◌∷◌, Bool, true, false}
use Rattle.std.proofs.Common.{cond, pos, arith}
use Rattle.std.proofs.lemmas.Int.{ints}
use Rattle.theory_numbers.specs.Arrows.{Arrow, cross}
use Rattle.theory_numbers.specs.Rationals.{IsRational, IsBelow, IsAtMost, is_below}
use Rattle.theory_numbers.proofs.Signs.{less_from, not_less_from}
use Rattle.theory_numbers.proofs.Vectors.Arrows.{cross-turn}
use Rattle.theory_cuttings.specs.Ends.{IsEnd, IsAfter, IsBefore, IsFrom, IsUpTo}
use Rattle.theory_cuttings.specs.Cuttings.{Break, HasLabel, IsCutting, IsReducedCutting}
use Rattle.theory_cuttings.specs.Cuttings.{AreDifferent, IsFraction}
use Rattle.theory_cuttings.specs.Changes.{glue, last_label, label_after, breaks_after}
use Rattle.theory_cuttings.specs.Changes.{breaks_before}
use Rattle.theory_cuttings.proofs.Ends.{from_trans, up_to_trans}

-- ---- glue

-- a cutting up to x and one from x on are one cutting
pub glue_is : {L : Type 0} (f : Arrow → L) (low high : Option Arrow) (x : Arrow) → IsFraction x
    → (first label : L) (bs rest : List (Break L)) → IsCutting f low (Some x) first bs
    → IsCutting f (Some x) high label rest → IsCutting f low high first (glue bs x label rest)
glue_is f low high x x_in first label [] rest cut later = (x_in, cut.0, cut.1, later)
glue_is f low high x x_in first label (b ∷ bs) rest cut later =
    (cut.0, cut.1, cut.2, glue_is f (Some b.start) high x x_in b.label label bs rest cut.3 later)

different_glued : {L : Type 0} (x : Arrow) (first label : L) (bs rest : List (Break L))
    → AreDifferent first bs → (last_label first bs ≡ label → ⊥) → AreDifferent label rest
    → AreDifferent first (glue bs x label rest)
different_glued x first label [] rest differ change later = (change, later)
different_glued x first label (b ∷ bs) rest differ change later =
    (differ.0, different_glued x b.label label bs rest differ.1 change later)

-- reduced ones whose labels at x differ are a reduced one
pub glue_is_reduced : {L : Type 0} (f : Arrow → L) (low high : Option Arrow) (x : Arrow)
    → IsFraction x → (first label : L) (bs rest : List (Break L))
    → IsReducedCutting f low (Some x) first bs → IsReducedCutting f (Some x) high label rest
    → (last_label first bs ≡ label → ⊥)
    → IsReducedCutting f low high first (glue bs x label rest)
glue_is_reduced f low high x x_in first label bs rest reduced later change =
    record {
      cutting = glue_is f low high x x_in first label bs rest reduced.cutting later.cutting;
      different =
          different_glued x first label bs rest reduced.different change later.different;
    }

-- ---- cut off

module _ {L : Type 0} (f : Arrow → L) (low high : Option Arrow) (low_in : IsEnd low)
    (high_in : IsEnd high) where
  -- a label on an interval is the label on a part of it
  label_from : (s : Arrow) (label : L) → IsRational s → IsFrom low s → HasLabel f low high label
      → HasLabel f (Some s) high label
  label_from s label s_in reached has u u_in after before =
      has u u_in (from_trans low s u low_in s_in u_in reached after) before

  label_up_to : (t : Arrow) (label : L) → IsRational t → IsUpTo t high → HasLabel f low high label
      → HasLabel f low (Some t) label
  label_up_to t label t_in reached has u u_in after before =
      has u u_in after (up_to_trans u t high u_in t_in high_in before reached)

not_below_from : (r s : Arrow) → is_below r s ≡ false → IsAtMost s r
not_below_from r s answer =
    let low = not_less_from (pos 0) (cross r s) answer in
    let turn = cross-turn r s in
    omega (arith, ints)

-- the part above s
pub cut_front_is : {L : Type 0} (f : Arrow → L) (low high : Option Arrow) (s : Arrow)
    → IsEnd low → IsEnd high → IsRational s → IsFrom low s → IsBefore s high
    → (first : L) (bs : List (Break L)) → IsCutting f low high first bs
    → IsCutting f (Some s) high (label_after s first bs) (breaks_after s bs)
cut_front_is f low high s low_in high_in s_in reached before first [] cut =
    (before, label_from f low high low_in high_in s first s_in reached cut.1)
cut_front_is {L} f low high s low_in high_in s_in reached before first (b ∷ bs) cut =
    from (is_below s b.start) refl
    (λ at_break.
    cut_front_is f (Some b.start) high s cut.0.positive high_in s_in at_break before b.label bs
    cut.3)
  where
    from : (answer : Bool) → is_below s b.start ≡ answer
        → (IsAtMost b.start s
        → IsCutting f (Some s) high (label_after s b.label bs) (breaks_after s bs))
        → IsCutting f (Some s) high (cond answer first (label_after s b.label bs))
        (cond answer (b ∷ bs) (breaks_after s bs))
    from true answer later = (
      cut.0,
      less_from (pos 0) (cross s b.start) answer,
      label_from f low (Some b.start) low_in cut.0.positive s first s_in reached cut.2,
      cut.3,
    )
    from false answer later = later (not_below_from s b.start answer)

-- the part below t
pub cut_back_is : {L : Type 0} (f : Arrow → L) (low high : Option Arrow) (t : Arrow)
    → IsEnd low → IsEnd high → IsRational t → IsAfter low t → IsUpTo t high
    → (first : L) (bs : List (Break L)) → IsCutting f low high first bs
    → IsCutting f low (Some t) first (breaks_before t bs)
cut_back_is f low high t low_in high_in t_in after reached first [] cut =
    (after, label_up_to f low high low_in high_in t first t_in reached cut.1)
cut_back_is {L} f low high t low_in high_in t_in after reached first (b ∷ bs) cut =
    from (is_below b.start t) refl
    (λ beyond.
    cut_back_is f (Some b.start) high t cut.0.positive high_in t_in beyond reached b.label bs
    cut.3)
  where
    from : (answer : Bool) → is_below b.start t ≡ answer
        → (IsBelow b.start t
        → IsCutting f (Some b.start) (Some t) b.label (breaks_before t bs))
        → IsCutting f low (Some t) first (cond answer (b ∷ breaks_before t bs) [])
    from true answer later = (
      cut.0,
      cut.1,
      cut.2,
      later (less_from (pos 0) (cross b.start t) answer),
    )
    from false answer later = (
      after,
      label_up_to f low (Some b.start) low_in cut.0.positive t first t_in
          (not_below_from b.start t answer) cut.2,
    )

different_after : {L : Type 0} (s : Arrow) (first : L) (bs : List (Break L))
    → AreDifferent first bs → AreDifferent (label_after s first bs) (breaks_after s bs)
different_after s first [] differ = tt
different_after {L} s first (b ∷ bs) differ =
    from (is_below s b.start) (different_after s b.label bs differ.1)
  where
    from : (answer : Bool) → AreDifferent (label_after s b.label bs) (breaks_after s bs)
        → AreDifferent (cond answer first (label_after s b.label bs))
        (cond answer (b ∷ bs) (breaks_after s bs))
    from true later = differ
    from false later = later

different_before : {L : Type 0} (t : Arrow) (first : L) (bs : List (Break L))
    → AreDifferent first bs → AreDifferent first (breaks_before t bs)
different_before t first [] differ = tt
different_before {L} t first (b ∷ bs) differ =
    from (is_below b.start t) (different_before t b.label bs differ.1)
  where
    from : (answer : Bool) → AreDifferent b.label (breaks_before t bs)
        → AreDifferent first (cond answer (b ∷ breaks_before t bs) [])
    from true later = (differ.0, later)
    from false later = tt

-- the part between s and t, and reduced stays reduced
pub cut_off_is_reduced : {L : Type 0} (f : Arrow → L) (low high : Option Arrow) (s t : Arrow)
    → IsEnd low → IsEnd high → IsRational s → IsRational t → IsFrom low s → IsBelow s t
    → IsUpTo t high → (first : L) (bs : List (Break L)) → IsReducedCutting f low high first bs
    → IsReducedCutting f (Some s) (Some t) (label_after s first bs)
    (breaks_before t (breaks_after s bs))
cut_off_is_reduced f low high s t low_in high_in s_in t_in reached wide reached_t first bs reduced =
    record {
      cutting =
          cut_back_is f (Some s) high t s_in high_in t_in wide reached_t (label_after s first bs)
          (breaks_after s bs)
          (cut_front_is f low high s low_in high_in s_in reached
          (up_to_trans s t high s_in t_in high_in wide reached_t) first bs reduced.cutting);
      different =
          different_before t (label_after s first bs) (breaks_after s bs)
          (different_after s first bs reduced.different);
    }
