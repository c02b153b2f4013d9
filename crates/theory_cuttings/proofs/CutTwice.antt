-- A function that is cut, and the coarse function after it: the coarse cutting is that of the runs. And
-- a cutting that is split at a break, or seen as one of an equal function.
use Rattle.std.proofs.Common.{◌≡◌, ◌⊎◌, inl, inr, sym, ap, ◌∙◌, arith, Bool, subst}
use Rattle.std.proofs.Common.{Option, Some, None, List, [], ◌∷◌, ◌++◌, Decides}
use Rattle.std.proofs.lemmas.Int.{ints}
use Rattle.std.specs.List.{AllByRecursion}
use Rattle.theory_numbers.specs.Arrows.{Arrow}
use Rattle.theory_numbers.specs.Rationals.{IsRational, IsBelow, IsAtMost, IsSame}
use Rattle.theory_numbers.proofs.Vectors.Arrows.{cross-turn}
use Rattle.theory_numbers.proofs.Fractions.Rationals.{below_or_not, number_cases, below_at_most_trans}
use Rattle.theory_numbers.proofs.Fractions.Rationals.{at_most_below_trans, at_most_from_below}
use Rattle.theory_cuttings.specs.Ends.{IsEnd, IsOpen, IsAfter, IsBefore}
use Rattle.theory_cuttings.specs.Cuttings.{Break, IsAlike, IsFraction, HasLabel, IsCutting, AreDifferent}
use Rattle.theory_cuttings.specs.Cuttings.{IsReducedCutting, HasNoOddPoint}
use Rattle.theory_cuttings.specs.Changes.{map_labels, group, run_breaks}
use Rattle.theory_cuttings.proofs.Ends.{IsBetween, number_between, after_trans, before_trans, open_trans}
use Rattle.theory_cuttings.proofs.Ends.{below_two_ends}
use Rattle.theory_cuttings.proofs.OneCutting.{next_end, IsFirstPiece, first_piece, below_high}
use Rattle.theory_cuttings.proofs.OneCutting.{has_one_cutting}
use Rattle.theory_cuttings.proofs.Groups.{group_is}

-- ---- split at a break, and equal functions

-- the part up to a break, and the part from it on
pub split_is : {L : Type 0} (f : Arrow → L) (low high : Option Arrow) (first : L)
    (bs : List (Break L)) (c : Break L) (cs : List (Break L))
    → IsReducedCutting f low high first (bs ++ c ∷ cs)
    → IsReducedCutting f low (Some c.start) first bs × IsFraction c.start
    × IsReducedCutting f (Some c.start) high c.label cs
split_is f low high first [] c cs cut = (
  record { cutting = (cut.cutting.1, cut.cutting.2); different = tt },
  cut.cutting.0,
  record { cutting = cut.cutting.3; different = cut.different.1 },
)
split_is f low high first (b ∷ bs) c cs cut =
    let rest =
    split_is f (Some b.start) high b.label bs c cs
    (record { cutting = cut.cutting.3; different = cut.different.1 })
    in (
      record {
        cutting = (cut.cutting.0, cut.cutting.1, cut.cutting.2, rest.0.cutting);
        different = (cut.different.0, rest.0.different);
      },
      rest.1,
      rest.2,
    )

module _ {L : Type 0} (f g : Arrow → L) (high : Option Arrow) (high_in : IsEnd high) where
  -- what cuts a function cuts one that is equal to it between the ends
  pub of_equal : (low : Option Arrow) → IsEnd low
      → ((u : Arrow) → IsRational u → IsAfter low u → IsBefore u high → f u ≡ g u) → (first : L)
      (bs : List (Break L)) → IsCutting f low high first bs → IsCutting g low high first bs
  of_equal low low_in same first [] cut =
      (cut.0, λ u u_in after before. sym (same u u_in after before) ∙ cut.1 u u_in after before)
  of_equal low low_in same first (b ∷ bs) cut =
      let within = below_high f high high_in low first b bs cut in (
        cut.0,
        cut.1,
        λ u u_in after before.
            sym
            (same u u_in after
            (before_trans u b.start high u_in cut.0.positive high_in before within))
            ∙ cut.2 u u_in after before,
        of_equal (Some b.start) cut.0.positive
            (λ u u_in after before.
            same u u_in (after_trans low b.start u low_in cut.0.positive u_in cut.1 after) before)
            b.label bs cut.3,
      )

-- a cutting of an interval is one of an open interval
pub cutting_is_open : {L : Type 0} (f : Arrow → L) (low high : Option Arrow) → IsEnd low → IsEnd high
    → (first : L) (bs : List (Break L)) → IsCutting f low high first bs → IsOpen low high
cutting_is_open f low high low_in high_in first [] cut = cut.0
cutting_is_open f low high low_in high_in first (b ∷ bs) cut =
    open_trans low b.start high low_in cut.0.positive high_in cut.1
    (below_high f high high_in low first b bs cut)

-- what holds of a function's values holds of the labels of its cutting
pub labels_have : {L : Type 0} (f : Arrow → L) (P : L → Type 0) (high : Option Arrow) → IsEnd high
    → (low : Option Arrow) → IsEnd low
    → ((u : Arrow) → IsRational u → IsAfter low u → IsBefore u high → P (f u)) → (first : L)
    (bs : List (Break L)) → IsCutting f low high first bs
    → P first × AllByRecursion (λ b. P b.label) bs
labels_have f P high high_in low low_in has first [] cut =
    (by (number_between low high low_in high_in cut.0), tt)
  where
    by : (u : Arrow) × IsBetween low high u → P first
    by (u, at) =
        subst P (cut.1 u at.rational at.after at.before) (has u at.rational at.after at.before)
labels_have f P high high_in low low_in has first (b ∷ bs) cut =
    let within = below_high f high high_in low first b bs cut in
    let rest =
    labels_have f P high high_in (Some b.start) cut.0.positive
    (λ u u_in after before.
    has u u_in (after_trans low b.start u low_in cut.0.positive u_in cut.1 after) before) b.label
    bs cut.3
    in
    (by within (number_between low (Some b.start) low_in cut.0.positive cut.1), rest)
  where
    by : IsBefore b.start high → (u : Arrow) × IsBetween low (Some b.start) u → P first
    by within (u, at) =
        subst P (cut.2 u at.rational at.after at.before)
        (has u at.rational at.after
        (before_trans u b.start high at.rational cut.0.positive high_in at.before within))

-- ---- no point is odd

-- a number below b and above two ends
pub above_two_ends : (low other : Option Arrow) (b : Arrow) → IsEnd low → IsEnd other → IsRational b
    → IsAfter low b → IsAfter other b
    → (u : Arrow) × (IsBetween low (Some b) u × IsBetween other (Some b) u)
above_two_ends low other b low_in other_in b_in wide wide_too =
    greater (number_between low (Some b) low_in b_in wide)
    (number_between other (Some b) other_in b_in wide_too)
  where
    after_weak : (end : Option Arrow) (v u : Arrow) → IsEnd end → IsRational v → IsRational u
        → IsAfter end v → IsAtMost v u → IsAfter end u
    after_weak None v u end_in v_in u_in after more = tt
    after_weak (Some e) v u end_in v_in u_in after more =
        below_at_most_trans e v u end_in v_in u_in after more

    greater : (u : Arrow) × IsBetween low (Some b) u → (v : Arrow) × IsBetween other (Some b) v
        → (w : Arrow) × (IsBetween low (Some b) w × IsBetween other (Some b) w)
    greater (u, u_is) (v, v_is) = from (below_or_not u v)
      where
        from : IsBelow u v ⊎ IsAtMost v u
            → (w : Arrow) × (IsBetween low (Some b) w × IsBetween other (Some b) w)
        from (inl less) = (
          v,
          (
            record {
              rational = v_is.rational;
              after = after_trans low u v low_in u_is.rational v_is.rational u_is.after less;
              before = v_is.before;
            },
            v_is,
          ),
        )
        from (inr more) = (
          u,
          (
            u_is,
            record {
              rational = u_is.rational;
              after =
                  after_weak other v u other_in v_is.rational u_is.rational v_is.after more;
              before = u_is.before;
            },
          ),
        )

module _ {K : Type 0} (h : Arrow → K) (high : Option Arrow) (high_in : IsEnd high) where
  -- where a number has one label on both sides, a function with a reduced cutting has it there
  even_at : (b : Arrow) (k : K) (p q : Option Arrow) → IsRational b → IsEnd p → IsEnd q
      → IsAfter p b → IsBefore b q → HasLabel h p (Some b) k → HasLabel h (Some b) q k
      → IsBefore b high → (low : Option Arrow) (c : K) (cs : List (Break K)) → IsEnd low
      → IsCutting h low high c cs → AreDifferent c cs → IsAfter low b → h b ≡ k
  even_at b k p q b_in p_in q_in after before left right before_high low c [] low_in cut differ
      after_low =
      from (above_two_ends low p b low_in p_in b_in after_low after)
    where
      from : (u : Arrow) × (IsBetween low (Some b) u × IsBetween p (Some b) u) → h b ≡ k
      from (u, is) =
          let here = is.0 in
          let there = is.1 in
          cut.1 b b_in after_low before_high
          ∙ sym (cut.1 u here.rational here.after
          (before_trans u b high here.rational b_in high_in here.before before_high))
          ∙ left u there.rational there.after there.before
  even_at b k p q b_in p_in q_in after before left right before_high low c (d ∷ ds) low_in cut
      differ after_low =
      from (number_cases b d.start)
      (even_at b k p q b_in p_in q_in after before left right before_high (Some d.start) d.label ds
      cut.0.positive cut.3 differ.1)
    where
      left_label : IsAtMost b d.start → c ≡ k
      left_label low_or_at = by (above_two_ends low p b low_in p_in b_in after_low after)
        where
          by : (u : Arrow) × (IsBetween low (Some b) u × IsBetween p (Some b) u) → c ≡ k
          by (u, is) =
              let here = is.0 in
              let there = is.1 in
              sym
              (cut.2 u here.rational here.after
              (below_at_most_trans u b d.start here.rational b_in cut.0.positive here.before low_or_at))
              ∙ left u there.rational there.after there.before

      right_label : IsSame b d.start → d.label ≡ k
      right_label same =
          let piece = first_piece h high high_in (Some d.start) d.label ds cut.3 in
          by (below_two_ends (Some b) (next_end ds high) q b_in piece.is_end q_in
          (before_too (next_end ds high) piece.is_end piece.wide) before) piece
        where
          at_or_below : IsAtMost b d.start × IsAtMost d.start b
          at_or_below =
              let turn = cross-turn b d.start in
              (omega (arith, ints, same), omega (arith, ints, same))

          before_too : (end : Option Arrow) → IsEnd end → IsBefore d.start end → IsBefore b end
          before_too None end_in wide = tt
          before_too (Some e) end_in wide =
              at_most_below_trans b d.start e b_in cut.0.positive end_in at_or_below.0 wide

          by : (u : Arrow) × (IsBetween (Some b) (next_end ds high) u × IsBetween (Some b) q u)
              → IsFirstPiece h (Some d.start) (next_end ds high) d.label → d.label ≡ k
          by (u, is) piece =
              let here = is.0 in
              let there = is.1 in
              sym
              (piece.has_label u here.rational
              (at_most_below_trans d.start b u cut.0.positive b_in here.rational at_or_below.1
              here.after) here.before)
              ∙ right u there.rational there.after there.before

      from : (IsBelow b d.start ⊎ IsSame b d.start) ⊎ IsBelow d.start b
          → (IsAfter (Some d.start) b → h b ≡ k) → h b ≡ k
      from (inl (inl less)) later =
          cut.2 b b_in after_low less ∙ left_label (at_most_from_below b d.start less)
      from (inl (inr same)) later =
          absurd (differ.0 (left_label (omega (arith, ints, same)) ∙ sym (right_label same)))
      from (inr more) later = later more

-- where the coarse function has a reduced cutting, no break of a cutting is odd for it
no_odd_break : {L K : Type 0} (f : Arrow → L) (g : L → K) (high : Option Arrow) → IsEnd high
    → (c : K) (cs : List (Break K)) (start : Option Arrow) → IsEnd start
    → IsReducedCutting (λ u. g (f u)) start high c cs
    → (low : Option Arrow) → IsEnd low
    → ((u : Arrow) → IsRational u → IsAfter low u → IsAfter start u)
    → (first : L) (bs : List (Break L)) → IsCutting f low high first bs
    → HasNoOddPoint (λ u. g (f u)) (g first) (map_labels g bs)
no_odd_break f g high high_in c cs start start_in coarse low low_in within first [] cut = tt
no_odd_break f g high high_in c cs start start_in coarse low low_in within first (b ∷ bs) cut =
    let piece = first_piece f high high_in (Some b.start) b.label bs cut.3 in (
      λ same.
          even_at (λ u. g (f u)) high high_in b.start (g first) low (next_end bs high)
          cut.0.positive low_in piece.is_end cut.1 piece.wide
          (λ u u_in after before. ap g (cut.2 u u_in after before))
          (λ u u_in after before. ap g (piece.has_label u u_in after before) ∙ sym same)
          (below_high f high high_in low first b bs cut) start c cs start_in coarse.cutting
          coarse.different (within b.start cut.0.positive cut.1),
      no_odd_break f g high high_in c cs start start_in coarse (Some b.start) cut.0.positive
          (λ u u_in after.
          within u u_in (after_trans low b.start u low_in cut.0.positive u_in cut.1 after))
          b.label bs cut.3,
    )

-- the coarse cutting is that of the runs of the fine one
pub coarse_is_runs : {L K : Type 0} (f : Arrow → L) → IsAlike f → (g : L → K)
    → (same : K → K → Bool) → ((a b : K) → Decides (same a b) (a ≡ b))
    → (low high : Option Arrow) → IsEnd low → IsEnd high
    → (first : L) (bs : List (Break L)) → IsCutting f low high first bs
    → (c : K) (cs : List (Break K)) → IsReducedCutting (λ u. g (f u)) low high c cs
    → (c ≡ g first) × (cs ≡ run_breaks g ((group same g first bs).runs))
coarse_is_runs {L} {K} f alike g same decides low high low_in high_in first bs cut c cs coarse =
    has_one_cutting K (λ u. g (f u)) low high low_in high_in c (g first) cs
    (run_breaks g ((group same g first bs).runs)) coarse
    (group_is f alike g same decides low high low_in high_in first bs cut
    (no_odd_break f g high high_in c cs low low_in coarse low low_in (λ u u_in after. after) first
    bs cut))
