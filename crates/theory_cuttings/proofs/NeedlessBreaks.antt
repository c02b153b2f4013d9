-- Where no point is odd, dropping the needless breaks leaves a reduced cutting of the same
-- function.
use Rattle.std.proofs.Common.{◌≡◌, refl, sym, ◌∙◌, inl, inr, ◌⊎◌, subst, Bool, true, false, cond}
use Rattle.std.proofs.Common.{Option, Some, List, [], ◌∷◌, Decides}
use Rattle.theory_numbers.specs.Arrows.{Arrow}
use Rattle.theory_numbers.specs.Rationals.{IsRational, IsBelow, IsSame}
use Rattle.theory_numbers.proofs.Fractions.Rationals.{number_cases}
use Rattle.theory_cuttings.specs.Ends.{IsEnd, IsAfter}
use Rattle.theory_cuttings.specs.Cuttings.{Break, HasLabel, IsAlike, IsCutting}
use Rattle.theory_cuttings.specs.Cuttings.{IsReducedCutting, HasNoOddPoint}
use Rattle.theory_cuttings.specs.Changes.{squash}
use Rattle.theory_cuttings.specs.Laws.{IsReducedBySquash}
use Rattle.theory_cuttings.proofs.Ends.{after_trans, open_trans}

-- a label on both sides of a number and at it is the label all through
pub label_through : {L : Type 0} (f : Arrow → L) → IsAlike f → (low high : Option Arrow)
    (b : Arrow) (label : L) → IsRational b
    → HasLabel f low (Some b) label → f b ≡ label → HasLabel f (Some b) high label
    → HasLabel f low high label
label_through f alike low high b label b_in left here right u u_in after before =
    from (number_cases u b)
  where
    from : (IsBelow u b ⊎ IsSame u b) ⊎ IsBelow b u → f u ≡ label
    from (inl (inl less)) = left u u_in after less
    from (inl (inr same)) = alike u b u_in b_in same ∙ here
    from (inr more) = right u u_in more before

module _ {L : Type 0} (f : Arrow → L) (alike : IsAlike f) (high : Option Arrow)
    (high_in : IsEnd high) where
  -- a break whose label is the one before it, and at it, is dropped
  pub without_first : (low : Option Arrow) (b : Arrow) (label : L) (bs : List (Break L))
      → IsEnd low → IsRational b → IsAfter low b
      → HasLabel f low (Some b) label → f b ≡ label → IsCutting f (Some b) high label bs
      → IsCutting f low high label bs
  without_first low b label [] low_in b_in after left here cut = (
    open_trans low b high low_in b_in high_in after cut.0,
    label_through f alike low high b label b_in left here cut.1,
  )
  without_first low b label (d ∷ ds) low_in b_in after left here cut = (
    cut.0,
    after_trans low b d.start low_in b_in cut.0.positive after cut.1,
    label_through f alike low (Some d.start) b label b_in left here cut.2,
    cut.3,
  )

  module _ (same : L → L → Bool) (decides : (a b : L) → Decides (same a b) (a ≡ b)) where
    -- squash leaves a cutting, and one whose neighbouring labels differ
    pub squash_is : (low : Option Arrow) (first : L) (bs : List (Break L)) → IsEnd low
        → IsCutting f low high first bs → HasNoOddPoint f first bs
        → IsReducedCutting f low high first (squash same first bs)
    squash_is low first [] low_in cut plain = record { cutting = cut; different = tt }
    squash_is low first (b ∷ bs) low_in cut plain =
        from (same first b.label) refl
        (squash_is (Some b.start) b.label bs cut.0.positive cut.3 plain.1)
      where
        from : (answer : Bool) → same first b.label ≡ answer
            → IsReducedCutting f (Some b.start) high b.label (squash same b.label bs)
            → IsReducedCutting f low high first
            (cond answer (squash same first bs) (b ∷ squash same b.label bs))
        from true equal rest =
            let e : first ≡ b.label = (decides first b.label).0 equal in
            let moved =
            subst (λ l. IsReducedCutting f (Some b.start) high l (squash same l bs)) (sym e) rest
            in
            record {
              cutting =
                  without_first low b.start first (squash same first bs) low_in cut.0.positive
                  cut.1 cut.2 (plain.0 e) moved.cutting;
              different = moved.different;
            }
        from false other rest =
            record {
              cutting = (cut.0, cut.1, cut.2, rest.cutting);
              different =
                  (λ e. absurd (clash other ((decides first b.label).1 e)), rest.different);
            }
          where
            clash : {answer : Bool} → answer ≡ false → answer ≡ true → ⊥
            clash none both = cc

-- squash leaves a reduced cutting, for labels of any type
pub is_reduced_by_squash : (L : Type 0) → IsReducedBySquash L
is_reduced_by_squash L f alike same decides low high low_in high_in first breaks cut plain =
    squash_is f alike high high_in same decides low first breaks low_in cut plain
