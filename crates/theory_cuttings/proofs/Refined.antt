-- A cutting whose pieces are cut themselves gives a finer cutting; a reduced one where the coarse
-- labels of neighbouring pieces differ.
use Rattle.std.proofs.Common.{◌≡◌, sym, ◌∙◌, ap, Option, Some, List, [], ◌∷◌, map}
use Rattle.theory_numbers.specs.Arrows.{Arrow}
use Rattle.theory_cuttings.specs.Ends.{IsEnd}
use Rattle.theory_cuttings.specs.Cuttings.{Break, IsFraction, HasLabel, IsCutting}
use Rattle.theory_cuttings.specs.Cuttings.{IsReducedCutting, AreDifferent}
use Rattle.theory_cuttings.specs.Changes.{break_at, last_label, Fine, refined}
use Rattle.theory_cuttings.proofs.Ends.{IsBetween, number_between, after_trans}
use Rattle.theory_cuttings.proofs.Parts.{glue_is_reduced}

-- each piece has its own cutting: the first one up to the first break, each other one from its break
-- to the next
abbrev pub AreCut : {L : Type 0} → (Arrow → L) → Option Arrow → Option Arrow → Fine L
    → List (Break (Fine L)) → Type 0
AreCut f low high piece [] = IsReducedCutting f low high piece.first piece.rest
AreCut f low high piece (b ∷ bs) =
    IsFraction b.start × IsReducedCutting f low (Some b.start) piece.first piece.rest
    × AreCut f (Some b.start) high b.label bs

-- the breaks of the coarse cutting: each with the coarse label of its piece's first label
abbrev pub coarse_breaks : {L K : Type 0} → (L → K) → List (Break (Fine L)) → List (Break K)
coarse_breaks g bs = map (λ b. break_at b.start (g b.label.first)) bs

module _ {L K : Type 0} (f : Arrow → L) (g : L → K) where
  -- a piece of one coarse label has it at its end too
  last_has : (low high : Option Arrow) → IsEnd low → IsEnd high → (label : K) → (first : L)
      (bs : List (Break L)) → IsCutting f low high first bs
      → HasLabel (λ u. g (f u)) low high label → g (last_label first bs) ≡ label
  last_has low high low_in high_in label first [] cut has =
      by (number_between low high low_in high_in cut.0)
    where
      by : (u : Arrow) × IsBetween low high u → g first ≡ label
      by (u, at) =
          ap g (sym (cut.1 u at.rational at.after at.before)) ∙ has u at.rational at.after at.before
  last_has low high low_in high_in label first (b ∷ bs) cut has =
      last_has (Some b.start) high cut.0.positive high_in label b.label bs cut.3
      (λ u u_in after before.
      has u u_in (after_trans low b.start u low_in cut.0.positive u_in cut.1 after) before)

  -- the pieces, read through, are a reduced cutting
  pub refined_is_reduced : (high : Option Arrow) → IsEnd high → (low : Option Arrow)
      (piece : Fine L) (bs : List (Break (Fine L))) → IsEnd low → AreCut f low high piece bs
      → IsCutting (λ u. g (f u)) low high (g piece.first) (coarse_breaks g bs)
      → AreDifferent (g piece.first) (coarse_breaks g bs)
      → IsReducedCutting f low high piece.first (refined piece.rest bs)
  refined_is_reduced high high_in low piece [] low_in cut coarse differ = cut
  refined_is_reduced high high_in low piece (b ∷ bs) low_in cut coarse differ =
      glue_is_reduced f low high b.start cut.0 piece.first b.label.first piece.rest
      (refined b.label.rest bs) cut.1
      (refined_is_reduced high high_in (Some b.start) b.label bs cut.0.positive cut.2 coarse.3
      differ.1)
      (λ same.
      differ.0
      (sym
      (last_has low (Some b.start) low_in cut.0.positive (g piece.first) piece.first piece.rest
      cut.1.cutting coarse.2)
      ∙ ap g same))
