-- A cutting read backwards is a cutting of the function seen in the mirror at 0.
use Rattle.std.proofs.Common.{sym, Option, Some, List, [], ◌∷◌}
use Rattle.theory_numbers.specs.Arrows.{Arrow, mirror}
use Rattle.theory_cuttings.specs.Ends.{IsOpen, mirror_end}
use Rattle.theory_cuttings.specs.Cuttings.{Break, HasLabel, IsCutting, IsReducedCutting}
use Rattle.theory_cuttings.specs.Cuttings.{AreDifferent}
use Rattle.theory_cuttings.specs.Changes.{break_at, flip_onto, last_label}
use Rattle.theory_cuttings.proofs.Ends.{mirror-IsFraction, mirror_open, mirror_before, mirror_after}

module _ {L : Type 0} (f : Arrow → L) where
  -- the function in the mirror
  abbrev mirrored : Arrow → L
  mirrored u = f (mirror u)

  has_label_mirrored : (low high : Option Arrow) (label : L) → HasLabel f low high label
      → HasLabel mirrored (mirror_end high) (mirror_end low) label
  has_label_mirrored low high label has u u_in after before =
      has (mirror u) u_in (mirror_after u low before) (mirror_before u high after)

  -- what is behind cuts the mirrored function from the image of `low` on, whatever comes before it
  abbrev GoesOn : Option Arrow → Option Arrow → List (Break L) → Type 0
  GoesOn end low behind =
      (start : Option Arrow) (label : L) → IsOpen start (mirror_end low)
      → HasLabel mirrored start (mirror_end low) label
      → IsCutting mirrored start (mirror_end end) label behind

  backwards : (end low high : Option Arrow) (first : L) (bs behind : List (Break L))
      → IsCutting f low high first bs → GoesOn end low behind
      → IsCutting mirrored (mirror_end high) (mirror_end end) (last_label first bs)
      (flip_onto first bs behind)
  backwards end low high first [] behind cut goes_on =
      goes_on (mirror_end high) first (mirror_open low high cut.0)
      (has_label_mirrored low high first cut.1)
  backwards end low high first (b ∷ bs) behind cut goes_on =
      backwards end (Some b.start) high b.label bs (break_at (mirror b.start) first ∷ behind)
      cut.3
      (λ start label wide has. (
        mirror-IsFraction b.start cut.0,
        wide,
        has,
        goes_on (Some (mirror b.start)) first (mirror_open low (Some b.start) cut.1)
            (has_label_mirrored low (Some b.start) first cut.2),
      ))

  -- a cutting read backwards cuts the mirrored function
  pub flip_is : (low high : Option Arrow) (first : L) (bs : List (Break L))
      → IsCutting f low high first bs
      → IsCutting mirrored (mirror_end high) (mirror_end low) (last_label first bs)
      (flip_onto first bs [])
  flip_is low high first bs cut =
      backwards low low high first bs [] cut (λ start label wide has. (wide, has))

different_backwards : {L : Type 0} (first : L) (bs behind : List (Break L)) → AreDifferent first bs
    → AreDifferent first behind → AreDifferent (last_label first bs) (flip_onto first bs behind)
different_backwards first [] behind differ after = after
different_backwards first (b ∷ bs) behind differ after =
    different_backwards b.label bs (break_at (mirror b.start) first ∷ behind) differ.1
    (λ same. differ.0 (sym same), after)

-- and reduced stays reduced
pub flip_is_reduced : {L : Type 0} (f : Arrow → L) (low high : Option Arrow) (first : L)
    (bs : List (Break L)) → IsReducedCutting f low high first bs
    → IsReducedCutting (λ u. f (mirror u)) (mirror_end high) (mirror_end low)
    (last_label first bs) (flip_onto first bs [])
flip_is_reduced f low high first bs reduced =
    record {
      cutting = flip_is f low high first bs reduced.cutting;
      different = different_backwards first bs [] reduced.different tt;
    }
