-- Cuttings: a function of the rational numbers that has one label on each piece of an interval.
use Rattle.std.specs.Prelude.{◌≡◌, Option, Some, List, [], ◌∷◌, ⊤}
use Rattle.theory_numbers.specs.Arrows.{Arrow}
use Rattle.theory_numbers.specs.Rationals.{IsRational, IsSame}
use Rattle.theory_numbers.specs.Reduced.{IsReduced}
use Rattle.theory_cuttings.specs.Ends.{IsOpen, IsAfter, IsBefore}

-- the place where a piece starts, and the label on the piece
pub record Break (L : Type 0) : Type 0 where
  pub start : Arrow
  pub label : L

-- the number is a reduced fraction, so that equal numbers are equal data
abbrev pub IsFraction : Arrow → Type 0
IsFraction r = IsReduced r.y r.x

-- the function does not see how a number is written: 1/2 and 2/4 have one label
abbrev pub IsAlike : {L : Type 0} → (Arrow → L) → Type 0
IsAlike f = (r s : Arrow) → IsRational r → IsRational s → IsSame r s → f r ≡ f s

-- it has this label at every rational number strictly between the ends
abbrev pub HasLabel : {L : Type 0} → (Arrow → L) → Option Arrow → Option Arrow → L → Type 0
HasLabel f low high label =
    (u : Arrow) → IsRational u → IsAfter low u → IsBefore u high → f u ≡ label

-- the breaks rise inside the interval, and cut it into pieces that have one label each: `first` up
-- to the first break, from each break to the next one the break's label. At the breaks themselves
-- the function may have any label
abbrev pub IsCutting : {L : Type 0} → (Arrow → L) → Option Arrow → Option Arrow → L
    → List (Break L) → Type 0
IsCutting f low high first [] = IsOpen low high × HasLabel f low high first
IsCutting f low high first (b ∷ bs) =
    IsFraction b.start × IsAfter low b.start × HasLabel f low (Some b.start) first
    × IsCutting f (Some b.start) high b.label bs

-- neighbouring labels differ
abbrev pub AreDifferent : {L : Type 0} → L → List (Break L) → Type 0
AreDifferent first [] = ⊤
AreDifferent first (b ∷ bs) = (first ≡ b.label → ⊥) × AreDifferent b.label bs

-- a cutting without needless breaks
pub record IsReducedCutting {L : Type 0} (f : Arrow → L) (low high : Option Arrow) (first : L)
    (breaks : List (Break L)) : Type 0 where
  pub cutting : IsCutting f low high first breaks
  pub different : AreDifferent first breaks

-- no point is odd: where the labels on both sides of a break are one label, the function has this
-- label at the break too
abbrev pub HasNoOddPoint : {L : Type 0} → (Arrow → L) → L → List (Break L) → Type 0
HasNoOddPoint f first [] = ⊤
HasNoOddPoint f first (b ∷ bs) =
    (first ≡ b.label → f b.start ≡ first) × HasNoOddPoint f b.label bs
