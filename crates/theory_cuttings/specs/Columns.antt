-- The column of a line through products. A product has numbers on the line, its own values, at each
-- of which it begins or ends: so it is present where an odd number of them lie below. A label that
-- sees the products only by their presence changes at values alone.
use Rattle.std.specs.Prelude.{◌≡◌, Bool, Option, Some, List, [], ◌∷◌, map, ⊤}
use Rattle.std.specs.List.{AllByRecursion}
use Rattle.theory_lists.specs.Members.{Stands}
use Rattle.theory_lists.specs.Parity.{is_odd_number}
use Rattle.theory_numbers.specs.Arrows.{Arrow}
use Rattle.theory_numbers.specs.Rationals.{IsRational, IsSame, is_below, is_at_most}
use Rattle.theory_cuttings.specs.Ends.{IsAfter}
use Rattle.theory_cuttings.specs.Cuttings.{Break, IsFraction}
use Rattle.theory_cuttings.specs.Changes.{break_at}

-- an odd number of these values lie below v
abbrev pub is_odd_below : List Arrow → Arrow → Bool
is_odd_below values v = is_odd_number (λ t. is_below t v) values

-- an odd number of them lie at v or below it
abbrev pub is_odd_up_to : List Arrow → Arrow → Bool
is_odd_up_to values v = is_odd_number (λ t. is_at_most t v) values

-- the numbers are reduced fractions and rise, the first above the end
abbrev pub Rise : Option Arrow → List Arrow → Type 0
Rise low [] = ⊤
Rise low (t ∷ ts) = IsFraction t × IsAfter low t × Rise (Some t) ts

-- t is one of the numbers, however it is written
abbrev pub IsOneOf : Arrow → List Arrow → Type 0
IsOneOf t ts = (s : Arrow) × Stands s ts × IsSame t s

-- each value of each product is one of the numbers
abbrev pub HaveAllValues : {Q : Type 0} → (Q → List Arrow) → List Arrow → Type 0
HaveAllValues {Q} values ts =
    (q : Q) → AllByRecursion (λ t. IsRational t × IsOneOf t ts) (values q)

-- the function has the label of the products that are present. At a value, where a product begins or
-- ends, the product may be present or not
pub record HasLabelOfPresent {L Q : Type 0} (f : Arrow → L) (label : (Q → Bool) → L)
    (values : Q → List Arrow) : Type 0 where
  pub is_present : Arrow → Q → Bool
  pub label_is : (v : Arrow) → IsRational v → f v ≡ label (is_present v)
  pub present_is : (v : Arrow) → IsRational v → (q : Q)
      → is_odd_below (values q) v ≡ is_odd_up_to (values q) v
      → is_present v q ≡ is_odd_below (values q) v

-- where two sides have one label, so has what lies between them: there a product is present that is
-- present on both sides, and no product that is on neither
abbrev pub SeesBetween : {L Q : Type 0} → ((Q → Bool) → L) → Type 0
SeesBetween {L} {Q} label =
    (before between after : Q → Bool) → ((q : Q) → before q ≡ after q → between q ≡ before q)
    → label before ≡ label after → label between ≡ label before

-- the products that are present just after t
abbrev pub present_after : {Q : Type 0} → (Q → List Arrow) → Arrow → Q → Bool
present_after values t q = is_odd_up_to (values q) t

-- the column: at each of the numbers the label just after it
abbrev pub column_of : {L Q : Type 0} → ((Q → Bool) → L) → (Q → List Arrow) → List Arrow
    → List (Break L)
column_of label values ts = map (λ t. break_at t (label (present_after values t))) ts
