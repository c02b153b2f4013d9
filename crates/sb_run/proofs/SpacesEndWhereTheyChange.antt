-- In a list by rising spaces, a space comes again exactly where the next boundary is of it.
use Rattle.std.proofs.Common.{◌≡◌, ◌<◌, ◌≤◌, ◌+◌, ◌==◌, ◌∙◌, ℕ, Bool, true, false, not, ◌||◌}
use Rattle.std.proofs.Common.{List, [], ◌∷◌, length, refl, sym, subst, arith, ap, leb-true}
use Rattle.std.proofs.lemmas.Bool.{and_parts, eqb-false, le-leb, ne_eqb}
use Rattle.std.specs.Prelude.{nat_le}
use Rattle.std.specs.List.{list_any}
use Rattle.sb_model.specs.declared.boundary.Boundary.{Boundary}
use Rattle.sb_run.specs.Messages.{have_rising_spaces, spaces_in, ends_space}

-- the space of a boundary
abbrev pub space_of : Boundary → ℕ
space_of b = b.patch.face.space

-- whether one of the boundaries is of this space
abbrev pub comes_in : ℕ → List Boundary → Bool
comes_in space bs = list_any (λ c. space_of c == space) bs

-- the first space is no lower than the given one, and the others rise from it
record Rises (from : ℕ) (b : Boundary) (bs : List Boundary) : Type 0 where
  low : from ≤ space_of b
  others : have_rising_spaces (space_of b) bs ≡ true

rises : (from : ℕ) (b : Boundary) (bs : List Boundary) → have_rising_spaces from (b ∷ bs) ≡ true
    → Rises from b bs
rises from b bs rising =
    let both = and_parts (nat_le from (space_of b)) (have_rising_spaces (space_of b) bs) rising in
    record { low = leb-true from (space_of b) both.0; others = both.1 }

again_or_not : (same later : Bool) → (same ≡ false → later ≡ false)
    → (same || later) ≡ not (not same)
again_or_not true later none = refl
again_or_not false later none = none refl

-- a space below all of the list does not stand in it
below_all : (n from : ℕ) (list : List Boundary) → n < from → have_rising_spaces from list ≡ true
    → comes_in n list ≡ false
below_all n from [] below rising = refl
below_all n from (b ∷ bs) below rising =
    let on = rises from b bs rising in
    let low = on.low in
    let apart : (space_of b == n) ≡ false = ne_eqb (space_of b) n (λ same. omega arith) in
    rw apart (below_all n (space_of b) bs (omega arith) on.others)

-- the space of the first boundary comes again exactly where the second is of it
pub comes_again : (from : ℕ) (b : Boundary) (bs : List Boundary)
    → have_rising_spaces from (b ∷ bs) ≡ true
    → comes_in (space_of b) bs ≡ not (ends_space (b ∷ bs))
comes_again from b [] rising = refl
comes_again from b (c ∷ cs) rising =
    let on = rises (space_of b) c cs (rises from b (c ∷ cs) rising).others in
    let low = on.low in
    again_or_not (space_of c == space_of b) _ (λ apart.
    let other = eqb-false (space_of c) (space_of b) apart in
    let below : space_of b < space_of c = omega (arith, other) in
    below_all (space_of b) (space_of c) cs below on.others)

-- a list that rises from some number rises from 0
rises_from_0 : (from : ℕ) (bs : List Boundary) → have_rising_spaces from bs ≡ true
    → have_rising_spaces 0 bs ≡ true
rises_from_0 from [] rising = refl
rises_from_0 from (b ∷ bs) rising =
    rw (le-leb 0 (space_of b) (omega arith)) (rises from b bs rising).others

-- What holds at each turn: the spaces before a place and those behind it are all, the list behind
-- it rises, and the spaces are no more than the boundaries.
pub record IsCountedSoFar (all : List Boundary) (spaces : ℕ) (rest : List Boundary) : Type 0 where
  pub counted : spaces + spaces_in rest ≡ spaces_in all
  pub rising : have_rising_spaces 0 rest ≡ true
  pub few : spaces + length rest ≤ length all

-- one boundary further the list behind the place still rises
rises_behind : (all : List Boundary) (spaces : ℕ) (b : Boundary) (bs : List Boundary)
    → IsCountedSoFar all spaces (b ∷ bs) → have_rising_spaces 0 bs ≡ true
rises_behind all spaces b bs whole = rises_from_0 (space_of b) bs (rises 0 b bs whole.rising).others

-- a space that ends at the first boundary is one more
pub ends_here : (all : List Boundary) (spaces : ℕ) (b : Boundary) (rest bs : List Boundary)
    → rest ≡ b ∷ bs → ends_space rest ≡ true
    → IsCountedSoFar all spaces rest → IsCountedSoFar all (spaces + 1) bs
ends_here all spaces b rest bs split ends so_far =
    let whole = subst (IsCountedSoFar all spaces) split so_far in
    let none : comes_in (space_of b) bs ≡ false =
    comes_again 0 b bs whole.rising ∙ ap not (ap ends_space (sym split) ∙ ends) in
    let counted = rw none at whole.counted in
    let few = whole.few in
    record {
      counted = omega arith;
      rising = rises_behind all spaces b bs whole;
      few = omega arith;
    }

-- and one that goes on is not
pub goes_on : (all : List Boundary) (spaces : ℕ) (b : Boundary) (rest bs : List Boundary)
    → rest ≡ b ∷ bs → ends_space rest ≡ false
    → IsCountedSoFar all spaces rest → IsCountedSoFar all spaces bs
goes_on all spaces b rest bs split ends so_far =
    let whole = subst (IsCountedSoFar all spaces) split so_far in
    let again : comes_in (space_of b) bs ≡ true =
    comes_again 0 b bs whole.rising ∙ ap not (ap ends_space (sym split) ∙ ends) in
    let counted = rw again at whole.counted in
    let few = whole.few in
    record {
      counted = omega arith;
      rising = rises_behind all spaces b bs whole;
      few = omega arith;
    }
