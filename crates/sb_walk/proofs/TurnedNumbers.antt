-- A number that is taken out of rising numbers, or put in at its place, is turned.

use Rattle.std.proofs.Common.{◌≡◌, refl, sym, ap, ◌∙◌, subst, arith, ℕ, zero, suc, ◌<◌, ◌≤◌, ◌==◌, Bool, true, false}
use Rattle.std.proofs.Common.{not, ◌||◌, List, [], ◌∷◌, length, get_or}
use Rattle.std.proofs.Common.{Result, Ok, Err, IfOk, IfErr}
use Rattle.std.specs.List.{AllByRecursion, insert, remove}
use Rattle.std.specs.List.Sorted.{IsBinarySearchResult}
use Rattle.std.specs.Ordering.{nat_cmp}
use Rattle.std.proofs.lemmas.Bool.{ne_eqb, eqb-true}
use Rattle.std.proofs.lemmas.List.Sorted.{searched}
use Rattle.theory_lists.specs.Parity.{differ}
use Rattle.theory_lists.proofs.Parity.{differ-false}
use Rattle.sb_walk.specs.Present.{Rise, is_one_of, IsTurned, IsPlaceOf, IsPlaceFor}

-- ---- what holds of each

all-remove : (P : ℕ → Type 0) (xs : List ℕ) → AllByRecursion P xs → (i : ℕ) → AllByRecursion P (remove xs i)
all-remove P [] all zero = tt
all-remove P [] all (suc i) = tt
all-remove P (x ∷ xs) all zero = all.1
all-remove P (x ∷ xs) all (suc i) = (all.0, all-remove P xs all.1 i)

all-insert : (P : ℕ → Type 0) (xs : List ℕ) → AllByRecursion P xs → (x : ℕ) → P x → (i : ℕ)
    → AllByRecursion P (insert xs i x)
all-insert P [] all x is zero = (is, tt)
all-insert P [] all x is (suc i) = (is, tt)
all-insert P (y ∷ ys) all x is zero = (is, all)
all-insert P (y ∷ ys) all x is (suc i) = (all.0, all-insert P ys all.1 x is i)

at_place : (P : ℕ → Type 0) (xs : List ℕ) → AllByRecursion P xs → (i : ℕ) → i < length xs → P (get_or xs i 0)
at_place P [] all i there = absurd (omega arith)
at_place P (x ∷ xs) all zero there = all.0
at_place P (x ∷ xs) all (suc i) there = at_place P xs all.1 i (omega arith)

from_places : (x : ℕ) (xs : List ℕ) → ((k : ℕ) → k < length xs → x < get_or xs k 0)
    → AllByRecursion (λ y. x < y) xs
from_places x [] each = tt
from_places x (y ∷ ys) each =
    (each 0 (omega arith), from_places x ys (λ k there. each (suc k) (omega arith)))

none_above : (x : ℕ) (xs : List ℕ) → AllByRecursion (λ y. x < y) xs → is_one_of xs x ≡ false
none_above x [] above = refl
none_above x (y ∷ ys) above =
    let less = above.0 in
    ap (λ b. b || is_one_of ys x) (ne_eqb y x (λ same. omega arith)) ∙ none_above x ys above.1

-- ---- taken out

module _ (x : ℕ) where
  here_or_not : (y n : ℕ) (xs : List ℕ) (one : Bool) → y < x → one ≡ differ (is_one_of xs n) (x == n)
      → ((y == n) || one) ≡ differ ((y == n) || is_one_of xs n) (x == n)
  here_or_not y n xs one less rest = by (y == n) refl
    where
      by : (b : Bool) → (y == n) ≡ b → (b || one) ≡ differ (b || is_one_of xs n) (x == n)
      by true is =
          let same : y ≡ n = eqb-true y n is in
          sym (ap not (ne_eqb x n (λ other. omega arith)))
      by false is = rest

  pub taken_out : (xs : List ℕ) → Rise xs → (i : ℕ) → i < length xs → get_or xs i 0 ≡ x
      → IsTurned x xs (remove xs i)
  taken_out [] rise i there is = absurd (omega arith)
  taken_out (y ∷ ys) rise zero there is =
      record { rise = rise.1; each = each }
    where
      each : (n : ℕ) → is_one_of ys n ≡ differ ((y == n) || is_one_of ys n) (x == n)
      each n =
          by (y == n) refl
          ∙ ap (λ k. differ ((y == n) || is_one_of ys n) (k == n)) is
        where
          by : (b : Bool) → (y == n) ≡ b → is_one_of ys n ≡ differ ((y == n) || is_one_of ys n) (y == n)
          by true is_so =
              ap (is_one_of ys) (sym (eqb-true y n is_so)) ∙ none_above y ys rise.0
              ∙ sym (ap (λ b. differ (b || is_one_of ys n) b) is_so)
          by false is_not =
              sym (ap (λ b. differ (b || is_one_of ys n) b) is_not ∙ differ-false (is_one_of ys n))
  taken_out (y ∷ ys) rise (suc i) there is =
      let rest = taken_out ys rise.1 i (omega arith) is in
      let less = subst (λ k. y < k) is (at_place (λ k. y < k) ys rise.0 i (omega arith)) in
      record {
        rise = (all-remove (λ k. y < k) ys rise.0 i, rest.rise);
        each = λ n. here_or_not y n ys (is_one_of (remove ys i) n) less (rest.each n);
      }

  -- ---- put in

  pub put_in : (xs : List ℕ) → Rise xs → (i : ℕ) → i ≤ length xs → ((k : ℕ) → k < i → get_or xs k 0 < x)
      → ((k : ℕ) → i ≤ k → k < length xs → x < get_or xs k 0) → IsTurned x xs (insert xs i x)
  put_in xs rise zero there before behind =
      record { rise = (above, rise); each = each }
    where
      above : AllByRecursion (λ y. x < y) xs
      above = from_places x xs (λ k in_. behind k (omega arith) in_)

      each : (n : ℕ) → ((x == n) || is_one_of xs n) ≡ differ (is_one_of xs n) (x == n)
      each n = by (x == n) refl
        where
          by : (b : Bool) → (x == n) ≡ b → (b || is_one_of xs n) ≡ differ (is_one_of xs n) b
          by true is =
              sym (ap (λ c. differ c true)
              (ap (is_one_of xs) (sym (eqb-true x n is)) ∙ none_above x xs above))
          by false is = sym (differ-false (is_one_of xs n))
  put_in [] rise (suc i) there before behind = absurd (omega arith)
  put_in (y ∷ ys) rise (suc i) there before behind =
      let rest = put_in ys rise.1 i (omega arith) (λ k less. before (suc k) (omega arith))
      (λ k more in_. behind (suc k) (omega arith) (omega arith)) in
      let less = before 0 (omega arith) in
      record {
        rise = (all-insert (λ k. y < k) ys rise.0 x less i, rest.rise);
        each = λ n. here_or_not y n ys (is_one_of (insert ys i x) n) less (rest.each n);
      }

-- ---- rising numbers by their places

pub rising_places : (xs : List ℕ) → Rise xs → (i j : ℕ) → i ≤ j → j < length xs → get_or xs i 0 ≤ get_or xs j 0
rising_places [] rise i j order there = absurd (omega arith)
rising_places (x ∷ xs) rise zero zero order there = omega arith
rising_places (x ∷ xs) rise zero (suc j) order there =
    let less = at_place (λ y. x < y) xs rise.0 j (omega arith) in omega arith
rising_places (x ∷ xs) rise (suc i) zero order there = absurd (omega arith)
rising_places (x ∷ xs) rise (suc i) (suc j) order there =
    rising_places xs rise.1 i j (omega arith) (omega arith)

-- ---- the place that is found

-- by halving
pub found_by_halving : (xs : List ℕ) → Rise xs → (x : ℕ) (r : Result ℕ ℕ)
    → IsBinarySearchResult (λ y. nat_cmp y x) xs r
    → IfOk r (IsPlaceOf x xs) × IfErr r (IsPlaceFor x xs)
found_by_halving xs rise x (Ok i) search_is =
    let at = searched xs x (Ok i) search_is (rising_places xs rise) in
    (record { within = at.0; is = at.1 }, tt)
found_by_halving xs rise x (Err i) search_is =
    let at = searched xs x (Err i) search_is (rising_places xs rise) in
    (tt, record { within = at.0; before = at.1; behind = at.2 })

-- ---- the list that is left

module _ (k : ℕ) (slice old new : List ℕ) (seen : slice ≡ old) (rise : Rise old) (i : ℕ) where
  pub turned_out : IsPlaceOf k slice i → new ≡ remove old i → IsTurned k old new
  turned_out at made =
      let place = subst (λ xs. IsPlaceOf k xs i) seen at in
      subst (IsTurned k old) (sym made) (taken_out k old rise i place.within place.is)

  pub turned_in : IsPlaceFor k slice i → new ≡ insert old i k → IsTurned k old new
  turned_in at made =
      let place = subst (λ xs. IsPlaceFor k xs i) seen at in
      subst (IsTurned k old) (sym made)
      (put_in k old rise i place.within place.before place.behind)
