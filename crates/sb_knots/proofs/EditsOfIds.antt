-- What is put in or taken out behind the first items of a list.

use Rattle.std.proofs.Common.{◌≡◌, sym, ap, ap₂, ◌∙◌, ℕ, zero, suc, ◌<◌, ◌≤◌, Bool, true, false}
use Rattle.std.proofs.Common.{subst}
use Rattle.std.proofs.Common.{List, [], ◌∷◌, ◌++◌, length, take, drop, IsTrue, refl, arith}
use Rattle.std.proofs.Common.{Option, Some, None, ◌&&◌, Result, Ok, Err, OnOk, slice_index_or}
use Rattle.std.specs.List.{list_all, list_any, AllByRecursion, slice_get, insert, remove}
use Rattle.std.proofs.lemmas.Bool.{and_parts, and_from, or_parts}
use Rattle.std.proofs.lemmas.List.{take-append-drop}
use Rattle.theory_lists.specs.Parted.{IsPartedAt}
use Rattle.theory_sweep.specs.Corners.{Corner}
use Rattle.sb_fraction.specs.declared.point.Point.{Point}
use Rattle.sb_blocks.specs.Places.{item_before}
use Rattle.sb_knots.specs.Steps.{ends_at, lies_under, drop_first, are_linked, listed, IsTaken}
use Rattle.sb_knots.specs.Steps.{IsLeft, IsClosed}
use Rattle.sb_knots.proofs.IdsOfEdges.{IsClosing}

-- ---- a test that each item passes

module _ (test : ℕ → Bool) where
  pub all_removed : (xs : List ℕ) (n : ℕ) → IsTrue (list_all test xs)
      → IsTrue (list_all test (remove xs n))
  all_removed [] zero all = all
  all_removed [] (suc n) all = all
  all_removed (x ∷ xs) zero all = (and_parts (test x) (list_all test xs) all).1
  all_removed (x ∷ xs) (suc n) all =
      let parts = and_parts (test x) (list_all test xs) all in
      and_from (test x) (list_all test (remove xs n)) parts.0 (all_removed xs n parts.1)

  pub all_inserted : (xs : List ℕ) (n y : ℕ) → IsTrue (list_all test xs) → IsTrue (test y)
      → IsTrue (list_all test (insert xs n y))
  all_inserted [] zero y all passes = and_from (test y) true passes refl
  all_inserted [] (suc n) y all passes = and_from (test y) true passes refl
  all_inserted (x ∷ xs) zero y all passes = and_from (test y) (list_all test (x ∷ xs)) passes all
  all_inserted (x ∷ xs) (suc n) y all passes =
      let parts = and_parts (test x) (list_all test xs) all in
      and_from (test x) (list_all test (insert xs n y)) parts.0 (all_inserted xs n y parts.1 passes)

  pub all_listed : (xs : List ℕ) (n : ℕ) → IsTrue (list_all test xs)
      → IsTrue (list_all test (listed (slice_get xs n)))
  all_listed [] zero all = refl
  all_listed [] (suc n) all = refl
  all_listed (x ∷ xs) zero all =
      and_from (test x) true (and_parts (test x) (list_all test xs) all).0 refl
  all_listed (x ∷ xs) (suc n) all = all_listed xs n (and_parts (test x) (list_all test xs) all).1

  pub all_before : (xs : List ℕ) (n : ℕ) → IsTrue (list_all test xs)
      → IsTrue (list_all test (listed (item_before xs n)))
  all_before xs zero all = refl
  all_before xs (suc n) all = all_listed xs n all

-- ---- neighbours

-- up to an item, and from there on
pub linked_at : (test : ℕ → ℕ → Bool) (before : Option ℕ) (x : ℕ) (ys : List ℕ)
    → are_linked test (listed before ++ x ∷ ys)
    ≡ (are_linked test (listed before ++ x ∷ []) && are_linked test (x ∷ ys))
linked_at test None x ys = refl
linked_at test (Some a) x ys = table (test a x) (are_linked test (x ∷ ys))
  where
    table : (b c : Bool) → (b && c) ≡ ((b && true) && c)
    table true c = refl
    table false c = refl

-- ---- places

pub take_removed : (xs : List ℕ) (n : ℕ) → n < length xs → take n (remove xs n) ≡ take n xs
take_removed [] n within = absurd (omega arith)
take_removed (x ∷ xs) zero within = refl
take_removed (x ∷ xs) (suc n) within = ap (λ t. x ∷ t) (take_removed xs n (omega arith))

pub drop_removed : (xs : List ℕ) (n : ℕ) → n < length xs → drop n (remove xs n) ≡ drop (suc n) xs
drop_removed [] n within = absurd (omega arith)
drop_removed (x ∷ xs) zero within = refl
drop_removed (x ∷ xs) (suc n) within = drop_removed xs n (omega arith)

pub within_removed : (xs : List ℕ) (n : ℕ) → n < length xs → n ≤ length (remove xs n)
within_removed [] n within = absurd (omega arith)
within_removed (x ∷ xs) zero within = omega arith
within_removed (x ∷ xs) (suc n) within =
    let rest = within_removed xs n (omega arith) in omega arith

pub shorter_removed : (xs : List ℕ) (n : ℕ) → n < length xs → length (remove xs n) < length xs
shorter_removed [] n within = absurd (omega arith)
shorter_removed (x ∷ xs) zero within = omega arith
shorter_removed (x ∷ xs) (suc n) within =
    let rest = shorter_removed xs n (omega arith) in omega arith

pub drop_at : (xs : List ℕ) (n id : ℕ) → slice_get xs n ≡ Some id → drop n xs ≡ id ∷ drop (suc n) xs
drop_at [] zero id at = cc
drop_at [] (suc n) id at = cc
drop_at (x ∷ xs) zero id at = let same : x ≡ id = cc in ap (λ t. t ∷ xs) same
drop_at (x ∷ xs) (suc n) id at = drop_at xs n id at

-- something stands at each place of a list
pub item_at : {X : Type 0} (xs : List X) (n : ℕ) → n < length xs → (x : X) × (slice_get xs n
    ≡ Some x)
item_at [] n within = absurd (omega arith)
item_at (x ∷ xs) zero within = (x, refl)
item_at (x ∷ xs) (suc n) within = item_at xs n (omega arith)

pub take_put : (xs ys : List ℕ) (n : ℕ) → n ≤ length xs → take n (take n xs ++ ys) ≡ take n xs
take_put xs ys zero within = refl
take_put [] ys (suc n) within = absurd (omega arith)
take_put (x ∷ xs) ys (suc n) within = ap (λ t. x ∷ t) (take_put xs ys n (omega arith))

pub drop_put : (xs ys : List ℕ) (n : ℕ) → n ≤ length xs → drop n (take n xs ++ ys) ≡ ys
drop_put xs ys zero within = refl
drop_put [] ys (suc n) within = absurd (omega arith)
drop_put (x ∷ xs) ys (suc n) within = drop_put xs ys n (omega arith)

pub within_put : (xs ys : List ℕ) (n : ℕ) → n ≤ length xs → n ≤ length (take n xs ++ ys)
within_put xs ys zero within = omega arith
within_put [] ys (suc n) within = absurd (omega arith)
within_put (x ∷ xs) ys (suc n) within =
    let rest = within_put xs ys n (omega arith) in omega arith

-- what is put in behind the first ones, and does not pass, parts the list there
pub parted_put : (test : ℕ → Bool) (xs ys : List ℕ) (n : ℕ) → n ≤ length xs → IsPartedAt test n xs
    → AllByRecursion (λ x. test x ≡ false) ys → IsPartedAt test n (take n xs ++ ys)
parted_put test xs ys n within parted fails = record {
  first = subst (AllByRecursion (λ x. test x ≡ true)) (sym (take_put xs ys n within)) parted.first;
  rest = subst (AllByRecursion (λ x. test x ≡ false)) (sym (drop_put xs ys n within)) fails;
}

-- ---- items that end

-- the first ones that pass were dropped already
dropped_stays : (test : ℕ → Bool) (xs : List ℕ)
    → ((id : ℕ) → slice_get xs 0 ≡ Some id → test id ≡ false) → drop_first test xs ≡ xs
dropped_stays test [] fails = refl
dropped_stays test (x ∷ xs) fails = rw (fails x refl) refl

get_dropped : (xs : List ℕ) (n : ℕ) → slice_get (drop n xs) 0 ≡ slice_get xs n
get_dropped xs zero = refl
get_dropped [] (suc n) = refl
get_dropped (x ∷ xs) (suc n) = get_dropped xs n

-- they do not matter any more
dropped_more : (test : ℕ → Bool) (id : ℕ) (xs : List ℕ) → test id ≡ true
    → drop_first test (id ∷ xs) ≡ drop_first test xs
dropped_more test id xs passes = rw passes refl

module _ (corners : List Corner) (v : Point) (n : ℕ) (before after next : List ℕ) where
  pub closing_on : IsClosing corners v n before after → IsTaken corners v n after next
      → IsClosing corners v n before next
  closing_on closing taken = record {
    list = ap₂ (λ s t. s ++ drop_first (ends_at corners v) t) (ap (take n) taken.rest
        ∙ take_removed after n taken.within)
        (ap (drop n) taken.rest ∙ drop_removed after n taken.within)
        ∙ ap (λ t. take n after ++ t)
        (sym (ap (drop_first (ends_at corners v)) (drop_at after n item.0 item.1)
        ∙ dropped_more (ends_at corners v) item.0 (drop (suc n) after) (taken.ends item.0 item.1)))
        ∙ closing.list;
    within = subst (λ t. n ≤ length t) (sym taken.rest) (within_removed after n taken.within);
    parted = subst (IsPartedAt (lies_under corners v) n) (sym taken.rest)
        (record {
          first = subst (AllByRecursion (λ x. lies_under corners v x ≡ true))
              (sym (take_removed after n taken.within)) closing.parted.first;
          rest = subst (AllByRecursion (λ x. lies_under corners v x ≡ false))
              (sym (drop_removed after n taken.within))
              (subst (AllByRecursion (λ x. lies_under corners v x ≡ false))
              (drop_at after n item.0 item.1) closing.parted.rest).1;
        });
  }
    where
      item : (id : ℕ) × (slice_get after n ≡ Some id)
      item = item_at after n taken.within

  pub closing_done : IsClosing corners v n before after → IsLeft corners v n after next
      → IsClosed corners v n before next
  closing_done closing left = record {
    list = left.same ∙ sym (take-append-drop n after)
        ∙ ap (λ t. take n after ++ t)
        (sym (dropped_stays (ends_at corners v) (drop n after)
        (λ id at. left.goes_on id (sym (get_dropped after n) ∙ at))))
        ∙ closing.list;
    within = subst (λ t. n ≤ length t) (sym left.same) closing.within;
    parted = subst (IsPartedAt (lies_under corners v) n) (sym left.same) closing.parted;
  }

-- for links
pub ruleset links = (linked_at, all_listed)

-- what follows of an answer that is one
pub on_ok : {A B : Type 0} (r : Result A B) (P Q : Type 0) → (P → Q) → OnOk r P → OnOk r Q
on_ok (Ok x) P Q step known = step known
on_ok (Err x) P Q step known = tt

-- two that are put in one after the other
pub two_put : (test : ℕ → Bool) (xs mid last : List ℕ) (n x y : ℕ) → n ≤ length xs
    → IsPartedAt test n xs → list_any test (x ∷ y ∷ []) ≡ false
    → mid ≡ take n xs ++ y ∷ drop n xs
    → (n ≤ length mid → IsPartedAt test n mid → last ≡ take n mid ++ x ∷ drop n mid)
    → last ≡ take n xs ++ (x ∷ y ∷ drop n xs)
two_put test xs mid last n x y within parted over mid_is last_is =
    last_is (subst (λ t. n ≤ length t) (sym mid_is) (within_put xs (y ∷ drop n xs) n within))
    (subst (IsPartedAt test n) (sym mid_is)
    (parted_put test xs (y ∷ drop n xs) n within parted (fails, parted.rest)))
    ∙ ap₂ (λ s t. s ++ x ∷ t) (ap (take n) mid_is ∙ take_put xs (y ∷ drop n xs) n within)
    (ap (drop n) mid_is ∙ drop_put xs (y ∷ drop n xs) n within)
  where
    fails : test y ≡ false
    fails = (or_parts (test y) false (or_parts (test x) (list_any test (y ∷ [])) over).1).0

-- what stands at a place of a list
pub get_is : {X : Type 0} (xs : List X) (n : ℕ) (x : X) → n < length xs → x ≡ slice_index_or xs n x
    → slice_get xs n ≡ Some x
get_is [] n x within same = absurd (omega arith)
get_is (y ∷ ys) zero x within same = ap Some (sym same)
get_is (y ∷ ys) (suc n) x within same = get_is ys n x (omega arith) same
