-- The answer at the first corner of a loop is the sense of the loop.

use Rattle.std.proofs.Common.{◌≡◌, inl, inr, refl, sym, ap, ◌∙◌, arith, ℕ, zero, suc, ◌<◌, ◌≤◌}
use Rattle.std.proofs.Common.{nat_cmp}
use Rattle.std.proofs.Common.{Bool, true, false, List, [], ◌∷◌, length, subst, slice_index_or, Some}
use Rattle.std.proofs.Common.{Ok, Err, map, take, ◌++◌, ◌+◌}
use Rattle.std.proofs.Common.{⊎_elim}
use Rattle.std.specs.Ordering.{ordering_index}
use Rattle.std.specs.List.{list_all, slice_get}
use Rattle.std.specs.List.Sorted.{IsNonDecreasingBy, IsBinarySearchResult}
use Rattle.std.specs.declared.cmp.Ordering.TheVariants as ordering
use Rattle.std.proofs.lemmas.Bool.{and_parts, false≢true, cases_lt}
use Rattle.std.proofs.lemmas.List.Sorted.{IsPermutation-sym}
use Rattle.std.proofs.lemmas.Option.{slice_get_within}
use Rattle.std.proofs.lemmas.List.{take_more, map-append}
use Rattle.theory_lists.specs.Members.{Stands}
use Rattle.theory_lists.proofs.Blocks.{stands_before, stands_behind}
use Rattle.theory_lists.proofs.InAnyOrder.{stands_permuted}
use Rattle.theory_lists.proofs.Members.{stands_at}
use Rattle.sb_fraction.specs.declared.point.Point.{Point}
use Rattle.theory_plans.specs.LoopEdges.{edges_of}
use Rattle.theory_plans.specs.Loops.{is_bent_loop, comes_before, is_least_first}
use Rattle.theory_parity.specs.Sides.{is_left_at_first}
use Rattle.theory_loops.specs.Normal.{last_of}
use Rattle.theory_sweep.specs.Corners.{Corner, corner_at, corners_of, corners_of_loop, corners_on}
use Rattle.theory_sweep.specs.Passing.{pass_of, sweep_way}
use Rattle.theory_sweep.proofs.EdgesAtACorner.{one_corner}
use Rattle.sb_knots.specs.Listing.{IsListing, IsSwept}
use Rattle.sb_knots.specs.Steps.{key_at, key_of}
use Rattle.sb_knots.proofs.CornersInOrder.{passed_apart, range_at}
use Rattle.sb_knots.proofs.EditsOfIds.{item_at}
use Rattle.sb_knots.proofs.ListingIsMade.{one_by_key, at_in}

-- ---- the first corner

corner_in_loops : (loops : List (List Point)) (points : List Point) (c : Corner)
    → Stands points loops
    → Stands c (corners_of_loop points) → Stands c (corners_of loops)
corner_in_loops [] points c at c_in = absurd at
corner_in_loops (one ∷ loops) points c (inl same) c_in =
    stands_before c (corners_of_loop one) (corners_of loops)
    (subst (λ p. Stands c (corners_of_loop p)) same c_in)
corner_in_loops (one ∷ loops) points c (inr later) c_in =
    stands_behind c (corners_of_loop one) (corners_of loops)
    (corner_in_loops loops points c later c_in)

bent_there : (loops : List (List Point)) (points : List Point) → Stands points loops
    → list_all is_bent_loop loops ≡ true → is_bent_loop points ≡ true
bent_there [] points at all = absurd at
bent_there (one ∷ loops) points (inl same) all =
    ap is_bent_loop same ∙ (and_parts (is_bent_loop one) (list_all is_bent_loop loops) all).0
bent_there (one ∷ loops) points (inr later) all =
    bent_there loops points later (and_parts (is_bent_loop one) (list_all is_bent_loop loops) all).1

last_passes : (test : Point → Bool) (b : Point) (points : List Point)
    → list_all test (b ∷ points) ≡ true → test (last_of b points) ≡ true
last_passes test b [] all = (and_parts (test b) true all).0
last_passes test b (d ∷ points) all =
    last_passes test d points (and_parts (test b) (list_all test (d ∷ points)) all).1

-- where an item stands
place_of : (c : Corner) (cs : List Corner) → Stands c cs → (j : ℕ) × (slice_get cs j ≡ Some c)
place_of c [] at = absurd at
place_of c (b ∷ cs) (inl same) = (zero, ap Some (sym same))
place_of c (b ∷ cs) (inr later) = further (place_of c cs later)
  where
    further : (j : ℕ) × (slice_get cs j ≡ Some c) → (j : ℕ) × (slice_get (b ∷ cs) j ≡ Some c)
    further (j, found) = (suc j, found)

module _ (loops : List (List Point)) (corners : List Corner) (listing : IsListing loops corners)
    (a b : Point) (rest : List Point) (there : Stands (a ∷ b ∷ rest) loops) where
  abbrev first : Corner
  first = corner_at (last_of b rest) a b

  head_corner : (points : List Point)
      → Stands first (corners_on (last_of b rest) a (b ∷ points) a)
  head_corner points = inl refl

  first_in : Stands first (corners_of loops)
  first_in = corner_in_loops loops (a ∷ b ∷ rest) first there (inl refl)

  -- it has a place in the list
  pub first_place : (j : ℕ) × (slice_get corners j ≡ Some first)
  first_place = place_of first corners (stands_permuted first
      (corners_of loops) corners listing.are first_in)

  -- and a corner that is passed with it is this corner
  first_alone : (j : ℕ) (c : Corner) → slice_get corners j ≡ Some c → key_of c ≡ key_at a → c
      ≡ first
  first_alone j c at same =
      let place = first_place in
      one_corner sweep_way loops (passed_apart loops corners listing) c first
      (stands_permuted c corners (corners_of loops)
      (IsPermutation-sym (corners_of loops) corners listing.are) (stands_at corners j c at))
      first_in
      (ap (pass_of sweep_way)
      (one_by_key c.at a (at_in c (range_at corners listing.in_range j c at))
      (at_in first (range_at corners listing.in_range place.0 first place.1)) same))

  -- so the answer there is the sense
  pub first_answer : (lefts : List Bool) → IsSwept loops corners lefts
      → is_least_first (a ∷ b ∷ rest) ≡ true → (j : ℕ) (c : Corner) (left : Bool)
      → slice_get corners j ≡ Some c → key_of c ≡ key_at a → slice_get lefts j ≡ Some left
      → left ≡ is_left_at_first (edges_of loops) (a ∷ b ∷ rest)
  first_answer lefts swept least j c left at same answer =
      let one = first_alone j c at same in
      swept.senses.senses j first left (at ∙ ap Some one) answer
      (last_passes (comes_before a) b rest least)
      (and_parts (comes_before a b) (list_all (comes_before a) rest) least).0
      swept.apart

-- ---- the search

equal_number : (a b : ℕ) → nat_cmp a b ≡ ordering.Equal → a ≡ b
equal_number a b e = grind (arith, e)

less_number : (a b : ℕ) → nat_cmp a b ≡ ordering.Less → a < b
less_number a b e = grind (arith, e)

greater_number : (a b : ℕ) → nat_cmp a b ≡ ordering.Greater → b < a
greater_number a b e = grind (arith, e)

higher : (a b n : ℕ) → a ≤ b → ordering_index (nat_cmp a n) ≤ ordering_index (nat_cmp b n)
higher a b n le = grind (arith)

module _ (corners : List Corner) (n : ℕ) where
  -- what was found has the key
  pub found_key : (at : ℕ) (d : Corner)
      → IsBinarySearchResult (λ c. nat_cmp (key_of c) n) corners (Ok at)
      → key_of (slice_index_or corners at d) ≡ n
  found_key at d found = equal_number (key_of (slice_index_or corners at d)) n (found d)

  -- and if nothing was, nothing has it
  pub none_has : (place : ℕ) → IsNonDecreasingBy key_of corners
      → IsBinarySearchResult (λ c. nat_cmp (key_of c) n) corners (Err place)
      → (k : ℕ) (d : Corner) → k < length corners → key_of (slice_index_or corners k d) ≡ n → ⊥
  none_has place sorted found k d within same =
      let parts = found (λ i j e le high. higher (key_of (slice_index_or corners i e))
      (key_of (slice_index_or corners j e)) n (sorted i j e le high)) in
      ⊎_elim
      (λ low. let less = less_number (key_of (slice_index_or corners k d)) n (parts.0 k d
      (omega arith) low) in
      omega (arith, less, same))
      (λ high. let more = greater_number (key_of (slice_index_or corners k d)) n
      (parts.1 k d high within) in
      omega (arith, more, same))
      (cases_lt k place)

-- an item, by its place
pub index_of : {X : Type 0} (xs : List X) (k : ℕ) (x d : X) → slice_get xs k ≡ Some x
    → slice_index_or xs k d ≡ x
index_of [] zero x d at = absurd cc
index_of [] (suc k) x d at = absurd cc
index_of (y ∷ ys) zero x d at = let same : y ≡ x = cc in same
index_of (y ∷ ys) (suc k) x d at = index_of ys k x d at

-- ---- the answer for a loop

module _ (loops : List (List Point)) (corners : List Corner) (listing : IsListing loops corners)
    (lefts : List Bool) (swept : IsSwept loops corners lefts) (n : ℕ) where
  -- where the search finds its first corner
  pub answer_found : (points : List Point) (d : Point) → Stands points loops
      → is_least_first points ≡ true → n ≡ key_at (slice_index_or points 0 d)
      → (at : ℕ) → at < length corners → length lefts ≡ length corners
      → IsBinarySearchResult (λ c. nat_cmp (key_of c) n) corners (Ok at)
      → slice_index_or lefts at false ≡ is_left_at_first (edges_of loops) points
  answer_found [] d there least n_is at within count found =
      absurd (false≢true (bent_there loops [] there listing.bent))
  answer_found (a ∷ []) d there least n_is at within count found =
      absurd (false≢true (bent_there loops (a ∷ []) there listing.bent))
  answer_found (a ∷ b ∷ rest) d there least n_is at within count found =
      let c = item_at corners at within in
      let left = item_at lefts at (omega arith) in
      index_of lefts at left.0 false left.1
      ∙ first_answer loops corners listing a b rest there lefts swept least at c.0 left.0 c.1
      (ap key_of (sym (index_of corners at c.0 c.0 c.1)) ∙ found_key corners n at c.0 found ∙ n_is)
      left.1

  -- it always does
  pub always_found : (points : List Point) (d : Point) → Stands points loops
      → n ≡ key_at (slice_index_or points 0 d)
      → (place : ℕ) → IsNonDecreasingBy key_of corners
      → IsBinarySearchResult (λ c. nat_cmp (key_of c) n) corners (Err place) → ⊥
  always_found [] d there n_is place sorted found =
      false≢true (bent_there loops [] there listing.bent)
  always_found (a ∷ []) d there n_is place sorted found =
      false≢true (bent_there loops (a ∷ []) there listing.bent)
  always_found (a ∷ b ∷ rest) d there n_is place sorted found =
      let at = first_place loops corners listing a b rest there in
      let c = corner_at (last_of b rest) a b in
      none_has corners n place sorted found at.0 c (slice_get_within corners at.0 c at.1)
      (ap key_of (index_of corners at.0 c c at.1) ∙ sym n_is)

-- ---- the answers of loop after loop

pub map_more : {X Y : Type 0} (f : X → Y) (xs : List X) (i : ℕ) (x : X) → i < length xs
    → x ≡ slice_index_or xs i x → map f (take (i + 1) xs) ≡ map f (take i xs) ++ f x ∷ []
map_more f xs i x within same =
    ap (map f) (take_more xs i x within ∙ ap (λ y. take i xs ++ y ∷ []) (sym same))
    ∙ map-append f (take i xs) (x ∷ [])

pub least_there : (loops : List (List Point)) (points : List Point)
    → list_all is_least_first loops ≡ true → Stands points loops → is_least_first points ≡ true
least_there [] points all at = absurd at
least_there (one ∷ loops) points all (inl same) =
    ap is_least_first same ∙ (and_parts (is_least_first one) (list_all is_least_first loops) all).0
least_there (one ∷ loops) points all (inr later) =
    least_there loops points (and_parts (is_least_first one)
    (list_all is_least_first loops) all).1 later
