-- The order of runs is an order of cells, so that a sort by it puts them in order.
use Rattle.std.proofs.Common.{◌≡◌, sym, ◌∙◌, ap, inl, inr, ◌⊎◌, arith, ℕ, suc, ◌<◌}
use Rattle.std.proofs.Common.{false, List, [], ◌∷◌, length, get_or}
use Rattle.std.specs.List.{AllByRecursion}
use Rattle.std.specs.declared.cmp.Ordering.{Ordering}
use Rattle.std.specs.declared.cmp.Ordering.TheVariants.{Less, Equal, Greater}
use Rattle.std.specs.Ordering.{is_lt, ordering_reverse}
use Rattle.std.specs.Cmp.{IsTotalOrder, IsStrictWeakOrder}
use Rattle.std.specs.List.Sorted.{IsSortedBy}
use Rattle.std.proofs.lemmas.Int.{ints}
use Rattle.std.proofs.lemmas.Cmp.{on_total, then_total, nat_cmp_total}
use Rattle.sb_model.specs.Boundaries.Order.{rank_of}
use Rattle.theory_plane.proofs.Clearance.{value_on-IsRational}
use Rattle.sb_join.specs.Listing.{start_of, slope_of, order_of_faces, order_of_patches, AreListed}
use Rattle.std.proofs.lemmas.List.Sorted.{ranks_by, sorted_far}
use Rattle.theory_lists.specs.Members.{AllOfTwo}
use Rattle.theory_numbers.specs.Arrows.{Arrow}
use Rattle.theory_numbers.specs.Rationals.{IsRational, IsBelow, IsSame}
use Rattle.theory_numbers.proofs.Vectors.Arrows.{cross-turn}
use Rattle.theory_numbers.proofs.Fractions.Rationals.{below_trans, number_cases, same_sym, same_trans}
use Rattle.theory_numbers.proofs.Fractions.Rationals.{at_most_below_trans, below_at_most_trans}
use Rattle.theory_patches.proofs.NoneBetween.{at_most_from_same}
use Rattle.sb_fraction.specs.Numbers.{order_of}
use Rattle.sb_model.specs.declared.boundary.Cell.{Cell}
use Rattle.sb_model.specs.Surfaces.Patches.{region_of}
use Rattle.theory_faces.specs.Strips.{Strip, strip_of, strips_of}
use Rattle.theory_faces.specs.Chains.{order_of_runs, AreInOrder}
use Rattle.theory_faces.proofs.NoSeamInOrder.{keys_total}
use Rattle.theory_faces.proofs.PatchesAreRegions.{patch_is}

-- ---- the order of two numbers

-- what it answers, by where the two lie
pub less_order : (r s : Arrow) → IsBelow r s → order_of r s ≡ Less
less_order r s below = grind (arith, ints)

pub same_order : (r s : Arrow) → IsSame r s → order_of r s ≡ Equal
same_order r s same = grind (arith, ints)

pub greater_order : (r s : Arrow) → IsBelow s r → order_of r s ≡ Greater
greater_order r s below = let turn = cross-turn r s in grind (arith, ints)

below_from : (r s : Arrow) → order_of r s ≡ Less → IsBelow r s
below_from r s less = from (number_cases r s)
  where
    from : (IsBelow r s ⊎ IsSame r s) ⊎ IsBelow s r → IsBelow r s
    from (inl (inl below)) = below
    from (inl (inr same)) = absurd (let e = same_order r s same in cc)
    from (inr beyond) = absurd (let e = greater_order r s beyond in cc)

same_from : (r s : Arrow) → order_of r s ≡ Equal → IsSame r s
same_from r s equal = from (number_cases r s)
  where
    from : (IsBelow r s ⊎ IsSame r s) ⊎ IsBelow s r → IsSame r s
    from (inl (inl below)) = absurd (let e = less_order r s below in cc)
    from (inl (inr same)) = same
    from (inr beyond) = absurd (let e = greater_order r s beyond in cc)

-- by a number that each cell has
module _ (num : Cell → Arrow) (num_in : (c : Cell) → IsRational (num c)) where
  -- an order of cells
  pub numbers_total : IsTotalOrder (λ a b. order_of (num a) (num b))
  numbers_total =
      record {
        antisymm = λ a b. turned a b (number_cases (num a) (num b));
        trans =
            λ a b c first second.
            less_order (num a) (num c)
            (below_trans (num a) (num b) (num c) (num_in a) (num_in b) (num_in c)
            (below_from (num a) (num b) first) (below_from (num b) (num c) second));
        congr =
            λ a b c equal.
            alike a b c (same_from (num a) (num b) equal) (number_cases (num b) (num c));
      }
    where
      turned : (a b : Cell)
          → (IsBelow (num a) (num b) ⊎ IsSame (num a) (num b))
          ⊎ IsBelow (num b) (num a)
          → order_of (num a) (num b) ≡ ordering_reverse (order_of (num b) (num a))
      turned a b (inl (inl below)) =
          less_order (num a) (num b) below
          ∙ sym (ap ordering_reverse (greater_order (num b) (num a) below))
      turned a b (inl (inr same)) =
          same_order (num a) (num b) same
          ∙ sym
          (ap ordering_reverse
          (same_order (num b) (num a) (same_sym (num a) (num b) same)))
      turned a b (inr beyond) =
          greater_order (num a) (num b) beyond
          ∙ sym (ap ordering_reverse (less_order (num b) (num a) beyond))

      alike : (a b c : Cell) → IsSame (num a) (num b)
          → (IsBelow (num b) (num c) ⊎ IsSame (num b) (num c))
          ⊎ IsBelow (num c) (num b)
          → order_of (num a) (num c) ≡ order_of (num b) (num c)
      alike a b c same (inl (inl below)) =
          less_order (num a) (num c)
          (at_most_below_trans (num a) (num b) (num c) (num_in a) (num_in b) (num_in c)
          (at_most_from_same (num a) (num b) same) below)
          ∙ sym (less_order (num b) (num c) below)
      alike a b c same (inl (inr also)) =
          same_order (num a) (num c)
          (same_trans (num a) (num b) (num c) (num_in b) same also)
          ∙ sym (same_order (num b) (num c) also)
      alike a b c same (inr beyond) =
          greater_order (num a) (num c)
          (below_at_most_trans (num c) (num b) (num a) (num_in c) (num_in b) (num_in a)
          beyond
          (at_most_from_same (num b) (num a) (same_sym (num a) (num b) same)))
          ∙ sym (greater_order (num b) (num c) beyond)

-- where a cell begins
abbrev low_of : Cell → Arrow
low_of c = (region_of c.patch).low

low_in : (c : Cell) → IsRational (low_of c)
low_in c = (patch_is c.patch).region.low_in

lows_total : IsTotalOrder (λ a b. order_of (low_of a) (low_of b))
lows_total = numbers_total low_of low_in

-- where its lower side begins, and how it rises
start_in : (c : Cell) → IsRational (start_of (strip_of c))
start_in c =
    value_on-IsRational (region_of c.patch).lower (low_of c) (patch_is c.patch).region.lower_in
    (low_in c)

slope_in : (c : Cell) → IsRational (slope_of (strip_of c))
slope_in c = (patch_is c.patch).region.lower_in

-- ---- the order of runs

-- the order of the runs of cells
abbrev pub runs_order : Cell → Cell → Ordering
runs_order a b = order_of_runs (strip_of a) (strip_of b)

pub runs_total : IsTotalOrder runs_order
runs_total = then_total (on_total strip_of keys_total) lows_total

-- the order of the patches of cells
abbrev pub patches_order : Cell → Cell → Ordering
patches_order a b = order_of_patches (strip_of a) (strip_of b)

faces_total : IsTotalOrder order_of_faces
faces_total =
    then_total (on_total (λ (p : Strip). p.mark.face.space) nat_cmp_total)
    (on_total (λ (p : Strip). rank_of p.mark.face.kind) nat_cmp_total)

pub patches_total : IsTotalOrder patches_order
patches_total =
    then_total (on_total strip_of faces_total)
    (then_total lows_total
    (then_total (numbers_total (λ c. start_of (strip_of c)) start_in)
    (numbers_total (λ c. slope_of (strip_of c)) slope_in)))

pub patches_ranked : IsStrictWeakOrder (λ a b. is_lt (patches_order a b))
patches_ranked = ranks_by patches_total (λ (c : Cell). c)

-- so the test of less is one that a sort takes
pub runs_ranked : IsStrictWeakOrder (λ a b. is_lt (runs_order a b))
runs_ranked = ranks_by runs_total (λ (c : Cell). c)

-- ---- each two of a sorted list

module _ {X : Type 0} (R : X → X → Type 0) where
  all_from : (xs : List X) (d : X) (P : X → Type 0)
      → ((j : ℕ) → j < length xs → P (get_or xs j d)) → AllByRecursion P xs
  all_from [] d P at = tt
  all_from (x ∷ xs) d P at =
      (at 0 (omega arith), all_from xs d P (λ j there. at (suc j) (omega arith)))

  -- what holds of the items at each two places holds of each two
  pub two_from : (xs : List X)
      → ((i j : ℕ) (d : X) → i < j → j < length xs → R (get_or xs i d) (get_or xs j d))
      → AllOfTwo R xs
  two_from [] at = tt
  two_from (x ∷ xs) at = (
    all_from xs x (R x) (λ j there. at 0 (suc j) x (omega arith) (omega arith)),
    two_from xs (λ i j d before there. at (suc i) (suc j) d (omega arith) (omega arith)),
  )

two_strips : (R : Strip → Strip → Type 0) (cs : List Cell)
    → AllOfTwo (λ a b. R (strip_of a) (strip_of b)) cs → AllOfTwo R (strips_of cs)
two_strips R [] all = tt
two_strips R (c ∷ cs) all = (each cs all.0, two_strips R cs all.1)
  where
    each : (bs : List Cell) → AllByRecursion (λ b. R (strip_of c) (strip_of b)) bs
        → AllByRecursion (R (strip_of c)) (strips_of bs)
    each [] none = tt
    each (b ∷ bs) some = (some.0, each bs some.1)

-- the strips of cells that were sorted are in order
pub sorted_in_order : (cs : List Cell) → IsSortedBy (λ a b. is_lt (runs_order a b)) cs
    → AreInOrder (strips_of cs)
sorted_in_order cs sorted =
    two_strips (λ p q. is_lt (order_of_runs q p) ≡ false) cs
    (two_from (λ a b. is_lt (runs_order b a) ≡ false) cs
    (λ i j d before there.
    sorted_far (λ a b. is_lt (runs_order a b)) runs_ranked cs sorted i j d (omega arith) there))

-- and the strips of patches that were sorted are listed
pub sorted_is_listed : (cs : List Cell) → IsSortedBy (λ a b. is_lt (patches_order a b)) cs
    → AreListed (strips_of cs)
sorted_is_listed cs sorted =
    two_strips (λ p q. is_lt (order_of_patches q p) ≡ false) cs
    (two_from (λ a b. is_lt (patches_order b a) ≡ false) cs
    (λ i j d before there.
    sorted_far (λ a b. is_lt (patches_order a b)) patches_ranked cs sorted i j d (omega arith)
    there))
