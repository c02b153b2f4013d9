-- The extent of numbers, with one more.
use Rattle.std.proofs.Common.{◌≡◌, ℤ, map, ◌≤ℤ◌, ◌<ℤ◌, ◌⊎◌, inl, inr, List, [], ◌∷◌, ◌++◌, arith, refl}
use Rattle.std.proofs.lemmas.Int.{ints}
use Rattle.theory_lists.specs.Members.{Stands}
use Rattle.sb_solid.specs.Spans.{Reaches}

pub still_stands : {X : Type 0} (n x : X) (ns : List X) → Stands x ns → Stands x (ns ++ n ∷ [])
still_stands n x [] there = absurd there
still_stands n x (m ∷ ns) (inl same) = inl same
still_stands n x (m ∷ ns) (inr later) = inr (still_stands n x ns later)

pub stands_last : {X : Type 0} (ns : List X) (n : X) → Stands n (ns ++ n ∷ [])
stands_last [] n = inl refl
stands_last (m ∷ ns) n = inr (stands_last ns n)

pub is_either : {X : Type 0} (ns : List X) (n x : X) → Stands x (ns ++ n ∷ []) → Stands x ns ⊎ (x ≡ n)
is_either [] n x (inl same) = inr same
is_either [] n x (inr later) = absurd later
is_either (m ∷ ns) n x (inl same) = inl (inl same)
is_either (m ∷ ns) n x (inr later) = by (is_either ns n x later)
  where
    by : Stands x ns ⊎ (x ≡ n) → Stands x (m ∷ ns) ⊎ (x ≡ n)
    by (inl there) = inl (inr there)
    by (inr same) = inr same

-- one number alone
pub one_reaches : (n : ℤ) → Reaches (n ∷ []) n n
one_reaches n = record { low_in = inl refl; high_in = inl refl; within = within }
  where
    within : (x : ℤ) → Stands x (n ∷ []) → (n ≤ℤ x) × (x ≤ℤ n)
    within x (inl same) = (omega (arith, ints, same), omega (arith, ints, same))
    within x (inr never) = absurd never

-- one more, which is less than the least, greater than the greatest, or between
pub reaches_lower : (ns : List ℤ) (low high n : ℤ) → Reaches ns low high → n <ℤ low
    → Reaches (ns ++ n ∷ []) n high
reaches_lower ns low high n is less =
    record {
      low_in = stands_last ns n;
      high_in = still_stands n high ns is.high_in;
      within = λ x there. within x (is_either ns n x there);
    }
  where
    within : (x : ℤ) → Stands x ns ⊎ (x ≡ n) → (n ≤ℤ x) × (x ≤ℤ high)
    within x (inl there) = let old = is.within x there in (omega (arith, ints, old.0, less), old.1)
    within x (inr same) =
        let old = is.within high is.high_in in
        (omega (arith, ints, same), omega (arith, ints, same, old.0, less))

pub reaches_higher : (ns : List ℤ) (low high n : ℤ) → Reaches ns low high → high <ℤ n
    → Reaches (ns ++ n ∷ []) low n
reaches_higher ns low high n is more =
    record {
      low_in = still_stands n low ns is.low_in;
      high_in = stands_last ns n;
      within = λ x there. within x (is_either ns n x there);
    }
  where
    within : (x : ℤ) → Stands x ns ⊎ (x ≡ n) → (low ≤ℤ x) × (x ≤ℤ n)
    within x (inl there) = let old = is.within x there in (old.0, omega (arith, ints, old.1, more))
    within x (inr same) =
        let old = is.within low is.low_in in
        (omega (arith, ints, same, old.1, more), omega (arith, ints, same))

pub reaches_still : (ns : List ℤ) (low high n : ℤ) → Reaches ns low high → low ≤ℤ n → n ≤ℤ high
    → Reaches (ns ++ n ∷ []) low high
reaches_still ns low high n is over under =
    record {
      low_in = still_stands n low ns is.low_in;
      high_in = still_stands n high ns is.high_in;
      within = λ x there. within x (is_either ns n x there);
    }
  where
    within : (x : ℤ) → Stands x ns ⊎ (x ≡ n) → (low ≤ℤ x) × (x ≤ℤ high)
    within x (inl there) = is.within x there
    within x (inr same) = (omega (arith, ints, same, over), omega (arith, ints, same, under))

-- no numbers, where nothing comes of them
pub none_of_map : (f : ℤ → ℤ) (ns : List ℤ) → map f ns ≡ [] → ns ≡ []
none_of_map f [] none = refl
none_of_map f (n ∷ ns) none = absurd (cc)
