-- An ordered map as the table of what is numbered in order of first use.

use Rattle.std.specs.Prelude.{◌≡◌, ℕ, Bool, List, [], ◌∷◌, length, map, Option, Some, None, if◌then◌else◌}
use Rattle.std.specs.declared.cmp.Ordering.{Ordering}
use Rattle.std.specs.BTreeMap.{BTreeMap, get, btree_map_len}
use Rattle.sb_idf_out.specs.FirstUse.{has, with_new, number_in}

-- the number of what is in a list
abbrev pub number_where : {X : Type 0} → (X → X → Bool) → List X → X → Option ℕ
number_where same xs x = if has same xs x then Some (number_in same xs x) else None

-- the map has the numbers of these keys, each of which stands once in the list
abbrev pub IsNumbered : {K : Type 0} → (K → K → Bool) → (K → K → Ordering) → List K → BTreeMap K ℕ → Type 0
IsNumbered {K} same cmp ks numbers =
    (btree_map_len numbers ≡ length ks) × ((q : K) → get cmp numbers q ≡ number_where same ks q)

-- the same of keys that are seen as these
abbrev pub NumbersAs : {K X : Type 0} → (K → K → Bool) → (K → K → Ordering) → (K → X) → List X
    → BTreeMap K ℕ → Type 0
NumbersAs {K} same cmp view xs numbers =
    (ks : List K) × (map view ks ≡ xs) × IsNumbered same cmp ks numbers

-- the number of each of these, as it is known when it is reached
abbrev pub used_numbers : {X : Type 0} → (X → X → Bool) → List X → List X → List ℕ
used_numbers same found [] = []
used_numbers same found (x ∷ xs) = number_in same found x ∷ used_numbers same (with_new same found x) xs
