-- What is gathered over a range of numbers grows by what the next number gives.
use Rattle.std.proofs.Common.{◌≡◌, ℕ, zero, suc, ◌+◌, List, [], ◌∷◌, ◌++◌, map, append_assoc}
use Rattle.std.proofs.Common.{arith, add-one, zero-add}
use Rattle.std.specs.List.{range_with_len, flat_map}
use Rattle.std.proofs.lemmas.List.{flat_map_more}
use Rattle.std.proofs.lemmas.List.FromFn.{map-range_with_len_more}

-- one item more behind those of the n numbers from `first` on
pub next_item : {X : Type 0} (f : ℕ → X) (first n number : ℕ) (front so_far longer : List X)
    (item : X) → first + n ≡ number
    → so_far ≡ front ++ map f (range_with_len first n) → item ≡ f number
    → longer ≡ so_far ++ item ∷ []
    → longer ≡ front ++ map f (range_with_len first (n + 1))
next_item f first n number front so_far longer item next gathered made pushed =
    rw (map-range_with_len_more f first n number next)
    (rw (← append_assoc) (cc (gathered, made, pushed)))

range_with_len-suc : (first n number : ℕ) → first + n ≡ number
    → range_with_len first (suc n) ≡ range_with_len first n ++ number ∷ []
range_with_len-suc first zero number last = grind arith
range_with_len-suc first (suc n) number last =
    grind (arith, range_with_len-suc (first + 1) n number (omega arith))

-- a range with one number more has it at its end
range_with_len-add : (first n number : ℕ) → first + n ≡ number
    → range_with_len first (n + 1) ≡ range_with_len first n ++ number ∷ []
range_with_len-add first n number last = rw add-one (range_with_len-suc first n number last)

-- one text more behind those of the numbers below n
pub next_text : (f : ℕ → List ℕ) (n : ℕ) (front so_far longer : List ℕ)
    → so_far ≡ front ++ flat_map f (range_with_len 0 n) → longer ≡ so_far ++ f n
    → longer ≡ front ++ flat_map f (range_with_len 0 (n + 1))
next_text f n front so_far longer gathered appended =
    rw (range_with_len-add 0 n n (zero-add n))
    (cc (gathered, appended, flat_map_more f front (range_with_len 0 n) n))
