-- Strings that stand in a row make up a string of the joined set.
use Rattle.std.proofs.Common.{◌≡◌, ℕ, suc, ◌+◌, ◌<◌, Bool, true, List, [], ◌∷◌, ◌++◌, length, take, drop, sym, refl, ap, ◌∙◌, subst, ⊎_elim, inl, arith, append_assoc, length-append, take_at, drop_at, get_or, one-add}
use Rattle.std.specs.List.{prefix_len, list_all}
use Rattle.std.proofs.lemmas.Bool.{and_parts, cases_lt}
use Rattle.std.proofs.lemmas.List.{drop_more, get_or_past}
use Rattle.theory_bytes.specs.Sets.{Text, Byte, Bytes, SomeBytes, ◌⋅◌, Optional}
use Rattle.theory_bytes.proofs.RunsAreLongest.{cut}

-- a string of the set stands at the front, so long, and the rest follows it
pub record IsPrefix (P : List ℕ → Type 0) (bytes rest : List ℕ) (size : ℕ) : Type 0 where
  pub text : List ℕ
  pub joined : bytes ≡ text ++ rest
  pub long : length text ≡ size
  pub is : P text

-- a string of the set stands at the front, whatever follows
pub record HasPrefix (P : List ℕ → Type 0) (bytes : List ℕ) (n : ℕ) : Type 0 where
  pub rest : List ℕ
  pub prefix : IsPrefix P bytes rest n

-- two names of one length
pub prefix_so_long : (P : List ℕ → Type 0) (bytes rest : List ℕ) (m n : ℕ) → m ≡ n
    → IsPrefix P bytes
    rest m → IsPrefix P bytes rest n
prefix_so_long P bytes rest m n same s = subst (IsPrefix P bytes rest) same s

-- one behind the other
pub prefix_joined : (P Q : List ℕ → Type 0) (bytes mid rest : List ℕ) (m n : ℕ) → IsPrefix P bytes
    mid m → IsPrefix Q mid rest n → IsPrefix (P ⋅ Q) bytes rest (m + n)
prefix_joined P Q bytes mid rest m n a b = record {
  text = a.text ++ b.text;
  joined = a.joined ∙ ap (λ l. a.text ++ l) b.joined ∙ sym (append_assoc a.text b.text rest);
  long = omega (arith, length-append a.text b.text, a.long, b.long);
  is = record { front = a.text; back = b.text; joined = refl; first = a.is; second = b.is };
}

some_from_all : (test : ℕ → Bool) (xs : List ℕ) → list_all test xs ≡ true → 0 < length xs
    → SomeBytes test xs
some_from_all test [] pass some = absurd (omega arith)
some_from_all test (b ∷ bs) pass some =
    let parts = and_parts (test b) (list_all test bs) pass in
    record {
      front = b ∷ [];
      back = bs;
      joined = refl;
      first = record
          { byte = b; passes = parts.0; alone = refl };
      second = parts.1;
    }

-- a byte that is not 0 lies within
pub within_by_byte : (bytes : List ℕ) (n : ℕ) → 0 < get_or bytes n 0 → n < length bytes
within_by_byte bytes n positive =
    ⊎_elim (λ within. within) (λ past. absurd (omega (arith, get_or_past bytes n 0 past)))
    (cases_lt n (length bytes))

-- a text at the front
pub prefix_text : (text rest : List ℕ) (n : ℕ) → length text ≡ n → IsPrefix (Text text)
    (text ++ rest) rest n
prefix_text text rest n long = record { text = text; joined = refl; long = long; is = refl }

-- a byte at the front
pub prefix_byte : (test : ℕ → Bool) (b : ℕ) (rest : List ℕ) → test b ≡ true → IsPrefix (Byte test)
    (b ∷ rest) rest 1
prefix_byte test b rest passes = record {
  text = b ∷ [];
  joined = refl;
  long = refl;
  is = record { byte = b; passes = passes; alone = refl };
}

-- a run, and all that follows it
pub prefix_run : (test : ℕ → Bool) (bytes : List ℕ) → IsPrefix (Bytes test) bytes
    (drop (prefix_len test bytes) bytes) (prefix_len test bytes)
prefix_run test bytes =
    let c = cut test bytes in
    let behind : c.rest ≡ drop (prefix_len test bytes) bytes =
    sym (ap (drop (prefix_len test bytes)) c.joined ∙ drop_at c.run c.rest (prefix_len test bytes)
    (sym c.size)) in
    record {
      text = c.run;
      joined = c.joined ∙ ap (λ l. c.run ++ l) behind;
      long = sym c.size;
      is =
          c.pass;
    }

-- a run of one byte at least
pub prefix_some : (test : ℕ → Bool) (bytes : List ℕ) → 0 < prefix_len test bytes
    → IsPrefix (SomeBytes test) bytes (drop (prefix_len test bytes) bytes) (prefix_len test bytes)
prefix_some test bytes some =
    let run = prefix_run test bytes in
    record {
      text = run.text;
      joined = run.joined;
      long = run.long;
      is = some_from_all test
          run.text run.is (omega (arith, run.long));
    }

-- a byte that passes, and the run of another class behind it to which it belongs
pub prefix_begun : (first more : ℕ → Bool) (b : ℕ) (bs : List ℕ) → first b ≡ true → more b ≡ true
    → IsPrefix (Byte first ⋅ Bytes more) (b ∷ bs) (drop (prefix_len more (b ∷ bs)) (b ∷ bs))
    (prefix_len more (b ∷ bs))
prefix_begun first more b bs is_first is_more =
    let n = prefix_len more bs in
    let size : suc n ≡ prefix_len more (b ∷ bs) = rw is_more (sym (one-add n)) in
    let set = Byte first ⋅ Bytes more in
    subst (λ k. IsPrefix set (b ∷ bs) (drop k (b ∷ bs)) k) size
    (prefix_so_long set (b ∷ bs) (drop n bs) (1 + n) (suc n) (one-add n)
    (prefix_joined (Byte first) (Bytes more) (b ∷ bs) bs (drop n bs) 1 n
    (prefix_byte first b bs is_first) (prefix_run more bs)))

-- the byte at a place
pub prefix_at : (b : ℕ) (bytes : List ℕ) (n : ℕ) → 0 < b → get_or bytes n 0 ≡ b
    → IsPrefix (Text (b ∷ [])) (drop n bytes) (drop (n + 1) bytes) 1
prefix_at b bytes n positive here = record {
  text = b ∷ [];
  joined = drop_more bytes n 0 (within_by_byte bytes n (omega arith))
      ∙ ap (λ c. c ∷ drop (n + 1) bytes) here;
  long = refl;
  is = refl;
}

-- what stands there is known by its length
pub text_is : (P : List ℕ → Type 0) (bytes rest : List ℕ) (n : ℕ) (s : IsPrefix P bytes rest n)
    → s.text ≡ take n bytes
text_is P bytes rest n s = sym (ap (take n) s.joined ∙ take_at s.text rest n s.long)

-- nothing at the front
pub prefix_nothing : (P : List ℕ → Type 0) (bytes : List ℕ) → IsPrefix (Optional P) bytes bytes 0
prefix_nothing P bytes = record { text = []; joined = refl; long = refl; is = inl refl }
