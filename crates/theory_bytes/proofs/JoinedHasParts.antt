-- A string of a joined set shows its parts: an inside between two texts, or what a byte begins.
use Rattle.std.proofs.Common.{◌≡◌, ℕ, ◌+◌, ◌<◌, Bool, true, List, ◌∷◌, ◌++◌, length, sym, ap, ◌∙◌, subst, arith, append_assoc, length-append}
use Rattle.std.specs.List.{list_all}
use Rattle.std.proofs.lemmas.Bool.{and_from}
use Rattle.theory_bytes.specs.Sets.{Text, Byte, Bytes, SomeBytes, ◌⋅◌}

-- the bytes of a class, with one at least
pub some_pass : (test : ℕ → Bool) (xs : List ℕ) → SomeBytes test xs → (list_all test xs ≡ true)
    × (0 < length xs)
some_pass test xs some =
    let byte = some.first in
    let whole : xs ≡ byte.byte ∷ some.back =
    some.joined ∙ ap (λ l. l ++ some.back) byte.alone in
    let P : List ℕ → Type 0 = λ l. (list_all test l ≡ true) × (0 < length l) in
    subst P (sym whole) (
      and_from (test byte.byte) (list_all test some.back) byte.passes
          some.second,
      omega arith,
    )

-- a string of the first set, which is one text, then one of the second, then one text
pub record Around (a b : List ℕ) (P : List ℕ → Type 0) (text : List ℕ) : Type 0 where
  pub inside : List ℕ
  pub whole : text ≡ a ++ (inside ++ b)
  pub is : P inside

-- a joined string as a text around an inside
pub around : (a b : List ℕ) (P : List ℕ → Type 0) (text : List ℕ) → (Text a ⋅ P ⋅ Text b) text
    → Around a b P text
around a b P text t = record {
  inside = t.second.front;
  whole =
      t.joined ∙ ap (λ l. l ++ t.back) t.first ∙ ap (λ l. a ++ l)
      (t.second.joined ∙ ap (λ l. t.second.front ++ l) t.second.second);
  is = t.second.first;
}

-- and with what follows
pub around_append : (a b : List ℕ) (P : List ℕ → Type 0) (text rest : List ℕ)
    (t : Around a b P text) → text ++ rest ≡ a ++ (t.inside ++ (b ++ rest))
around_append a b P text rest t =
    ap (λ l. l ++ rest) t.whole ∙ append_assoc a (t.inside ++ b) rest ∙ ap (λ l. a ++ l)
    (append_assoc t.inside b rest)

-- its length
pub around_length : (a b : List ℕ) (P : List ℕ → Type 0) (text : List ℕ) (t : Around a b P text)
    → length text ≡ length a + length t.inside + length b
around_length a b P text t =
    omega (arith, ap length t.whole, length-append a (t.inside ++ b), length-append t.inside b)

-- a byte of the first class and then bytes of the second
pub record Begun (first more : ℕ → Bool) (text : List ℕ) : Type 0 where
  pub byte : ℕ
  pub body : List ℕ
  pub whole : text ≡ byte ∷ body
  pub is_first : first byte ≡ true
  pub pass : list_all more body ≡ true

-- a joined string as a byte and what it goes on with
pub begun : (first more : ℕ → Bool) (text : List ℕ) → (Byte first ⋅ Bytes more) text → Begun first
    more text
begun first more text t = record {
  byte = t.first.byte;
  body = t.back;
  whole = t.joined ∙ ap (λ l. l ++ t.back) t.first.alone;
  is_first = t.first.passes;
  pass = t.second;
}
