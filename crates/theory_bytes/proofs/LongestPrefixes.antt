-- The longest string of a set at the front, and how it is found part by part.
use Rattle.std.proofs.Common.{◌≡◌, ℕ, ◌+◌, ◌<◌, ◌≤◌, Bool, true, false, List, [], ◌∷◌, ◌++◌, Option, ◌⊎◌, Some, None, length, drop, sym, refl, ap, ◌∙◌, subst, ⊎_elim, arith, append_assoc, length-append, drop_at, add-zero, eqb, get_or, get_or-drop, inl, inr}
use Rattle.std.specs.List.{prefix_len, list_all}
use Rattle.std.proofs.lemmas.Bool.{and_from, eqb-true, eqb-false, both_ways}
use Rattle.theory_bytes.specs.Sets.{begins_with, Text, Byte, Bytes, SomeBytes, ◌⋅◌, Optional}
use Rattle.theory_bytes.proofs.RunsAreLongest.{cut, run_is_whole, run_is_longest}
use Rattle.theory_bytes.proofs.JoinedHasParts.{some_pass, begun}
use Rattle.theory_bytes.proofs.PrefixesJoin.{IsPrefix, HasPrefix, prefix_joined, prefix_run, prefix_some, prefix_begun, prefix_nothing, prefix_text, prefix_at}

-- so many bytes more
abbrev pub longer_by : ℕ → Option ℕ → Option ℕ
longer_by n None = None
longer_by n (Some m) = Some (n + m)

-- the longest string of the set at the front is so long, or there is none
abbrev pub IsLongest : (List ℕ → Type 0) → List ℕ → Option ℕ → Type 0
IsLongest P bytes None = (m : ℕ) → HasPrefix P bytes m → ⊥
IsLongest P bytes (Some n) = HasPrefix P bytes n × ((m : ℕ) → HasPrefix P bytes m → m ≤ n)

-- what follows a string at the front is known by its length
pub rest_is : {P : List ℕ → Type 0} {bytes : List ℕ} {n : ℕ} (h : HasPrefix P bytes n)
    → drop n bytes ≡ h.rest
rest_is {P} {bytes} {n} h =
    ap (drop n) h.prefix.joined ∙ drop_at h.prefix.text h.rest n h.prefix.long

-- the string that stands there as one of another set
pub as_set : {P : List ℕ → Type 0} (Q : List ℕ → Type 0) {bytes : List ℕ} {n : ℕ}
    (h : HasPrefix P bytes n) → Q h.prefix.text → HasPrefix Q bytes n
as_set Q h is = record {
  rest = h.rest;
  prefix = record {
    text = h.prefix.text;
    joined = h.prefix.joined;
    long = h.prefix.long;
    is = is;
  };
}

-- a text
pub has_text : (text rest : List ℕ) → HasPrefix (Text text) (text ++ rest) (length text)
has_text text rest = record { rest = rest; prefix = prefix_text text rest (length text) refl }

-- an optional string
pub has_optional : {P : List ℕ → Type 0} {bytes : List ℕ} {n : ℕ} → HasPrefix P bytes n
    → HasPrefix (Optional P) bytes n
has_optional {P} h = as_set (Optional P) h (inr h.prefix.is)

-- and none
pub has_nothing : (P : List ℕ → Type 0) (bytes : List ℕ) → HasPrefix (Optional P) bytes 0
has_nothing P bytes = record { rest = bytes; prefix = prefix_nothing P bytes }

-- a string of a joined set at the front, as its two parts
pub record Parts (P Q : List ℕ → Type 0) (bytes : List ℕ) (n : ℕ) : Type 0 where
  pub size : ℕ
  pub more : ℕ
  pub first : HasPrefix P bytes size
  pub second : HasPrefix Q (drop size bytes) more
  pub sum : n ≡ size + more

-- it has these
pub parts : {P Q : List ℕ → Type 0} {bytes : List ℕ} {n : ℕ} → HasPrefix (P ⋅ Q) bytes n
    → Parts P Q bytes n
parts {P} {Q} {bytes} {n} h =
    let t = h.prefix.is in
    let whole : bytes ≡ t.front ++ (t.back ++ h.rest) =
    h.prefix.joined ∙ ap (λ l. l ++ h.rest) t.joined ∙ append_assoc t.front t.back h.rest in
    let second : drop (length t.front) bytes ≡ t.back ++ h.rest =
    ap (drop (length t.front)) whole ∙ drop_at t.front (t.back ++ h.rest) (length t.front) refl in
    record {
      size = length t.front;
      more = length t.back;
      first = record {
        rest = t.back ++ h.rest;
        prefix = record { text = t.front; joined = whole; long = refl; is = t.first };
      };
      second = record {
        rest = h.rest;
        prefix = record { text = t.back; joined = second; long = refl; is = t.second };
      };
      sum = omega (arith, h.prefix.long, ap length t.joined, length-append t.front t.back);
    }

-- the second part behind a first that is known to be so long
pub second_at : {P Q : List ℕ → Type 0} {bytes : List ℕ} {n : ℕ} (p : Parts P Q bytes n) (m : ℕ)
    → p.size ≡ m → HasPrefix Q (drop m bytes) p.more
second_at {P} {Q} {bytes} p m size =
    subst (λ k. HasPrefix Q (drop k bytes) p.more) size p.second

-- and two parts are such a string
pub has_joined : {P Q : List ℕ → Type 0} {bytes : List ℕ} {m k : ℕ} → HasPrefix P bytes m
    → HasPrefix Q (drop m bytes) k → HasPrefix (P ⋅ Q) bytes (m + k)
has_joined {P} {Q} {bytes} {m} {k} a b = record {
  rest = b.rest;
  prefix =
      prefix_joined P Q bytes (drop m bytes) b.rest m k
      (subst (λ r. IsPrefix P bytes r m) (sym (rest_is a)) a.prefix) b.prefix;
}

-- an optional string and one behind it: the second alone, or both
pub optional_joined : {P Q : List ℕ → Type 0} {bytes : List ℕ} {n : ℕ}
    → HasPrefix (Optional P ⋅ Q) bytes n → HasPrefix Q bytes n ⊎ HasPrefix (P ⋅ Q) bytes n
optional_joined {P} {Q} {bytes} {n} h =
    let t = h.prefix.is in
    ⊎_elim
    (λ none. inl (as_set Q h (subst Q (sym (t.joined ∙ ap (λ l. l ++ t.back) none)) t.second)))
    (λ is. inr (as_set (P ⋅ Q) h (record {
      front = t.front;
      back = t.back;
      joined = t.joined;
      first = is;
      second = t.second;
    })))
    t.first

-- where none of the first set stands, none of the joined set does
pub none_joined : {P Q : List ℕ → Type 0} {bytes : List ℕ} → IsLongest P bytes None
    → IsLongest (P ⋅ Q) bytes None
none_joined none m h = let p = parts h in none p.size p.first

-- where the length of the first part is known, the second is the longest behind it
pub longest_joined : {P Q : List ℕ → Type 0} {bytes : List ℕ} {n : ℕ} (o : Option ℕ)
    → HasPrefix P bytes n
    → ((m k : ℕ) → HasPrefix P bytes m → HasPrefix Q (drop m bytes) k → m ≡ n)
    → IsLongest Q (drop n bytes) o → IsLongest (P ⋅ Q) bytes (longer_by n o)
longest_joined {n = n} None first fixed none =
    λ m h. let p = parts h in
    none p.more (second_at p n (fixed p.size p.more p.first p.second))
longest_joined {n = n} (Some j) first fixed longest = (
  has_joined first longest.0,
  λ m h.
      let p = parts h in
      let same = fixed p.size p.more p.first p.second in
      let least = longest.1 p.more (second_at p n same) in
      omega (arith, p.sum),
)

-- the same where the second part may be missing, behind a first that is the longest
pub longest_joined_optional : {P Q : List ℕ → Type 0} {bytes : List ℕ} {n j : ℕ}
    → IsLongest P bytes (Some n)
    → ((m k : ℕ) → HasPrefix P bytes m → HasPrefix Q (drop m bytes) k → m ≡ n)
    → IsLongest (Optional Q) (drop n bytes) (Some j)
    → IsLongest (P ⋅ Optional Q) bytes (Some (n + j))
longest_joined_optional {Q = Q} {n = n} first fixed longest = (
  has_joined first.0 longest.0,
  λ m h.
      let p = parts h in
      let before = first.1 p.size p.first in
      let at = p.second.prefix in
      ⊎_elim (λ none. omega (arith, p.sum, at.long, ap length none))
      (λ is.
      let same = fixed p.size p.more p.first (as_set Q p.second is) in
      let least = longest.1 p.more (second_at p n same) in
      omega (arith, p.sum)) at.is,
)

-- an optional string
pub longest_optional : {P : List ℕ → Type 0} {bytes : List ℕ} {n : ℕ} → IsLongest P bytes (Some n)
    → IsLongest (Optional P) bytes (Some n)
longest_optional {P} longest = (
  has_optional longest.0,
  λ m h.
      ⊎_elim (λ none. omega (arith, h.prefix.long, ap length none))
      (λ is. longest.1 m (as_set P h is)) h.prefix.is,
)

-- an optional string that does not stand there
pub longest_missing : {P : List ℕ → Type 0} {bytes : List ℕ} → IsLongest P bytes None
    → IsLongest (Optional P) bytes (Some 0)
longest_missing {P} {bytes} none = (
  has_nothing P bytes,
  λ m h.
      ⊎_elim (λ nothing. omega (arith, h.prefix.long, ap length nothing))
      (λ is. absurd (none m (as_set P h is))) h.prefix.is,
)

-- a text at the front is as long as it is
pub text_long : {text bytes : List ℕ} {m : ℕ} → HasPrefix (Text text) bytes m → m ≡ length text
text_long h = sym h.prefix.long ∙ ap length h.prefix.is

-- what begins with a text begins with its first byte
pub text_begins : {b : ℕ} {text : List ℕ} {Q : List ℕ → Type 0} {bytes : List ℕ} {m : ℕ}
    (test : ℕ → Bool) → HasPrefix (Text (b ∷ text) ⋅ Q) bytes m → begins_with test bytes ≡ test b
text_begins test h =
    let first = (parts h).first in
    ap (begins_with test) (first.prefix.joined ∙ ap (λ l. l ++ first.rest) first.prefix.is)

module _ (test : ℕ → Bool) (bytes : List ℕ) where
  -- a run
  pub longest_run : IsLongest (Bytes test) bytes (Some (prefix_len test bytes))
  longest_run = (
    record { rest = drop (prefix_len test bytes) bytes; prefix = prefix_run test bytes },
    λ m h. omega (
      arith,
      ap (prefix_len test) h.prefix.joined,
      run_is_longest test h.prefix.text h.rest h.prefix.is,
      h.prefix.long,
    ),
  )

  -- behind a run of these bytes that is not the whole run such a byte stands
  pub run_ends : (m : ℕ) → HasPrefix (Bytes test) bytes m → begins_with test (drop m bytes) ≡ false
      → m ≡ prefix_len test bytes
  run_ends m h stops =
      sym h.prefix.long
      ∙ sym (run_is_whole test h.prefix.text h.rest h.prefix.is
      (ap (begins_with test) (sym (rest_is h)) ∙ stops))
      ∙ ap (prefix_len test) (sym h.prefix.joined)

  -- a run that is not empty is a run
  pub some_is_run : {m : ℕ} → HasPrefix (SomeBytes test) bytes m → HasPrefix (Bytes test) bytes m
  some_is_run h = as_set (Bytes test) h (some_pass test h.prefix.text h.prefix.is).0

  -- a run that is not empty
  pub longest_some : 0 < prefix_len test bytes
      → IsLongest (SomeBytes test) bytes (Some (prefix_len test bytes))
  longest_some some = (
    record { rest = drop (prefix_len test bytes) bytes; prefix = prefix_some test bytes some },
    λ m h. longest_run.1 m (some_is_run h),
  )

  -- what follows a run does not go on with it
  pub run_stops : begins_with test (drop (prefix_len test bytes) bytes) ≡ false
  run_stops =
      let c = cut test bytes in
      ap (begins_with test) (ap (drop (prefix_len test bytes)) c.joined ∙ drop_at c.run c.rest
      (prefix_len test bytes) (sym c.size)) ∙ c.stops

  -- there is none
  pub no_run : prefix_len test bytes ≡ 0 → IsLongest (SomeBytes test) bytes None
  no_run none m h =
      omega (
        arith,
        longest_run.1 m (some_is_run h),
        (some_pass test h.prefix.text h.prefix.is).1,
        h.prefix.long,
      )

module _ (first more : ℕ → Bool) (is_more : (b : ℕ) → first b ≡ true → more b ≡ true) where
  -- a byte that begins a run, and the run, is a run
  pub begun_is_run : {bytes : List ℕ} {m : ℕ} → HasPrefix (Byte first ⋅ Bytes more) bytes m
      → HasPrefix (Bytes more) bytes m
  begun_is_run h =
      let l = begun first more h.prefix.text h.prefix.is in
      as_set (Bytes more) h
      (ap (list_all more) l.whole
      ∙ and_from (more l.byte) (list_all more l.body) (is_more l.byte l.is_first) l.pass)

  -- such a byte begins the bytes
  pub begun_begins : {bytes : List ℕ} {m : ℕ} → HasPrefix (Byte first ⋅ Bytes more) bytes m
      → begins_with first bytes ≡ true
  begun_begins h =
      let l = begun first more h.prefix.text h.prefix.is in
      ap (begins_with first) (h.prefix.joined ∙ ap (λ t. t ++ h.rest) l.whole) ∙ l.is_first

  -- there is none
  pub none_begun : (bytes : List ℕ) → begins_with first bytes ≡ false
      → IsLongest (Byte first ⋅ Bytes more) bytes None
  none_begun bytes other m h = both_ways (begins_with first bytes) other (begun_begins h)

  -- the longest
  pub longest_begun : (bytes : List ℕ) → begins_with first bytes ≡ true
      → IsLongest (Byte first ⋅ Bytes more) bytes (Some (prefix_len more bytes))
  longest_begun [] begins = cc
  longest_begun (b ∷ bs) begins = (
    record {
      rest = drop (prefix_len more (b ∷ bs)) (b ∷ bs);
      prefix = prefix_begun first more b bs begins (is_more b begins);
    },
    λ m h. (longest_run more (b ∷ bs)).1 m (begun_is_run h),
  )

-- a byte that is not at a place does not stand there as a text
pub not_at : (b : ℕ) (bytes : List ℕ) (n : ℕ) → eqb (get_or bytes n 0) b ≡ false
    → IsLongest (Text (b ∷ [])) (drop n bytes) None
not_at b bytes n other m h =
    eqb-false (get_or bytes n 0) b other
    (ap (λ k. get_or bytes k 0) (sym (add-zero n)) ∙ sym (get_or-drop n bytes 0 0)
    ∙ ap (λ l. get_or l 0 0) (h.prefix.joined ∙ ap (λ l. l ++ h.rest) h.prefix.is))

-- a byte at a place stands there as a text
pub stands_at : (b : ℕ) (bytes : List ℕ) (n : ℕ) → 0 < b → eqb (get_or bytes n 0) b ≡ true
    → IsLongest (Text (b ∷ [])) (drop n bytes) (Some 1)
stands_at b bytes n positive here = (
  record {
    rest = drop (n + 1) bytes;
    prefix = prefix_at b bytes n positive (eqb-true (get_or bytes n 0) b here);
  },
  λ m h. omega (arith, text_long h),
)

-- bytes with a text at the front are the text and what follows it
pub text_stands : {text bytes : List ℕ} {n : ℕ} → HasPrefix (Text text) bytes n
    → bytes ≡ text ++ drop (length text) bytes
text_stands {text} {bytes} h =
    let whole : bytes ≡ text ++ h.rest = h.prefix.joined ∙ ap (λ l. l ++ h.rest) h.prefix.is in
    whole ∙ ap (λ l. text ++ l) (sym (ap (drop (length text)) whole
    ∙ drop_at text h.rest (length text) refl))

-- a string between two texts stands at the front
pub prefix_around : (a b : List ℕ) (P : List ℕ → Type 0) (inside rest : List ℕ) → P inside
    → IsPrefix (Text a ⋅ P ⋅ Text b) (a ++ (inside ++ (b ++ rest))) rest
    (length a + (length inside + length b))
prefix_around a b P inside rest is =
    prefix_joined (Text a) (P ⋅ Text b) (a ++ (inside ++ (b ++ rest))) (inside ++ (b ++ rest))
    rest (length a) (length inside + length b)
    (prefix_text a (inside ++ (b ++ rest)) (length a) refl)
    (prefix_joined P (Text b) (inside ++ (b ++ rest)) (b ++ rest) rest (length inside) (length b)
    (record { text = inside; joined = refl; long = refl; is = is })
    (prefix_text b rest (length b) refl))

-- the first byte, where 0 stands for none
pub begins_by_first : (test : ℕ → Bool) (bytes : List ℕ) → test 0 ≡ false
    → test (get_or bytes 0 0) ≡ begins_with test bytes
begins_by_first test [] barred = barred
begins_by_first test (b ∷ bs) barred = refl

-- a string behind one byte
pub longest_behind : (q : ℕ) (Q : List ℕ → Type 0) (bs : List ℕ) (o : Option ℕ)
    → IsLongest Q bs o → IsLongest (Text (q ∷ []) ⋅ Q) (q ∷ bs) (longer_by 1 o)
longest_behind q Q bs o behind =
    longest_joined o (has_text (q ∷ []) bs) (λ m k a b. text_long a) behind

-- a byte that begins a run, and the run, up to another byte, by what stands behind the run
pub longest_up_to : (q : ℕ) (first more : ℕ → Bool) → ((b : ℕ) → first b ≡ true → more b ≡ true)
    → more q ≡ false → (bs : List ℕ) (o : Option ℕ) → begins_with first bs ≡ true
    → IsLongest (Text (q ∷ [])) (drop (prefix_len more bs) bs) o
    → IsLongest ((Byte first ⋅ Bytes more) ⋅ Text (q ∷ [])) bs (longer_by (prefix_len more bs) o)
longest_up_to q first more is_more stops bs o begins behind =
    longest_joined o (longest_begun first more is_more bs begins).0
    (λ m k a b. run_ends more bs m (begun_is_run first more is_more a)
    (ap (begins_with more) (text_stands b) ∙ stops)) behind
