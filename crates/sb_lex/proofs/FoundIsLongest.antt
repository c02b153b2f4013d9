-- What is found at the front is a string of its kind, no string of any kind there is longer, and
-- one as long is of the same kind.
use Rattle.std.proofs.Common.{◌≡◌, ℕ, suc, ◌+◌, ◌<◌, ◌≤◌, Bool, true, false, not, cond, ◌&&◌, eqb, ltb, List, [], ◌∷◌, ◌++◌, Option, ◌≢◌, zero-add, Some, None, length, get_or, take, drop, sym, refl, ap, ◌∙◌, subst, ⊎_elim, inr, arith, one-add, drop-drop, map}
use Rattle.std.specs.Prelude.{codes, nat_eq}
use Rattle.std.specs.List.{prefix_len, starts_with, AllByRecursion}
use Rattle.std.specs.Char.{is_ascii_digit}
use Rattle.std.specs.Str.Parse.{digits_value}
use Rattle.std.proofs.lemmas.Bool.{cond_both, eqb-true, eqb-false, ltb-true, lt-ltb, and_parts, or_left, or_cases, cases_lt, cases_Bool, false≢true, not-true}
use Rattle.std.proofs.Math.Arith.{le-zero}
use Rattle.std.proofs.lemmas.Bool.Decides.{Decides-eqb}
use Rattle.std.proofs.lemmas.Slice.Eq.{starts_is}
use Rattle.sb_lex.specs.Bytes as byte
use Rattle.sb_lex.specs.declared.kinds.Kind.{Kind}
use Rattle.sb_lex.specs.declared.kinds.Kind.TheVariants as kind
use Rattle.sb_lex.specs.declared.kinds.Mark.{Mark}
use Rattle.sb_lex.specs.declared.kinds.Mark.TheVariants as mark
use Rattle.sb_lex.specs.declared.kinds.Word.{Word}
use Rattle.sb_lex.specs.declared.kinds.Word.TheVariants as word
use Rattle.sb_lex.specs.declared.first_byte.Head.{Head}
use Rattle.sb_lex.specs.declared.first_byte.Head.TheVariants as head
use Rattle.sb_lex.specs.Bytes.{is_letter, is_word_byte, is_hex, is_filling, is_sign, is_apostrophe}
use Rattle.theory_bytes.specs.Sets.{begins_with, Text, Byte, Bytes, ◌⋅◌, Optional, Repeated}
use Rattle.sb_lex.specs.Kinds.{numbers_end, word_text, mark_byte, Digits, Signed, Numeral, Letters, IsName, Exponent, StringPiece, HexDigits, IsOf, not_after, IsInstanceNumber}
use Rattle.sb_lex.specs.Scanning.{Scanned, longer, heads, first_head, head_of, scan_words, or_keyword, scan_letters, scan_exclamation, scan_name, sign_len, exponent_len, fraction_len, scan_unsigned, string_len, as_string, scan_enclosed, scan_enumeration, scan_binary, scan_at, scan}
use Rattle.theory_bytes.proofs.PrefixesJoin.{HasPrefix, prefix_byte, text_is}
use Rattle.theory_bytes.proofs.JoinedHasParts.{around, around_append, around_length}
use Rattle.theory_bytes.proofs.BytesByBytes.{passes_in_range}
use Rattle.theory_bytes.proofs.LongestPrefixes.{IsLongest, longer_by, rest_is, as_set, has_text, has_optional, has_nothing, parts, second_at, has_joined, optional_joined, none_joined, longest_joined, longest_joined_optional, longest_optional, longest_missing, text_long, text_begins, text_stands, longest_run, run_ends, run_stops, some_is_run, longest_some, no_run, begun_begins, none_begun, longest_begun, not_at, stands_at, prefix_around, begins_by_first, longest_behind, longest_up_to}
use Rattle.sb_lex.proofs.StringsEnd.{IsEnding, ending_found, string_len-text}

-- a string of the kind stands at the front, so long, and what may not follow it does not
pub record Front (bytes : List ℕ) (k : Kind) (n : ℕ) : Type 0 where
  pub prefix : HasPrefix (IsOf k) bytes n
  pub free : begins_with (not_after k) (drop n bytes) ≡ false

-- what was found is so
abbrev pub Holds : (Kind → ℕ → Type 0) → Scanned → Type 0
Holds T None = Unit {0}
Holds T (Some x) = T x.0 x.1

-- what was found stands at the front
abbrev pub IsFront : Scanned → List ℕ → Type 0
IsFront o bytes = Holds (Front bytes) o

-- what was found is at least so long, and of this kind if it is just so long
abbrev pub Covers : Scanned → Kind → ℕ → Type 0
Covers None k n = ⊥
Covers (Some x) k n = (n ≤ x.1) × (x.1 ≡ n → x.0 ≡ k)

covers_longer : (o : Scanned) (k : Kind) (n : ℕ) → Covers o k n → Covers (longer 1 o) k (1 + n)
covers_longer None k n c = c
covers_longer (Some x) k n c = (omega (arith, c.0), λ equal. c.1 (omega arith))

-- an answer of one kind, where it is the longest string of its set
abbrev IsLongestOf : (List ℕ → Type 0) → Kind → List ℕ → Scanned → Type 0
IsLongestOf P k bytes None = IsLongest P bytes None
IsLongestOf P k bytes (Some x) = (x.0 ≡ k) × IsLongest P bytes (Some x.1)

nothing_barred : (rest : List ℕ) → begins_with (λ b. false) rest ≡ false
nothing_barred [] = refl
nothing_barred (b ∷ rest) = refl

longest_front : (P : List ℕ → Type 0) (k : Kind) (bytes : List ℕ) (o : Scanned)
    → ((xs : List ℕ) → P xs → IsOf k xs)
    → ((rest : List ℕ) → begins_with (not_after k) rest ≡ false) → IsLongestOf P k bytes o
    → IsFront o bytes
longest_front P k bytes None of free longest = tt
longest_front P k bytes (Some x) of free longest =
    let h = longest.1.0 in
    subst (λ j. Front bytes j x.1) (sym longest.0)
    (record { prefix = as_set (IsOf k) h (of h.prefix.text h.prefix.is); free = free (drop x.1 bytes) })

longest_covers : (P : List ℕ → Type 0) (k : Kind) (bytes : List ℕ) (o : Scanned)
    → IsLongestOf P k bytes o → (n : ℕ) → HasPrefix P bytes n → Covers o k n
longest_covers P k bytes None longest n h = longest n h
longest_covers P k bytes (Some x) longest n h = (longest.1.1 n h, λ same. longest.0)

-- which head a byte has

-- the bytes of a head
abbrev pub has_head : Head → ℕ → Bool
has_head head.Letter b = is_letter b
has_head head.Digit b = is_ascii_digit b
has_head head.Sign b = is_sign b
has_head head.Exclamation b = eqb b byte.exclamation
has_head head.Hash b = eqb b byte.hash
has_head head.Apostrophe b = is_apostrophe b
has_head head.Point b = eqb b byte.point
has_head head.Quote b = eqb b byte.quote
has_head (head.Mark m) b = eqb b (mark_byte m)
has_head head.Other b = true

-- two functions with the same values on a list have them item by item
pub all_from_maps : {X Y : Type 0} (f g : X → Y) (xs : List X) → map f xs ≡ map g xs
    → AllByRecursion (λ x. f x ≡ g x) xs
all_from_maps f g [] same = tt
all_from_maps f g (x ∷ xs) same =
    let first : f x ≡ g x = cc in
    let later : map f xs ≡ map g xs = cc in
    (first, all_from_maps f g xs later)

first_head_fits : (rows : List ((ℕ → Bool) × Head)) (b : ℕ)
    → AllByRecursion (λ row. row.0 ≡ has_head row.1) rows → has_head (first_head rows b) b ≡ true
first_head_fits [] b each = refl
first_head_fits (row ∷ rows) b each =
    cond_both (row.0 b) row.1 (first_head rows b) (λ h. has_head h b ≡ true)
    (λ is. sym (ap (λ test. test b) each.0) ∙ is) (λ other. first_head_fits rows b each.1)

-- the head of a byte says what is so
pub head_fits : (b : ℕ) → has_head (head_of b) b ≡ true
head_fits b =
    first_head_fits heads b (all_from_maps (λ row. row.0) (λ row. has_head row.1) heads refl)

digit_is_no_letter : (b : ℕ) → is_ascii_digit b ≡ true → is_letter b ≡ false
digit_is_no_letter b digit =
    not-true (is_letter b) (passes_in_range byte.zero byte.nine (λ c. not (is_letter c)) refl b digit)

digit_is_no_sign : (b : ℕ) → is_ascii_digit b ≡ true → is_sign b ≡ false
digit_is_no_sign b digit =
    not-true (is_sign b) (passes_in_range byte.zero byte.nine (λ c. not (is_sign c)) refl b digit)

-- words and keywords

letter_is_word_byte : (b : ℕ) → is_letter b ≡ true → is_word_byte b ≡ true
letter_is_word_byte b letter = or_left (is_letter b) (is_ascii_digit b) letter

letters_longest : (bytes : List ℕ) → begins_with is_letter bytes ≡ true
    → IsLongest Letters bytes (Some (prefix_len is_word_byte bytes))
letters_longest = longest_begun is_letter is_word_byte letter_is_word_byte

-- before the dash of a word stand three letters, and more behind it
dash_of : (w : Word) (rest : List ℕ) → (prefix_len is_word_byte (word_text w ++ rest) ≡ 3)
    × (3 < length (word_text w))
dash_of word.First rest = (refl, omega arith)
dash_of word.Last rest = (refl, omega arith)

-- what was found stands there, and covers the letters there
abbrev IsWordOrKeyword : List ℕ → Scanned → Type 0
IsWordOrKeyword bytes o =
    IsFront o bytes × ((n : ℕ) → n ≤ prefix_len is_word_byte bytes → Covers o kind.Keyword n)

is_word : (w : Word) (bytes : List ℕ) → starts_with nat_eq bytes (word_text w) ≡ true
    → IsWordOrKeyword bytes (Some (kind.Word w, length (word_text w)))
is_word w bytes starts =
    let rest = drop (length (word_text w)) bytes in
    let whole : bytes ≡ word_text w ++ rest =
    (starts_is Decides-eqb bytes (word_text w) (starts_with nat_eq bytes (word_text w)) refl).0
    starts in
    let dash = dash_of w rest in
    let short = ap (prefix_len is_word_byte) whole in (
      record {
        prefix = subst (λ l. HasPrefix (Text (word_text w)) l (length (word_text w))) (sym whole)
            (has_text (word_text w) rest);
        free = nothing_barred rest;
      },
      λ n least. (omega arith, λ same. absurd (omega arith)),
    )

is_keyword : (bytes : List ℕ) → begins_with is_letter bytes ≡ true
    → IsWordOrKeyword bytes (Some (kind.Keyword, prefix_len is_word_byte bytes))
is_keyword bytes letter =
    let n = prefix_len is_word_byte bytes in (
      record {
        prefix =
            subst (HasPrefix (IsOf kind.Keyword) bytes) (zero-add n)
            (has_joined (has_nothing (Text (codes "!")) bytes) (letters_longest bytes letter).0);
        free = nothing_barred (drop n bytes);
      },
      λ m least. (least, λ same. refl),
    )

letters_found : (bytes : List ℕ) → begins_with is_letter bytes ≡ true
    → IsWordOrKeyword bytes (scan_letters bytes)
unfolding scan_letters
letters_found bytes letter =
    let n = prefix_len is_word_byte bytes in
    let Q : Scanned → Type 0 = λ o. IsWordOrKeyword bytes (or_keyword n o) in
    cond_both (eqb (get_or bytes n 0) byte.minus) (or_keyword n (scan_words bytes))
    (Some (kind.Keyword, n)) (IsWordOrKeyword bytes)
    (λ dash. cond_both (starts_with nat_eq bytes (word_text word.First)) _ _ Q
    (is_word word.First bytes)
    (λ other. cond_both (starts_with nat_eq bytes (word_text word.Last)) _ None Q
    (is_word word.Last bytes) (λ none. is_keyword bytes letter)))
    (λ plain. is_keyword bytes letter)

word_covers : (w : Word) (rest : List ℕ)
    → Covers (scan (word_text w ++ rest)) (kind.Word w) (length (word_text w))
unfolding scan_letters
word_covers word.First rest = (omega arith, λ same. refl)
word_covers word.Last rest = (omega arith, λ same. refl)

letters_cover : (bytes : List ℕ) (n : ℕ) → begins_with is_letter bytes ≡ true
    → HasPrefix Letters bytes n → Covers (scan bytes) kind.Keyword n
letters_cover [] n letter h = absurd (false≢true letter)
letters_cover (b ∷ bs) n letter h =
    let head : head_of b ≡ head.Letter = rw letter refl in
    subst (λ h. Covers (scan_at h (b ∷ bs)) kind.Keyword n) (sym head)
    ((letters_found (b ∷ bs) letter).1 n ((letters_longest (b ∷ bs) letter).1 n h))

marked_found : (bs : List ℕ)
    → IsLongestOf (Text (codes "!") ⋅ Letters) kind.Keyword (byte.exclamation ∷ bs)
    (scan_exclamation (byte.exclamation ∷ bs))
unfolding scan_exclamation
marked_found bs =
    let bytes = byte.exclamation ∷ bs in
    let T = Text (codes "!") ⋅ Letters in
    let begins = sym (begins_by_first is_letter bs refl) in
    cond_both (is_letter (get_or bs 0 0)) (Some (kind.Keyword, 1 + prefix_len is_word_byte bs)) None
    (IsLongestOf T kind.Keyword bytes)
    (λ letter. (
      refl,
      longest_behind byte.exclamation Letters bs (Some (prefix_len is_word_byte bs))
          (letters_longest bs (begins ∙ letter)),
    ))
    (λ other. longest_behind byte.exclamation Letters bs None
    (none_begun is_letter is_word_byte letter_is_word_byte bs (begins ∙ other)))

-- what is found behind one byte covers what stands there
behind_covers : (k : Kind) (q : ℕ) (Q : List ℕ → Type 0) (bytes : List ℕ) (n : ℕ)
    → ((bs : List ℕ) → IsLongestOf (Text (q ∷ []) ⋅ Q) k (q ∷ bs) (scan (q ∷ bs)))
    → HasPrefix (Text (q ∷ []) ⋅ Q) bytes n → Covers (scan bytes) k n
behind_covers k q Q bytes n found h =
    let whole = text_stands (parts h).first in
    subst (λ l. Covers (scan l) k n) (sym whole)
    (longest_covers (Text (q ∷ []) ⋅ Q) k (q ∷ drop 1 bytes) (scan (q ∷ drop 1 bytes))
    (found (drop 1 bytes)) n (subst (λ l. HasPrefix (Text (q ∷ []) ⋅ Q) l n) whole h))

keyword_covers : (bytes : List ℕ) (n : ℕ) → HasPrefix (IsOf kind.Keyword) bytes n
    → Covers (scan bytes) kind.Keyword n
keyword_covers bytes n h =
    ⊎_elim
    (λ plain. letters_cover bytes n (begun_begins is_letter is_word_byte letter_is_word_byte plain)
    plain)
    (behind_covers kind.Keyword byte.exclamation Letters bytes n marked_found) (optional_joined h)

-- names

name_front : (bs : List ℕ) → IsFront (scan_name (byte.hash ∷ bs)) (byte.hash ∷ bs)
unfolding scan_name
name_front bs =
    let n = prefix_len is_ascii_digit bs in
    let number = digits_value 10 (take n bs) in
    cond_both (ltb 0 number && ltb number numbers_end) (Some (kind.Name number, 1 + n)) None
    (λ o. IsFront o (byte.hash ∷ bs))
    (λ in_range.
    let range = and_parts (ltb 0 number) (ltb number numbers_end) in_range in
    let positive = ltb-true 0 number range.0 in
    let some : 0 < n =
    ⊎_elim (λ some. some)
    (λ none. absurd (omega (arith, ap (λ k. digits_value 10 (take k bs)) (le-zero none))))
    (cases_lt 0 n) in
    let digits = (longest_some is_ascii_digit bs some).0 in
    let value = ap (digits_value 10) (text_is Digits bs digits.rest n digits.prefix) in
    let numeral = as_set (Numeral number) digits
    (record { digits = digits.prefix.is; value = value }) in
    let name = has_joined (has_text (codes "#") bs) numeral in
    record {
      prefix = as_set (IsName number) name (record {
        written = name.prefix.is;
        in_range = record { positive = positive; fits = ltb-true number numbers_end range.1 };
      });
      free =
          ap (begins_with is_ascii_digit) (sym (drop-drop n 1 (byte.hash ∷ bs)))
          ∙ run_stops is_ascii_digit bs;
    }) (λ other. tt)

name_found : (bs : List ℕ) (number n : ℕ) → digits_value 10 (take n bs) ≡ number
    → n ≡ prefix_len is_ascii_digit bs → IsInstanceNumber number
    → Covers (scan_name (byte.hash ∷ bs)) (kind.Name number) (1 + n)
unfolding scan_name
name_found bs number n value size range =
    let found : digits_value 10 (take (prefix_len is_ascii_digit bs) bs) ≡ number =
    ap (λ k. digits_value 10 (take k bs)) (sym size) ∙ value in
    rw (found, lt-ltb 0 number range.positive, lt-ltb number numbers_end range.fits)
    (omega arith, λ same. refl)

name_covers : (number : ℕ) (bytes : List ℕ) (n : ℕ) → Front bytes (kind.Name number) n
    → Covers (scan bytes) (kind.Name number) n
name_covers number bytes n f =
    let name = f.prefix.prefix.is in
    let p = parts (as_set (Text (codes "#") ⋅ Numeral number) f.prefix name.written) in
    let bs = drop 1 bytes in
    let numeral : HasPrefix (Numeral number) bs p.more = second_at p 1 (text_long p.first) in
    let is = numeral.prefix.is in
    let sum : 1 + p.more ≡ n = omega (arith, p.sum, text_long p.first) in
    let free : begins_with is_ascii_digit (drop p.more bs) ≡ false =
    ap (begins_with is_ascii_digit) (drop-drop p.more 1 bytes ∙ ap (λ k. drop k bytes) sum)
    ∙ f.free in
    let value : digits_value 10 (take p.more bs) ≡ number =
    ap (digits_value 10) (sym (text_is (Numeral number) bs numeral.rest p.more numeral.prefix))
    ∙ is.value in
    subst (λ l. Covers (scan l) (kind.Name number) n) (sym (text_stands p.first))
    (subst (Covers (scan_name (byte.hash ∷ bs)) (kind.Name number)) sum
    (name_found bs number p.more value (run_ends is_ascii_digit bs p.more
    (some_is_run is_ascii_digit bs (as_set Digits numeral is.digits)) free) name.in_range))

-- numbers

sign_stands : (bytes : List ℕ) → HasPrefix (Optional (Byte is_sign)) bytes (sign_len bytes)
sign_stands [] = has_nothing (Byte is_sign) []
sign_stands (b ∷ bs) =
    cond_both (is_sign b) 1 0 (HasPrefix (Optional (Byte is_sign)) (b ∷ bs))
    (λ sign. has_optional (record { rest = bs; prefix = prefix_byte is_sign b bs sign }))
    (λ other. has_nothing (Byte is_sign) (b ∷ bs))

no_sign : (bytes : List ℕ) → begins_with is_ascii_digit bytes ≡ true → sign_len bytes ≡ 0
no_sign [] begins = cc
no_sign (b ∷ bs) begins = rw (digit_is_no_sign b begins) refl

-- before a digit the sign is the whole sign
sign_known : (bytes : List ℕ) (m : ℕ) → HasPrefix (Optional (Byte is_sign)) bytes m
    → begins_with is_ascii_digit (drop m bytes) ≡ true → m ≡ sign_len bytes
sign_known bytes m h digit =
    let at = h.prefix in
    ⊎_elim
    (λ none.
    let zero : m ≡ 0 = sym at.long ∙ ap length none in
    zero ∙ sym (no_sign bytes
    (subst (λ k. begins_with is_ascii_digit (drop k bytes) ≡ true) zero digit)))
    (λ sign.
    let is_one : sign_len (sign.byte ∷ h.rest) ≡ 1 = rw sign.passes refl in
    sym at.long ∙ ap length sign.alone
    ∙ sym (ap sign_len (at.joined ∙ ap (λ l. l ++ h.rest) sign.alone) ∙ is_one)) at.is

digits_begin : {bytes : List ℕ} {m : ℕ} → HasPrefix Digits bytes m
    → begins_with is_ascii_digit bytes ≡ true
digits_begin h = begun_begins is_ascii_digit is_ascii_digit (λ b digit. digit) h

positive : (n : ℕ) → n ≢ 0 → 0 < n
positive n some = omega arith

plus_behind : (a b c : ℕ) → a + (b + c) ≡ a + b + c
plus_behind a b c = omega arith

-- an exponent by its first byte and the digits behind its sign
exponent_by : (bytes : List ℕ) (o : Option ℕ) → eqb (get_or bytes 0 0) byte.capital_e ≡ true
    → IsLongest Digits (drop (1 + sign_len (drop 1 bytes)) bytes) o
    → IsLongest Exponent bytes (longer_by 1 (longer_by (sign_len (drop 1 bytes)) o))
exponent_by bytes o letter digits =
    let signed = drop 1 bytes in
    let s = sign_len signed in
    longest_joined (longer_by s o) (stands_at byte.capital_e bytes 0 (omega arith) letter).0
    (λ m k a b. text_long a)
    (longest_joined o (sign_stands signed) (λ m k a b. sign_known signed m a (digits_begin b))
    (subst (λ l. IsLongest Digits l o) (sym (drop-drop s 1 bytes)) digits))

exponent_longest : (bytes : List ℕ)
    → IsLongest (Optional Exponent) bytes (Some (exponent_len bytes))
unfolding exponent_len
exponent_longest bytes =
    let signed = 1 + sign_len (drop 1 bytes) in
    let n = prefix_len is_ascii_digit (drop signed bytes) in
    let P : ℕ → Type 0 = λ m. IsLongest (Optional Exponent) bytes (Some m) in
    cond_both (eqb (get_or bytes 0 0) byte.capital_e) (cond (eqb n 0) 0 (signed + n)) 0 P
    (λ letter. cond_both (eqb n 0) 0 (signed + n) P
    (λ none. longest_missing (exponent_by bytes None letter
    (no_run is_ascii_digit (drop signed bytes) (eqb-true n 0 none))))
    (λ some. longest_optional
    (subst (λ m. IsLongest Exponent bytes (Some m)) (plus_behind 1 (sign_len (drop 1 bytes)) n)
    (exponent_by bytes (Some n) letter (longest_some is_ascii_digit (drop signed bytes)
    (positive n (eqb-false n 0 some)))))))
    (λ other. longest_missing (none_joined (not_at byte.capital_e bytes 0 other)))

abbrev Fraction : List ℕ → Type 0
Fraction = Bytes is_ascii_digit ⋅ Optional Exponent

fraction_longest : (bytes : List ℕ) → IsLongest Fraction bytes (Some (fraction_len bytes))
fraction_longest bytes =
    let n = prefix_len is_ascii_digit bytes in
    longest_joined_optional (longest_run is_ascii_digit bytes)
    (λ m k a b. run_ends is_ascii_digit bytes m a (text_begins is_ascii_digit b))
    (exponent_longest (drop n bytes))

-- a number without its sign
abbrev Unsigned : Kind → List ℕ → Type 0
Unsigned kind.Integer = Digits
Unsigned kind.Real = Digits ⋅ Text (codes ".") ⋅ Fraction
Unsigned _ = λ xs. ⊥

-- what holds of integers and of reals holds of numbers
each_number : (C : Kind → ℕ → Type 0) (bytes : List ℕ)
    → ((m : ℕ) → HasPrefix (Unsigned kind.Integer) bytes m → C kind.Integer m)
    → ((m : ℕ) → HasPrefix (Unsigned kind.Real) bytes m → C kind.Real m) → (k : Kind) (m : ℕ)
    → HasPrefix (Unsigned k) bytes m → C k m
each_number C bytes integer real kind.Integer m h = integer m h
each_number C bytes integer real kind.Real m h = real m h
each_number C bytes integer real _ m h = absurd h.prefix.is

-- what was found stands there, and no number is longer
record IsNumber (bytes : List ℕ) (o : Scanned) : Type 0 where
  there : Holds (λ k n. HasPrefix (Unsigned k) bytes n) o
  covers : (k : Kind) (n : ℕ) → HasPrefix (Unsigned k) bytes n → Covers o k n

-- a real by what stands behind its digits
real_by : (bytes : List ℕ) (o : Option ℕ) → 0 < prefix_len is_ascii_digit bytes
    → IsLongest (Text (codes ".") ⋅ Fraction) (drop (prefix_len is_ascii_digit bytes) bytes) o
    → IsLongest (Unsigned kind.Real) bytes (longer_by (prefix_len is_ascii_digit bytes) o)
real_by bytes o some rest =
    longest_joined o (longest_some is_ascii_digit bytes some).0
    (λ m k a b. run_ends is_ascii_digit bytes m (some_is_run is_ascii_digit bytes a)
    (text_begins is_ascii_digit b)) rest

number_found : (bytes : List ℕ) → IsNumber bytes (scan_unsigned bytes)
unfolding scan_unsigned
number_found bytes =
    let n = prefix_len is_ascii_digit bytes in
    let f = fraction_len (drop (n + 1) bytes) in
    let at_point = eqb (get_or bytes n 0) byte.point in
    let real : Scanned = Some (kind.Real, n + 1 + f) in
    let integer : Scanned = Some (kind.Integer, n) in
    cond_both (eqb n 0) None (cond at_point real integer) (IsNumber bytes)
    (λ none.
    let no_digits = no_run is_ascii_digit bytes (eqb-true n 0 none) in
    record {
      there = tt;
      covers = each_number (Covers None) bytes no_digits
          (λ m h. no_digits (parts h).size (parts h).first);
    })
    (λ other.
    let some = positive n (eqb-false n 0 other) in
    let digits = longest_some is_ascii_digit bytes some in
    cond_both at_point real integer (IsNumber bytes)
    (λ point.
    let rest : IsLongest (Text (codes ".") ⋅ Fraction) (drop n bytes) (Some (1 + f)) =
    longest_joined (Some f) (stands_at byte.point bytes n (omega arith) point).0
    (λ m k a b. text_long a) (subst (λ l. IsLongest Fraction l (Some f))
    (sym (drop-drop 1 n bytes)) (fraction_longest (drop (n + 1) bytes))) in
    let longest : IsLongest (Unsigned kind.Real) bytes (Some (n + 1 + f)) =
    subst (λ r. IsLongest (Unsigned kind.Real) bytes (Some r)) (plus_behind n 1 f)
    (real_by bytes (Some (1 + f)) some rest) in
    record {
      there = longest.0;
      covers = each_number (Covers real) bytes
          (λ m h. let least = digits.1 m h in (omega arith, λ same. absurd (omega arith)))
          (λ m h. (longest.1 m h, λ same. refl));
    })
    (λ plain.
    let no_real = real_by bytes None some (none_joined (not_at byte.point bytes n plain)) in
    record {
      there = digits.0;
      covers = each_number (Covers integer) bytes (λ m h. (digits.1 m h, λ same. refl))
          (λ m h. absurd (no_real m h));
    }))

number_begins : (k : Kind) (bytes : List ℕ) (n : ℕ) → HasPrefix (Unsigned k) bytes n
    → begins_with is_ascii_digit bytes ≡ true
number_begins k bytes n h = each_number (λ j m. begins_with is_ascii_digit bytes ≡ true) bytes
    (λ m h. digits_begin h) (λ m h. digits_begin (parts h).first) k n h

number_front : (k : Kind) (bytes : List ℕ) (n : ℕ) → HasPrefix (Signed (Unsigned k)) bytes n
    → Front bytes k n
number_front kind.Integer bytes n h = record { prefix = h; free = nothing_barred (drop n bytes) }
number_front kind.Real bytes n h = record { prefix = h; free = nothing_barred (drop n bytes) }
number_front _ bytes n h = absurd h.prefix.is.second

bare_front : (bytes : List ℕ) (o : Scanned) → Holds (λ k n. HasPrefix (Unsigned k) bytes n) o
    → IsFront o bytes
bare_front bytes None there = tt
bare_front bytes (Some x) there =
    number_front x.0 bytes x.1 (subst (HasPrefix (Signed (Unsigned x.0)) bytes) (zero-add x.1)
    (has_joined (has_nothing (Byte is_sign) bytes) there))

signed_front : (b : ℕ) (bs : List ℕ) (o : Scanned) → is_sign b ≡ true
    → Holds (λ k n. HasPrefix (Unsigned k) bs n) o → IsFront (longer 1 o) (b ∷ bs)
signed_front b bs None sign there = tt
signed_front b bs (Some x) sign there =
    let mark : HasPrefix (Byte is_sign) (b ∷ bs) 1 =
    record { rest = bs; prefix = prefix_byte is_sign b bs sign } in
    number_front x.0 (b ∷ bs) (1 + x.1) (has_joined (has_optional mark) there)

bare_covers : (k : Kind) (bytes : List ℕ) (n : ℕ) → HasPrefix (Unsigned k) bytes n
    → begins_with is_ascii_digit bytes ≡ true → Covers (scan bytes) k n
bare_covers k [] n h digit = absurd (false≢true digit)
bare_covers k (b ∷ bs) n h digit =
    let head : head_of b ≡ head.Digit = rw (digit_is_no_letter b digit, digit) refl in
    subst (λ h. Covers (scan_at h (b ∷ bs)) k n) (sym head)
    ((number_found (b ∷ bs)).covers k n h)

sign_head : (b : ℕ) → is_sign b ≡ true → head_of b ≡ head.Sign
sign_head b sign =
    let P : ℕ → Type 0 = λ c. head_of c ≡ head.Sign in
    ⊎_elim (λ plus. subst P (sym (eqb-true b byte.plus plus)) refl)
    (λ minus. subst P (sym (eqb-true b byte.minus minus)) refl) (or_cases (eqb b byte.plus)
    (eqb b byte.minus) sign)

signed_covers : (k : Kind) (bytes : List ℕ) (n : ℕ) → HasPrefix (Byte is_sign ⋅ Unsigned k) bytes n
    → Covers (scan bytes) k n
signed_covers k bytes n h =
    let t = h.prefix.is in
    let b = t.first.byte in
    let bs = t.back ++ h.rest in
    let whole : bytes ≡ b ∷ bs =
    h.prefix.joined ∙ ap (λ l. l ++ h.rest) (t.joined ∙ ap (λ l. l ++ t.back) t.first.alone) in
    let inner : HasPrefix (Unsigned k) bs (length t.back) = record {
      rest = h.rest;
      prefix = record { text = t.back; joined = refl; long = refl; is = t.second };
    } in
    let size : 1 + length t.back ≡ n =
    omega (arith, h.prefix.long, ap length (t.joined ∙ ap (λ l. l ++ t.back) t.first.alone)) in
    subst (λ l. Covers (scan l) k n) (sym whole)
    (subst (λ h. Covers (scan_at h (b ∷ bs)) k n) (sym (sign_head b t.first.passes))
    (subst (Covers (longer 1 (scan_unsigned bs)) k) size
    (covers_longer (scan_unsigned bs) k (length t.back)
    ((number_found bs).covers k (length t.back) inner))))

number_covers : (k : Kind) (bytes : List ℕ) (n : ℕ) → HasPrefix (Signed (Unsigned k)) bytes n
    → Covers (scan bytes) k n
number_covers k bytes n h =
    ⊎_elim (λ bare. bare_covers k bytes n bare (number_begins k bytes n bare))
    (signed_covers k bytes n) (optional_joined h)

-- strings, enumerations and binaries

string_front : (bs : List ℕ) (o : Option ℕ) → IsEnding o bs
    → IsFront (as_string o) (byte.apostrophe ∷ bs)
string_front bs None e = tt
string_front bs (Some n) e =
    let whole = byte.apostrophe ∷ (e.inside ++ (byte.apostrophe ∷ e.rest)) in
    let m = 1 + (length e.inside + 1) in
    let stands : HasPrefix (IsOf kind.Str) whole m = record {
      rest = e.rest;
      prefix =
          prefix_around (codes "'") (codes "'") (Repeated StringPiece) e.inside e.rest e.pieces;
    } in
    let size : m ≡ 1 + n = omega (arith, e.long) in
    subst (λ l. Front l kind.Str (1 + n)) (ap (λ l. byte.apostrophe ∷ l) (sym e.joined))
    (subst (Front whole kind.Str) size (record {
      prefix = stands;
      free =
          ap (begins_with is_apostrophe) (rest_is stands) ∙ e.alone;
    }))

string_covers : (bytes : List ℕ) (n : ℕ) → Front bytes kind.Str n → Covers (scan bytes) kind.Str n
string_covers bytes n f =
    let h = f.prefix in
    let t = around (codes "'") (codes "'") (Repeated StringPiece) h.prefix.text h.prefix.is in
    let free : begins_with is_apostrophe h.rest ≡ false =
    ap (begins_with is_apostrophe) (sym (rest_is h)) ∙ f.free in
    let found : scan bytes ≡ Some (kind.Str, 1 + suc (length t.inside)) =
    ap scan (h.prefix.joined
    ∙ around_append (codes "'") (codes "'") (Repeated StringPiece) h.prefix.text h.rest t)
    ∙ ap as_string (string_len-text t.inside h.rest t.is free) in
    subst (λ o. Covers o kind.Str n) (sym found) (
      omega (
        arith,
        h.prefix.long,
        around_length (codes "'") (codes "'") (Repeated StringPiece) h.prefix.text t,
      ),
      λ same. refl,
    )

enclosed_found : (k : Kind) (q : ℕ) (first more : ℕ → Bool)
    → ((b : ℕ) → first b ≡ true → more b ≡ true) → more q ≡ false → first 0 ≡ false → 0 < q
    → (bs : List ℕ)
    → IsLongestOf (Text (q ∷ []) ⋅ (Byte first ⋅ Bytes more) ⋅ Text (q ∷ [])) k (q ∷ bs)
    (scan_enclosed k q first more (q ∷ bs))
unfolding scan_enclosed
enclosed_found k q first more is_more stops not_0 positive bs =
    let n = prefix_len more bs in
    let R = (Byte first ⋅ Bytes more) ⋅ Text (q ∷ []) in
    let T = Text (q ∷ []) ⋅ R in
    let begins = first (get_or bs 0 0) in
    let closed = eqb (get_or (q ∷ bs) (1 + n) 0) q in
    let begins_is = sym (begins_by_first first bs not_0) in
    let closed_is : eqb (get_or bs n 0) q ≡ closed =
    ap (λ k. eqb (get_or (q ∷ bs) k 0) q) (sym (one-add n)) in
    let at : (o : Option ℕ) → begins ≡ true → IsLongest (Text (q ∷ [])) (drop n bs) o
    → IsLongest T (q ∷ bs) (longer_by 1 (longer_by n o)) =
    λ o yes closing. longest_behind q R bs (longer_by n o)
    (longest_up_to q first more is_more stops bs o (begins_is ∙ yes) closing) in
    let size : 1 + (n + 1) ≡ n + 2 = omega arith in
    cond_both (begins && closed) (Some (k, n + 2)) None (IsLongestOf T k (q ∷ bs))
    (λ both. let each = and_parts begins closed both in (
      refl,
      subst (λ m. IsLongest T (q ∷ bs) (Some m)) size
          (at (Some 1) each.0 (stands_at q bs n positive (closed_is ∙ each.1))),
    ))
    (λ other. ⊎_elim
    (λ yes. at None yes (not_at q bs n
    (closed_is ∙ sym (ap (λ c. c && closed) yes) ∙ other)))
    (λ no. longest_behind q R bs None
    (none_joined (none_begun first more is_more bs (begins_is ∙ no)))) (cases_Bool begins))

enumeration_found : (bs : List ℕ)
    → IsLongestOf (IsOf kind.Enumeration) kind.Enumeration (byte.point ∷ bs)
    (scan_enumeration (byte.point ∷ bs))
enumeration_found = enclosed_found kind.Enumeration byte.point is_letter is_word_byte
    letter_is_word_byte refl refl (omega arith)

-- the first digit of a binary is a hexadecimal digit
binary_found : (bs : List ℕ)
    → IsLongestOf (IsOf kind.Binary) kind.Binary (byte.quote ∷ bs) (scan_binary (byte.quote ∷ bs))
binary_found = enclosed_found kind.Binary byte.quote is_filling is_hex
    (passes_in_range byte.zero byte.three is_hex refl) refl refl (omega arith)

mark_covers : (m : Mark) (rest : List ℕ) → Covers (scan (mark_byte m ∷ rest)) (kind.Mark m) 1
mark_covers mark.Dollar rest = (omega arith, λ same. refl)
mark_covers mark.Asterisk rest = (omega arith, λ same. refl)
mark_covers mark.Open rest = (omega arith, λ same. refl)
mark_covers mark.Close rest = (omega arith, λ same. refl)
mark_covers mark.Comma rest = (omega arith, λ same. refl)
mark_covers mark.Semicolon rest = (omega arith, λ same. refl)
mark_covers mark.Equals rest = (omega arith, λ same. refl)

-- a text at the front that is covered there
text_covers : (k : Kind) (text bytes : List ℕ) (n : ℕ) → HasPrefix (Text text) bytes n
    → ((rest : List ℕ) → Covers (scan (text ++ rest)) k (length text)) → Covers (scan bytes) k n
text_covers k text bytes n h covered =
    subst (λ l. Covers (scan l) k n) (sym (text_stands h))
    (subst (Covers (scan (text ++ drop (length text) bytes)) k) (sym (text_long h))
    (covered (drop (length text) bytes)))

head_front : (h : Head) (b : ℕ) (bs : List ℕ) → has_head h b ≡ true
    → IsFront (scan_at h (b ∷ bs)) (b ∷ bs)
head_front head.Letter b bs fits = (letters_found (b ∷ bs) fits).0
head_front head.Digit b bs fits =
    bare_front (b ∷ bs) (scan_unsigned (b ∷ bs)) (number_found (b ∷ bs)).there
head_front head.Sign b bs fits = signed_front b bs (scan_unsigned bs) fits (number_found bs).there
head_front head.Exclamation b bs fits = subst (λ c. IsFront (scan_exclamation (c ∷ bs)) (c ∷ bs))
    (sym (eqb-true b byte.exclamation fits))
    (longest_front (Text (codes "!") ⋅ Letters) kind.Keyword (byte.exclamation ∷ bs) _
    (λ xs is. record {
      front = is.front;
      back = is.back;
      joined = is.joined;
      first = inr is.first;
      second = is.second;
    }) nothing_barred (marked_found bs))
head_front head.Hash b bs fits = subst (λ c. IsFront (scan_name (c ∷ bs)) (c ∷ bs))
    (sym (eqb-true b byte.hash fits)) (name_front bs)
head_front head.Apostrophe b bs fits = subst (λ c. IsFront (as_string (string_len bs)) (c ∷ bs))
    (sym (eqb-true b byte.apostrophe fits)) (string_front bs (string_len bs) (ending_found bs))
head_front head.Point b bs fits = subst (λ c. IsFront (scan_enumeration (c ∷ bs)) (c ∷ bs))
    (sym (eqb-true b byte.point fits))
    (longest_front (IsOf kind.Enumeration) kind.Enumeration (byte.point ∷ bs) _ (λ xs is. is)
    nothing_barred (enumeration_found bs))
head_front head.Quote b bs fits = subst (λ c. IsFront (scan_binary (c ∷ bs)) (c ∷ bs))
    (sym (eqb-true b byte.quote fits))
    (longest_front (IsOf kind.Binary) kind.Binary (byte.quote ∷ bs) _ (λ xs is. is) nothing_barred
    (binary_found bs))
head_front (head.Mark m) b bs fits = subst (λ c. Front (c ∷ bs) (kind.Mark m) 1)
    (sym (eqb-true b (mark_byte m) fits))
    (record { prefix = has_text (mark_byte m ∷ []) bs; free = nothing_barred bs })
head_front head.Other b bs fits = tt

-- what is found at the front is a string of its kind
pub scan_front : (bytes : List ℕ) → IsFront (scan bytes) bytes
scan_front [] = tt
scan_front (b ∷ bs) = head_front (head_of b) b bs (head_fits b)

-- whatever string of a kind stands at the front, what is found covers it
pub scan_covers : (k : Kind) (bytes : List ℕ) (n : ℕ) → Front bytes k n → Covers (scan bytes) k n
scan_covers (kind.Word w) bytes n f = text_covers (kind.Word w) (word_text w) bytes n f.prefix
    (word_covers w)
scan_covers kind.Keyword bytes n f = keyword_covers bytes n f.prefix
scan_covers (kind.Name m) bytes n f = name_covers m bytes n f
scan_covers kind.Integer bytes n f = number_covers kind.Integer bytes n f.prefix
scan_covers kind.Real bytes n f = number_covers kind.Real bytes n f.prefix
scan_covers kind.Str bytes n f = string_covers bytes n f
scan_covers kind.Enumeration bytes n f = behind_covers kind.Enumeration byte.point
    (Letters ⋅ Text (codes ".")) bytes n enumeration_found f.prefix
scan_covers kind.Binary bytes n f = behind_covers kind.Binary byte.quote
    (HexDigits ⋅ Text (codes "\"")) bytes n binary_found f.prefix
scan_covers (kind.Mark m) bytes n f =
    text_covers (kind.Mark m) (mark_byte m ∷ []) bytes n f.prefix (mark_covers m)
