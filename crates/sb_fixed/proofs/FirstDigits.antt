-- Digits are read one by one, up to a count, into a number that is held back.
use Rattle.std.proofs.Common.{◌≡◌, ℕ, ◌+◌, ◌-◌, ◌*◌, ◌<◌, ◌≤◌, true, false, min, List, [], ◌∷◌, ◌++◌, length, get_or, take, sym, ap, ◌∙◌, ⊎_elim, arith, length-append, take_all, append-nil}
use Rattle.std.proofs.lemmas.Bool.{cases_Bool}
use Rattle.std.proofs.lemmas.Int.Digits.{digits_value_push}
use Rattle.std.proofs.lemmas.List.{take-append-le}
use Rattle.std.proofs.lemmas.List.Elements.{filter_more}
use Rattle.std.specs.Char.{is_ascii_digit, digit_value}
use Rattle.std.specs.Str.Parse.{digits_value}
use Rattle.sb_fixed.specs.Decimals.{digits_in}
use Rattle.sb_fixed.specs.Steps.{held}
use Rattle.sb_fixed.proofs.HeldBack.{held_digit}

-- of these digits at most so many are read into the number, and this many more are wanted
pub record IsRead (count : ℕ) (ds : List ℕ) (number left : ℕ) : Type 0 where
  pub number_is : number ≡ min (digits_value 10 (take count ds)) held
  pub left_is : left ≡ count - length ds

-- one digit more, where one is wanted
pub read_digit : (count : ℕ) (ds : List ℕ) (b number left more : ℕ) → IsRead count ds number left
    → 0 < left → more ≡ min (number * 10 + digit_value b) held
    → IsRead count (ds ++ b ∷ []) more (left - 1)
read_digit count ds b number left more so_far some grown =
    let before : take count ds ≡ ds = take_all count ds (omega (arith, so_far.left_is)) in
    let all : take count (ds ++ b ∷ []) ≡ ds ++ b ∷ [] =
    take_all count (ds ++ b ∷ []) (omega (arith, so_far.left_is, length-append ds (b ∷ []))) in
    let value : number ≡ min (digits_value 10 ds) held =
    so_far.number_is ∙ ap (λ l. min (digits_value 10 l) held) before in
    record {
      number_is =
          grown ∙ ap (λ n. min (n * 10 + digit_value b) held) value
          ∙ held_digit (digits_value 10 ds) (digit_value b)
          ∙ ap (λ n. min n held) (sym (digits_value_push 10 ds b))
          ∙ ap (λ l. min (digits_value 10 l) held) (sym all);
      left_is = omega (arith, so_far.left_is, length-append ds (b ∷ []));
    }

-- one digit more, where none is wanted
pub read_enough : (count : ℕ) (ds : List ℕ) (b number left : ℕ) → IsRead count ds number left
    → left ≤ 0 → IsRead count (ds ++ b ∷ []) number left
read_enough count ds b number left so_far none =
    let full : count ≤ length ds = omega (arith, so_far.left_is) in
    record {
      number_is =
          so_far.number_is
          ∙ ap (λ l. min (digits_value 10 l) held) (sym (take-append-le count ds (b ∷ []) full));
      left_is = omega (arith, so_far.left_is, length-append ds (b ∷ []));
    }

-- a text has at most as many digits as bytes
pub digits_are_few : (text : List ℕ) → length (digits_in text) ≤ length text
digits_are_few [] = omega arith
digits_are_few (b ∷ bs) =
    let rest = digits_are_few bs in
    ⊎_elim (λ yes. rw yes (omega (arith, rest))) (λ no. rw no (omega (arith, rest)))
    (cases_Bool (is_ascii_digit b))

-- ---- the digits of a text, byte by byte

-- a byte more that is a digit is read, where one is wanted
pub read_byte : (count : ℕ) (text : List ℕ) (i number left more : ℕ) → i < length text
    → is_ascii_digit (get_or text i 0) ≡ true
    → IsRead count (digits_in (take i text)) number left → 0 < left
    → more ≡ min (number * 10 + digit_value (get_or text i 0)) held
    → IsRead count (digits_in (take (i + 1) text)) more (left - 1)
read_byte count text i number left more within is so_far some grown =
    rw (filter_more is_ascii_digit text i 0 within, is)
    (read_digit count (digits_in (take i text)) (get_or text i 0) number left more so_far some grown)

-- any other byte changes nothing
pub pass_byte : (count : ℕ) (text : List ℕ) (i number left : ℕ) → i < length text
    → is_ascii_digit (get_or text i 0) ≡ false
    → IsRead count (digits_in (take i text)) number left
    → IsRead count (digits_in (take (i + 1) text)) number left
pass_byte count text i number left within is so_far =
    rw (filter_more is_ascii_digit text i 0 within, is, append-nil) so_far

-- nor does a byte where none is wanted
pub leave_byte : (count : ℕ) (text : List ℕ) (i number left : ℕ) → i < length text
    → IsRead count (digits_in (take i text)) number left → left ≤ 0
    → IsRead count (digits_in (take (i + 1) text)) number left
leave_byte count text i number left within so_far none =
    ⊎_elim
    (λ (yes : is_ascii_digit (get_or text i 0) ≡ true).
    rw (filter_more is_ascii_digit text i 0 within, yes)
    (read_enough count (digits_in (take i text)) (get_or text i 0) number left so_far none))
    (λ (no : is_ascii_digit (get_or text i 0) ≡ false). pass_byte count text i number left within no so_far)
    (cases_Bool (is_ascii_digit (get_or text i 0)))
