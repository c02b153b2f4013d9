-- What the tests of kinds say.
use Rattle.sb_step.proofs.Names.{◌≡◌, ℕ, List, true, false, Option, Some, refl, ap, ◌⊎◌, inl, inr, Bool, cond, eqb, sym, ◌∙◌, false≢true, and_parts, and_from, eqb-true, bytes_eq-Decides, Kind, Mark, mark_byte, Lexeme, IsThe, is_mark, is_first, is_last, is_keyword, is_name, number_of, is_the}
use Rattle.sb_lex.specs.declared.kinds.Kind.TheVariants as kind
use Rattle.sb_lex.specs.declared.kinds.Mark.TheVariants as mark
use Rattle.sb_lex.specs.declared.kinds.Word.TheVariants as word
use Rattle.sb_lex.specs.Bytes as byte

-- the mark of a byte
mark_of : ℕ → Mark
mark_of b =
    cond (eqb b byte.dollar) mark.Dollar (cond (eqb b byte.asterisk) mark.Asterisk
    (cond (eqb b byte.open_parenthesis) mark.Open (cond (eqb b byte.close_parenthesis) mark.Close
    (cond (eqb b byte.comma) mark.Comma (cond (eqb b byte.semicolon) mark.Semicolon
    mark.Equals)))))

mark_of-byte : (m : Mark) → mark_of (mark_byte m) ≡ m
unfolding mark_of
mark_of-byte mark.Dollar = refl
mark_of-byte mark.Asterisk = refl
mark_of-byte mark.Open = refl
mark_of-byte mark.Close = refl
mark_of-byte mark.Comma = refl
mark_of-byte mark.Semicolon = refl
mark_of-byte mark.Equals = refl

-- a kind that passes the test of a mark is this mark
pub mark_says : (m : Mark) (k : Kind) → is_mark m k ≡ true → k ≡ kind.Mark m
mark_says m (kind.Mark n) e =
    ap (λ i. kind.Mark i)
    (sym (mark_of-byte n) ∙ ap mark_of (eqb-true (mark_byte n) (mark_byte m) e) ∙ mark_of-byte m)
mark_says m _ e = absurd (false≢true e)

-- the first word
pub first_says : (k : Kind) → is_first k ≡ true → k ≡ kind.Word word.First
first_says (kind.Word word.First) e = refl
first_says _ e = absurd (false≢true e)

-- the last word
pub last_says : (k : Kind) → is_last k ≡ true → k ≡ kind.Word word.Last
last_says (kind.Word word.Last) e = refl
last_says _ e = absurd (false≢true e)

-- a keyword
pub keyword_says : (k : Kind) → is_keyword k ≡ true → k ≡ kind.Keyword
keyword_says kind.Keyword e = refl
keyword_says _ e = absurd (false≢true e)

-- a name with its number
pub name_says : (k : Kind) → is_name k ≡ true → k ≡ kind.Name (number_of k)
name_says (kind.Name n) e = refl
name_says _ e = absurd (false≢true e)

-- a keyword of these letters
pub the_says : (letters : List ℕ) (x : Lexeme) → is_the letters x ≡ true → IsThe letters x
the_says letters x e =
    let parts = and_parts (is_keyword x.token.kind) _ e in
    record {
      keyword = keyword_says x.token.kind parts.0;
      spelled = (bytes_eq-Decides x.text letters).0 parts.1;
    }

-- and the other way round
pub said_the : (letters : List ℕ) (x : Lexeme) → IsThe letters x → is_the letters x ≡ true
said_the letters x the =
    and_from (is_keyword x.token.kind) _ (ap is_keyword the.keyword)
    ((bytes_eq-Decides x.text letters).1 the.spelled)

-- a condition with a choice behind it
pub choice : {A : Type 0} (b : Bool) (x y : Option A) (z : A) → cond b x y ≡ Some z
    → ((b ≡ true) × (x ≡ Some z)) ⊎ ((b ≡ false) × (y ≡ Some z))
choice true x y z e = inl (refl, e)
choice false x y z e = inr (refl, e)
