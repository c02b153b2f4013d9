-- A comment ends at the next `*/`: there is one way to read it.
use Rattle.std.proofs.Common.{◌≡◌, ℕ, suc, ◌+◌, ◌<◌, Bool, true, false, ◌&&◌, eqb, List, [], ◌∷◌, ◌++◌, Option, Some, None, length, get_or, drop, drop-drop, sym, refl, ap, ◌∙◌, subst, arith, one-add}
use Rattle.std.specs.Prelude.{codes}
use Rattle.std.proofs.lemmas.Bool.{cond_both, and_parts, eqb-true, both_ways, and_right, and_from, eq-eqb, false_from_ne_true}
use Rattle.theory_bytes.specs.Sets.{Holds}
use Rattle.sb_lex.specs.Bytes as byte
use Rattle.sb_lex.specs.Kinds.{Unclosed, IsComment}
use Rattle.sb_lex.specs.Scanning.{after, close_at, closed_len, comment_len}
use Rattle.theory_bytes.proofs.PrefixesJoin.{HasPrefix, prefix_so_long}
use Rattle.theory_bytes.proofs.LongestPrefixes.{prefix_around, stands_at, text_stands}
use Rattle.theory_bytes.proofs.JoinedHasParts.{around, around_append, around_length}

-- the text before the next `*/`
pub record Closing (bytes : List ℕ) (n : ℕ) : Type 0 where
  pub text : List ℕ
  pub rest : List ℕ
  pub joined : bytes ≡ text ++ (byte.asterisk ∷ byte.slash ∷ rest)
  pub long : length text ≡ n
  pub unclosed : Unclosed text

-- what was found is the text before the next `*/`
abbrev pub IsClosing : Option ℕ → List ℕ → Type 0
IsClosing None bytes = Unit {0}
IsClosing (Some n) bytes = Closing bytes n

-- `*/` is at the front
abbrev pub closes : ℕ → List ℕ → Bool
closes b bs = eqb b byte.asterisk && eqb (get_or bs 0 0) byte.slash

nothing_holds : Holds (codes "*/") [] → ⊥
nothing_holds h = elim h.before as (λ l. [] ≡ l ++ (byte.asterisk ∷ byte.slash ∷ h.after) → ⊥)
    [ [] ↦ λ e. cc | x ∷ xs ↦ λ e. cc ] h.found

holds_later : (b : ℕ) (text : List ℕ) → Holds (codes "*/") text → Holds (codes "*/") (b ∷ text)
holds_later b text h = record {
  before = b ∷ h.before;
  after = h.after;
  found = ap (λ l. b ∷ l)
      h.found;
}

closing_here : (b : ℕ) (bs : List ℕ) → closes b bs ≡ true → Closing (b ∷ bs) 0
closing_here b [] closed = absurd (both_ways (closes b []) (and_right (eqb b byte.asterisk)
    (eqb 0 byte.slash) refl)
    closed)
closing_here b (c ∷ bs) closed =
    let parts = and_parts (eqb b byte.asterisk) (eqb c byte.slash) closed in
    record {
      text = [];
      rest = bs;
      joined = λ i. eqb-true b byte.asterisk parts.0 i ∷ (eqb-true c byte.slash parts.1 i ∷ bs);
      long = refl;
      unclosed = λ h. nothing_holds h;
    }

-- one byte more at the front, unless `*/` begins with it, leaves a text unclosed
unclosed_more : (b : ℕ) (text rest : List ℕ)
    → closes b (text ++ (byte.asterisk ∷ byte.slash ∷ rest)) ≡ false
    → Unclosed text → Unclosed (b ∷ text)
unclosed_more b text rest apart unclosed h = at_front h.before h.found
  where
    at_front : (before : List ℕ) → b ∷ text ≡ before ++ (byte.asterisk ∷ byte.slash ∷ h.after) → ⊥
    at_front [] found =
        let first : b ≡ byte.asterisk = cc in
        let behind : text ≡ byte.slash ∷ h.after = cc in
        let second : get_or (text ++ (byte.asterisk ∷ byte.slash ∷ rest)) 0 0 ≡ byte.slash = ap
        (λ l. get_or (l ++ (byte.asterisk ∷ byte.slash ∷ rest)) 0 0) behind in
        both_ways (closes b (text ++ (byte.asterisk ∷ byte.slash ∷ rest))) apart
        (and_from (eqb b byte.asterisk) (eqb (get_or (text ++
        (byte.asterisk ∷ byte.slash ∷ rest)) 0 0) byte.slash)
        (eq-eqb b byte.asterisk first) (eq-eqb (get_or (text ++
        (byte.asterisk ∷ byte.slash ∷ rest)) 0 0) byte.slash second))
    at_front (x ∷ before) found =
        let later : text ≡ before ++ (byte.asterisk ∷ byte.slash ∷ h.after) = cc in
        unclosed (record { before = before; after = h.after; found = later })

closing_more : (b : ℕ) (bs : List ℕ) (o : Option ℕ) → closes b bs ≡ false → IsClosing o bs
    → IsClosing (after 1 o) (b ∷ bs)
closing_more b bs None apart c = tt
closing_more b bs (Some n) apart c = record {
  text = b ∷ c.text;
  rest = c.rest;
  joined = ap (λ l. b ∷ l) c.joined;
  long = ap suc c.long ∙ sym (one-add n);
  unclosed = unclosed_more b c.text c.rest (ap (closes b) (sym c.joined) ∙ apart) c.unclosed;
}

-- what is found is the next `*/`
pub closing_found : (bytes : List ℕ) → IsClosing (close_at bytes) bytes
closing_found [] = tt
closing_found (b ∷ bs) =
    cond_both (closes b bs) (Some 0) (after 1 (close_at bs)) (λ o. IsClosing o (b ∷ bs))
    (closing_here b bs) (λ apart. closing_more b bs (close_at bs) apart (closing_found bs))

not_closed_here : (b : ℕ) (text rest : List ℕ) → Unclosed (b ∷ text)
    → closes b (text ++ (byte.asterisk ∷ byte.slash ∷ rest)) ≡ false
not_closed_here b [] rest unclosed = and_right (eqb b byte.asterisk)
    (eqb byte.asterisk byte.slash) refl
not_closed_here b (c ∷ text) rest unclosed =
    false_from_ne_true (closes b (c ∷ text ++ (byte.asterisk ∷ byte.slash ∷ rest))) (λ closed.
    let parts = and_parts (eqb b byte.asterisk) (eqb c byte.slash) closed in
    unclosed (record {
      before = [];
      after = text;
      found = λ i. eqb-true b byte.asterisk parts.0 i ∷ (eqb-true c byte.slash parts.1 i ∷ text);
    }))

-- and it is found
pub close_at-text : (text rest : List ℕ) → Unclosed text
    → close_at (text ++ (byte.asterisk ∷ byte.slash ∷ rest))
    ≡ Some (length text)
close_at-text [] rest unclosed = refl
close_at-text (b ∷ text) rest unclosed =
    let apart = not_closed_here b text rest unclosed in
    rw apart (ap (after 1) (close_at-text text rest (λ h. unclosed (holds_later b text h)))
    ∙ ap (λ n. Some n) (one-add (length text)))

-- the length of a comment at the front, whatever follows it
pub comment_len-comment : (xs rest : List ℕ) → IsComment xs → comment_len (xs ++ rest) ≡ length xs
unfolding comment_len
comment_len-comment xs rest is =
    let t = around (codes "/*") (codes "*/") Unclosed xs is in
    ap comment_len (around_append (codes "/*") (codes "*/") Unclosed xs rest t) ∙ ap closed_len
    (close_at-text t.inside rest t.is)
    ∙ omega (arith, around_length (codes "/*") (codes "*/") Unclosed xs t)

comment_at_front : (bs : List ℕ) (o : Option ℕ) → IsClosing o bs → 0 < closed_len o
    → HasPrefix IsComment (byte.slash ∷ byte.asterisk ∷ bs) (closed_len o)
comment_at_front bs None c some = absurd (omega arith)
comment_at_front bs (Some n) c some =
    let size : 2 + (length c.text + 2) ≡ n + 4 = omega (arith, c.long) in
    subst (λ l. HasPrefix IsComment (byte.slash ∷ byte.asterisk ∷ l) (n + 4)) (sym c.joined)
    (record {
      rest = c.rest;
      prefix = prefix_so_long IsComment _ c.rest _ (n + 4) size
          (prefix_around (codes "/*") (codes "*/") Unclosed c.text c.rest c.unclosed);
    })

-- where a length is found, a comment so long stands there
pub comment_found : (bytes : List ℕ) → 0 < comment_len bytes → HasPrefix IsComment bytes
    (comment_len bytes)
unfolding comment_len
comment_found bytes some =
    let first = eqb (get_or bytes 0 0) byte.slash in
    let second = eqb (get_or bytes 1 0) byte.asterisk in
    let bs = drop 2 bytes in
    cond_both (first && second) (closed_len (close_at bs)) 0
    (λ n. 0 < n → HasPrefix IsComment bytes n)
    (λ both more.
    let each = and_parts first second both in
    let whole : bytes ≡ byte.slash ∷ byte.asterisk ∷ bs =
    text_stands (stands_at byte.slash bytes 0 (omega arith) each.0).0
    ∙ ap (λ l. byte.slash ∷ l) (text_stands (stands_at byte.asterisk bytes 1 (omega arith) each.1).0
    ∙ ap (λ l. byte.asterisk ∷ l) (drop-drop 1 1 bytes)) in
    subst (λ l. HasPrefix IsComment l (closed_len (close_at bs))) (sym whole)
    (comment_at_front bs (close_at bs) (closing_found bs) more))
    (λ other none. absurd (omega arith)) some
