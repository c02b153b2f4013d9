-- Each input has one list of tokens with one end, and the calls give it.
use Rattle.std.proofs.Common.{◌≡◌, ℕ, suc, zero, ◌+◌, ◌-◌, ◌<◌, ◌≤◌, ◌↔◌, List, [], ◌∷◌, ◌++◌, Ok, Err, Option, Some, None, length, take, drop, sym, refl, ap, ap₂, ◌∙◌, subst, ⊎_elim, arith, length-append, length-drop, drop-drop, take-add, take_at, drop_at}
use Rattle.std.proofs.Math.Arith.{le-zero}
use Rattle.std.proofs.lemmas.Bool.{cases_lt}
use Rattle.std.proofs.lemmas.Option.{some_pair_parts}
use Rattle.sb_lex.specs.declared.kinds.Token.{Token}
use Rattle.sb_lex.specs.declared.kinds.BadToken.{BadToken}
use Rattle.sb_lex.specs.Kinds.{BlankPiece, Blank}
use Rattle.sb_lex.specs.Scanning.{Scanned, scan, piece_len}
use Rattle.sb_lex.specs.Tokens.{IsNext, AreTokensFrom, Reading, IsTokenAnswer, moved, Calls, EachInputHasTokens, TokensAreUnique, TokensFollowEachPlace, TokensBehindAPlaceAreUnique, CallsGiveTokens, OneTokenAtAPlace}
use Rattle.theory_bytes.proofs.RepeatsGrow.{repeated_cons, repeated_nothing}
use Rattle.sb_lex.proofs.GapsAgree.{piece_found}
use Rattle.sb_lex.proofs.OneAnswer.{Answer, answer_by, Stop, answer_holds, answers_agree, token_found}
use Rattle.sb_lex.proofs.TokensHaveBytes.{next_lies}

-- a gap at the front of bytes, where it stops
pub record Gap (bytes : List ℕ) : Type 0 where
  pub size : ℕ
  pub within : size ≤ length bytes
  pub blank : Blank (take size bytes)
  pub stops : piece_len (drop size bytes) ≡ 0

gap_stops : (bytes : List ℕ) → piece_len bytes ≡ 0 → Gap bytes
gap_stops bytes stops = record {
  size = 0;
  within = omega arith;
  blank = repeated_nothing
      BlankPiece;
  stops = stops;
}

-- a piece, and a gap behind it
gap_more : (text rest : List ℕ) → BlankPiece text → Gap rest → Gap (text ++ rest)
gap_more text rest piece g = record {
  size = length text + g.size;
  within = omega (arith, g.within, length-append text rest);
  blank =
      subst Blank (sym (take-add (length text) g.size (text ++ rest)
      ∙ ap₂ (λ x y. x ++ take g.size y) (take_at text rest (length text) refl)
      (drop_at text rest (length text) refl)))
      (repeated_cons BlankPiece text (take g.size rest) piece g.blank);
  stops =
      ap piece_len (sym (drop-drop g.size (length text) (text ++ rest)) ∙ ap (drop g.size)
      (drop_at text rest (length text) refl)) ∙ g.stops;
}

-- a gap, if there is one for all shorter bytes
gap_step : (bytes : List ℕ) → ((rest : List ℕ) → length rest < length bytes → Gap rest)
    → Gap bytes
gap_step bytes shorter =
    ⊎_elim
    (λ some.
    let e = piece_found bytes some in
    subst Gap (sym e.prefix.joined)
    (gap_more e.prefix.text e.rest e.prefix.is (shorter e.rest
    (omega (arith, ap length e.prefix.joined, length-append e.prefix.text e.rest, e.prefix.long)))))
    (λ none. gap_stops bytes (le-zero none))
    (cases_lt 0 (piece_len bytes))

gap_exists : (fuel : ℕ) (bytes : List ℕ) → length bytes ≤ fuel → Gap bytes
gap_exists zero bytes fits = gap_step bytes (λ rest shorter. absurd (omega arith))
gap_exists (suc fuel) bytes fits =
    gap_step bytes (λ rest shorter. gap_exists fuel rest (omega arith))

-- a gap of the bytes that are left is one of the input
pub stop_from_gap : (input : List ℕ) (from : ℕ) → from ≤ length input → (g : Gap (drop from input))
    → Stop input from (from + g.size)
stop_from_gap input from within g =
    let size : from + g.size - from ≡ g.size = omega arith in
    record {
      gap = record {
        ordered = omega arith;
        within = omega (arith, g.within, length-drop from input);
        blank = subst (λ n. Blank (take n (drop from input))) (sym size) g.blank;
      };
      stops = ap piece_len (sym (drop-drop g.size from input)) ∙ g.stops;
    }

-- there is an answer
pub record HasAnswer (at : Reading) : Type 0 where
  pub answer : Answer
  pub holds : IsTokenAnswer at answer

answer_exists : (input : List ℕ) (from : ℕ) → from ≤ length input
    → HasAnswer (record { input = input; place = from })
answer_exists input from within =
    let g = gap_exists (length (drop from input)) (drop from input) (omega arith) in
    let place = from + g.size in
    record {
      answer = answer_by (scan (drop place input)) place (length input);
      holds = answer_holds input from place (scan (drop place input))
          (stop_from_gap input from within g) refl;
    }

-- tokens from a place on
pub record HasTokens (input : List ℕ) (from : ℕ) : Type 0 where
  pub tokens : List Token
  pub fault : Option BadToken
  pub are : AreTokensFrom input from tokens fault

-- a token ends behind the place from which it was read
next_goes_on : (input : List ℕ) (from : ℕ) (t : Token) → IsNext input from t → (from < t.end)
    × (t.end ≤ length input)
next_goes_on input from t next =
    let lies = next_lies (record { input = input; place = from }) t next in
    (omega (arith, lies.behind, lies.some), lies.within)

tokens_by : (fuel : ℕ) (input : List ℕ) (from : ℕ) → length input ≤ from + fuel → (answer : Answer)
    → IsTokenAnswer (record { input = input; place = from }) answer → HasTokens input from
tokens_by fuel input from enough (Ok None) holds = record { tokens = []; fault = None; are = holds }
tokens_by fuel input from enough (Err bad) holds = record
    { tokens = []; fault = Some bad; are = holds }
tokens_by zero input from enough (Ok (Some t)) holds =
    let on = next_goes_on input from t holds in absurd (omega arith)
tokens_by (suc fuel) input from enough (Ok (Some t)) holds =
    let on = next_goes_on input from t holds in
    let a = answer_exists input t.end on.1 in
    let more = tokens_by fuel input t.end (omega arith) a.answer a.holds in
    record { tokens = t ∷ more.tokens; fault = more.fault; are = (holds, more.are) }

has_tokens : (input : List ℕ) (from : ℕ) → from ≤ length input → HasTokens input from
has_tokens input from within =
    let a = answer_exists input from within in
    tokens_by (length input) input from (omega arith) a.answer a.holds

-- from each place on there are tokens
pub tokens_follow : TokensFollowEachPlace
tokens_follow input from within =
    let h = has_tokens input from within in (h.tokens, h.fault, h.are)

-- the answer with which tokens begin
abbrev first_answer : List Token → Option BadToken → Answer
first_answer [] None = Ok None
first_answer [] (Some bad) = Err bad
first_answer (t ∷ ts) fault = Ok (Some t)

first_holds : (input : List ℕ) (from : ℕ) (ts : List Token) (fault : Option BadToken)
    → AreTokensFrom input from ts fault
    → IsTokenAnswer (record { input = input; place = from }) (first_answer ts fault)
first_holds input from [] None are = are
first_holds input from [] (Some bad) are = are
first_holds input from (t ∷ ts) fault are = are.0

-- one answer, so that lists of tokens begin with the same
same_first : (input : List ℕ) (from : ℕ) (ts us : List Token) (fault other : Option BadToken)
    → AreTokensFrom input from ts fault → AreTokensFrom input from us other
    → first_answer ts fault ≡ first_answer us other
same_first input from ts us fault other a b =
    answers_agree (record { input = input; place = from }) (first_answer ts fault)
    (first_answer us other) (first_holds input from ts fault a) (first_holds input from us other b)

-- and no others
pub tokens_agree : TokensBehindAPlaceAreUnique
tokens_agree input from [] [] None None a b = (refl, refl)
tokens_agree input from [] [] (Some bad) (Some worse) a b =
    let same = same_first input from [] [] (Some bad) (Some worse) a b in (refl, cc)
tokens_agree input from (t ∷ ts) (u ∷ us) fault other a b =
    let same = same_first input from (t ∷ ts) (u ∷ us) fault other a b in
    let first : t ≡ u = cc in
    let later = tokens_agree input t.end ts us fault other a.1
    (subst (λ x. AreTokensFrom input x.end us other) (sym first) b.1) in
    (ap₂ (λ x xs. x ∷ xs) first later.0, later.1)
tokens_agree input from [] (u ∷ us) None other a b =
    let same = same_first input from [] (u ∷ us) None other a b in cc
tokens_agree input from [] (u ∷ us) (Some bad) other a b =
    let same = same_first input from [] (u ∷ us) (Some bad) other a b in cc
tokens_agree input from (t ∷ ts) [] fault None a b =
    let same = same_first input from (t ∷ ts) [] fault None a b in cc
tokens_agree input from (t ∷ ts) [] fault (Some bad) a b =
    let same = same_first input from (t ∷ ts) [] fault (Some bad) a b in cc
tokens_agree input from [] [] fault other a b =
    let same = same_first input from [] [] fault other a b in cc

-- Laws

-- each input has tokens
pub each_input_has_tokens : EachInputHasTokens
each_input_has_tokens input =
    let h = has_tokens input 0 (omega arith) in (h.tokens, h.fault, h.are)

-- and no others
pub tokens_are_unique : TokensAreUnique
tokens_are_unique input ts us fault other a b = tokens_agree input 0 ts us fault other a b

calls_are_tokens : (at : Reading) (ts : List Token) (fault : Option BadToken)
    → Calls at ts fault ↔ AreTokensFrom at.input at.place ts fault
calls_are_tokens at [] None = (λ calls. calls, λ are. are)
calls_are_tokens at [] (Some bad) = (λ calls. calls, λ are. are)
calls_are_tokens at (t ∷ ts) fault =
    let later = calls_are_tokens (moved at (Ok (Some t))) ts fault in
    (λ calls. (calls.0, later.0 calls.1), λ are. (are.0, later.1 are.1))

-- calling to the end gives them
pub calls_give_tokens : CallsGiveTokens
calls_give_tokens input ts fault = calls_are_tokens (record { input = input; place = 0 }) ts fault

-- at a place there is at most one token
pub one_token_at_a_place : OneTokenAtAPlace
one_token_at_a_place input t u is other same =
    let first = token_found input t (scan (drop t.start input)) is refl in
    let second = token_found input u (scan (drop u.start input)) other refl in
    let found : ◌≡◌ {A = Scanned} (Some (t.kind, t.end - t.start)) (Some
    (u.kind, u.end - u.start)) =
    sym first ∙ ap (λ k. scan (drop k input)) same ∙ second in
    let parts = some_pair_parts t.kind u.kind (t.end - t.start) (u.end - u.start) found in
    let ends : t.end ≡ u.end =
    omega (arith, parts.1, same, is.candidate.ordered, other.candidate.ordered) in
    λ i. record { kind = parts.0 i; start = same i; end = ends i }
