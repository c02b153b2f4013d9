-- To a call for the next token there is one answer.
use Rattle.std.proofs.Common.{◌≡◌, ◌≢◌, ℕ, ◌+◌, ◌-◌, ◌<◌, ◌≤◌, ◌↔◌, Bool, true, false, cond, eqb, List, ◌∷◌, ◌++◌, Option, Some, None, Result, Ok, Err, length, take, drop, sym, refl, ap, ◌∙◌, subst, ⊎_elim, inl, inr, arith, length-append, length-drop, drop-drop, le_refl}
use Rattle.std.specs.Prelude.{codes, slice_range}
use Rattle.std.proofs.lemmas.Bool.{cond_both, cond-true, cond-false, eqb-true, eq-eqb, ne_eqb, or_cases, cases_lt, eqb-false}
use Rattle.std.proofs.Math.Arith.{le-zero}
use Rattle.std.proofs.lemmas.Option.{none-some}
use Rattle.std.proofs.lemmas.List.{drop_all}
use Rattle.std.proofs.lemmas.List.Folds.{drop_split}
use Rattle.theory_bytes.proofs.InsidesAreBetween.{slice_length}
use Rattle.sb_lex.specs.Bytes as byte
use Rattle.sb_lex.specs.declared.kinds.Kind.{Kind}
use Rattle.sb_lex.specs.declared.kinds.Token.{Token}
use Rattle.sb_lex.specs.declared.kinds.BadToken.{BadToken}
use Rattle.sb_lex.specs.declared.first_byte.Head.{Head}
use Rattle.sb_lex.specs.declared.first_byte.Head.TheVariants as head
use Rattle.sb_lex.specs.Bytes.{is_white}
use Rattle.theory_bytes.specs.Sets.{begins_with, Begins}
use Rattle.sb_lex.specs.Kinds.{IsOf, not_after, Unclosed, BlankPiece}
use Rattle.sb_lex.specs.Tokens.{IsCandidate, IsToken, IsGap, Reading, IsTokenAnswer}
use Rattle.sb_lex.specs.Scanning.{Scanned, head_of, scan_at, scan, comment_len, piece_len}
use Rattle.theory_bytes.proofs.PrefixesJoin.{text_is}
use Rattle.theory_bytes.proofs.BytesByBytes.{passes_in_range}
use Rattle.theory_bytes.proofs.JoinedHasParts.{around, around_append}
use Rattle.sb_lex.proofs.GapsAgree.{piece_found, piece_len-piece, blanks_agree}
use Rattle.sb_lex.proofs.FoundIsLongest.{Front, IsFront, Covers, scan_front, scan_covers}

-- a token at a place, by its length
abbrev pub token_of : Kind → ℕ → ℕ → Token
token_of k from n = record { kind = k; start = from; end = from + n }

-- what stands at a place, and what follows it

-- a candidate is what stands at the front of the bytes that are left
front_from_candidate : (input : List ℕ) (t : Token) → IsCandidate input t
    → Front (drop t.start input) t.kind (t.end - t.start)
front_from_candidate input t c = record {
  prefix = record {
    rest = drop t.end input;
    prefix = record {
      text = slice_range input t.start t.end;
      joined = drop_split input t.start t.end c.ordered;
      long = slice_length input t.start t.end c.ordered c.within;
      is = c.of_kind;
    };
  };
  free =
      ap (begins_with (not_after t.kind)) (drop-drop (t.end - t.start) t.start input
      ∙ ap (λ k. drop k input) (omega (arith, c.ordered))) ∙ c.free;
}

candidate_from_front : (input : List ℕ) (from : ℕ) (k : Kind) (n : ℕ) → from ≤ length input
    → Front (drop from input) k n → IsCandidate input (token_of k from n)
candidate_from_front input from k n within f =
    let at = f.prefix.prefix in
    let size : from + n - from ≡ n = omega arith in
    record {
      ordered = omega arith;
      within =
          omega (
            arith,
            length-drop from input,
            ap length at.joined,
            length-append at.text f.prefix.rest,
            at.long,
          );
      of_kind =
          subst (IsOf k) (text_is (IsOf k) (drop from input) f.prefix.rest n at
          ∙ ap (λ m. take m (drop from input)) (sym size)) at.is;
      free = ap (begins_with (not_after k)) (sym (drop-drop n from input)) ∙ f.free;
    }

candidate_covered : (input : List ℕ) (t : Token) → IsCandidate input t
    → Covers (scan (drop t.start input)) t.kind (t.end - t.start)
candidate_covered input t c =
    scan_covers t.kind (drop t.start input) (t.end - t.start) (front_from_candidate input t c)

found_candidate : (input : List ℕ) (from : ℕ) (x : Kind × ℕ) → from ≤ length input
    → scan (drop from input) ≡ Some x → IsCandidate input (token_of x.0 from x.1)
found_candidate input from x within found =
    candidate_from_front input from x.0 x.1 within
    (subst (λ o. IsFront o (drop from input)) found (scan_front (drop from input)))

-- what is found is the token
pub found_token : (input : List ℕ) (from : ℕ) (x : Kind × ℕ) → from ≤ length input
    → scan (drop from input) ≡ Some x → IsToken input (token_of x.0 from x.1)
found_token input from x within found = record {
  candidate = found_candidate input from x within found;
  longest =
      λ other candidate same.
      let covered : Covers (Some x) other.kind (other.end - other.start) =
      subst (λ o. Covers o other.kind (other.end - other.start))
      (ap (λ k. scan (drop k input)) same ∙ found) (candidate_covered input other candidate) in
      omega (arith, covered.0, candidate.ordered, same);
}

-- where nothing is found there is no token
pub no_token_found : (input : List ℕ) (place : ℕ) → scan (drop place input) ≡ None → (t : Token)
    → IsCandidate input t → t.start ≢ place
no_token_found input place none t candidate same =
    subst (λ o. Covers o t.kind (t.end - t.start)) (ap (λ k. scan (drop k input)) same ∙ none)
    (candidate_covered input t candidate)

-- the token is what is found
pub token_found : (input : List ℕ) (t : Token) (o : Scanned) → IsToken input t
    → scan (drop t.start input) ≡ o → o ≡ Some (t.kind, t.end - t.start)
token_found input t None token found =
    absurd (no_token_found input t.start found t token.candidate refl)
token_found input t (Some x) token found =
    let c = token.candidate in
    let from_in : t.start ≤ length input = omega (arith, c.ordered, c.within) in
    let covered : Covers (Some x) t.kind (t.end - t.start) =
    subst (λ o. Covers o t.kind (t.end - t.start)) found (candidate_covered input t c) in
    let longest = token.longest (token_of x.0 t.start x.1)
    (found_candidate input t.start x from_in found) refl in
    let size : x.1 ≡ t.end - t.start = omega (arith, covered.0, longest, c.ordered) in
    λ i. Some (covered.1 size i, size i)

none_found : (input : List ℕ) (place : ℕ) (o : Scanned) → place ≤ length input
    → ((t : Token) → IsCandidate input t → t.start ≢ place) → scan (drop place input) ≡ o → o ≡ None
none_found input place None within no_token found = refl
none_found input place (Some x) within no_token found =
    absurd (no_token (token_of x.0 place x.1) (found_candidate input place x within found) refl)

-- white space and comments begin no token

abbrev is_other : Head → Bool
is_other head.Other = true
is_other _ = false

other_is : (h : Head) → is_other h ≡ true → h ≡ head.Other
other_is head.Other other = refl
other_is _ other = cc

white_is_other : (b : ℕ) → is_white b ≡ true → head_of b ≡ head.Other
white_is_other b white =
    ⊎_elim
    (λ control. other_is (head_of b)
    (passes_in_range byte.tab byte.carriage_return (λ c. is_other (head_of c)) refl b control))
    (λ space. ap head_of (eqb-true b byte.space space)) (or_cases _ (eqb b byte.space) white)

blank_is_no_token : (text rest : List ℕ) → BlankPiece text → scan (text ++ rest) ≡ None
blank_is_no_token text rest (inl white) =
    ap (λ l. scan (l ++ rest)) white.alone
    ∙ ap (λ h. scan_at h (white.byte ∷ rest)) (white_is_other white.byte white.passes)
blank_is_no_token text rest (inr comment) =
    let t = around (codes "/*") (codes "*/") Unclosed text comment in
    ap scan (around_append (codes "/*") (codes "*/") Unclosed text rest t)

-- where no piece begins no length is found
stops_at_bad : (bytes : List ℕ) → (Begins BlankPiece bytes → ⊥) → piece_len bytes ≡ 0
stops_at_bad bytes no_blank =
    ⊎_elim
    (λ some. let e = piece_found bytes some in absurd (no_blank (record {
      front = e.prefix.text;
      rest = e.rest;
      joined = e.prefix.joined;
      is = e.prefix.is;
    })))
    (λ none. le-zero none)
    (cases_lt 0 (piece_len bytes))

-- where a token is found no piece begins
stops_at_token : (bytes : List ℕ) (x : Kind × ℕ) → scan bytes ≡ Some x → piece_len bytes ≡ 0
stops_at_token bytes x found = stops_at_bad bytes (λ b. none-some x
    (sym (ap scan b.joined ∙ blank_is_no_token b.front b.rest b.is) ∙ found))

-- where no length is found no piece begins
pub no_blank_found : (bytes : List ℕ) → piece_len bytes ≡ 0 → Begins BlankPiece bytes → ⊥
no_blank_found bytes stops b =
    let piece = piece_len-piece b.front b.rest b.is in
    omega (arith, ap piece_len b.joined, piece.0, piece.1)

stops_at_end : (input : List ℕ) → piece_len (drop (length input) input) ≡ 0
unfolding comment_len
stops_at_end input = ap piece_len (drop_all (length input) input (le_refl (length input)))

not_at_end : (place size : ℕ) → place ≤ size → place ≢ size → place < size
not_at_end place size within other = omega arith

-- the answer at the place where the gap ends

-- the answer to a call
abbrev pub Answer : Type 0
Answer = Result (Option Token) BadToken

-- the answer by what is found where the gap ends
abbrev pub answer_by : Scanned → ℕ → ℕ → Answer
answer_by (Some x) place size = Ok (Some (token_of x.0 place x.1))
answer_by None place size = cond (eqb place size) (Ok None) (Err (record { 0 = place }))

-- a gap up to a place where no piece goes on
pub record Stop (input : List ℕ) (from place : ℕ) : Type 0 where
  pub gap : IsGap input from place
  pub stops : piece_len (drop place input) ≡ 0

-- this answer is so
pub answer_holds : (input : List ℕ) (from place : ℕ) (o : Scanned) → Stop input from place
    → scan (drop place input) ≡ o → IsTokenAnswer (record { input = input; place = from })
    (answer_by o place (length input))
answer_holds input from place (Some x) stop found =
    record { gap = stop.gap; token = found_token input place x stop.gap.within found }
answer_holds input from place None stop found =
    cond_both (eqb place (length input)) (Ok None) (Err (record { 0 = place }))
    (IsTokenAnswer (record { input = input; place = from }))
    (λ at_end. subst (IsGap input from) (eqb-true place (length input) at_end) stop.gap)
    (λ before. record {
      gap = stop.gap;
      within = not_at_end place (length input) stop.gap.within
          (eqb-false place (length input) before);
      no_blank = no_blank_found (drop place input) stop.stops;
      no_token = no_token_found input place found;
    })

-- an answer that holds is the answer at such a place
pub record Answered (input : List ℕ) (from : ℕ) (answer : Answer) : Type 0 where
  pub place : ℕ
  pub stop : Stop input from place
  pub answer_is : answer ≡ answer_by (scan (drop place input)) place (length input)

-- and an answer that is so is this one
pub answered : (input : List ℕ) (from : ℕ) (answer : Answer)
    → IsTokenAnswer (record { input = input; place = from }) answer → Answered input from answer
answered input from (Ok (Some t)) next =
    let found : scan (drop t.start input) ≡ Some (t.kind, t.end - t.start) =
    token_found input t (scan (drop t.start input)) next.token refl in
    let end : t.start + (t.end - t.start) ≡ t.end = omega (arith, next.token.candidate.ordered) in
    record {
      place = t.start;
      stop = record {
        gap = next.gap;
        stops = stops_at_token (drop t.start input)
            (t.kind, t.end - t.start) found;
      };
      answer_is =
          (λ i. Ok (Some (record { kind = t.kind; start = t.start; end = sym end i })))
          ∙ ap (λ o. answer_by o t.start (length input)) (sym found);
    }
answered input from (Ok None) at_end =
    let none : scan (drop (length input) input) ≡ None = ap scan
    (drop_all (length input) input (le_refl (length input))) in
    record {
      place = length input;
      stop = record { gap = at_end; stops = stops_at_end input };
      answer_is =
          sym (cond-true (eqb (length input) (length input)) (Ok None)
          (Err (record { 0 = length input })) (eq-eqb (length input) (length input) refl))
          ∙ ap (λ o. answer_by o (length input) (length input)) (sym none);
    }
answered input from (Err bad) is =
    let none : scan (drop bad.0 input) ≡ None =
    none_found input bad.0 (scan (drop bad.0 input)) is.gap.within is.no_token refl in
    record {
      place = bad.0;
      stop = record { gap = is.gap; stops = stops_at_bad (drop bad.0 input) is.no_blank };
      answer_is =
          sym (cond-false (eqb bad.0 (length input)) (Ok None) (Err (record { 0 = bad.0 }))
          (ne_eqb bad.0 (length input) (λ same. omega (arith, is.within))))
          ∙ ap (λ o. answer_by o bad.0 (length input)) (sym none);
    }

-- two gaps from one place end at one place
stops_agree : (input : List ℕ) (from p q : ℕ) → Stop input from p → Stop input from q → p ≡ q
stops_agree input from p q a b =
    let same = sym (drop_split input from p a.gap.ordered)
    ∙ drop_split input from q b.gap.ordered in
    let as_long = blanks_agree (slice_range input from p) (slice_range input from q) (drop p input)
    (drop q input) a.gap.blank b.gap.blank same a.stops b.stops in
    omega (
      arith,
      as_long,
      slice_length input from p a.gap.ordered a.gap.within,
      slice_length input
          from q b.gap.ordered b.gap.within,
      a.gap.ordered,
      b.gap.ordered,
    )

-- there is one answer
pub answers_agree : (at : Reading) (r q : Answer) → IsTokenAnswer at r → IsTokenAnswer at q → r ≡ q
answers_agree at r q a b =
    let first = answered at.input at.place r a in
    let second = answered at.input at.place q b in
    let same = stops_agree at.input at.place first.place second.place first.stop second.stop in
    first.answer_is ∙ ap (λ k. answer_by (scan (drop k at.input)) k (length at.input)) same
    ∙ sym second.answer_is

-- an answer that holds is given exactly where another holds that is the same
pub answer_pins : (at : Reading) (r q : Answer) → IsTokenAnswer at r
    → (r ≡ q) ↔ IsTokenAnswer at q
answer_pins at r q holds = (
  λ same. subst (IsTokenAnswer at) same holds,
  λ other. answers_agree at
      r q holds other,
)
