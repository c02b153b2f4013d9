-- What a reading of the tokens so far says of the input.
use Rattle.sb_step.proofs.Names.{◌≡◌, ℕ, List, [], ◌∷◌, ◌++◌, Option, Some, None, Err, refl, sym, ap, ◌∙◌, subst, Token, BadToken, IsNext, IsEnd, IsBadFrom, AreTokensFrom, TokensFollowEachPlace, StepError, Collected, lexeme_at, lexemes, IsFaultAt, IsAnswer, State, next_turn, start, end_of, file_of, Ran, run, AreCollected, TokensTo, Progress, Accepted, Accepts, IsRead}
use Rattle.sb_step.specs.declared.error.StepError.TheVariants as step_error
use Rattle.sb_step.proofs.Texts.TextsEnd.{goes_on, no_end, stops}
use Rattle.sb_step.proofs.Texts.OneFileOrOneFault.{fault_behind, file_behind, lexemes-more}

-- the tokens up to a place, and those from there on, are the tokens
to_all : (input : List ℕ) (from to : ℕ) (before after : List Token) (bad : Option BadToken)
    → TokensTo input from before to → AreTokensFrom input to after bad
    → AreTokensFrom input from (before ++ after) bad
to_all input from to [] after bad so_far are =
    subst (λ k. AreTokensFrom input k after bad) (sym so_far) are
to_all input from to (t ∷ before) after bad so_far are =
    (so_far.0, to_all input t.end to before after bad so_far.1 are)

-- one token more
to_more : (input : List ℕ) (from to : ℕ) (before : List Token) (t : Token)
    → TokensTo input from before to → IsNext input to t
    → TokensTo input from (before ++ t ∷ []) t.end
to_more input from to [] t so_far next =
    (subst (λ k. IsNext input k t) (sym so_far) next, refl)
to_more input from to (u ∷ before) t so_far next =
    (so_far.0, to_more input u.end to before t so_far.1 next)

-- before the first token
pub nothing_read : (input : List ℕ) (c : Collected) → AreCollected input [] c
    → Progress input 0 start c
nothing_read input c empty = record {
  before = [];
  events = [];
  tokens = refl;
  reads = refl;
  collected = empty;
}

-- a token was accepted
pub one_more : {input : List ℕ} {place : ℕ} {t : Token} {s u : State} {c d : Collected}
    → Progress input place s c → IsNext input place t
    → Accepted input s u (lexeme_at input t) c d → Progress input t.end u d
one_more {input} {place} {t} {s} {u} p next a = record {
  before = p.before ++ t ∷ [];
  events = p.events ++ a.event ∷ [];
  tokens = to_more input 0 place p.before t p.tokens next;
  reads = ap (λ l. run l start) (lexemes-more input p.before t)
      ∙ goes_on (lexeme_at input t) (record { state = u; event = a.event })
      (lexemes input p.before) start (record { state = s; events = p.events }) p.reads a.turns;
  collected = a.collects p.events p.collected;
}

-- a token was not
pub fault_at_token : TokensFollowEachPlace
    → (input : List ℕ) (place : ℕ) (t : Token) (s : State) (c : Collected)
    → Progress input place s c → IsNext input place t → next_turn s (lexeme_at input t) ≡ None
    → IsFaultAt input t.start
fault_at_token follow input place t s c p next none =
    let l = follow input t.end next.token.candidate.within in
    let ran : Ran = record { state = s; events = p.events } in
    fault_behind input p.before (t ∷ l.0) l.1 ran
    (to_all input 0 place p.before (t ∷ l.0) l.1 p.tokens (next, l.2)) p.reads
    (stops (lexemes input p.before) ran p.reads (lexeme_at input t) none)

-- no token begins
pub fault_at_bad : (input : List ℕ) (place bad : ℕ) (s : State) (c : Collected)
    → Progress input place s c → IsBadFrom input place bad → IsFaultAt input bad
fault_at_bad input place bad s c p is =
    let here = Some (record { 0 = bad }) in
    fault_behind input p.before [] here (record { state = s; events = p.events })
    (to_all input 0 place p.before [] here p.tokens is) p.reads (λ goes. goes)

-- the end of the input

end_answers : (input : List ℕ) (place : ℕ) (s : State) (c : Collected) (end : Option ℕ)
    → end_of s ≡ end → Progress input place s c → IsEnd input place → IsRead input end c
end_answers input place s c None none p ends =
    let ran : Ran = record { state = s; events = p.events } in
    fault_behind input p.before [] None ran
    (to_all input 0 place p.before [] None p.tokens ends) p.reads
    (no_end (lexemes input p.before) ran p.reads none)
end_answers input place s c (Some k) ended p ends = record {
  file = file_of p.events k;
  is = file_behind input p.before (record { state = s; events = p.events }) k
      (to_all input 0 place p.before [] None p.tokens ends) p.reads ended;
  ends = refl;
  schema = p.collected.schema;
  instances = p.collected.instances;
}

-- what was read there is so
pub read_at_end : (input : List ℕ) (place : ℕ) (s : State) (c : Collected)
    → Progress input place s c → IsEnd input place → IsRead input (end_of s) c
read_at_end input place s c p ends = end_answers input place s c (end_of s) refl p ends

-- what is answered where a token was not accepted
pub error_answers : TokensFollowEachPlace
    → (input : List ℕ) (place : ℕ) (t : Token) (s u : State) (c d : Collected)
    (error : StepError) → Progress input place s c → IsNext input place t
    → Accepts input s u (lexeme_at input t) c d (Err error) → IsAnswer input (Err error)
error_answers follow input place t s u c d (step_error.Syntax k) p next says =
    subst (IsFaultAt input) (sym says.0) (fault_at_token follow input place t s c p next says.1)
error_answers follow input place t s u c d (step_error.Duplicate n) p next says = absurd says
error_answers follow input place t s u c d step_error.NoMemory p next says = tt
