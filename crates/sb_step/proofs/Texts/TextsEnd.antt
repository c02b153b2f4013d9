-- What the machine reads begins a text, and is one where it has come to its end.
use Rattle.sb_step.proofs.Names.{◌≡◌, ℕ, List, [], ◌∷◌, ◌++◌, Option, Some, None, refl, sym, ap, ◌∙◌, subst, append_assoc, append-nil, option_map, option_and_then, same_Some, none-some, option_and_then_some, Event, Lexeme, File, IsText, BeginsText, State, Turn, next_turn, start, end_of, file_of, Ran, and_ran, run}
use Rattle.sb_step.specs.declared.indexing.states.Event.TheVariants as event
use Rattle.sb_step.proofs.Texts.TurnsByWay.{mapped}
use Rattle.sb_step.proofs.Texts.ReadingToTheEnd.{prepend, no_more, ends}
use Rattle.sb_step.proofs.Texts.SectionsAreFollowed.{texts_are_read}
use Rattle.sb_step.proofs.Texts.WhatIsReadIsText.{what_is_read}
use Rattle.sb_step.proofs.Texts.SomeTextGoesOn.{some_text_goes_on}

-- a run with one turn before it
abbrev turned : Turn → Ran → Ran
turned turn after = record { state = after.state; events = turn.event ∷ after.events }

-- what holds of no lexeme, and with each lexeme before, holds of each run
module _ (Q : List Lexeme → State → Ran → Type 0)
    (none : (s : State) → Q [] s (record { state = s; events = [] }))
    (more : (x : Lexeme) (xs : List Lexeme) (s : State) (turn : Turn) (after : Ran)
    → next_turn s x ≡ Some turn → Q xs turn.state after → Q (x ∷ xs) s (turned turn after)) where
  each_run : (xs : List Lexeme) (s : State) (ran : Ran) → run xs s ≡ Some ran → Q xs s ran
  each_run [] s ran is = subst (Q [] s) (same_Some _ ran is) (none s)
  each_run (x ∷ xs) s ran is =
      option_and_then_some _ (next_turn s x) ran is (λ turn next found.
      let after = mapped (turned turn) (run xs turn.state) ran found in
      subst (Q (x ∷ xs) s) after.2
      (more x xs s turn after.0 next (each_run xs turn.state after.0 after.1)))

-- all that was found, before what is still to come
abbrev prepend_all : List Event → File → File
prepend_all [] f = f
prepend_all (x ∷ events) f = prepend x (prepend_all events f)

same_found : (found : Option File) → found ≡ option_map (λ f. f) found
same_found None = refl
same_found (Some f) = refl

found_twice : (g h : File → File) (found : Option File)
    → option_map g (option_map h found) ≡ option_map (λ f. g (h f)) found
found_twice g h None = refl
found_twice g h (Some f) = refl

-- what is found behind a run is found after it
ends_behind : (ys ts : List Lexeme) (s : State) (ran : Ran) → run ts s ≡ Some ran
    → ends (ts ++ ys) s ≡ option_map (prepend_all ran.events) (ends ys ran.state)
ends_behind ys =
    each_run
    (λ ts s ran. ends (ts ++ ys) s ≡ option_map (prepend_all ran.events) (ends ys ran.state))
    (λ s. same_found (ends ys s))
    (λ x ts s turn after next same.
    ap (option_and_then (λ t. option_map (prepend t.event) (ends (ts ++ ys) t.state))) next
    ∙ ap (option_map (prepend turn.event)) same
    ∙ found_twice (prepend turn.event) (prepend_all after.events) (ends ys after.state))

-- where the machine goes on, the run does
pub goes_on : (x : Lexeme) (turn : Turn) (ts : List Lexeme) (s : State) (ran : Ran)
    → run ts s ≡ Some ran → next_turn ran.state x ≡ Some turn
    → run (ts ++ x ∷ []) s
    ≡ Some (record { state = turn.state; events = ran.events ++ turn.event ∷ [] })
goes_on x turn =
    each_run
    (λ ts s ran. next_turn ran.state x ≡ Some turn → run (ts ++ x ∷ []) s
    ≡ Some (record { state = turn.state; events = ran.events ++ turn.event ∷ [] }))
    (λ s next. ap (option_and_then (λ t. and_ran t.event (run [] t.state))) next)
    (λ y ts s one after here later next.
    ap (option_and_then (λ t. and_ran t.event (run (ts ++ x ∷ []) t.state))) here
    ∙ ap (and_ran one.event) (later next))

-- what was found is what the text describes
prepend_all-no_more : (events : List Event) (k : ℕ) → prepend_all events (no_more k)
    ≡ file_of events k
prepend_all-no_more [] k = refl
prepend_all-no_more (event.Nothing ∷ events) k = prepend_all-no_more events k
prepend_all-no_more (event.Entity r ∷ events) k =
    ap (prepend (event.Entity r)) (prepend_all-no_more events k)
prepend_all-no_more (event.Instance n r ∷ events) k =
    ap (prepend (event.Instance n r)) (prepend_all-no_more events k)

-- what is found at the end of a run
ends_there : (xs : List Lexeme) (ran : Ran) → run xs start ≡ Some ran → (end : Option ℕ)
    → end_of ran.state ≡ end
    → ends xs start ≡ option_map (prepend_all ran.events) (option_map no_more end)
ends_there xs ran is end ended =
    ap (λ ys. ends ys start) (sym (append-nil xs)) ∙ ends_behind [] xs start ran is
    ∙ ap (λ e. option_map (prepend_all ran.events) (option_map no_more e)) ended

-- what is read to its end is a text
pub ends_text : (xs : List Lexeme) (ran : Ran) (k : ℕ) → run xs start ≡ Some ran
    → end_of ran.state ≡ Some k → IsText xs (file_of ran.events k)
ends_text xs ran k is ended =
    what_is_read xs (file_of ran.events k)
    (ends_there xs ran is (Some k) ended ∙ ap Some (prepend_all-no_more ran.events k))

module _ (xs : List Lexeme) (ran : Ran) (is : run xs start ≡ Some ran) where
  -- what has not come to its end is none
  pub no_end : end_of ran.state ≡ None → (file : File) × IsText xs file → ⊥
  no_end none text =
      none-some text.0
      (sym (ends_there xs ran is None none) ∙ texts_are_read xs text.0 text.1)

  -- what is read begins a text
  pub runs_begin : BeginsText xs
  runs_begin =
      let e = some_text_goes_on ran.state in
      record {
        others = e.0;
        file = prepend_all ran.events e.1;
        text = what_is_read (xs ++ e.0) (prepend_all ran.events e.1)
            (ends_behind e.0 xs start ran is ∙ ap (option_map (prepend_all ran.events)) e.2);
      }

  -- where the machine stops, no text goes on
  pub stops : (x : Lexeme) → next_turn ran.state x ≡ None → BeginsText (xs ++ x ∷ []) → ⊥
  stops x none begins =
      none-some begins.file
      (sym (ap (λ ys. ends ys start) (append_assoc xs (x ∷ []) begins.others)
      ∙ ends_behind (x ∷ begins.others) xs start ran is
      ∙ ap (λ t. option_map (prepend_all ran.events)
      (option_and_then (λ u. option_map (prepend u.event) (ends begins.others u.state)) t)) none)
      ∙ texts_are_read ((xs ++ x ∷ []) ++ begins.others) begins.file begins.text)

-- a text describes one file
pub one_file : (xs : List Lexeme) (f g : File) → IsText xs f → IsText xs g → f ≡ g
one_file xs f g one other =
    same_Some f g (sym (texts_are_read xs f one) ∙ texts_are_read xs g other)
