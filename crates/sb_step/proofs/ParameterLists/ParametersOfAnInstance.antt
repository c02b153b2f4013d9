-- What stands behind the keyword of an instance is read, and is what the instance holds.
use Rattle.sb_step.proofs.Names.{◌≡◌, ℕ, ◌≤◌, ◌↔◌, List, [], ◌∷◌, ◌++◌, length, Some, None, Result, Ok, Err, map, refl, sym, ap, ◌∙◌, subst, nat_eq, same_Some, none-some, Token, AreTokensFrom, Reading, TokensBehindAPlaceAreUnique, ParamsError, Form, Record, Param, Lexeme, lexemes, Indexed, IsIndexed, place_at, form_of, Place, AreParameters, SaysSimple, HoldsParameters, HoldsByForm, HasParameters, ParametersAreUnique, ReadsToken, AreAhead, Awaits, Reads, AreInList, behind, IsParamsAnswer, HasMemory, reader_at, AwaitsByForm, SaysByForm, ListSays, Gives}
use Rattle.sb_step.specs.declared.error.ParamsError.TheVariants as params_error
use Rattle.sb_step.specs.declared.step_file.records.Form.TheVariants as form
use Rattle.sb_step.proofs.ParameterLists.WhatListsSay.{ListSaysOn, list_says_on}
use Rattle.sb_step.proofs.ParameterLists.ParametersAreRead.{passes}
use Rattle.sb_step.proofs.ParameterLists.ParametersAreUnique.{parameters_are_unique}
use Rattle.sb_step.proofs.ParameterLists.ParametersExist.{tokens_ahead, each_instance_has_parameters}
use Rattle.sb_step.proofs.Records.PlacesTell.{placed, form_kept}
use Rattle.sb_step.proofs.Records.RecordsStand.{found_lies, tokens_behind}

-- a list is read from its parenthesis on

module _ {a b : Reading} {t : Token} (read : ReadsToken a b t) where
  opened : (ps : List Param) (xs rest : List Lexeme) → AreAhead a xs → ListSaysOn ps rest xs
      → (ys : List Lexeme) × AreAhead b ys × AreInList ps ys rest
  opened ps [] rest ahead on = absurd on
  opened ps (x ∷ xs) rest ahead on = (xs, (passes read x xs ahead).1, on.1)

  -- behind the parenthesis the list goes on
  pub behind_parenthesis : Awaits AreParameters a → Awaits AreInList b
  behind_parenthesis w =
      let o = opened w.value w.xs w.rest w.ahead (list_says_on w.is) in
      record { value = w.value; xs = o.0; rest = w.rest; ahead = o.1; is = o.2 }

  -- and what was read there is what the list says
  pub list_said : {c : Reading} {ps : List Param} → Reads AreInList b c ps → (qs : List Param)
      (xs rest : List Lexeme) → AreAhead a xs → AreParameters qs xs rest → qs ≡ ps
  list_said reads qs xs rest ahead l =
      let o = opened qs xs rest ahead (list_says_on l) in (reads.leads qs o.0 rest o.1 o.2).0

-- the tokens of the lexemes that a reader stands before are those from its place on
abbrev tokens_of : List Lexeme → List Token
tokens_of xs = map (λ x. x.token) xs

are_tokens : (at : Reading) (xs : List Lexeme) → AreAhead at xs
    → AreTokensFrom at.input at.place (tokens_of xs) None × (xs ≡ lexemes at.input (tokens_of xs))
are_tokens at [] ahead = (ahead, refl)
are_tokens at (x ∷ xs) ahead =
    let later = are_tokens (behind at.input x.token) xs ahead.2 in
    ((ahead.0, later.0), (λ i. ahead.1 i ∷ later.1 i))

-- and there are no others
pub ahead_once : TokensBehindAPlaceAreUnique → (at : Reading) (xs ys : List Lexeme) → AreAhead at xs
    → AreAhead at ys → xs ≡ ys
ahead_once one_list at xs ys a b =
    let one = are_tokens at xs a in
    let other = are_tokens at ys b in
    let same = one_list at.input at.place (tokens_of xs) (tokens_of ys) None None one.0 other.0 in
    one.1 ∙ ap (lexemes at.input) same.0 ∙ sym other.1

-- the list behind the keyword of a record
record ListBehind (input : List ℕ) (r : Record) (ps : List Param) : Type 0 where
  end : ℕ
  is_end : r.form ≡ form.Simple end
  within : end ≤ length input
  xs : List Lexeme
  rest : List Lexeme
  ahead : AreAhead (reader_at input end) xs
  says : AreParameters ps xs rest

list_behind : (input : List ℕ) (r : Record) (ps : List Param) → HoldsParameters input r ps
    → ListBehind input r ps
list_behind input r ps h = by_from h.from h.are h.says
  where
    by_from : (from : List Token) → AreTokensFrom input 0 (h.before ++ from) None
        → SaysSimple r ps (lexemes input from) h.rest → ListBehind input r ps
    by_from [] are says = absurd says.first
    by_from (keyword ∷ from) are says =
        let b = tokens_behind input 0 h.before from keyword None are in
        record {
          end = keyword.end;
          is_end = says.first.0.form;
          within = b.1.token.candidate.within;
          xs = lexemes input from;
          rest = says.second.middle;
          ahead = tokens_ahead input keyword.end from b.2;
          says = subst (λ l. AreParameters ps l says.second.middle) says.first.1
              says.second.first;
        }

module _ (input : List ℕ) (r : Record) (ps : List Param) where
  awaits_by : (f : Form) → r.form ≡ f → HoldsByForm f input r ps → AwaitsByForm input f
  awaits_by form.Complex complex h = tt
  awaits_by (form.Simple end) simple h =
      let b = list_behind input r ps h in
      let same : form.Simple b.end ≡ form.Simple end = sym b.is_end ∙ simple in
      let ends : b.end ≡ end = cc in
      subst (λ k. AwaitsByForm input (form.Simple k)) ends (record {
        within = b.within;
        awaits = record { value = ps; xs = b.xs; rest = b.rest; ahead = b.ahead; is = b.says };
      })

  -- the list that it holds is awaited
  pub instance_awaits : HoldsByForm r.form input r ps → AwaitsByForm input r.form
  instance_awaits h = awaits_by r.form refl h

  said_by : (qs : List Param) (f : Form) → r.form ≡ f → HoldsByForm f input r ps
      → SaysByForm input f qs → ps ≡ qs
  said_by qs form.Complex complex h says = h ∙ sym says
  said_by qs (form.Simple end) simple h says =
      let b = list_behind input r ps h in
      let same : form.Simple b.end ≡ form.Simple end = sym b.is_end ∙ simple in
      let ends : b.end ≡ end = cc in
      subst (λ k. ListSays input k qs) (sym ends) says ps b.xs b.rest b.ahead b.says

-- an instance holds one list of parameters

holds_once : TokensBehindAPlaceAreUnique
    → (f : Form) (input : List ℕ) (r : Record) (ps qs : List Param) → r.form ≡ f
    → HoldsByForm f input r ps → HoldsByForm f input r qs → ps ≡ qs
holds_once one_list form.Complex input r ps qs is h k = h ∙ sym k
holds_once one_list (form.Simple end) input r ps qs is h k =
    let b = list_behind input r qs k in
    said_by input r ps qs (form.Simple b.end) b.is_end h
    (λ os xs rest ahead says.
    (parameters_are_unique os qs xs rest b.rest says
    (subst (λ l. AreParameters qs l b.rest)
    (ahead_once one_list (reader_at input b.end) b.xs xs b.ahead ahead) b.says)).0)

-- the instance of a number has one list of parameters
pub has_once : TokensBehindAPlaceAreUnique → ParametersAreUnique
has_once one_list indexed n ps qs h k =
    let same : h.record_of ≡ k.record_of =
    same_Some h.record_of k.record_of (sym h.found ∙ k.found) in
    holds_once one_list k.record_of.form indexed.input k.record_of ps qs refl
    (subst (λ r. HoldsByForm r.form indexed.input r ps) same h.holds) k.holds

-- the answer

-- a place tells the form of the instance of the number, which has these parameters
pub record PlaceHas (indexed : Indexed) (n : ℕ) (p : Place) : Type 0 where
  pub params : List Param
  pub has : HasParameters indexed n params
  pub form_is : form_of p ≡ has.record_of.form

pub place_has : (indexed : Indexed) → IsIndexed indexed.input indexed → (n : ℕ) (p : Place)
    → place_at indexed.file.instances n ≡ Some p → PlaceHas indexed n p
place_has indexed is n p there =
    let size = length indexed.input in
    let o = placed indexed.file.instances n p there in
    let h = each_instance_has_parameters indexed n o.body is o.found in
    let lies = found_lies indexed.input indexed.file is.file (nat_eq n) o.body o.found in
    let same = same_Some o.body h.1.record_of (sym o.found ∙ h.1.found) in
    record {
      params = h.0;
      has = h.1;
      form_is = ap form_of (sym o.is) ∙ form_kept size o.body lies ∙ ap (λ r. r.form) same;
    }

-- the answer for an instance that has parameters
pub params_answered : (indexed : Indexed) (n : ℕ) (ps : List Param) (h : HasParameters indexed n ps)
    (answer : Result (List Param) ParamsError)
    → Gives (SaysByForm indexed.input h.record_of.form) answer → IsParamsAnswer indexed n answer
params_answered indexed n ps h (Ok qs) gives =
    subst (HasParameters indexed n)
    (said_by indexed.input h.record_of ps qs h.record_of.form refl h.holds gives) h
params_answered indexed n ps h (Err (params_error.Missing m)) gives = absurd gives
params_answered indexed n ps h (Err params_error.NoMemory) gives = tt

-- the parameters are answered exactly where the instance has them
pub parameters_pinned : ParametersAreUnique
    → (indexed : Indexed) (n : ℕ) (answer : Result (List Param) ParamsError)
    → IsParamsAnswer indexed n answer → (ps : List Param) → HasMemory answer
    → (answer ≡ Ok ps) ↔ HasParameters indexed n ps
parameters_pinned one_list indexed n (Ok qs) is ps memory = (
  λ same. let given : qs ≡ ps = cc in subst (HasParameters indexed n) given is,
  λ has. ap (λ l. Ok l) (one_list indexed n qs ps is has),
)
parameters_pinned one_list indexed n (Err (params_error.Missing m)) is ps memory = (
  λ same. absurd (cc),
  λ has. absurd (none-some has.record_of (sym is.1 ∙ has.found)),
)
parameters_pinned one_list indexed n (Err params_error.NoMemory) is ps memory = absurd (memory refl)
