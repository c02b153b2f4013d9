-- A reader passes over a parameter by counting parentheses, and then stands behind it.
use Rattle.std.proofs.Common.{◌≡◌, ℕ, zero, suc, ◌+◌, ◌<◌, ◌≤◌, true, false, pred, cond, List, [], ◌∷◌, drop, Option, Some, refl, sym, ap, ◌∙◌, subst, arith}
use Rattle.std.proofs.lemmas.Bool.{false≢true}
use Rattle.sb_lex.specs.declared.kinds.Kind.{Kind}
use Rattle.sb_lex.specs.declared.kinds.Mark.TheVariants as mark
use Rattle.sb_lex.specs.declared.kinds.Token.{Token}
use Rattle.sb_lex.specs.Tokens.{Reading, IsToken}
use Rattle.sb_step.specs.declared.parameters.param.Param.{Param}
use Rattle.sb_step.specs.Lexemes.{Lexeme, lexeme_at, is_open, is_close}
use Rattle.sb_step.specs.KindTests.{is_keyword, is_comma}
use Rattle.sb_step.specs.Params.Parameters.{IsParameter, AreFurther}
use Rattle.sb_step.specs.Params.Parameters.AreFurther.{last, more}
use Rattle.sb_step.specs.Params.Readers.{HasNext, ReadsToken, AreAhead, Awaits, Behind, behind}
use Rattle.sb_step.specs.Cursors.Cursor.{StandsAt, AreLeft}
use Rattle.sb_step.specs.Cursors.Passing.{depth_behind, Closes, StillOpen, Opens, HasClosed, PassesOver, Leaves}
use Rattle.sb_step.proofs.KindsSay.{mark_says}
use Rattle.sb_step.proofs.Texts.ListsAreFollowed.{not_closed}
use Rattle.sb_step.proofs.ParameterLists.SaidIsParameter.{said_parameter}
use Rattle.sb_step.proofs.ParameterLists.WhatListsSay.{says_on, list_on_mark, value_on_other}
use Rattle.sb_step.proofs.ParameterLists.ParametersAreRead.{passes, input_stays, goes_further}
use Rattle.sb_step.proofs.Cursors.ParametersClose.{list_closes_one}
use Rattle.sb_step.proofs.Cursors.TypedByToken.{KeywordOn, keyword_on}

-- ---- the beginning of a parameter

module _ (at : Reading) (x : Lexeme) where
  -- no keyword and no parenthesis: it is one token
  pub value_opens : is_keyword x.token.kind ≡ false → is_open x.token.kind ≡ false
      → Opens (Behind x IsParameter) 0 at at
  value_opens no_keyword no_open = record {
    onward = record { input_is = refl; place = omega arith };
    leads = λ p xs rest ahead is.
        let v = value_on_other p x xs rest no_keyword no_open (says_on is) in
        record { ys = xs; ahead = ahead; closes = v.1 };
  }

  -- a parenthesis: one is open
  pub list_opens : is_open x.token.kind ≡ true → Opens (Behind x IsParameter) 1 at at
  list_opens opens = record {
    onward = record { input_is = refl; place = omega arith };
    leads = λ p xs rest ahead is.
        let l = list_on_mark p x xs rest (mark_says mark.Open x.token.kind opens) (says_on is) in
        record { ys = xs; ahead = ahead; closes = list_closes_one l.items xs rest l.says };
  }

  -- a keyword has a token behind it
  pub keyword_has_next : is_keyword x.token.kind ≡ true → Awaits (Behind x IsParameter) at
      → HasNext at
  keyword_has_next named w = by_first w.xs w.ahead (keyword_on w.is)
    where
      by_first : (xs : List Lexeme) → AreAhead at xs → KeywordOn w.value w.rest (x ∷ xs)
          → HasNext at
      by_first [] ahead on = absurd (on named)
      by_first (y ∷ ys) ahead on = (y.token, ahead.0)

  -- which is a parenthesis: one is open
  module _ (now : Reading) (t : Token) (read : ReadsToken at now t) where
    pub keyword_opens : is_keyword x.token.kind ≡ true → Opens (Behind x IsParameter) 1 at now
    keyword_opens named = record {
      onward = record { input_is = input_stays read; place = omega (arith, goes_further read) };
      leads = λ p xs rest ahead is. by_first p xs rest ahead (keyword_on is);
    }
      where
        by_first : (p : Param) (xs rest : List Lexeme) → AreAhead at xs
            → KeywordOn p rest (x ∷ xs) → StillOpen 1 now rest
        by_first p [] rest ahead on = absurd (on named)
        by_first p (y ∷ ys) rest ahead on =
            let a = on named in
            record {
              ys = ys;
              ahead = (passes read y ys ahead).1;
              closes = list_closes_one (a.inner ∷ []) ys rest a.says;
            }

-- ---- up to the last parenthesis

-- so many parentheses were open, and so many are now
pub record ClosesOn (entry now : Reading) (was depth : ℕ) : Type 0 where
  pub input_is : now.input ≡ entry.input
  pub further : entry.place ≤ now.place
  pub few : depth + entry.place ≤ now.place + was
  pub leads : (rest : List Lexeme) → StillOpen was entry rest → StillOpen depth now rest

-- at first all are
pub closes_begin : (entry : Reading) (was : ℕ) → ClosesOn entry entry was was
closes_begin entry was = record {
  input_is = refl;
  further = omega arith;
  few = omega arith;
  leads = λ rest still. still;
}

-- while one is open there is a token
open_has_next : (now : Reading) (depth : ℕ) (rest : List Lexeme) → 0 < depth
    → StillOpen depth now rest → HasNext now
open_has_next now zero rest some still = absurd (omega arith)
open_has_next now (suc depth) rest some still = by_first still.ys still.ahead still.closes
  where
    by_first : (ys : List Lexeme) → AreAhead now ys → Closes (suc depth) ys rest → HasNext now
    by_first [] ahead closes = absurd closes
    by_first (y ∷ ys) ahead closes = (y.token, ahead.0)

pub closes_has_next : (entry now : Reading) (was depth : ℕ) → ClosesOn entry now was depth
    → 0 < depth → (rest : List Lexeme) × StillOpen was entry rest → HasNext now
closes_has_next entry now was depth on some w =
    open_has_next now depth w.0 some (on.leads w.0 w.1)

open_goes_on : (now new : Reading) (t : Token) (read : ReadsToken now new t) (depth after : ℕ)
    (rest : List Lexeme) → 0 < depth → after ≡ depth_behind depth t.kind → StillOpen depth now rest
    → StillOpen after new rest
open_goes_on now new t read zero after rest some is still = absurd (omega arith)
open_goes_on now new t read (suc depth) after rest some is still =
    by_first still.ys still.ahead still.closes
  where
    by_first : (ys : List Lexeme) → AreAhead now ys → Closes (suc depth) ys rest
        → StillOpen after new rest
    by_first [] ahead closes = absurd closes
    by_first (y ∷ ys) ahead closes =
        let p = passes read y ys ahead in
        let same : depth_behind (suc depth) y.token.kind ≡ after =
        ap (λ x. depth_behind (suc depth) x.token.kind) p.0 ∙ sym is in
        record {
          ys = ys;
          ahead = p.1;
          closes = subst (λ n. Closes n ys rest) same closes;
        }

pred_at_most : (n : ℕ) → pred n ≤ n
pred_at_most zero = omega arith
pred_at_most (suc n) = omega arith

at_most_one_more : (depth : ℕ) (k : Kind) → depth_behind depth k ≤ depth + 1
at_most_one_more depth k =
    elim (is_open k) as (λ o. cond o (suc depth) (cond (is_close k) (pred depth) depth) ≤ depth + 1) [
      | true ↦ omega arith
      | false ↦ elim (is_close k) as (λ o. cond o (pred depth) depth ≤ depth + 1) [
        | true ↦ omega (arith, pred_at_most depth)
        | false ↦ omega arith
      ]
    ]

-- one token more
pub closes_go_on : (entry now new : Reading) (t : Token) (read : ReadsToken now new t)
    (was depth after : ℕ) → ClosesOn entry now was depth → 0 < depth
    → after ≡ depth_behind depth t.kind → ClosesOn entry new was after
closes_go_on entry now new t read was depth after on some is = record {
  input_is = input_stays read ∙ on.input_is;
  further = omega (arith, on.further, goes_further read);
  few = omega (arith, on.few, goes_further read, is, at_most_one_more depth t.kind);
  leads = λ rest still. open_goes_on now new t read depth after rest some is (on.leads rest still);
}

-- with none open the reader stands behind all
pub closes_end : (entry now : Reading) (was depth : ℕ) → ClosesOn entry now was depth → depth ≤ 0
    → HasClosed was entry now
closes_end entry now was depth on none = record {
  onward = record { input_is = on.input_is; place = on.further };
  leads = λ rest some_open.
      let still = on.leads rest some_open in
      let zero_open : depth ≡ 0 = omega arith in
      let all : rest ≡ still.ys = subst (λ n. Closes n still.ys rest) zero_open still.closes in
      subst (AreAhead now) (sym all) still.ahead;
}

-- ---- a parameter is passed

module _ (x : Lexeme) (old now new : Reading) (depth : ℕ)
    (begins : Opens (Behind x IsParameter) depth old now) where
  -- what is open is awaited to close
  pub closing_awaited : Awaits (Behind x IsParameter) old
      → (rest : List Lexeme) × StillOpen depth now rest
  closing_awaited w = (w.rest, begins.leads w.value w.xs w.rest w.ahead w.is)

  -- and behind that the parameter was passed
  pub parameter_passed : HasClosed depth now new → PassesOver (Behind x IsParameter) old new
  parameter_passed closes = record {
    onward = record {
      input_is = closes.onward.input_is ∙ begins.onward.input_is;
      place = omega (arith, closes.onward.place, begins.onward.place);
    };
    leads = λ p xs rest ahead is. closes.leads rest (begins.leads p xs rest ahead is);
  }

-- ---- behind a parameter

kind_is : (a : Reading) (x : Lexeme) (t : Token) → x ≡ lexeme_at a.input t
    → x.token.kind ≡ t.kind
kind_is a x t same = ap (λ y. y.token.kind) same

module _ (a b : Reading) (m : Token) (mark_read : ReadsToken a b m) where
  -- at the end of the list none is left
  pub none_further : is_comma m.kind ≡ false → {ps : List Param} {xs rest : List Lexeme}
      → AreFurther ps xs rest → AreAhead a xs → ps ≡ []
  none_further ends (last c) ahead = refl
  none_further ends (more {comma = x} {xs = xs} c p others) ahead =
      let passed = passes mark_read x xs ahead in
      absurd (false≢true (sym ends ∙ ap is_comma (sym (kind_is a x m passed.0) ∙ c)))

  -- behind a comma the further ones are left
  module _ (c : Reading) (t : Token) (read : ReadsToken b c t) where
    b_is : b.input ≡ a.input
    b_is = input_stays mark_read

    further_stand : {p : Param} {ps : List Param} (xs : List Lexeme) {ys rest : List Lexeme}
        → AreAhead b xs → IsParameter p xs ys → AreFurther ps ys rest
        → StandsAt a.input t (p ∷ ps)
    further_stand [] ahead p others = absurd (not_closed (said_parameter p))
    further_stand {p = p} (z ∷ zs) {ys = ys} {rest = rest} ahead is others =
        let passed = passes read z zs ahead in
        let same : z ≡ lexeme_at a.input t =
        passed.0 ∙ ap (λ i. lexeme_at i t) b_is in
        record {
          token = subst (λ i. IsToken i t) b_is read.next.token;
          going = sym (ap is_close (kind_is b z t passed.0)) ∙ not_closed (said_parameter is);
          xs = zs;
          rest = rest;
          ahead = subst (λ i. AreAhead (behind i t) zs) b_is
              (subst (λ r. AreAhead r zs) read.moved passed.1);
          says = record {
            middle = ys;
            first = subst (λ y. IsParameter p (y ∷ zs) ys) same is;
            second = others;
          };
        }

    pub further_left : is_comma m.kind ≡ true → {ps : List Param} {xs rest : List Lexeme}
        → AreFurther ps xs rest → AreAhead a xs → AreLeft a.input (Some t) ps
    further_left goes (last {close_mark = x} {rest = rest} e) ahead =
        let passed = passes mark_read x rest ahead in
        absurd (false≢true (sym (ap is_comma (sym (kind_is a x m passed.0) ∙ e)) ∙ goes))
    further_left goes (more {comma = x} {xs = xs} e p others) ahead =
        further_stand xs (passes mark_read x xs ahead).1 p others

-- ---- the parameters behind the first

-- the first parameter of those that are left, and the further ones
record FirstLeft (bytes : List ℕ) (t : Token) (ps : List Param) (xs rest : List Lexeme)
    : Type 0 where
  p : Param
  others : List Param
  ps_is : ps ≡ p ∷ others
  middle : List Lexeme
  is : IsParameter p (lexeme_at bytes t ∷ xs) middle
  further : AreFurther others middle rest

first_left : (bytes : List ℕ) (t : Token) (ps : List Param) (s : StandsAt bytes t ps)
    → FirstLeft bytes t ps s.xs s.rest
first_left bytes t [] s = absurd (false≢true (sym s.going ∙ ap is_close s.says.0))
first_left bytes t (p ∷ ps) s = record {
  p = p;
  others = ps;
  ps_is = refl;
  middle = s.says.middle;
  is = s.says.first;
  further = s.says.second;
}

-- the first is awaited
pub first_awaited : (bytes : List ℕ) (t : Token) (ps : List Param) → StandsAt bytes t ps
    → Awaits (Behind (lexeme_at bytes t) IsParameter) (behind bytes t)
first_awaited bytes t ps s =
    let f = first_left bytes t ps s in
    record { value = f.p; xs = s.xs; rest = f.middle; ahead = s.ahead; is = f.is }

-- a reader that began behind the token passed over it
pub passed_from : (bytes : List ℕ) (t : Token) (at new : Reading) → at ≡ behind bytes t
    → PassesOver (Behind (lexeme_at at.input t) IsParameter) at new
    → PassesOver (Behind (lexeme_at bytes t) IsParameter) (behind bytes t) new
passed_from bytes t at new is passed =
    subst (λ r. PassesOver (Behind (lexeme_at r.input t) IsParameter) r new) is passed

module _ (bytes : List ℕ) (t : Token) (new : Reading)
    (passed : PassesOver (Behind (lexeme_at bytes t) IsParameter) (behind bytes t) new) where
  -- what follows it is awaited
  pub further_awaited : (ps : List Param) → StandsAt bytes t ps → Awaits AreFurther new
  further_awaited ps s =
      let f = first_left bytes t ps s in
      record {
        value = f.others;
        xs = f.middle;
        rest = s.rest;
        ahead = passed.leads f.p s.xs f.middle s.ahead f.is;
        is = f.further;
      }

  -- and all but the first are left
  pub others_left : (next : Option Token) → Leaves new next → (ps : List Param)
      → StandsAt bytes t ps → AreLeft bytes next (drop 1 ps)
  others_left next leaves ps s =
      let f = first_left bytes t ps s in
      let ahead = passed.leads f.p s.xs f.middle s.ahead f.is in
      subst (λ i. AreLeft i next (drop 1 ps)) passed.onward.input_is
      (subst (λ l. AreLeft new.input next (drop 1 l)) (sym f.ps_is)
      (leaves f.others f.middle s.rest ahead f.further))
