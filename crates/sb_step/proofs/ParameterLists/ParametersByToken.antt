-- A parameter is read by its first token: a value, a list, or a keyword with its parameter.
use Rattle.sb_step.proofs.Names.{◌≡◌, ℕ, ◌-◌, ◌+◌, ◌*◌, ◌<◌, ◌≤◌, true, false, List, [], ◌∷◌, length, refl, sym, ap, ◌∙◌, subst, arith, Token, IsToken, Reading, Param, Lexeme, lexeme_at, is_value, is_open, IsMark, IsKeyword, is_keyword, IsParameter, HasNext, ReadsToken, AreAhead, Awaits, Reads, Behind, AreInList}
use Rattle.sb_lex.specs.declared.kinds.Mark.TheVariants as mark
use Rattle.sb_step.specs.declared.parameters.param.Param.TheVariants as param
use Rattle.sb_step.specs.Params.Parameters.{Says}
use Rattle.sb_step.proofs.ParameterLists.SaidIsParameter.{says_value}
use Rattle.sb_step.proofs.ParameterLists.WhatListsSay.{TypedSays, says_on, list_on_mark, typed_on_keyword, value_on_other}
use Rattle.sb_step.proofs.ParameterLists.ParametersAreUnique.{says_once}
use Rattle.sb_step.proofs.ParameterLists.ParametersAreRead.{awaits_token, passes, input_stays, goes_further, stays_within}

-- behind a parenthesis a list is awaited
pub list_awaited : (at : Reading) (x : Lexeme) → IsMark mark.Open x
    → Awaits (Behind x IsParameter) at → Awaits AreInList at
list_awaited at x o w =
    let l = list_on_mark w.value x w.xs w.rest o (says_on w.is) in
    record { value = l.items; xs = w.xs; rest = w.rest; ahead = w.ahead; is = l.says }

-- and so it is read
pub reads_list : (a b : Reading) (x : Lexeme) (ps : List Param) → IsMark mark.Open x
    → Reads AreInList a b ps → Reads (Behind x IsParameter) a b (param.List ps)
reads_list a b x ps o r = record {
  onward = r.onward;
  leads = λ p xs rest ahead is.
      let l = list_on_mark p x xs rest o (says_on is) in
      let once = r.leads l.items xs rest ahead l.says in
      (l.is ∙ ap (λ items. param.List items) once.0, once.1);
}

module _ (at : Reading) (x : Lexeme) (no_keyword : is_keyword x.token.kind ≡ false)
    (no_list : is_open x.token.kind ≡ false) where
  -- what is no keyword and no parenthesis is a value
  pub is_a_value : Awaits (Behind x IsParameter) at → is_value x.token.kind ≡ true
  is_a_value w =
      let v = value_on_other w.value x w.xs w.rest no_keyword no_list (says_on w.is) in
      says_value x.token.kind x.text w.value v.0

  -- a value is read by its token alone
  pub reads_value : (p : Param) → Says x.token.kind x.text p
      → Reads (Behind x IsParameter) at at p
  reads_value p says = record {
    onward = record { input_is = refl; place = omega arith };
    leads = λ q xs rest ahead is.
        let v = value_on_other q x xs rest no_keyword no_list (says_on is) in
        (says_once x.token.kind x.text q p v.0 says, subst (AreAhead at) (sym v.1) ahead);
  }

-- a keyword with its parameter, behind the first token of which the reader stands
pub record AtInner (x : Lexeme) (now : Reading) (z : Lexeme) (p : Param) (rest : List Lexeme)
    : Type 0 where
  pub inner : Param
  pub zs : List Lexeme
  pub close_mark : Lexeme
  pub is : p ≡ param.Typed x.text inner
  pub ahead : AreAhead now zs
  pub says : IsParameter inner (z ∷ zs) (close_mark ∷ rest)

module _ (bytes : List ℕ) (x : Lexeme) (keyword : IsKeyword x) (a : Reading)
    (input : a.input ≡ bytes) where
  typed_on : (p : Param) (xs rest : List Lexeme) → IsParameter p (x ∷ xs) rest
      → TypedSays x p rest xs
  typed_on p xs rest is = typed_on_keyword p x xs rest keyword (says_on is)

  -- behind it there is a token
  pub opens_next : Awaits (Behind x IsParameter) a → HasNext a
  opens_next w = awaits_token (Behind x IsParameter) (λ p rest is. typed_on p [] rest is) a w

  module _ {b : Reading} {opening : Token} (opens : ReadsToken a b opening) where
    -- and behind its parenthesis too
    pub first_next : Awaits (Behind x IsParameter) a → HasNext b
    first_next w = by_first w.xs w.ahead (typed_on w.value w.xs w.rest w.is)
      where
        by_first : (xs : List Lexeme) → AreAhead a xs → TypedSays x w.value w.rest xs → HasNext b
        by_first [] ahead t = absurd t
        by_first (y ∷ ys) ahead t =
            awaits_token IsParameter (λ p rest is. says_on is) b (record {
              value = t.inner;
              xs = ys;
              rest = t.close_mark ∷ w.rest;
              ahead = (passes opens y ys ahead).1;
              is = t.says;
            })

    module _ {c : Reading} {start : Token} (first : ReadsToken b c start) where
      b_is : b.input ≡ bytes
      b_is = input_stays opens ∙ input

      at_inner_by : (p : Param) (xs rest : List Lexeme) → AreAhead a xs → TypedSays x p rest xs
          → AtInner x c (lexeme_at bytes start) p rest
      at_inner_by p [] rest ahead t = absurd t
      at_inner_by p (y ∷ []) rest ahead t = absurd (says_on t.says)
      at_inner_by p (y ∷ z ∷ zs) rest ahead t =
          let q = passes first z zs (passes opens y (z ∷ zs) ahead).1 in
          record {
            inner = t.inner;
            zs = zs;
            close_mark = t.close_mark;
            is = t.is;
            ahead = q.1;
            says = subst (λ v. IsParameter t.inner (v ∷ zs) (t.close_mark ∷ rest))
                (q.0 ∙ ap (λ i. lexeme_at i start) b_is) t.says;
          }

      at_inner : (p : Param) (xs rest : List Lexeme) → AreAhead a xs → IsParameter p (x ∷ xs) rest
          → AtInner x c (lexeme_at bytes start) p rest
      at_inner p xs rest ahead is = at_inner_by p xs rest ahead (typed_on p xs rest is)

      -- the input is still the same
      pub c_is : c.input ≡ bytes
      c_is = input_stays first ∙ b_is

      -- the second token is one of it
      pub first_is : IsToken bytes start
      first_is = subst (λ i. IsToken i start) b_is first.next.token

      -- there are fewer bytes left
      pub less_left : 2 * (length bytes - c.place) + 1 < 2 * (length bytes - a.place)
      less_left =
          let within : c.place ≤ length bytes =
          subst (λ i. c.place ≤ length i) b_is (stays_within first) in
          omega (arith, within, goes_further opens, goes_further first)

      -- the inner parameter is awaited
      pub inner_awaited : Awaits (Behind x IsParameter) a
          → Awaits (Behind (lexeme_at bytes start) IsParameter) c
      inner_awaited w =
          let i = at_inner w.value w.xs w.rest w.ahead w.is in
          record {
            value = i.inner;
            xs = i.zs;
            rest = i.close_mark ∷ w.rest;
            ahead = i.ahead;
            is = i.says;
          }

      module _ {d : Reading} {p : Param}
          (inner : Reads (Behind (lexeme_at bytes start) IsParameter) c d p) where
        -- behind it there is a token
        pub closes_next : Awaits (Behind x IsParameter) a → HasNext d
        closes_next w =
            let i = at_inner w.value w.xs w.rest w.ahead w.is in
            let l = inner.leads i.inner i.zs (i.close_mark ∷ w.rest) i.ahead i.says in
            (i.close_mark.token, l.1.0)

        -- and so a keyword with its parameter is read
        pub reads_typed : {e : Reading} {closing : Token} → ReadsToken d e closing
            → (name : List ℕ) (boxed : Param) → name ≡ x.text → boxed ≡ p
            → Reads (Behind x IsParameter) a e (param.Typed name boxed)
        reads_typed closes name boxed named same = record {
          onward = record {
            input_is = input_stays closes ∙ inner.onward.input_is ∙ c_is ∙ sym input;
            place = omega (
              arith,
              goes_further opens,
              goes_further first,
              inner.onward.place,
              goes_further closes,
            );
          };
          leads = λ q xs rest ahead is.
              let i = at_inner q xs rest ahead is in
              let l = inner.leads i.inner i.zs (i.close_mark ∷ rest) i.ahead i.says in
              let one : i.inner ≡ boxed = l.0 ∙ sym same in (
                i.is ∙ (λ j. param.Typed (sym named j) (one j)),
                (passes closes i.close_mark rest l.1).1,
              );
        }
