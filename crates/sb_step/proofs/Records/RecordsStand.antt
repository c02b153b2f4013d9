-- Where a simple record of a file stands among the tokens of its input.
use Rattle.sb_step.proofs.Names.{◌≡◌, ℕ, ◌≤◌, Bool, List, [], ◌∷◌, ◌++◌, length, Option, Some, None, refl, sym, ap, ◌∙◌, subst, inl, inr, append_assoc, arith, lookup, Token, BadToken, IsNext, AreTokensFrom, AreTokens, Record, Lexeme, lexeme_at, lexemes, IsMark, File, ParameterList, IsSimple, IsRecord, BeginsSimple, SemicolonAt, IsFile, RecordLies, Stands}
use Rattle.sb_lex.specs.declared.kinds.Mark.TheVariants as mark
use Rattle.sb_step.specs.declared.step_file.records.Form.TheVariants as form
use Rattle.sb_step.proofs.Records.WhatIsFoundStands.{found_among}
use Rattle.sb_step.proofs.Records.BehindRules.{HoldsOfTails, one_leaves, list_leaves, entity_place, instance_place}

-- the lexemes are those of the tokens from some token on
pub record IsTail (input : List ℕ) (tokens : List Token) (xs : List Lexeme) : Type 0 where
  pub before : List Token
  pub from : List Token
  pub joined : tokens ≡ before ++ from
  pub are : xs ≡ lexemes input from

-- the same, and there is a first
pub record HasFirst (input : List ℕ) (tokens : List Token) (x : Lexeme) (xs : List Lexeme)
    : Type 0 where
  pub before : List Token
  pub first : Token
  pub from : List Token
  pub joined : tokens ≡ before ++ first ∷ from
  pub is : x ≡ lexeme_at input first
  pub are : xs ≡ lexemes input from

-- The record stands among the tokens of the input: its keyword, its parameter list, whose tokens
-- are those inside, and its semicolon.
pub record SimpleStands (input : List ℕ) (r : Record) : Type 0 where
  pub before : List Token
  pub keyword : Token
  pub inside : List Token
  pub semicolon : Token
  pub after : List Token
  pub are : AreTokens input (before ++ keyword ∷ (inside ++ semicolon ∷ after)) None
  pub begins : BeginsSimple r (lexeme_at input keyword)
  pub list : ParameterList (lexemes input (inside ++ semicolon ∷ after))
      (lexemes input (semicolon ∷ after))
  pub closes : IsMark mark.Semicolon (lexeme_at input semicolon)
  pub ends : semicolon.start ≡ r.end

first_of_tail : (input : List ℕ) (tokens : List Token) (x : Lexeme) (xs : List Lexeme)
    (before from : List Token) → tokens ≡ before ++ from → x ∷ xs ≡ lexemes input from
    → HasFirst input tokens x xs
first_of_tail input tokens x xs before [] joined are = absurd (cc)
first_of_tail input tokens x xs before (t ∷ from) joined are = record {
  before = before;
  first = t;
  from = from;
  joined = joined;
  is = cc;
  are = cc;
}

has_first : (input : List ℕ) (tokens : List Token) (x : Lexeme) (xs : List Lexeme)
    → IsTail input tokens (x ∷ xs) → HasFirst input tokens x xs
has_first input tokens x xs t = first_of_tail input tokens x xs t.before t.from t.joined t.are

tail_passes : (input : List ℕ) (tokens : List Token) → HoldsOfTails (IsTail input tokens)
tail_passes input tokens x xs t =
    let f = has_first input tokens x xs t in
    record {
      before = f.before ++ f.first ∷ [];
      from = f.from;
      joined = f.joined ∙ sym (append_assoc f.before (f.first ∷ []) f.from);
      are = f.are;
    }

-- the semicolon behind a record's list
module _ (input : List ℕ) (r : Record) (before : List Token) (keyword : Token)
    (behind : List Token) (are : AreTokens input (before ++ keyword ∷ behind) None)
    (begins : BeginsSimple r (lexeme_at input keyword)) where
  closed_stands : (middle rest : List Lexeme) → ParameterList (lexemes input behind) middle
      → SemicolonAt r.end middle rest → IsTail input behind middle → SimpleStands input r
  closed_stands [] rest list closes t = absurd closes
  closed_stands (x ∷ middle) rest list closes t =
      let f = has_first input behind x middle t in
      record {
        before = before;
        keyword = keyword;
        inside = f.before;
        semicolon = f.first;
        after = f.from;
        are = subst (λ ts. AreTokens input (before ++ keyword ∷ ts) None) f.joined are;
        begins = begins;
        list = subst (λ ts. ParameterList (lexemes input ts) (lexemes input (f.first ∷ f.from)))
            f.joined
            (subst (ParameterList (lexemes input behind)) (λ i. f.is i ∷ f.are i) list);
        closes = subst (IsMark mark.Semicolon) f.is closes.0.0;
        ends = ap (λ y. y.token.start) (sym f.is) ∙ closes.0.1;
      }

-- a simple record stands where its rule does
simple_stands : (input : List ℕ) (tokens : List Token) (r : Record) → AreTokens input tokens None
    → (xs rest : List Lexeme) → IsSimple r xs rest → IsTail input tokens xs → SimpleStands input r
simple_stands input tokens r are [] rest is t = absurd is.first
simple_stands input tokens r are (x ∷ xs) rest is t =
    let f = has_first input tokens x xs t in
    let tail : is.middle ≡ lexemes input f.from = is.first.1 ∙ f.are in
    let list : ParameterList (lexemes input f.from) is.second.middle =
    subst (λ l. ParameterList l is.second.middle) tail is.second.first in
    closed_stands input r f.before f.first f.from
    (subst (λ ts. AreTokens input ts None) f.joined are)
    (subst (BeginsSimple r) f.is is.first.0) is.second.middle rest list is.second.second
    (list_leaves (IsTail input f.from) (tail_passes input f.from) list (record {
      before = [];
      from = f.from;
      joined = refl;
      are = refl;
    }))

-- all tokens of the input
all_stand : (input : List ℕ) (tokens : List Token) → IsTail input tokens (lexemes input tokens)
all_stand input tokens = record { before = []; from = tokens; joined = refl; are = refl }

-- the record of an instance is simple by its form
record_stands : (input : List ℕ) (tokens : List Token) (r : Record) → AreTokens input tokens None
    → (end : ℕ) → r.form ≡ form.Simple end → (xs rest : List Lexeme) → IsRecord r xs rest
    → IsTail input tokens xs → SimpleStands input r
record_stands input tokens r are end simple xs rest (inl s) t =
    simple_stands input tokens r are xs rest s t
record_stands input tokens r are end simple [] rest (inr c) t = absurd c.first
record_stands input tokens r are end simple (x ∷ xs) rest (inr c) t =
    let apart : form.Complex ≡ form.Simple end = sym c.first.0.form ∙ simple in
    absurd (cc)

module _ (input : List ℕ) (f : File) (is : IsFile input f) where
  abbrev Among : List Lexeme → Type 0
  Among = IsTail input is.tokens

  -- an entity of the header stands among the tokens
  pub entity_stands : (r : Record) → Stands r f.header → SimpleStands input r
  entity_stands r stands =
      let s = entity_place Among (tail_passes input is.tokens) f (lexemes input is.tokens)
      is.text.sections (all_stand input is.tokens) r stands in
      simple_stands input is.tokens r is.are s.at s.rest s.is s.holds

  -- so does an instance that is found, if its record is simple
  pub instance_stands : (test : ℕ → Bool) (r : Record) → lookup test f.instances ≡ Some r
      → (end : ℕ) → r.form ≡ form.Simple end → SimpleStands input r
  instance_stands test r found end simple =
      let tail = tail_passes input is.tokens in
      let a = found_among test f.instances r found in
      let s = instance_place Among tail f (lexemes input is.tokens) is.text.sections
      (all_stand input is.tokens) (a.0, r) a.1 in
      let named = one_leaves Among tail _ s.at s.is.middle s.is.first s.holds in
      record_stands input is.tokens r is.are end simple s.is.second.middle s.rest
      s.is.second.second
      (one_leaves Among tail _ s.is.middle s.is.second.middle s.is.second.first named)

-- where one reads on behind the keyword

-- tokens behind the first ones
pub tokens_behind : (input : List ℕ) (from : ℕ) (before behind : List Token) (t : Token)
    (bad : Option BadToken) → AreTokensFrom input from (before ++ t ∷ behind) bad
    → (at : ℕ) × IsNext input at t × AreTokensFrom input t.end behind bad
tokens_behind input from [] behind t bad are = (from, are.0, are.1)
tokens_behind input from (u ∷ before) behind t bad are =
    tokens_behind input u.end before behind t bad are.1

-- what stands behind the keyword of a record: its list and all that follows
pub record ReadsOn (input : List ℕ) (r : Record) (end : ℕ) (s : SimpleStands input r)
    : Type 0 where
  pub is_end : s.keyword.end ≡ end
  pub within : end ≤ length input
  pub are : AreTokensFrom input end (s.inside ++ s.semicolon ∷ s.after) None

-- a reader that begins behind the keyword reads the list and all that follows
pub reads_on : (input : List ℕ) (r : Record) (end : ℕ) → r.form ≡ form.Simple end
    → (s : SimpleStands input r) → ReadsOn input r end s
reads_on input r end simple s =
    let b = tokens_behind input 0 s.before (s.inside ++ s.semicolon ∷ s.after) s.keyword None
    s.are in
    let same : form.Simple s.keyword.end ≡ form.Simple end = sym s.begins.form ∙ simple in
    let ends : s.keyword.end ≡ end = cc in
    record {
      is_end = ends;
      within = subst (λ k. k ≤ length input) ends b.1.token.candidate.within;
      are = subst
          (λ k. AreTokensFrom input k (s.inside ++ s.semicolon ∷ s.after) None) ends b.2;
    }

-- the keyword of an instance that is found lies in the input
pub found_lies : (input : List ℕ) (f : File) → IsFile input f → (test : ℕ → Bool) (r : Record)
    → lookup test f.instances ≡ Some r → RecordLies (length input) r
found_lies input f is test r found end simple =
    let s = instance_stands input f is test r found end simple in
    let o = reads_on input r end simple s in
    let b = tokens_behind input 0 s.before (s.inside ++ s.semicolon ∷ s.after) s.keyword None
    s.are in
    record {
      ordered = omega (arith, s.begins.start, o.is_end, b.1.token.candidate.ordered);
      within = o.within;
    }
