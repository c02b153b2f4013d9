-- Each parameter list of an input says some parameters.
use Rattle.sb_step.proofs.Names.{◌≡◌, ℕ, true, List, [], ◌∷◌, ◌++◌, Some, None, refl, sym, ap, subst, codes, nat_eq, lookup, false≢true, Kind, Token, IsToken, AreTokensFrom, Reading, Form, Record, Param, Lexeme, lexemes, is_value, Rule, File, Parameter, ParameterList, MoreParameters, IsFile, Encloses, IsParameter, AreParameters, AreFurther, HoldsParameters, HoldsByForm, EachInstanceHasParameters, behind, AreAhead, reader_at}
use Rattle.theory_bytes.specs.Insides.{inside_of}
use Rattle.sb_lex.specs.declared.kinds.Kind.TheVariants as kind
use Rattle.sb_lex.specs.declared.kinds.Mark.TheVariants as mark
use Rattle.sb_step.specs.declared.step_file.records.Form.TheVariants as form
use Rattle.sb_step.specs.declared.parameters.param.Param.TheVariants as param
use Rattle.sb_step.specs.Grammar.Parameter.{value as one, list as nested, typed as named}
use Rattle.sb_step.specs.Grammar.ParameterList.{empty as none, some as few}
use Rattle.sb_step.specs.Grammar.MoreParameters.{last as ends_here, more as further}
use Rattle.sb_step.specs.Params.Parameters.{Says}
use Rattle.sb_step.specs.Params.Parameters.IsParameter.{value, list, typed}
use Rattle.sb_step.specs.Params.Parameters.AreParameters.{empty, some}
use Rattle.sb_step.specs.Params.Parameters.AreFurther.{last, more}
use Rattle.sb_step.proofs.ParameterLists.DoubledApostrophes.{inside_is_written}
use Rattle.sb_step.proofs.ParameterLists.InsidesOfTokens.{text_of, string_is, enumeration_is, binary_is}
use Rattle.sb_step.proofs.Records.RecordsStand.{SimpleStands, instance_stands, reads_on}

-- one token

value_says : (input : List ℕ) (t : Token) → IsToken input t → (k : Kind) → t.kind ≡ k
    → is_value k ≡ true → (p : Param) × Says k (text_of input t) p
value_says input t token kind.Integer is v = (param.Int (text_of input t), refl)
value_says input t token kind.Real is v = (param.Real (text_of input t), refl)
value_says input t token kind.Str is v =
    let e = string_is token is in
    let w = inside_is_written (inside_of (text_of input t)) e.is in (
      param.Str w.0,
      (w.0, subst (λ i. Encloses (codes "'") i (text_of input t)) w.1 e.whole, refl),
    )
value_says input t token kind.Enumeration is v =
    let e = enumeration_is token is in
    (param.Enumeration (inside_of (text_of input t)), (inside_of (text_of input t), e.whole, refl))
value_says input t token kind.Binary is v =
    let e = binary_is token is in
    (param.Binary (inside_of (text_of input t)), (inside_of (text_of input t), e.whole, refl))
value_says input t token (kind.Name n) is v = (param.Reference n, refl)
value_says input t token (kind.Mark mark.Dollar) is v = (param.Null, refl)
value_says input t token (kind.Mark mark.Asterisk) is v = (param.Derived, refl)
value_says input t token _ is v = absurd (false≢true v)

-- the rule describes the list for some value, and a reader stands behind it
record Said {A : Type 0} (P : A → Rule) (xs rest : List Lexeme) : Type 0 where
  says : A
  is : P says xs rest
  at : Reading
  ahead : AreAhead at rest

mutual
  parameter_says : {xs rest : List Lexeme} → Parameter xs rest → (at : Reading) → AreAhead at xs
      → Said IsParameter xs rest
  parameter_says (one {x = x} v) at ahead =
      let s = value_says at.input x.token ahead.0.token x.token.kind refl v in
      let is = subst (λ text. Says x.token.kind text s.0) (sym (ap (λ y. y.text) ahead.1)) s.1 in
      record { says = s.0; is = value is; at = behind at.input x.token; ahead = ahead.2 }
  parameter_says (nested l) at ahead =
      let s = list_says l at ahead in
      record { says = param.List s.says; is = list s.is; at = s.at; ahead = s.ahead }
  parameter_says (named {keyword = x} {open_mark = y} {close_mark = z} k o q c) at ahead =
      let s = parameter_says q (behind at.input y.token) ahead.2.2 in
      record {
        says = param.Typed x.text s.says;
        is = typed k o s.is c;
        at = behind s.at.input z.token;
        ahead = s.ahead.2;
      }

  -- each list says some
  list_says : {xs rest : List Lexeme} → ParameterList xs rest → (at : Reading)
      → AreAhead at xs → Said AreParameters xs rest
  list_says (none {close_mark = z} o c) at ahead =
      record { says = []; is = empty o c; at = behind at.input z.token; ahead = ahead.2.2 }
  list_says (few {open_mark = y} o q m) at ahead =
      let s = parameter_says q (behind at.input y.token) ahead.2 in
      let l = further_says m s.at s.ahead in
      record { says = s.says ∷ l.says; is = some o s.is l.is; at = l.at; ahead = l.ahead }

  further_says : {xs rest : List Lexeme} → MoreParameters xs rest → (at : Reading)
      → AreAhead at xs → Said AreFurther xs rest
  further_says (ends_here {close_mark = z} c) at ahead =
      record { says = []; is = last c; at = behind at.input z.token; ahead = ahead.2 }
  further_says (further {comma = y} c q m) at ahead =
      let s = parameter_says q (behind at.input y.token) ahead.2 in
      let l = further_says m s.at s.ahead in
      record { says = s.says ∷ l.says; is = more c s.is l.is; at = l.at; ahead = l.ahead }

-- an instance

-- the lexemes of the tokens from a place on are those that a reader stands before there
pub tokens_ahead : (input : List ℕ) (from : ℕ) (tokens : List Token)
    → AreTokensFrom input from tokens None → AreAhead (reader_at input from) (lexemes input tokens)
tokens_ahead input from [] are = are
tokens_ahead input from (t ∷ tokens) are =
    (are.0, refl, tokens_ahead input t.end tokens are.1)

-- a record holds what its list says
pub holds_said : (input : List ℕ) (r : Record) (s : SimpleStands input r) (ps : List Param)
    → AreParameters ps (lexemes input (s.inside ++ s.semicolon ∷ s.after))
    (lexemes input (s.semicolon ∷ s.after)) → HoldsParameters input r ps
holds_said input r s ps says = record {
  before = s.before;
  from = s.keyword ∷ (s.inside ++ s.semicolon ∷ s.after);
  are = s.are;
  rest = lexemes input s.after;
  says = record {
    middle = lexemes input (s.inside ++ s.semicolon ∷ s.after);
    first = (s.begins, refl);
    second = record {
      middle = lexemes input (s.semicolon ∷ s.after);
      first = says;
      second = ((s.closes, s.ends), refl);
    };
  };
}

parameters_by : (input : List ℕ) (f : File) (is : IsFile input f) (n : ℕ) (r : Record)
    (found : lookup (nat_eq n) f.instances ≡ Some r) (its : Form) → r.form ≡ its
    → (ps : List Param) × HoldsByForm its input r ps
parameters_by input f is n r found (form.Simple end) simple =
    let s = instance_stands input f is (nat_eq n) r found end simple in
    let o = reads_on input r end simple s in
    let said = list_says s.list (reader_at input end)
    (tokens_ahead input end (s.inside ++ s.semicolon ∷ s.after) o.are) in
    (said.says, holds_said input r s said.says said.is)
parameters_by input f is n r found form.Complex complex = ([], refl)

-- each instance of a file has parameters
pub each_instance_has_parameters : EachInstanceHasParameters
each_instance_has_parameters indexed n r is found =
    let h = parameters_by indexed.input indexed.file is.file n r found r.form refl in
    (h.0, record { record_of = r; found = found; holds = h.1 })
