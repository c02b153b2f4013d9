-- Single lists of lexemes: texts that the grammar has, and places where it goes on no further. Each
-- is found by computing.
use Rattle.sb_step.proofs.Names.{◌≡◌, ℕ, ◌+◌, List, [], ◌∷◌, ◌++◌, Some, None, refl, ap, ◌∙◌, subst, ⊎_elim, cond, eqb, arith, codes, replicate, cases_Bool, eqb-true, Record, Lexeme, IsText, BeginsText, uses, IsGreatest, Rule, One, OneString, next_turn, start, Ran, run}
use Rattle.sb_lex.specs.declared.kinds.Kind.TheVariants as kind
use Rattle.sb_lex.specs.declared.kinds.Mark.TheVariants as mark
use Rattle.sb_lex.specs.declared.kinds.Word.TheVariants as word
use Rattle.sb_step.specs.declared.step_file.records.Form.TheVariants as form
use Rattle.sb_step.specs.Rules.{◌⋅◌}
use Rattle.sb_step.proofs.Records.PlacesOfItems.{count_by-cons}
use Rattle.sb_step.proofs.Texts.SomeTextGoesOn.{lexeme_of, mark_of, keyword_of}
use Rattle.sb_step.proofs.Texts.WhatIsReadIsText.{before}
use Rattle.sb_step.proofs.Texts.TextsEnd.{ends_text, runs_begin, stops}

-- a text begins with the lexemes, and none with one more
record StopsAt (xs : List Lexeme) (x : Lexeme) : Type 0 where
  begins : BeginsText xs
  refused : BeginsText (xs ++ x ∷ []) → ⊥

stops_at : (xs : List Lexeme) (x : Lexeme) (ran : Ran) → run xs start ≡ Some ran
    → next_turn ran.state x ≡ None → StopsAt xs x
stops_at xs x ran is none = record {
  begins = runs_begin xs ran is;
  refused = stops xs ran is x none;
}

-- lexemes

-- a parenthesis that opens
abbrev pub opening : Lexeme
opening = mark_of mark.Open

-- one that closes
abbrev pub closing : Lexeme
closing = mark_of mark.Close

-- a semicolon
abbrev pub semicolon : Lexeme
semicolon = mark_of mark.Semicolon

-- a value, `$`
abbrev pub value : Lexeme
value = mark_of mark.Dollar

-- a keyword, `A`
abbrev pub keyword : Lexeme
keyword = keyword_of (codes "A")

-- `ISO-10303-21; HEADER;`
abbrev pub header : List Lexeme
header =
    lexeme_of (kind.Word word.First) [] ∷ semicolon ∷ keyword_of (codes "HEADER") ∷ semicolon ∷ []

-- `A(); ENDSEC; DATA;`
abbrev pub data_begins : List Lexeme
data_begins =
    keyword ∷ opening ∷ closing ∷ semicolon ∷ keyword_of (codes "ENDSEC") ∷ semicolon
    ∷ keyword_of (codes "DATA") ∷ semicolon ∷ []

-- `#7 =`
abbrev pub name : List Lexeme
name = lexeme_of (kind.Name 7) [] ∷ mark_of mark.Equals ∷ []

-- `ENDSEC; END-ISO-10303-21;`
abbrev pub ending : List Lexeme
ending =
    keyword_of (codes "ENDSEC") ∷ semicolon ∷ lexeme_of (kind.Word word.Last) [] ∷ semicolon ∷ []

-- a text without instances
empty_text : IsText (header ++ data_begins ++ ending)
    (record {
      header = record { start = 0; end = 0; form = form.Simple 0 } ∷ [];
      instances = [];
      data_end = 0;
    })
empty_text = ends_text (header ++ data_begins ++ ending) _ 0 refl refl

-- a complex instance
abbrev pub complex : List Lexeme
complex =
    header ++ data_begins ++ name
    ++ (opening ∷ keyword ∷ opening ∷ closing ∷ closing ∷ semicolon ∷ []) ++ ending

complex_text : IsText complex (record {
  header = record { start = 0; end = 0; form = form.Simple 0 } ∷ [];
  instances = (7, record { start = 0; end = 0; form = form.Complex }) ∷ [];
  data_end = 0;
})
complex_text = ends_text complex _ 0 refl refl

-- `ENDSEC` may be the first entity, so the fault is at the semicolon behind it
no_entity : StopsAt (header ++ keyword_of (codes "ENDSEC") ∷ []) semicolon
no_entity = stops_at (header ++ keyword_of (codes "ENDSEC") ∷ []) semicolon _ refl refl

-- with 64 parentheses open a value goes on, and neither a further one nor a keyword
abbrev pub deep : List Lexeme
deep = header ++ data_begins ++ name ++ (keyword ∷ []) ++ replicate 64 opening

one_too_many : StopsAt deep opening
one_too_many = stops_at deep opening _ refl refl

keyword_too_deep : StopsAt deep keyword
keyword_too_deep = stops_at deep keyword _ refl refl

value_is_not : BeginsText (deep ++ value ∷ [])
value_is_not = runs_begin (deep ++ value ∷ []) _ refl

-- the parenthesis of a complex record is one of them
abbrev pub deep_complex : List Lexeme
deep_complex =
    header ++ data_begins ++ name ++ (opening ∷ keyword ∷ []) ++ replicate 63 opening

complex_too_deep : StopsAt deep_complex opening
complex_too_deep = stops_at deep_complex opening _ refl refl

-- no list ends behind a comma
abbrev pub behind_a_comma : List Lexeme
behind_a_comma =
    header ++ data_begins ++ name ++ (keyword ∷ opening ∷ value ∷ mark_of mark.Comma ∷ [])

no_end_behind_a_comma : StopsAt behind_a_comma closing
no_end_behind_a_comma = stops_at behind_a_comma closing _ refl refl

-- a typed parameter has one
abbrev pub in_typed : List Lexeme
in_typed =
    header ++ data_begins ++ name ++ (keyword ∷ opening ∷ keyword ∷ opening ∷ value ∷ [])

one_typed : StopsAt in_typed (mark_of mark.Comma)
one_typed = stops_at in_typed (mark_of mark.Comma) _ refl refl

-- the greatest number

-- a record with nothing in it
abbrev pub at_start : Record
at_start = record { start = 0; end = 0; form = form.Complex }

-- `#5` and `#3`
abbrev pub two_instances : List (ℕ × Record)
two_instances = (5, at_start) ∷ (3, at_start) ∷ []

five_is_greatest : IsGreatest 5 two_instances
five_is_greatest = record {
  used = omega arith;
  greatest = λ m used. ⊎_elim
      (λ same. let is = eqb-true 5 m same in omega (arith, is))
      (λ not_five. ⊎_elim
      (λ same. let is = eqb-true 3 m same in omega (arith, is))
      (λ not_three. let first = count_by-cons (λ (i : ℕ × Record). eqb i.0 m) (5, at_start)
      ((3, at_start) ∷ []) ∙ ap (λ b. cond b 1 0 + uses m ((3, at_start) ∷ [])) not_five in
      let second = count_by-cons (λ (i : ℕ × Record). eqb i.0 m) (3, at_start) []
      ∙ ap (λ b. cond b 1 0 + uses m []) not_three in
      absurd (omega (arith, first, second, used)))
      (cases_Bool (eqb 3 m)))
      (cases_Bool (eqb 5 m));
}

the_last_is_not : IsGreatest 3 two_instances → ⊥
the_last_is_not is = let less = is.greatest 5 (omega arith) in absurd (omega (arith, less))

six_is_not_there : IsGreatest 6 two_instances → ⊥
six_is_not_there is = absurd (omega (arith, is.used))

none_is_zero : (n : ℕ) → IsGreatest n [] → n ≡ 0
none_is_zero n is = is

-- the schema

-- `'IFC4'`
abbrev pub ifc4 : Lexeme
ifc4 = lexeme_of kind.Str (codes "'IFC4'")

-- a record that begins at the first byte
abbrev pub begins_here : Record
begins_here = record { start = 0; end = 0; form = form.Simple 0 }

-- `A(('IFC4'))`
in_a_list : OneString begins_here (codes "IFC4")
    (keyword ∷ opening ∷ opening ∷ ifc4 ∷ closing ∷ closing ∷ []) []
in_a_list =
    before (record { keyword = refl; start = refl; form = refl })
    (before refl (before refl (before (record { string = refl; spelled = refl })
    (before refl (refl, refl)))))

behind : {P : Lexeme → Type 0} (Q : Rule) {x : Lexeme} {xs rest : List Lexeme}
    → (One P ⋅ Q) (x ∷ xs) rest → Q xs rest
behind Q {rest = rest} j = subst (λ l. Q l rest) j.first.1 j.second

-- `A(('IFC4','IFC4'))`
two_strings : (text : List ℕ) (rest : List Lexeme) → OneString begins_here text
    (keyword ∷ opening ∷ opening ∷ ifc4 ∷ mark_of mark.Comma ∷ ifc4 ∷ closing ∷ closing ∷ []) rest
    → ⊥
two_strings text rest j =
    let closed = behind _ (behind _ (behind _ (behind _ j))) in
    let apart : kind.Mark mark.Comma ≡ kind.Mark mark.Close = closed.first.0 in
    absurd (cc)

-- `A('IFC4')`
no_list : (text : List ℕ) (rest : List Lexeme) → OneString begins_here text
    (keyword ∷ opening ∷ ifc4 ∷ closing ∷ []) rest → ⊥
no_list text rest j =
    let opened = behind _ (behind _ j) in
    let apart : kind.Str ≡ kind.Mark mark.Open = opened.first.0 in
    absurd (cc)
