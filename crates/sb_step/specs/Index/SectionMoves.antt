-- What may stand next outside of parameter lists.
use Rattle.std.specs.Prelude.{ℕ, true, false, codes, List, [], ◌∷◌, Option}
use Rattle.sb_lex.specs.declared.kinds.Mark.TheVariants as mark
use Rattle.sb_lex.specs.declared.kinds.Token.{Token}
use Rattle.sb_lex.specs.declared.kinds.Word.TheVariants as word
use Rattle.sb_step.specs.declared.step_file.records.Form.TheVariants as form
use Rattle.sb_step.specs.declared.step_file.records.Record.{Record}
use Rattle.sb_step.specs.declared.indexing.states.Span.{Span}
use Rattle.sb_step.specs.declared.indexing.states.Part.{Part}
use Rattle.sb_step.specs.declared.indexing.states.Section.{Section}
use Rattle.sb_step.specs.declared.indexing.states.Section.TheVariants as section
use Rattle.sb_step.specs.declared.indexing.states.Event.{Event}
use Rattle.sb_step.specs.declared.indexing.states.Event.TheVariants as event
use Rattle.sb_step.specs.declared.indexing.states.Move.{Move}
use Rattle.sb_step.specs.Lexemes.{Lexeme}
use Rattle.sb_step.specs.KindTests.{number_of}
use Rattle.sb_step.specs.Index.Ways.{Asked, Way, pick, ◌⇢◌}
use Rattle.sb_step.specs.Index.Ways.Asked.{the_word, the, a_keyword, a_name, the_mark}

-- the next lexeme, where nothing was found
abbrev pub moves : Section → Move
moves o = record { section = o; opens = false; event = event.Nothing }

-- the parameter list of a record begins
abbrev pub enters : Section → Move
enters o = record { section = o; opens = true; event = event.Nothing }

-- a record ends
abbrev pub finds : Section → Event → Move
finds o x = record { section = o; opens = false; event = x }

-- where the keyword stands
abbrev pub span_of : Lexeme → Span
span_of x = record { start = x.token.start; end = x.token.end }

-- the record of an entity that ends at the byte
abbrev pub entity_of : Span → ℕ → Record
entity_of k end = record { start = k.start; end = end; form = form.Simple k.end }

-- the record of an instance that ends at the byte
abbrev pub record_of : Part → ℕ → Record
record_of p end = record { start = p.start; end = end; form = p.form }

-- an instance whose record is simple
abbrev pub simple_part : ℕ → Token → Part
simple_part n t = record { number = n; start = t.start; form = form.Simple t.end }

-- an instance whose record is complex
abbrev pub complex_part : ℕ → Token → Part
complex_part n t = record { number = n; start = t.start; form = form.Complex }

-- a semicolon is asked
abbrev pub semicolon : Asked
semicolon = the_mark mark.Semicolon

-- a parenthesis that opens
abbrev pub open_mark : Asked
open_mark = the_mark mark.Open

-- the ways on outside of parameter lists; the first leads to the end of the text
abbrev pub section_ways : Section → Lexeme → List (Way Move)
section_ways section.Begin x = the_word word.First ⇢ moves section.BeginSemicolon ∷ []
section_ways section.BeginSemicolon x = semicolon ⇢ moves section.Header ∷ []
section_ways section.Header x = the (codes "HEADER") ⇢ moves section.HeaderSemicolon ∷ []
section_ways section.HeaderSemicolon x = semicolon ⇢ moves section.FirstEntity ∷ []
section_ways section.FirstEntity x = a_keyword ⇢ moves (section.EntityOpen (span_of x)) ∷ []
section_ways section.Entities x =
    the (codes "ENDSEC") ⇢ moves (section.EntityOrEnd (span_of x))
    ∷ a_keyword ⇢ moves (section.EntityOpen (span_of x)) ∷ []
section_ways (section.EntityOrEnd s) x =
    semicolon ⇢ moves section.Data ∷ open_mark ⇢ enters (section.EntityEnd s) ∷ []
section_ways (section.EntityOpen s) x = open_mark ⇢ enters (section.EntityEnd s) ∷ []
section_ways (section.EntityEnd s) x =
    semicolon ⇢ finds section.Entities (event.Entity (entity_of s x.token.start)) ∷ []
section_ways section.Data x = the (codes "DATA") ⇢ moves section.DataSemicolon ∷ []
section_ways section.DataSemicolon x = semicolon ⇢ moves section.Instances ∷ []
section_ways section.Instances x =
    the (codes "ENDSEC") ⇢ moves (section.EndSemicolon x.token.start)
    ∷ a_name ⇢ moves (section.Equals (number_of x.token.kind)) ∷ []
section_ways (section.Equals n) x = the_mark mark.Equals ⇢ moves (section.Body n) ∷ []
section_ways (section.Body n) x =
    a_keyword ⇢ moves (section.SimpleOpen (simple_part n x.token))
    ∷ open_mark ⇢ moves (section.FirstRecord (complex_part n x.token)) ∷ []
section_ways (section.SimpleOpen p) x = open_mark ⇢ enters (section.InstanceEnd p) ∷ []
section_ways (section.FirstRecord p) x = a_keyword ⇢ moves (section.RecordOpen p) ∷ []
section_ways (section.RecordOpen p) x = open_mark ⇢ enters (section.NextRecord p) ∷ []
section_ways (section.NextRecord p) x =
    the_mark mark.Close ⇢ moves (section.InstanceEnd p)
    ∷ a_keyword ⇢ moves (section.RecordOpen p) ∷ []
section_ways (section.InstanceEnd p) x =
    semicolon ⇢ finds section.Instances
    (event.Instance p.number (record_of p x.token.start)) ∷ []
section_ways (section.EndSemicolon k) x = semicolon ⇢ moves (section.LastWord k) ∷ []
section_ways (section.LastWord k) x = the_word word.Last ⇢ moves (section.LastSemicolon k) ∷ []
section_ways (section.LastSemicolon k) x = semicolon ⇢ moves (section.End k) ∷ []
section_ways (section.End k) x = []

-- what may stand next there
abbrev pub section_move : Section → Lexeme → Option Move
section_move o x = pick (section_ways o x) x
