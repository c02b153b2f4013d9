-- Every input of the first form is an exchange text, and no number is used twice in it.
use Rattle.std.proofs.Common.{◌≡◌, ℕ, Bool, true, false, ◌&&◌, List, Option, Some, None, refl, sym, subst, arith}
use Rattle.std.specs.Prelude.{is_some}
use Rattle.sb_lex.specs.Scanning.{scan_letters, scan_name, scan_unsigned, scan_enclosed, exponent_len}
use Rattle.sb_step.specs.Lexemes.{Lexeme}
use Rattle.sb_step.specs.Grammar.{File, IsText}
use Rattle.sb_step.specs.Faults.{IsFile}
use Rattle.sb_step.specs.Numbers.{AreApart}
use Rattle.sb_step.specs.Index.Turns.{start, end_of, file_of, instances_of, Ran, run}
use Rattle.sb_step.proofs.Texts.TextsEnd.{ends_text}
use Rattle.sb_form.specs.FirstForm.{before_place, before_sizes, before_height, behind_height, IsFormOf}
use Rattle.sb_form.specs.AsText.{FormsAreTexts}
use Rattle.sb_form.specs.declared.matcher.FirstForm.{FirstForm}
use Rattle.sb_form.proofs.TokensAtTheFront.{Lead, tokens_at, lexemes_at, lead_reads}
use Rattle.sb_form.proofs.FormIsLexed.{form_pieces, line_feed, form_leads}
use Rattle.sb_form.proofs.RisingNumbersAreApart.{rises_from, rising_are_apart}

-- the lexemes of the form: where they lie, and the bytes of its numbers, depend on the numbers
abbrev pub form_lexemes : FirstForm → List Lexeme
form_lexemes f = lexemes_at 0 (form_pieces f)

-- the machine comes to the end of a text, and the numbers of the instances that it found rise
record ReadsText (xs : List Lexeme) : Type 0 where
  ran : Ran
  place : ℕ
  is : run xs start ≡ Some ran
  ends : end_of ran.state ≡ Some place
  rise : rises_from 0 (instances_of ran.events) ≡ true

-- the same as a test of its run
abbrev pub reads_text : Option Ran → Bool
reads_text None = false
reads_text (Some ran) =
    is_some (end_of ran.state) && rises_from 0 (instances_of ran.events)

text_read : (xs : List Lexeme) (o : Option Ran) → run xs start ≡ o → reads_text o ≡ true
    → ReadsText xs
text_read xs None is reads = absurd (cc reads)
text_read xs (Some ran) is reads = by (end_of ran.state) refl reads
  where
    by : (place : Option ℕ) → end_of ran.state ≡ place
        → (is_some place && rises_from 0 (instances_of ran.events)) ≡ true → ReadsText xs
    by None ends reads = absurd (cc reads)
    by (Some place) ends reads =
        record { ran = ran; place = place; is = is; ends = ends; rise = reads }

-- so with those of the form: #1, #2, #3, #10 to #17 and #20
form_reads : (f : FirstForm) → reads_text (run (form_lexemes f) start) ≡ true
unfolding before_place before_sizes before_height behind_height
    scan_letters scan_name scan_unsigned scan_enclosed exponent_len
form_reads f = refl

form_read : (f : FirstForm) → ReadsText (form_lexemes f)
form_read f = text_read (form_lexemes f) (run (form_lexemes f) start) refl (form_reads f)

-- the file of the form
form_file : FirstForm → File
form_file f = let r = form_read f in file_of r.ran.events r.place

form_is_text : (f : FirstForm) → IsText (form_lexemes f) (form_file f)
unfolding form_file
form_is_text f =
    let r = form_read f in ends_text (form_lexemes f) r.ran r.place r.is r.ends

form_is_file : (f : FirstForm) (input : List ℕ) → IsFormOf f input → IsFile input (form_file f)
form_is_file f input form =
    let reads = lead_reads (form_pieces f) input input line_feed 0
    (record { within = omega arith; are = refl })
    (subst (λ b. Lead (form_pieces f) b line_feed) (sym form.spelled) (form_leads f form.short))
    refl in
    record {
      tokens = tokens_at 0 (form_pieces f);
      are = reads.tokens;
      text = subst (λ xs. IsText xs (form_file f)) (sym reads.texts) (form_is_text f);
    }

form_is_apart : (f : FirstForm) → AreApart (form_file f).instances
unfolding form_file
form_is_apart f =
    let r = form_read f in rising_are_apart 0 (instances_of r.ran.events) r.rise

-- every input of the first form is an exchange text
pub forms_are_texts : FormsAreTexts
forms_are_texts form input is = (
  record { input = input; file = form_file form },
  record {
    input_is = refl;
    file = form_is_file form input is;
    apart = form_is_apart form;
  },
)
