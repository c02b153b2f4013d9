-- The clauses of the index are what is known of its answer.
use Rattle.std.proofs.Common.{sym, subst}
use Rattle.sb_form.proofs.FormsAreTexts.{forms_are_texts}
use Rattle.sb_run.specs.Judgements.{IsJudged}
use Rattle.sb_run.proofs.TextsAreJudged.{indexed_is_read, fault_is_judged}
use Rattle.sb_run.proofs.judgement.check_text.Goals as goal

pub returns-in-Ok-clause-read : goal.returns-in-Ok-clause-read
returns-in-Ok-clause-read c =
    let says = c.in-Ok.ensures in
    indexed_is_read c.args.input.now c.in-Ok._file (record {
      is = says.answer;
      file = says.file;
      syntax = says.syntax;
      duplicate = says.duplicate;
    })

pub returns-in-Err-clause-refused : goal.returns-in-Err-clause-refused
returns-in-Err-clause-refused c =
    let says = c.in-Err.ensures in
    subst (IsJudged c.args.input.now) (sym c.refusal_of.ensures)
    (fault_is_judged forms_are_texts c.args.input.now c.in-Err.error c.requires (record {
      is = says.answer;
      file = says.file;
      syntax = says.syntax;
      duplicate = says.duplicate;
    }))
