-- What was made ready is that of the form's box.
use Rattle.std.proofs.Common.{rules}
use Rattle.sb_run.proofs.judgement.judge_text.Goals as goal

pub returns-in-Ok-made_ready-clause-ready : goal.returns-in-Ok-made_ready-clause-ready
returns-in-Ok-made_ready-clause-ready c = record {
  within = c.requires.within;
  read = c.requires.read;
  form = c.in-Some.form;
  extent = c.in-Ok.extent;
  sound = search rules;
  sole = search rules;
  list_is = search rules;
  report_is = search rules;
}
