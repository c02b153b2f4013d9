-- The law is the lemma of its name.
use Rattle.sb_form.proofs.FormsAreTexts as form
use Rattle.sb_form.proofs.laws.forms_are_texts.Goals as goal

pub returns : goal.returns
returns c = record { texts = form.forms_are_texts }
