-- Worked commands and lines: what the definitions accept, and what they refuse.
use Rattle.std.proofs.Common.{◌≡◌, Some, None, refl, [], ◌∷◌}
use Rattle.std.specs.Prelude.{codes}
use Rattle.std.specs.Fmt.{digits}
use Rattle.sb_run.specs.declared.answer.Answer.TheVariants.{Syntax, Refused, WriteFault}
use Rattle.sb_run.specs.declared.answer.Code.TheVariants.{OffGrid}
use Rattle.sb_run.specs.Command.{Command, command}
use Rattle.sb_run.specs.Promises.{inputs_of, outputs_of}
use Rattle.sb_shelf.specs.declared.shelf.Out.TheVariants.{Report}
use Rattle.sb_run.specs.Messages.{said_line}

-- the words of a command, of which these three are one
asked : command (codes "box.ifc" ∷ codes "--report" ∷ codes "r.json" ∷ [])
    ≡ Some (record { model = codes "box.ifc"; report = codes "r.json" })
asked = refl

abbrev asked_for : Command
asked_for = record { model = codes "box.ifc"; report = codes "r.json" }

-- no other option, and no report or model that is missing, empty or an option
other_option : command (codes "box.ifc" ∷ codes "--ifc" ∷ codes "r.json" ∷ []) ≡ None
other_option = refl

no_report : command (codes "box.ifc" ∷ codes "--report" ∷ []) ≡ None
no_report = refl

empty_model : command ([] ∷ codes "--report" ∷ codes "r.json" ∷ []) ≡ None
empty_model = refl

report_is_option : command (codes "box.ifc" ∷ codes "--report" ∷ codes "-r" ∷ []) ≡ None
report_is_option = refl

-- the model is not written over, and `demo:3` is no path
over_itself : command (codes "box.ifc" ∷ codes "--report" ∷ codes "box.ifc" ∷ []) ≡ None
over_itself = refl

generated : command (codes "demo:3" ∷ codes "--report" ∷ codes "r.json" ∷ []) ≡ None
generated = refl

-- the lines of a fault and of a refusal
line_of_fault : said_line (Syntax 66) ≡ codes "syntax at byte 66\n"
unfolding digits
line_of_fault = refl

line_of_refusal : said_line (Refused 20 OffGrid) ≡ codes "refused #20: OffGrid\n"
unfolding digits
line_of_refusal = refl

-- a run that is asked for nothing opens nothing, and one that is refused creates nothing
nothing_is_opened : inputs_of (command []) ≡ []
nothing_is_opened = refl

nothing_is_created : outputs_of (Some asked_for) (Refused 20 OffGrid) ≡ []
nothing_is_created = refl

-- after a fault of writing the report was asked for, once
the_report_is_asked_for : outputs_of (Some asked_for) WriteFault
    ≡ record { out = Report; path = codes "r.json" } ∷ []
the_report_is_asked_for = refl
