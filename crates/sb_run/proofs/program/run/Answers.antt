-- Each answer of a run has exactly its cause, whichever step it was given at.
use Rattle.sb_run.proofs.AnswersHaveTheirCause.{input_is_told, refusal_said, fault_exactly}
use Rattle.sb_run.proofs.AnswersHaveTheirCause.{refused_exactly, refused_is_unsound}
use Rattle.sb_run.proofs.AnswersHaveTheirCause.{finished_is_not_too_long, finished_has_no_fault}
use Rattle.sb_run.proofs.AnswersHaveTheirCause.{finished_is_not_refused, report_stands}
use Rattle.sb_run.proofs.program.run.Goals as goal

pub returns-in-Err-clause-syntax : goal.returns-in-Err-clause-syntax
returns-in-Err-clause-syntax g c input is =
    let told = input_is_told _ _ _ input c.in-Some.ensures.some is in
    let said = refusal_said _ _ _ _ _ c.in-Err.ensures.refused c.said_early.ensures.same in
    fault_exactly _ _ _ _ input said told

pub returns-in-Err-clause-refused : goal.returns-in-Err-clause-refused
returns-in-Err-clause-refused g c input is =
    let told = input_is_told _ _ _ input c.in-Some.ensures.some is in
    let said = refusal_said _ _ _ _ _ c.in-Err.ensures.refused c.said_early.ensures.same in
    refused_exactly _ _ _ _ input said told

pub returns-in-Err-clause-complete : goal.returns-in-Err-clause-complete
returns-in-Err-clause-complete g c input is form sound steady files =
    let told = input_is_told _ _ _ input c.in-Some.ensures.some is in
    let said = refusal_said _ _ _ _ _ c.in-Err.ensures.refused c.said_early.ensures.same in
    refused_is_unsound _ _ _ _ input form said told sound
    (λ rose. steady (rw c.said_early.ensures.keeps.output.read_faults rose))

pub returns-in-Ok-clause-too_long : goal.returns-in-Ok-clause-too_long
returns-in-Ok-clause-too_long g c input is reached =
    let told = input_is_told _ _ _ input c.in-Some.ensures.some is in
    let ready = c.in-Ok.ensures.ready input told in
    finished_is_not_too_long _ _ _ _ input c.finished.ensures.answer ready

pub returns-in-Ok-clause-syntax : goal.returns-in-Ok-clause-syntax
returns-in-Ok-clause-syntax g c input is place reached =
    let told = input_is_told _ _ _ input c.in-Some.ensures.some is in
    let ready = c.in-Ok.ensures.ready input told in
    finished_has_no_fault _ _ _ _ input c.finished.ensures.answer ready place

pub returns-in-Ok-clause-refused : goal.returns-in-Ok-clause-refused
returns-in-Ok-clause-refused g c input is n why reached =
    let told = input_is_told _ _ _ input c.in-Some.ensures.some is in
    let ready = c.in-Ok.ensures.ready input told in
    finished_is_not_refused _ _ _ _ input c.finished.ensures.answer ready n why

pub returns-in-Ok-clause-report : goal.returns-in-Ok-clause-report
returns-in-Ok-clause-report g c input is =
    let told = input_is_told _ _ _ input c.in-Some.ensures.some is in
    let ready = c.in-Ok.ensures.ready input told in
    report_stands _ _ _ _ input c.finished.ensures.answer ready
