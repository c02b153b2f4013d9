-- The answers of a run, each exactly where its cause holds.
use Rattle.std.proofs.Common.{◌≡◌, ◌<◌, ◌∙◌, ℕ, List, length, take, Option, Some, sym, ap, subst}
use Rattle.std.proofs.Common.{inl, inr, arith}
use Rattle.sb_shelf.specs.World.{World, Rose}
use Rattle.sb_form.specs.declared.matcher.FirstForm.{FirstForm}
use Rattle.sb_run.specs.Command.{Command, command}
use Rattle.sb_run.specs.Statuses.{HasReached}
use Rattle.sb_shelf.specs.WholeTexts.{longest_input}
use Rattle.sb_run.specs.Promises.{IsInput, IsRefused, HasDefect, IsSoundForm, IsListOf}
use Rattle.sb_run.specs.Promises.{IsDoneOrNoMemory, ReportStands}
use Rattle.sb_step.specs.Faults.{IsFaultAt}
use Rattle.sb_run.specs.Judgements.{IsRefusal, IsSameOrNoMemory, IsSole, IsRead, IsReady}
use Rattle.sb_run.specs.Judgements.{IsFinished}
use Rattle.sb_run.specs.declared.judgement.Ready.{Ready}
use Rattle.sb_run.specs.declared.answer.Answer.{Answer}
use Rattle.sb_run.specs.declared.answer.Answer.TheVariants.{Done, Usage, ReadFault, TooLong, Syntax}
use Rattle.sb_run.specs.declared.answer.Answer.TheVariants.{Refused, WriteFault, NoMemory}
use Rattle.sb_run.specs.declared.answer.Code.{Code}
use Rattle.sb_run.specs.declared.answer.Code.TheVariants as code
use Rattle.sb_form.specs.Meaning.{defect_of, model_of}
use Rattle.sb_form.specs.declared.meaning.Defect.{Defect}
use Rattle.sb_form.specs.declared.meaning.Defect.TheVariants as defect
use Rattle.sb_report.specs.Report.{report_of}
use Rattle.sb_run.proofs.FormsAreShort.{sound_is_short}

-- the input is what the shelf tells under the model that is asked for
pub input_is_told : (words : List (List ℕ)) (asked : Command) (old : World) (input : List ℕ)
    → command words ≡ Some asked → IsInput words old input → old.under asked.model ≡ Some input
input_is_told words asked old input is i =
    let same : i.asked ≡ asked = cc (i.is_asked, is) in
    let P : Command → Type 0 = λ a. old.under a.model ≡ Some input in
    subst P same i.is_told

-- what is known of an answer is known of the one that was said: the same, or want of memory
pub refusal_said : (told : Option (List ℕ)) (answer said : Answer) (old mid : World)
    → IsRefusal told answer old mid → IsSameOrNoMemory answer said
    → IsRefusal told said old mid
refusal_said told answer said old mid refusal (inl same) =
    let P : Answer → Type 0 = λ a. IsRefusal told a old mid in subst P (sym same) refusal
refusal_said told answer said old mid refusal (inr none) =
    let P : Answer → Type 0 = λ a. IsRefusal told a old mid in subst P (sym none) tt

-- a fault that was said is exactly the one that the input has
pub fault_exactly : (told : Option (List ℕ)) (said : Answer) (old mid : World) (input : List ℕ)
    → IsRefusal told said old mid → told ≡ Some input
    → (place : ℕ) → HasReached (Syntax place) said
    → (said ≡ Syntax place → IsFaultAt input place) × (IsFaultAt input place → said ≡ Syntax place)
fault_exactly told (Done list) old mid input refusal is place reached = absurd refusal
fault_exactly told Usage old mid input refusal is place reached = absurd refusal
fault_exactly told WriteFault old mid input refusal is place reached = absurd refusal
fault_exactly told ReadFault old mid input refusal is place reached = absurd (omega arith)
fault_exactly told TooLong old mid input refusal is place reached = absurd (omega arith)
fault_exactly told NoMemory old mid input refusal is place reached = absurd (omega arith)
fault_exactly told (Syntax other) old mid input refusal is place reached =
    let faulty = refusal input is in (
      (λ equal. let one : other ≡ place = cc in subst (IsFaultAt input) one faulty.fault),
      (λ fault. sym (ap Syntax (faulty.only place fault))),
    )
fault_exactly told (Refused n why) old mid input refusal is place reached = (
  (λ equal. absurd (cc)),
  (λ fault. absurd ((refusal input is).no_fault place fault)),
)

-- a refusal that was said is exactly the one that the input has
pub refused_exactly : (told : Option (List ℕ)) (said : Answer) (old mid : World) (input : List ℕ)
    → IsRefusal told said old mid → told ≡ Some input
    → (n : ℕ) (why : Code) → HasReached (Refused n why) said
    → (said ≡ Refused n why → IsRefused input n why)
    × (IsRefused input n why → said ≡ Refused n why)
refused_exactly told (Done list) old mid input refusal is n why reached = absurd refusal
refused_exactly told Usage old mid input refusal is n why reached = absurd refusal
refused_exactly told WriteFault old mid input refusal is n why reached = absurd refusal
refused_exactly told ReadFault old mid input refusal is n why reached = absurd (omega arith)
refused_exactly told TooLong old mid input refusal is n why reached = absurd (omega arith)
refused_exactly told NoMemory old mid input refusal is n why reached = absurd (omega arith)
refused_exactly told (Syntax place) old mid input refusal is n why reached = absurd (omega arith)
refused_exactly told (Refused m other) old mid input refusal is n why reached =
    let only = refusal input is in (
      (λ one. refused_alike input m n other why one only.refused),
      (λ refused. sym (only.only n why refused)),
    )
  where
    refused_alike : (input : List ℕ) (m n : ℕ) (a b : Code) → Refused m a ≡ Refused n b
        → IsRefused input m a → IsRefused input n b
    refused_alike input m n a b one refused =
        let numbers : m ≡ n = cc in
        let reasons : a ≡ b = cc in
        subst (λ k. IsRefused input k b) numbers (subst (IsRefused input m) reasons refused)

-- a sound input is not refused
pub refused_is_unsound : (told : Option (List ℕ)) (said : Answer) (old mid : World)
    (input : List ℕ) (form : FirstForm)
    → IsRefusal told said old mid → told ≡ Some input → IsSoundForm form input
    → (Rose old.read_faults mid.read_faults → ⊥) → IsDoneOrNoMemory said
refused_is_unsound told (Done list) old mid input form refusal is sound steady = absurd refusal
refused_is_unsound told Usage old mid input form refusal is sound steady = absurd refusal
refused_is_unsound told WriteFault old mid input form refusal is sound steady = absurd refusal
refused_is_unsound told ReadFault old mid input form refusal is sound steady =
    absurd (steady refusal)
refused_is_unsound told TooLong old mid input form refusal is sound steady =
    let long = refusal input is in
    let short = sound_is_short form input sound in
    absurd (omega arith)
refused_is_unsound told NoMemory old mid input form refusal is sound steady = tt
refused_is_unsound told (Syntax place) old mid input form refusal is sound steady =
    absurd ((refusal input is).unsound form sound)
refused_is_unsound told (Refused m other) old mid input form refusal is sound steady =
    absurd ((refusal input is).unsound form sound)

-- the one form of an input has its one defect
the_defect : (f : FirstForm) (input : List ℕ) (d : Defect) → IsSole f input → HasDefect input d
    → defect_of f ≡ Some d
the_defect f input d sole has = ap defect_of (sym (sole has.0 has.1)) ∙ has.2

-- a form without defect is refused for no reason
sound_is_not_refused : (f : FirstForm) (input : List ℕ) → IsRead input → IsSoundForm f input
    → IsSole f input → (m : ℕ) (why : Code) → IsRefused input m why → ⊥
sound_is_not_refused f input read sound sole m code.Duplicate r = read.no_double m r
sound_is_not_refused f input read sound sole m code.Shape r =
    cc (the_defect f input defect.Shape sole r.1, sound.no_defect)
sound_is_not_refused f input read sound sole m code.Range r =
    cc (the_defect f input defect.Range sole r.1, sound.no_defect)
sound_is_not_refused f input read sound sole m code.OffGrid r =
    cc (the_defect f input defect.OffGrid sole r.1, sound.no_defect)
sound_is_not_refused f input read sound sole m code.Unbuilt r = r.2 f sound.spelled

-- what is known of an answer is known of an equal one
finished_as : (ready : Ready) (result other : Answer) (old new : World)
    → IsFinished ready result old new → result ≡ other → IsFinished ready other old new
finished_as ready result other old new finished same =
    let P : Answer → Type 0 = λ a. IsFinished ready a old new in subst P same finished

-- an input that was made ready is not too long
pub finished_is_not_too_long : (ready : Ready) (result : Answer) (old new : World)
    (input : List ℕ) → IsFinished ready result old new → IsReady input ready
    → (result ≡ TooLong → longest_input < length input)
    × (longest_input < length input → result ≡ TooLong)
finished_is_not_too_long ready result old new input finished is = (
  (λ same. absurd (finished_as ready result TooLong old new finished same)),
  (λ long. let short = is.within in absurd (omega arith)),
)

-- it has no fault
pub finished_has_no_fault : (ready : Ready) (result : Answer) (old new : World) (input : List ℕ)
    → IsFinished ready result old new → IsReady input ready → (place : ℕ)
    → (result ≡ Syntax place → IsFaultAt input place)
    × (IsFaultAt input place → result ≡ Syntax place)
finished_has_no_fault ready result old new input finished is place = (
  (λ same. absurd (finished_as ready result (Syntax place) old new finished same)),
  (λ fault. absurd (is.read.no_fault place fault)),
)

-- and is not refused
pub finished_is_not_refused : (ready : Ready) (result : Answer) (old new : World) (input : List ℕ)
    → IsFinished ready result old new → IsReady input ready → (n : ℕ) (why : Code)
    → (result ≡ Refused n why → IsRefused input n why)
    × (IsRefused input n why → result ≡ Refused n why)
finished_is_not_refused ready result old new input finished is n why = (
  (λ same. absurd (finished_as ready result (Refused n why) old new finished same)),
  (λ refused. absurd (sound_is_not_refused is.form input is.read is.sound is.sole n why refused)),
)

-- what stands on the report is the text of the list, or a first part of it
pub report_stands : (ready : Ready) (result : Answer) (old new : World) (input : List ℕ)
    → IsFinished ready result old new → IsReady input ready → ReportStands input new result
report_stands ready (Done list) old new input finished is = record {
  form = is.form;
  extent = is.extent;
  sound = is.sound;
  list_is = subst (IsListOf is.form is.extent) (sym finished.0) is.list_is;
  written = λ bytes told.
      finished.1 bytes told
      ∙ (is.report_is ∙ ap (report_of (model_of is.form is.extent)) (sym finished.0));
}
report_stands ready WriteFault old new input finished is = record {
  form = is.form;
  extent = is.extent;
  sound = is.sound;
  list = ready.list;
  list_is = is.list_is;
  written = λ created bytes told.
      finished.1 created bytes told ∙ ap (take (length bytes)) is.report_is;
}
report_stands ready Usage old new input finished is = tt
report_stands ready ReadFault old new input finished is = tt
report_stands ready TooLong old new input finished is = tt
report_stands ready (Syntax place) old new input finished is = tt
report_stands ready (Refused n why) old new input finished is = tt
report_stands ready NoMemory old new input finished is = tt
