use Rattle.std.proofs.Common.{sym, ◌∙◌, ap}
use Rattle.std.proofs.lemmas.Bool.{or_left}
use Rattle.sb_prism.specs.Faults.{in_shape}
use Rattle.sb_prism.specs.Faults.Fault.{not_of_row, not_there}
use Rattle.sb_prism.proofs.SoundShapes.{first_stands, none_first, is_read, far_solid, kept_solid, none_kept_never}
use Rattle.sb_prism.proofs.kept.Kept.sound.Goals as goal

pub returns-in-Some-clause-fault : goal.returns-in-Some-clause-fault
returns-in-Some-clause-fault c unit s kept frame =
    first_stands (in_shape not_of_row s) c.in-Some.number (sym (ap (λ f. f.broken) kept.faults) ∙ c.in-Some.is)

pub returns-in-Some-absent-clause-fault : goal.returns-in-Some-absent-clause-fault
returns-in-Some-absent-clause-fault c unit s kept frame = (
  none_first (in_shape not_of_row s) (sym (ap (λ f. f.broken) kept.faults) ∙ c.in_default.is),
  first_stands (in_shape not_there s) c.in-Some-absent.number
      (sym (ap (λ f. f.absent) kept.faults) ∙ c.in-Some-absent.is),
)

pub returns-then-faults-clause-fault : goal.returns-then-faults-clause-fault
returns-then-faults-clause-fault c unit s kept frame = (
  is_read unit s c.args.self.now kept c.in_default.is c.in_default-absent.is,
  sym (ap (λ f. f.turned) kept.faults) ∙ c.if-faults.true,
)

pub returns-then-faults-2-clause-fault : goal.returns-then-faults-2-clause-fault
returns-then-faults-2-clause-fault c unit s kept frame = (
  is_read unit s c.args.self.now kept c.in_default.is c.in_default-absent.is,
  sym (ap (λ f. f.turned) kept.faults) ∙ c.if-faults.false,
  sym (ap (λ f. f.stray) kept.faults) ∙ c.if-faults-2.true,
)

pub returns-then-faults-3-clause-fault : goal.returns-then-faults-3-clause-fault
returns-then-faults-3-clause-fault c unit s kept frame =
    let read = is_read unit s c.args.self.now kept c.in_default.is c.in_default-absent.is in
    let shaped = sym (ap (λ f. f.stray) kept.faults) ∙ c.if-faults-2.false in
    let (solid, is, far) = far_solid unit s read shaped (sym (ap (λ f. f.far) kept.faults) ∙ c.if-faults-3.true) in (
      read,
      sym (ap (λ f. f.turned) kept.faults) ∙ c.if-faults.false,
      shaped,
      (solid, is, or_left _ _ far),
    )

pub returns-in-Some-solid-clause-sound : goal.returns-in-Some-solid-clause-sound
returns-in-Some-solid-clause-sound c unit s kept =
    kept_solid unit s c.args.self.now c.in-Some-solid.solid kept
    (is_read unit s c.args.self.now kept c.in_default.is c.in_default-absent.is)
    (sym (ap (λ f. f.turned) kept.faults) ∙ c.if-faults.false)
    (sym (ap (λ f. f.stray) kept.faults) ∙ c.if-faults-2.false)
    (sym (ap (λ f. f.far) kept.faults) ∙ c.if-faults-3.false)
    c.in-Some-solid.is

pub returns-in-None-clause-fault : goal.returns-in-None-clause-fault
returns-in-None-clause-fault c unit s kept frame =
    absurd
    (none_kept_never unit s c.args.self.now kept
    (is_read unit s c.args.self.now kept c.in_default.is c.in_default-absent.is)
    (sym (ap (λ f. f.stray) kept.faults) ∙ c.if-faults-2.false)
    c.in-None.is)
