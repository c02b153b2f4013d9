-- The ground, the reach and the frame are in range, and the one number is 20, which is not bad.
use Rattle.std.proofs.Common.{ap, Err}
use Rattle.sb_form.proofs.FormsAreInRange.{form_is_in_range}
use Rattle.sb_form.proofs.building.model.Goals as goal

pub new-requires : goal.new-requires
new-requires c =
    record {
      in_range =
          rw (
            c.in_ok-push.ensures.ok,
            c.new-spaces.ensures,
            c.in_ok-space.ensures,
            c.new-elements.ensures,
          )
          (form_is_in_range c.args.form.now c.args.extent.now c.requires.short);
    }

pub unreachable-requires : goal.unreachable-requires
unreachable-requires c =
    let found =
    (c.in-Err-BadNumber.ensures.bad_number c.in-Err-BadNumber.field-0-0 (λ e. absurd (cc))).0
    (ap Err c.in-Err-BadNumber.field-0-is) in
    let none =
    rw (
      c.in_ok-push.ensures.ok,
      c.new-spaces.ensures,
      c.in_ok-space.ensures,
      c.new-elements.ensures,
      c.new-openings.ensures,
      c.new-fillings.ensures,
    ) at found in
    absurd (cc none)
