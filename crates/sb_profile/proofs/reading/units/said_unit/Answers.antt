use Rattle.std.proofs.Common.{◌≡◌, true, ap, sym, ◌∙◌, drop, slice_get}
use Rattle.std.specs.Prelude.{option_copied}
use Rattle.sb_step.specs.Cursors.Forms.{enumeration_in, is_null_in}
use Rattle.sb_profile.proofs.TablesOfFiles.UnitsAreCounted.{unit_tells}
use Rattle.sb_profile.proofs.reading.units.said_unit.Goals as goal

pub returns-then-is_one_of : goal.returns-then-is_one_of
returns-then-is_one_of c =
    let ps = c.args.parameters in
    let second : c.skip-2.new.self ≡ drop 1 (drop 1 ps) =
    c.skip-2.ensures ∙ ap (drop 1) c.skip.ensures in
    c.unit_by_prefix.ensures
    ∙ unit_tells ps c.is_null-none.result (option_copied c.enumeration-prefix.result)
    (option_copied c.enumeration-name.result) true
    (c.is_null-none.ensures ∙ ap (λ qs. is_null_in (slice_get qs 0)) second)
    (c.enumeration-prefix.ensures.value ∙ ap (λ qs. enumeration_in (slice_get qs 0)) second)
    (c.enumeration-name.ensures.value
    ∙ ap (λ qs. enumeration_in (slice_get qs 0))
    (c.enumeration-prefix.ensures.left ∙ ap (drop 1) second))
    (sym c.if-is_one_of.true ∙ c.is_one_of.ensures)
