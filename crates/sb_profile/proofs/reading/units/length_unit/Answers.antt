use Rattle.std.proofs.Common.{◌≡◌, ap, sym, ◌∙◌, Some, slice_get, List, [], ℕ}
use Rattle.std.specs.Prelude.{filter, filter_map}
use Rattle.std.proofs.lemmas.Bool.{false≢true}
use Rattle.sb_step.specs.declared.parameters.param.Param.{Param}
use Rattle.sb_step.specs.Cursors.Forms.{reference_in}
use Rattle.sb_profile.specs.Units.{is_length_unit}
use Rattle.sb_profile.specs.Steps.Counting.{counted, with_member, the_only}
use Rattle.sb_profile.proofs.TablesOfFiles.UnitsAreCounted.{counted_member, counted_only}
use Rattle.sb_profile.proofs.reading.units.length_unit.Goals as goal

-- the references among parameters
abbrev references_among : List Param → List ℕ
references_among ps = filter_map (λ p. reference_in (Some p)) ps

pub members-preserved : goal.members-preserved
members-preserved c = λ said says.
    let test = is_length_unit said in
    let members = c.members.members in
    let found = c.members.found in
    ap (λ f. counted f (filter test (references_among c.reference-member.new.self)))
    (c.with_member-found.ensures said says
    ∙ ap (λ o. with_member test o found) c.reference-member.ensures.value)
    ∙ (ap (λ ps. counted (with_member test (reference_in (slice_get members 0)) found)
    (filter test (references_among ps))) c.reference-member.ensures.left
    ∙ (counted_member test found members
    (λ none. false≢true (sym c.members-test.true ∙ c.is_done.ensures.1 none))
    ∙ c.members.invariant said says))

pub returns : goal.returns
returns c = λ said says.
    let test = is_length_unit said in
    let found = c.members.found in
    let empty : c.members.members ≡ [] = c.is_done.ensures.0 c.members-test.false in
    c.the_only.ensures
    ∙ (ap the_only (sym (ap (λ ps. counted found (filter test (references_among ps))) empty)
    ∙ c.members.invariant said says)
    ∙ counted_only (filter test (references_among c.args.first_members)))
