use Rattle.std.proofs.Common.{ap, ◌∙◌, ◌++◌}
use Rattle.sb_idf_out.specs.Objects.{construction_object}
use Rattle.sb_idf_out.proofs.ConstructionsGrow.{construction_known, construction_added}
use Rattle.sb_idf_out.proofs.uses.number_of_construction.Goals as goal

pub returns-in-Some : goal.returns-in-Some
returns-in-Some c =
    λ cs before.
    construction_known cs c.args.constructions.now (λ k. k.items) c.args.objects.now c.args.numbers
    c.in-Some.number before c.in-Some.ensures

pub returns-in_ok-add-in-None : goal.returns-in_ok-add-in-None
returns-in_ok-add-in-None c =
    λ cs before.
    construction_added cs c.args.constructions.now c.add.new.numbers (λ k. k.items) c.args.objects.now
    c.append_construction.new.text c.args.numbers c.in_ok-number-in-None.number before c.in-None.ensures
    c.in_ok-number-in-None.ensures c.in_ok-add-in-None.ensures
    (c.in_ok-append_construction-in-None.ensures
    ∙ ap (λ l. c.args.objects.now ++ construction_object c.in_ok-number-in-None.number l)
    c.as_slice.ensures.value)
