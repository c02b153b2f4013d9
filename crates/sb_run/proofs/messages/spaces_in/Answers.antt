-- A space that ends is counted.
use Rattle.std.proofs.Common.{◌∙◌, sym}
use Rattle.sb_run.proofs.SpacesEndWhereTheyChange.{ends_here}
use Rattle.sb_run.proofs.messages.spaces_in.Goals as goal

pub turns-preserved-then-ends_space : goal.turns-preserved-then-ends_space
turns-preserved-then-ends_space c =
    let ends = sym c.ends_space.ensures ∙ c.if-ends_space.true in
    ends_here _ _ c.in-Some.field-0-0.now _ _ c.in-Some.ensures.cases.0 ends c.turns.invariant
