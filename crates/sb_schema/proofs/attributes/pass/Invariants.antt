use Rattle.std.proofs.Common.{◌≡◌, drop}
use Rattle.sb_schema.proofs.attributes.pass.Given as goal

abbrev pub invariant-parameters : goal.invariant-parameters
invariant-parameters l = l.left ≡ drop l._passed l.initial.left
