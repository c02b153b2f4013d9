use Rattle.std.proofs.Common.{◌≡◌, ◌≤◌, drop, length}
use Rattle.sb_schema.proofs.attributes.are_left.Given as goal

abbrev pub invariant-parameters : goal.invariant-parameters
invariant-parameters l = record {
  left : l.left ≡ drop l._passed l.initial.left;
  within : l._passed ≤ length l.initial.left;
}
