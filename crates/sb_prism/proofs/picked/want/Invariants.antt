use Rattle.std.proofs.Common.{◌≡◌, ℕ, take}
use Rattle.std.specs.Ordering.{nat_cmp}
use Rattle.std.specs.BTreeMap.{get}
use Rattle.sb_prism.specs.Picked.{with_named}
use Rattle.sb_prism.proofs.picked.want.Given as goal

abbrev pub invariant-texts : goal.invariant-texts
invariant-texts l =
    (q : ℕ) → get nat_cmp l.points q ≡ with_named (get nat_cmp l.fn.points) (take l.text-index l.texts) q
