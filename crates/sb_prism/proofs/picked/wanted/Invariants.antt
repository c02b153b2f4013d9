use Rattle.std.proofs.Common.{◌≡◌, ℕ, None, take}
use Rattle.std.specs.Ordering.{nat_cmp}
use Rattle.std.specs.BTreeMap.{get}
use Rattle.std.specs.List.{flat_map}
use Rattle.sb_prism.specs.Picked.{with_named}
use Rattle.sb_prism.proofs.picked.wanted.Given as goal

abbrev pub invariant-segments : goal.invariant-segments
invariant-segments l =
    (q : ℕ) → get nat_cmp l.points q ≡ with_named (λ _. None) (flat_map (λ s. s.list) (take l.segment-index l.segments)) q
