use Rattle.std.proofs.Common.{◌≡◌, ℕ, nat_eq, ◌&&◌, take}
use Rattle.std.specs.List.{list_any}
use Rattle.std.specs.Ordering.{nat_cmp}
use Rattle.std.specs.BTreeSet.{contains}
use Rattle.sb_profile.specs.Contents.{Contents, Says}
use Rattle.sb_profile.specs.Following.{is_body}
use Rattle.sb_profile.proofs.following.bodies.bodies_among.Given as goal

abbrev pub invariant-numbers : goal.invariant-numbers
invariant-numbers l =
    (c : Contents) → Says l.file c → (q : ℕ) → contains nat_cmp l.bodies q
    ≡ (list_any (nat_eq q) (take l.number-index l.representations) && is_body c q)
