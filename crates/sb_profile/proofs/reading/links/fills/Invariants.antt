use Rattle.std.proofs.Common.{◌≡◌, ℕ, None, take}
use Rattle.std.specs.Prelude.{filter}
use Rattle.std.specs.Ordering.{nat_cmp}
use Rattle.std.specs.BTreeMap.{get}
use Rattle.std.specs.BTreeSet.{contains}
use Rattle.sb_profile.specs.Entities.Entity.{rel_fills_element}
use Rattle.sb_profile.specs.Contents.{Contents, Says, is_unfit}
use Rattle.sb_profile.specs.Steps.Links.{noted_all, by_voiding, lowered}
use Rattle.sb_profile.proofs.reading.links.fills.Given as goal

abbrev pub invariant-relations : goal.invariant-relations
invariant-relations l =
    ((c : Contents) → Says l.file c → (q : ℕ) → get nat_cmp l.links q
    ≡ noted_all (λ r found. by_voiding (contains nat_cmp l.openings) q r (c.given rel_fills_element r) found) None
    (take l.relation-index l.relations))
    × ((c : Contents) → Says l.file c → l.unfit
    ≡ lowered l.fn.unfit (filter (is_unfit c rel_fills_element) (take l.relation-index l.relations)))
