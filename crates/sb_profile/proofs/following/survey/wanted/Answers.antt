use Rattle.std.proofs.Common.{◌↔◌, subst}
use Rattle.std.proofs.lemmas.List.Filters.{dedup_is}
use Rattle.theory_lists.specs.Members.{Stands}
use Rattle.sb_profile.proofs.ListsOfNumbers.{once_in_order}
use Rattle.sb_profile.proofs.following.survey.wanted.Goals as goal

pub returns : goal.returns
returns c = λ n.
    let is = dedup_is _ _ _ c.dedup.ensures.filtered in
    subst (λ ns. Stands n c.dedup.new.self.items ↔ Stands n ns) c.in_ok-numbers.ensures
    (once_in_order c.in_ok-numbers.numbers.items c.sort_unstable.new.self.items
    c.dedup.new.self.items c.sort_unstable.ensures.permutation is n)
