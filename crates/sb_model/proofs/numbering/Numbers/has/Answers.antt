use Rattle.std.proofs.Common.{◌∙◌, subst}
use Rattle.std.specs.Ordering.{nat_cmp}
use Rattle.std.specs.List.Sorted.{IsBinarySearchResult}
use Rattle.sb_model.specs.Numbering.{Rises}
use Rattle.sb_model.proofs.NumbersInOrder.{has-by-search}
use Rattle.sb_model.proofs.numbering.Numbers.has.Goals as goal

pub returns : goal.returns
returns c =
    c.is_ok.ensures.value
    ∙ has-by-search c.args.self.now c.args.n c.binary_search.result
    (subst (λ xs. IsBinarySearchResult (λ k. nat_cmp k c.args.n) xs c.binary_search.result)
    (c.deref.ensures.value ∙ c.self.view_is) c.binary_search.ensures.position)
    (subst Rises c.self.view_is c.self.invariant)
