-- The law of joined cells, for each model.
use Rattle.std.proofs.Common.{sym, ◌∙◌, subst, List, IsPermutation, reverse}
use Rattle.std.proofs.lemmas.List.Sorted.{IsPermutation-map, IsPermutation-reverse}
use Rattle.std.proofs.lemmas.List.Sorted.{IsPermutation-sym, IsPermutation-trans}
use Rattle.theory_faces.specs.Strips.{Strip, strip_of, strips_of}
use Rattle.theory_faces.specs.Joinable.{AreJoined}
use Rattle.theory_faces.proofs.JoinedCells.{has_joined_cells}
use Rattle.sb_join.specs.Listing.{AreListed}
use Rattle.sb_join.proofs.Stacked.{if_ok}
use Rattle.sb_join.proofs.joiner.Joiner.finish.Goals as goal

pub returns-clause-joined : goal.returns-clause-joined
returns-clause-joined c m d calls is taken joinable =
    let sorted = c.sort_runs.new.runs.items in
    let stack = c.in_ok-patches.patches.items in
    let patches = c.sort_patches.new.patches.items in
    if_ok _ (AreJoined m calls)
    (λ answer listed.
    has_joined_cells m d calls (strips_of sorted) answer is joinable
    (subst (λ (runs : List Strip). IsPermutation runs (strips_of sorted))
    (c.self.view_is ∙ taken)
    (IsPermutation-map strip_of c.self.inside.runs.items sorted c.sort_runs.ensures.permutation))
    c.sort_runs.ensures.in_order
    (subst (λ (ps : List Strip). IsPermutation ps (strips_of answer)) c.in_ok-patches.ensures
    (subst (λ (ps : List Strip). IsPermutation (strips_of (reverse stack)) ps) (sym listed)
    (IsPermutation-map strip_of (reverse stack) patches
    (IsPermutation-trans (reverse stack) stack patches
    (IsPermutation-sym stack (reverse stack) (IsPermutation-reverse stack))
    c.sort_patches.ensures.permutation)))))
    c.listed.result c.listed.ensures.patches

pub returns-clause-listed : goal.returns-clause-listed
returns-clause-listed c =
    if_ok _ (λ answer. AreListed (strips_of answer))
    (λ answer listed.
    subst (λ (ps : List Strip). AreListed ps) (sym listed) c.sort_patches.ensures.in_order)
    c.listed.result c.listed.ensures.patches
