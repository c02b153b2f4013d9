use Rattle.std.proofs.Common.{Some, slice_get, option_map, sym, ap, ◌∙◌}
use Rattle.sb_schema.proofs.ItemsGiveLists.{no_typed_list, typed_list, typed_gives}
use Rattle.sb_schema.proofs.lists.TypedListItemTypedIntegers.first.Goals as goal

pub returns-in_default-clause-value : goal.returns-in_default-clause-value
returns-in_default-clause-value c =
    sym (no_typed_list (slice_get c.args.items.now 0) (c.typed.ensures.none.0 c.in_default.is))

pub returns-in_default-2-clause-value : goal.returns-in_default-2-clause-value
returns-in_default-2-clause-value c =
    sym (typed_gives (slice_get c.args.items.now 0) c.in-Some.typed.keyword.now c.in-Some.typed.inner
    c.in-Some.ensures.some
    ∙ ap (option_map (typed_list c.in-Some.typed.keyword.now))
    (sym c.in_ok-list.ensures.value ∙ c.in_default-2.is))

pub returns-clause-value : goal.returns-clause-value
returns-clause-value c =
    ap (λ keyword. Some (typed_list keyword c.in-Some-2.list)) c.in_ok-keyword.ensures
    ∙ sym (typed_gives (slice_get c.args.items.now 0) c.in-Some.typed.keyword.now c.in-Some.typed.inner
    c.in-Some.ensures.some
    ∙ ap (option_map (typed_list c.in-Some.typed.keyword.now))
    (sym c.in_ok-list.ensures.value ∙ c.in-Some-2.is))
