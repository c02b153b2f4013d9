-- The edges that reach, sorted as a table.
use Rattle.std.proofs.Common.{◌∙◌, sym, ap, slice_get}
use Rattle.sb_fraction.specs.Lines.{arrow_along}
use Rattle.sb_fraction.specs.Numbers.{number}
use Rattle.sb_slab.proofs.SortedPlaces.{reaching_is_table, if_sorted, none_sorted}
use Rattle.sb_slab.proofs.sorting.order_past.Goals as goal

pub invariant_of-table : goal.invariant_of-table
invariant_of-table g c =
    reaching_is_table c.args.d c.args.at c.args.edges.now.edges c.in-Some.first
    c.in_ok-list.list.items c.requires c.in_ok-list.ensures
    (ap (λ list. slice_get list 0) (sym c.as_slice.ensures.value) ∙ sym c.in-Some.ensures)

pub returns-in-Some : goal.returns-in-Some
returns-in-Some g c =
    if_sorted c.args.edges.now.edges c.args.d c.args.at c.in-Some.first
    c.in_ok-list.list.items c.in_ok-list.ensures c.sorted.result c.sorted.ensures

pub returns-in-None : goal.returns-in-None
returns-in-None g c =
    none_sorted c.args.edges.now.edges (arrow_along c.args.d) (number c.args.at)
    c.in_ok-list.list.items c.new.result c.in_ok-list.ensures
    (ap (λ list. slice_get list 0) (sym c.as_slice.ensures.value) ∙ sym c.in-None.ensures)
    c.new.ensures
