-- The abscissae that are left begin at the next place.
use Rattle.std.proofs.Common.{◌≡◌, ◌∙◌, ◌+◌, sym, ap, arith, slice_get, Some, IsTrue, ◌&&◌}
use Rattle.sb_fraction.specs.Bounds.{is_abscissa_size, is_fraction}
use Rattle.sb_fraction.specs.Numbers.{number}
use Rattle.sb_slab.proofs.NextSlab.{some_weaker, some_from_three, left_from_kept, size_of_next}
use Rattle.sb_slab.proofs.NextSlab.{ends_are}
use Rattle.sb_slab.specs.Slabs.{are_ends}
use Rattle.sb_slab.proofs.orders.SlabOrders.next_ends.Goals as goal

pub returns-clause-low : goal.returns-clause-low
returns-clause-low c =
    some_weaker c.ends_from.result
    (λ ends. slice_get c.as_slice.result.now c.self.inside.next ≡ Some ends.low)
    (λ ends. slice_get c.args.self.now.left 0 ≡ Some (number ends.low))
    (λ ends at.
    left_from_kept c.args.self.now c.self.inside.abscissae c.self.inside.next 0 c.self.inside.next
    ends.low (ap (λ s. s.left) c.self.view_is) (omega arith)
    (ap (λ list. slice_get list c.self.inside.next) (sym c.as_slice.ensures) ∙ at))
    c.ends_from.ensures.low

pub returns-clause-high : goal.returns-clause-high
returns-clause-high c =
    some_weaker c.ends_from.result
    (λ ends. slice_get c.as_slice.result.now (c.self.inside.next + 1) ≡ Some ends.high)
    (λ ends. slice_get c.args.self.now.left 1 ≡ Some (number ends.high))
    (λ ends at.
    left_from_kept c.args.self.now c.self.inside.abscissae c.self.inside.next 1
    (c.self.inside.next + 1) ends.high (ap (λ s. s.left) c.self.view_is) (omega arith)
    (ap (λ list. slice_get list (c.self.inside.next + 1)) (sym c.as_slice.ensures) ∙ at))
    c.ends_from.ensures.high

pub returns-clause-size : goal.returns-clause-size
returns-clause-size c =
    some_weaker c.ends_from.result
    (λ ends. slice_get c.as_slice.result.now c.self.inside.next ≡ Some ends.low)
    (λ ends. IsTrue (is_abscissa_size ends.low))
    (λ ends at.
    size_of_next c.self.inside.abscissae c.self.inside.next ends.low c.self.invariant
    (ap (λ list. slice_get list c.self.inside.next) (sym c.as_slice.ensures) ∙ at))
    c.ends_from.ensures.low

pub returns-clause-ends : goal.returns-clause-ends
returns-clause-ends c =
    some_from_three c.ends_from.result
    (λ ends. slice_get c.as_slice.result.now c.self.inside.next ≡ Some ends.low)
    (λ ends. slice_get c.as_slice.result.now (c.self.inside.next + 1) ≡ Some ends.high)
    (λ ends. IsTrue (is_fraction ends.low && is_fraction ends.high))
    (λ ends. IsTrue (are_ends ends.low ends.high))
    (λ ends low_at high_at lowest.
    ends_are c.self.inside.abscissae c.self.inside.next (c.self.inside.next + 1) c.self.inside.next
    ends.low ends.high c.self.invariant
    (ap (λ list. slice_get list c.self.inside.next) (sym c.as_slice.ensures) ∙ low_at)
    (ap (λ list. slice_get list (c.self.inside.next + 1)) (sym c.as_slice.ensures) ∙ high_at) lowest)
    c.ends_from.ensures.low c.ends_from.ensures.high c.ends_from.ensures.lowest
