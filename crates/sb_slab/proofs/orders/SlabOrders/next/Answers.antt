-- The edges that reach past the next abscissa, sorted just after it, are the order of the slab.
use Rattle.std.proofs.Common.{ap, subst}
use Rattle.theory_parity.specs.Below.{IsWay}
use Rattle.sb_fraction.specs.Numbers.{number}
use Rattle.sb_slab.specs.Slabs.{SlabsLeft, slabs_left}
use Rattle.sb_slab.specs.Sorted.{IsSortedAt}
use Rattle.sb_slab.proofs.NextSlab.{next_slab, one_less_left, direction_is_way}
use Rattle.sb_slab.proofs.orders.SlabOrders.next.Goals as goal

pub returns-clause-slab : goal.returns-clause-slab
returns-clause-slab g c m d passed has =
    next_slab m d passed c.args.self.now
    (slabs_left c.self.inside.edges.now c.self.inside.direction c.self.inside.abscissae
    c.following-self-inside.result)
    (record {
      direction = c.self.inside.direction;
      low = c.in-Some.ends.low;
      high = c.in-Some.ends.high;
      order = c.in_ok-order.order;
    })
    has c.in-Some.ensures.low c.in-Some.ensures.high
    (subst (λ (s : SlabsLeft). IsWay s.direction) c.self.view_is
    (direction_is_way c.self.inside.direction))
    (ap (λ s. s.edges) c.self.view_is) (ap (λ s. s.direction) c.self.view_is)
    (one_less_left c.args.self.now c.self.inside.abscissae c.self.inside.next c.len.result
    c.following-self-inside.result (number c.in-Some.ends.high) (ap (λ s. s.left) c.self.view_is)
    c.len.ensures c.following-self-inside.ensures c.in-Some.ensures.high)
    (ap (λ s. s.direction) c.self.view_is)
    (subst
    (λ (s : SlabsLeft).
    IsSortedAt s.edges s.direction (number c.in-Some.ends.low) c.in_ok-order.order) c.self.view_is
    c.in_ok-order.ensures)
