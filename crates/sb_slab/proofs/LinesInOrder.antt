-- The order of lines just after a number, and then of places, is an order; so a sort by it puts the edges of
-- a table in order.

use Rattle.std.proofs.Common.{◌≡◌, refl, sym, ◌∙◌, Bool, true, false, IsTrue}
use Rattle.std.proofs.Common.{if◌then◌else◌}
use Rattle.std.specs.Cmp.{IsTotalOrder}
use Rattle.std.specs.declared.cmp.Ordering.{Ordering}
use Rattle.std.specs.declared.cmp.Ordering.TheVariants.{Less, Equal, Greater}
use Rattle.std.specs.Ordering.{ordering_reverse}
use Rattle.std.proofs.lemmas.Bool.{false≢true}
use Rattle.std.proofs.lemmas.Cmp.{then_total, on_total, nat_cmp_total}
use Rattle.theory_numbers.specs.Arrows.{Arrow}
use Rattle.theory_plane.specs.Sides.{LineSide, IsLineSide}
use Rattle.theory_plane.specs.Leads.{leads, order_past}
use Rattle.theory_plane.proofs.LeadsIsAnOrder.{leads_one_way, leads_chain}
use Rattle.theory_parity.proofs.Rays.BelowFlips.{reaching_is_line}
use Rattle.sb_fraction.specs.Edges.{edge_of}
use Rattle.sb_fraction.specs.Lines.{arrow_along}
use Rattle.sb_fraction.specs.Numbers.{number}
use Rattle.sb_slab.specs.Table.{Lines, is_table, item_at, line_at, order_of_two}
use Rattle.sb_slab.proofs.TableIsOver.{item_is_over}

-- the order by the two answers
abbrev by_answers : Bool → Bool → Ordering
by_answers first second = if first then Less else (if second then Greater else Equal)

less_from : (a b : Bool) → by_answers a b ≡ Less → a ≡ true
less_from true b is = refl
less_from false true is = absurd cc
less_from false false is = absurd cc

equal_from : (a b : Bool) → by_answers a b ≡ Equal → (a ≡ false) × (b ≡ false)
equal_from true b is = absurd cc
equal_from false true is = absurd cc
equal_from false false is = (refl, refl)

module _ {X : Type 0} (side : X → LineSide) (u : Arrow) (are : (x : X) → IsLineSide (side x)) where
  abbrev before : X → X → Bool
  before x y = leads u (side x) (side y)

  one_way : (x y : X) → before x y ≡ true → before y x ≡ false
  one_way x y = leads_one_way u (side x) (side y)

  chain : (x y z : X) → before x y ≡ false → before y z ≡ false → before x z ≡ false
  chain x y z = leads_chain u (side x) (side y) (side z) (are x) (are y) (are z)

  turned : (a b : Bool) → (a ≡ true → b ≡ false) → by_answers a b ≡ ordering_reverse (by_answers b a)
  turned true true apart = absurd (false≢true (sym (apart refl)))
  turned true false apart = refl
  turned false true apart = refl
  turned false false apart = refl

  -- what comes before the one comes before what is behind it
  through : (x y z : X) → before x y ≡ true → before y z ≡ true → before x z ≡ true
  through x y z first second = from (before x z) refl
    where
      from : (b : Bool) → before x z ≡ b → before x z ≡ true
      from true is = is
      from false is =
          absurd
          (false≢true
          (sym (chain x z y is (one_way y z second)) ∙ first))

  less_through : (x y z : X) → by_answers (before x y) (before y x) ≡ Less
      → by_answers (before y z) (before z y) ≡ Less → by_answers (before x z) (before z x) ≡ Less
  less_through x y z first second =
      rw (through x y z (less_from (before x y) (before y x) first)
      (less_from (before y z) (before z y) second)) refl

  same_bits : (a b : Bool) → (a ≡ false → b ≡ false) → (b ≡ false → a ≡ false) → a ≡ b
  same_bits true true to back = refl
  same_bits true false to back = absurd (false≢true (sym (back refl)))
  same_bits false true to back = absurd (false≢true (sym (to refl)))
  same_bits false false to back = refl

  alike : (x y z : X) → by_answers (before x y) (before y x) ≡ Equal
      → by_answers (before x z) (before z x) ≡ by_answers (before y z) (before z y)
  alike x y z equal =
      let neither = equal_from (before x y) (before y x) equal in
      let first = same_bits (before x z) (before y z) (chain y x z neither.1) (chain x y z neither.0) in
      let second = same_bits (before z x) (before z y) (λ is. chain z x y is neither.0)
      (λ is. chain z y x is neither.1) in
      rw (first, second) refl

  -- the order of lines just after u
  pub lines_total : IsTotalOrder (λ x y. order_past u (side x) (side y))
  lines_total =
      record {
        antisymm = λ x y. turned (before x y) (before y x) (one_way x y);
        trans = less_through;
        congr = alike;
      }

-- the order of the edges of a table
pub table_total : (t : Lines) → IsTrue (is_table t) → IsTotalOrder (order_of_two t)
table_total t is =
    then_total
    (lines_total (line_at t) (number t.at)
    (λ i.
    reaching_is_line (arrow_along t.direction) (number t.at) (edge_of (item_at t i).segment)
    (item_is_over t i is)))
    (on_total (λ i. (item_at t i).place) nat_cmp_total)
