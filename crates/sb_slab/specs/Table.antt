-- Edges over which a line stands, and how two of them are compared.

use Rattle.std.specs.Prelude.{ℕ, Bool, ◌&&◌, List, ◌∷◌, slice_index_or, map}
use Rattle.std.specs.List.{list_all}
use Rattle.std.specs.declared.cmp.Ordering.{Ordering}
use Rattle.std.specs.Ordering.{then_cmp, on, nat_cmp}
use Rattle.theory_numbers.specs.Fractions.{Ratio}
use Rattle.theory_plane.specs.Sides.{LineSide}
use Rattle.theory_plane.specs.Leads.{order_past}
use Rattle.sb_fraction.specs.declared.direction.Direction.{Direction}
use Rattle.sb_fraction.specs.Bounds.{is_abscissa_size}
use Rattle.sb_fraction.specs.Numbers.{number}
use Rattle.sb_fraction.specs.Orders.{line_of, is_over}
use Rattle.sb_slab.specs.declared.item.Reaching.{Reaching}

-- a direction, an abscissa, and edges, with one of them for any place that is none
pub record Lines : Type 0 where
  pub direction : Direction
  pub at : Ratio
  pub first : Reaching
  pub edges : List Reaching

abbrev pub lines : Direction → Ratio → Reaching → List Reaching → Lines
lines direction at first edges =
    record { direction = direction; at = at; first = first; edges = edges }

-- each edge reaches past the abscissa
abbrev pub is_table : Lines → Bool
is_table t =
    is_abscissa_size t.at && list_all (λ r. is_over t.direction r.segment t.at) (t.first ∷ t.edges)

-- the edge at a place
abbrev pub item_at : Lines → ℕ → Reaching
item_at t i = slice_index_or t.edges i t.first

-- the line of the edge at a place
abbrev pub line_at : Lines → ℕ → LineSide
line_at t i = line_of t.direction (item_at t i).segment

-- the order of two edges just after the abscissa, and on one line by their places
abbrev pub order_of_two : Lines → ℕ → ℕ → Ordering
order_of_two t =
    then_cmp (on (line_at t) (order_past (number t.at))) (on (λ i. (item_at t i).place) nat_cmp)

-- the places of these edges
abbrev pub places_of : Lines → List ℕ → List ℕ
places_of t = map (λ i. (item_at t i).place)
