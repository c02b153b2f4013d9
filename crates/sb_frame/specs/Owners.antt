-- The products of a model that are still to be gone through, in three lists by rising numbers.

use Rattle.std.specs.Prelude.{◌≡◌, ◌<◌, ℕ, Bool, true, false, ◌&&◌, nat_le, List, [], ◌∷◌, ◌++◌, map}
use Rattle.std.specs.Prelude.{Option, Some, None, if◌then◌else◌, IsTrue, length}
use Rattle.theory_plans.specs.Plans.{is_plan}
use Rattle.theory_lists.specs.Members.{AllOfTwo}
use Rattle.sb_fraction.specs.Edges.{Edge, is_in_range, has_length}
use Rattle.theory_plans.specs.LoopEdges.{edges_of}
use Rattle.sb_model.specs.declared.products.Space.{Space}
use Rattle.sb_model.specs.declared.products.Element.{Element}
use Rattle.sb_model.specs.declared.products.Opening.{Opening}
use Rattle.sb_model.specs.PlanEdges.{Product, product, PlanEdge, edges_in, in_order}
use Rattle.sb_frame.specs.declared.owners.Kind.{Kind}
use Rattle.sb_frame.specs.declared.owners.Owner.{Owner}
use Rattle.sb_frame.specs.declared.owners.Kind.TheVariants as kind

-- three lists of products
pub record Queues : Type 0 where
  pub spaces : List Space
  pub elements : List Element
  pub openings : List Opening

abbrev pub queues : List Space → List Element → List Opening → Queues
queues spaces elements openings =
    record { spaces = spaces; elements = elements; openings = openings }

-- in each list the numbers rise
pub record AreRising (q : Queues) : Type 0 where
  pub spaces : AllOfTwo (λ s t. s.number < t.number) q.spaces
  pub elements : AllOfTwo (λ s t. s.number < t.number) q.elements
  pub openings : AllOfTwo (λ s t. s.number < t.number) q.openings

-- the products of three lists, in the order in which a model names them
abbrev pub products_in : Queues → List Product
products_in q =
    map (λ s. product s.number s.prism) q.spaces
    ++ map (λ e. product e.number e.prism) q.elements
    ++ map (λ o. product o.number o.prism) q.openings

-- an edge runs between two points in range that differ
abbrev pub is_proper_edge : Edge → Bool
is_proper_edge e = is_in_range e && has_length e

-- an edge of the product with this number
abbrev pub edge_in : ℕ → Edge → PlanEdge
edge_in number e = record { edge = e; product = number }

-- the plan edges of a product
abbrev pub own_edges : Owner → List PlanEdge
own_edges o = map (edge_in o.number) (edges_of o.loops.now)

-- the product that comes first was taken out
pub record IsTaken (o : Owner) (old new : Queues) : Type 0 where
  pub edges : edges_in (in_order (products_in old)) ≡ own_edges o ++ edges_in (in_order (products_in new))
  pub shorter : length (products_in new) < length (products_in old)
  pub plan : IsTrue (is_plan o.loops.now)

-- the number of the first item
abbrev pub head_of : {X : Type 0} → (X → ℕ) → List X → Option ℕ
head_of number [] = None
head_of number (x ∷ xs) = Some (number x)

-- the first number is at most the second; what is not there comes last
abbrev pub is_up_to : Option ℕ → Option ℕ → Bool
is_up_to (Some m) (Some n) = nat_le m n
is_up_to (Some m) None = true
is_up_to None (Some n) = false
is_up_to None None = true

-- which list has the least number, by the first of each
abbrev pub kind_of : Option ℕ → Option ℕ → Option ℕ → Kind
kind_of space element opening =
    if is_up_to space element && is_up_to space opening then kind.Space
    else (if is_up_to element opening then kind.Element else kind.Opening)

abbrev pub first_of : Queues → Kind
first_of q =
    kind_of (head_of (λ s. s.number) q.spaces) (head_of (λ e. e.number) q.elements)
    (head_of (λ o. o.number) q.openings)
