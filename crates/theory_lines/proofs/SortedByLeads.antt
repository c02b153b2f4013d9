-- The spanning places of a slab, sorted by the order of their lines just after its beginning and then
-- by place, are the order of the slab.

use Rattle.std.proofs.Common.{◌≡◌, ◌⊎◌, inl, inr, refl, ℕ, ◌<◌, Bool, true, false, List, IsPermutation}
use Rattle.theory_lists.specs.Members.{Stands, AllOfTwo}
use Rattle.theory_lists.proofs.Members.{stands_at, two_follow}
use Rattle.theory_lists.proofs.InAnyOrder.{stands_permuted}
use Rattle.theory_numbers.specs.Arrows.{Arrow}
use Rattle.theory_plane.specs.Leads.{leads}
use Rattle.theory_plane.proofs.LeadsUntilMeeting.{zero_if_none_leads}
use Rattle.sb_fraction.specs.Lines.{line_over}
use Rattle.sb_model.specs.Building.{Building}
use Rattle.sb_model.specs.PlanEdges.{plan_edges}
use Rattle.theory_parity.specs.Below.{IsWay}
use Rattle.theory_lines.specs.Slabs.{IsSlab, spanning_places, IsUnder, AreOnOneLine}
use Rattle.theory_lines.specs.Slabs.{IsUnderOver, IsSlabOrder, LeadsAt}
use Rattle.theory_lines.proofs.OneLiesBelow.{leads_is_under}
use Rattle.theory_lines.proofs.SlabOrderIsOne.{SpansAt, spans_at, before_by_edges}

module _ (m : Building) (d low high : Arrow) (d_is : IsWay d) (slab : IsSlab m d low high) where
  -- of two spanning places the one that comes first by the lines just after low comes first
  pub first_by_leads : (i j : ℕ) → Stands i (spanning_places (plan_edges m) d low high)
      → Stands j (spanning_places (plan_edges m) d low high) → LeadsAt (plan_edges m) d low i j
      → IsUnderOver (plan_edges m) d low high i j
  first_by_leads i j at_i at_j first =
      before_by_edges (plan_edges m) d low high i j p.edge q.edge p.there q.there
      (from (leads low (line_over d p.edge.edge) (line_over d q.edge.edge)) refl
      (first p.edge q.edge p.there q.there))
    where
      p : SpansAt (plan_edges m) d low high i
      p = spans_at (plan_edges m) d low high i at_i

      q : SpansAt (plan_edges m) d low high j
      q = spans_at (plan_edges m) d low high j at_j

      from : (b : Bool) → leads low (line_over d p.edge.edge) (line_over d q.edge.edge) ≡ b
          → (leads low (line_over d p.edge.edge) (line_over d q.edge.edge) ≡ true)
          ⊎ ((leads low (line_over d q.edge.edge) (line_over d p.edge.edge) ≡ false) × (i < j))
          → IsUnder d low high p.edge.edge q.edge.edge
          ⊎ (AreOnOneLine d p.edge.edge q.edge.edge × (i < j))
      from true is _ =
          inl (leads_is_under m d low high d_is slab p.edge q.edge
          (stands_at (plan_edges m) i p.edge p.there) (stands_at (plan_edges m) j q.edge q.there)
          p.spans q.spans is)
      from false is (inl leading) =
          inl (leads_is_under m d low high d_is slab p.edge q.edge
          (stands_at (plan_edges m) i p.edge p.there) (stands_at (plan_edges m) j q.edge q.there)
          p.spans q.spans leading)
      from false is (inr neither) =
          inr (
            zero_if_none_leads low (line_over d p.edge.edge) (line_over d q.edge.edge) is neither.0
                slab.low_in,
            neither.1,
          )

  -- so the spanning places sorted in this way are the order of the slab
  pub sorted_is_slab_order : (order : List ℕ)
      → IsPermutation order (spanning_places (plan_edges m) d low high)
      → AllOfTwo (LeadsAt (plan_edges m) d low) order
      → IsSlabOrder (plan_edges m) d low high order
  sorted_is_slab_order order permuted sorted =
      record {
        spanning = permuted;
        ordered =
            two_follow (LeadsAt (plan_edges m) d low) (IsUnderOver (plan_edges m) d low high) order
            (λ i j at_i at_j first.
            first_by_leads i j
            (stands_permuted i order (spanning_places (plan_edges m) d low high) permuted at_i)
            (stands_permuted j order (spanning_places (plan_edges m) d low high) permuted at_j) first)
            sorted;
      }
