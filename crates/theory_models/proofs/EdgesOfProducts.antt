-- Among the plan edges of a model those with the number of a product are the edges of its own loops.

use Rattle.std.proofs.Common.{◌≡◌, inl, inr, refl, ap, ap₂, sym, ◌∙◌, subst, ℕ, ◌==◌, Bool}
use Rattle.std.proofs.Common.{true, false, ◌&&◌, IsTrue, List, [], ◌∷◌, ◌++◌, map, int_lt}
use Rattle.std.specs.List.{list_all, AllByRecursion}
use Rattle.std.proofs.lemmas.Bool.{and_parts, eq-eqb, ne_eqb}
use Rattle.theory_lists.specs.Members.{Stands, AllOfTwo}
use Rattle.theory_lists.specs.Parity.{differ, is_odd_number}
use Rattle.theory_lists.proofs.Members.{all_stands, all_follow}
use Rattle.theory_lists.proofs.Blocks.{all-append}
use Rattle.theory_lists.proofs.Parity.{is_odd_number-append, is_odd_number-map}
use Rattle.theory_lists.proofs.Parity.{is_odd_number-same, differ-false}
use Rattle.sb_fraction.specs.Edges.{Edge}
use Rattle.theory_plans.specs.LoopEdges.{edges_of}
use Rattle.theory_plans.proofs.Edges.EdgesOfPlans.{is_proper_edge, plan_edges_are_proper}
use Rattle.theory_plans.specs.Plans.{is_plan}
use Rattle.sb_model.specs.Solids.{Upright, is_upright, is_height}
use Rattle.sb_model.specs.Building.{Building, is_building}
use Rattle.sb_model.specs.PlanEdges.{Product, PlanEdge, edges_in, plan_edges, products_of}
use Rattle.theory_models.proofs.NumbersApart.{AreOther, numbers_are_apart, all_in_order}
use Rattle.theory_models.proofs.NumbersApart.{of_space, of_element, of_opening}

-- the edge is one of this product, and passes the test
abbrev pub is_own : ℕ → (Edge → Bool) → PlanEdge → Bool
is_own n test e = (e.product == n) && test e.edge

abbrev as_plan_edge : Product → Edge → PlanEdge
as_plan_edge p e = record { edge = e; product = p.number }

odd_of_none : (es : List Edge) → is_odd_number (λ e. false) es ≡ false
odd_of_none [] = refl
odd_of_none (e ∷ es) = odd_of_none es

-- no edge of another product is
of_other : (n : ℕ) (test : Edge → Bool) (p : Product) → (p.number ≡ n → ⊥)
    → is_odd_number (is_own n test) (map (as_plan_edge p) (edges_of p.prism.loops)) ≡ false
of_other n test p other =
    is_odd_number-map (is_own n test) (as_plan_edge p) (edges_of p.prism.loops)
    ∙ is_odd_number-same (λ e. (p.number == n) && test e) (λ e. false)
    (λ e. ap (λ b. b && test e) (ne_eqb p.number n other)) (edges_of p.prism.loops)
    ∙ odd_of_none (edges_of p.prism.loops)

none_of_others : (n : ℕ) (test : Edge → Bool) (ps : List Product)
    → AllByRecursion (λ p. p.number ≡ n → ⊥) ps → is_odd_number (is_own n test) (edges_in ps) ≡ false
none_of_others n test [] others = refl
none_of_others n test (p ∷ ps) others =
    is_odd_number-append (is_own n test) (map (as_plan_edge p) (edges_of p.prism.loops))
    (edges_in ps)
    ∙ ap₂ differ (of_other n test p others.0) (none_of_others n test ps others.1)

of_own : (p : Product) (test : Edge → Bool)
    → is_odd_number (is_own p.number test) (map (as_plan_edge p) (edges_of p.prism.loops))
    ≡ is_odd_number test (edges_of p.prism.loops)
of_own p test =
    is_odd_number-map (is_own p.number test) (as_plan_edge p) (edges_of p.prism.loops)
    ∙ is_odd_number-same (λ e. (p.number == p.number) && test e) test
    (λ e. ap (λ b. b && test e) (eq-eqb p.number p.number refl)) (edges_of p.prism.loops)

own_in : (test : Edge → Bool) (ps : List Product) → AllOfTwo AreOther ps → (p : Product)
    → Stands p ps
    → is_odd_number (is_own p.number test) (edges_in ps) ≡ is_odd_number test (edges_of p.prism.loops)
own_in test [] others p stands = absurd stands
own_in test (q ∷ ps) others p (inl same) =
    subst (λ (r : Product). is_odd_number (is_own r.number test) (edges_in (q ∷ ps))
    ≡ is_odd_number test (edges_of r.prism.loops)) (sym same)
    (is_odd_number-append (is_own q.number test) (map (as_plan_edge q) (edges_of q.prism.loops))
    (edges_in ps)
    ∙ ap₂ differ (of_own q test)
    (none_of_others q.number test ps (all_follow (λ r other back. other (sym back)) ps others.0))
    ∙ differ-false (is_odd_number test (edges_of q.prism.loops)))
own_in test (q ∷ ps) others p (inr later) =
    is_odd_number-append (is_own p.number test) (map (as_plan_edge q) (edges_of q.prism.loops))
    (edges_in ps)
    ∙ ap₂ differ none (own_in test ps others.1 p later)
  where
    none : is_odd_number (is_own p.number test) (map (as_plan_edge q) (edges_of q.prism.loops))
        ≡ false
    none = of_other p.number test q (all_stands (AreOther q) p ps others.0 later)

-- an odd number of the plan edges of a product pass a test exactly where an odd number of the edges
-- of its own loops do
pub own_edges : (m : Building) → IsTrue (is_building m) → (p : Product) → Stands p (products_of m)
    → (test : Edge → Bool)
    → is_odd_number (is_own p.number test) (plan_edges m)
    ≡ is_odd_number test (edges_of p.prism.loops)
own_edges m is p stands test = own_in test (products_of m) (numbers_are_apart m is) p stands

-- ---- what holds of all of them

solids_made : {X : Type 0} (made : X → Product) → ((x : X) → IsTrue (is_upright (made x).prism))
    → (xs : List X) → AllByRecursion (λ p. IsTrue (is_upright p.prism)) (map made xs)
solids_made made solid [] = tt
solids_made made solid (x ∷ xs) = (solid x, solids_made made solid xs)

-- the prism of each product of a model is a solid
pub products_are_solid : (m : Building)
    → AllByRecursion (λ p. IsTrue (is_upright p.prism)) (products_of m)
products_are_solid m =
    let IsSolid : Product → Type 0 = λ p. IsTrue (is_upright p.prism) in
    let spaces = map of_space m.spaces in
    let elements = map of_element m.elements in
    let openings = map of_opening m.openings in
    all_in_order IsSolid (spaces ++ elements ++ openings)
    (all-append IsSolid (spaces ++ elements) openings
    (all-append IsSolid spaces elements (solids_made of_space (λ s. s.is_solid) m.spaces)
    (solids_made of_element (λ e. e.is_solid) m.elements))
    (solids_made of_opening (λ o. o.is_solid) m.openings))

-- the loops of a solid are a plan
pub plan_of_solid : (s : Upright) → IsTrue (is_upright s) → IsTrue (is_plan s.loops)
plan_of_solid s solid =
    (and_parts (is_plan s.loops) (int_lt s.z0 s.z1)
    (and_parts (is_plan s.loops && int_lt s.z0 s.z1) (is_height s.z0)
    (and_parts (is_plan s.loops && int_lt s.z0 s.z1 && is_height s.z0) (is_height s.z1) solid).0).0).0

edges_of_one : (p : Product) (es : List Edge) → list_all is_proper_edge es ≡ true
    → AllByRecursion (λ e. is_proper_edge e.edge ≡ true) (map (as_plan_edge p) es)
edges_of_one p [] all = tt
edges_of_one p (e ∷ es) all =
    let parts = and_parts (is_proper_edge e) (list_all is_proper_edge es) all in
    (parts.0, edges_of_one p es parts.1)

edges_of_all : (ps : List Product) → AllByRecursion (λ p. IsTrue (is_upright p.prism)) ps
    → AllByRecursion (λ e. is_proper_edge e.edge ≡ true) (edges_in ps)
edges_of_all [] all = tt
edges_of_all (p ∷ ps) all =
    all-append (λ e. is_proper_edge e.edge ≡ true) (map (as_plan_edge p) (edges_of p.prism.loops))
    (edges_in ps)
    (edges_of_one p (edges_of p.prism.loops)
    (plan_edges_are_proper p.prism.loops (plan_of_solid p.prism all.0)))
    (edges_of_all ps all.1)

-- each plan edge of a model runs between two points in range that differ
pub model_edges_are_proper : (m : Building)
    → AllByRecursion (λ e. is_proper_edge e.edge ≡ true) (plan_edges m)
model_edges_are_proper m = edges_of_all (products_of m) (products_are_solid m)
