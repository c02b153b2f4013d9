-- Edge after edge those that reach past a number, by their places.

use Rattle.std.proofs.Common.{◌≡◌, refl, sym, ap, ◌∙◌, subst, arith, ℕ, zero, suc, ◌≤◌, ◌+◌}
use Rattle.std.proofs.Common.{Bool, true, false, List, [], ◌∷◌, ◌++◌, map, length, drop, slice_get, Some}
use Rattle.std.proofs.Common.{add-one, if◌then◌else◌, append_assoc}
use Rattle.std.specs.List.{AllByRecursion}
use Rattle.std.specs.Option.{option_map}
use Rattle.std.proofs.lemmas.List.{map-append}
use Rattle.theory_lists.proofs.Blocks.{all-append}
use Rattle.theory_numbers.specs.Arrows.{Arrow}
use Rattle.sb_fraction.specs.Edges.{edge_of}
use Rattle.sb_fraction.specs.Lines.{reaches_past}
use Rattle.sb_model.specs.PlanEdges.{PlanEdge}
use Rattle.theory_lines.specs.Slabs.{places_from}
use Rattle.sb_slab.specs.declared.item.Reaching.{Reaching}
use Rattle.sb_slab.specs.Reaching.{IsAtPlace, AreReaching}

-- those among the first n
pub record ReachingTo (d u : Arrow) (edges : List PlanEdge) (n : ℕ) (list : List Reaching)
    : Type 0 where
  pub places : map (λ r. r.place) list ++ places_from (λ e. reaches_past d u e.edge) n (drop n edges)
      ≡ places_from (λ e. reaches_past d u e.edge) 0 edges
  pub segments : AllByRecursion (IsAtPlace edges) list
  pub reach : AllByRecursion (λ r. reaches_past d u (edge_of r.segment) ≡ true) list

pub none_so_far : (d u : Arrow) (edges : List PlanEdge) → ReachingTo d u edges 0 []
none_so_far d u edges = record { places = refl; segments = tt; reach = tt }

drop_one : (edges : List PlanEdge) (n : ℕ) (e : PlanEdge) → slice_get edges n ≡ Some e
    → drop n edges ≡ e ∷ drop (suc n) edges
drop_one [] zero e at = absurd cc
drop_one [] (suc n) e at = absurd cc
drop_one (f ∷ edges) zero e at = let same : f ≡ e = cc in ap (λ g. g ∷ edges) same
drop_one (f ∷ edges) (suc n) e at = drop_one edges n e at

module _ (d u : Arrow) (edges : List PlanEdge) (n : ℕ) (list : List Reaching) (e : PlanEdge)
    (before : ReachingTo d u edges n list) (at : slice_get edges n ≡ Some e) where
  abbrev test : PlanEdge → Bool
  test f = reaches_past d u f.edge

  left : places_from test n (drop n edges)
      ≡ (if test e then n ∷ places_from test (suc n) (drop (suc n) edges)
      else places_from test (suc n) (drop (suc n) edges))
  left = ap (places_from test n) (drop_one edges n e at)

  -- an edge that does not reach is passed over
  pub passed_over : test e ≡ false → ReachingTo d u edges (n + 1) list
  passed_over fails =
      subst (λ k. ReachingTo d u edges k list) (sym (add-one n))
      (record {
        places =
            ap (λ ns. map (λ r. r.place) list ++ ns)
            (sym
            (left
            ∙ ap (λ b. if b then n ∷ places_from test (suc n) (drop (suc n) edges)
            else places_from test (suc n) (drop (suc n) edges)) fails))
            ∙ before.places;
        segments = before.segments;
        reach = before.reach;
      })

  -- one that does is put behind
  pub put_behind : (r : Reaching) → r.place ≡ n → edge_of r.segment ≡ e.edge → test e ≡ true
      → ReachingTo d u edges (n + 1) (list ++ r ∷ [])
  put_behind r placed same passes =
      subst (λ k. ReachingTo d u edges k (list ++ r ∷ [])) (sym (add-one n))
      (record {
        places =
            ap (λ ns. ns ++ places_from test (suc n) (drop (suc n) edges))
            (map-append (λ (q : Reaching). q.place) list (r ∷ []))
            ∙ append_assoc (map (λ (q : Reaching). q.place) list) (r.place ∷ [])
            (places_from test (suc n) (drop (suc n) edges))
            ∙ ap (λ k. map (λ (q : Reaching). q.place) list
            ++ k ∷ places_from test (suc n) (drop (suc n) edges)) placed
            ∙ ap (λ ns. map (λ (q : Reaching). q.place) list ++ ns)
            (sym
            (left
            ∙ ap (λ b. if b then n ∷ places_from test (suc n) (drop (suc n) edges)
            else places_from test (suc n) (drop (suc n) edges)) passes))
            ∙ before.places;
        segments =
            all-append (IsAtPlace edges) list (r ∷ []) before.segments (
              ap (λ k. option_map (λ (f : PlanEdge). f.edge) (slice_get edges k)) placed
                  ∙ ap (option_map (λ (f : PlanEdge). f.edge)) at ∙ ap Some (sym same),
              tt,
            );
        reach =
            all-append (λ q. reaches_past d u (edge_of q.segment) ≡ true) list (r ∷ []) before.reach
            (ap (reaches_past d u) same ∙ passes, tt);
      })

dropped_all : (edges : List PlanEdge) (n : ℕ) → length edges ≤ n → drop n edges ≡ []
dropped_all [] zero within = refl
dropped_all [] (suc n) within = refl
dropped_all (e ∷ edges) zero within = absurd (omega arith)
dropped_all (e ∷ edges) (suc n) within = dropped_all edges n (omega arith)

append_nil : {X : Type 0} (xs : List X) → xs ++ [] ≡ xs
append_nil [] = refl
append_nil (x ∷ xs) = ap (λ ys. x ∷ ys) (append_nil xs)

-- at the end they are all
pub all_so_far : (d u : Arrow) (edges : List PlanEdge) (n : ℕ) (list : List Reaching)
    → length edges ≤ n → ReachingTo d u edges n list → AreReaching d u edges list
all_so_far d u edges n list within before =
    record {
      places =
          sym (append_nil (map (λ (r : Reaching). r.place) list))
          ∙ ap (λ es. map (λ (r : Reaching). r.place) list
          ++ places_from (λ e. reaches_past d u e.edge) n es) (sym (dropped_all edges n within))
          ∙ before.places;
      segments = before.segments;
      reach = before.reach;
    }
