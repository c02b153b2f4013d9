-- The crossings of the plan edges of a model, as found, are the crossings of the model, each once; and where
-- too many were found the model has too many.

use Rattle.std.proofs.Common.{◌≡◌, inl, inr, refl, sym, ap, ◌∙◌, subst, arith, ◌<◌, ◌≤◌, ℕ, true, List}
use Rattle.std.proofs.Common.{[], ◌∷◌, map, length}
use Rattle.std.proofs.Common.{IsTrue}
use Rattle.std.proofs.lemmas.Bool.{and_from}
use Rattle.std.specs.List.{list_any, list_all, AllByRecursion}
use Rattle.sb_fraction.specs.Bounds.{is_crossing_size}
use Rattle.theory_lists.specs.Members.{Stands, AllOfTwo}
use Rattle.theory_lists.proofs.Members.{all_stands, all_that_stand, any_stands, one_of_any}
use Rattle.sb_fraction.specs.declared.point.HPoint.{HPoint}
use Rattle.sb_fraction.specs.Spots.{Spot, IsSpot, spot_of}
use Rattle.sb_fraction.specs.Edges.{edge_of}
use Rattle.sb_fraction.specs.Crossings.{cross_at}
use Rattle.sb_fraction.specs.Meetings.{IsSamePoint}
use Rattle.sb_model.specs.Building.{Building}
use Rattle.sb_model.specs.PlanEdges.{PlanEdge, plan_edges, is_crossing}
use Rattle.sb_frame.specs.declared.crossing.Crossing.{Crossing}
use Rattle.sb_frame.specs.declared.edge.PlanEdge.{PlanEdge as GivenEdge}
use Rattle.sb_frame.specs.Network.{plan_edge_of, plan_edges_of, spots_of, network, IsNetwork}
use Rattle.std.proofs.Common.{Option, Some, IfSome, IfNone}
use Rattle.sb_frame.specs.Network.{Network, product_beyond}
use Rattle.std.proofs.Common.{zero, suc, None}
use Rattle.std.proofs.lemmas.Option.{none-some}
use Rattle.sb_frame.specs.Network.{AreCrossings, AreSomeCrossings, HasMoreCrossings, most_crossings}
use Rattle.sb_frame.specs.Found.{TwoCross, AreSome, AreAll, IsFound}
use Rattle.sb_frame.specs.Through.{places_through}
use Rattle.sb_frame.proofs.Orders.AsManyAtMost.{as_many_at_most}
use Rattle.sb_frame.proofs.Meetings.PointsOnce.{point_is, ascending_are_once, same_point_sym}
use Rattle.sb_frame.proofs.Meetings.PointsOnce.{same_point_trans}
use Rattle.sb_frame.proofs.Along.AbscissaeAre.{made_from, made_stands}

-- the points of crossings
abbrev pub points_of : List Crossing → List HPoint
points_of = map (λ c. c.point)

-- ---- points, one by one

of_each : (P : Spot → Type 0) (list : List Crossing)
    → ((c : Crossing) → Stands c list → P (spot_of c.point))
    → AllByRecursion P (spots_of (points_of list))
of_each P [] each = tt
of_each P (c ∷ list) each = (each c (inl refl), of_each P list (λ d at. each d (inr at)))

of_each_two : (R : Spot → Spot → Type 0) (list : List Crossing)
    → AllOfTwo (λ c d. R (spot_of c.point) (spot_of d.point)) list
    → AllOfTwo R (spots_of (points_of list))
of_each_two R [] two = tt
of_each_two R (c ∷ list) two = (images list two.0, of_each_two R list two.1)
  where
    images : (ds : List Crossing) → AllByRecursion (λ d. R (spot_of c.point) (spot_of d.point)) ds
        → AllByRecursion (R (spot_of c.point)) (spots_of (points_of ds))
    images [] each = tt
    images (d ∷ ds) each = (each.0, images ds each.1)

pub as_many : (list : List Crossing) → length (spots_of (points_of list)) ≡ length list
as_many [] = refl
as_many (c ∷ list) = let rest = as_many list in omega arith

pub sizes_fit : (list : List Crossing)
    → IsTrue (list_all is_crossing_size (spots_of (points_of list)))
sizes_fit [] = refl
sizes_fit (c ∷ list) =
    and_from (is_crossing_size (spot_of c.point))
    (list_all is_crossing_size (spots_of (points_of list))) c.size (sizes_fit list)

module _ (m : Building) (edges : List GivenEdge) (are : plan_edges_of edges ≡ plan_edges m) where
  stands_in_model : (e : GivenEdge) → Stands e edges → Stands (plan_edge_of e) (plan_edges m)
  stands_in_model e at = subst (Stands (plan_edge_of e)) are (made_stands plan_edge_of e edges at)

  -- two of the edges cross at a crossing of the model
  crossing_of_two : (p : Spot) → TwoCross edges p → is_crossing m p ≡ true
  crossing_of_two p (e, (e_in, (f, (f_in, crosses)))) =
      any_stands (λ g. list_any (λ h. cross_at p g.edge h.edge) (plan_edges m)) (plan_edge_of e)
      (plan_edges m) (stands_in_model e e_in)
      (any_stands (λ h. cross_at p (edge_of e.segment) h.edge) (plan_edge_of f) (plan_edges m)
      (stands_in_model f f_in) crosses)

  -- and at each crossing two do
  two_of_crossing : (p : Spot) → is_crossing m p ≡ true → TwoCross edges p
  two_of_crossing p is = with_first (one_of_any _ (plan_edges m) is)
    where
      given : (g : PlanEdge) → Stands g (plan_edges m)
          → (e : GivenEdge) × (Stands e edges × (g ≡ plan_edge_of e))
      given g at = made_from plan_edge_of g edges (subst (Stands g) (sym are) at)

      two : (g h : PlanEdge) → cross_at p g.edge h.edge ≡ true
          → (e : GivenEdge) × (Stands e edges × (g ≡ plan_edge_of e))
          → (f : GivenEdge) × (Stands f edges × (h ≡ plan_edge_of f)) → TwoCross edges p
      two g h crosses (e, (e_in, same)) (f, (f_in, same_f)) = (
        e,
        (
          e_in,
          (
            f,
            (
              f_in,
              subst (λ (k : PlanEdge). cross_at p k.edge (edge_of f.segment) ≡ true) same
                  (subst (λ (k : PlanEdge). cross_at p g.edge k.edge ≡ true) same_f crosses),
            ),
          ),
        ),
      )

      with_first : (g : PlanEdge)
          × (Stands g (plan_edges m)
          × (list_any (λ h. cross_at p g.edge h.edge) (plan_edges m) ≡ true)) → TwoCross edges p
      with_first (g, known) = with_second (one_of_any _ (plan_edges m) known.1)
        where
          with_second : (h : PlanEdge)
              × (Stands h (plan_edges m) × (cross_at p g.edge h.edge ≡ true)) → TwoCross edges p
          with_second (h, its) = two g h its.1 (given g known.0) (given h its.0)

  some_crossings : (list : List Crossing) → AreSome edges list
      → AreSomeCrossings m (spots_of (points_of list))
  some_crossings list some =
      record {
        spots = of_each IsSpot list (λ c at. point_is c);
        each =
            of_each (λ p. is_crossing m p ≡ true) list
            (λ c at.
            crossing_of_two (spot_of c.point)
            (all_stands (λ d. TwoCross edges (spot_of d.point)) c list some.each at));
        once =
            of_each_two (λ p q. IsSamePoint p q → ⊥) list (ascending_are_once list some.ascend);
      }

  -- all that were found are the network
  pub network_found : (list : List Crossing) → AreAll edges list
      → IsNetwork m (network (plan_edges_of edges) (spots_of (points_of list)))
  network_found list all =
      record {
        edges = are;
        crossings =
            record {
              some = some_crossings list all.some;
              all = λ p p_is one. there p (all.all p p_is (two_of_crossing p one));
            };
      }
    where
      there : (p : Spot) → IsFound list p
          → (q : Spot) × (Stands q (spots_of (points_of list)) × IsSamePoint p q)
      there p (c, known) = (
        spot_of c.point,
        (
          made_stands spot_of c.point (points_of list) (made_stands (λ d. d.point) c list known.0),
          known.1,
        ),
      )

  -- more than there may be were found
  pub more_found : (list : List Crossing) → AreSome edges list → most_crossings < length list
      → HasMoreCrossings m most_crossings
  more_found list some many = (
    spots_of (points_of list),
    (some_crossings list some, let same = as_many list in omega arith),
  )

-- the places for each crossing are those for its point
places_of_points : (f : Spot → List ℕ) (list : List Crossing)
    → map (λ c. f (spot_of c.point)) list ≡ map f (spots_of (points_of list))
places_of_points f [] = refl
places_of_points f (c ∷ list) = ap (λ ps. f (spot_of c.point) ∷ ps) (places_of_points f list)

pub places_kept : (edges given : List GivenEdge) (list found : List Crossing) (points : List HPoint)
    (places : List (List ℕ)) → given ≡ edges → found ≡ list → points ≡ points_of list
    → places ≡ map (λ c. places_through (plan_edges_of given) (spot_of c.point)) found
    → places ≡ map (places_through (plan_edges_of edges)) (spots_of points)
places_kept edges given list found points places same same_list kept are =
    are
    ∙ ap (λ es. map (λ c. places_through (plan_edges_of es) (spot_of c.point)) found) same
    ∙ ap (λ cs. map (λ c. places_through (plan_edges_of edges) (spot_of c.point)) cs) same_list
    ∙ places_of_points (places_through (plan_edges_of edges)) list
    ∙ ap (λ ps. map (places_through (plan_edges_of edges)) (spots_of ps)) (sym kept)

-- what was found, by the points that are kept
pub network_kept : (m : Building) (edges given : List GivenEdge) (list : List Crossing)
    (points : List HPoint) → plan_edges_of edges ≡ plan_edges m → given ≡ edges → AreAll given list
    → points ≡ points_of list → IsNetwork m (network (plan_edges_of edges) (spots_of points))
network_kept m edges given list points are same all kept =
    subst (λ (ps : List HPoint). IsNetwork m (network (plan_edges_of edges) (spots_of ps))) (sym kept)
    (network_found m edges are list
    (subst (λ (es : List GivenEdge). AreAll es list) same all))

pub few_kept : (edges : List GivenEdge) (list : List Crossing) (points : List HPoint)
    → AreAll edges list → points ≡ points_of list → length (spots_of points) ≤ most_crossings
few_kept edges list points all kept =
    subst (λ (ps : List HPoint). length (spots_of ps) ≤ most_crossings) (sym kept)
    (let same = as_many list in let few = all.few in omega arith)

pub more_kept : (m : Building) (edges given : List GivenEdge) → plan_edges_of edges ≡ plan_edges m
    → given ≡ edges
    → (list : List Crossing) × (AreSome given list × (most_crossings < length list))
    → HasMoreCrossings m most_crossings
more_kept m edges given are same (list, (some, many)) =
    more_found m edges are list (subst (λ (es : List GivenEdge). AreSome es list) same some) many

-- where no edge passes the limit there are as many at most
pub within_limit : (most : ℕ) (edges : List PlanEdge) → product_beyond most edges ≡ None
    → length edges ≤ most
within_limit most [] none = omega arith
within_limit zero (e ∷ edges) none = absurd (none-some e.product (sym none))
within_limit (suc n) (e ∷ edges) none = let rest = within_limit n edges none in omega arith

-- a point is one of these
abbrev HasPoint : List Spot → Spot → Type 0
HasPoint points p = (q : Spot) × (Stands q points × (IsSpot q × IsSamePoint p q))

-- a network with few crossings is of a model that has no more
pub few_are_few : (m : Building) (points : List Spot) → AreCrossings m points
    → length points ≤ most_crossings → HasMoreCrossings m most_crossings → ⊥
few_are_few m points are few (others, (some, many)) =
    let most = as_many_at_most (λ p r. IsSpot r × IsSamePoint p r) IsSamePoint
    (λ p q r one other. same_point_trans p r q one.0 one.1 (same_point_sym q r other.1))
    others points (all_that_stand (HasPoint points) others partner) some.once in
    omega arith
  where
    with_spot : (p : Spot) → (q : Spot) × (Stands q points × IsSamePoint p q) → HasPoint points p
    with_spot p (q, known) =
        (q, (known.0, (all_stands IsSpot q points are.some.spots known.0, known.1)))

    partner : (p : Spot) → Stands p others → HasPoint points p
    partner p at =
        with_spot p
        (are.all p (all_stands IsSpot p others some.spots at)
        (all_stands (λ q. is_crossing m q ≡ true) p others some.each at))

-- ---- the answer, where there is memory

pub some_are_few : (m : Building) (o : Option Network) (n : Network) → o ≡ Some n
    → IfSome o (IsNetwork m) → IfSome o (λ n. length n.crossings ≤ most_crossings)
    → HasMoreCrossings m most_crossings → ⊥
some_are_few m o n same is few more =
    few_are_few m n.crossings
    (subst (λ (p : Option Network). IfSome p (IsNetwork m)) same is).crossings
    (subst (λ (p : Option Network). IfSome p (λ n. length n.crossings ≤ most_crossings)) same few)
    more

pub none_has_more : (m : Building) (o : Option Network) → o ≡ None
    → IfNone o (HasMoreCrossings m most_crossings) → HasMoreCrossings m most_crossings
none_has_more m o same none =
    subst (λ (p : Option Network). IfNone p (HasMoreCrossings m most_crossings)) same none
