-- Where no two corners are passed together two edges come to each corner and no other, and these
-- meet
-- nowhere else. So neighbours that pass the test meet at one end at most, and loops with neighbours
-- that do not pass it are not apart.

use Rattle.std.proofs.Common.{◌≡◌, ◌⊎◌, inl, inr, refl, sym, ap, ap₂, ◌∙◌, arith, ℤ, pos}
use Rattle.std.proofs.Common.{Bool, true, false, not, ◌||◌, List, subst}
use Rattle.std.specs.Ordering.{int_eq}
use Rattle.std.specs.List.{list_all}
use Rattle.std.proofs.lemmas.Int.{ints}
use Rattle.std.proofs.lemmas.Bool.{or_cases, or_parts, and_from, false≢true, false_from_ne_true}
use Rattle.std.proofs.lemmas.Bool.Decides.{Decides-int_eq}
use Rattle.theory_lists.specs.Members.{Stands}
use Rattle.theory_lists.proofs.Members.{all_stands, one_or_two}
use Rattle.theory_numbers.specs.Arrows.{Arrow, cross, dot}
use Rattle.theory_numbers.proofs.Vectors.Arrows.{cross-turn}
use Rattle.theory_numbers.proofs.Vectors.Lengths.{no_length, some_length}
use Rattle.theory_numbers.proofs.Signs.{equal_or_not}
use Rattle.sb_fraction.specs.declared.point.Point.{Point}
use Rattle.sb_fraction.specs.Spots.{Spot, IsSpot}
use Rattle.sb_fraction.specs.Edges.{Edge, edge, seen_from, turn_at, is_on}
use Rattle.theory_plans.specs.LoopEdges.{edges_of}
use Rattle.theory_plans.specs.Loops.{bend, is_bent_loop}
use Rattle.theory_plans.specs.Plans.{is_same_point, do_touch, are_apart}
use Rattle.theory_plans.proofs.CommonPointIsCorner.{IsAt, straight_through}
use Rattle.theory_plans.proofs.Edges.EdgesOfPlans.{same_point, bent_is_not_0}
use Rattle.theory_plans.proofs.TouchingEdges.{common_point_touches}
use Rattle.theory_parity.specs.Sides.{turned_edge}
use Rattle.theory_parity.proofs.SolidOnTheLeft.RaysAnywhere.{level_on}
use Rattle.theory_parity.proofs.SolidOnTheLeft.TurnedIsApart.{on-turned}
use Rattle.theory_loops.specs.Orders.{MeetConsecutively}
use Rattle.theory_loops.proofs.ApartInWords.{apart_is}
use Rattle.theory_loops.proofs.TouchingHavePoint.{touch_is}
use Rattle.theory_sweep.specs.Passing.{pass_of}
use Rattle.theory_sweep.specs.Corners.{Corner, corners_of, ArePassedApart}
use Rattle.theory_sweep.specs.Open.{IsEdgeOf, IsOpenAt, MeetAtOneEnd, IsEnd, may_be_neighbours}
use Rattle.theory_sweep.proofs.EdgesByCorners.{edge_starts, edge_finishes, corners_are_bent}
use Rattle.theory_sweep.proofs.EdgesByCorners.{IsBentAt}

same_edge : (e : Edge) (a b : Point) → a ≡ e.a → b ≡ e.b → e ≡ edge a b
same_edge e a b same_a same_b =
    let whole : edge e.a e.b ≡ edge a b = ap₂ edge (sym same_a) (sym same_b) in whole

-- equal points are one by the test
pub same_as_itself : (a b : Point) → a ≡ b → is_same_point a b ≡ true
same_as_itself a b one =
    and_from (int_eq a.x b.x) (int_eq a.y b.y)
    ((Decides-int_eq a.x b.x).1 (ap (λ p. p.x) one))
    ((Decides-int_eq a.y b.y).1 (ap (λ p. p.y) one))

-- ---- each end of an edge is a corner

module _ (d : Arrow) (loops : List (List Point)) where
  -- a corner at this point
  pub record HasCorner (p : Point) : Type 0 where
    pub corner : Corner
    pub stands : Stands corner (corners_of loops)
    pub at : corner.at ≡ p

  corner_of_start : (e : Edge) → Stands e (edges_of loops) → HasCorner e.a
  corner_of_start e e_in =
      let s = edge_starts loops e e_in in
      record { corner = s.corner; stands = s.stands; at = s.at }

  corner_of_finish : (e : Edge) → Stands e (edges_of loops) → HasCorner e.b
  corner_of_finish e e_in =
      let s = edge_finishes loops e e_in in
      record { corner = s.corner; stands = s.stands; at = s.at }

  pub corner_at_a : (e : Edge) → IsEdgeOf d loops e → HasCorner e.a
  corner_at_a e e_is = from e_is.stands
    where
      from : Stands e (edges_of loops) ⊎ Stands (turned_edge e) (edges_of loops) → HasCorner e.a
      from (inl stands) = corner_of_start e stands
      from (inr stands) = corner_of_finish (turned_edge e) stands

  pub corner_at_b : (e : Edge) → IsEdgeOf d loops e → HasCorner e.b
  corner_at_b e e_is = from e_is.stands
    where
      from : Stands e (edges_of loops) ⊎ Stands (turned_edge e) (edges_of loops) → HasCorner e.b
      from (inl stands) = corner_of_finish e stands
      from (inr stands) = corner_of_start (turned_edge e) stands

module _ (d : Arrow) (loops : List (List Point)) (apart : ArePassedApart d loops) where
  -- corners passed together are one
  pub one_corner : (b c : Corner) → Stands b (corners_of loops) → Stands c (corners_of loops)
      → pass_of d b.at ≡ pass_of d c.at → b ≡ c
  one_corner b c b_in c_in same =
      from
      (one_or_two (λ x y. pass_of d x.at ≡ pass_of d y.at → ⊥) b c
      (corners_of loops) apart b_in c_in)
    where
      from : (b ≡ c)
          ⊎ ((pass_of d b.at ≡ pass_of d c.at → ⊥) ⊎ (pass_of d c.at ≡ pass_of d b.at → ⊥)) → b ≡ c
      from (inl one) = one
      from (inr (inl other)) = absurd (other same)
      from (inr (inr other)) = absurd (other (sym same))

  corner_there : (b c : Corner) → Stands b (corners_of loops) → Stands c (corners_of loops)
      → b.at ≡ c.at → b ≡ c
  corner_there b c b_in c_in same = one_corner b c b_in c_in (ap (pass_of d) same)

  -- an edge that begins at a corner goes to one of the two points beside it
  pub begins_at : (e : Edge) → IsEdgeOf d loops e → (c : Corner) → Stands c (corners_of loops)
      → e.a ≡ c.at → (e ≡ edge c.at c.after) ⊎ (e ≡ edge c.at c.before)
  begins_at e e_is c c_in same = from e_is.stands
    where
      from : Stands e (edges_of loops) ⊎ Stands (turned_edge e) (edges_of loops)
          → (e ≡ edge c.at c.after) ⊎ (e ≡ edge c.at c.before)
      from (inl stands) =
          let s = edge_starts loops e stands in
          let one = corner_there s.corner c s.stands c_in (s.at ∙ same) in
          inl (same_edge e c.at c.after (sym same) (sym (ap (λ t. t.after) one) ∙ s.after))
      from (inr stands) =
          let s = edge_finishes loops (turned_edge e) stands in
          let one = corner_there s.corner c s.stands c_in (s.at ∙ same) in
          inr (same_edge e c.at c.before (sym same) (sym (ap (λ t. t.before) one) ∙ s.before))

  -- and one that ends there comes from one of the two
  pub ends_at : (e : Edge) → IsEdgeOf d loops e → (c : Corner) → Stands c (corners_of loops)
      → e.b ≡ c.at → (e ≡ edge c.before c.at) ⊎ (e ≡ edge c.after c.at)
  ends_at e e_is c c_in same = from e_is.stands
    where
      from : Stands e (edges_of loops) ⊎ Stands (turned_edge e) (edges_of loops)
          → (e ≡ edge c.before c.at) ⊎ (e ≡ edge c.after c.at)
      from (inl stands) =
          let s = edge_finishes loops e stands in
          let one = corner_there s.corner c s.stands c_in (s.at ∙ same) in
          inl (same_edge e c.before c.at (sym (ap (λ t. t.before) one) ∙ s.before) (sym same))
      from (inr stands) =
          let s = edge_starts loops (turned_edge e) stands in
          let one = corner_there s.corner c s.stands c_in (s.at ∙ same) in
          inr (same_edge e c.after c.at (sym (ap (λ t. t.after) one) ∙ s.after) (sym same))

-- ---- two edges at a bent corner

-- a point on both lines is the corner
at_bent_corner : (c : Corner) → IsBentAt c → (p : Spot) → IsSpot p
    → cross (seen_from p c.before) (seen_from p c.at) ≡ pos 0
    → cross (seen_from p c.at) (seen_from p c.after) ≡ pos 0 → IsAt p c.at
at_bent_corner c bent p p_is first second =
    from (equal_or_not (dot (seen_from p c.at) (seen_from p c.at)) (pos 0))
  where
    from : (dot (seen_from p c.at) (seen_from p c.at) ≡ pos 0)
        ⊎ (dot (seen_from p c.at) (seen_from p c.at) ≡ pos 0 → ⊥)
        → IsAt p c.at
    from (inl none) = no_length (seen_from p c.at) (omega (arith, ints))
    from (inr some) =
        absurd
        (bent_is_not_0 (bend c.before c.at c.after) bent
        (straight_through p p_is c.before c.at c.after first second
        (some_length (seen_from p c.at) some)))

level_turned : (p : Spot) (a b : Point) → cross (seen_from p a) (seen_from p b) ≡ pos 0
    → cross (seen_from p b) (seen_from p a) ≡ pos 0
level_turned p a b level =
    let turn = cross-turn (seen_from p a) (seen_from p b) in omega (arith, ints)

module _ (d : Arrow) (loops : List (List Point)) (apart : ArePassedApart d loops)
    (bent : list_all is_bent_loop loops ≡ true) where
  bent_there : (c : Corner) → Stands c (corners_of loops) → IsBentAt c
  bent_there c c_in = all_stands IsBentAt c (corners_of loops) (corners_are_bent loops bent) c_in

  -- two that begin at one corner meet there alone
  meet_at_begin : (e f : Edge) → IsEdgeOf d loops e → IsEdgeOf d loops f → (e ≡ f → ⊥)
      → (c : Corner) → Stands c (corners_of loops)
      → (e ≡ edge c.at c.after) ⊎ (e ≡ edge c.at c.before)
      → (f ≡ edge c.at c.after) ⊎ (f ≡ edge c.at c.before)
      → (p : Spot) → IsSpot p → turn_at e p ≡ pos 0 → turn_at f p ≡ pos 0 → IsAt p c.at
  meet_at_begin e f e_is f_is other c c_in (inl one) (inl same) p p_is on_e on_f =
      absurd (other (one ∙ sym same))
  meet_at_begin e f e_is f_is other c c_in (inr one) (inr same) p p_is on_e on_f =
      absurd (other (one ∙ sym same))
  meet_at_begin e f e_is f_is other c c_in (inl one) (inr same) p p_is on_e on_f =
      at_bent_corner c (bent_there c c_in) p p_is
      (level_turned p c.at c.before (ap (λ g. turn_at g p) (sym same) ∙ on_f))
      (ap (λ g. turn_at g p) (sym one) ∙ on_e)
  meet_at_begin e f e_is f_is other c c_in (inr one) (inl same) p p_is on_e on_f =
      at_bent_corner c (bent_there c c_in) p p_is
      (level_turned p c.at c.before (ap (λ g. turn_at g p) (sym one) ∙ on_e))
      (ap (λ g. turn_at g p) (sym same) ∙ on_f)

  meet_at_finish : (e f : Edge) → (e ≡ f → ⊥)
      → (c : Corner) → Stands c (corners_of loops)
      → (e ≡ edge c.before c.at) ⊎ (e ≡ edge c.after c.at)
      → (f ≡ edge c.before c.at) ⊎ (f ≡ edge c.after c.at)
      → (p : Spot) → IsSpot p → turn_at e p ≡ pos 0 → turn_at f p ≡ pos 0 → IsAt p c.at
  meet_at_finish e f other c c_in (inl one) (inl same) p p_is on_e on_f =
      absurd (other (one ∙ sym same))
  meet_at_finish e f other c c_in (inr one) (inr same) p p_is on_e on_f =
      absurd (other (one ∙ sym same))
  meet_at_finish e f other c c_in (inl one) (inr same) p p_is on_e on_f =
      at_bent_corner c (bent_there c c_in) p p_is
      (ap (λ g. turn_at g p) (sym one) ∙ on_e)
      (level_turned p c.after c.at (ap (λ g. turn_at g p) (sym same) ∙ on_f))
  meet_at_finish e f other c c_in (inr one) (inl same) p p_is on_e on_f =
      at_bent_corner c (bent_there c c_in) p p_is
      (ap (λ g. turn_at g p) (sym same) ∙ on_f)
      (level_turned p c.after c.at (ap (λ g. turn_at g p) (sym one) ∙ on_e))

  pub begin_together : (e f : Edge) → IsEdgeOf d loops e → IsEdgeOf d loops f → (e ≡ f → ⊥)
      → e.a ≡ f.a → MeetAtOneEnd e f
  begin_together e f e_is f_is other same p p_is on_e on_f =
      let c = corner_at_a d loops e e_is in
      let there =
      meet_at_begin e f e_is f_is other c.corner c.stands
      (begins_at d loops apart e e_is c.corner c.stands (sym c.at))
      (begins_at d loops apart f f_is c.corner c.stands (sym (c.at ∙ same)))
      p p_is (level_on p e on_e) (level_on p f on_f) in
      inl (same, subst (IsAt p) c.at there)

  pub finish_together : (e f : Edge) → IsEdgeOf d loops e → IsEdgeOf d loops f → (e ≡ f → ⊥)
      → e.b ≡ f.b → MeetAtOneEnd e f
  finish_together e f e_is f_is other same p p_is on_e on_f =
      let c = corner_at_b d loops e e_is in
      let there =
      meet_at_finish e f other c.corner c.stands
      (ends_at d loops apart e e_is c.corner c.stands (sym c.at))
      (ends_at d loops apart f f_is c.corner c.stands (sym (c.at ∙ same)))
      p p_is (level_on p e on_e) (level_on p f on_f) in
      inr (same, subst (IsAt p) c.at there)

  -- neighbours that pass the test meet at one end at most
  pub passing_meet : (e f : Edge) → IsEdgeOf d loops e → IsEdgeOf d loops f → (e ≡ f → ⊥)
      → may_be_neighbours e f ≡ true → MeetAtOneEnd e f
  passing_meet e f e_is f_is other passes =
      from
      (or_cases (is_same_point e.a f.a) (is_same_point e.b f.b || not (do_touch e f)) passes)
    where
      apart_edges : not (do_touch e f) ≡ true → MeetAtOneEnd e f
      apart_edges none p p_is on_e on_f =
          absurd
          (false≢true
          (sym (ap not (common_point_touches e f p p_is on_e on_f)) ∙ none))

      rest : (is_same_point e.b f.b ≡ true) ⊎ (not (do_touch e f) ≡ true) → MeetAtOneEnd e f
      rest (inl same) = finish_together e f e_is f_is other (same_point e.b f.b same)
      rest (inr none) = apart_edges none

      from : (is_same_point e.a f.a ≡ true) ⊎ ((is_same_point e.b f.b || not (do_touch e f)) ≡ true)
          → MeetAtOneEnd e f
      from (inl same) = begin_together e f e_is f_is other (same_point e.a f.a same)
      from (inr more) = rest (or_cases (is_same_point e.b f.b) (not (do_touch e f)) more)

-- ---- edges that do not pass the test

-- two edges with an end in common, of which the line stands over both
module _ (d : Arrow) (loops : List (List Point)) (k : ℤ) where
  not_that_way : (e f : Edge) → IsOpenAt d loops k e → IsOpenAt d loops k f → e.a ≡ f.b → ⊥
  not_that_way e f e_is f_is same =
      let begun = e_is.begun in
      let on = f_is.goes_on in
      let one = ap (pass_of d) same in
      omega (arith, ints)

  -- the edge of the list that it is, in one of its two senses
  record IsSense (e x : Edge) : Type 0 where
    is : (x ≡ e) ⊎ (x ≡ turned_edge e)
    stands : Stands x (edges_of loops)

  sense_of : (e : Edge) → IsOpenAt d loops k e → (x : Edge) × IsSense e x
  sense_of e e_is = from e_is.edge.stands
    where
      from : Stands e (edges_of loops) ⊎ Stands (turned_edge e) (edges_of loops)
          → (x : Edge) × IsSense e x
      from (inl stands) = (e, record { is = inl refl; stands = stands })
      from (inr stands) = (turned_edge e, record { is = inr refl; stands = stands })

  on_sense : (e x : Edge) → IsSense e x → (p : Spot) → is_on p e ≡ true → is_on p x ≡ true
  on_sense e x x_is p on = from x_is.is
    where
      from : (x ≡ e) ⊎ (x ≡ turned_edge e) → is_on p x ≡ true
      from (inl one) = ap (is_on p) one ∙ on
      from (inr turned) = ap (is_on p) turned ∙ on-turned p e ∙ on

  end_of_sense : (e x : Edge) → IsSense e x → (c : Point) → IsEnd c x → IsEnd c e
  end_of_sense e x x_is c end = from x_is.is end
    where
      from : (x ≡ e) ⊎ (x ≡ turned_edge e) → IsEnd c x → IsEnd c e
      from (inl one) (inl a) = inl (sym (ap (λ g. g.a) one) ∙ a)
      from (inl one) (inr b) = inr (sym (ap (λ g. g.b) one) ∙ b)
      from (inr one) (inl a) = inr (sym (ap (λ g. g.a) one) ∙ a)
      from (inr one) (inr b) = inl (sym (ap (λ g. g.b) one) ∙ b)

  -- neighbours that do not pass the test are not apart
  pub refused_are_knotted : (e f : Edge) → IsOpenAt d loops k e → IsOpenAt d loops k f
      → may_be_neighbours e f ≡ false → are_apart loops ≡ false
  refused_are_knotted e f e_is f_is fails = false_from_ne_true (are_apart loops) clash
    where
      parts : (is_same_point e.a f.a ≡ false) × ((is_same_point e.b f.b || not (do_touch e f))
          ≡ false)
      parts = or_parts (is_same_point e.a f.a) (is_same_point e.b f.b || not (do_touch e f)) fails

      more : (is_same_point e.b f.b ≡ false) × (not (do_touch e f) ≡ false)
      more = or_parts (is_same_point e.b f.b) (not (do_touch e f)) parts.1

      touch : do_touch e f ≡ true
      touch = by (do_touch e f) more.1
        where
          by : (b : Bool) → not b ≡ false → b ≡ true
          by true none = refl
          by false none = sym none

      share : (c : Point) → IsEnd c e → IsEnd c f → ⊥
      share c (inl a) (inl b) = false≢true (sym parts.0 ∙ same_as_itself e.a f.a (a ∙ sym b))
      share c (inr a) (inr b) = false≢true (sym more.0 ∙ same_as_itself e.b f.b (a ∙ sym b))
      share c (inl a) (inr b) = not_that_way e f e_is f_is (a ∙ sym b)
      share c (inr a) (inl b) = not_that_way f e f_is e_is (b ∙ sym a)

      clash : are_apart loops ≡ true → ⊥
      clash are = from (sense_of e e_is) (sense_of f f_is) ((touch_is e f).0 touch)
        where
          from : (x : Edge) × IsSense e x → (y : Edge) × IsSense f y
              → (p : Spot) × (IsSpot p × ((is_on p e ≡ true) × (is_on p f ≡ true))) → ⊥
          from (x, x_is) (y, y_is) (p, on) =
              two (one_or_two MeetConsecutively x y (edges_of loops) ((apart_is loops).0 are).1
              x_is.stands y_is.stands)
            where
              on_x : is_on p x ≡ true
              on_x = on_sense e x x_is p on.1.0

              on_y : is_on p y ≡ true
              on_y = on_sense f y y_is p on.1.1

              ends : (is_same_point x.b y.a ≡ true) ⊎ (is_same_point y.b x.a ≡ true) → ⊥
              ends (inl same) =
                  share x.b (end_of_sense e x x_is x.b (inr refl))
                  (end_of_sense f y y_is x.b (inl (sym (same_point x.b y.a same))))
              ends (inr same) =
                  share y.b
                  (end_of_sense e x x_is y.b (inl (sym (same_point y.b x.a same))))
                  (end_of_sense f y y_is y.b (inr refl))

              two : (x ≡ y) ⊎ (MeetConsecutively x y ⊎ MeetConsecutively y x) → ⊥
              two (inl one) =
                  share x.a (end_of_sense e x x_is x.a (inl refl))
                  (end_of_sense f y y_is x.a (inl (sym (ap (λ g. g.a) one))))
              two (inr (inl meet)) =
                  ends (or_cases (is_same_point x.b y.a) (is_same_point y.b x.a)
                  (meet p on.0 on_x on_y))
              two (inr (inr meet)) =
                  swapped (or_cases (is_same_point y.b x.a) (is_same_point x.b y.a)
                  (meet p on.0 on_y on_x))
                where
                  swapped : (is_same_point y.b x.a ≡ true) ⊎ (is_same_point x.b y.a ≡ true) → ⊥
                  swapped (inl same) = ends (inr same)
                  swapped (inr same) = ends (inl same)
