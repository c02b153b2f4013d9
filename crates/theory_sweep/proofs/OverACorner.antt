-- The line passes a corner: the edges that end there are taken out, and those that begin there put
-- in
-- between the ones that lie below it and the others. Where the neighbours that this joins pass the
-- test, the list is that of the edges over which the line stands then.

use Rattle.std.proofs.Common.{◌≡◌, ◌⊎◌, inl, inr, refl, sym, ap, ap₂, ◌∙◌, arith, ℤ, pos, subst}
use Rattle.std.proofs.Common.{◌<ℤ◌, ◌≤ℤ◌, ◌-ℤ◌, ◌*ℤ◌, true, false, List, [], ◌∷◌, ◌++◌}
use Rattle.std.specs.List.{list_all, AllByRecursion}
use Rattle.std.proofs.lemmas.Int.{ints}
use Rattle.theory_lists.specs.Members.{Stands, AllOfTwo}
use Rattle.theory_lists.proofs.Members.{all_stands, all_that_stand, two_follow, one_or_two}
use Rattle.theory_lists.proofs.Blocks.{stands_before, stands_behind, all-append}
use Rattle.theory_lists.proofs.Blocks.{two-append, two_in_parts}
use Rattle.theory_numbers.specs.Arrows.{Arrow, cross}
use Rattle.theory_numbers.specs.Rationals.{IsRational, IsBelow, IsAtMost, IsSame}
use Rattle.theory_numbers.proofs.Vectors.Arrows.{cross-turn, same_arrow}
use Rattle.theory_numbers.proofs.Products.{zero_of_positive}
use Rattle.theory_numbers.proofs.Fractions.Rationals.{at_most_trans, at_most_below_trans, below_at_most_trans}
use Rattle.theory_numbers.proofs.Fractions.Rationals.{same_trans, same_sym, below_or_not, number_cases}
use Rattle.theory_numbers.proofs.Fractions.Rationals.{below_clash, same_from_at_most}
use Rattle.theory_numbers.proofs.Signs.{order_cases}
use Rattle.theory_plane.specs.Leads.{leads}
use Rattle.sb_fraction.specs.declared.point.Point.{Point}
use Rattle.sb_fraction.specs.Spots.{Spot, IsSpot, spot_at}
use Rattle.sb_fraction.specs.Edges.{Edge, span_of, seen_from, turn_at, is_on}
use Rattle.sb_fraction.specs.Lines.{line_over, in_frame}
use Rattle.theory_plans.specs.Loops.{is_bent_loop}
use Rattle.theory_plane.specs.Points.{ordinate_of}
use Rattle.theory_plans.proofs.CommonPointIsCorner.{IsAt}
use Rattle.theory_plans.proofs.TouchingEdges.{turn_seen, from_to}
use Rattle.theory_parity.proofs.SolidOnTheLeft.RaysAnywhere.{level_on}
use Rattle.theory_parity.specs.Below.{IsWay, abscissa_in, value_of}
use Rattle.theory_sweep.specs.Passing.{pass_of, at_pass, IsRising}
use Rattle.theory_sweep.specs.Corners.{Corner, ArePassedApart}
use Rattle.theory_sweep.specs.Open.{IsEdgeOf, IsOpenAt, AreOpen, IsNext, MayBeNeighbours, IsEnd}
use Rattle.theory_sweep.specs.Open.{AllNeighbours, is_under, IsSplitAt, AreBegun}
use Rattle.theory_sweep.specs.Open.{FirstGoesOn, ShareEndsUpTo, last_item, first_item}
use Rattle.theory_sweep.proofs.EdgesAtACorner.{corner_at_a, corner_at_b, one_corner, passing_meet}
use Rattle.theory_sweep.proofs.NeighboursInOrder.{neighbours_follow, neighbours_of_two}
use Rattle.theory_sweep.proofs.NeighboursInOrder.{neighbours_both, two_from_neighbours}
use Rattle.theory_sweep.proofs.NeighboursInOrder.{neighbours_before, neighbours_behind}
use Rattle.theory_sweep.proofs.NeighboursInOrder.{neighbours_joined, stands_in_either}
use Rattle.theory_sweep.proofs.OrderIsKept.{IsInOrderAt, IsOver, two_keep_order, in_order_trans}
use Rattle.theory_sweep.proofs.OrderIsKept.{whole_is, whole_at_most}
use Rattle.theory_sweep.proofs.PointsOfRisingEdges.{cross_whole, passed_between, at_a, value_on_it}
use Rattle.theory_sweep.proofs.PointsOfRisingEdges.{value_is}
use Rattle.theory_sweep.proofs.ValuesAtACorner.{value_when, height_of, below_when, above_when}
use Rattle.theory_sweep.proofs.ValuesAtACorner.{under_if_below}
use Rattle.theory_sweep.proofs.ValuesAtACorner.{same_when, level_at_a, level_at_b, meet_there}
use Rattle.theory_sweep.proofs.ValuesAtACorner.{leads_if_below, leads_other, leads_if_left}

-- whole numbers as places
whole_below : (a b : ℤ) → a <ℤ b → IsBelow (at_pass a) (at_pass b)
whole_below a b less = let whole = cross_whole a b in omega (arith, ints)

whole_same : (a b : ℤ) → IsSame (at_pass a) (at_pass b) → a ≡ b
whole_same a b same = let whole = cross_whole a b in omega (arith, ints)

less_if_other : (a b : ℤ) → a ≤ℤ b → (b ≡ a → ⊥) → a <ℤ b
less_if_other a b low other = from (order_cases a b)
  where
    from : ((a <ℤ b) ⊎ (a ≡ b)) ⊎ (b <ℤ a) → a <ℤ b
    from (inl (inl less)) = less
    from (inl (inr same)) = absurd (other (sym same))
    from (inr more) = absurd (omega (arith, ints))

-- an edge through a point that is this plan point passes through the plan point
level_near : (p : Spot) (v : Point) (f : Edge) → IsSpot p → IsAt p v → turn_at f p ≡ pos 0
    → turn_at f (spot_at v) ≡ pos 0
level_near p v f p_is at level =
    zero_of_positive p.w (turn_at f (spot_at v)) p_is
    (zero_of_positive p.w (p.w *ℤ turn_at f (spot_at v)) p_is
    (sym (turn_seen p v f) ∙ ap₂ cross (moved f.a) (moved f.b) ∙ level))
  where
    less_none : (x y : ℤ) → y ≡ pos 0 → x -ℤ y ≡ x
    less_none x y none = omega (arith, ints)

    moved : (a : Point) → from_to (seen_from p v) (seen_from p a) ≡ seen_from p a
    moved a =
        same_arrow (from_to (seen_from p v) (seen_from p a)) (seen_from p a)
        (less_none (seen_from p a).x (seen_from p v).x at.0)
        (less_none (seen_from p a).y (seen_from p v).y at.1)

-- ---- the edges in order, up to the next corner

module _ (d : Arrow) (d_is : IsWay d) (loops : List (List Point)) (apart : ArePassedApart d loops)
    (bent : list_all is_bent_loop loops ≡ true) (k : ℤ) (es : List Edge)
    (now : AreOpen d loops k es) where
  -- where no edge ends before u each two are in order there
  pub in_order_up_to : (u : Arrow) → IsRational u → IsBelow (at_pass k) u
      → ((e : Edge) → Stands e es → IsAtMost u (at_pass (pass_of d e.b)))
      → AllOfTwo (IsInOrderAt d u) es
  in_order_up_to u u_in after reaches =
      two_from_neighbours (IsRising d) (IsInOrderAt d u)
      (λ e f g e_is f_is g_is low high.
      in_order_trans d d_is k u u_in after e f g e_is f_is g_is low high)
      es (all_that_stand (IsRising d) es (λ e e_in. (now.there e e_in).edge.rising))
      (neighbours_follow (λ e. Stands e es)
      (λ e f. MayBeNeighbours e f × (leads (at_pass k) (line_over d e) (line_over d f) ≡ true))
      (IsInOrderAt d u) step es (all_that_stand (λ e. Stands e es) es (λ e e_in. e_in))
      (neighbours_both MayBeNeighbours
      (λ e f. leads (at_pass k) (line_over d e) (line_over d f) ≡ true) es now.near
      (neighbours_of_two (λ e f. leads (at_pass k) (line_over d e) (line_over d f) ≡ true) es
      now.sorted)))
    where
      over : (e : Edge) → Stands e es → IsOver d d_is k u u_in after e
      over e e_in =
          let is = now.there e e_in in
          record { rising = is.edge.rising; begun = is.begun; reaches = reaches e e_in }

      step : (e f : Edge) → Stands e es → Stands f es
          → MayBeNeighbours e f × (leads (at_pass k) (line_over d e) (line_over d f) ≡ true)
          → IsInOrderAt d u e f
      step e f e_in f_in both =
          two_keep_order d d_is k u u_in after e f (over e e_in) (over f f_in)
          (passing_meet d loops apart bent e f (now.there e e_in).edge (now.there f f_in).edge
          (leads_other d (at_pass k) e f both.1) both.0)
          both.1

-- ---- the next corner

module _ (d : Arrow) (d_is : IsWay d) (loops : List (List Point)) (apart : ArePassedApart d loops)
    (bent : list_all is_bent_loop loops ≡ true) (k : ℤ) (es : List Edge)
    (now : AreOpen d loops k es) (c : Corner) (next : IsNext d loops k c) where
  abbrev v : Point
  v = c.at

  abbrev k' : ℤ
  k' = pass_of d c.at

  -- each end is passed up to k, or not before the corner
  a_passed : (e : Edge) → IsEdgeOf d loops e
      → (pass_of d e.a ≤ℤ k) ⊎ (pass_of d c.at ≤ℤ pass_of d e.a)
  a_passed e e_is =
      let at = corner_at_a d loops e e_is in
      subst (λ p. (pass_of d p ≤ℤ k) ⊎ (pass_of d c.at ≤ℤ pass_of d p)) at.at
      (next.none at.corner at.stands)

  b_passed : (e : Edge) → IsEdgeOf d loops e
      → (pass_of d e.b ≤ℤ k) ⊎ (pass_of d c.at ≤ℤ pass_of d e.b)
  b_passed e e_is =
      let at = corner_at_b d loops e e_is in
      subst (λ p. (pass_of d p ≤ℤ k) ⊎ (pass_of d c.at ≤ℤ pass_of d p)) at.at
      (next.none at.corner at.stands)

  -- an end that is passed with the corner is the corner
  a_there : (e : Edge) → IsEdgeOf d loops e → pass_of d e.a ≡ pass_of d c.at → e.a ≡ c.at
  a_there e e_is same =
      let at = corner_at_a d loops e e_is in
      sym at.at
      ∙ ap (λ t. t.at) (one_corner d loops apart at.corner c at.stands next.stands
      (ap (pass_of d) at.at ∙ same))

  b_there : (e : Edge) → IsEdgeOf d loops e → pass_of d e.b ≡ pass_of d c.at → e.b ≡ c.at
  b_there e e_is same =
      let at = corner_at_b d loops e e_is in
      sym at.at
      ∙ ap (λ t. t.at) (one_corner d loops apart at.corner c at.stands next.stands
      (ap (pass_of d) at.at ∙ same))

  -- the line stands over an edge that began before and has a point that is passed later
  open_before : (f : Edge) → IsEdgeOf d loops f → pass_of d f.a ≤ℤ k → (p : Spot) → IsSpot p
      → is_on p f ≡ true → IsBelow (at_pass k) (abscissa_in d p) → IsOpenAt d loops k f
  open_before f f_is early p p_is on_f after =
      let between = passed_between d d_is f f_is.rising p p_is on_f in
      let p_in : IsRational (abscissa_in d p) = p_is in
      let later = below_at_most_trans (at_pass k) (abscissa_in d p) (at_pass (pass_of d f.b))
      (whole_is k) p_in (whole_is (pass_of d f.b)) after between.1 in
      let whole = cross_whole k (pass_of d f.b) in
      record { edge = f_is; begun = early; goes_on = omega (arith, ints) }

  -- an edge over which the line stands ends there at the earliest
  ends_late : (e : Edge) → Stands e es → pass_of d c.at ≤ℤ pass_of d e.b
  ends_late e e_in = from (b_passed e is.edge)
    where
      is : IsOpenAt d loops k e
      is = now.there e e_in

      from : (pass_of d e.b ≤ℤ k) ⊎ (pass_of d c.at ≤ℤ pass_of d e.b)
          → pass_of d c.at ≤ℤ pass_of d e.b
      from (inl early) = let on = (now.there e e_in).goes_on in absurd (omega (arith, ints))
      from (inr late) = late

  after_k : IsBelow (at_pass k) (at_pass (pass_of d c.at))
  after_k = whole_below k (pass_of d c.at) next.after

  -- so each two are in order there
  in_order : AllOfTwo (IsInOrderAt d (at_pass (pass_of d c.at))) es
  in_order =
      in_order_up_to d d_is loops apart bent k es now (at_pass (pass_of d c.at))
      (whole_is (pass_of d c.at)) after_k
      (λ e e_in. whole_at_most (pass_of d c.at) (pass_of d e.b) (ends_late e e_in))

  value_in : (e : Edge) → IsRising d e → IsRational (value_when d c.at e)
  value_in e rising =
      value_is d (at_pass (pass_of d c.at)) e rising (whole_is (pass_of d c.at))

  height_in : IsRational (height_of d c.at)
  height_in = omega (arith, ints)

  -- of two in order the first has the lesser value, where it does not end there
  strict : (e f : Edge) → IsInOrderAt d (at_pass (pass_of d c.at)) e f → (e.b ≡ c.at → ⊥)
      → IsEdgeOf d loops e → IsBelow (value_when d c.at e) (value_when d c.at f)
  strict e f order on e_is =
      from (number_cases (value_when d c.at e) (value_when d c.at f))
    where
      from : (IsBelow (value_when d c.at e) (value_when d c.at f)
          ⊎ IsSame (value_when d c.at e) (value_when d c.at f))
          ⊎ IsBelow (value_when d c.at f) (value_when d c.at e)
          → IsBelow (value_when d c.at e) (value_when d c.at f)
      from (inl (inl below)) = below
      from (inl (inr same)) =
          absurd
          (on (b_there e e_is
          (sym (whole_same (pass_of d c.at) (pass_of d e.b) (order.same same).1))))
      from (inr above) =
          absurd (below_clash (value_when d c.at f) (value_when d c.at e) above order.order)

  -- what lies below the corner comes first
  pub below_first : AllOfTwo (λ e f. is_under c.at f ≡ true → is_under c.at e ≡ true) es
  below_first =
      two_follow (IsInOrderAt d (at_pass (pass_of d c.at)))
      (λ e f. is_under c.at f ≡ true → is_under c.at e ≡ true) es
      (λ e f e_in f_in pair under.
      let e_is = (now.there e e_in).edge in
      let f_is = (now.there f f_in).edge in
      under_if_below d d_is c.at e e_is.rising
      (at_most_below_trans (value_when d c.at e) (value_when d c.at f) (height_of d c.at)
      (value_in e e_is.rising) (value_in f f_is.rising) height_in pair.order
      (below_when d d_is c.at f f_is.rising under)))
      in_order

  module _ (front ending back : List Edge) (parts : IsSplitAt c.at es front ending back) where
    -- ---- the three parts

    in_front : (e : Edge) → Stands e front → Stands e es
    in_front e e_in =
        subst (Stands e) (sym parts.split) (stands_before e front (ending ++ back) e_in)

    in_back : (e : Edge) → Stands e back → Stands e es
    in_back e e_in =
        subst (Stands e) (sym parts.split)
        (stands_behind e front (ending ++ back) (stands_behind e ending back e_in))

    orders : (AllOfTwo (IsInOrderAt d (at_pass (pass_of d c.at))) front
        × AllOfTwo (IsInOrderAt d (at_pass (pass_of d c.at))) (ending ++ back))
        × AllByRecursion
        (λ e. AllByRecursion (IsInOrderAt d (at_pass (pass_of d c.at)) e) (ending ++ back)) front
    orders =
        two_in_parts (IsInOrderAt d (at_pass (pass_of d c.at))) front (ending ++ back)
        (subst (AllOfTwo (IsInOrderAt d (at_pass (pass_of d c.at)))) parts.split in_order)

    back_order : AllOfTwo (IsInOrderAt d (at_pass (pass_of d c.at))) back
    back_order =
        (two_in_parts (IsInOrderAt d (at_pass (pass_of d c.at))) ending back orders.0.1).0.1

    front_below : (e : Edge) → Stands e front → IsBelow (value_when d c.at e) (height_of d c.at)
    front_below e e_in =
        below_when d d_is c.at e (now.there e (in_front e e_in)).edge.rising
        (all_stands (λ g. is_under c.at g ≡ true) e front parts.under e_in)

    front_goes_on : (e : Edge) → Stands e front → e.b ≡ c.at → ⊥
    front_goes_on e e_in ends =
        let same = same_when d d_is c.at e (now.there e (in_front e e_in)).edge.rising
        (level_at_b e c.at ends) in
        let below = front_below e e_in in
        omega (arith, ints)

    back_above : (e : Edge) → Stands e back → IsAtMost (height_of d c.at) (value_when d c.at e)
    back_above e e_in =
        above_when d d_is c.at e (now.there e (in_back e e_in)).edge.rising
        (all_stands (λ g. is_under c.at g ≡ false) e back parts.over e_in)

    -- no edge behind ends there
    back_goes_on : (e : Edge) → Stands e back → e.b ≡ c.at → ⊥
    back_goes_on e e_in ends = by back parts.goes_on back_order (λ g g_in. g_in) e_in
      where
        by : (gs : List Edge) → FirstGoesOn c.at gs
            → AllOfTwo (IsInOrderAt d (at_pass (pass_of d c.at))) gs
            → ((g : Edge) → Stands g gs → Stands g back) → Stands e gs → ⊥
        by [] first order there at = at
        by (g ∷ gs) first order there (inl one) = first (sym (ap (λ t. t.b) one) ∙ ends)
        by (g ∷ gs) first order there (inr later) =
            let pair = all_stands (IsInOrderAt d (at_pass (pass_of d c.at)) g) e gs order.0 later in
            let g_is = (now.there g (in_back g (there g (inl refl)))).edge in
            let e_is = (now.there e (in_back e e_in)).edge in
            let below = strict g e pair first g_is in
            let level = same_when d d_is c.at e e_is.rising (level_at_b e c.at ends) in
            let high = back_above g (there g (inl refl)) in
            below_clash (height_of d c.at) (value_when d c.at e)
            (at_most_below_trans (height_of d c.at) (value_when d c.at g) (value_when d c.at e)
            height_in (value_in g g_is.rising) (value_in e e_is.rising) high below)
            (omega (arith, ints))

    -- ---- the edges over which the line stands then

    module _ (new : List Edge) (begun : AreBegun d loops c.at new) where
      abbrev then_ : List Edge
      then_ = front ++ (new ++ back)

      stays_open : (e : Edge) → Stands e es → (e.b ≡ c.at → ⊥) → IsOpenAt d loops (pass_of d c.at) e
      stays_open e e_in on =
          let is = now.there e e_in in
          let begins = is.begun in
          let later = next.after in
          record {
            edge = is.edge;
            begun = omega (arith, ints);
            goes_on =
                less_if_other (pass_of d c.at) (pass_of d e.b) (ends_late e e_in)
                (λ same. on (b_there e is.edge same));
          }

      -- each of the list is one
      pub there_then : (e : Edge) → Stands e (front ++ (new ++ back))
          → IsOpenAt d loops (pass_of d c.at) e
      there_then e e_in =
          all_stands (IsOpenAt d loops (pass_of d c.at)) e (front ++ (new ++ back))
          (all-append (IsOpenAt d loops (pass_of d c.at)) front (new ++ back)
          (all_that_stand (IsOpenAt d loops (pass_of d c.at)) front
          (λ g g_in. stays_open g (in_front g g_in) (front_goes_on g g_in)))
          (all-append (IsOpenAt d loops (pass_of d c.at)) new back
          (all_that_stand (IsOpenAt d loops (pass_of d c.at)) new (λ g g_in. begins g g_in))
          (all_that_stand (IsOpenAt d loops (pass_of d c.at)) back
          (λ g g_in. stays_open g (in_back g g_in) (back_goes_on g g_in)))))
          e_in
        where
          begins : (g : Edge) → Stands g new → IsOpenAt d loops (pass_of d c.at) g
          begins g g_in =
              let is = begun.there g g_in in
              let same = ap (pass_of d) is.1 in
              let up = is.0.rising in
              record { edge = is.0; begun = omega (arith, ints); goes_on = omega (arith, ints) }

      -- and each one is of the list
      pub each_then : (e : Edge) → IsOpenAt d loops (pass_of d c.at) e
          → Stands e (front ++ (new ++ back))
      each_then e e_is = from (a_passed e e_is.edge)
        where
          later : k <ℤ pass_of d e.b
          later = let one = next.after in let other = e_is.goes_on in omega (arith, ints)

          place : Stands e (front ++ (ending ++ back)) → Stands e (front ++ (new ++ back))
          place at = first (stands_in_either e front (ending ++ back) at)
            where
              second : Stands e ending ⊎ Stands e back → Stands e (front ++ (new ++ back))
              second (inl ends) =
                  let same = ap (pass_of d) (all_stands (λ g. g.b
                  ≡ c.at) e ending parts.ends ends) in
                  let on = e_is.goes_on in
                  absurd (omega (arith, ints))
              second (inr there) = stands_behind e front (new ++ back)
                  (stands_behind e new back there)

              first : Stands e front ⊎ Stands e (ending ++ back) → Stands e (front ++ (new ++ back))
              first (inl there) = stands_before e front (new ++ back) there
              first (inr more) = second (stands_in_either e ending back more)

          from : (pass_of d e.a ≤ℤ k) ⊎ (pass_of d c.at ≤ℤ pass_of d e.a)
              → Stands e (front ++ (new ++ back))
          from (inl early) =
              place
              (subst (Stands e) parts.split
              (now.each e (record { edge = e_is.edge; begun = early; goes_on = later })))
          from (inr late) =
              let upto = e_is.begun in
              stands_behind e front (new ++ back)
              (stands_before e new back
              (begun.each e e_is.edge (a_there e e_is.edge (omega (arith, ints)))))

      -- ---- the neighbours

      module _ (joint : AllNeighbours MayBeNeighbours (last_item front ++ (new ++ first_item back)))
        where
          pub near_then : AllNeighbours MayBeNeighbours (front ++ (new ++ back))
          near_then =
              let near = subst (AllNeighbours MayBeNeighbours) parts.split now.near in
              neighbours_joined MayBeNeighbours front new back
              (neighbours_before MayBeNeighbours front (ending ++ back) near)
              (neighbours_behind MayBeNeighbours ending back
              (neighbours_behind MayBeNeighbours front (ending ++ back) near))
              joint

          -- ---- the order

          new_level : (e : Edge) → Stands e new → IsSame (value_when d c.at e) (height_of d c.at)
          new_level e e_in =
              let is = begun.there e e_in in
              same_when d d_is c.at e is.0.rising (level_at_a e c.at is.1)

          -- the first edge behind does not pass through the corner where an edge begins there
          first_above : (n g : Edge) → Stands n new → Stands g back → MayBeNeighbours n g
              → IsBelow (height_of d c.at) (value_when d c.at g)
          first_above n g n_in g_in passes =
              from (number_cases (height_of d c.at) (value_when d c.at g))
            where
              n_is : IsEdgeOf d loops n × (n.a ≡ c.at)
              n_is = begun.there n n_in

              g_is : IsOpenAt d loops k g
              g_is = now.there g (in_back g g_in)

              begins_apart : n.a ≡ g.a → ⊥
              begins_apart same =
                  let one = ap (pass_of d) (sym n_is.1 ∙ same) in
                  let early = g_is.begun in
                  let late = next.after in
                  omega (arith, ints)

              meets : IsSame (value_when d c.at n) (value_when d c.at g) → ⊥
              meets same =
                  let at = ap (pass_of d) n_is.1 in
                  let early = g_is.begun in
                  let late = next.after in
                  let up = n_is.0.rising in
                  ends
                  (meet_there d d_is (at_pass (pass_of d c.at)) (whole_is (pass_of d c.at)) n g
                  n_is.0.rising g_is.edge.rising
                  (whole_at_most (pass_of d n.a) (pass_of d c.at) (omega (arith, ints)))
                  (whole_at_most (pass_of d c.at) (pass_of d n.b) (omega (arith, ints)))
                  (whole_at_most (pass_of d g.a) (pass_of d c.at) (omega (arith, ints)))
                  (whole_at_most (pass_of d c.at) (pass_of d g.b) (ends_late g (in_back g g_in)))
                  same
                  (passing_meet d loops apart bent n g n_is.0 g_is.edge
                  (λ one. begins_apart (ap (λ t. t.a) one)) passes))
                where
                  ends : ((n.a ≡ g.a) × IsSame (at_pass (pass_of d c.at)) (at_pass (pass_of d n.a)))
                      ⊎ ((n.b ≡ g.b) × IsSame (at_pass (pass_of d c.at)) (at_pass (pass_of d n.b)))
                      → ⊥
                  ends (inl both) = begins_apart both.0
                  ends (inr both) =
                      let one = whole_same (pass_of d c.at) (pass_of d n.b) both.1 in
                      let at = ap (pass_of d) n_is.1 in
                      let up = n_is.0.rising in
                      omega (arith, ints)

              from : (IsBelow (height_of d c.at) (value_when d c.at g)
                  ⊎ IsSame (height_of d c.at) (value_when d c.at g))
                  ⊎ IsBelow (value_when d c.at g) (height_of d c.at)
                  → IsBelow (height_of d c.at) (value_when d c.at g)
              from (inl (inl above)) = above
              from (inl (inr same)) =
                  absurd
                  (meets
                  (same_trans (value_when d c.at n) (height_of d c.at)
                  (value_when d c.at g) height_in
                  (new_level n n_in) same))
              from (inr below) =
                  absurd
                  (below_clash (value_when d c.at g) (height_of d c.at) below (back_above g g_in))

          -- nor does any other
          back_strict : (n : Edge) → Stands n new → (e : Edge) → Stands e back
              → IsBelow (height_of d c.at) (value_when d c.at e)
          back_strict n n_in e e_in =
              by back (neighbours_behind MayBeNeighbours (last_item front)
              (new ++ first_item back) joint)
              back_order (λ g g_in. g_in) e_in
            where
              last_near : (xs : List Edge) (g : Edge) → Stands n xs
                  → AllNeighbours MayBeNeighbours (xs ++ (g ∷ []))
                  → (m : Edge) × (Stands m xs × MayBeNeighbours m g)
              last_near [] g at near = absurd at
              last_near (x ∷ []) g at near = (x, (inl refl, near.0))
              last_near (x ∷ y ∷ ys) g at near = further (last_near_of y ys near.1)
                where
                  last_near_of : (z : Edge) (zs : List Edge)
                      → AllNeighbours MayBeNeighbours ((z ∷ zs) ++ (g ∷ []))
                      → (m : Edge) × (Stands m (z ∷ zs) × MayBeNeighbours m g)
                  last_near_of z [] near_z = (z, (inl refl, near_z.0))
                  last_near_of z (w ∷ ws) near_z = more (last_near_of w ws near_z.1)
                    where
                      more : (m : Edge) × (Stands m (w ∷ ws) × MayBeNeighbours m g)
                          → (m : Edge) × (Stands m (z ∷ (w ∷ ws)) × MayBeNeighbours m g)
                      more (m, found) = (m, (inr found.0, found.1))

                  further : (m : Edge) × (Stands m (y ∷ ys) × MayBeNeighbours m g)
                      → (m : Edge) × (Stands m (x ∷ (y ∷ ys)) × MayBeNeighbours m g)
                  further (m, found) = (m, (inr found.0, found.1))

              by : (gs : List Edge) → AllNeighbours MayBeNeighbours (new ++ first_item gs)
                  → AllOfTwo (IsInOrderAt d (at_pass (pass_of d c.at))) gs
                  → ((g : Edge) → Stands g gs → Stands g back) → Stands e gs
                  → IsBelow (height_of d c.at) (value_when d c.at e)
              by [] near order there at = absurd at
              by (g ∷ gs) near order there at = from (last_near new g n_in near) at
                where
                  from : (m : Edge) × (Stands m new × MayBeNeighbours m g) → Stands e (g ∷ gs)
                      → IsBelow (height_of d c.at) (value_when d c.at e)
                  from (m, found) (inl one) =
                      subst (λ t. IsBelow (height_of d c.at) (value_when d c.at t)) (sym one)
                      (first_above m g found.0 (there g (inl refl)) found.1)
                  from (m, found) (inr later) =
                      let above = first_above m g found.0 (there g (inl refl)) found.1 in
                      let pair = all_stands (IsInOrderAt d (at_pass
                      (pass_of d c.at)) g) e gs order.0 later in
                      below_at_most_trans (height_of d c.at) (value_when d c.at g)
                      (value_when d c.at e)
                      height_in (value_in g (now.there g (in_back g (there g
                      (inl refl)))).edge.rising)
                      (value_in e (now.there e (in_back e e_in)).edge.rising) above pair.order

          abbrev Leads : Edge → Edge → Type 0
          Leads e f = leads (at_pass (pass_of d c.at)) (line_over d e) (line_over d f) ≡ true

          below_leads : (e f : Edge) → IsBelow (value_when d c.at e) (value_when d c.at f)
              → Leads e f
          below_leads e f below =
              leads_if_below d (at_pass (pass_of d c.at)) e f (whole_is (pass_of d c.at)) below

          kept : (gs : List Edge) → AllOfTwo (IsInOrderAt d (at_pass (pass_of d c.at))) gs
              → ((e : Edge) → Stands e gs → Stands e es)
              → ((e : Edge) → Stands e gs → e.b ≡ c.at → ⊥) → AllOfTwo Leads gs
          kept gs order there goes_on =
              two_follow (IsInOrderAt d (at_pass (pass_of d c.at))) Leads gs
              (λ e f e_in f_in pair.
              below_leads e f (strict e f pair (goes_on e e_in) (now.there e (there e e_in)).edge))
              order

          new_leads : (e f : Edge) → Stands e new → Stands f new
              → pos 0 <ℤ cross (span_of e) (span_of f) → Leads e f
          new_leads e f e_in f_in left =
              leads_if_left d d_is (at_pass (pass_of d c.at)) (whole_is (pass_of d c.at)) e f
              (begun.there e e_in).0.rising (begun.there f f_in).0.rising
              (same_trans (value_when d c.at e) (height_of d c.at) (value_when d c.at f) height_in
              (new_level e e_in)
              (same_sym (value_when d c.at f) (height_of d c.at) (new_level f f_in)))
              left

          front_new : (e f : Edge) → Stands e front → Stands f new → Leads e f
          front_new e f e_in f_in =
              let level = same_sym (value_when d c.at f) (height_of d c.at) (new_level f f_in) in
              below_leads e f
              (below_at_most_trans (value_when d c.at e) (height_of d c.at) (value_when d c.at f)
              (value_in e (now.there e (in_front e e_in)).edge.rising) height_in
              (value_in f (begun.there f f_in).0.rising) (front_below e e_in) (omega (arith, ints)))

          front_back : (e f : Edge) → Stands e front → Stands f back → Leads e f
          front_back e f e_in f_in =
              below_leads e f
              (below_at_most_trans (value_when d c.at e) (height_of d c.at) (value_when d c.at f)
              (value_in e (now.there e (in_front e e_in)).edge.rising) height_in
              (value_in f (now.there f (in_back f f_in)).edge.rising) (front_below e e_in)
              (back_above f f_in))

          new_back : (e f : Edge) → Stands e new → Stands f back → Leads e f
          new_back e f e_in f_in =
              let level = new_level e e_in in
              below_leads e f
              (at_most_below_trans (value_when d c.at e) (height_of d c.at) (value_when d c.at f)
              (value_in e (begun.there e e_in).0.rising) height_in
              (value_in f (now.there f (in_back f f_in)).edge.rising) (omega (arith, ints))
              (back_strict e e_in f f_in))

          -- just after the corner each of the list leads the ones after it
          pub sorted_then : AllOfTwo Leads (front ++ (new ++ back))
          sorted_then =
              two-append Leads front (new ++ back) (kept front orders.0.0 in_front front_goes_on)
              (two-append Leads new back
              (two_follow (λ e f. pos 0 <ℤ cross (span_of e) (span_of f)) Leads new
              (λ e f e_in f_in left. new_leads e f e_in f_in left) begun.sorted)
              (kept back back_order in_back back_goes_on)
              (all_that_stand (λ e. AllByRecursion (Leads e) back) new
              (λ e e_in. all_that_stand (Leads e) back (λ f f_in. new_back e f e_in f_in))))
              (all_that_stand (λ e. AllByRecursion (Leads e) (new ++ back)) front
              (λ e e_in.
              all-append (Leads e) new back
              (all_that_stand (Leads e) new (λ f f_in. front_new e f e_in f_in))
              (all_that_stand (Leads e) back (λ f f_in. front_back e f e_in f_in))))

          -- ---- what has met up to the corner

          -- an edge that begins there and one that began before meet there alone
          late_and_early : (e f : Edge) → IsEdgeOf d loops e → IsEdgeOf d loops f → (p : Spot)
              → IsSpot p → is_on p e ≡ true → is_on p f ≡ true
              → IsAtMost (abscissa_in d p) (at_pass (pass_of d c.at))
              → pass_of d c.at ≤ℤ pass_of d e.a → (e.a ≡ c.at) × IsAt p c.at
          late_and_early e f e_is f_is p p_is on_e on_f upto late =
              let between = passed_between d d_is e e_is.rising p p_is on_e in
              let p_in : IsRational (abscissa_in d p) = p_is in
              let back = at_most_trans (at_pass (pass_of d e.a)) (abscissa_in d p)
              (at_pass (pass_of d c.at)) (whole_is (pass_of d e.a)) p_in (whole_is (pass_of d c.at))
              between.0 upto in
              let whole = cross_whole (pass_of d e.a) (pass_of d c.at) in
              let one : pass_of d e.a ≡ pass_of d c.at = omega (arith, ints) in
              let there = a_there e e_is one in
              let forth = at_most_trans (abscissa_in d p) (at_pass (pass_of d c.at))
              (at_pass (pass_of d e.a)) p_in (whole_is (pass_of d c.at)) (whole_is (pass_of d e.a))
              upto (whole_at_most (pass_of d c.at) (pass_of d e.a) late) in
              let same = same_from_at_most (abscissa_in d p) (at_pass
              (pass_of d e.a)) forth between.0 in
              (there, subst (IsAt p) there (at_a d d_is e e_is.rising p p_is on_e same))

          -- an edge that passes through the corner where another begins ends there or begins there
          through_corner : (n : Edge) → Stands n new → (f : Edge) → IsEdgeOf d loops f
              → IsOpenAt d loops k f → turn_at f (spot_at c.at) ≡ pos 0 → f.b ≡ c.at
          through_corner n n_in f f_is f_open level =
              from (parted_three (subst (Stands f) parts.split (now.each f f_open)))
            where
              same : IsSame (value_when d c.at f) (height_of d c.at)
              same = same_when d d_is c.at f f_is.rising level

              parted_three : Stands f (front ++ (ending ++ back))
                  → Stands f front ⊎ (Stands f ending ⊎ Stands f back)
              parted_three at = by (stands_in_either f front (ending ++ back) at)
                where
                  by : Stands f front ⊎ Stands f (ending ++ back)
                      → Stands f front ⊎ (Stands f ending ⊎ Stands f back)
                  by (inl there) = inl there
                  by (inr more) = inr (stands_in_either f ending back more)

              from : Stands f front ⊎ (Stands f ending ⊎ Stands f back) → f.b ≡ c.at
              from (inl there) =
                  let below = front_below f there in
                  let one = same in
                  absurd (omega (arith, ints))
              from (inr (inl there)) = all_stands (λ g. g.b ≡ c.at) f ending parts.ends there
              from (inr (inr there)) =
                  let above = back_strict n n_in f there in
                  let one = same in
                  let turn = cross-turn (value_when d c.at f) (height_of d c.at) in
                  absurd (omega (arith, ints))

          late_meets : (e f : Edge) → IsEdgeOf d loops e → IsEdgeOf d loops f → (p : Spot)
              → IsSpot p
              → is_on p e ≡ true → is_on p f ≡ true
              → IsAtMost (abscissa_in d p) (at_pass (pass_of d c.at))
              → pass_of d c.at ≤ℤ pass_of d e.a → IsBelow (at_pass k) (abscissa_in d p)
              → (pass_of d f.a ≤ℤ k) ⊎ (pass_of d c.at ≤ℤ pass_of d f.a)
              → IsEnd c.at e × IsEnd c.at f
          late_meets e f e_is f_is p p_is on_e on_f upto late after (inr also) = (
            inl (late_and_early e f e_is f_is p p_is on_e on_f upto late).0,
            inl (late_and_early f e f_is e_is p p_is on_f on_e upto also).0,
          )
          late_meets e f e_is f_is p p_is on_e on_f upto late after (inl early) =
              let there = late_and_early e f e_is f_is p p_is on_e on_f upto late in (
                inl there.0,
                inr (through_corner e (begun.each e e_is there.0) f f_is
                    (open_before f f_is early p p_is on_f after)
                    (level_near p c.at f p_is there.1 (level_on p f on_f))),
              )

          -- two that began before
          early_meet : (e f : Edge) → (e ≡ f → ⊥) → IsOpenAt d loops k e → IsOpenAt d loops k f
              → (p : Spot) → IsSpot p → is_on p e ≡ true → is_on p f ≡ true
              → IsBelow (at_pass k) (abscissa_in d p)
              → IsAtMost (abscissa_in d p) (at_pass (pass_of d c.at)) → e.b ≡ f.b
          early_meet e f other e_is f_is p p_is on_e on_f after upto =
              from (one_or_two (IsInOrderAt d (abscissa_in d p)) e f es order (now.each e e_is)
              (now.each f f_is))
            where
              p_in : IsRational (abscissa_in d p)
              p_in = p_is

              order : AllOfTwo (IsInOrderAt d (abscissa_in d p)) es
              order =
                  in_order_up_to d d_is loops apart bent k es now (abscissa_in d p) p_in after
                  (λ g g_in.
                  at_most_trans (abscissa_in d p) (at_pass (pass_of d c.at)) (at_pass
                  (pass_of d g.b))
                  p_in (whole_is (pass_of d c.at)) (whole_is (pass_of d g.b)) upto
                  (whole_at_most (pass_of d c.at) (pass_of d g.b) (ends_late g g_in)))

              height : IsRational (ordinate_of (in_frame d p))
              height = p_is

              same : (g h : Edge) → IsOpenAt d loops k g → IsOpenAt d loops k h → is_on p g ≡ true
                  → is_on p h ≡ true
                  → IsSame (value_of d (abscissa_in d p) g) (value_of d (abscissa_in d p) h)
              same g h g_is h_is on_g on_h =
                  same_trans (value_of d (abscissa_in d p) g) (ordinate_of (in_frame d p))
                  (value_of d (abscissa_in d p) h) height
                  (value_on_it d d_is g g_is.edge.rising p p_is on_g)
                  (same_sym (value_of d (abscissa_in d p) h) (ordinate_of (in_frame d p))
                  (value_on_it d d_is h h_is.edge.rising p p_is on_h))

              from : (e ≡ f)
                  ⊎ (IsInOrderAt d (abscissa_in d p) e f ⊎ IsInOrderAt d (abscissa_in d p) f e)
                  → e.b ≡ f.b
              from (inl one) = absurd (other one)
              from (inr (inl pair)) = (pair.same (same e f e_is f_is on_e on_f)).0
              from (inr (inr pair)) = sym (pair.same (same f e f_is e_is on_f on_e)).0

          pub met_then : ShareEndsUpTo d loops (pass_of d c.at)
          met_then e f e_is f_is other p p_is on_e on_f upto =
              from (below_or_not (at_pass k) (abscissa_in d p))
            where
              late : IsBelow (at_pass k) (abscissa_in d p)
                  → (pass_of d e.a ≤ℤ k) ⊎ (pass_of d c.at ≤ℤ pass_of d e.a)
                  → (pass_of d f.a ≤ℤ k) ⊎ (pass_of d c.at ≤ℤ pass_of d f.a)
                  → (q : Point) × (IsEnd q e × IsEnd q f)
              late after (inr later) f_when =
                  let both = late_meets e f e_is f_is p p_is on_e on_f upto later after f_when in
                  (c.at, both)
              late after (inl early) (inr later) =
                  let both = late_meets f e f_is e_is p p_is on_f on_e upto later after
                  (inl early) in
                  (c.at, (both.1, both.0))
              late after (inl early) (inl also) = (
                e.b,
                (
                  inr refl,
                  inr (sym (early_meet e f other (open_before e e_is early p p_is on_e after)
                      (open_before f f_is also p p_is on_f after) p p_is on_e on_f after upto)),
                ),
              )

              from : IsBelow (at_pass k) (abscissa_in d p) ⊎ IsAtMost (abscissa_in d p) (at_pass k)
                  → (q : Point) × (IsEnd q e × IsEnd q f)
              from (inl after) = late after (a_passed e e_is) (a_passed f f_is)
              from (inr before) = now.met e f e_is f_is other p p_is on_e on_f before

          -- the list is that of the edges over which the line stands just after the corner
          pub open_then : AreOpen d loops (pass_of d c.at) (front ++ (new ++ back))
          open_then = record {
            there = there_then;
            each = each_then;
            sorted = sorted_then;
            near = near_then;
            met = met_then;
          }
