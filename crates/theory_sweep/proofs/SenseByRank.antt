-- Of loops that are apart the solid lies on the left of an edge, over which the line begins to
-- stand as
-- it passes its end a, exactly where an even number of edges lie below it.

use Rattle.std.proofs.Common.{◌≡◌, ◌⊎◌, inl, inr, refl, sym, ap, ap₂, ◌∙◌, arith, ℤ, pos, subst}
use Rattle.std.proofs.Common.{◌<ℤ◌, ◌≤ℤ◌, ◌+ℤ◌, ◌-ℤ◌, ◌*ℤ◌, Bool, true, false, not, List, []}
use Rattle.std.proofs.Common.{◌∷◌, ◌++◌, map, if◌then◌else◌, int_lt, int_le}
use Rattle.std.specs.Ordering.{int_eq}
use Rattle.std.specs.List.{AllByRecursion, list_all}
use Rattle.std.proofs.lemmas.Int.{ints}
use Rattle.std.proofs.lemmas.Bool.{and_parts, and_from, false≢true}
use Rattle.std.proofs.lemmas.Bool.Decides.{Decides-int_eq}
use Rattle.theory_lists.specs.Members.{Stands, AllOfTwo, AreOnce}
use Rattle.theory_lists.specs.Parity.{differ, is_odd_number}
use Rattle.theory_lists.proofs.Members.{all_stands, two_follow}
use Rattle.theory_lists.proofs.Blocks.{stands_before, stands_behind, two_in_parts}
use Rattle.theory_lists.proofs.Parity.{is_odd_number-same, is_odd_number-map}
use Rattle.theory_numbers.specs.Arrows.{Arrow, arrow, cross, dot}
use Rattle.theory_numbers.specs.Rationals.{IsRational, IsBelow, IsSame, is_below}
use Rattle.theory_numbers.proofs.Vectors.Arrows.{cross-self}
use Rattle.theory_numbers.proofs.Vectors.Lengths.{some_length, no_length}
use Rattle.theory_numbers.proofs.Fractions.Rationals.{below_clash, at_most_from_below, number_cases}
use Rattle.theory_numbers.proofs.Fractions.Rationals.{below_irrefl}
use Rattle.theory_numbers.proofs.Shapes.{var, num, plus, minus, times, negated, equal, cross_by}
use Rattle.theory_numbers.proofs.Shapes.{dot_is}
use Rattle.theory_numbers.proofs.Signs.{less_from, test_less, test_not_less, at_most_from}
use Rattle.theory_numbers.proofs.Signs.{less_or_not, order_cases}
use Rattle.sb_fraction.specs.declared.point.Point.{Point}
use Rattle.sb_fraction.specs.Spots.{Spot, IsSpot}
use Rattle.sb_fraction.specs.Edges.{Edge, span_of, seen_from, turn_at, reach_at, is_on}
use Rattle.sb_fraction.specs.Lines.{reaches_past, lies_after}
use Rattle.theory_plans.specs.LoopEdges.{edges_of}
use Rattle.theory_plans.specs.Loops.{is_bent_loop}
use Rattle.theory_plans.specs.Plans.{is_solid_left_of, middle_of}
use Rattle.theory_plans.specs.Rays.{is_struck}
use Rattle.theory_plans.proofs.CommonPointIsCorner.{IsAt}
use Rattle.theory_parity.specs.Below.{IsWay, down_from, is_lower_at, spot_in, value_of}
use Rattle.theory_parity.specs.Sides.{AreBentApart, turned_edge}
use Rattle.theory_parity.proofs.SolidOnTheLeft.AlongAnEdge.{along_an_edge}
use Rattle.theory_parity.proofs.Rays.BelowByValue.{below_by_value, spot_in_is}
use Rattle.theory_parity.proofs.SolidOnTheLeft.EdgesApart.{long_edges, alone_inside}
use Rattle.theory_parity.proofs.Rays.InsideByBelow.{below_is_struck}
use Rattle.theory_parity.proofs.SolidOnTheLeft.OneSideALoop.{to_the_right}
use Rattle.theory_parity.proofs.SolidOnTheLeft.OwnPoints.{IsOwn, own_from_on, middle_is_own}
use Rattle.theory_parity.proofs.SolidOnTheLeft.RaysFromEdges.{right_ray, IsAloneAt}
use Rattle.theory_parity.proofs.SolidOnTheLeft.TurnedLoops.{struck-turned}
use Rattle.theory_sweep.specs.Passing.{pass_of, at_pass, IsRising}
use Rattle.theory_sweep.specs.Corners.{ArePassedApart}
use Rattle.theory_sweep.specs.Open.{IsEdgeOf, IsOpenAt, AreOpen}
use Rattle.theory_sweep.proofs.ApartWhenPassed.{starts_are_once, no_way_back, ends_differ}
use Rattle.theory_sweep.proofs.ApartWhenPassed.{two_images}
use Rattle.theory_sweep.proofs.OrderIsKept.{IsInOrderAt}
use Rattle.theory_sweep.proofs.NeighboursInOrder.{stands_in_either}
use Rattle.theory_sweep.proofs.OverACorner.{in_order_up_to}
use Rattle.theory_sweep.proofs.PassingItems.{odd_if_passing}
use Rattle.theory_sweep.proofs.PointsOfRisingEdges.{rises, value_is, over_place, passed_there}
use Rattle.theory_sweep.proofs.PointsOfRisingEdges.{same_place}

-- ---- half way to the next whole number

-- k + 1/2
abbrev pub half_after : ℤ → Arrow
half_after k = arrow (pos 2) ((pos 2 *ℤ k) +ℤ pos 1)

half_is : (k : ℤ) → IsRational (half_after k)
half_is k = omega (arith, ints)

from_whole : (k a : ℤ) → cross (at_pass a) (half_after k) ≡ (pos 2 *ℤ (k -ℤ a)) +ℤ pos 1
from_whole k a =
    equal
    (cross_by (at_pass a) (half_after k) (num 1) (var a) (num 2) (plus (times (num 2) (var k))
    (num 1)))
    (plus (times (num 2) (minus (var k) (var a))) (num 1)) (omega arith)

to_whole : (k a : ℤ) → cross (half_after k) (at_pass a) ≡ (pos 2 *ℤ (a -ℤ k)) -ℤ pos 1
to_whole k a =
    equal
    (cross_by (half_after k) (at_pass a) (num 2) (plus (times (num 2) (var k)) (num 1)) (num 1)
    (var a))
    (minus (times (num 2) (minus (var a) (var k))) (num 1)) (omega arith)

after_whole : (k a : ℤ) → a ≤ℤ k → IsBelow (at_pass a) (half_after k)
after_whole k a less = let whole = from_whole k a in omega (arith, ints)

before_whole : (k a : ℤ) → k <ℤ a → IsBelow (half_after k) (at_pass a)
before_whole k a less = let whole = to_whole k a in omega (arith, ints)

no_whole : (k a : ℤ) → IsSame (half_after k) (at_pass a) → ⊥
no_whole k a same = let whole = to_whole k a in omega (arith, ints)

-- ---- an edge over which the line stands

module _ (d : Arrow) (d_is : IsWay d) (loops : List (List Point)) (are : AreBentApart loops)
    (k : ℤ) (e : Edge) (e_in : Stands e (edges_of loops)) (rising : IsRising d e)
    (begun : pass_of d e.a ≤ℤ k) (goes_on : k <ℤ pass_of d e.b) where
  abbrev u : Arrow
  u = half_after k

  abbrev here : Spot
  here = spot_in d (half_after k) (value_of d (half_after k) e)

  value_in : IsRational (value_of d (half_after k) e)
  value_in = value_is d (half_after k) e rising (half_is k)

  here_is : IsSpot here
  here_is = spot_in_is d (half_after k) (value_of d (half_after k) e) d_is (half_is k) value_in

  on_here : is_on here e ≡ true
  on_here =
      over_place d d_is e rising (half_after k) (value_of d (half_after k) e) (half_is k) value_in
      (at_most_from_below (at_pass (pass_of d e.a)) (half_after k)
      (after_whole k (pass_of d e.a) begun))
      (at_most_from_below (half_after k) (at_pass (pass_of d e.b))
      (before_whole k (pass_of d e.b) goes_on))
      (cross-self (value_of d (half_after k) e))

  no_corner : (p : Point) → IsAt here p → ⊥
  no_corner p at =
      no_whole k (pass_of d p)
      (same_place d (half_after k) (value_of d (half_after k) e) (at_pass
      (pass_of d p)) d_is value_in
      (passed_there d here p at))

  away : (p : Point) → pos 0 <ℤ dot (seen_from here p) (seen_from here p)
  away p =
      some_length (seen_from here p)
      (λ none. no_corner p (no_length (seen_from here p) (omega (arith, ints))))

  own_here : IsOwn e here
  own_here =
      let parts = and_parts (int_eq (turn_at e here) (pos 0)) (int_le (reach_at e here)
      (pos 0)) on_here
      in
      own_from_on e here here_is ((Decides-int_eq (turn_at e here) (pos 0)).0 parts.0)
      (at_most_from (reach_at e here) (pos 0) parts.1) (away e.a) (away e.b)

  down_is : cross (down_from d) (span_of e) ≡ dot d (span_of e)
  down_is =
      equal (cross_by (down_from d) (span_of e) (var d.y) (negated (var d.x)) (var (span_of e).x)
      (var (span_of e).y)) (dot_is d (span_of e)) (omega arith)

  -- the ray from there down tells on which side the solid lies
  left_by_ray : is_solid_left_of e (edges_of loops)
      ≡ not (is_odd_number (is_struck (down_from d) here) (edges_of loops))
  left_by_ray =
      let long = long_edges loops are e e_in in
      let alone : (p : Spot) → IsOwn e p → IsAloneAt (edges_of loops) e p =
      alone_inside loops are e e_in long in
      ap not
      (to_the_right loops are e e_in
      ∙ sym (along_an_edge loops e long alone here (middle_of e) own_here (middle_is_own e long))
      ∙ sym (right_ray loops e here long own_here (alone here own_here) (down_from d)
      (let up = rises d e rising in let same = down_is in omega (arith, ints))))

  -- it strikes the edges that lie lower over this place
  struck_is_lower : (g : Edge) → is_struck (down_from d) here g
      ≡ is_lower_at d (half_after k) (value_of d (half_after k) e) g
  struck_is_lower g =
      sym (below_is_struck d here g d_is here_is)
      ∙ below_by_value d (half_after k) (value_of d (half_after k) e) g d_is (half_is k) value_in

-- ---- rising edges over the place

module _ (d : Arrow) (k : ℤ) where
  after_test : (p : Point) → k <ℤ pass_of d p → lies_after d (half_after k) p ≡ true
  after_test p later =
      test_less (pos 0) (cross (half_after k) (at_pass (pass_of d p)))
      (before_whole k (pass_of d p) later)

  before_test : (p : Point) → pass_of d p ≤ℤ k → lies_after d (half_after k) p ≡ false
  before_test p early =
      test_not_less (pos 0) (cross (half_after k) (at_pass (pass_of d p)))
      (let whole = to_whole k (pass_of d p) in omega (arith, ints))

  reaching : (e : Edge) → pass_of d e.a ≤ℤ k → k <ℤ pass_of d e.b
      → reaches_past d (half_after k) e ≡ true
  reaching e begun goes_on = ap₂ differ (before_test e.a begun) (after_test e.b goes_on)

  reached : (e : Edge) → IsRising d e → reaches_past d (half_after k) e ≡ true
      → (pass_of d e.a ≤ℤ k) × (k <ℤ pass_of d e.b)
  reached e rising reaches = from (less_or_not k (pass_of d e.a)) (less_or_not k (pass_of d e.b))
    where
      from : (k <ℤ pass_of d e.a) ⊎ (pass_of d e.a ≤ℤ k) → (k <ℤ pass_of d e.b) ⊎
          (pass_of d e.b ≤ℤ k)
          → (pass_of d e.a ≤ℤ k) × (k <ℤ pass_of d e.b)
      from (inl late) (inl on) =
          absurd (false≢true (sym (ap₂ differ (after_test e.a late) (after_test e.b on)) ∙ reaches))
      from (inl late) (inr over) = let up = rising in absurd (omega (arith, ints))
      from (inr early) (inl on) = (early, on)
      from (inr early) (inr over) =
          absurd (false≢true (sym (ap₂ differ (before_test e.a early) (before_test e.b over))
          ∙ reaches))

-- ---- the edges, each in the sense in which it is rising

abbrev risen : Arrow → Edge → Edge
risen d x = if int_lt (pass_of d x.a) (pass_of d x.b) then x else turned_edge x

risen_cases : (d : Arrow) (x : Edge) → (risen d x ≡ x) ⊎ (risen d x ≡ turned_edge x)
risen_cases d x = by (int_lt (pass_of d x.a) (pass_of d x.b))
  where
    by : (b : Bool) → ((if b then x else turned_edge x) ≡ x) ⊎ ((if b then x else turned_edge x)
        ≡ turned_edge x)
    by true = inl refl
    by false = inr refl

stands_image : {X Y : Type 0} (f : X → Y) (x : X) (xs : List X) → Stands x xs → Stands (f x)
    (map f xs)
stands_image f x [] at = absurd at
stands_image f x (y ∷ ys) (inl one) = inl (ap f one)
stands_image f x (y ∷ ys) (inr later) = inr (stands_image f x ys later)

module _ {X Y : Type 0} (f : X → Y) (y : Y) where
  image_stands : (xs : List X) → Stands y (map f xs) → (x : X) × (Stands x xs × (y ≡ f x))
  image_stands [] at = absurd at
  image_stands (x ∷ xs) (inl one) = (x, (inl refl, one))
  image_stands (x ∷ xs) (inr later) = further (image_stands xs later)
    where
      further : (z : X) × (Stands z xs × (y ≡ f z)) → (z : X) × (Stands z (x ∷ xs) × (y ≡ f z))
      further (z, found) = (z, (inr found.0, found.1))

risen_if_rising : (d : Arrow) (x : Edge) → IsRising d x → risen d x ≡ x
risen_if_rising d x rising = rw (test_less (pass_of d x.a) (pass_of d x.b) rising) refl

risen_if_falling : (d : Arrow) (x : Edge) → IsRising d (turned_edge x) → risen d x ≡ turned_edge x
risen_if_falling d x falling =
    rw (test_not_less (pass_of d x.a) (pass_of d x.b) (omega (arith, ints))) refl

module _ (d : Arrow) (loops : List (List Point)) (apart : ArePassedApart d loops)
    (bent : list_all is_bent_loop loops ≡ true) where
  risen_is : (x : Edge) → Stands x (edges_of loops) → IsEdgeOf d loops (risen d x)
  risen_is x x_in = from (order_cases (pass_of d x.a) (pass_of d x.b))
    where
      from : ((pass_of d x.a <ℤ pass_of d x.b) ⊎ (pass_of d x.a ≡ pass_of d x.b))
          ⊎ (pass_of d x.b <ℤ pass_of d x.a) → IsEdgeOf d loops (risen d x)
      from (inl (inl less)) =
          subst (IsEdgeOf d loops) (sym (risen_if_rising d x less))
          (record { rising = less; stands = inl x_in })
      from (inl (inr same)) = absurd (ends_differ d loops apart bent x x_in same)
      from (inr more) =
          subst (IsEdgeOf d loops) (sym (risen_if_falling d x more))
          (record { rising = more; stands = inr x_in })

  -- no two of them are one
  risen_once : AreOnce (map (risen d) (edges_of loops))
  risen_once =
      two_images (λ a b. a ≡ b → ⊥) (risen d) (edges_of loops)
      (two_follow (λ x y. x.a ≡ y.a → ⊥) (λ x y. risen d x ≡ risen d y → ⊥) (edges_of loops)
      (λ x y x_in y_in other same. from x y x_in y_in other same (risen_cases d x)
      (risen_cases d y))
      (starts_are_once d loops apart bent))
    where
      from : (x y : Edge) → Stands x (edges_of loops) → Stands y (edges_of loops)
          → (x.a ≡ y.a → ⊥) → risen d x ≡ risen d y
          → (risen d x ≡ x) ⊎ (risen d x ≡ turned_edge x)
          → (risen d y ≡ y) ⊎ (risen d y ≡ turned_edge y) → ⊥
      from x y x_in y_in other one (inl at_x) (inl at_y) =
          other (ap (λ g. g.a) (sym at_x ∙ one ∙ at_y))
      from x y x_in y_in other one (inr at_x) (inr at_y) =
          other (ap (λ g. g.b) (sym at_x ∙ one ∙ at_y))
      from x y x_in y_in other one (inl at_x) (inr at_y) =
          no_way_back d loops apart bent x y x_in y_in (ap (λ g. g.b) (sym at_x ∙ one ∙ at_y))
          (ap (λ g. g.a) (sym at_x ∙ one ∙ at_y))
      from x y x_in y_in other one (inr at_x) (inl at_y) =
          no_way_back d loops apart bent x y x_in y_in (ap (λ g. g.a) (sym at_x ∙ one ∙ at_y))
          (ap (λ g. g.b) (sym at_x ∙ one ∙ at_y))

-- ---- the edges below an edge

module _ (d : Arrow) (d_is : IsWay d) (loops : List (List Point)) (apart : ArePassedApart d loops)
    (are : AreBentApart loops) (k : ℤ) (es : List Edge) (now : AreOpen d loops k es)
    (front : List Edge) (s : Edge) (back : List Edge) (split : es ≡ front ++ s ∷ back)
    (s_in : Stands s (edges_of loops)) where
  s_open : IsOpenAt d loops k s
  s_open = now.there s (subst (Stands s) (sym split) (stands_behind s front (s ∷ back) (inl refl)))

  in_front : (z : Edge) → Stands z front → IsOpenAt d loops k z
  in_front z z_in =
      now.there z (subst (Stands z) (sym split) (stands_before z front (s ∷ back) z_in))

  orders : (AllOfTwo (IsInOrderAt d (half_after k)) front
      × AllOfTwo (IsInOrderAt d (half_after k)) (s ∷ back))
      × AllByRecursion (λ x. AllByRecursion (IsInOrderAt d (half_after k) x) (s ∷ back)) front
  orders =
      two_in_parts (IsInOrderAt d (half_after k)) front (s ∷ back)
      (subst (AllOfTwo (IsInOrderAt d (half_after k))) split
      (in_order_up_to d d_is loops apart are.bent k es now (half_after k) (half_is k)
      (after_whole k k (let same : k ≤ℤ k = omega (arith, ints) in same))
      (λ e e_in.
      at_most_from_below (half_after k) (at_pass (pass_of d e.b))
      (before_whole k (pass_of d e.b) (now.there e e_in).goes_on))))

  strict : (e f : Edge) → IsInOrderAt d (half_after k) e f
      → IsBelow (value_of d (half_after k) e) (value_of d (half_after k) f)
  strict e f pair = from (number_cases (value_of d (half_after k) e) (value_of d (half_after k) f))
    where
      from : (IsBelow (value_of d (half_after k) e) (value_of d (half_after k) f)
          ⊎ IsSame (value_of d (half_after k) e) (value_of d (half_after k) f))
          ⊎ IsBelow (value_of d (half_after k) f) (value_of d (half_after k) e)
          → IsBelow (value_of d (half_after k) e) (value_of d (half_after k) f)
      from (inl (inl below)) = below
      from (inl (inr same)) = absurd (no_whole k (pass_of d e.b) (pair.same same).1)
      from (inr above) =
          absurd
          (below_clash (value_of d (half_after k) f) (value_of d (half_after k) e) above pair.order)

  abbrev there_is : Spot
  there_is = spot_in d (half_after k) (value_of d (half_after k) s)

  lower : (g : Edge) → is_struck (down_from d) there_is g
      ≡ is_lower_at d (half_after k) (value_of d (half_after k) s) g
  lower g =
      struck_is_lower d d_is loops are k s s_in s_open.edge.rising s_open.begun s_open.goes_on g

  -- an edge that is struck lies before it in the list
  struck_first : (z : Edge) → IsEdgeOf d loops z → is_struck (down_from d) there_is z ≡ true
      → Stands z front
  struck_first z z_is struck =
      let parts = and_parts (reaches_past d (half_after k) z)
      (is_below (value_of d (half_after k) z) (value_of d (half_after k) s)) (sym (lower z)
      ∙ struck) in
      let over = reached d k z z_is.rising parts.0 in
      from
      (less_from (pos 0) (cross (value_of d (half_after k) z) (value_of d
      (half_after k) s)) parts.1)
      (stands_in_either z front (s ∷ back)
      (subst (Stands z) split
      (now.each z (record { edge = z_is; begun = over.0; goes_on = over.1 }))))
    where
      from : IsBelow (value_of d (half_after k) z) (value_of d (half_after k) s)
          → Stands z front ⊎ Stands z (s ∷ back) → Stands z front
      from below (inl at) = at
      from below (inr (inl one)) =
          absurd
          (below_irrefl (value_of d (half_after k) s)
          (subst (λ g. IsBelow (value_of d (half_after k) g) (value_of d
          (half_after k) s)) one below))
      from below (inr (inr later)) =
          let pair = all_stands (IsInOrderAt d (half_after k) s) z back orders.0.1.0 later in
          absurd
          (below_clash (value_of d (half_after k) z) (value_of d (half_after k) s) below pair.order)

  first_struck : (z : Edge) → Stands z front → is_struck (down_from d) there_is z ≡ true
  first_struck z z_in =
      let is = in_front z z_in in
      let pair =
      (all_stands (λ x. AllByRecursion (IsInOrderAt d (half_after k) x) (s ∷ back)) z front orders.1
      z_in).0 in
      lower z
      ∙ and_from (reaches_past d (half_after k) z)
      (is_below (value_of d (half_after k) z) (value_of d (half_after k) s))
      (reaching d k z is.begun is.goes_on)
      (test_less (pos 0) (cross (value_of d (half_after k) z) (value_of d (half_after k) s))
      (strict z s pair))

  first_risen : (z : Edge) → Stands z front → Stands z (map (risen d) (edges_of loops))
  first_risen z z_in = from (in_front z z_in).edge.stands
    where
      from : Stands z (edges_of loops) ⊎ Stands (turned_edge z) (edges_of loops)
          → Stands z (map (risen d) (edges_of loops))
      from (inl at) =
          subst (λ g. Stands g (map (risen d) (edges_of loops)))
          (risen_if_rising d z (in_front z z_in).edge.rising)
          (stands_image (risen d) z (edges_of loops) at)
      from (inr at) =
          subst (λ g. Stands g (map (risen d) (edges_of loops)))
          (risen_if_falling d (turned_edge z) (in_front z z_in).edge.rising)
          (stands_image (risen d) (turned_edge z) (edges_of loops) at)

  struck_risen : (x : Edge)
      → is_struck (down_from d) there_is (risen d x) ≡ is_struck (down_from d) there_is x
  struck_risen x = from (risen_cases d x)
    where
      from : (risen d x ≡ x) ⊎ (risen d x ≡ turned_edge x)
          → is_struck (down_from d) there_is (risen d x) ≡ is_struck (down_from d) there_is x
      from (inl one) = ap (is_struck (down_from d) there_is) one
      from (inr turned) =
          ap (is_struck (down_from d) there_is) turned ∙ struck-turned (down_from d) there_is x

  front_once : AreOnce front
  front_once =
      two_follow (IsInOrderAt d (half_after k)) (λ e f. e ≡ f → ⊥) front
      (λ e f e_in f_in pair one.
      below_irrefl (value_of d (half_after k) f)
      (subst (λ g. IsBelow (value_of d (half_after k) g) (value_of d (half_after k) f)) one
      (strict e f pair)))
      orders.0.0

  -- the solid lies on its left exactly where an even number of edges come before it in the list
  pub sense_by_rank : is_solid_left_of s (edges_of loops) ≡ not (is_odd_number (λ e. true) front)
  sense_by_rank =
      left_by_ray d d_is loops are k s s_in s_open.edge.rising s_open.begun s_open.goes_on
      ∙ ap not
      (sym
      (is_odd_number-map (is_struck (down_from d) there_is) (risen d) (edges_of loops)
      ∙ is_odd_number-same (λ x. is_struck (down_from d) there_is (risen d x))
      (is_struck (down_from d) there_is) struck_risen (edges_of loops))
      ∙ odd_if_passing (is_struck (down_from d) there_is) (map (risen d) (edges_of loops)) front
      (risen_once d loops apart are.bent) front_once
      (λ z z_in struck.
      let x = image_stands (risen d) z (edges_of loops) z_in in
      struck_first z
      (subst (IsEdgeOf d loops) (sym x.1.1) (risen_is d loops apart are.bent x.0 x.1.0)) struck)
      (λ z z_in. (first_risen z z_in, first_struck z z_in)))
