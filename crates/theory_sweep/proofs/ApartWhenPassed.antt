-- Once the line has passed all corners the loops are apart, if edges have met at their ends alone.

use Rattle.std.proofs.Common.{◌≡◌, ◌⊎◌, inl, inr, refl, sym, ap, ◌∙◌, arith, ℤ, pos, subst}
use Rattle.std.proofs.Common.{◌<ℤ◌, ◌≤ℤ◌, true, List, [], ◌∷◌, map}
use Rattle.std.specs.List.{list_all}
use Rattle.std.proofs.lemmas.Int.{ints}
use Rattle.std.proofs.lemmas.Bool.{or_left, or_right}
use Rattle.theory_lists.specs.Members.{Stands, AllOfTwo, AreOnce}
use Rattle.theory_lists.proofs.Members.{all_stands, all_images, two_follow, two_of_images}
use Rattle.theory_numbers.specs.Arrows.{Arrow}
use Rattle.theory_numbers.specs.Rationals.{IsRational, IsAtMost}
use Rattle.theory_numbers.proofs.Fractions.Rationals.{at_most_trans}
use Rattle.theory_numbers.proofs.Shapes.{var, num, minus, times, equal}
use Rattle.theory_numbers.proofs.Signs.{order_cases}
use Rattle.sb_fraction.specs.declared.point.Point.{Point}
use Rattle.sb_fraction.specs.Spots.{Spot}
use Rattle.sb_fraction.specs.Edges.{Edge, is_on}
use Rattle.theory_plans.specs.LoopEdges.{edges_of}
use Rattle.theory_plans.specs.Loops.{bend, is_bent_loop}
use Rattle.theory_plans.specs.Plans.{is_same_point, is_consecutive, are_apart, corners_in}
use Rattle.theory_plans.proofs.CommonPointIsCorner.{starts-edges_of}
use Rattle.theory_plans.proofs.Edges.EdgesOfPlans.{bent_is_not_0}
use Rattle.theory_parity.specs.Below.{IsWay, abscissa_in}
use Rattle.theory_parity.specs.Sides.{turned_edge}
use Rattle.theory_parity.proofs.SolidOnTheLeft.TurnedIsApart.{on-turned}
use Rattle.theory_loops.specs.Orders.{MeetConsecutively}
use Rattle.theory_loops.proofs.ApartInWords.{apart_is}
use Rattle.theory_sweep.specs.Passing.{pass_of, at_pass}
use Rattle.theory_sweep.specs.Corners.{Corner, corners_of, ArePassedApart}
use Rattle.theory_sweep.specs.Open.{IsEdgeOf, AreOpen, IsEnd, ShareEndsUpTo}
use Rattle.theory_sweep.proofs.EdgesByCorners.{corners-at, edge_starts, edge_finishes}
use Rattle.theory_sweep.proofs.EdgesByCorners.{corners_are_bent, IsBentAt}
use Rattle.theory_sweep.proofs.EdgesAtACorner.{corner_at_a, corner_at_b, one_corner, same_as_itself}
use Rattle.theory_sweep.proofs.PointsOfRisingEdges.{passed_between, cross_whole}
use Rattle.theory_sweep.proofs.OrderIsKept.{whole_is, whole_at_most}

-- what holds of each two items, in this form, holds of each two images
pub two_images : {X Y : Type 0} (R : Y → Y → Type 0) (f : X → Y) (xs : List X)
    → AllOfTwo (λ x y. R (f x) (f y)) xs → AllOfTwo R (map f xs)
two_images R f [] two = tt
two_images R f (x ∷ xs) two = (all_images (R (f x)) f xs two.0, two_images R f xs two.1)

-- a way that stays or goes back goes straight
bend_stays : (a b c : Point) → b ≡ c → bend a b c ≡ pos 0
bend_stays a b c same =
    ap (bend a b) (sym same)
    ∙ equal
    (minus (times (minus (var b.x) (var a.x)) (minus (var b.y) (var b.y)))
    (times (minus (var b.y) (var a.y)) (minus (var b.x) (var b.x))))
    (num 0) (omega arith)

bend_returns : (a b c : Point) → a ≡ c → bend a b c ≡ pos 0
bend_returns a b c same =
    ap (bend a b) (sym same)
    ∙ equal
    (minus (times (minus (var b.x) (var a.x)) (minus (var a.y) (var b.y)))
    (times (minus (var b.y) (var a.y)) (minus (var a.x) (var b.x))))
    (num 0) (omega arith)

-- ---- before the first corner

-- the line stands over no edge
pub none_at_first : (d : Arrow) → IsWay d → (loops : List (List Point)) (k : ℤ)
    → ((c : Corner) → Stands c (corners_of loops) → k <ℤ pass_of d c.at) → AreOpen d loops k []
none_at_first d d_is loops k before = record {
  there = λ e e_in. absurd e_in;
  each = λ e e_is. let later = begins e e_is.edge in let early = e_is.begun in absurd (omega
      (arith, ints));
  sorted = tt;
  near = tt;
  met = λ e f e_is f_is other p p_is on_e on_f upto.
      let between = passed_between d d_is e e_is.rising p p_is on_e in
      let p_in : IsRational (abscissa_in d p) = p_is in
      let back = at_most_trans (at_pass (pass_of d e.a)) (abscissa_in d p) (at_pass k)
      (whole_is (pass_of d e.a)) p_in (whole_is k) between.0 upto in
      let whole = cross_whole (pass_of d e.a) k in
      let later = begins e e_is in
      absurd (omega (arith, ints));
}
  where
    begins : (e : Edge) → IsEdgeOf d loops e → k <ℤ pass_of d e.a
    begins e e_is =
        let at = corner_at_a d loops e e_is in
        subst (λ p. k <ℤ pass_of d p) at.at (before at.corner at.stands)

-- ---- the edges, each run from the end that is passed first

module _ (d : Arrow) (loops : List (List Point)) (apart : ArePassedApart d loops)
    (bent : list_all is_bent_loop loops ≡ true) where
  bent_there : (c : Corner) → Stands c (corners_of loops) → IsBentAt c
  bent_there c c_in = all_stands IsBentAt c (corners_of loops) (corners_are_bent loops bent) c_in

  -- the ends of an edge are not passed together
  pub ends_differ : (x : Edge) → Stands x (edges_of loops) → pass_of d x.a ≡ pass_of d x.b → ⊥
  ends_differ x x_in same =
      let s = edge_starts loops x x_in in
      let f = edge_finishes loops x x_in in
      let one = one_corner d loops apart s.corner f.corner s.stands f.stands
      (ap (pass_of d) s.at ∙ same ∙ sym (ap (pass_of d) f.at)) in
      bent_is_not_0 (bend s.corner.before s.corner.at s.corner.after) (bent_there s.corner s.stands)
      (bend_stays s.corner.before s.corner.at s.corner.after
      (ap (λ t. t.at) one ∙ f.at ∙ sym s.after))

  -- the edge, in the sense in which it is rising
  pub record Rises (x : Edge) : Type 0 where
    pub risen : Edge
    pub is : (risen ≡ x) ⊎ (risen ≡ turned_edge x)
    pub edge : IsEdgeOf d loops risen

  pub rise_of : (x : Edge) → Stands x (edges_of loops) → Rises x
  rise_of x x_in = from (order_cases (pass_of d x.a) (pass_of d x.b))
    where
      from : ((pass_of d x.a <ℤ pass_of d x.b) ⊎ (pass_of d x.a ≡ pass_of d x.b))
          ⊎ (pass_of d x.b <ℤ pass_of d x.a) → Rises x
      from (inl (inl less)) =
          record { risen = x; is = inl refl; edge = record { rising = less; stands = inl x_in } }
      from (inl (inr same)) = absurd (ends_differ x x_in same)
      from (inr more) =
          record {
            risen = turned_edge x;
            is = inr refl;
            edge = record { rising = more; stands = inr x_in };
          }

  -- two edges that end at one point are one, as they begin at one
  pub begin_where_end : (x y : Edge) → Stands x (edges_of loops) → Stands y (edges_of loops)
      → x.b ≡ y.b → x.a ≡ y.a
  begin_where_end x y x_in y_in same =
      let f = edge_finishes loops x x_in in
      let g = edge_finishes loops y y_in in
      let one = one_corner d loops apart f.corner g.corner f.stands g.stands
      (ap (pass_of d) (f.at ∙ same ∙ sym g.at)) in
      sym f.before ∙ ap (λ t. t.before) one ∙ g.before

  -- no edge goes back over another
  pub no_way_back : (x y : Edge) → Stands x (edges_of loops) → Stands y (edges_of loops)
      → x.b ≡ y.a → x.a ≡ y.b → ⊥
  no_way_back x y x_in y_in on back =
      let f = edge_finishes loops x x_in in
      let s = edge_starts loops y y_in in
      let one = one_corner d loops apart f.corner s.corner f.stands s.stands
      (ap (pass_of d) (f.at ∙ on ∙ sym s.at)) in
      bent_is_not_0 (bend f.corner.before f.corner.at f.corner.after) (bent_there f.corner f.stands)
      (bend_returns f.corner.before f.corner.at f.corner.after
      (f.before ∙ back ∙ sym s.after ∙ sym (ap (λ t. t.after) one)))

  -- ---- corners and edges at different places

  pub corners_are_once : AreOnce (corners_in loops)
  corners_are_once =
      subst AreOnce (corners-at loops)
      (two_follow (λ a b. pass_of d a ≡ pass_of d b → ⊥) (λ a b. a ≡ b → ⊥)
      (map (λ c. c.at) (corners_of loops))
      (λ a b a_in b_in other same. other (ap (pass_of d) same))
      (two_images (λ a b. pass_of d a ≡ pass_of d b → ⊥) (λ c. c.at) (corners_of loops) apart))

  pub starts_are_once : AllOfTwo (λ x y. x.a ≡ y.a → ⊥) (edges_of loops)
  starts_are_once =
      two_of_images (λ a b. a ≡ b → ⊥) (λ e. e.a) (edges_of loops)
      (subst AreOnce (sym (starts-edges_of loops)) corners_are_once)

  -- ---- behind the last corner

  module _ (d_is : IsWay d) (k : ℤ) (met : ShareEndsUpTo d loops k)
      (passed : (c : Corner) → Stands c (corners_of loops) → pass_of d c.at ≤ℤ k) where
    end_of_sense : (x e : Edge) → (e ≡ x) ⊎ (e ≡ turned_edge x) → (q : Point) → IsEnd q e
        → IsEnd q x
    end_of_sense x e (inl one) q (inl a) = inl (sym (ap (λ g. g.a) one) ∙ a)
    end_of_sense x e (inl one) q (inr b) = inr (sym (ap (λ g. g.b) one) ∙ b)
    end_of_sense x e (inr one) q (inl a) = inr (sym (ap (λ g. g.a) one) ∙ a)
    end_of_sense x e (inr one) q (inr b) = inl (sym (ap (λ g. g.b) one) ∙ b)

    on_sense : (x e : Edge) → (e ≡ x) ⊎ (e ≡ turned_edge x) → (p : Spot) → is_on p x ≡ true
        → is_on p e ≡ true
    on_sense x e (inl one) p on = ap (is_on p) one ∙ on
    on_sense x e (inr one) p on = ap (is_on p) one ∙ on-turned p x ∙ on

    meet_so : (x y : Edge) → Stands x (edges_of loops) → Stands y (edges_of loops)
        → (x.a ≡ y.a → ⊥) → MeetConsecutively x y
    meet_so x y x_in y_in other p p_is on_x on_y =
        shared (met e.risen f.risen e.edge f.edge two_edges p p_is
        (on_sense x e.risen e.is p on_x) (on_sense y f.risen f.is p on_y) upto)
      where
        e : Rises x
        e = rise_of x x_in

        f : Rises y
        f = rise_of y y_in

        two_edges : (rise_of x x_in).risen ≡ (rise_of y y_in).risen → ⊥
        two_edges one = from (rise_of x x_in).is (rise_of y y_in).is
          where
            from : ((rise_of x x_in).risen ≡ x) ⊎ ((rise_of x x_in).risen ≡ turned_edge x)
                → ((rise_of y y_in).risen ≡ y) ⊎ ((rise_of y y_in).risen ≡ turned_edge y) → ⊥
            from (inl at_x) (inl at_y) = other (ap (λ g. g.a) (sym at_x ∙ one ∙ at_y))
            from (inr at_x) (inr at_y) = other (ap (λ g. g.b) (sym at_x ∙ one ∙ at_y))
            from (inl at_x) (inr at_y) =
                no_way_back x y x_in y_in (ap (λ g. g.b) (sym at_x ∙ one ∙ at_y))
                (ap (λ g. g.a) (sym at_x ∙ one ∙ at_y))
            from (inr at_x) (inl at_y) =
                no_way_back x y x_in y_in (ap (λ g. g.a) (sym at_x ∙ one ∙ at_y))
                (ap (λ g. g.b) (sym at_x ∙ one ∙ at_y))

        upto : IsAtMost (abscissa_in d p) (at_pass k)
        upto =
            let r = rise_of x x_in in
            let between = passed_between d d_is r.risen r.edge.rising p p_is
            (on_sense x r.risen r.is p on_x) in
            let p_in : IsRational (abscissa_in d p) = p_is in
            let at = corner_at_b d loops r.risen r.edge in
            at_most_trans (abscissa_in d p) (at_pass (pass_of d r.risen.b)) (at_pass k) p_in
            (whole_is (pass_of d r.risen.b)) (whole_is k) between.1
            (whole_at_most (pass_of d r.risen.b) k
            (subst (λ q. pass_of d q ≤ℤ k) at.at (passed at.corner at.stands)))

        ends : (q : Point) → IsEnd q x → IsEnd q y → is_consecutive x y ≡ true
        ends q (inl a) (inl b) = absurd (other (a ∙ sym b))
        ends q (inr a) (inr b) = absurd (other (begin_where_end x y x_in y_in (a ∙ sym b)))
        ends q (inr a) (inl b) =
            or_left (is_same_point x.b y.a) (is_same_point y.b x.a) (same_as_itself x.b y.a (a
            ∙ sym b))
        ends q (inl a) (inr b) =
            or_right (is_same_point x.b y.a) (is_same_point y.b x.a) (same_as_itself y.b x.a (b
            ∙ sym a))

        shared : (q : Point) × (IsEnd q (rise_of x x_in).risen × IsEnd q (rise_of y y_in).risen)
            → is_consecutive x y ≡ true
        shared (q, both) =
            ends q (end_of_sense x (rise_of x x_in).risen (rise_of x x_in).is q both.0)
            (end_of_sense y (rise_of y y_in).risen (rise_of y y_in).is q both.1)

    -- the loops are apart
    pub apart_when_passed : are_apart loops ≡ true
    apart_when_passed =
        (apart_is loops).1 (
          corners_are_once,
          two_follow (λ x y. x.a ≡ y.a → ⊥) MeetConsecutively
              (edges_of loops) meet_so starts_are_once,
        )
