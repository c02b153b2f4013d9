-- Of bent loops with edges that are apart no other edge passes strictly inside an edge, and none
-- but its two comes to a corner.

use Rattle.std.proofs.Common.{◌≡◌, refl, sym, ap, ◌∙◌, ◌⊎◌, inl, inr, arith, pos}
use Rattle.std.proofs.Common.{true, not, List, subst}
use Rattle.std.proofs.lemmas.Int.{ints}
use Rattle.std.proofs.lemmas.Bool.{false≢true}
use Rattle.std.proofs.lemmas.Bool.Decides.{Decides-int_eq}
use Rattle.theory_lists.specs.Members.{Stands}
use Rattle.theory_lists.specs.OneOf.{AtMostOne}
use Rattle.theory_lists.specs.Parity.{is_odd_number}
use Rattle.theory_lists.proofs.Members.{all_stands, any_stands, one_or_two, two_follow}
use Rattle.theory_lists.proofs.Parity.{odd_if_alone}
use Rattle.theory_numbers.specs.Arrows.{Arrow, arrow, cross, dot}
use Rattle.theory_numbers.proofs.Vectors.Arrows.{same_arrow, dot_comm}
use Rattle.theory_numbers.proofs.Vectors.Lengths.{long_if_crossed}
use Rattle.theory_numbers.proofs.Products.{positive_product}
use Rattle.theory_numbers.proofs.Shapes.{var, num, equal, cross_by, dot_by}
use Rattle.sb_fraction.specs.declared.point.Point.{Point}
use Rattle.sb_fraction.specs.Spots.{Spot, IsSpot}
use Rattle.sb_fraction.specs.Edges.{Edge, edge, span_of, seen_from, is_on}
use Rattle.theory_plans.specs.LoopEdges.{edges_of}
use Rattle.theory_plans.specs.Loops.{bend, is_bent}
use Rattle.theory_plans.proofs.CommonPointIsCorner.{IsAt, MeetAtCorner, IsFollowed}
use Rattle.theory_plans.proofs.CommonPointIsCorner.{edges_meet_at_corners, edges_are_followed}
use Rattle.theory_plans.proofs.CommonPointIsCorner.{one_edge_begins}
use Rattle.theory_parity.specs.Sides.{AreBentApart}
use Rattle.theory_parity.proofs.SolidOnTheLeft.OwnPoints.{IsAlong, IsPastA, IsBeforeB, IsOwn, IsLong}
use Rattle.theory_parity.proofs.SolidOnTheLeft.OwnPoints.{along_from_on, on_along, by_ends_dot}
use Rattle.theory_parity.proofs.SolidOnTheLeft.RaysFromEdges.{IsAloneAt}
use Rattle.theory_parity.proofs.SolidOnTheLeft.RoundACorner.{MeetAlone}

-- ---- a bent way

bend_is : (a c b : Point) → bend a c b ≡ cross (span_of (edge a c)) (span_of (edge c b))
unfolding cross
bend_is a c b = refl

-- its two edges do not lie on one line
pub bent_is : (a c b : Point) → is_bent a c b ≡ true
    → cross (span_of (edge a c)) (span_of (edge c b)) ≡ pos 0 → ⊥
bent_is a c b bent level =
    false≢true
    (ap not (sym ((Decides-int_eq (bend a c b) (pos 0)).1 (bend_is a c b ∙ level))) ∙ bent)

-- and have a length
long_if_bent : (a c b : Point) → is_bent a c b ≡ true → IsLong (edge a c)
long_if_bent a c b bent =
    (long_if_crossed (span_of (edge a c)) (span_of (edge c b)) (bent_is a c b bent)).0

-- ---- a corner is seen from itself at no distance

at_no_distance : (p : Spot) (c : Point) → IsAt p c → seen_from p c ≡ arrow (pos 0) (pos 0)
at_no_distance p c at = same_arrow (seen_from p c) (arrow (pos 0) (pos 0)) at.0 at.1

cross-no_distance : (r : Arrow) (p : Spot) (c : Point) → IsAt p c
    → cross r (seen_from p c) ≡ pos 0
cross-no_distance r p c at =
    ap (cross r) (at_no_distance p c at)
    ∙ equal (cross_by r (arrow (pos 0) (pos 0)) (var r.x) (var r.y) (num 0) (num 0)) (num 0)
    (omega arith)

dot-no_distance : (r : Arrow) (p : Spot) (c : Point) → IsAt p c → dot r (seen_from p c) ≡ pos 0
dot-no_distance r p c at =
    ap (dot r) (at_no_distance p c at)
    ∙ equal (dot_by r (arrow (pos 0) (pos 0)) (var r.x) (var r.y) (num 0) (num 0)) (num 0)
    (omega arith)

not_at_b : (e : Edge) (p : Spot) → IsBeforeB e p → IsAt p e.b → ⊥
not_at_b e p before at = let none = dot-no_distance (span_of e) p e.b at in omega (arith, ints)

not_at_a : (e : Edge) (p : Spot) → IsPastA e p → IsAt p e.a → ⊥
not_at_a e p past at = let none = dot-no_distance (span_of e) p e.a at in omega (arith, ints)

-- where an edge ends, it lies along itself and past its beginning
at_its_end : (e : Edge) (p : Spot) → IsLong e → IsSpot p → IsAt p e.b → IsAlong e p × IsPastA e p
at_its_end e p long p_is at =
    let turn = cross-no_distance (seen_from p e.a) p e.b at in
    let reach = dot-no_distance (seen_from p e.a) p e.b at in
    let whole = by_ends_dot e p (span_of e) in
    let ahead = dot-no_distance (span_of e) p e.b at in
    let same_b = dot_comm (span_of e) (seen_from p e.b) in
    let same_a = dot_comm (span_of e) (seen_from p e.a) in
    let product = positive_product p.w (dot (span_of e) (span_of e)) p_is long in
    (along_from_on e p p_is turn (omega (arith, ints)), omega (arith, ints))

module _ (loops : List (List Point)) (are : AreBentApart loops) where
  -- each edge has a length
  pub long_edges : (e : Edge) → Stands e (edges_of loops) → IsLong e
  long_edges e e_in =
      let next = all_stands (IsFollowed (edges_of loops)) e (edges_of loops)
      (edges_are_followed loops are.bent) e_in in
      long_if_bent e.a e.b next.next.b next.bent

  -- two edges with a common point are one, or one begins where the other ends, at this point
  meet_at_ends : (e g : Edge) → Stands e (edges_of loops) → Stands g (edges_of loops) → (p : Spot)
      → IsSpot p → is_on p e ≡ true → is_on p g ≡ true
      → (e ≡ g) ⊎ (((e.b ≡ g.a) × IsAt p e.b) ⊎ ((g.b ≡ e.a) × IsAt p g.b))
  meet_at_ends e g e_in g_in p p_is on_e on_g =
      from
      (one_or_two MeetAtCorner e g (edges_of loops)
      (edges_meet_at_corners loops are.bent are.apart) e_in g_in)
    where
      turned : ((g.b ≡ e.a) × IsAt p g.b) ⊎ ((e.b ≡ g.a) × IsAt p e.b)
          → ((e.b ≡ g.a) × IsAt p e.b) ⊎ ((g.b ≡ e.a) × IsAt p g.b)
      turned (inl first) = inr first
      turned (inr second) = inl second

      from : (e ≡ g) ⊎ (MeetAtCorner e g ⊎ MeetAtCorner g e)
          → (e ≡ g) ⊎ (((e.b ≡ g.a) × IsAt p e.b) ⊎ ((g.b ≡ e.a) × IsAt p g.b))
      from (inl one) = inl one
      from (inr (inl meet)) = inr (meet p p_is on_e on_g)
      from (inr (inr meet)) = inr (turned (meet p p_is on_g on_e))

  -- ---- strictly inside an edge

  -- an edge that comes to this one past its beginning is this one, or begins where it ends
  past_begin : (e g : Edge) → Stands e (edges_of loops) → Stands g (edges_of loops) → IsLong e
      → (p : Spot) → IsAlong e p → IsPastA e p → is_on p g ≡ true
      → (g ≡ e) ⊎ ((e.b ≡ g.a) × IsAt p e.b)
  past_begin e g e_in g_in long p along past on_g =
      from (meet_at_ends e g e_in g_in p along.is (on_along e p long along) on_g)
    where
      from : (e ≡ g) ⊎ (((e.b ≡ g.a) × IsAt p e.b) ⊎ ((g.b ≡ e.a) × IsAt p g.b))
          → (g ≡ e) ⊎ ((e.b ≡ g.a) × IsAt p e.b)
      from (inl one) = inl (sym one)
      from (inr (inl ends)) = inr ends
      from (inr (inr begins)) =
          absurd (not_at_a e p past (subst (IsAt p) begins.0 begins.1))

  -- strictly inside an edge no other passes
  pub alone_inside : (e : Edge) → Stands e (edges_of loops) → IsLong e → (p : Spot) → IsOwn e p
      → IsAloneAt (edges_of loops) e p
  alone_inside e e_in long p own g g_in on_g =
      from (past_begin e g e_in g_in long p own.along own.past on_g)
    where
      from : (g ≡ e) ⊎ ((e.b ≡ g.a) × IsAt p e.b) → g ≡ e
      from (inl one) = one
      from (inr ends) = absurd (not_at_b e p own.before ends.1)

  -- and this one at one place of the list
  once_inside : (e : Edge) → Stands e (edges_of loops) → IsLong e → (p : Spot) → IsOwn e p
      → AtMostOne (is_on p) (edges_of loops)
  once_inside e e_in long p own =
      two_follow MeetAtCorner (λ x y. is_on p x ≡ true → is_on p y ≡ true → ⊥) (edges_of loops)
      (λ x y x_in y_in meet on_x on_y.
      refused x y (alone_inside e e_in long p own x x_in on_x)
      (alone_inside e e_in long p own y y_in on_y) (meet p own.along.is on_x on_y))
      (edges_meet_at_corners loops are.bent are.apart)
    where
      refused : (x y : Edge) → x ≡ e → y ≡ e
          → ((x.b ≡ y.a) × IsAt p x.b) ⊎ ((y.b ≡ x.a) × IsAt p y.b) → ⊥
      refused x y same_x same_y (inl first) =
          not_at_b e p own.before (subst (λ g. IsAt p g.b) same_x first.1)
      refused x y same_x same_y (inr second) =
          not_at_b e p own.before (subst (λ g. IsAt p g.b) same_y second.1)

  -- which is an odd number of times
  pub odd_inside : (e : Edge) → Stands e (edges_of loops) → IsLong e → (p : Spot) → IsOwn e p
      → is_odd_number (is_on p) (edges_of loops) ≡ true
  odd_inside e e_in long p own =
      odd_if_alone (is_on p) (edges_of loops) (once_inside e e_in long p own)
      (any_stands (is_on p) e (edges_of loops) e_in (on_along e p long own.along))

  -- ---- at a corner

  -- there no edges come but the two
  pub alone_at_corner : (a c b : Point) → Stands (edge a c) (edges_of loops)
      → Stands (edge c b) (edges_of loops) → IsLong (edge a c) → IsLong (edge c b)
      → MeetAlone (edges_of loops) (edge a c) (edge c b)
  alone_at_corner a c b e_in f_in long_e long_f = record { arriving = arrive; leaving = leave }
    where
      arrive : (p : Spot) → IsAlong (edge a c) p → IsPastA (edge a c) p → (g : Edge)
          → Stands g (edges_of loops) → is_on p g ≡ true → (g ≡ edge a c) ⊎ (g ≡ edge c b)
      arrive p along past g g_in on_g =
          from (past_begin (edge a c) g e_in g_in long_e p along past on_g)
        where
          from : (g ≡ edge a c) ⊎ ((c ≡ g.a) × IsAt p c) → (g ≡ edge a c) ⊎ (g ≡ edge c b)
          from (inl one) = inl one
          from (inr ends) =
              inr (one_edge_begins loops are.apart g (edge c b) g_in f_in (sym ends.0))

      leave : (p : Spot) → IsAlong (edge c b) p → IsBeforeB (edge c b) p → (g : Edge)
          → Stands g (edges_of loops) → is_on p g ≡ true → (g ≡ edge a c) ⊎ (g ≡ edge c b)
      leave p along before g g_in on_g =
          from
          (meet_at_ends (edge c b) g f_in g_in p along.is (on_along (edge c b) p long_f along) on_g)
        where
          from : (edge c b ≡ g) ⊎ (((b ≡ g.a) × IsAt p b) ⊎ ((g.b ≡ c) × IsAt p g.b))
              → (g ≡ edge a c) ⊎ (g ≡ edge c b)
          from (inl one) = inr (sym one)
          from (inr (inl ends)) = absurd (not_at_b (edge c b) p before ends.1)
          from (inr (inr begins)) =
              let there =
              at_its_end (edge a c) p long_e along.is (subst (IsAt p) begins.0 begins.1) in
              arrive p there.0 there.1 g g_in on_g
