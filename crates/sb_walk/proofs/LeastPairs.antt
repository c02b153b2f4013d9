-- The first space that shares a gap with a later one, with the first of these, is the least pair.

use Rattle.std.proofs.Common.{◌≡◌, inl, inr, refl, sym, ap, ◌∙◌, subst, arith, ℕ, ◌<◌, ◌≤◌}
use Rattle.std.proofs.Common.{Bool, true, false, cond, IsTrue, List, [], ◌∷◌, length, Option, Some, None}
use Rattle.std.proofs.Common.{IfSome, IfNone}
use Rattle.std.specs.List.{find, AllByRecursion}
use Rattle.std.proofs.lemmas.Bool.{false≢true}
use Rattle.theory_lists.specs.Members.{Stands, AllOfTwo}
use Rattle.theory_lists.proofs.Members.{all_stands}
use Rattle.theory_numbers.specs.Arrows.{Arrow}
use Rattle.sb_model.specs.declared.products.Space.{Space}
use Rattle.sb_model.specs.Building.{Building, is_building}
use Rattle.sb_model.specs.PlanEdges.{PlanEdge, plan_edges}
use Rattle.theory_models.proofs.NumbersApart.{own_numbers}
use Rattle.theory_lines.specs.Slabs.{IsSlab, IsSlabOrder}
use Rattle.sb_fraction.specs.Lines.{arrow_along}
use Rattle.sb_fraction.specs.Numbers.{number}
use Rattle.sb_frame.specs.Directions.{along_x}
use Rattle.sb_frame.specs.Network.{Network, IsNetwork}
use Rattle.sb_frame.specs.declared.slab.Slab.{Slab}
use Rattle.sb_walk.specs.Overlaps.{IsSlabOf, HaveCommonPoint, OverlapOver, IsUpTo, IsLeastOverlap, HaveNoOverlapOver}
use Rattle.sb_walk.specs.Shared.{share_over, least_pair, with_partner}
use Rattle.sb_walk.proofs.SharedGaps.{share_is, places_in}

-- spaces by rising numbers
abbrev AreRising : List Space → Type 0
AreRising = AllOfTwo (λ s t. s.number < t.number)

-- ---- the first that passes a test

-- it passes, and of all that pass it has the least number
record IsFirst (test : Space → Bool) (list : List Space) (t : Space) : Type 0 where
  there : Stands t list
  passes : test t ≡ true
  least : (u : Space) → Stands u list → test u ≡ true → t.number ≤ u.number

abbrev IsFound : (Space → Bool) → List Space → Option Space → Type 0
IsFound test list (Some t) = IsFirst test list t
IsFound test list None = (u : Space) → Stands u list → test u ≡ true → ⊥

found : (test : Space → Bool) (list : List Space) → AreRising list
    → IsFound test list (find test list)
found test [] rising = λ u u_in passes. u_in
found test (s ∷ list) rising = by (test s) refl (find test list) (found test list rising.1)
  where
    least_here : (u : Space) → Stands u (s ∷ list) → s.number ≤ u.number
    least_here u (inl same) = let n = ap (λ (x : Space). x.number) same in omega arith
    least_here u (inr later) =
        let less = all_stands (λ (x : Space). s.number < x.number) u list rising.0 later in omega arith

    not_here : test s ≡ false → (u : Space) → u ≡ s → test u ≡ true → ⊥
    not_here fails u same passes = false≢true (sym fails ∙ sym (ap test same) ∙ passes)

    by : (b : Bool) → test s ≡ b → (o : Option Space) → IsFound test list o
        → IsFound test (s ∷ list) (cond b (Some s) o)
    by true passes o rest =
        record { there = inl refl; passes = passes; least = λ u u_in u_passes. least_here u u_in }
    by false fails (Some t) rest =
        record { there = inr rest.there; passes = rest.passes; least = least }
      where
        least : (u : Space) → Stands u (s ∷ list) → test u ≡ true → t.number ≤ u.number
        least u (inl same) passes = absurd (not_here fails u same passes)
        least u (inr later) passes = rest.least u later passes
    by false fails None rest = none
      where
        none : (u : Space) → Stands u (s ∷ list) → test u ≡ true → ⊥
        none u (inl same) passes = not_here fails u same passes
        none u (inr later) passes = rest u later passes

-- ---- the least pair

module _ (edges : List PlanEdge) (order : List ℕ) where
  -- these two, and of all pairs that share a gap the least
  record IsLeast (list : List Space) (pair : ℕ × ℕ) : Type 0 where
    first : Space
    second : Space
    first_in : Stands first list
    second_in : Stands second list
    first_is : first.number ≡ pair.0
    second_is : second.number ≡ pair.1
    rising : first.number < second.number
    passes : share_over edges order first second ≡ true
    least : (s t : Space) → Stands s list → Stands t list → s.number < t.number
        → share_over edges order s t ≡ true → IsUpTo pair.0 pair.1 s.number t.number

  abbrev HasLeast : List Space → Option (ℕ × ℕ) → Type 0
  HasLeast list (Some pair) = IsLeast list pair
  HasLeast list None =
      (s t : Space) → Stands s list → Stands t list → s.number < t.number
      → share_over edges order s t ≡ true → ⊥

  has_least : (list : List Space) → AreRising list → HasLeast list (least_pair edges order list)
  has_least [] rising = λ s t s_in t_in less passes. s_in
  has_least (s ∷ list) rising =
      by (find (share_over edges order s) list) (found (share_over edges order s) list rising.1)
      (least_pair edges order list) (has_least list rising.1)
    where
      later_is_more : (u : Space) → Stands u list → s.number < u.number
      later_is_more u u_in = all_stands (λ (x : Space). s.number < x.number) u list rising.0 u_in

      -- the greater of two stands behind the first
      behind : (x y : Space) → Stands x (s ∷ list) → Stands y (s ∷ list) → x.number < y.number
          → Stands y list
      behind x y x_in (inr later) less = later
      behind x y (inl same_x) (inl same_y) less =
          let m = ap (λ (z : Space). z.number) same_x in
          let n = ap (λ (z : Space). z.number) same_y in
          absurd (omega arith)
      behind x y (inr later) (inl same_y) less =
          let more = later_is_more x later in
          let n = ap (λ (z : Space). z.number) same_y in
          absurd (omega arith)

      up_to : (t x y : Space) → IsFirst (share_over edges order s) list t
          → Stands x (s ∷ list) → Stands y (s ∷ list) → x.number < y.number
          → share_over edges order x y ≡ true → IsUpTo s.number t.number x.number y.number
      up_to t x y is (inl same) y_in less passes =
          inr (
            ap (λ (z : Space). z.number) (sym same),
            is.least y (behind x y (inl same) y_in less)
                (subst (λ (z : Space). share_over edges order z y ≡ true) same passes),
          )
      up_to t x y is (inr later) y_in less passes = inl (later_is_more x later)

      by : (o : Option Space) → IsFound (share_over edges order s) list o
          → (other : Option (ℕ × ℕ)) → HasLeast list other
          → HasLeast (s ∷ list) (with_partner s.number o other)
      by (Some t) is other rest =
          record {
            first = s;
            second = t;
            first_in = inl refl;
            second_in = inr is.there;
            first_is = refl;
            second_is = refl;
            rising = later_is_more t is.there;
            passes = is.passes;
            least = λ x y x_in y_in less passes. up_to t x y is x_in y_in less passes;
          }
      by None none (Some pair) rest =
          record {
            first = rest.first;
            second = rest.second;
            first_in = inr rest.first_in;
            second_in = inr rest.second_in;
            first_is = rest.first_is;
            second_is = rest.second_is;
            rising = rest.rising;
            passes = rest.passes;
            least = least;
          }
        where
          least : (x y : Space) → Stands x (s ∷ list) → Stands y (s ∷ list) → x.number < y.number
              → share_over edges order x y ≡ true → IsUpTo pair.0 pair.1 x.number y.number
          least x y (inl same) y_in less passes =
              absurd
              (none y (behind x y (inl same) y_in less)
              (subst (λ (z : Space). share_over edges order z y ≡ true) same passes))
          least x y (inr later) y_in less passes =
              rest.least x y later (behind x y (inr later) y_in less) less passes
      by None none None rest = no_pair
        where
          no_pair : (x y : Space) → Stands x (s ∷ list) → Stands y (s ∷ list) → x.number < y.number
              → share_over edges order x y ≡ true → ⊥
          no_pair x y (inl same) y_in less passes =
              none y (behind x y (inl same) y_in less)
              (subst (λ (z : Space). share_over edges order z y ≡ true) same passes)
          no_pair x y (inr later) y_in less passes =
              rest x y later (behind x y (inr later) y_in less) less passes

-- ---- of a model

module _ (m : Building) (valid : IsTrue (is_building m)) (low high : Arrow)
    (slab : IsSlab m along_x low high) (order : List ℕ)
    (is : IsSlabOrder (plan_edges m) along_x low high order) where
  shares : (s t : Space) → Stands s m.spaces → Stands t m.spaces → HaveCommonPoint low high s t
      → share_over (plan_edges m) order s t ≡ true
  shares s t s_in t_in common = (share_is m valid low high slab order is s t s_in t_in).1 common

  of_pair : (o : Option (ℕ × ℕ)) → HasLeast (plan_edges m) order m.spaces o
      → IfSome o (λ pair. IsLeastOverlap m low high pair.0 pair.1)
      × IfNone o (HaveNoOverlapOver m low high)
  of_pair (Some pair) least = (
    record {
      rising =
          let a = least.first_is in let b = least.second_is in let less = least.rising in omega arith;
      overlap =
          record {
            first = least.first;
            second = least.second;
            first_in = least.first_in;
            second_in = least.second_in;
            first_is = least.first_is;
            second_is = least.second_is;
            common =
                (share_is m valid low high slab order is least.first least.second least.first_in
                least.second_in).0 least.passes;
          };
      least = λ x y less overlap. up_to x y less overlap;
    },
    tt,
  )
    where
      up_to : (x y : ℕ) → x < y → OverlapOver m low high x y → IsUpTo pair.0 pair.1 x y
      up_to x y less o =
          subst (λ n. IsUpTo pair.0 pair.1 x n) o.second_is
          (subst (λ n. IsUpTo pair.0 pair.1 n o.second.number) o.first_is
          (least.least o.first o.second o.first_in o.second_in
          (let a = o.first_is in let b = o.second_is in omega arith)
          (shares o.first o.second o.first_in o.second_in o.common)))
  of_pair None none = (tt, no_pair)
    where
      no_pair : HaveNoOverlapOver m low high
      no_pair x y less o =
          none o.first o.second o.first_in o.second_in
          (let a = o.first_is in let b = o.second_is in omega arith)
          (shares o.first o.second o.first_in o.second_in o.common)

  -- the pair that is found is the least one, and where none is found there is none
  pub least_is : IfSome (least_pair (plan_edges m) order m.spaces)
      (λ pair. IsLeastOverlap m low high pair.0 pair.1)
      × IfNone (least_pair (plan_edges m) order m.spaces) (HaveNoOverlapOver m low high)
  least_is =
      of_pair (least_pair (plan_edges m) order m.spaces)
      (has_least (plan_edges m) order m.spaces (own_numbers m valid).spaces.rise)

-- ---- by the call's arguments

module _ (m : Building) (n : Network) (s : Slab) (network : IsNetwork m n) (is : IsSlabOf m s)
    (way : arrow_along s.direction ≡ along_x) where
  slab_is : IsSlab m along_x (number s.low) (number s.high)
  slab_is =
      subst (λ d. IsSlab m d (number s.low) (number s.high)) way is.neighbours.slab

  order_is : IsSlabOrder (plan_edges m) along_x (number s.low) (number s.high) s.order
  order_is =
      subst (λ d. IsSlabOrder (plan_edges m) d (number s.low) (number s.high) s.order) way is.order

  pub order_fits : IsTrue (is_building m) → (order : List ℕ) → order ≡ s.order
      → AllByRecursion (λ k. k < length n.edges) order
  order_fits valid order same =
      subst (λ (ks : List ℕ). AllByRecursion (λ k. k < length n.edges) ks) (sym same)
      (subst (λ (es : List PlanEdge). AllByRecursion (λ k. k < length es) s.order)
      (sym network.edges)
      (places_in m valid (number s.low) (number s.high) slab_is s.order order_is))

  pub overlap_is : IsTrue (is_building m) → (order : List ℕ) → order ≡ s.order
      → (spaces : List Space) → spaces ≡ m.spaces
      → (r : Option (ℕ × ℕ)) → r ≡ least_pair n.edges order spaces
      → IfSome r (λ pair. IsLeastOverlap m (number s.low) (number s.high) pair.0 pair.1)
      × IfNone r (HaveNoOverlapOver m (number s.low) (number s.high))
  overlap_is valid order same spaces same_spaces r r_is =
      subst
      (λ (o : Option (ℕ × ℕ)).
      IfSome o (λ pair. IsLeastOverlap m (number s.low) (number s.high) pair.0 pair.1)
      × IfNone o (HaveNoOverlapOver m (number s.low) (number s.high)))
      (sym
      (r_is
      ∙ ap (λ (es : List PlanEdge). least_pair es order spaces) network.edges
      ∙ ap (λ (ks : List ℕ). least_pair (plan_edges m) ks spaces) same
      ∙ ap (least_pair (plan_edges m) s.order) same_spaces))
      (least_is m valid (number s.low) (number s.high) slab_is s.order order_is)
