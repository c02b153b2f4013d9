-- The crossings of an edge with those behind it, edge after edge, are all crossings.

use Rattle.std.proofs.Common.{◌≡◌, ◌⊎◌, inl, inr, refl, sym, ◌∙◌, subst, arith, ◌<◌, ◌≤◌, ◌<ℤ◌, ◌≤ℤ◌}
use Rattle.std.proofs.Common.{ℕ, zero, suc, ◌+◌, ap₂, true, List, [], ◌∷◌, length, IsPermutation, drop, get_or}
use Rattle.std.proofs.Common.{add-one}
use Rattle.std.proofs.Math.Seq.{drop-cons}
use Rattle.std.proofs.Common.{Result, Ok, Err, IfOk}
use Rattle.std.specs.List.Sorted.{IsSortedByKey}
use Rattle.std.specs.Cmp.{int_cmp_is}
use Rattle.std.specs.Ordering.{int_cmp, is_lt}
use Rattle.std.specs.declared.alloc.AllocError.{AllocError}
use Rattle.std.specs.declared.cmp.Ordering.{Ordering}
use Rattle.std.specs.declared.cmp.Ordering.TheVariants.{Less}
use Rattle.std.proofs.lemmas.Cmp.{int_cmp_total}
use Rattle.std.proofs.lemmas.List.Sorted.{ranks_by}
use Rattle.sb_frame.proofs.Orders.RisingLists.{sorted_two}
use Rattle.std.proofs.Common.{ℤ, false, nat_lt}
use Rattle.std.proofs.lemmas.Bool.{ltb-true}
use Rattle.std.proofs.lemmas.Bool.Decides.{nat_tests}
use Rattle.std.proofs.lemmas.Int.{ints, by_lt_z}
use Rattle.std.proofs.lemmas.List.Sorted.{IsPermutation-sym}
use Rattle.theory_lists.specs.Members.{Stands, AllOfTwo}
use Rattle.theory_lists.proofs.InAnyOrder.{stands_permuted}
use Rattle.theory_lists.proofs.Members.{all_stands, all_that_stand, two_follow}
use Rattle.sb_fraction.specs.Spots.{Spot, IsSpot, spot_of}
use Rattle.sb_fraction.specs.Edges.{Edge, edge_of}
use Rattle.sb_fraction.specs.Crossings.{cross_at}
use Rattle.sb_frame.specs.declared.crossing.Crossing.{Crossing}
use Rattle.sb_frame.specs.declared.edge.PlanEdge.{PlanEdge}
use Rattle.sb_frame.specs.declared.finding.FoundCrossings.{FoundCrossings}
use Rattle.sb_frame.specs.declared.finding.FoundCrossings.TheVariants.{Within, Beyond}
use Rattle.sb_frame.specs.Network.{most_crossings}
use Rattle.sb_frame.specs.Crossings.{IsCrossingOf, CrossNowhere}
use Rattle.sb_frame.specs.Found.{Ascend, IsFound, IsAdded, CrossesOne, AreAdded, TwoCross, AreSome}
use Rattle.sb_frame.specs.Found.{AreAll, HasFound, left_of, right_of}
use Rattle.sb_frame.proofs.Meetings.ApartAlongX.{apart_along_x}
use Rattle.sb_frame.proofs.Meetings.PairsOfEdges.{CrossAhead, ahead_from_two, two_elsewhere}
use Rattle.sb_frame.proofs.Meetings.PointsOnce.{point_is, same_point_trans}

-- edges that begin one after another along x
abbrev pub BeginInOrder : List PlanEdge → Type 0
BeginInOrder = AllOfTwo (λ e f. left_of (edge_of e.segment) ≤ℤ left_of (edge_of f.segment))

found_in_more : (old new : List Crossing) (p : Spot) → ((c : Crossing) → Stands c old → Stands c new)
    → IsFound old p → IsFound new p
found_in_more old new p kept (c, known) = (c, (kept c known.0, known.1))

-- ---- one edge

-- of the crossings of an edge with others those are found that are not with an edge which is left
pub record AddedSoFar (e : Edge) (fs left : List PlanEdge) (old now : List Crossing) : Type 0 where
  pub ascend : Ascend now
  pub kept : (c : Crossing) → Stands c old → Stands c now
  pub only : (c : Crossing) → Stands c now → CrossesOne e fs (spot_of c.point) ⊎ Stands c old
  pub all : (p : Spot) → IsSpot p → CrossesOne e fs p → IsFound now p ⊎ CrossesOne e left p
  pub among : (f : PlanEdge) → Stands f left → Stands f fs
  pub in_order : BeginInOrder left

pub added_at_first : (e : Edge) (fs : List PlanEdge) (old : List Crossing) → Ascend old
    → BeginInOrder fs → AddedSoFar e fs fs old old
added_at_first e fs old ascend in_order =
    record {
      ascend = ascend;
      kept = λ c at. at;
      only = λ c at. inr at;
      all = λ p p_is crosses. inr crosses;
      among = λ f at. at;
      in_order = in_order;
    }

module _ (e : Edge) (fs rest : List PlanEdge) (f : PlanEdge) (old now : List Crossing)
    (before : AddedSoFar e fs (f ∷ rest) old now) where
  -- an edge that is not crossed is passed over
  pub added_none : CrossNowhere e (edge_of f.segment) → AddedSoFar e fs rest old now
  added_none nowhere =
      record {
        ascend = before.ascend;
        kept = before.kept;
        only = before.only;
        all = λ p p_is crosses. passed p p_is (before.all p p_is crosses);
        among = λ g at. before.among g (inr at);
        in_order = before.in_order.1;
      }
    where
      passed : (p : Spot) → IsSpot p → IsFound now p ⊎ CrossesOne e (f ∷ rest) p
          → IsFound now p ⊎ CrossesOne e rest p
      passed p p_is (inl found) = inl found
      passed p p_is (inr (g, (inr later, crosses))) = inr (g, (later, crosses))
      passed p p_is (inr (g, (inl same, crosses))) =
          absurd
          (nowhere p p_is
          (subst (λ (h : PlanEdge). cross_at p e (edge_of h.segment) ≡ true) same crosses))

  -- the crossing with an edge is put in
  pub added_one : (new : List Crossing) (c : Crossing)
      → IsCrossingOf e (edge_of f.segment) (spot_of c.point) → IsAdded c now new
      → AddedSoFar e fs rest old new
  added_one new c is added =
      record {
        ascend = added.ascend;
        kept = λ d at. added.kept d (before.kept d at);
        only = λ d at. new_or_old d (added.only d at);
        all = λ p p_is crosses. passed p p_is (before.all p p_is crosses);
        among = λ g at. before.among g (inr at);
        in_order = before.in_order.1;
      }
    where
      new_or_old : (d : Crossing) → (d ≡ c) ⊎ Stands d now
          → CrossesOne e fs (spot_of d.point) ⊎ Stands d old
      new_or_old d (inl same) =
          inl
          (subst (λ (x : Crossing). CrossesOne e fs (spot_of x.point)) (sym same)
          (f, (before.among f (inl refl), is.crosses)))
      new_or_old d (inr there) = before.only d there

      found_there : (p : Spot) → IsSpot p → cross_at p e (edge_of f.segment) ≡ true
          → IsFound new (spot_of c.point) → IsFound new p
      found_there p p_is crosses (d, known) = (
        d,
        (
          known.0,
          same_point_trans p (spot_of c.point) (spot_of d.point) (point_is c)
              (is.only p p_is crosses) known.1,
        ),
      )

      passed : (p : Spot) → IsSpot p → IsFound now p ⊎ CrossesOne e (f ∷ rest) p
          → IsFound new p ⊎ CrossesOne e rest p
      passed p p_is (inl found) = inl (found_in_more now new p added.kept found)
      passed p p_is (inr (g, (inr later, crosses))) = inr (g, (later, crosses))
      passed p p_is (inr (g, (inl same, crosses))) =
          inl
          (found_there p p_is
          (subst (λ (h : PlanEdge). cross_at p e (edge_of h.segment) ≡ true) same crosses)
          added.there)

  none_is_left : right_of e <ℤ left_of (edge_of f.segment) → (p : Spot) → IsSpot p
      → CrossesOne e (f ∷ rest) p → ⊥
  none_is_left apart p p_is (g, (inl same, crosses)) =
      apart_along_x e (edge_of f.segment) apart p p_is
      (subst (λ (h : PlanEdge). cross_at p e (edge_of h.segment) ≡ true) same crosses)
  none_is_left apart p p_is (g, (inr later, crosses)) =
      let further =
      all_stands (λ (h : PlanEdge). left_of (edge_of f.segment) ≤ℤ left_of (edge_of h.segment)) g
      rest before.in_order.0 later in
      apart_along_x e (edge_of g.segment) (omega (arith, ints)) p p_is crosses

  -- where an edge begins behind this one, all are found
  pub added_apart : right_of e <ℤ left_of (edge_of f.segment) → AreAdded e fs old now
  added_apart apart =
      record {
        ascend = before.ascend;
        kept = before.kept;
        only = before.only;
        all = λ few p p_is crosses. found p p_is (before.all p p_is crosses);
      }
    where
      found : (p : Spot) → IsSpot p → IsFound now p ⊎ CrossesOne e (f ∷ rest) p → IsFound now p
      found p p_is (inl there) = there
      found p p_is (inr crosses) = absurd (none_is_left apart p p_is crosses)

-- too many are enough
pub added_many : (e : Edge) (fs left : List PlanEdge) (old now : List Crossing)
    → AddedSoFar e fs left old now → most_crossings < length now → AreAdded e fs old now
added_many e fs left old now before many =
    record {
      ascend = before.ascend;
      kept = before.kept;
      only = before.only;
      all = λ few p p_is crosses. absurd (omega arith);
    }

-- at the end all are found
pub added_at_last : (e : Edge) (fs : List PlanEdge) (old now : List Crossing)
    → AddedSoFar e fs [] old now → AreAdded e fs old now
added_at_last e fs old now before =
    record {
      ascend = before.ascend;
      kept = before.kept;
      only = before.only;
      all = λ few p p_is crosses. found p (before.all p p_is crosses);
    }
  where
    found : (p : Spot) → IsFound now p ⊎ CrossesOne e [] p → IsFound now p
    found p (inl there) = there
    found p (inr (g, (at, crosses))) = absurd at

-- ---- all edges

-- of the crossings of edges those are found that are not of two edges which are left
pub record FoundSoFar (es rest : List PlanEdge) (now : List Crossing) : Type 0 where
  pub ascend : Ascend now
  pub each : (c : Crossing) → Stands c now → TwoCross es (spot_of c.point)
  pub few : length now ≤ most_crossings
  pub all : (p : Spot) → IsSpot p → CrossAhead es p → IsFound now p ⊎ CrossAhead rest p
  pub among : (f : PlanEdge) → Stands f rest → Stands f es
  pub in_order : BeginInOrder rest

pub found_at_first : (es : List PlanEdge) → BeginInOrder es → FoundSoFar es es []
found_at_first es in_order =
    record {
      ascend = tt;
      each = λ c at. absurd at;
      few = omega arith;
      all = λ p p_is crosses. inr crosses;
      among = λ f at. at;
      in_order = in_order;
    }

module _ (es others : List PlanEdge) (first : PlanEdge) (now new : List Crossing)
    (before : FoundSoFar es (first ∷ others) now)
    (added : AreAdded (edge_of first.segment) others now new) where
  each_crosses : (c : Crossing) → Stands c new → TwoCross es (spot_of c.point)
  each_crosses c at = from (added.only c at)
    where
      from : CrossesOne (edge_of first.segment) others (spot_of c.point) ⊎ Stands c now
          → TwoCross es (spot_of c.point)
      from (inl (f, known)) =
          (first, (before.among first (inl refl), (f, (before.among f (inr known.0), known.1))))
      from (inr there) = before.each c there

  pub found_next : length new ≤ most_crossings → FoundSoFar es others new
  found_next few =
      record {
        ascend = added.ascend;
        each = each_crosses;
        few = few;
        all = λ p p_is crosses. passed p p_is (before.all p p_is crosses);
        among = λ f at. before.among f (inr at);
        in_order = before.in_order.1;
      }
    where
      passed : (p : Spot) → IsSpot p → IsFound now p ⊎ CrossAhead (first ∷ others) p
          → IsFound new p ⊎ CrossAhead others p
      passed p p_is (inl found) = inl (found_in_more now new p added.kept found)
      passed p p_is (inr (inl crosses)) = inl (added.all few p p_is crosses)
      passed p p_is (inr (inr ahead)) = inr ahead

  pub some_found : AreSome es new
  some_found =
      record {
        ascend = added.ascend;
        each = all_that_stand (λ c. TwoCross es (spot_of c.point)) new each_crosses;
      }

pub found_at_last : (es : List PlanEdge) (now : List Crossing) → FoundSoFar es [] now
    → AreAll es now
found_at_last es now before =
    record {
      some =
          record {
            ascend = before.ascend;
            each = all_that_stand (λ c. TwoCross es (spot_of c.point)) now before.each;
          };
      few = before.few;
      all = λ p p_is two. found p (before.all p p_is (ahead_from_two es p two));
    }
  where
    found : (p : Spot) → IsFound now p ⊎ CrossAhead [] p → IsFound now p
    found p (inl there) = there
    found p (inr none) = absurd none

-- ---- in another order

some_elsewhere : (es fs : List PlanEdge) (list : List Crossing)
    → ((e : PlanEdge) → Stands e es → Stands e fs) → AreSome es list → AreSome fs list
some_elsewhere es fs list there some =
    record {
      ascend = some.ascend;
      each =
          all_that_stand (λ c. TwoCross fs (spot_of c.point)) list
          (λ c at.
          two_elsewhere es fs (spot_of c.point) there
          (all_stands (λ d. TwoCross es (spot_of d.point)) c list some.each at));
    }

-- the crossings of edges do not depend on their order
pub found_permuted : (es fs : List PlanEdge) (found : FoundCrossings) → IsPermutation es fs
    → HasFound fs found → HasFound es found
found_permuted es fs (Within list) permuted all =
    record {
      some =
          some_elsewhere fs es list.items
          (λ e at. stands_permuted e fs es (IsPermutation-sym es fs permuted) at) all.some;
      few = all.few;
      all =
          λ p p_is two.
          all.all p p_is (two_elsewhere es fs p (λ e at. stands_permuted e es fs permuted at) two);
    }
found_permuted es fs Beyond permuted (list, known) = (
  list,
  (
    some_elsewhere fs es list
        (λ e at. stands_permuted e fs es (IsPermutation-sym es fs permuted) at) known.0,
    known.1,
  ),
)

-- ---- by places

drop_here : {X : Type 0} (xs : List X) (i : ℕ) (x : X) → i < length xs → x ≡ get_or xs i x
    → drop i xs ≡ x ∷ drop (i + 1) xs
drop_here xs i x there here =
    drop-cons xs i x there
    ∙ ap₂ (λ y n. y ∷ drop n xs) (sym here) (sym (add-one i))

dropped_all : {X : Type 0} (xs : List X) (i : ℕ) → length xs ≤ i → drop i xs ≡ []
dropped_all [] zero within = refl
dropped_all [] (suc i) within = refl
dropped_all (x ∷ xs) zero within = absurd (omega arith)
dropped_all (x ∷ xs) (suc i) within = dropped_all xs i (omega arith)

module _ (e : Edge) (fs : List PlanEdge) (i : ℕ) (old now : List Crossing)
    (before : AddedSoFar e fs (drop i fs) old now) where
  module _ (f : PlanEdge) (there : i < length fs) (here : f ≡ get_or fs i f) where
    before_here : AddedSoFar e fs (f ∷ drop (i + 1) fs) old now
    before_here =
        subst (λ (left : List PlanEdge). AddedSoFar e fs left old now) (drop_here fs i f there here)
        before

    pub added_none_at : CrossNowhere e (edge_of f.segment)
        → AddedSoFar e fs (drop (i + 1) fs) old now
    added_none_at nowhere = added_none e fs (drop (i + 1) fs) f old now before_here nowhere

    pub added_one_at : (new : List Crossing) (c : Crossing)
        → IsCrossingOf e (edge_of f.segment) (spot_of c.point) → IsAdded c now new
        → AddedSoFar e fs (drop (i + 1) fs) old new
    added_one_at new c is added =
        added_one e fs (drop (i + 1) fs) f old now before_here new c is added

    pub added_apart_at : right_of e <ℤ left_of (edge_of f.segment) → AreAdded e fs old now
    added_apart_at apart = added_apart e fs (drop (i + 1) fs) f old now before_here apart

  pub added_many_at : (seen : List Crossing) → seen ≡ now
      → nat_lt most_crossings (length seen) ≡ true → AreAdded e fs old now
  added_many_at seen same many =
      added_many e fs (drop i fs) old now before
      (subst (λ (list : List Crossing). most_crossings < length list) same
      (ltb-true most_crossings (length seen) many))

  pub added_at_end : length fs ≤ i → AreAdded e fs old now
  added_at_end past =
      added_at_last e fs old now
      (subst (λ (left : List PlanEdge). AddedSoFar e fs left old now) (dropped_all fs i past) before)

-- too many, as the code counts them
pub too_many : (seen now : List Crossing) → seen ≡ now → nat_lt most_crossings (length seen) ≡ true
    → most_crossings < length now
too_many seen now same many =
    subst (λ (list : List Crossing). most_crossings < length list) same
    (ltb-true most_crossings (length seen) many)

pub not_too_many : (seen now : List Crossing) → seen ≡ now
    → nat_lt most_crossings (length seen) ≡ false → length now ≤ most_crossings
not_too_many seen now same few =
    subst (λ (list : List Crossing). length list ≤ most_crossings) same
    (at_most most_crossings (length seen) few)
  where
    at_most : (m n : ℕ) → nat_lt m n ≡ false → n ≤ m
    at_most m n test = grind (arith, nat_tests)

-- the first edge is taken from those that are left
pub found_next_of : (es rest others : List PlanEdge) (first : PlanEdge) (now new : List Crossing)
    → rest ≡ first ∷ others → FoundSoFar es rest now
    → AreAdded (edge_of first.segment) others now new → length new ≤ most_crossings
    → FoundSoFar es others new
found_next_of es rest others first now new split before added few =
    found_next es others first now new
    (subst (λ (left : List PlanEdge). FoundSoFar es left now) split before) added few

pub many_found : (es rest others : List PlanEdge) (first : PlanEdge) (now new : List Crossing)
    → rest ≡ first ∷ others → FoundSoFar es rest now
    → AreAdded (edge_of first.segment) others now new → most_crossings < length new
    → (list : List Crossing) × (AreSome es list × (most_crossings < length list))
many_found es rest others first now new split before added many = (
  new,
  (
    some_found es others first now new
        (subst (λ (left : List PlanEdge). FoundSoFar es left now) split before) added,
    many,
  ),
)

pub found_at_end : (es rest : List PlanEdge) (now : List Crossing) → length rest ≡ 0
    → FoundSoFar es rest now → AreAll es now
found_at_end es [] now none before = found_at_last es now before
found_at_end es (e ∷ rest) now none before = absurd (omega arith)

-- ---- sorted by where they begin

pub sorted_by_left : (es : List PlanEdge)
    → IsSortedByKey (λ e. left_of (edge_of e.segment)) int_cmp es → BeginInOrder es
sorted_by_left es sorted =
    two_follow
    (λ e f. is_lt (int_cmp (left_of (edge_of f.segment)) (left_of (edge_of e.segment))) ≡ false)
    (λ e f. left_of (edge_of e.segment) ≤ℤ left_of (edge_of f.segment)) es
    (λ e f e_in f_in later.
    not_less (left_of (edge_of f.segment)) (left_of (edge_of e.segment)) later)
    (sorted_two (λ e f. is_lt (int_cmp (left_of (edge_of e.segment)) (left_of (edge_of f.segment))))
    (ranks_by int_cmp_total (λ (e : PlanEdge). left_of (edge_of e.segment))) es sorted)
  where
    not_less : (a b : ℤ) → is_lt (int_cmp a b) ≡ false → b ≤ℤ a
    not_less a b test = from (int_cmp a b) refl test
      where
        from : (o : Ordering) → int_cmp a b ≡ o → is_lt o ≡ false → b ≤ℤ a
        from o is fails = by_lt_z a b
            (λ less. absurd (let e = int_cmp_is a b Less less in clash o (sym is ∙ sym e) fails))
            (λ most. most)
          where
            clash : (p : Ordering) → p ≡ Less → is_lt p ≡ false → ⊥
            clash p same test = absurd cc

-- what was found of the edges in another order
pub found_if : (es fs : List PlanEdge) (r : Result FoundCrossings AllocError) → IsPermutation es fs
    → IfOk r (HasFound fs) → IfOk r (HasFound es)
found_if es fs (Ok found) permuted has = found_permuted es fs found permuted has
found_if es fs (Err e) permuted has = tt
