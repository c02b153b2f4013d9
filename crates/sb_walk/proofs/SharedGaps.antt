-- Two products share a gap by the edges of a row exactly where both are present in a gap of it that lies
-- between two lines; so two spaces share one exactly where they have a common inner point over the slab.

use Rattle.std.proofs.Common.{◌≡◌, ◌↔◌, ◌⊎◌, inl, inr, refl, sym, ap, ◌∙◌, arith, ℕ, zero, suc}
use Rattle.std.proofs.Common.{◌==◌, Bool, true, false, not, ◌&&◌, List, [], ◌∷◌, Some, slice_get}
use Rattle.std.proofs.Common.{◌<◌, length, take, IsTrue, int_lt}
use Rattle.std.specs.List.{AllByRecursion}
use Rattle.std.proofs.lemmas.Int.{ints}
use Rattle.std.proofs.lemmas.Bool.{and_parts, and_from, or_cases, or_left, or_right, false≢true}
use Rattle.theory_lists.specs.Members.{Stands}
use Rattle.theory_lists.specs.Parity.{differ}
use Rattle.theory_lists.proofs.InAnyOrder.{stands_permuted}
use Rattle.theory_lists.proofs.Members.{all_stands, all_that_stand, all_follow}
use Rattle.theory_lists.proofs.Parity.{differ-false, differ_assoc}
use Rattle.theory_numbers.specs.Arrows.{Arrow, dot}
use Rattle.theory_numbers.specs.Rationals.{IsRational, mediant}
use Rattle.theory_numbers.proofs.Fractions.Rationals.{mediant_between, mediant-IsRational, at_most_from_below}
use Rattle.theory_numbers.proofs.Signs.{less_from, test_less}
use Rattle.theory_plane.specs.Sides.{clearance}
use Rattle.theory_plane.proofs.Clearance.{meeting_is}
use Rattle.theory_plane.proofs.LeadsUntilMeeting.{value-zero_form}
use Rattle.sb_fraction.specs.Edges.{are_collinear}
use Rattle.sb_fraction.specs.Lines.{line_over, reaches_past}
use Rattle.sb_model.specs.declared.products.Space.{Space}
use Rattle.sb_model.specs.Building.{Building, is_building}
use Rattle.sb_model.specs.PlanEdges.{PlanEdge, plan_edges}
use Rattle.theory_models.proofs.NumbersApart.{of_space, space_stands}
use Rattle.theory_parity.specs.Below.{IsWay}
use Rattle.theory_lines.specs.Slabs.{AreOnOneLine, IsSlab, IsSlabOrder, spanning_places}
use Rattle.theory_lines.proofs.SlabOrderIsOne.{SpansAt, spans_at}
use Rattle.theory_gaps.specs.Gaps.{with_one, edges_at, edges_before, is_present, IsRealGap, OverlapInGap}
use Rattle.theory_gaps.proofs.EdgesAtANumber.{line_if_same, collinear_if_same, same_if_collinear}
use Rattle.theory_gaps.proofs.Gaps.OverlapInGaps.{has_overlap_in_gaps}
use Rattle.theory_gaps.proofs.RowsOfSlabs.{order_is_row}
use Rattle.sb_frame.specs.Directions.{along_x}
use Rattle.sb_walk.specs.Overlaps.{HaveCommonPoint}
use Rattle.sb_walk.specs.Shared.{share_after, share_gap, share_over}

-- edges of the row are collinear exactly where they lie on one line
abbrev pub LinesAreTold : Arrow → List PlanEdge → Type 0
LinesAreTold d row =
    (e f : PlanEdge) → Stands e row → Stands f row
    → (are_collinear e.edge f.edge ≡ true) ↔ AreOnOneLine d e.edge f.edge

-- a gap between two lines, behind the edge e and k more, where both products are present
record GapBehind (d : Arrow) (a b : ℕ) (e : PlanEdge) (has_a has_b : Bool) (row : List PlanEdge) (k : ℕ)
    : Type 0 where
  real : IsRealGap d (e ∷ row) (suc k)
  first : differ has_a (is_present (take k row) a) ≡ true
  second : differ has_b (is_present (take k row) b) ≡ true

not_both : (b : Bool) → not b ≡ true → b ≡ true → ⊥
not_both true fails is = false≢true fails
not_both false fails is = false≢true is

not_from : (b : Bool) → (b ≡ true → ⊥) → not b ≡ true
not_from true none = absurd (none refl)
not_from false none = refl

module _ (d : Arrow) (a b : ℕ) where
  gap_behind : (e : PlanEdge) (has_a has_b : Bool) (row : List PlanEdge) → LinesAreTold d (e ∷ row)
      → share_after a b e has_a has_b row ≡ true
      → (k : ℕ) × GapBehind d a b e has_a has_b row k
  gap_behind e has_a has_b [] told both =
      let parts = and_parts has_a has_b both in (
        0,
        record {
          real = tt;
          first = differ-false has_a ∙ parts.0;
          second = differ-false has_b ∙ parts.1;
        },
      )
  gap_behind e has_a has_b (f ∷ row) told answer =
      by
      (gap_behind f (differ has_a (f.product == a)) (differ has_b (f.product == b)) row
      (λ g h g_in h_in. told g h (inr g_in) (inr h_in)))
      (or_cases ((has_a && has_b) && not (are_collinear e.edge f.edge))
      (share_after a b f (differ has_a (f.product == a)) (differ has_b (f.product == b)) row) answer)
    where
      further : (k : ℕ)
          × GapBehind d a b f (differ has_a (f.product == a)) (differ has_b (f.product == b)) row k
          → (k : ℕ) × GapBehind d a b e has_a has_b (f ∷ row) k
      further (k, gap) = (
        suc k,
        record {
          real = gap.real;
          first = sym (differ_assoc has_a (f.product == a) (is_present (take k row) a)) ∙ gap.first;
          second = sym (differ_assoc has_b (f.product == b) (is_present (take k row) b)) ∙ gap.second;
        },
      )

      by : (share_after a b f (differ has_a (f.product == a)) (differ has_b (f.product == b)) row ≡ true
          → (k : ℕ)
          × GapBehind d a b f (differ has_a (f.product == a)) (differ has_b (f.product == b)) row k)
          → (((has_a && has_b) && not (are_collinear e.edge f.edge)) ≡ true)
          ⊎ (share_after a b f (differ has_a (f.product == a)) (differ has_b (f.product == b)) row
          ≡ true)
          → (k : ℕ) × GapBehind d a b e has_a has_b (f ∷ row) k
      by behind (inl here) =
          let parts = and_parts (has_a && has_b) (not (are_collinear e.edge f.edge)) here in
          let both = and_parts has_a has_b parts.0 in (
            0,
            record {
              real =
                  λ one.
                  not_both (are_collinear e.edge f.edge) parts.1
                  ((told e f (inl refl) (inr (inl refl))).1 one);
              first = differ-false has_a ∙ both.0;
              second = differ-false has_b ∙ both.1;
            },
          )
      by behind (inr later) = further (behind later)

  behind_gap : (e : PlanEdge) (has_a has_b : Bool) (row : List PlanEdge) → LinesAreTold d (e ∷ row)
      → (k : ℕ) → GapBehind d a b e has_a has_b row k → share_after a b e has_a has_b row ≡ true
  behind_gap e has_a has_b [] told zero gap =
      and_from has_a has_b (sym (differ-false has_a) ∙ gap.first)
      (sym (differ-false has_b) ∙ gap.second)
  behind_gap e has_a has_b [] told (suc k) gap =
      and_from has_a has_b (sym (differ-false has_a) ∙ gap.first)
      (sym (differ-false has_b) ∙ gap.second)
  behind_gap e has_a has_b (f ∷ row) told zero gap =
      or_left ((has_a && has_b) && not (are_collinear e.edge f.edge))
      (share_after a b f (differ has_a (f.product == a)) (differ has_b (f.product == b)) row)
      (and_from (has_a && has_b) (not (are_collinear e.edge f.edge))
      (and_from has_a has_b (sym (differ-false has_a) ∙ gap.first)
      (sym (differ-false has_b) ∙ gap.second))
      (not_from (are_collinear e.edge f.edge)
      (λ one. gap.real ((told e f (inl refl) (inr (inl refl))).0 one))))
  behind_gap e has_a has_b (f ∷ row) told (suc k) gap =
      or_right ((has_a && has_b) && not (are_collinear e.edge f.edge))
      (share_after a b f (differ has_a (f.product == a)) (differ has_b (f.product == b)) row)
      (behind_gap f (differ has_a (f.product == a)) (differ has_b (f.product == b)) row
      (λ g h g_in h_in. told g h (inr g_in) (inr h_in)) k
      (record {
        real = gap.real;
        first = differ_assoc has_a (f.product == a) (is_present (take k row) a) ∙ gap.first;
        second = differ_assoc has_b (f.product == b) (is_present (take k row) b) ∙ gap.second;
      }))

  -- a gap of a row where both products are present
  pub record SharedGap (row : List PlanEdge) (j : ℕ) : Type 0 where
    pub real : IsRealGap d row j
    pub first : is_present (take j row) a ≡ true
    pub second : is_present (take j row) b ≡ true

  shared_from : (row : List PlanEdge) → LinesAreTold d row → share_gap a b row ≡ true
      → (j : ℕ) × SharedGap row j
  shared_from [] told answer = absurd (false≢true answer)
  shared_from (e ∷ row) told answer =
      with_gap (gap_behind e (e.product == a) (e.product == b) row told answer)
    where
      with_gap : (k : ℕ) × GapBehind d a b e (e.product == a) (e.product == b) row k
          → (j : ℕ) × SharedGap (e ∷ row) j
      with_gap (k, gap) =
          (suc k, record { real = gap.real; first = gap.first; second = gap.second })

  from_shared : (row : List PlanEdge) → LinesAreTold d row → (j : ℕ) → SharedGap row j
      → share_gap a b row ≡ true
  from_shared [] told zero gap = absurd (false≢true gap.first)
  from_shared [] told (suc j) gap = absurd (false≢true gap.first)
  from_shared (e ∷ row) told zero gap = absurd (false≢true gap.first)
  from_shared (e ∷ row) told (suc k) gap =
      behind_gap e (e.product == a) (e.product == b) row told k
      (record { real = gap.real; first = gap.first; second = gap.second })

-- ---- the order of a slab

-- an edge stands at each place
abbrev pub HaveEdges : List PlanEdge → List ℕ → Type 0
HaveEdges edges places = AllByRecursion (λ k. (e : PlanEdge) × (slice_get edges k ≡ Some e)) places

-- the edges at the first places are the first edges
pub edges_at-take : (edges : List PlanEdge) (places : List ℕ) → HaveEdges edges places → (j : ℕ)
    → edges_at edges (take j places) ≡ take j (edges_at edges places)
edges_at-take edges [] have zero = refl
edges_at-take edges [] have (suc j) = refl
edges_at-take edges (k ∷ places) have zero = refl
edges_at-take edges (k ∷ places) have (suc j) = by have.0 (edges_at-take edges places have.1 j)
  where
    by : (e : PlanEdge) × (slice_get edges k ≡ Some e)
        → edges_at edges (take j places) ≡ take j (edges_at edges places)
        → with_one (slice_get edges k) (edges_at edges (take j places))
        ≡ take (suc j) (with_one (slice_get edges k) (edges_at edges places))
    by (e, there) rest =
        ap (λ o. with_one o (edges_at edges (take j places))) there ∙ ap (λ es. e ∷ es) rest
        ∙ ap (λ o. take (suc j) (with_one o (edges_at edges places))) (sym there)

below : (edges : List PlanEdge) (k : ℕ) (e : PlanEdge) → slice_get edges k ≡ Some e
    → k < length edges
below [] zero e at = absurd cc
below [] (suc k) e at = absurd cc
below (f ∷ edges) zero e at = omega arith
below (f ∷ edges) (suc k) e at = let rest = below edges k e at in omega arith

-- (1, 0) is a direction
pub x_is_way : IsWay along_x
unfolding dot
x_is_way = omega (arith, ints)

module _ (m : Building) (valid : IsTrue (is_building m)) (low high : Arrow)
    (slab : IsSlab m along_x low high) (order : List ℕ)
    (is : IsSlabOrder (plan_edges m) along_x low high order) where
  pub have_edges : HaveEdges (plan_edges m) order
  have_edges =
      all_that_stand (λ k. (e : PlanEdge) × (slice_get (plan_edges m) k ≡ Some e)) order
      (λ k k_in.
      from k
      (spans_at (plan_edges m) along_x low high k
      (stands_permuted k order (spanning_places (plan_edges m) along_x low high) is.spanning k_in)))
    where
      from : (k : ℕ) → SpansAt (plan_edges m) along_x low high k
          → (e : PlanEdge) × (slice_get (plan_edges m) k ≡ Some e)
      from k at = (at.edge, at.there)

  -- each place of the order is one of the plan edges
  pub places_in : AllByRecursion (λ k. k < length (plan_edges m)) order
  places_in =
      all_follow {P = λ k. (e : PlanEdge) × (slice_get (plan_edges m) k ≡ Some e)}
      {Q = λ k. k < length (plan_edges m)} (λ k there. below (plan_edges m) k there.0 there.1) order
      have_edges

  -- between the two sides of the slab
  amid : Arrow
  amid = mediant low high

  amid_in : IsRational (mediant low high)
  amid_in = mediant-IsRational low high slab.low_in slab.high_in

  pub lines_are_told : LinesAreTold along_x (edges_at (plan_edges m) order)
  lines_are_told e f e_in f_in =
      let between = mediant_between low high slab.wide in
      let none = slab.none (mediant low high) amid_in between.0 between.1 in
      let row =
      order_is_row m along_x low high slab order is (mediant low high) amid_in
      (at_most_from_below low (mediant low high) between.0) between.1
      in
      let own_e = all_stands
      (λ g. Stands g (plan_edges m) × (reaches_past along_x (mediant low high) g.edge ≡ true)) e
      (edges_at (plan_edges m) order) row.over e_in in
      let own_f = all_stands
      (λ g. Stands g (plan_edges m) × (reaches_past along_x (mediant low high) g.edge ≡ true)) f
      (edges_at (plan_edges m) order) row.over f_in in (
        λ collinear.
            line_if_same m along_x (mediant low high) x_is_way amid_in none e f own_e.0 own_f.0 own_e.1
            own_f.1
            (same_if_collinear m along_x (mediant low high) x_is_way amid_in none e f own_e.0 own_f.0
            own_e.1 own_f.1 collinear),
        λ one.
            collinear_if_same m along_x (mediant low high) x_is_way amid_in none e f own_e.0 own_f.0
            own_e.1 own_f.1
            ((meeting_is (line_over along_x e.edge) (line_over along_x f.edge) (mediant low high)
            amid_in).1
            (value-zero_form (clearance (line_over along_x e.edge) (line_over along_x f.edge))
            (mediant low high) one)),
      )

  before_is : (j n : ℕ)
      → is_present (edges_before (plan_edges m) order j) n
      ≡ is_present (take j (edges_at (plan_edges m) order)) n
  before_is j n =
      ap (λ es. is_present es n) (edges_at-take (plan_edges m) order have_edges j)

  -- two spaces share a gap and heights exactly where they have a common inner point over the slab
  pub share_is : (s t : Space) → Stands s m.spaces → Stands t m.spaces
      → (share_over (plan_edges m) order s t ≡ true) ↔ HaveCommonPoint low high s t
  share_is s t s_in t_in = (to_point, from_point)
    where
      law : HaveCommonPoint low high s t
          ↔ ((j : ℕ) × OverlapInGap m along_x order (of_space s) (of_space t) j)
      law =
          has_overlap_in_gaps m valid along_x low high x_is_way slab order is (of_space s)
          (of_space t) (space_stands m s s_in) (space_stands m t t_in)

      heights : Bool
      heights = int_lt s.prism.z0 t.prism.z1 && int_lt t.prism.z0 s.prism.z1

      to_point : share_over (plan_edges m) order s t ≡ true → HaveCommonPoint low high s t
      to_point answer =
          law.1 (with_gap (shared_from along_x s.number t.number (edges_at (plan_edges m) order)
          lines_are_told parts.1))
        where
          parts : ((int_lt s.prism.z0 t.prism.z1 && int_lt t.prism.z0 s.prism.z1) ≡ true)
              × (share_gap s.number t.number (edges_at (plan_edges m) order) ≡ true)
          parts =
              and_parts (int_lt s.prism.z0 t.prism.z1 && int_lt t.prism.z0 s.prism.z1)
              (share_gap s.number t.number (edges_at (plan_edges m) order)) answer

          both : (int_lt s.prism.z0 t.prism.z1 ≡ true) × (int_lt t.prism.z0 s.prism.z1 ≡ true)
          both =
              and_parts (int_lt s.prism.z0 t.prism.z1) (int_lt t.prism.z0 s.prism.z1) parts.0

          with_gap : (j : ℕ)
              × SharedGap along_x s.number t.number (edges_at (plan_edges m) order) j
              → (j : ℕ) × OverlapInGap m along_x order (of_space s) (of_space t) j
          with_gap (j, gap) = (
            j,
            record {
              real = gap.real;
              first = before_is j s.number ∙ gap.first;
              second = before_is j t.number ∙ gap.second;
              under = less_from s.prism.z0 t.prism.z1 both.0;
              over = less_from t.prism.z0 s.prism.z1 both.1;
            },
          )

      from_point : HaveCommonPoint low high s t → share_over (plan_edges m) order s t ≡ true
      from_point common = with_gap (law.0 common)
        where
          with_gap : (j : ℕ) × OverlapInGap m along_x order (of_space s) (of_space t) j
              → share_over (plan_edges m) order s t ≡ true
          with_gap (j, gap) =
              and_from (int_lt s.prism.z0 t.prism.z1 && int_lt t.prism.z0 s.prism.z1)
              (share_gap s.number t.number (edges_at (plan_edges m) order))
              (and_from (int_lt s.prism.z0 t.prism.z1) (int_lt t.prism.z0 s.prism.z1)
              (test_less s.prism.z0 t.prism.z1 gap.under)
              (test_less t.prism.z0 s.prism.z1 gap.over))
              (from_shared along_x s.number t.number (edges_at (plan_edges m) order) lines_are_told j
              (record {
                real = gap.real;
                first = sym (before_is j s.number) ∙ gap.first;
                second = sym (before_is j t.number) ∙ gap.second;
              }))
