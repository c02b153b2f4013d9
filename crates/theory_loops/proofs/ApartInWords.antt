-- Edges are apart exactly where no point is a corner twice and two edges have a point in common only
-- where one begins as the other ends.

use Rattle.std.proofs.Common.{◌≡◌, refl, sym, ap, ◌∙◌, ◌↔◌, Bool, true, false, not, ◌||◌, List}
use Rattle.std.proofs.lemmas.Bool.{and_parts, and_from, false≢true}
use Rattle.theory_lists.specs.Members.{AllOfTwo, AreOnce}
use Rattle.theory_lists.proofs.Members.{two_follow}
use Rattle.sb_fraction.specs.declared.point.Point.{Point}
use Rattle.sb_fraction.specs.Edges.{Edge}
use Rattle.theory_plans.specs.LoopEdges.{edges_of}
use Rattle.theory_plans.specs.Plans.{is_same_point, is_consecutive, do_touch, is_of_each_two}
use Rattle.theory_plans.specs.Plans.{corners_in, are_apart}
use Rattle.theory_plans.proofs.Edges.EdgesOfPlans.{same_point}
use Rattle.theory_plans.proofs.TouchingEdges.{each_two_pass, common_point_touches}
use Rattle.theory_parity.proofs.SolidOnTheLeft.TurnedIsApart.{AreNear, pass_each_two}
use Rattle.theory_loops.specs.Orders.{MeetConsecutively}
use Rattle.theory_loops.proofs.LeastFirst.{same_as_itself}
use Rattle.theory_loops.proofs.TouchingHavePoint.{touch_is}

-- ---- corners

abbrev Differ : Point → Point → Type 0
Differ a b = not (is_same_point a b) ≡ true

are_two : (a b : Point) → Differ a b → a ≡ b → ⊥
are_two a b other same =
    false≢true
    (ap not (sym (ap (is_same_point a) (sym same) ∙ same_as_itself a)) ∙ other)

differ_if_two : (a b : Point) → (a ≡ b → ⊥) → Differ a b
differ_if_two a b other = by (is_same_point a b) refl
  where
    by : (t : Bool) → is_same_point a b ≡ t → not t ≡ true
    by true same = absurd (other (same_point a b same))
    by false apart = refl

-- ---- edges

near_bits : (b t : Bool) → (b || not t) ≡ true → t ≡ true → b ≡ true
near_bits true t near touch = refl
near_bits false true near touch = near
near_bits false false near touch = touch

meet_so : (e f : Edge) → AreNear e f → MeetConsecutively e f
meet_so e f near p p_is on_e on_f =
    near_bits (is_consecutive e f) (do_touch e f) near
    (common_point_touches e f p p_is on_e on_f)

near_if_meet : (e f : Edge) → MeetConsecutively e f → AreNear e f
near_if_meet e f meet = by (do_touch e f) refl
  where
    consecutive : do_touch e f ≡ true → is_consecutive e f ≡ true
    consecutive touch =
        let at = (touch_is e f).0 touch in
        meet at.0 at.1.0 at.1.1.0 at.1.1.1

    by : (t : Bool) → do_touch e f ≡ t → (is_consecutive e f || not t) ≡ true
    by true touch = ap (λ b. b || false) (consecutive touch)
    by false none = last (is_consecutive e f)
      where
        last : (b : Bool) → (b || true) ≡ true
        last true = refl
        last false = refl

-- ---- loops

-- apart, in words
pub apart_is : (loops : List (List Point)) → are_apart loops ≡ true
    ↔ (AreOnce (corners_in loops) × AllOfTwo MeetConsecutively (edges_of loops))
apart_is loops = (
  λ apart.
      let parts = and_parts (is_of_each_two (λ a b. not (is_same_point a b)) (corners_in loops))
      (is_of_each_two (λ e f. is_consecutive e f || not (do_touch e f)) (edges_of loops)) apart in (
        two_follow Differ (λ a b. a ≡ b → ⊥) (corners_in loops)
            (λ a b a_in b_in. are_two a b)
            (each_two_pass (λ a b. not (is_same_point a b)) (corners_in loops) parts.0),
        two_follow AreNear MeetConsecutively (edges_of loops)
            (λ e f e_in f_in. meet_so e f)
            (each_two_pass (λ e f. is_consecutive e f || not (do_touch e f)) (edges_of loops) parts.1),
      ),
  λ both.
      and_from (is_of_each_two (λ a b. not (is_same_point a b)) (corners_in loops))
      (is_of_each_two (λ e f. is_consecutive e f || not (do_touch e f)) (edges_of loops))
      (pass_each_two (λ a b. not (is_same_point a b)) (corners_in loops)
      (two_follow (λ a b. a ≡ b → ⊥) Differ (corners_in loops)
      (λ a b a_in b_in. differ_if_two a b) both.0))
      (pass_each_two (λ e f. is_consecutive e f || not (do_touch e f)) (edges_of loops)
      (two_follow MeetConsecutively AreNear (edges_of loops)
      (λ e f e_in f_in. near_if_meet e f) both.1)),
)
