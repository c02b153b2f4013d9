-- What three points on one line hand from the two edges between neighbours to the edge between the
-- outer two, a closed loop keeps as its points are dropped and as it is read from another point on.

use Rattle.std.proofs.Common.{◌≡◌, refl, sym, ap, ◌∙◌, subst, ℕ, zero, suc, pos}
use Rattle.std.proofs.Common.{Bool, true, false, not, List, [], ◌∷◌, ◌++◌, length, if◌then◌else◌}
use Rattle.std.specs.Ordering.{int_eq}
use Rattle.std.specs.List.{AllByRecursion}
use Rattle.std.proofs.lemmas.Bool.Decides.{Decides-int_eq}
use Rattle.std.proofs.lemmas.List.{append-nil, append_assoc}
use Rattle.theory_lists.specs.Parity.{differ, is_odd_number}
use Rattle.theory_lists.proofs.Blocks.{all-append}
use Rattle.theory_lists.proofs.Parity.{differ-self, differ-false, differ_comm, differ_assoc}
use Rattle.theory_lists.proofs.Parity.{differ_cancel, is_odd_number-append}
use Rattle.sb_fraction.specs.declared.point.Point.{Point}
use Rattle.sb_fraction.specs.Edges.{Edge, edge}
use Rattle.theory_plans.specs.LoopEdges.{edges_back, edges_of_loop}
use Rattle.theory_plans.specs.Loops.{bend, is_bent}
use Rattle.theory_plans.specs.Plans.{is_same_point}
use Rattle.theory_parity.proofs.SolidOnTheLeft.TurnedLoops.{way-more}
use Rattle.theory_loops.specs.Normal.{first_of, last_of, drop_between, drop_first, dropped_times}
use Rattle.theory_loops.specs.Normal.{dropped, least_of, read_from, from_least, normal_loop}

-- ---- one step

was_false : (t : Bool) → not t ≡ false → t ≡ true
was_false true none = refl
was_false false none = sym none

-- a way that is not bent goes straight on
pub straight : (a b c : Point) → is_bent a b c ≡ false → bend a b c ≡ pos 0
straight a b c not_bent =
    (Decides-int_eq (bend a b c) (pos 0)).0 (was_false (int_eq (bend a b c) (pos 0)) not_bent)

-- ---- from step to step

-- a claim of loops that is kept as the loop begins at its second point
module _ (F : List Point → Type 0)
    (reading_on : (a : Point) (points : List Point) → F (a ∷ points) → F (points ++ (a ∷ [])))
  where
    -- is kept as it begins at any point
    pub read_on : (passed points : List Point) → F (passed ++ points) → F (points ++ passed)
    read_on [] points holds = subst F (sym (append-nil points)) holds
    read_on (a ∷ passed) points holds =
        subst F (append_assoc points (a ∷ []) passed)
        (read_on passed (points ++ (a ∷ []))
        (subst F (append_assoc passed points (a ∷ []))
        (reading_on a (passed ++ points) holds)))

    read_from_keeps : (m : Point) (passed points : List Point) → F (passed ++ points)
        → F (read_from m passed points)
    read_from_keeps m passed [] holds = subst F (append-nil passed) holds
    read_from_keeps m passed (b ∷ points) holds =
        by (is_same_point b m)
        (read_from_keeps m (passed ++ (b ∷ [])) points
        (subst F (sym (append_assoc passed (b ∷ []) points)) holds))
      where
        by : (t : Bool) → F (read_from m (passed ++ (b ∷ [])) points)
            → F (if t then b ∷ (points ++ passed) else read_from m (passed ++ (b ∷ [])) points)
        by true later = read_on passed (b ∷ points) holds
        by false later = later

    -- and as it begins at its least point
    pub from_least_keeps : (points : List Point) → F points → F (from_least points)
    from_least_keeps [] holds = holds
    from_least_keeps (a ∷ points) holds = read_from_keeps (least_of a points) [] (a ∷ points) holds

-- and it is kept by dropping a point too
pub record IsKept (F : List Point → Type 0) : Type 0 where
  pub dropping : (points : List Point) → F points → F (drop_first points)
  pub reading_on : (a : Point) (points : List Point) → F (a ∷ points) → F (points ++ (a ∷ []))

module _ (F : List Point → Type 0) (kept : IsKept F) where
  dropped_keeps : (n : ℕ) (points : List Point) → F points → F (dropped_times n points)
  dropped_keeps zero points holds = holds
  dropped_keeps (suc n) points holds =
      dropped_keeps n (drop_first points) (kept.dropping points holds)

  -- then it is kept by normalising
  pub normal_keeps : (points : List Point) → F points → F (normal_loop points)
  normal_keeps points holds =
      from_least_keeps F kept.reading_on (dropped points)
      (dropped_keeps (length points) points holds)

-- ---- of each edge

module _ (P : Edge → Type 0)
    (covers : (a b c : Point) → bend a b c ≡ pos 0 → P (edge a b) → P (edge b c) → P (edge a c))
  where
    drop_on_way : (before : Point) (points : List Point) (beyond : Point)
        → AllByRecursion P (edges_back before points beyond)
        → AllByRecursion P (edges_back before (drop_between before points beyond) beyond)
    drop_on_way before [] beyond all = all
    drop_on_way before (b ∷ []) beyond all = by (is_bent before b beyond) refl
      where
        by : (t : Bool) → is_bent before b beyond ≡ t
            → AllByRecursion P (edges_back before (if t then b ∷ [] else []) beyond)
        by true bent = all
        by false level = (covers before b beyond (straight before b beyond level) all.0 all.1.0, tt)
    drop_on_way before (b ∷ c ∷ points) beyond all =
        by (is_bent before b c) refl (drop_on_way b (c ∷ points) beyond all.1)
      where
        by : (t : Bool) → is_bent before b c ≡ t
            → AllByRecursion P (edges_back b (drop_between b (c ∷ points) beyond) beyond)
            → AllByRecursion P (edges_back before
            (if t then b ∷ drop_between b (c ∷ points) beyond else c ∷ points) beyond)
        by true bent later = (all.0, later)
        by false level later = (covers before b c (straight before b c level) all.0 all.1.0, all.1.1)

    to_another_end : (c : Point) (points : List Point) (x y : Point)
        → AllByRecursion P (edges_back c points x)
        → (P (edge (last_of c points) x) → P (edge (last_of c points) y))
        → AllByRecursion P (edges_back c points y)
    to_another_end c [] x y all moved = (moved all.0, tt)
    to_another_end c (b ∷ points) x y all moved = (all.0, to_another_end b points x y all.1 moved)

    drop_head : (a : Point) (points : List Point) → bend (last_of a points) a (first_of points a) ≡ pos 0
        → AllByRecursion P (edges_of_loop (a ∷ points)) → AllByRecursion P (edges_of_loop points)
    drop_head a [] level all = tt
    drop_head a (c ∷ points) level all =
        to_another_end c points a c all.1
        (λ to_a. covers (last_of c points) a c level to_a all.0)

    drop_one : (points : List Point) → AllByRecursion P (edges_of_loop points)
        → AllByRecursion P (edges_of_loop (drop_first points))
    drop_one [] all = all
    drop_one (a ∷ points) all = by (is_bent (last_of a points) a (first_of points a)) refl
      where
        by : (t : Bool) → is_bent (last_of a points) a (first_of points a) ≡ t
            → AllByRecursion P
            (edges_of_loop (if t then a ∷ drop_between a points a else points))
        by true bent = drop_on_way a points a all
        by false level =
            drop_head a points (straight (last_of a points) a (first_of points a) level) all

    next_begins : (a : Point) (points : List Point) → AllByRecursion P (edges_of_loop (a ∷ points))
        → AllByRecursion P (edges_of_loop (points ++ (a ∷ [])))
    next_begins a [] all = all
    next_begins a (c ∷ points) all =
        subst (AllByRecursion P) (sym (way-more c points a c))
        (all-append P (edges_back c points a) (edge a c ∷ []) all.1 (all.0, tt))

    -- what holds of each edge of the loop is kept
    pub each_edge_is_kept : IsKept (λ points. AllByRecursion P (edges_of_loop points))
    each_edge_is_kept = record { dropping = drop_one; reading_on = next_begins }

-- ---- of the parity

module _ (test : Edge → Bool)
    (adds : (a b c : Point) → bend a b c ≡ pos 0
    → differ (test (edge a b)) (test (edge b c)) ≡ test (edge a c))
  where
    abbrev odd : Point → List Point → Point → Bool
    odd before points beyond = is_odd_number test (edges_back before points beyond)

    odd_on_way : (before : Point) (points : List Point) (beyond : Point)
        → odd before (drop_between before points beyond) beyond ≡ odd before points beyond
    odd_on_way before [] beyond = refl
    odd_on_way before (b ∷ []) beyond = by (is_bent before b beyond) refl
      where
        by : (t : Bool) → is_bent before b beyond ≡ t
            → odd before (if t then b ∷ [] else []) beyond ≡ odd before (b ∷ []) beyond
        by true bent = refl
        by false level =
            ap (λ t. differ t false) (sym (adds before b beyond (straight before b beyond level)))
            ∙ differ_assoc (test (edge before b)) (test (edge b beyond)) false
    odd_on_way before (b ∷ c ∷ points) beyond =
        by (is_bent before b c) refl (odd_on_way b (c ∷ points) beyond)
      where
        by : (t : Bool) → is_bent before b c ≡ t
            → odd b (drop_between b (c ∷ points) beyond) beyond ≡ odd b (c ∷ points) beyond
            → odd before (if t then b ∷ drop_between b (c ∷ points) beyond else c ∷ points) beyond
            ≡ odd before (b ∷ c ∷ points) beyond
        by true bent later = ap (differ (test (edge before b))) later
        by false level later =
            ap (λ t. differ t (odd c points beyond))
            (sym (adds before b c (straight before b c level)))
            ∙ differ_assoc (test (edge before b)) (test (edge b c)) (odd c points beyond)

    odd_to_another_end : (c : Point) (points : List Point) (x y : Point)
        → differ (odd c points x) (test (edge (last_of c points) x))
        ≡ differ (odd c points y) (test (edge (last_of c points) y))
    odd_to_another_end c [] x y =
        ap (λ t. differ t (test (edge c x))) (differ-false (test (edge c x)))
        ∙ differ-self (test (edge c x)) ∙ sym (differ-self (test (edge c y)))
        ∙ sym (ap (λ t. differ t (test (edge c y))) (differ-false (test (edge c y))))
    odd_to_another_end c (b ∷ points) x y =
        differ_assoc (test (edge c b)) (odd b points x) (test (edge (last_of b points) x))
        ∙ ap (differ (test (edge c b))) (odd_to_another_end b points x y)
        ∙ sym (differ_assoc (test (edge c b)) (odd b points y) (test (edge (last_of b points) y)))

    four_bits : (ra la ac : Bool) → differ ra la ≡ differ (differ ac ra) (differ la ac)
    four_bits true true true = refl
    four_bits true true false = refl
    four_bits true false true = refl
    four_bits true false false = refl
    four_bits false true true = refl
    four_bits false true false = refl
    four_bits false false true = refl
    four_bits false false false = refl

    odd_without_head : (a : Point) (points : List Point)
        → bend (last_of a points) a (first_of points a) ≡ pos 0
        → is_odd_number test (edges_of_loop points) ≡ is_odd_number test (edges_of_loop (a ∷ points))
    odd_without_head a [] level =
        sym (differ-false (test (edge a a)) ∙ sym (adds a a a level) ∙ differ-self (test (edge a a)))
    odd_without_head a (c ∷ points) level =
        let l = last_of c points in
        differ_cancel (odd c points c) (differ (test (edge a c)) (odd c points a)) (test (edge l c))
        (odd_to_another_end c points c a
        ∙ four_bits (odd c points a) (test (edge l a)) (test (edge a c))
        ∙ ap (differ (differ (test (edge a c)) (odd c points a))) (adds l a c level))

    odd_drop_one : (points : List Point)
        → is_odd_number test (edges_of_loop (drop_first points))
        ≡ is_odd_number test (edges_of_loop points)
    odd_drop_one [] = refl
    odd_drop_one (a ∷ points) = by (is_bent (last_of a points) a (first_of points a)) refl
      where
        by : (t : Bool) → is_bent (last_of a points) a (first_of points a) ≡ t
            → is_odd_number test
            (edges_of_loop (if t then a ∷ drop_between a points a else points))
            ≡ is_odd_number test (edges_of_loop (a ∷ points))
        by true bent = odd_on_way a points a
        by false level =
            odd_without_head a points (straight (last_of a points) a (first_of points a) level)

    odd_next_begins : (a : Point) (points : List Point)
        → is_odd_number test (edges_of_loop (points ++ (a ∷ [])))
        ≡ is_odd_number test (edges_of_loop (a ∷ points))
    odd_next_begins a [] = refl
    odd_next_begins a (c ∷ points) =
        ap (is_odd_number test) (way-more c points a c)
        ∙ is_odd_number-append test (edges_back c points a) (edge a c ∷ [])
        ∙ ap (differ (odd c points a)) (differ-false (test (edge a c)))
        ∙ differ_comm (odd c points a) (test (edge a c))

    -- a test that adds up passes an odd number of edges as before
    pub odd_is_kept : (b : Bool) → IsKept (λ points. is_odd_number test (edges_of_loop points) ≡ b)
    odd_is_kept b =
        record {
          dropping = λ points odd_is. odd_drop_one points ∙ odd_is;
          reading_on = λ a points odd_is. odd_next_begins a points ∙ odd_is;
        }

    -- of a loop and its normal form
    pub odd-normal : (points : List Point)
        → is_odd_number test (edges_of_loop (normal_loop points))
        ≡ is_odd_number test (edges_of_loop points)
    odd-normal points =
        normal_keeps
        (λ l. is_odd_number test (edges_of_loop l) ≡ is_odd_number test (edges_of_loop points))
        (odd_is_kept (is_odd_number test (edges_of_loop points))) points refl
