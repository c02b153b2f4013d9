-- A crossing that is put into crossings that ascend, at the place where a search found it missing.

use Rattle.std.proofs.Common.{◌≡◌, inl, inr, refl, sym, subst, arith, ℕ, zero, suc, ◌<◌, ◌≤◌}
use Rattle.std.proofs.Common.{List, [], ◌∷◌, length, get_or}
use Rattle.std.specs.List.{insert, HoldsAt}
use Rattle.std.specs.List.Sorted.{IsNonDecreasingBy, IsPartitionPoint}
use Rattle.std.specs.declared.cmp.Ordering.TheVariants.{Less, Equal, Greater}
use Rattle.std.specs.Ordering.{ordering_index}
use Rattle.std.proofs.lemmas.List.Sorted.{searchable_from_sorted}
use Rattle.theory_lists.specs.Members.{Stands}
use Rattle.sb_fraction.specs.Spots.{spot_of}
use Rattle.sb_frame.specs.declared.crossing.Crossing.{Crossing}
use Rattle.sb_frame.specs.Found.{order_of_points, Ascend, IsAdded}
use Rattle.sb_frame.proofs.Meetings.PointsOnce.{points_total, same_if_equal, same_point_sym}
use Rattle.sb_frame.proofs.Orders.RisingLists.{rising_is_sorted, insert_rises, kept_by_insert}
use Rattle.sb_frame.proofs.Orders.RisingLists.{put_by_insert, only_by_insert}

stands_at_place : (xs : List Crossing) (k : ℕ) (d : Crossing) → k < length xs
    → Stands (get_or xs k d) xs
stands_at_place [] k d there = absurd (omega arith)
stands_at_place (x ∷ xs) zero d there = inl refl
stands_at_place (x ∷ xs) (suc k) d there = inr (stands_at_place xs k d (omega arith))

-- a point that was found stands there
pub already_there : (c : Crossing) (list searched : List Crossing) (k : ℕ) → searched ≡ list
    → Ascend list → k < length searched
    → HoldsAt (λ d. order_of_points d c ≡ Equal) searched k → IsAdded c list list
already_there c list searched k same ascend there holds =
    record {
      ascend = ascend;
      there = (
        get_or searched k c,
        (
          subst (Stands (get_or searched k c)) same (stands_at_place searched k c there),
          same_point_sym (spot_of (get_or searched k c).point) (spot_of c.point)
              (same_if_equal (get_or searched k c) c (holds c)),
        ),
      );
      kept = λ d at. at;
      only = λ d at. inr at;
    }

-- one that was not found is put in
pub put_there : (c : Crossing) (list searched new : List Crossing) (k : ℕ) → searched ≡ list
    → Ascend list → k ≤ length searched
    → (IsNonDecreasingBy (λ d. ordering_index (order_of_points d c)) searched
    → IsPartitionPoint (λ d. order_of_points d c ≡ Less) (λ d. order_of_points d c ≡ Greater)
    searched k)
    → new ≡ insert list k c → IsAdded c list new
put_there c list searched new k same ascend within parted put =
    subst (IsAdded c list) (sym put)
    (subst (λ (xs : List Crossing). k ≤ length xs
    → (IsNonDecreasingBy (λ d. ordering_index (order_of_points d c)) xs
    → IsPartitionPoint (λ d. order_of_points d c ≡ Less) (λ d. order_of_points d c ≡ Greater) xs k)
    → IsAdded c list (insert list k c)) (sym same) from within parted)
  where
    from : k ≤ length list
        → (IsNonDecreasingBy (λ d. ordering_index (order_of_points d c)) list
        → IsPartitionPoint (λ d. order_of_points d c ≡ Less) (λ d. order_of_points d c ≡ Greater)
        list k)
        → IsAdded c list (insert list k c)
    from below at_place =
        record {
          ascend =
              insert_rises order_of_points points_total list k c below ascend
              (at_place
              (searchable_from_sorted points_total (λ (d : Crossing). d) list c
              (rising_is_sorted order_of_points points_total list ascend)));
          there = (c, (put_by_insert list k c, (refl, refl)));
          kept = λ d at. kept_by_insert d list k c at;
          only = λ d at. only_by_insert d list k c at;
        }
