-- Intervals on one line that are apart and cover what lies strictly between a and b, but for
-- finitely many numbers: one of them covers all of it.
use Rattle.std.proofs.Common.{◌≡◌, sym, subst, List}
use Rattle.std.specs.List.{AllByRecursion}
use Rattle.theory_numbers.specs.Arrows.{Arrow}
use Rattle.theory_numbers.specs.Rationals.{IsRational, IsBelow, IsAtMost, mediant}
use Rattle.theory_numbers.specs.Intervals.{another}
use Rattle.theory_numbers.proofs.Fractions.Rationals.{below_trans, below_irrefl}
use Rattle.theory_numbers.proofs.Fractions.Rationals.{at_most_below_trans, below_at_most_trans}
use Rattle.theory_numbers.proofs.Fractions.Rationals.{at_most_from_below, mediant-IsRational, mediant_between}
use Rattle.theory_numbers.proofs.Fractions.Avoid.{IsOther, another_is}
use Rattle.theory_lists.specs.Members.{Stands}
use Rattle.theory_lists.proofs.Members.{all_stands}
use Rattle.theory_patches.proofs.NoneBetween.{IsFreeBefore, IsFreeAfter, free_before}
use Rattle.theory_patches.proofs.NoneBetween.{free_after, other_between, beyond_end}
use Rattle.theory_patches.proofs.NoneBetween.{before_start, at_least_if_not_below}

-- the interval named i reaches from `low i` to `high i`. All ends stand in the list, and two
-- intervals that touch are one
pub record AreIntervals {I : Type 0} (low high : I → Arrow) (ends : List Arrow) : Type 0 where
  pub ends_in : AllByRecursion IsRational ends
  pub low_listed : (i : I) → Stands (low i) ends
  pub high_listed : (i : I) → Stands (high i) ends
  pub apart : (i j : I) → IsAtMost (low i) (high j) → IsAtMost (low j) (high i)
      → (low i ≡ low j) × (high i ≡ high j)

-- v lies strictly inside the interval i
pub record IsWithin {I : Type 0} (low high : I → Arrow) (v : Arrow) (i : I) : Type 0 where
  pub after : IsBelow (low i) v
  pub before : IsBelow v (high i)

-- every number strictly between a and b that is none of the list lies strictly inside one
abbrev pub Covers : {I : Type 0} → (I → Arrow) → (I → Arrow) → List Arrow → Arrow → Arrow → Type 0
Covers {I} low high ends a b =
    (v : Arrow) → IsRational v → IsBelow a v → IsBelow v b → AllByRecursion (IsOther v) ends
    → (i : I) × IsWithin low high v i

module _ {I : Type 0} (low high : I → Arrow) (ends : List Arrow)
    (intervals : AreIntervals low high ends) (a b : Arrow) (a_in : IsRational a)
    (b_in : IsRational b) (covers : Covers low high ends a b) where
  low_in : (i : I) → IsRational (low i)
  low_in i = all_stands IsRational (low i) ends intervals.ends_in (intervals.low_listed i)

  high_in : (i : I) → IsRational (high i)
  high_in i = all_stands IsRational (high i) ends intervals.ends_in (intervals.high_listed i)

  -- an interval with a number u strictly between a and b does not start after a: just before its
  -- start there would be another one, and the two would touch
  starts_by : (i : I) (u : Arrow) → IsRational u → IsBelow u b → IsWithin low high u i
      → IsAtMost (low i) a
  starts_by i u u_in before is =
      at_least_if_not_below a (low i)
      (λ less. touching (free_before a (low i) a_in (low_in i) less ends intervals.ends_in))
    where
      touching : (s : Arrow) × IsFreeBefore a (low i) ends s → ⊥
      touching (s, free) =
          let v = mediant s (low i) in
          let v_in = mediant-IsRational s (low i) free.rational (low_in i) in
          let around = mediant_between s (low i) free.before in
          let lower = below_trans v (low i) u v_in (low_in i) u_in around.1 is.after in
          let found =
          covers v v_in (at_most_below_trans a s v a_in free.rational v_in free.within around.0)
          (below_trans v u b v_in u_in b_in lower before)
          (other_between s (low i) v free.rational (low_in i) v_in around.0 around.1 ends
          intervals.ends_in free.none)
          in
          let j = found.0 in
          let v_is : IsWithin low high v j = found.1 in
          let one =
          intervals.apart i j
          (beyond_end s (low i) (high j) ends free.none (intervals.high_listed j)
          (below_trans s v (high j) free.rational v_in (high_in j) around.0 v_is.before))
          (at_most_from_below (low j) (high i)
          (below_trans (low j) u (high i) (low_in j) u_in (high_in i)
          (below_trans (low j) v u (low_in j) v_in u_in v_is.after lower) is.before))
          in
          below_irrefl (low i)
          (subst (λ n. IsBelow n (low i)) (sym one.0)
          (below_trans (low j) v (low i) (low_in j) v_in (low_in i) v_is.after around.1))

  -- nor does it end before b
  ends_by : (i : I) (u : Arrow) → IsRational u → IsBelow a u → IsWithin low high u i
      → IsAtMost b (high i)
  ends_by i u u_in after is =
      at_least_if_not_below (high i) b
      (λ less. touching (free_after (high i) b (high_in i) b_in less ends intervals.ends_in))
    where
      touching : (s : Arrow) × IsFreeAfter (high i) b ends s → ⊥
      touching (s, free) =
          let v = mediant (high i) s in
          let v_in = mediant-IsRational (high i) s (high_in i) free.rational in
          let around = mediant_between (high i) s free.after in
          let upper = below_trans u (high i) v u_in (high_in i) v_in is.before around.0 in
          let found =
          covers v v_in (below_trans a u v a_in u_in v_in after upper)
          (below_at_most_trans v s b v_in free.rational b_in around.1 free.within)
          (other_between (high i) s v (high_in i) free.rational v_in around.0 around.1 ends
          intervals.ends_in free.none)
          in
          let j = found.0 in
          let v_is : IsWithin low high v j = found.1 in
          let one =
          intervals.apart i j
          (at_most_from_below (low i) (high j)
          (below_trans (low i) u (high j) (low_in i) u_in (high_in j) is.after
          (below_trans u v (high j) u_in v_in (high_in j) upper v_is.before)))
          (before_start (high i) s (low j) ends free.none (intervals.low_listed j)
          (below_trans (low j) v s (low_in j) v_in free.rational v_is.after around.1))
          in
          below_irrefl (high i)
          (subst (λ n. IsBelow (high i) n) (sym one.1)
          (below_trans (high i) v (high j) (high_in i) v_in (high_in j) around.0 v_is.before))

  -- one interval covers all that lies between a and b
  pub one_covers : IsBelow a b → (i : I) × IsAtMost (low i) a × IsAtMost b (high i)
  one_covers wide =
      let u = another a b ends in
      let is = another_is a b a_in b_in wide ends intervals.ends_in in
      let found = covers u is.rational is.after is.before is.apart in
      let i = found.0 in (
        i,
        starts_by i u is.rational is.before found.1,
        ends_by i u is.rational is.after found.1,
      )
