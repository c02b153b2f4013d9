-- Mapping the labels of a cutting of f by g gives a cutting of g after f, and grouping its breaks
-- into runs of one g-label gives the reduced one.
use Rattle.std.proofs.Common.{◌≡◌, refl, sym, ◌∙◌, ap, subst, Bool, true, false, cond, Decides}
use Rattle.std.proofs.Common.{Option, Some, List, [], ◌∷◌, ◌++◌}
use Rattle.std.specs.List.{AllByRecursion}
use Rattle.theory_numbers.specs.Arrows.{Arrow}
use Rattle.theory_cuttings.specs.Ends.{IsEnd}
use Rattle.theory_cuttings.specs.Cuttings.{Break, IsAlike, IsCutting, IsReducedCutting}
use Rattle.theory_cuttings.specs.Cuttings.{HasNoOddPoint}
use Rattle.theory_cuttings.specs.Changes.{break_at, squash, map_labels, Run, Grouped, put_before}
use Rattle.theory_cuttings.specs.Changes.{group, run_breaks, in_runs}
use Rattle.theory_cuttings.proofs.NeedlessBreaks.{squash_is}

module _ {L K : Type 0} (f : Arrow → L) (g : L → K) (high : Option Arrow) where
  -- the same breaks with mapped labels cut the mapped function
  pub map_is : (low : Option Arrow) (first : L) (bs : List (Break L))
      → IsCutting f low high first bs
      → IsCutting (λ u. g (f u)) low high (g first) (map_labels g bs)
  map_is low first [] cut = (cut.0, λ u u_in after before. ap g (cut.1 u u_in after before))
  map_is low first (b ∷ bs) cut = (
    cut.0,
    cut.1,
    λ u u_in after before. ap g (cut.2 u u_in after before),
    map_is (Some b.start) b.label bs cut.3,
  )

-- ---- groups

module _ {L K : Type 0} (same : K → K → Bool) (decides : (a b : K) → Decides (same a b) (a ≡ b))
    (g : L → K) where
  -- label and start of each run are what squash leaves of the mapped breaks
  pub runs_are_squashed : (first : L) (bs : List (Break L))
      → run_breaks g ((group same g first bs).runs) ≡ squash same (g first) (map_labels g bs)
  runs_are_squashed first [] = refl
  runs_are_squashed first (b ∷ bs) =
      from (same (g first) (g b.label)) refl (runs_are_squashed b.label bs)
    where
      rest : Grouped L
      rest = group same g b.label bs

      from : (answer : Bool) → same (g first) (g b.label) ≡ answer
          → run_breaks g rest.runs ≡ squash same (g b.label) (map_labels g bs)
          → run_breaks g ((put_before answer b rest).runs)
          ≡ cond answer (squash same (g first) (map_labels g bs))
          (break_at b.start (g b.label) ∷ squash same (g b.label) (map_labels g bs))
      from true equal later =
          later
          ∙ ap (λ k. squash same k (map_labels g bs))
          (sym ((decides (g first) (g b.label)).0 equal))
      from false other later = ap (λ ds. break_at b.start (g b.label) ∷ ds) later

  -- no break is lost: read through, the runs give the breaks back
  pub runs_keep_breaks : (first : L) (bs : List (Break L))
      → (group same g first bs).before ++ in_runs ((group same g first bs).runs) ≡ bs
  runs_keep_breaks first [] = refl
  runs_keep_breaks first (b ∷ bs) =
      from (same (g first) (g b.label)) (runs_keep_breaks b.label bs)
    where
      rest : Grouped L
      rest = group same g b.label bs

      from : (answer : Bool) → rest.before ++ in_runs rest.runs ≡ bs
          → (put_before answer b rest).before ++ in_runs ((put_before answer b rest).runs)
          ≡ b ∷ bs
      from true later = ap (λ ds. b ∷ ds) later
      from false later = ap (λ ds. b ∷ ds) later

  -- the breaks before the first run have the g-label of the first piece
  pub before_has_label : (first : L) (bs : List (Break L))
      → AllByRecursion (λ d. g first ≡ g d.label) ((group same g first bs).before)
  before_has_label first [] = tt
  before_has_label first (b ∷ bs) =
      from (same (g first) (g b.label)) refl (before_has_label b.label bs)
    where
      rest : Grouped L
      rest = group same g b.label bs

      from : (answer : Bool) → same (g first) (g b.label) ≡ answer
          → AllByRecursion (λ d. g b.label ≡ g d.label) rest.before
          → AllByRecursion (λ d. g first ≡ g d.label) ((put_before answer b rest).before)
      from true equal later =
          let e : g first ≡ g b.label = (decides (g first) (g b.label)).0 equal in
          (e, subst (λ k. AllByRecursion (λ d. k ≡ g d.label) rest.before) (sym e) later)
      from false other later = tt

  -- and each run has one g-label
  pub runs_have_label : (first : L) (bs : List (Break L))
      → AllByRecursion (λ run. AllByRecursion (λ d. g run.head.label ≡ g d.label) run.rest)
      ((group same g first bs).runs)
  runs_have_label first [] = tt
  runs_have_label first (b ∷ bs) =
      from (same (g first) (g b.label)) (before_has_label b.label bs) (runs_have_label b.label bs)
    where
      rest : Grouped L
      rest = group same g b.label bs

      OfOneLabel : Run L → Type 0
      OfOneLabel run = AllByRecursion (λ d. g run.head.label ≡ g d.label) run.rest

      from : (answer : Bool) → AllByRecursion (λ d. g b.label ≡ g d.label) rest.before
          → AllByRecursion (λ run. AllByRecursion (λ d. g run.head.label ≡ g d.label) run.rest)
          rest.runs
          → AllByRecursion (λ run. AllByRecursion (λ d. g run.head.label ≡ g d.label) run.rest)
          ((put_before answer b rest).runs)
      from true before later = later
      from false before later = (before, later)

-- where g after f has no odd point, the runs are its reduced cutting
pub group_is : {L K : Type 0} (f : Arrow → L) → IsAlike f → (g : L → K)
    → (same : K → K → Bool) → ((a b : K) → Decides (same a b) (a ≡ b))
    → (low high : Option Arrow) → IsEnd low → IsEnd high
    → (first : L) (bs : List (Break L)) → IsCutting f low high first bs
    → HasNoOddPoint (λ u. g (f u)) (g first) (map_labels g bs)
    → IsReducedCutting (λ u. g (f u)) low high (g first)
    (run_breaks g ((group same g first bs).runs))
group_is f alike g same decides low high low_in high_in first bs cut plain =
    rw (runs_are_squashed same decides g first bs)
    (squash_is (λ u. g (f u)) (λ r s r_in s_in e. ap g (alike r s r_in s_in e)) high high_in same
    decides low (g first) (map_labels g bs) low_in (map_is f g high low first bs cut) plain)
