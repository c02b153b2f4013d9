-- The runs of two stretches of cells, the second above the first, are the runs of both merged.
use Rattle.std.proofs.Common.{◌≡◌, refl, sym, ◌∙◌, ap, Bool, true, false, ◌&&◌, if◌then◌else◌}
use Rattle.std.proofs.Common.{List, [], ◌∷◌, ◌++◌}
use Rattle.std.proofs.lemmas.Bool.{and_parts}
use Rattle.theory_plane.specs.Sides.{is_same_side}
use Rattle.theory_plane.proofs.SameSide.{same_side_decides}
use Rattle.theory_patches.specs.Marked.{MarkedPatch}
use Rattle.theory_joining.specs.Cells.{is_one_run, raised, lay_under, runs_of, merge}
use Rattle.theory_joining.specs.Laws.{TellsEqual, HasMerge}

module _ {M : Type 0} (same : M → M → Bool) (tells : TellsEqual same) where
  -- two neighbours of one mark: the upper side of the first is the lower side of the second
  pub record AreOneRun (c d : MarkedPatch M) : Type 0 where
    pub side : c.region.upper ≡ d.region.lower
    pub mark : c.mark ≡ d.mark

  -- the test says so
  pub one_run_from : (c d : MarkedPatch M) → is_one_run same c d ≡ true → AreOneRun c d
  one_run_from c d answer =
      let parts =
      and_parts (is_same_side c.region.upper d.region.lower) (same c.mark d.mark) answer
      in
      record {
        side = (same_side_decides c.region.upper d.region.lower).0 parts.0;
        mark = (tells c.mark d.mark).0 parts.1;
      }

  -- where both c and r, and r and s, are one run, so are c raised to r and s
  pub raised_goes_on : (c r s : MarkedPatch M) (b : Bool) → is_one_run same c r ≡ true
      → is_one_run same r s ≡ b → is_one_run same (raised c r) s ≡ b
  raised_goes_on c r s b first second =
      ap (λ m. is_same_side r.region.upper s.region.lower && same m s.mark)
      (one_run_from c r first).mark
      ∙ second

  -- the list that a cell makes with a run and those above it, by the answer of the test
  abbrev laid : Bool → MarkedPatch M → MarkedPatch M → List (MarkedPatch M) → List (MarkedPatch M)
  laid b c r rs = if b then raised c r ∷ rs else c ∷ r ∷ rs

  -- a run that was laid under others is laid under a cell as they are: the cell sees its lower side
  -- and its mark alone
  lay_twice : (c r : MarkedPatch M) (ss : List (MarkedPatch M))
      → lay_under same c (lay_under same r ss)
      ≡ (if is_one_run same c r then lay_under same (raised c r) ss else c ∷ lay_under same r ss)
  lay_twice c r [] = refl
  lay_twice c r (s ∷ ss) =
      from (is_one_run same c r) refl (is_one_run same r s) refl
    where
      from : (d : Bool) → is_one_run same c r ≡ d → (b : Bool) → is_one_run same r s ≡ b
          → lay_under same c (if b then raised r s ∷ ss else r ∷ s ∷ ss)
          ≡ (if d then lay_under same (raised c r) (s ∷ ss)
          else c ∷ (if b then raised r s ∷ ss else r ∷ s ∷ ss))
      from true first true second =
          ap (λ b. laid b c (raised r s) ss) first
          ∙ sym (ap (λ b. laid b (raised c r) s ss) (raised_goes_on c r s true first second))
      from true first false second =
          ap (λ b. laid b c r (s ∷ ss)) first
          ∙ sym (ap (λ b. laid b (raised c r) s ss) (raised_goes_on c r s false first second))
      from false first true second = ap (λ b. laid b c (raised r s) ss) first
      from false first false second = ap (λ b. laid b c r (s ∷ ss)) first

  -- a cell is laid under the first stretch
  lay_under-merge : (c : MarkedPatch M) (rs ss : List (MarkedPatch M))
      → lay_under same c (merge same rs ss) ≡ merge same (lay_under same c rs) ss
  lay_under-merge c [] ss = refl
  lay_under-merge c (r ∷ []) ss = lay_twice c r ss ∙ from (is_one_run same c r)
    where
      from : (b : Bool) → (if b then lay_under same (raised c r) ss else c ∷ lay_under same r ss)
          ≡ merge same (if b then raised c r ∷ [] else c ∷ r ∷ []) ss
      from true = refl
      from false = refl
  lay_under-merge c (r ∷ q ∷ rs) ss = from (is_one_run same c r)
    where
      from : (b : Bool)
          → (if b then raised c r ∷ merge same (q ∷ rs) ss else c ∷ r ∷ merge same (q ∷ rs) ss)
          ≡ merge same (if b then raised c r ∷ q ∷ rs else c ∷ r ∷ q ∷ rs) ss
      from true = refl
      from false = refl

  -- the runs of both stretches
  pub runs_of-append : (cs ds : List (MarkedPatch M))
      → runs_of same (cs ++ ds) ≡ merge same (runs_of same cs) (runs_of same ds)
  runs_of-append [] ds = refl
  runs_of-append (c ∷ cs) ds =
      ap (lay_under same c) (runs_of-append cs ds)
      ∙ lay_under-merge c (runs_of same cs) (runs_of same ds)

-- as the contract has it
pub has_merge : (M : Type 0) → HasMerge M
has_merge M same cs ds tells = runs_of-append same tells cs ds
