-- The runs of the cells of a slab are patches over it, and those of one mark never touch inside.
use Rattle.std.proofs.Common.{◌≡◌, refl, sym, subst, inl, inr, ◌⊎◌, arith}
use Rattle.std.proofs.Common.{Bool, true, false, if◌then◌else◌, List, [], ◌∷◌}
use Rattle.std.proofs.lemmas.Int.{ints}
use Rattle.std.proofs.lemmas.Bool.{and_from}
use Rattle.std.specs.List.{AllByRecursion}
use Rattle.theory_numbers.specs.Arrows.{Arrow}
use Rattle.theory_numbers.specs.Rationals.{IsBelow}
use Rattle.theory_plane.specs.Sides.{LineSide, IsLineSide, is_same_side}
use Rattle.theory_plane.specs.Regions.{Region, IsRegion}
use Rattle.theory_plane.proofs.SameSide.{same_side_decides}
use Rattle.theory_plane.proofs.Regions.{open_between, region_if_open}
use Rattle.theory_plane.proofs.Clearance as clearances
use Rattle.theory_lists.specs.Members.{AllOfTwo}
use Rattle.theory_lists.proofs.Members.{all_follow, all_both}
use Rattle.theory_patches.specs.Marked.{MarkedPatch}
use Rattle.theory_patches.specs.Sheets.{Sheet}
use Rattle.theory_joining.specs.Runs.{IsRunOver, AreApartIfAlike}
use Rattle.theory_joining.specs.Cells.{IsClearOver, IsUnder, is_one_run}
use Rattle.theory_joining.specs.Cells.{raised, lay_under, runs_of}
use Rattle.theory_joining.specs.Laws.{TellsEqual}
use Rattle.theory_joining.proofs.RunsMerge.{AreOneRun, one_run_from, raised_goes_on}

-- ---- all of a list of runs

module _ {M : Type 0} (same : M → M → Bool) where
  -- what holds of the cell and of each run, also of the two in one, holds of the new list
  pub all_laid : (c : MarkedPatch M) (P : MarkedPatch M → Type 0) → P c
      → ((r : MarkedPatch M) → P r → is_one_run same c r ≡ true → P (raised c r))
      → (rs : List (MarkedPatch M)) → AllByRecursion P rs → AllByRecursion P (lay_under same c rs)
  all_laid c P at_c in_one [] all = (at_c, tt)
  all_laid c P at_c in_one (r ∷ rs) all = from (is_one_run same c r) (in_one r all.0)
    where
      from : (b : Bool) → (b ≡ true → P (raised c r))
          → AllByRecursion P (if b then raised c r ∷ rs else c ∷ r ∷ rs)
      from true one = (one refl, all.1)
      from false one = (at_c, all)

  -- what holds of the lower sides of the cells holds of the lower sides of the runs
  all_lower : (Q : LineSide → Type 0) (cs : List (MarkedPatch M))
      → AllByRecursion (λ c. Q c.region.lower) cs
      → AllByRecursion (λ c. Q c.region.lower) (runs_of same cs)
  all_lower Q [] all = tt
  all_lower Q (c ∷ cs) all =
      all_laid c (λ r. Q r.region.lower) all.0 (λ r at_r one. all.0) (runs_of same cs)
      (all_lower Q cs all.1)

  -- ---- they rise, and no two neighbours are one run

  module _ (cur next : Arrow) where
    lay_rises : (c : MarkedPatch M) (rs : List (MarkedPatch M))
        → AllByRecursion (IsUnder cur next c) rs → AllOfTwo (IsUnder cur next) rs
        → AllOfTwo (IsUnder cur next) (lay_under same c rs)
    lay_rises c [] under rising = (tt, tt)
    lay_rises c (r ∷ rs) under rising = from (is_one_run same c r)
      where
        from : (b : Bool)
            → AllOfTwo (IsUnder cur next) (if b then raised c r ∷ rs else c ∷ r ∷ rs)
        from true = (rising.0, rising.1)
        from false = (under, rising)

    -- each run is under all that follow
    pub runs_rise : (cs : List (MarkedPatch M)) → AllOfTwo (IsUnder cur next) cs
        → AllOfTwo (IsUnder cur next) (runs_of same cs)
    runs_rise [] rising = tt
    runs_rise (c ∷ cs) rising =
        lay_rises c (runs_of same cs)
        (all_lower
        (λ l. (c.region.upper ≡ l) ⊎ IsClearOver cur next c.region.upper l) cs rising.0)
        (runs_rise cs rising.1)

  -- the first of the list does not go on from r
  abbrev pub IsSettledBefore : MarkedPatch M → List (MarkedPatch M) → Type 0
  IsSettledBefore r [] = Unit {0}
  IsSettledBefore r (s ∷ ss) = is_one_run same r s ≡ false

  -- no two neighbours are one run
  abbrev pub AreSettled : List (MarkedPatch M) → Type 0
  AreSettled [] = Unit {0}
  AreSettled (r ∷ rs) = IsSettledBefore r rs × AreSettled rs

  module _ (tells : TellsEqual same) where
    raised_is_settled : (c r : MarkedPatch M) → is_one_run same c r ≡ true
        → (rs : List (MarkedPatch M)) → IsSettledBefore r rs → IsSettledBefore (raised c r) rs
    raised_is_settled c r one [] settled = tt
    raised_is_settled c r one (s ∷ ss) settled =
        raised_goes_on same tells c r s false one settled

    lay_settles : (c : MarkedPatch M) (rs : List (MarkedPatch M)) → AreSettled rs
        → AreSettled (lay_under same c rs)
    lay_settles c [] settled = (tt, tt)
    lay_settles c (r ∷ rs) settled = from (is_one_run same c r) refl
      where
        from : (b : Bool) → is_one_run same c r ≡ b
            → AreSettled (if b then raised c r ∷ rs else c ∷ r ∷ rs)
        from true one = (raised_is_settled c r one rs settled.0, settled.1)
        from false none = (none, settled)

    -- so it is with the runs
    pub runs_are_settled : (cs : List (MarkedPatch M)) → AreSettled (runs_of same cs)
    runs_are_settled [] = tt
    runs_are_settled (c ∷ cs) = lay_settles c (runs_of same cs) (runs_are_settled cs)

-- ---- over a slab

module _ (cur next : Arrow) where
  -- a run is open over the slab
  pub run_is_open : (r : Region) → IsRunOver cur next r → IsClearOver cur next r.lower r.upper
  run_is_open r r_is u u_in after before =
      open_between r r_is.patch.region u u_in (subst (λ n. IsBelow n u) (sym r_is.begins) after)
      (subst (λ n. IsBelow u n) (sym r_is.ends) before)

  clear_trans : (l m n : LineSide) → IsLineSide l → IsLineSide m → IsLineSide n
      → IsClearOver cur next l m → IsClearOver cur next m n → IsClearOver cur next l n
  clear_trans l m n l_in m_in n_in low high u u_in after before =
      let above = high u u_in after before in
      clearances.below_at_most_trans l m n u l_in m_in n_in (low u u_in after before)
      (omega (arith, ints))

  module _ {M : Type 0} (same : M → M → Bool) (tells : TellsEqual same) where
    -- two in one are a run
    raised_is_run : (c r : MarkedPatch M) → IsRunOver cur next c.region
        → IsRunOver cur next r.region → AreOneRun same tells c r
        → IsRunOver cur next (raised c r).region
    raised_is_run c r c_is r_is one =
        record {
          patch =
              record {
                region =
                    region_if_open (raised c r).region c_in.low_in c_in.high_in c_in.lower_in
                    r_in.upper_in c_in.wide
                    (λ u u_in after before.
                    clear u u_in (subst (λ n. IsBelow n u) c_is.begins after)
                    (subst (λ n. IsBelow u n) c_is.ends before));
                low_reduced = c_is.patch.low_reduced;
                high_reduced = c_is.patch.high_reduced;
                lower_reduced = c_is.patch.lower_reduced;
                upper_reduced = r_is.patch.upper_reduced;
              };
          begins = c_is.begins;
          ends = c_is.ends;
        }
      where
        c_in : IsRegion c.region
        c_in = c_is.patch.region

        r_in : IsRegion r.region
        r_in = r_is.patch.region

        clear : IsClearOver cur next c.region.lower r.region.upper
        clear =
            clear_trans c.region.lower c.region.upper r.region.upper c_in.lower_in c_in.upper_in
            r_in.upper_in (run_is_open c.region c_is)
            (subst (λ l. IsClearOver cur next l r.region.upper) (sym one.side)
            (run_is_open r.region r_is))

    -- what is under a run is clear of its upper side
    pub clear_of_upper : (r s : MarkedPatch M) → IsRunOver cur next r.region
        → IsRunOver cur next s.region → IsUnder cur next r s
        → IsClearOver cur next r.region.upper s.region.upper
    clear_of_upper r s r_is s_is (inl touch) =
        subst (λ l. IsClearOver cur next l s.region.upper) (sym touch) (run_is_open s.region s_is)
    clear_of_upper r s r_is s_is (inr clear) =
        clear_trans r.region.upper s.region.lower s.region.upper r_is.patch.region.upper_in
        s_is.patch.region.lower_in s_is.patch.region.upper_in clear (run_is_open s.region s_is)

    -- so runs with another one between them are clear of each other
    clear_over_one : (r s t : MarkedPatch M) → IsRunOver cur next r.region
        → IsRunOver cur next s.region → IsRunOver cur next t.region → IsUnder cur next r s
        → IsUnder cur next s t → IsClearOver cur next r.region.upper t.region.lower
    clear_over_one r s t r_is s_is t_is low (inl touch) =
        subst (λ l. IsClearOver cur next r.region.upper l) touch (clear_of_upper r s r_is s_is low)
    clear_over_one r s t r_is s_is t_is low (inr clear) =
        clear_trans r.region.upper s.region.upper t.region.lower r_is.patch.region.upper_in
        s_is.patch.region.upper_in t_is.patch.region.lower_in (clear_of_upper r s r_is s_is low)
        clear

    -- all runs are runs
    pub runs_are_runs : (cs : List (MarkedPatch M))
        → AllByRecursion (λ c. IsRunOver cur next c.region) cs
        → AllByRecursion (λ r. IsRunOver cur next r.region) (runs_of same cs)
    runs_are_runs [] cells = tt
    runs_are_runs (c ∷ cs) cells =
        all_laid same c (λ r. IsRunOver cur next r.region) cells.0
        (λ r r_is one. raised_is_run c r cells.0 r_is (one_run_from same tells c r one))
        (runs_of same cs) (runs_are_runs cs cells.1)

    module _ (sheet : Sheet) where
      -- runs that are clear are apart
      apart_if_clear : (r t : MarkedPatch M) → IsRunOver cur next r.region
          → IsClearOver cur next r.region.upper t.region.lower → AreApartIfAlike sheet r t
      apart_if_clear r t r_is clear alike u u_in off over_r over_t first second =
          let above =
          clear u u_in (subst (λ n. IsBelow n u) r_is.begins over_r.after)
          (subst (λ n. IsBelow u n) r_is.ends over_r.before)
          in
          let turn = clearances.clearance-turn r.region.upper t.region.lower u in
          omega (arith, ints)

      -- so are neighbours that are not one run
      apart_if_settled : (r s : MarkedPatch M) → IsRunOver cur next r.region → IsUnder cur next r s
          → is_one_run same r s ≡ false → AreApartIfAlike sheet r s
      apart_if_settled r s r_is (inl touch) settled alike =
          absurd
          (clash settled
          (and_from (is_same_side r.region.upper s.region.lower) (same r.mark s.mark)
          ((same_side_decides r.region.upper s.region.lower).1 touch)
          ((tells r.mark s.mark).1 alike)))
        where
          clash : {b : Bool} → b ≡ false → b ≡ true → ⊥
          clash none both = cc
      apart_if_settled r s r_is (inr clear) settled alike = apart_if_clear r s r_is clear alike

      -- all runs of the slab are apart
      apart_from_first : (r : MarkedPatch M) → IsRunOver cur next r.region
          → (rs : List (MarkedPatch M)) → AllByRecursion (λ s. IsRunOver cur next s.region) rs
          → AllByRecursion (IsUnder cur next r) rs → AllOfTwo (IsUnder cur next) rs
          → IsSettledBefore same r rs → AllByRecursion (AreApartIfAlike sheet r) rs
      apart_from_first r r_is [] runs under rising settled = tt
      apart_from_first r r_is (s ∷ ss) runs under rising settled = (
        apart_if_settled r s r_is under.0 settled,
        all_follow
            (λ t both.
            apart_if_clear r t r_is (clear_over_one r s t r_is runs.0 both.0 under.0 both.1))
            ss (all_both _ _ ss runs.1 rising.0),
      )

      -- runs that rise and of which no neighbours could be one stay apart where they are alike
      pub runs_are_apart : (rs : List (MarkedPatch M))
          → AllByRecursion (λ s. IsRunOver cur next s.region) rs → AllOfTwo (IsUnder cur next) rs
          → AreSettled same rs → AllOfTwo (AreApartIfAlike sheet) rs
      runs_are_apart [] runs rising settled = tt
      runs_are_apart (r ∷ rs) runs rising settled = (
        apart_from_first r runs.0 rs runs.1 rising.0 rising.1 settled.0,
        runs_are_apart rs runs.1 rising.1 settled.1,
      )
