-- Worked slabs with their runs, and the patches that joining makes of them.
use Rattle.std.proofs.Common.{◌≡◌, refl, inl, inr, ℕ, pos, true, List, [], ◌∷◌, ◌++◌, arith}
use Rattle.std.proofs.lemmas.Int.{ints}
use Rattle.std.proofs.lemmas.Bool.Decides.{Decides-eqb}
use Rattle.std.proofs.Math.Dec.{eqb}
use Rattle.theory_numbers.specs.Arrows.{Arrow, cross, dot}
use Rattle.theory_numbers.specs.Rationals.{rational}
use Rattle.theory_numbers.proofs.Fractions.Reduced.{whole_is_reduced}
use Rattle.theory_plane.specs.Sides.{LineSide, line, level, IsReducedSide, clearance}
use Rattle.theory_plane.specs.Regions.{is_region}
use Rattle.theory_plane.proofs.Regions.{region_from}
use Rattle.theory_patches.specs.Marked.{MarkedPatch}
use Rattle.theory_patches.specs.Sheets.{Sheet, IsSheet, IsMarkedAt}
use Rattle.theory_joining.specs.Runs.{IsSlab, IsRunOver, AreRunsOver}
use Rattle.theory_joining.specs.Cells.{AreCellsOver, runs_of, merge}
use Rattle.theory_joining.specs.Slabs.{SlabRuns, AreRunsOfSlab, join, IsJoinOf}
use Rattle.theory_joining.specs.Laws.{TellsEqual}
use Rattle.theory_joining.proofs.JoinOfSlabs.{is_join}
use Rattle.theory_joining.proofs.RunsOfCells.{listed_is_of_cuts, runs_of_cells}

-- ---- a sheet with the abscissae 0, 1, 2 and 3, and marks that are numbers

-- the whole number n
abbrev pub number : ℕ → Arrow
number n = rational (pos n) (pos 1)

-- the sheet, without cuts
abbrev pub sheet : Sheet
sheet =
    record { abscissae = number 0 ∷ number 1 ∷ number 2 ∷ number 3 ∷ []; cuts = [] }

-- it is a sheet
pub sheet_is : IsSheet sheet
sheet_is =
    record {
      abscissae_in = (
        omega (arith, ints),
        (omega (arith, ints), (omega (arith, ints), (omega (arith, ints), tt))),
      );
      cuts_in = tt;
    }

-- the test of numbers tells whether two marks are equal
pub eqb_tells_equal : TellsEqual eqb
eqb_tells_equal = Decides-eqb

-- its three slabs
pub first_slab : IsSlab sheet (number 0) (number 1)
unfolding cross
first_slab =
    record { begins = inl refl; end_in = omega (arith, ints); wide = omega (arith, ints) }

-- the second begins where the first ends
pub second_slab : IsSlab sheet (number 1) (number 2)
unfolding cross
second_slab =
    record { begins = inr (inl refl); end_in = omega (arith, ints); wide = omega (arith, ints) }

-- and the third where the second ends
pub third_slab : IsSlab sheet (number 2) (number 3)
unfolding cross
third_slab =
    record {
      begins = inr (inr (inl refl));
      end_in = omega (arith, ints);
      wide = omega (arith, ints);
    }

-- ---- runs: between two sides, from one number to another

-- the run of this mark
abbrev pub strip : ℕ → ℕ → ℕ → LineSide → LineSide → MarkedPatch ℕ
strip mark from to lower upper =
    record {
      region = record { low = number from; high = number to; lower = lower; upper = upper };
      mark = mark;
    }

-- between two heights
abbrev pub block : ℕ → ℕ → ℕ → ℕ → ℕ → MarkedPatch ℕ
block mark from to bottom top = strip mark from to (level (pos bottom)) (level (pos top))

-- a strip between reduced sides is a run where it passes the test of a region
pub strip_is_run : (mark from to : ℕ) (lower upper : LineSide) → IsReducedSide lower
    → IsReducedSide upper → is_region (strip mark from to lower upper).region ≡ true
    → IsRunOver (number from) (number to) (strip mark from to lower upper).region
strip_is_run mark from to lower upper lower_in upper_in answer =
    record {
      patch =
          record {
            region = region_from (strip mark from to lower upper).region answer;
            low_reduced = whole_is_reduced (pos from);
            high_reduced = whole_is_reduced (pos to);
            lower_reduced = lower_in;
            upper_reduced = upper_in;
          };
      begins = refl;
      ends = refl;
    }

-- and so is a block
pub block_is_run : (mark from to bottom top : ℕ)
    → is_region (block mark from to bottom top).region ≡ true
    → IsRunOver (number from) (number to) (block mark from to bottom top).region
block_is_run mark from to bottom top answer =
    strip_is_run mark from to (level (pos bottom)) (level (pos top)) (whole_is_reduced (pos 0))
    (whole_is_reduced (pos 0)) answer

-- the slab from one number to another with its runs
abbrev pub slab : ℕ → ℕ → List (MarkedPatch ℕ) → SlabRuns ℕ
slab from to runs = record { low = number from; high = number to; runs = runs }

-- one run over a slab
pub one_run : (from to : ℕ) (r : MarkedPatch ℕ) → IsSlab sheet (number from) (number to)
    → IsRunOver (number from) (number to) r.region → AreRunsOfSlab sheet (slab from to (r ∷ []))
one_run from to r slab_is r_is =
    record { slab = slab_is; runs = (r_is, tt); apart = (tt, tt) }

-- a slab that was left out
pub left_out : (from to : ℕ) → IsSlab sheet (number from) (number to)
    → AreRunsOfSlab sheet (slab from to [])
left_out from to slab_is = record { slab = slab_is; runs = tt; apart = tt }

-- the three slabs with these runs
abbrev pub three : List (MarkedPatch ℕ) → List (MarkedPatch ℕ) → List (MarkedPatch ℕ)
    → List (SlabRuns ℕ)
three first second third = slab 0 1 first ∷ slab 1 2 second ∷ slab 2 3 third ∷ []

-- what joining makes of them
abbrev pub joined : List (MarkedPatch ℕ) → List (MarkedPatch ℕ) → List (MarkedPatch ℕ)
    → List (MarkedPatch ℕ)
joined first second third = join eqb (three first second third) []

-- it is their join
pub joined_is : (first second third : List (MarkedPatch ℕ)) → AreRunsOfSlab sheet (slab 0 1 first)
    → AreRunsOfSlab sheet (slab 1 2 second) → AreRunsOfSlab sheet (slab 2 3 third)
    → IsJoinOf sheet (three first second third) (joined first second third)
joined_is first second third first_is second_is third_is =
    is_join sheet sheet_is eqb eqb_tells_equal (three first second third) (number 0) (number 3)
    (first_is, (second_is, (third_is, tt))) (refl, (refl, (refl, refl)))
    (inr (inr (inr (inl refl))))

-- ---- a wall opposite a joint of two others: behind it lie room 2, the end 9 of a wall, and room 3

abbrev joint : List (MarkedPatch ℕ)
joint = block 2 0 1 0 3 ∷ block 9 1 2 0 3 ∷ block 3 2 3 0 3 ∷ []

-- the strip in the middle is a patch of its own, so there are three
joint_joined : joined (block 2 0 1 0 3 ∷ []) (block 9 1 2 0 3 ∷ []) (block 3 2 3 0 3 ∷ []) ≡ joint
unfolding cross
joint_joined = refl

joint_is
    : IsJoinOf sheet
    (three (block 2 0 1 0 3 ∷ []) (block 9 1 2 0 3 ∷ []) (block 3 2 3 0 3 ∷ [])) joint
unfolding cross dot clearance
joint_is =
    joined_is (block 2 0 1 0 3 ∷ []) (block 9 1 2 0 3 ∷ []) (block 3 2 3 0 3 ∷ [])
    (one_run 0 1 (block 2 0 1 0 3) first_slab (block_is_run 2 0 1 0 3 refl))
    (one_run 1 2 (block 9 1 2 0 3) second_slab (block_is_run 9 1 2 0 3 refl))
    (one_run 2 3 (block 3 2 3 0 3) third_slab (block_is_run 3 2 3 0 3 refl))

-- ---- a patch that ends where another of the same walk begins with other sides

-- the two share a part of a side on the abscissa, and stay two
bend_joined
    : joined (block 7 0 1 0 1 ∷ []) (block 7 1 2 0 2 ∷ []) (block 7 2 3 0 2 ∷ [])
    ≡ block 7 0 1 0 1 ∷ block 7 1 3 0 2 ∷ []
unfolding cross
bend_joined = refl

bend_is
    : IsJoinOf sheet (three (block 7 0 1 0 1 ∷ []) (block 7 1 2 0 2 ∷ []) (block 7 2 3 0 2 ∷ []))
    (block 7 0 1 0 1 ∷ block 7 1 3 0 2 ∷ [])
unfolding cross dot clearance
bend_is =
    joined_is (block 7 0 1 0 1 ∷ []) (block 7 1 2 0 2 ∷ []) (block 7 2 3 0 2 ∷ [])
    (one_run 0 1 (block 7 0 1 0 1) first_slab (block_is_run 7 0 1 0 1 refl))
    (one_run 1 2 (block 7 1 2 0 2) second_slab (block_is_run 7 1 2 0 2 refl))
    (one_run 2 3 (block 7 2 3 0 2) third_slab (block_is_run 7 2 3 0 2 refl))

-- ---- a seam

-- runs of one walk with one lower and one upper side are one patch, over as many slabs as they go
seam_joined
    : joined (block 7 0 1 0 1 ∷ []) (block 7 1 2 0 1 ∷ []) (block 7 2 3 0 1 ∷ [])
    ≡ block 7 0 3 0 1 ∷ []
unfolding cross
seam_joined = refl

seam_is
    : IsJoinOf sheet (three (block 7 0 1 0 1 ∷ []) (block 7 1 2 0 1 ∷ []) (block 7 2 3 0 1 ∷ []))
    (block 7 0 3 0 1 ∷ [])
unfolding cross dot clearance
seam_is =
    joined_is (block 7 0 1 0 1 ∷ []) (block 7 1 2 0 1 ∷ []) (block 7 2 3 0 1 ∷ [])
    (one_run 0 1 (block 7 0 1 0 1) first_slab (block_is_run 7 0 1 0 1 refl))
    (one_run 1 2 (block 7 1 2 0 1) second_slab (block_is_run 7 1 2 0 1 refl))
    (one_run 2 3 (block 7 2 3 0 1) third_slab (block_is_run 7 2 3 0 1 refl))

-- ---- a slab that was left out

-- what lies on its two sides stays two
gap_joined
    : joined (block 7 0 1 0 1 ∷ []) [] (block 7 2 3 0 1 ∷ [])
    ≡ block 7 0 1 0 1 ∷ block 7 2 3 0 1 ∷ []
unfolding cross
gap_joined = refl

gap_is
    : IsJoinOf sheet (three (block 7 0 1 0 1 ∷ []) [] (block 7 2 3 0 1 ∷ []))
    (block 7 0 1 0 1 ∷ block 7 2 3 0 1 ∷ [])
unfolding cross dot clearance
gap_is =
    joined_is (block 7 0 1 0 1 ∷ []) [] (block 7 2 3 0 1 ∷ [])
    (one_run 0 1 (block 7 0 1 0 1) first_slab (block_is_run 7 0 1 0 1 refl))
    (left_out 1 2 second_slab)
    (one_run 2 3 (block 7 2 3 0 1) third_slab (block_is_run 7 2 3 0 1 refl))

-- ---- two faces side by side, of one line and one walk

-- each is a sheet of its own: for it the slabs of the other are left out
left_face_joined : joined (block 7 0 1 0 1 ∷ []) [] [] ≡ block 7 0 1 0 1 ∷ []
unfolding cross
left_face_joined = refl

left_face_is
    : IsJoinOf sheet (three (block 7 0 1 0 1 ∷ []) [] []) (block 7 0 1 0 1 ∷ [])
unfolding cross dot clearance
left_face_is =
    joined_is (block 7 0 1 0 1 ∷ []) [] []
    (one_run 0 1 (block 7 0 1 0 1) first_slab (block_is_run 7 0 1 0 1 refl))
    (left_out 1 2 second_slab) (left_out 2 3 third_slab)

right_face_joined : joined [] (block 7 1 2 0 1 ∷ []) [] ≡ block 7 1 2 0 1 ∷ []
unfolding cross
right_face_joined = refl

right_face_is
    : IsJoinOf sheet (three [] (block 7 1 2 0 1 ∷ []) []) (block 7 1 2 0 1 ∷ [])
unfolding cross dot clearance
right_face_is =
    joined_is [] (block 7 1 2 0 1 ∷ []) [] (left_out 0 1 first_slab)
    (one_run 1 2 (block 7 1 2 0 1) second_slab (block_is_run 7 1 2 0 1 refl))
    (left_out 2 3 third_slab)

-- on one sheet they would be one patch
as_one_sheet : joined (block 7 0 1 0 1 ∷ []) (block 7 1 2 0 1 ∷ []) [] ≡ block 7 0 2 0 1 ∷ []
unfolding cross
as_one_sheet = refl

-- ---- equal walks that touch at one point on an abscissa

-- v = u
abbrev diagonal : LineSide
diagonal = line (pos 1) (pos 1) (pos 0)

diagonal_is : IsReducedSide diagonal
diagonal_is = whole_is_reduced (pos 1)

-- above the diagonal up to the height 1, and beyond u = 1 above that height up to the diagonal
abbrev below_point : MarkedPatch ℕ
below_point = strip 7 0 1 diagonal (level (pos 1))

abbrev beyond_point : MarkedPatch ℕ
beyond_point = strip 7 1 2 (level (pos 1)) diagonal

point_joined
    : joined (below_point ∷ []) (beyond_point ∷ []) [] ≡ below_point ∷ beyond_point ∷ []
unfolding cross
point_joined = refl

point_is
    : IsJoinOf sheet (three (below_point ∷ []) (beyond_point ∷ []) [])
    (below_point ∷ beyond_point ∷ [])
unfolding cross dot clearance
point_is =
    joined_is (below_point ∷ []) (beyond_point ∷ []) []
    (one_run 0 1 below_point first_slab
    (strip_is_run 7 0 1 diagonal (level (pos 1)) diagonal_is (whole_is_reduced (pos 0)) refl))
    (one_run 1 2 beyond_point second_slab
    (strip_is_run 7 1 2 (level (pos 1)) diagonal (whole_is_reduced (pos 0)) diagonal_is refl))
    (left_out 2 3 third_slab)

-- ---- cells: of four over one slab the lowest two are one run, the third has another mark, and
-- what lies above a gap is a run of its own

abbrev low_cells : List (MarkedPatch ℕ)
low_cells = block 7 0 1 0 1 ∷ block 7 0 1 1 2 ∷ block 8 0 1 2 3 ∷ []

cells_run
    : runs_of eqb (low_cells ++ block 8 0 1 4 5 ∷ [])
    ≡ block 7 0 1 0 2 ∷ block 8 0 1 2 3 ∷ block 8 0 1 4 5 ∷ []
cells_run = refl

-- read in two stretches that part the lowest two, the runs are merged to the same
cells_merge
    : merge eqb (runs_of eqb (block 7 0 1 0 1 ∷ []))
    (runs_of eqb (block 7 0 1 1 2 ∷ block 8 0 1 2 3 ∷ []))
    ≡ runs_of eqb low_cells
cells_merge = refl

-- two cells whose common side is a cut, over the first slab
abbrev cut_sheet : Sheet
cut_sheet =
    record {
      abscissae = number 0 ∷ number 1 ∷ [];
      cuts = level (pos 0) ∷ level (pos 1) ∷ level (pos 2) ∷ [];
    }

abbrev two_cells : List (MarkedPatch ℕ)
two_cells = block 7 0 1 0 1 ∷ block 7 0 1 1 2 ∷ []

-- are the cells of their own marks
two_cells_are : AreCellsOver cut_sheet (IsMarkedAt two_cells) (number 0) (number 1) two_cells
unfolding cross dot clearance
two_cells_are =
    record {
      cells = (block_is_run 7 0 1 0 1 refl, (block_is_run 7 0 1 1 2 refl, tt));
      rising = ((inl refl, tt), (tt, tt));
      inner_lines = (
        listed_is_of_cuts cut_sheet (level (pos 1)) (inr (inl refl)),
        (listed_is_of_cuts cut_sheet (level (pos 2)) (inr (inr (inl refl))), tt),
      );
      marks =
          λ point point_in off inside mark. (λ marked. marked, λ marked. marked);
    }

-- so the block of both is their run
their_run_is
    : AreRunsOver cut_sheet (IsMarkedAt two_cells) (number 0) (number 1) (block 7 0 1 0 2 ∷ [])
their_run_is =
    runs_of_cells (number 0) (number 1) eqb eqb_tells_equal cut_sheet (IsMarkedAt two_cells)
    two_cells two_cells_are
