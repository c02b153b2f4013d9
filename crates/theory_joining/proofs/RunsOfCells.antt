-- The runs of the cells of a slab are the runs of the slab.
use Rattle.std.proofs.Common.{◌≡◌, Bool, true, false, List}
use Rattle.theory_numbers.specs.Arrows.{Arrow}
use Rattle.theory_plane.specs.Sides.{LineSide}
use Rattle.theory_plane.specs.Points.{FacePoint, is_on_side}
use Rattle.theory_lists.specs.Members.{Stands}
use Rattle.theory_lists.proofs.Members.{all_stands}
use Rattle.theory_patches.specs.Marked.{MarkedPatch}
use Rattle.theory_patches.specs.Sheets.{Sheet}
use Rattle.theory_joining.specs.Runs.{AreRunsOver}
use Rattle.theory_joining.specs.Cells.{IsOfCuts, AreCellsOver, runs_of}
use Rattle.theory_joining.specs.Laws.{TellsEqual, Passes, HasRunsOfCells}
use Rattle.theory_joining.proofs.RunsStayApart.{runs_are_runs, runs_are_apart, runs_rise}
use Rattle.theory_joining.proofs.RunsStayApart.{runs_are_settled}
use Rattle.theory_joining.proofs.RunsKeepMarks.{runs_mark, runs_mark_no_more}

-- no point of a side that is one of the cuts is off the cuts
pub listed_is_of_cuts : (sheet : Sheet) (side : LineSide) → Stands side sheet.cuts
    → IsOfCuts sheet side
listed_is_of_cuts sheet side listed point point_in off on =
    clash (all_stands (λ cut. is_on_side cut point ≡ false) side sheet.cuts off.no_cut listed) on
  where
    clash : {b : Bool} → b ≡ false → b ≡ true → ⊥
    clash none both = cc

module _ (cur next : Arrow) {M : Type 0} (same : M → M → Bool) (tells : TellsEqual same)
    (sheet : Sheet) where
  -- the runs of the cells of a slab are the runs of the slab
  pub runs_of_cells : (Has : FacePoint → M → Type 0) (cs : List (MarkedPatch M))
      → AreCellsOver sheet Has cur next cs → AreRunsOver sheet Has cur next (runs_of same cs)
  runs_of_cells Has cs cells =
      let runs = runs_are_runs cur next same tells cs cells.cells in
      record {
        runs = runs;
        apart =
            runs_are_apart cur next same tells sheet (runs_of same cs) runs
            (runs_rise same cur next cs cells.rising) (runs_are_settled same tells cs);
        marks =
            λ point point_in off inside mark.
            let has = cells.marks point point_in off inside mark in (
              λ marked.
                  has.0
                  (runs_mark_no_more cur next same tells point point_in inside mark sheet off cs
                  cells.cells cells.inner_lines marked),
              λ there.
                  runs_mark cur next same tells point point_in inside mark cs cells.cells
                  (has.1 there),
            );
      }

-- as the contract has it
pub has_runs_of_cells : (M : Type 0) → HasRunsOfCells M
has_runs_of_cells M sheet has same cur next cs tells cells =
    runs_of_cells cur next same tells sheet (Passes has) cs cells
