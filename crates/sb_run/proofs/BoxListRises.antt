-- The boundaries of one box are all of its space, so the spaces do not fall.
use Rattle.std.proofs.Common.{◌≡◌, ◌≤◌, ℕ, true, List, [], ◌∷◌, refl, arith}
use Rattle.std.proofs.lemmas.Bool.{le-leb}
use Rattle.sb_model.specs.declared.boundary.Boundary.{Boundary}
use Rattle.sb_box.specs.BoxList.{BoxPatch, AreBoxBoundaries}
use Rattle.sb_run.specs.Messages.{have_rising_spaces}

-- from any number that is not above the space
pub box_boundaries_rise : (from space : ℕ) (ps : List BoxPatch) (bs : List Boundary)
    → from ≤ space → AreBoxBoundaries space ps bs → have_rising_spaces from bs ≡ true
box_boundaries_rise from space [] [] below all = refl
box_boundaries_rise from space [] (b ∷ bs) below all = absurd all
box_boundaries_rise from space (p ∷ ps) [] below all = refl
box_boundaries_rise from space (p ∷ ps) (b ∷ bs) below all =
    rw (all.0.of_space, le-leb from space below)
    (box_boundaries_rise space space ps bs (omega arith) all.1)
