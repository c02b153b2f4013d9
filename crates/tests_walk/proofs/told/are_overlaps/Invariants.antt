-- The steps are counted under the name of the blank.
use Rattle.tests_walk.proofs.told.are_overlaps.Given as goal

abbrev pub ghosts-told_by : goal.ghosts-told_by
ghosts-told_by a = record { name = a.blank.name; parts = a.blank.parts }
