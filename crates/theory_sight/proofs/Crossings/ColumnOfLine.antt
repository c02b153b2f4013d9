-- The coarse label along a line of a model, by which products are present, has the column of their values
-- as its cutting, and squashed it is the reduced one.
use Rattle.std.proofs.Common.{Bool, false, IsTrue, List, None}
use Rattle.theory_numbers.specs.Arrows.{Arrow}
use Rattle.theory_cuttings.specs.Cuttings.{IsAlike, IsReducedCutting}
use Rattle.theory_cuttings.specs.Changes.{squash}
use Rattle.theory_cuttings.specs.Columns.{Rise, HaveAllValues, HasLabelOfPresent, column_of}
use Rattle.theory_cuttings.proofs.Columns.{column_is, column_has_no_odd_point}
use Rattle.theory_cuttings.proofs.NeedlessBreaks.{is_reduced_by_squash}
use Rattle.sb_model.specs.declared.labels.label.Label.{Label}
use Rattle.sb_model.specs.Building.{Building, is_building}
use Rattle.theory_sight.specs.Coarse.{same_label, IsOpen, Standing, label_of_present}
use Rattle.theory_sight.proofs.Crossings.PiecesAreRuns.{same_label_decides}
use Rattle.theory_sight.proofs.Stacked.{label_sees_between}

-- the column of the values, without needless breaks
pub column_of_line : (m : Building) → IsTrue (is_building m) → (bare : Bool → Label)
    → ((b : Bool) → IsOpen (bare b)) → (values : Standing → List Arrow) → (f : Arrow → Label)
    → IsAlike f → HasLabelOfPresent f (label_of_present m bare) values → (ts : List Arrow)
    → Rise None ts → HaveAllValues values ts
    → IsReducedCutting f None None (label_of_present m bare (λ q. false))
    (squash same_label (label_of_present m bare (λ q. false))
    (column_of (label_of_present m bare) values ts))
column_of_line m is bare bare_is values f alike has ts rise have =
    is_reduced_by_squash Label f alike same_label same_label_decides None None tt tt
    (label_of_present m bare (λ q. false)) (column_of (label_of_present m bare) values ts)
    (column_is f (label_of_present m bare) values has ts rise have)
    (column_has_no_odd_point f (label_of_present m bare) values has
    (label_sees_between m is bare bare_is) ts rise have)
