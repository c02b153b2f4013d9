-- A shape at which nothing is at fault but where it lies.
use Rattle.std.specs.Prelude.{◌≡◌, false, Some, IsTrue}
use Rattle.sb_fraction.specs.declared.unit.Unit as units
use Rattle.theory_turns.specs.Turns.{Quarter, is_quarter}
use Rattle.sb_solid.specs.declared.judged.Judged.{Judged}
use Rattle.sb_solid.specs.Judged.{IsJudgedOf}
use Rattle.sb_place.specs.declared.sight.Seen.{Seen}
use Rattle.sb_prism.specs.declared.kept.Extrusion.{Extrusion}
use Rattle.sb_prism.specs.Shapes.{Shape, Solid}
use Rattle.sb_prism.specs.Faults.{is_turned, is_misshapen, solid_of}
use Rattle.sb_prism.specs.Prisms.{IsRead, has_far_length}
use Rattle.sb_prism.specs.Moved.{extruded_by}
use Rattle.sb_prism.specs.Kept.{Keeps}

-- its one solid, whose lengths are in range, is kept
pub record IsSound (u : units.Unit) (s : Seen Shape) (e : Extrusion) : Type 0 where
  pub read : IsRead s
  pub straight : is_turned s ≡ false
  pub shaped : is_misshapen u s ≡ false
  pub solid : Solid
  pub is : solid_of s ≡ Some solid
  pub near : has_far_length u solid ≡ false
  pub kept : Keeps u solid e

-- what is kept of the solid of a shape where a product turns it so, by quarters
pub record IsJudged (u : units.Unit) (s : Seen Shape) (q : Quarter) (kept : Judged) : Type 0 where
  pub by_quarters : IsTrue (is_quarter q.x q.z)
  pub solid : Solid
  pub is : solid_of s ≡ Some solid
  pub near : has_far_length u solid ≡ false
  pub judged : IsJudgedOf (extruded_by u q solid) kept
