-- Prisms that are moved by whole millimetres.
use Rattle.std.specs.Prelude.{◌≡◌, ◌≤◌, ◌^◌, ℤ, ◌+ℤ◌, Bool, true, false, ◌&&◌, unsigned_abs, List, map, Option, Some, None, Result, Ok, Err}
use Rattle.std.specs.List.{list_all}
use Rattle.sb_fraction.specs.declared.point.Point.{Point}
use Rattle.sb_fraction.specs.Spots.{Vector, vector}
use Rattle.sb_fraction.specs.Plane.{is_plan_point, is_coordinate}
use Rattle.theory_numbers.specs.Arrows.{Arrow, arrow}
use Rattle.theory_shifts.specs.Shifts.{moved, moved_loops}
use Rattle.sb_model.specs.Solids.{Upright, upright}
use Rattle.sb_solid.specs.declared.moving.Displacement.{Displacement}
use Rattle.sb_solid.specs.declared.error.SolidError.{SolidError}
use Rattle.sb_solid.specs.declared.error.SolidError.TheVariants as solid_error

pub record AreFew (s : Displacement) : Type 0 where
  pub of_x : unsigned_abs s.x ≤ 2 ^ 67
  pub of_y : unsigned_abs s.y ≤ 2 ^ 67
  pub of_z : unsigned_abs s.z ≤ 2 ^ 67

abbrev pub steps_at : Displacement → Vector
steps_at s = vector s.x s.y s.z

abbrev pub in_plan : Vector → Arrow
in_plan v = arrow v.x v.y

-- the prism moved so far
abbrev pub moved_upright : Vector → Upright → Upright
moved_upright v p = upright (moved_loops (in_plan v) p.loops) (p.z0 +ℤ v.z) (p.z1 +ℤ v.z)

-- it is then in range
abbrev pub is_in_range : Upright → Bool
is_in_range p = list_all (list_all is_plan_point) p.loops && (is_coordinate p.z0 && is_coordinate p.z1)

abbrev pub IsMovedNumber : ℤ → ℤ → Option ℤ → Type 0
IsMovedNumber by n None = is_coordinate (n +ℤ by) ≡ false
IsMovedNumber by n (Some m) = (m ≡ n +ℤ by) × (is_coordinate m ≡ true)

abbrev pub IsMovedPoint : Displacement → Point → Option Point → Type 0
IsMovedPoint s p None = is_plan_point (moved (in_plan (steps_at s)) p) ≡ false
IsMovedPoint s p (Some q) = (q ≡ moved (in_plan (steps_at s)) p) × (is_plan_point q ≡ true)

abbrev pub IsMovedLoop : Displacement → List Point → Option (List Point) → Type 0
IsMovedLoop s points None = list_all (λ p. is_plan_point (moved (in_plan (steps_at s)) p)) points ≡ false
IsMovedLoop s points (Some all) =
    (all ≡ map (moved (in_plan (steps_at s))) points) × (list_all is_plan_point all ≡ true)

abbrev pub AreMoved : Displacement → List (List Point) → Option (List (List Point)) → Type 0
AreMoved s loops None =
    list_all (list_all (λ p. is_plan_point (moved (in_plan (steps_at s)) p))) loops ≡ false
AreMoved s loops (Some all) =
    (all ≡ moved_loops (in_plan (steps_at s)) loops) × (list_all (list_all is_plan_point) all ≡ true)

abbrev pub IsMoved : Displacement → Upright → Result Upright SolidError → Type 0
IsMoved s prism (Ok result) = result ≡ moved_upright (steps_at s) prism
IsMoved s prism (Err solid_error.NoMemory) = Unit {0}
IsMoved s prism (Err _) = is_in_range (moved_upright (steps_at s) prism) ≡ false
