-- The heights of prisms and of the ground are within 500,000 mm.

use Rattle.std.proofs.Common.{◌&&◌, IsTrue, int_lt}
use Rattle.std.proofs.lemmas.Bool.{and_parts}
use Rattle.theory_plans.specs.Plans.{is_plan}
use Rattle.sb_model.specs.Solids.{Upright, is_upright, is_height}
use Rattle.sb_model.specs.Building.{Building, is_building, is_in_range, is_ground_height, is_reach, is_shift}
use Rattle.sb_model.specs.Building.{is_layering, first_bad}
use Rattle.std.specs.Prelude.{is_none}
use Rattle.std.specs.List.{list_all}

pub low_fits : (s : Upright) → IsTrue (is_upright s) → IsTrue (is_height s.z0)
low_fits s is =
    let parts = and_parts (is_plan s.loops && int_lt s.z0 s.z1 && is_height s.z0) (is_height s.z1) is in
    (and_parts (is_plan s.loops && int_lt s.z0 s.z1) (is_height s.z0) parts.0).1

pub high_fits : (s : Upright) → IsTrue (is_upright s) → IsTrue (is_height s.z1)
high_fits s is =
    (and_parts (is_plan s.loops && int_lt s.z0 s.z1 && is_height s.z0) (is_height s.z1) is).1

pub ground_fits : (m : Building) → IsTrue (is_building m) → IsTrue (is_height m.ground_height)
ground_fits m is =
    let range = (and_parts (is_in_range m) (is_none (first_bad m)) is).0 in
    let first = (and_parts (is_ground_height m.ground_height && is_reach m.reach
    && list_all (λ s. is_shift s.frame.shift) m.spaces)
    (list_all (λ e. is_layering e.layering) m.elements) range).0 in
    let second = (and_parts (is_ground_height m.ground_height && is_reach m.reach)
    (list_all (λ s. is_shift s.frame.shift) m.spaces) first).0 in
    (and_parts (is_ground_height m.ground_height) (is_reach m.reach) second).0

pub ruleset heights = (low_fits, high_fits, ground_fits)
