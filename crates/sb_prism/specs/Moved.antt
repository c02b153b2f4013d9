-- A solid that is judged once for all products that turn it so: it is turned first and moved afterwards, and
-- what is answered of it is what is answered of it in the frame.
use Rattle.std.specs.Prelude.{◌≡◌, ℕ, ℤ, pos, ◌||◌, map, Some, IsTrue, if◌then◌else◌}
use Rattle.std.specs.List.{AllByRecursion}
use Rattle.std.specs.Ordering.{int_eq}
use Rattle.sb_fraction.specs.declared.unit.Unit as units
use Rattle.sb_fraction.specs.Spots.{Vector, vector}
use Rattle.theory_turns.specs.Turns.{Quarter, is_quarter}
use Rattle.sb_model.specs.Frames.{vector_of}
use Rattle.sb_model.specs.declared.frame.Frame.{Frame}
use Rattle.sb_solid.specs.Solids.{Extruded, is_beyond, prism_at}
use Rattle.sb_solid.specs.Solids as solids
use Rattle.sb_solid.specs.Turned.{turned_point, turned_vector}
use Rattle.sb_place.specs.declared.sight.Seen.{Seen}
use Rattle.sb_step.specs.Indexed.{Indexed}
use Rattle.sb_prism.specs.Shapes.{Solid, Shape, IsShape}
use Rattle.sb_prism.specs.Faults.{solid_of}
use Rattle.sb_prism.specs.Outlines.{frame_where, loops_in, way_of, near_end, far_end}
use Rattle.sb_prism.specs.Prisms.{has_far_length, is_out_of_range, is_off_grid, along_of, prism_of}

-- the solid of a shape, turned as a product is: its loops, the way to its far end, and its local z
abbrev pub extruded_by : units.Unit → Quarter → Solid → Extruded
extruded_by u q s = record {
  loops = map (map (turned_point q (frame_where u s.position))) (loops_in u s.profile);
  way = turned_vector q (frame_where u s.position).turn (way_of u s);
  along = turned_vector q (frame_where u s.position).turn (vector (pos 0) (pos 0) (pos 1));
}

-- the shape of this number has this one solid
pub record HasSolid (i : Indexed) (n : ℕ) (s : Seen Shape) (solid : Solid) : Type 0 where
  pub is_shape : IsShape i n s
  pub is : solid_of s ≡ Some solid

-- ---- Law: the points of a profile lie in one plane across the way of its extrusion

-- how far along the axis on which a vector goes
abbrev pub depth_on : Vector → Vector → ℤ
depth_on along v = if int_eq along.z (pos 0) then (if int_eq along.x (pos 0) then v.y else v.x) else v.z

abbrev pub origin : Vector
origin = vector (pos 0) (pos 0) (pos 0)

-- along the axis on which the local z goes, the point lies at both ends as far as the origin of the profile
pub record IsAcross (u : units.Unit) (f : Frame) (s : Solid) (p : Vector) : Type 0 where
  pub near : depth_on (along_of u f s) (near_end u f s p) ≡ depth_on (along_of u f s) (near_end u f s origin)
  pub far : depth_on (along_of u f s) (far_end u f s p) ≡ depth_on (along_of u f s) (far_end u f s origin)

-- Each point of a profile does. So any one of them tells the two heights of a prism.
abbrev pub PointsLieAcross : Type 0
PointsLieAcross =
    (i : Indexed) (n : ℕ) (s : Seen Shape) (solid : Solid) → HasSolid i n s solid
    → (u : units.Unit) (f : Frame) → IsTrue (is_quarter f.turn.x f.turn.z)
    → AllByRecursion (AllByRecursion (IsAcross u f solid)) (loops_in u solid.profile)

-- ---- Law: a solid may be turned first, and moved afterwards

-- out of range, off the grid and the prism are the same of the solid that is turned, and then moved by the shift
pub record IsMoved (u : units.Unit) (f : Frame) (s : Solid) : Type 0 where
  pub out_of_range : is_out_of_range u f s
      ≡ (has_far_length u s || is_beyond (extruded_by u f.turn s) (vector_of f.shift))
  pub off_grid : is_off_grid u f s ≡ solids.is_off_grid (extruded_by u f.turn s) (vector_of f.shift)
  pub prism : prism_of u f s ≡ prism_at (extruded_by u f.turn s) (vector_of f.shift)

abbrev pub SolidsMove : Type 0
SolidsMove =
    (i : Indexed) (n : ℕ) (s : Seen Shape) (solid : Solid) → HasSolid i n s solid
    → (u : units.Unit) (f : Frame) → IsTrue (is_quarter f.turn.x f.turn.z) → IsMoved u f solid
