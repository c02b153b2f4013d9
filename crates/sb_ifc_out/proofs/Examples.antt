-- Worked identifiers, points and lines, and wrong ones that are refused.

use Rattle.std.proofs.Common.{◌≡◌, refl, ℕ, pos, negsuc, [], ◌∷◌, ◌++◌, codes, replicate}
use Rattle.std.specs.Fmt.{digits}
use Rattle.theory_numbers.specs.Fractions.{whole}
use Rattle.sb_fraction.specs.declared.unit.Unit.TheVariants.{Metre, Millimetre}
use Rattle.sb_fraction.specs.Spots.{vector}
use Rattle.sb_fixed.specs.Printed.{scaled_text}
use Rattle.sb_fixed.specs.Rounding.{rounded}
use Rattle.sb_model.specs.declared.patches.corner.Corner.{Corner}
use Rattle.sb_model.specs.declared.frame.Frame.{Frame}
use Rattle.sb_ifc_out.specs.Guids.{guid_of}
use Rattle.sb_ifc_out.specs.InTheSpace.{nanometres, in_frame, turned_back}
use Rattle.sb_ifc_out.specs.Lines.{line, point_body, loop_body, bound_body, direction_body}
use Rattle.sb_ifc_out.specs.Lines.{placement_body, plane_body, face_body, connection_body}
use Rattle.sb_ifc_out.specs.BoundaryLines.{point_text, surface_text}

-- ---- identifiers

guid_of_zero : guid_of 0 ≡ replicate 22 48
unfolding guid_of
guid_of_zero = refl

guid_of_greatest : guid_of 340282366920938463463374607431768211455 ≡ codes "3$$$$$$$$$$$$$$$$$$$$$"
unfolding guid_of
guid_of_greatest = refl

-- ---- rounding

-- half a nanometre is rounded away from zero
half_a_nanometre : nanometres (pos 0) (record { num = pos 1; den = pos 2000000 }) ≡ pos 1
unfolding rounded
half_a_nanometre = refl

-- and once the shift is taken off: half a nanometre less one is -1/2
half_below_zero : nanometres (pos 1) (record { num = pos 1; den = pos 2000000 }) ≡ negsuc 0
unfolding rounded
half_below_zero = refl

its_negative : nanometres (pos 0) (record { num = negsuc 0; den = pos 2000000 }) ≡ negsuc 0
unfolding rounded
its_negative = refl

-- ---- a frame that takes the local x to the world's y, shifted by 4000 mm along x

abbrev turned : Frame
turned = record {
  turn = record { x = vector (pos 0) (pos 1) (pos 0); z = vector (pos 0) (pos 0) (pos 1) };
  shift = pos 4000000000 ∷ pos 0 ∷ pos 0 ∷ [];
}

abbrev corner : ℕ → ℕ → ℕ → Corner
corner x y z = record { x = whole (pos x); y = whole (pos y); z = whole (pos z) }

first_of_side : in_frame turned (corner 4000 0 2500) ≡ vector (pos 0) (pos 0) (pos 2500000000)
unfolding rounded
first_of_side = refl

third_of_side : in_frame turned (corner 4000 3000 0) ≡ vector (pos 3000000000) (pos 0) (pos 0)
unfolding rounded
third_of_side = refl

-- its outward normal and its direction
normal_of_side : turned_back turned.turn (vector (pos 1) (pos 0) (pos 0)) ≡ vector (pos 0) (negsuc 0) (pos 0)
normal_of_side = refl

across_side : turned_back turned.turn (vector (pos 0) (pos 1) (pos 0)) ≡ vector (pos 1) (pos 0) (pos 0)
across_side = refl

-- Bottom has the world's x, turned
across_bottom : turned_back turned.turn (vector (pos 1) (pos 0) (pos 0)) ≡ vector (pos 0) (negsuc 0) (pos 0)
across_bottom = refl

-- ---- lines

in_metres : point_text Metre (vector (pos 4000000000) (pos 0) (pos 2500000000))
    ≡ codes "IFCCARTESIANPOINT((4.000000000,0.000000000,2.500000000))"
unfolding scaled_text digits point_body
in_metres = refl

in_millimetres : point_text Millimetre (vector (negsuc 0) (pos 0) (pos 2500000000))
    ≡ codes "IFCCARTESIANPOINT((-0.000001,0.000000,2500.000000))"
unfolding scaled_text digits point_body
in_millimetres = refl

-- the eight lines of a surface of four corners from #81 on
surface_of_four : surface_text (vector (pos 1) (pos 0) (pos 0)) (vector (pos 0) (pos 1) (pos 0)) 81 4 85
    ≡ codes "#85=IFCPOLYLOOP((#81,#82,#83,#84));\n"
    ++ codes "#86=IFCFACEOUTERBOUND(#85,.T.);\n"
    ++ codes "#87=IFCDIRECTION((1.,0.,0.));\n"
    ++ codes "#88=IFCDIRECTION((0.,1.,0.));\n"
    ++ codes "#89=IFCAXIS2PLACEMENT3D(#81,#87,#88);\n"
    ++ codes "#90=IFCPLANE(#89);\n"
    ++ codes "#91=IFCFACESURFACE((#86),#90,.T.);\n"
    ++ codes "#92=IFCCONNECTIONSURFACEGEOMETRY(#91,$);\n"
unfolding digits line loop_body bound_body direction_body placement_body plane_body face_body connection_body
surface_of_four = refl
