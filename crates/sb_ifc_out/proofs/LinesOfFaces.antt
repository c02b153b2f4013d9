-- The lines of a boundary are what is drawn of it where its face looks, and what is related behind it.

use Rattle.std.proofs.Common.{◌≡◌, refl, sym, ap, ap₂, ◌∙◌, ℕ, ◌+◌, List, ◌++◌, length, Option, Some, None, option_map}
use Rattle.std.proofs.lemmas.Option.{same_Some, none-some}
use Rattle.sb_fraction.specs.Spots.{Vector}
use Rattle.sb_model.specs.declared.boundary.Boundary.{Boundary}
use Rattle.sb_model.specs.declared.patches.corner.Corners.{Corners}
use Rattle.sb_model.specs.declared.faces.facing.Facing.{Facing}
use Rattle.sb_model.specs.declared.products.Space.{Space}
use Rattle.sb_model.specs.Building.{Building}
use Rattle.sb_model.specs.Surfaces.Corners.{corners_of}
use Rattle.sb_model.specs.Surfaces.Facings.{normal_of, across_of}
use Rattle.sb_model.specs.Surfaces.Faces.{Surface, surface_of, space_numbered}
use Rattle.sb_model.specs.Labels.{axis_vector}
use Rattle.sb_ifc_out.specs.Numbers.{corners_listed}
use Rattle.sb_ifc_out.specs.InTheSpace.{turned_back}
use Rattle.sb_ifc_out.specs.BoundaryLines.{corner_lines, surface_text, related_text}
use Rattle.sb_ifc_out.specs.IfcText.{lines_in, lines_over, lines_at}
use Rattle.sb_ifc_out.specs.Steps.{drawn_text}

-- the lines by the corners, the normal and the direction
unfoldable lines_by : Building → Space → Option Corners → Vector → Vector → Option ℕ → Option ℕ → ℕ → ℕ → Boundary
    → List ℕ
lines_by m s corners normal across parent pair before id b =
    corner_lines m.unit s.frame (before + 1) (corners_listed corners)
    ++ surface_text (turned_back s.frame.turn normal) (turned_back s.frame.turn across) (before + 1)
    (length (corners_listed corners)) ((before + 1) + length (corners_listed corners))
    ++ related_text m s.global_id id parent pair b (((before + 1) + length (corners_listed corners)) + 7)

over_face : (m : Building) (s : Space) (found : Option Surface) (normal across : Vector)
    (parent pair : Option ℕ) (before id : ℕ) (b : Boundary)
    → option_map (λ (f : Surface). f.normal) found ≡ Some normal
    → option_map (λ (f : Surface). f.across) found ≡ Some across
    → lines_over m s found parent pair before id b
    ≡ lines_by m s (corners_of m b.patch) normal across parent pair before id b
unfolding lines_by
over_face m s None normal across parent pair before id b first second = absurd (none-some _ first)
over_face m s (Some f) normal across parent pair before id b first second =
    ap₂ (λ n a. lines_by m s (corners_of m b.patch) n a parent pair before id b)
    (same_Some f.normal normal first) (same_Some f.across across second)

pub lines_drawn : (m : Building) (s : Space) (corners : Corners) (facing : Facing)
    (parent pair : Option ℕ) (before id : ℕ) (b : Boundary)
    → space_numbered m b.patch.face.space ≡ Some s
    → Some corners ≡ corners_of m b.patch
    → normal_of m b.patch.face ≡ Some (axis_vector facing.normal)
    → across_of m b.patch.face ≡ Some (axis_vector facing.across)
    → lines_in m (Some s) parent pair before id b
    ≡ drawn_text m.unit s.frame (before + 1) corners facing
    ((before + 1) + length (corners_listed (Some corners)))
    ++ related_text m s.global_id id parent pair b
    (((before + 1) + length (corners_listed (Some corners))) + 7)
unfolding lines_by
lines_drawn m s corners facing parent pair before id b space_is corners_are normal_is across_is =
    over_face m s (surface_of s.prism b.patch.face.kind) (axis_vector facing.normal)
    (axis_vector facing.across) parent pair before id b (rw space_is at normal_is) (rw space_is at across_is)
    ∙ ap (λ c. lines_by m s c (axis_vector facing.normal) (axis_vector facing.across) parent pair before id b)
    (sym corners_are)

-- the lines of a boundary in its space are those of its place in the list
pub lines_placed : (m : Building) (f : ℕ → ℕ) (s : Space) (parent pair : Option ℕ) (before id : ℕ)
    (b : Boundary) → space_numbered m b.patch.face.space ≡ Some s → parent ≡ option_map f b.parent
    → pair ≡ option_map f b.pair
    → lines_in m (Some s) parent pair before id b ≡ lines_at m f before id b
unfolding lines_at
lines_placed m f s parent pair before id b space_is parent_is pair_is =
    rw (space_is, parent_is, pair_is) refl
