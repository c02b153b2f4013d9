-- When a list of boundaries is one of a model, so that it can be written as a text.

use Rattle.std.specs.Prelude.{ℕ, Bool, true, false, ◌&&◌, ◌||◌, List, length, nat_le, Option, Some}
use Rattle.std.specs.Prelude.{None}
use Rattle.std.specs.List.{list_all}
use Rattle.sb_model.specs.declared.boundary.Boundary.{Boundary}
use Rattle.sb_model.specs.declared.walk.End.{End}
use Rattle.sb_model.specs.declared.walk.End.TheVariants as end
use Rattle.sb_model.specs.Building.{Building, is_space, is_element, is_opening, is_filling}
use Rattle.sb_model.specs.Surfaces.Faces.{is_face_of}

-- the space or element at the end of a walk is the model's
abbrev pub is_end_of : Building → End → Bool
is_end_of m (end.Space n) = is_space m n
is_end_of m end.Outside = true
is_end_of m end.Earth = true
is_end_of m (end.Solid n) = is_element m n

-- there is a key exactly where there is a parent, and it is an opening or a filling of the model
abbrev pub is_key_of : Building → Option ℕ → Option ℕ → Bool
is_key_of m None None = true
is_key_of m None (Some key) = false
is_key_of m (Some parent) None = false
is_key_of m (Some parent) (Some key) = is_opening m key || is_filling m key

-- none, or the id of a boundary of a list of this length
abbrev pub is_id_in : ℕ → Option ℕ → Bool
is_id_in length None = true
is_id_in length (Some id) = nat_le 1 id && nat_le id length

-- the face, spaces, elements and key that a boundary names are the model's, and its pair and its
-- parent are boundaries of its list, which has this length
abbrev pub is_boundary_of : Building → ℕ → Boundary → Bool
is_boundary_of m length b =
    is_face_of m b.patch.face
    && (list_all (λ i. is_element m i.element) b.walk.items
    && (is_end_of m b.walk.end
    && (is_key_of m b.parent b.key
    && (is_id_in length b.pair
    && is_id_in length b.parent))))

-- each boundary names what is the model's or in the list
abbrev pub is_list_of : Building → List Boundary → Bool
is_list_of m bs = list_all (is_boundary_of m (length bs)) bs
