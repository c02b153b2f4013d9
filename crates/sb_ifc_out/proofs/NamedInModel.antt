-- What is asked of a list of boundaries holds of each of them.

use Rattle.std.proofs.Common.{◌≡◌, ◌∙◌, ap, sym, subst, ℕ, ◌<◌, IsTrue, List, length, get_or, ◌&&◌}
use Rattle.std.specs.List.{list_all}
use Rattle.std.proofs.lemmas.Bool.{and_parts}
use Rattle.std.proofs.lemmas.List.Sums.{AllPass-from_list_all}
use Rattle.sb_model.specs.declared.boundary.Boundary.{Boundary}
use Rattle.sb_model.specs.Building.{Building}
use Rattle.sb_model.specs.declared.walk.Item.{Item}
use Rattle.sb_model.specs.Building.{is_element}
use Rattle.sb_model.specs.Surfaces.Faces.{is_face_of}
use Rattle.sb_model.specs.ListOfModel.{is_boundary_of, is_list_of, is_id_in, is_key_of, is_end_of}

-- the boundary that stands at a place names what is the model's or in the list
pub named_at : (m : Building) (bs xs : List Boundary) (i : ℕ) (b : Boundary) → i < length bs → xs ≡ bs
    → b ≡ get_or xs i b → IsTrue (is_list_of m bs) → IsTrue (is_boundary_of m (length bs) b)
named_at m bs xs i b within same here all =
    subst (λ (x : Boundary). IsTrue (is_boundary_of m (length bs) x))
    (ap (λ ys. get_or ys i b) (sym same) ∙ sym here)
    (AllPass-from_list_all (is_boundary_of m (length bs)) bs all i b within)

-- what is asked of a boundary of its face, its counterpart and its parent
pub record AreNamed (m : Building) (count : ℕ) (b : Boundary) : Type 0 where
  pub face : IsTrue (is_face_of m b.patch.face)
  pub pair : IsTrue (is_id_in count b.pair)
  pub parent : IsTrue (is_id_in count b.parent)

pub are_named : (m : Building) (count : ℕ) (b : Boundary) → IsTrue (is_boundary_of m count b)
    → AreNamed m count b
are_named m count b is =
    let ids = is_id_in count b.pair && is_id_in count b.parent in
    let keys = is_key_of m b.parent b.key && ids in
    let ends = is_end_of m b.walk.end && keys in
    let items = list_all (λ (i : Item). is_element m i.element) b.walk.items in
    let one = and_parts (is_face_of m b.patch.face) (items && ends) is in
    let two = and_parts items ends one.1 in
    let three = and_parts (is_end_of m b.walk.end) keys two.1 in
    let four = and_parts (is_key_of m b.parent b.key) ids three.1 in
    let five = and_parts (is_id_in count b.pair) (is_id_in count b.parent) four.1 in
    record { face = one.0; pair = five.0; parent = five.1 }
