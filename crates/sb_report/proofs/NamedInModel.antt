-- What is asked of a list of boundaries holds of each of them.

use Rattle.std.proofs.Common.{◌≡◌, ℕ, Bool, IsTrue, List, length, Some}
use Rattle.std.proofs.Common.{slice_get}
use Rattle.std.proofs.lemmas.Bool.{and_parts}
use Rattle.std.proofs.lemmas.List.Sums.{AllPass-from_list_all}
use Rattle.std.proofs.lemmas.Option.{get_or_from_slice_get, slice_get_within}
use Rattle.std.specs.List.{list_all}
use Rattle.sb_model.specs.declared.boundary.Boundary.{Boundary}
use Rattle.sb_model.specs.Building.{Building}
use Rattle.sb_model.specs.Surfaces.Faces.{is_face_of}
use Rattle.sb_model.specs.ListOfModel.{is_boundary_of, is_list_of}

-- a test that all items pass is passed by the item at each place
passed_at : {X : Type 0} (p : X → Bool) (xs : List X) (i : ℕ) (x : X)
    → IsTrue (list_all p xs) → slice_get xs i ≡ Some x → IsTrue (p x)
passed_at p xs i x all here =
    let passed = AllPass-from_list_all p xs all i x (slice_get_within xs i x here) in
    rw (get_or_from_slice_get xs i x x here) at passed

-- the face of each boundary is the model's
pub face_at : (m : Building) (bs : List Boundary) (i : ℕ) (b : Boundary)
    → IsTrue (is_list_of m bs) → slice_get bs i ≡ Some b → IsTrue (is_face_of m b.patch.face)
face_at m bs i b all here =
    let named = passed_at (is_boundary_of m (length bs)) bs i b all here in
    (and_parts (is_face_of m b.patch.face) _ named).0
