-- The list of a box can be reported: each boundary is on a face of the model and ends in the open.
use Rattle.std.proofs.Common.{◌≡◌, ◌<ℤ◌, ◌+ℤ◌, ◌-ℤ◌, ℕ, ℤ, Bool, true, false, List, [], ◌∷◌}
use Rattle.std.proofs.Common.{length, refl, arith, ⊎_elim}
use Rattle.std.specs.Ordering.{int_eq}
use Rattle.std.proofs.lemmas.Bool.{and_from}
use Rattle.std.proofs.lemmas.Int.{ints}
use Rattle.std.specs.List.{list_all, AllByRecursion}
use Rattle.sb_model.specs.declared.boundary.Boundary.{Boundary}
use Rattle.sb_model.specs.declared.faces.face.FaceKind.{FaceKind}
use Rattle.sb_model.specs.declared.walk.End.{End}
use Rattle.sb_model.specs.Building.{Building}
use Rattle.sb_model.specs.Surfaces.Faces.{has_face, space_numbered}
use Rattle.sb_box.specs.declared.extent.Extent.{Extent}
use Rattle.sb_box.specs.BoxList.{BoxPatch, IsBoxBoundary, IsBoxList, box_patches}
use Rattle.sb_box.proofs.PatchesOfBoxFaces.{IsOpen, all_open, all_by_kind}
use Rattle.sb_box.proofs.BoundariesArePatches.{all_lift}
use Rattle.sb_box.proofs.BoxListIsSound.{rising_box}
use Rattle.sb_form.specs.Meaning.{model_of, space_number}
use Rattle.sb_form.specs.declared.matcher.FirstForm.{FirstForm}
use Rattle.sb_model.specs.ListOfModel.{is_boundary_of, is_list_of, is_end_of}

-- a list of which each item passes a test
all_pass : (test : Boundary → Bool) (bs : List Boundary) → AllByRecursion (λ b. test b ≡ true) bs
    → list_all test bs ≡ true
all_pass test [] all = refl
all_pass test (b ∷ bs) all = and_from (test b) (list_all test bs) all.0 (all_pass test bs all.1)

-- two facts of each patch are one
both_hold : (P Q : BoxPatch → Type 0) (ps : List BoxPatch) → AllByRecursion P ps
    → AllByRecursion Q ps → AllByRecursion (λ p. P p × Q p) ps
both_hold P Q [] first second = tt
both_hold P Q (p ∷ ps) first second =
    ((first.0, second.0), both_hold P Q ps first.1 second.1)

-- ---- each boundary names what is the model's

-- the face is one of the model
abbrev IsThere : FirstForm → Extent → FaceKind → Type 0
IsThere f e k = has_face (space_numbered (model_of f e) space_number) k ≡ true

faces_are_there : (f : FirstForm) (e : Extent)
    → AllByRecursion (λ p. IsThere f e p.kind) (box_patches e)
faces_are_there f e = all_by_kind (IsThere f e) e refl refl refl refl refl refl

-- an end in the open needs nothing of the model
open_end_is_there : (m : Building) (found : End) → IsOpen found → is_end_of m found ≡ true
open_end_is_there m found = ⊎_elim (λ earth. rw earth refl) (λ outside. rw outside refl)

boundary_is_there : (f : FirstForm) (e : Extent) (count : ℕ) (p : BoxPatch) (b : Boundary)
    → IsBoxBoundary space_number p b → IsThere f e p.kind × IsOpen p.end
    → is_boundary_of (model_of f e) count b ≡ true
boundary_is_there f e count p b is there =
    rw (is.of_space, is.of_face, is.items, is.end, is.parent, is.key, is.pair)
    (rw (there.0, open_end_is_there (model_of f e) p.end there.1) refl)

-- the list of a box is one of its model
pub box_list_is_of_model : (f : FirstForm) (e : Extent) (bs : List Boundary)
    → IsBoxList space_number e bs → is_list_of (model_of f e) bs ≡ true
box_list_is_of_model f e bs is =
    let test = is_boundary_of (model_of f e) (length bs) in
    all_pass test bs
    (all_lift space_number (λ p. IsThere f e p.kind × IsOpen p.end) (λ b. test b ≡ true)
    (boundary_is_there f e (length bs)) (box_patches e) bs is
    (both_hold (λ p. IsThere f e p.kind) (λ p. IsOpen p.end) (box_patches e) (faces_are_there f e)
    (all_open e)))
