-- One object more, and what is asked of a list holds of each boundary.
use Rattle.std.proofs.Common.{◌≡◌, ℕ, ◌+◌, ◌<◌, Bool, IsTrue, List, [], ◌∷◌, ◌++◌, length, take, slice_get, Some, zero, suc, Result, Ok, Err, OnOk, refl, ap, ◌∙◌, arith}
use Rattle.std.proofs.Math.Bridge.{no_suc-le-zero}
use Rattle.std.proofs.lemmas.Bool.{and_parts}
use Rattle.std.proofs.lemmas.List.{take_more, length-take}
use Rattle.std.proofs.lemmas.List.Sums.{AllPass-from_list_all}
use Rattle.std.proofs.lemmas.Option.{get_or_from_slice_get, slice_get_within}
use Rattle.std.specs.List.{list_all}
use Rattle.sb_model.specs.declared.boundary.Boundary.{Boundary}
use Rattle.sb_model.specs.Building.{Building}
use Rattle.sb_model.specs.Surfaces.Faces.{is_face_of}
use Rattle.sb_model.specs.ListOfModel.{is_boundary_of, is_list_of}
use Rattle.sb_idf_out.specs.Objects.{object_under}
use Rattle.sb_idf_out.specs.Steps.Surfaces.{objects_by}
use Rattle.sb_idf_out.proofs.ListsAreSurveyed.{objects_push}

passes_at : {X : Type 0} (p : X → Bool) (xs : List X) (i : ℕ) (x : X)
    → IsTrue (list_all p xs) → slice_get xs i ≡ Some x → IsTrue (p x)
passes_at p xs i x all here =
    let passed = AllPass-from_list_all p xs all i x (slice_get_within xs i x here) in
    rw (get_or_from_slice_get xs i x x here) at passed

pub face_of_each : (m : Building) (bs : List Boundary) (i : ℕ) (b : Boundary)
    → IsTrue (is_list_of m bs) → slice_get bs i ≡ Some b → IsTrue (is_face_of m b.patch.face)
face_of_each m bs i b all here =
    let named = passes_at (is_boundary_of m (length bs)) bs i b all here in
    (and_parts (is_face_of m b.patch.face) _ named).0

-- at a place within a list something stands
pub some_at : {X : Type 0} (xs : List X) (i : ℕ) → i < length xs → (x : X) × (slice_get xs i ≡ Some x)
some_at [] i within = absurd (no_suc-le-zero within)
some_at (x ∷ xs) zero within = (x, refl)
some_at (x ∷ xs) (suc i) within = some_at xs i (omega arith)

-- what follows from the one where there is memory
pub ok_weaker : {X E P Q : Type 0} (r : Result X E) → (P → Q) → OnOk r P → OnOk r Q
ok_weaker (Ok x) then holds = then holds
ok_weaker (Err e) then holds = tt

-- the objects of one boundary more
pub objects_more : (m : Building) (ks : List ℕ) (bs : List Boundary) (i k : ℕ) (b : Boundary)
    → length ks ≡ length bs → i < length bs → slice_get ks i ≡ Some k → slice_get bs i ≡ Some b
    → objects_by m 1 (take (i + 1) ks) (take (i + 1) bs)
    ≡ objects_by m 1 (take i ks) (take i bs) ++ object_under m k (i + 1) b b.parent
objects_more m ks bs i k b each within is_k is_b =
    let within_ks : i < length ks = omega arith in
    let first : take (i + 1) ks ≡ take i ks ++ k ∷ [] =
    take_more ks i k within_ks ∙ ap (λ x. take i ks ++ x ∷ []) (get_or_from_slice_get ks i k k is_k) in
    let second : take (i + 1) bs ≡ take i bs ++ b ∷ [] =
    take_more bs i b within ∙ ap (λ x. take i bs ++ x ∷ []) (get_or_from_slice_get bs i b b is_b) in
    let long = length-take i bs in
    let wide = length-take i ks in
    let short : length (take i ks) ≡ length (take i bs) = omega (arith, long, wide) in
    let place : i + 1 ≡ 1 + length (take i bs) = omega (arith, long) in
    (λ j. objects_by m 1 (first j) (second j))
    ∙ objects_push m 1 (take i ks) (take i bs) k b (i + 1) short place
