-- The corners of a list's boundaries, kept in its order.

use Rattle.std.proofs.Common.{◌≡◌, ap, ap₂, sym, ◌∙◌, ℕ, ◌+◌, List, [], ◌∷◌, ◌++◌, length, take, map}
use Rattle.std.proofs.Common.{slice_get, Some, option_map}
use Rattle.std.proofs.lemmas.List.{map-append, take_more, length-map}
use Rattle.std.proofs.lemmas.Option.{same_Some, slice_get-map, slice_get_within, get_or_from_slice_get}
use Rattle.sb_model.specs.declared.boundary.Boundary.{Boundary}
use Rattle.sb_model.specs.declared.patches.corner.Corners.{Corners}
use Rattle.sb_model.specs.Building.{Building}
use Rattle.sb_model.specs.Surfaces.Corners.{corners_of}
use Rattle.sb_ifc_out.specs.Steps.{AreOutlines}

-- there are as many as boundaries
pub outlines_length : (m : Building) (bs : List Boundary) (outlines : List Corners)
    → AreOutlines m bs outlines → length outlines ≡ length bs
outlines_length m bs outlines are =
    sym (length-map outlines (λ (c : Corners). Some c)) ∙ ap length are
    ∙ length-map bs (λ (b : Boundary). corners_of m b.patch)

-- those at a place are of the boundary there
pub outline_is : (m : Building) (bs : List Boundary) (outlines : List Corners) (i : ℕ) (b : Boundary)
    (c : Corners) → AreOutlines m bs outlines → slice_get bs i ≡ Some b
    → slice_get outlines i ≡ Some c → Some c ≡ corners_of m b.patch
outline_is m bs outlines i b c are b_is c_is =
    same_Some (Some c) (corners_of m b.patch)
    (ap (option_map (λ (x : Corners). Some x)) (sym c_is)
    ∙ sym (slice_get-map (λ (x : Corners). Some x) outlines i)
    ∙ ap (λ xs. slice_get xs i) are
    ∙ slice_get-map (λ (x : Boundary). corners_of m x.patch) bs i
    ∙ ap (option_map (λ (x : Boundary). corners_of m x.patch)) b_is)

-- those of one boundary more
pub one_more_outline : (m : Building) (bs : List Boundary) (i : ℕ) (b : Boundary) (c : Corners)
    (outlines more : List Corners) → slice_get bs i ≡ Some b → Some c ≡ corners_of m b.patch
    → AreOutlines m (take i bs) outlines → more ≡ outlines ++ c ∷ []
    → AreOutlines m (take (i + 1) bs) more
one_more_outline m bs i b c outlines more b_is c_is are more_is =
    ap (map (λ (x : Corners). Some x)) more_is
    ∙ map-append (λ (x : Corners). Some x) outlines (c ∷ [])
    ∙ ap₂ (λ xs x. xs ++ x ∷ []) are c_is
    ∙ sym
    (ap (map (λ (x : Boundary). corners_of m x.patch))
    (take_more bs i b (slice_get_within bs i b b_is)
    ∙ ap (λ x. take i bs ++ x ∷ []) (get_or_from_slice_get bs i b b b_is))
    ∙ map-append (λ (x : Boundary). corners_of m x.patch) (take i bs) (b ∷ []))
