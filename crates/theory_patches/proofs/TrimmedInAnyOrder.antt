-- What a list of patches marks, and that it is trimmed, does not see its order.
use Rattle.std.proofs.Common.{sym, List, IsPermutation}
use Rattle.theory_plane.specs.Points.{FacePoint}
use Rattle.theory_plane.specs.Regions.{Region}
use Rattle.theory_lists.proofs.InAnyOrder.{all_permuted, stands_permuted, two_permuted}
use Rattle.theory_patches.specs.Marked.{MarkedPatch, IsPatch}
use Rattle.theory_patches.specs.Sheets.{Sheet, IsMarkedAt}
use Rattle.theory_patches.specs.Trimmed.{AreApart, HaveNoSeam, AreTrimmed, IsTrimmedList}

-- what a list marks it marks in another order
pub marked_permuted : {M : Type 0} (ps qs : List (MarkedPatch M)) → IsPermutation ps qs
    → (point : FacePoint) (mark : M) → IsMarkedAt ps point mark → IsMarkedAt qs point mark
marked_permuted ps qs permuted point mark (p, stands, has_mark, inside) =
    (p, stands_permuted p ps qs permuted stands, has_mark, inside)

-- two regions have no seam, seen from the other
pub no_seam_sym : (p q : Region) → HaveNoSeam p q → HaveNoSeam q p
no_seam_sym p q none =
    record { first_before = none.second_before; second_before = none.first_before }

-- and are apart
pub apart_sym : (sheet : Sheet) (p q : Region) → AreApart sheet p q → AreApart sheet q p
apart_sym sheet p q apart u v u_in off common =
    apart u v u_in off
    (record { rational = common.rational; first = common.second; second = common.first })

-- so two patches are trimmed, seen from the other
pub trimmed_sym : {M : Type 0} (sheet : Sheet) (p q : MarkedPatch M) → AreTrimmed sheet p q
    → AreTrimmed sheet q p
trimmed_sym sheet p q trimmed =
    record {
      apart = λ alike. apart_sym sheet p.region q.region (trimmed.apart (sym alike));
      no_seam = λ alike. no_seam_sym p.region q.region (trimmed.no_seam (sym alike));
    }

-- a trimmed list is trimmed in another order
pub trimmed_permuted : {M : Type 0} (sheet : Sheet) (ps qs : List (MarkedPatch M))
    → IsPermutation ps qs → IsTrimmedList sheet ps → IsTrimmedList sheet qs
trimmed_permuted sheet ps qs permuted list =
    record {
      patches = all_permuted (λ p. IsPatch p.region) ps qs permuted list.patches;
      trimmed =
          two_permuted (AreTrimmed sheet) (λ p q two. trimmed_sym sheet p q two) ps qs permuted
          list.trimmed;
    }
