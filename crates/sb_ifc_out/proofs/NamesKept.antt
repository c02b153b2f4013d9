-- Names that are at hand are of the space with their number.

use Rattle.std.proofs.Common.{◌≡◌, ap, sym, ◌∙◌, subst, ℕ, List, Option, Some, None}
use Rattle.std.proofs.lemmas.Option.{same_Some}
use Rattle.sha1.specs.Sha1.{Holds}
use Rattle.sb_model.specs.declared.products.Space.{Space}
use Rattle.sb_model.specs.Building.{Building}
use Rattle.sb_model.specs.Surfaces.Faces.{space_numbered}
use Rattle.sb_ifc_out.specs.declared.names.Names.{Names}
use Rattle.sb_ifc_out.specs.Steps.{AreKept, IsKeptFor, IsBegunFor, beginning}

-- names of a space of the model serve the space with their number
pub kept_for : (m : Building) (s : Space) (number : ℕ) (names : Option Names) → AreKept m names
    → space_numbered m number ≡ Some s → IsKeptFor number s.global_id names
kept_for m s number None kept found = tt
kept_for m s number (Some names) kept found = λ same. kept s (ap (space_numbered m) same ∙ found)

-- names of a space are of the space with their number
pub kept_again : (m : Building) (s : Space) (number : ℕ) (global_id : List ℕ) (names : Names)
    → IsBegunFor number global_id names → global_id ≡ s.global_id → space_numbered m number ≡ Some s
    → AreKept m (Some names)
kept_again m s number global_id names begun same found = λ t is.
    let one : s ≡ t =
    same_Some s t (sym found ∙ sym (ap (space_numbered m) begun.space_is) ∙ is) in
    subst (λ (x : Space). Holds names.begun (beginning x.global_id)) one
    (subst (λ x. Holds names.begun (beginning x)) same begun.holds)
