-- Two spaces are one where their numbers, identifiers, prisms and frames are: there is one proof that
-- a prism is a solid.

use Rattle.std.proofs.Common.{ℕ, List, ◌≡◌, ap, ◌∙◌, subst, IsTrue}
use Rattle.std.proofs.Props.{props}
use Rattle.sb_model.specs.declared.frame.Frame.{Frame}
use Rattle.sb_model.specs.declared.products.Space.{Space}
use Rattle.sb_model.specs.Solids.{Upright, is_upright}

abbrev space_with : ℕ → List ℕ → Frame → (prism : Upright) → IsTrue (is_upright prism) → Space
space_with number global_id frame prism solid = record {
  number = number;
  global_id = global_id;
  prism = prism;
  frame = frame;
  is_solid = solid;
}

same_prism : (number : ℕ) (global_id : List ℕ) (frame : Frame) (p q : Upright) → p ≡ q
    → (p_is : IsTrue (is_upright p)) (q_is : IsTrue (is_upright q))
    → space_with number global_id frame p p_is ≡ space_with number global_id frame q q_is
same_prism number global_id frame p q same p_is =
    subst (λ (r : Upright). (r_is : IsTrue (is_upright r))
    → space_with number global_id frame p p_is ≡ space_with number global_id frame r r_is) same
    (λ r_is. ap (space_with number global_id frame p) (one_proof p_is r_is))
  where
    one_proof : IsProp (IsTrue (is_upright p))
    one_proof = hlevel props

-- two spaces with the same data are equal
pub same_space : (s t : Space) → s.number ≡ t.number → s.global_id ≡ t.global_id
    → s.prism ≡ t.prism → s.frame ≡ t.frame → s ≡ t
same_space s t number global_id prism frame =
    ap (λ n. space_with n s.global_id s.frame s.prism s.is_solid) number
    ∙ ap (λ id. space_with t.number id s.frame s.prism s.is_solid) global_id
    ∙ ap (λ f. space_with t.number t.global_id f s.prism s.is_solid) frame
    ∙ same_prism t.number t.global_id t.frame s.prism t.prism prism s.is_solid t.is_solid
