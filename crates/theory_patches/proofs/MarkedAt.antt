-- What a list of patches marks at a point: what its first patch marks there, or a later one; of two
-- lists in one, what either marks.
use Rattle.std.proofs.Common.{◌≡◌, refl, inl, inr, ◌⊎◌, subst, true, List, [], ◌∷◌, ◌++◌}
use Rattle.std.proofs.Common.{⊎_elim}
use Rattle.theory_plane.specs.Points.{FacePoint}
use Rattle.theory_plane.specs.Regions.{is_inside}
use Rattle.theory_patches.specs.Marked.{MarkedPatch}
use Rattle.theory_patches.specs.Sheets.{IsMarkedAt}

-- the patch has this mark and contains the point
pub record Marks {M : Type 0} (p : MarkedPatch M) (point : FacePoint) (mark : M) : Type 0 where
  pub has_mark : p.mark ≡ mark
  pub inside : is_inside p.region point ≡ true

module _ {M : Type 0} (point : FacePoint) (mark : M) where
  -- what the first patch marks
  pub marked_first : (p : MarkedPatch M) (ps : List (MarkedPatch M)) → Marks p point mark
      → IsMarkedAt (p ∷ ps) point mark
  marked_first p ps marks = (p, inl refl, marks.has_mark, marks.inside)

  -- what a later one marks
  pub marked_later : (p : MarkedPatch M) (ps : List (MarkedPatch M)) → IsMarkedAt ps point mark
      → IsMarkedAt (p ∷ ps) point mark
  marked_later p ps (q, stands, has_mark, inside) = (q, inr stands, has_mark, inside)

  -- and nothing else
  pub marked_cases : (p : MarkedPatch M) (ps : List (MarkedPatch M))
      → IsMarkedAt (p ∷ ps) point mark → Marks p point mark ⊎ IsMarkedAt ps point mark
  marked_cases p ps (q, inl same, has_mark, inside) =
      inl
      (record {
        has_mark = subst (λ r. r.mark ≡ mark) same has_mark;
        inside = subst (λ r. is_inside r.region point ≡ true) same inside;
      })
  marked_cases p ps (q, inr stands, has_mark, inside) = inr (q, stands, has_mark, inside)

  -- an empty list marks nothing
  pub none_marked : IsMarkedAt {M = M} [] point mark → ⊥
  none_marked (q, stands, has_mark, inside) = stands

  -- of two lists in one, what the first marks
  pub marked_in_first : (ps qs : List (MarkedPatch M)) → IsMarkedAt ps point mark
      → IsMarkedAt (ps ++ qs) point mark
  marked_in_first [] qs marked = absurd (none_marked marked)
  marked_in_first (p ∷ ps) qs marked =
      ⊎_elim (λ first. marked_first p (ps ++ qs) first)
      (λ later. marked_later p (ps ++ qs) (marked_in_first ps qs later)) (marked_cases p ps marked)

  -- what the second marks
  pub marked_in_second : (ps qs : List (MarkedPatch M)) → IsMarkedAt qs point mark
      → IsMarkedAt (ps ++ qs) point mark
  marked_in_second [] qs marked = marked
  marked_in_second (p ∷ ps) qs marked = marked_later p (ps ++ qs) (marked_in_second ps qs marked)

  -- and nothing else
  pub marked_in_either : (ps qs : List (MarkedPatch M)) → IsMarkedAt (ps ++ qs) point mark
      → IsMarkedAt ps point mark ⊎ IsMarkedAt qs point mark
  marked_in_either [] qs marked = inr marked
  marked_in_either (p ∷ ps) qs marked =
      ⊎_elim (λ first. inl (marked_first p ps first))
      (λ later.
      ⊎_elim (λ there. inl (marked_later p ps there)) (λ there. inr there)
      (marked_in_either ps qs later))
      (marked_cases p (ps ++ qs) marked)
