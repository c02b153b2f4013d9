-- What is kept of a shape tells its first fault.
use Rattle.std.proofs.Common.{◌≡◌, ℕ, true, false, List, [], ◌∷◌, ◌++◌, inl, Option, Some, None, slice_get, refl, sym, ap, ◌∙◌, subst}
use Rattle.theory_lists.specs.Members.{Stands}
use Rattle.sb_fraction.specs.declared.unit.Unit as units
use Rattle.sb_place.specs.declared.sight.Seen.{Seen}
use Rattle.sb_place.specs.declared.sight.Seen.TheVariants as seen
use Rattle.sb_prism.specs.declared.kept.Extrusion.{Extrusion}
use Rattle.sb_prism.specs.declared.kept.Kept.{Kept}
use Rattle.sb_prism.specs.Shapes.{Solid, Shape}
use Rattle.sb_prism.specs.Faults.{in_shape, in_items, is_turned, is_misshapen, is_no_body, solid_of, only_solid}
use Rattle.sb_prism.specs.Faults.Fault.{not_of_row, not_there}
use Rattle.sb_prism.specs.Prisms.{IsRead, has_far_length}
use Rattle.sb_prism.specs.Kept.{KeepsSolid, Keeps, IsKeptOf, is_far_by}
use Rattle.sb_prism.specs.Sound.{IsSound}

pub first_stands : (ns : List ℕ) (n : ℕ) → slice_get ns 0 ≡ Some n → Stands n ns
first_stands [] n is = absurd (cc)
first_stands (m ∷ ns) n is = let same : n ≡ m = cc in inl same

pub none_first : (ns : List ℕ) → slice_get ns 0 ≡ None → ns ≡ []
none_first [] is = refl
none_first (m ∷ ns) is = absurd (cc)

-- ---- a shape that is read and has its form has its one solid

not_both : {n : ℕ} {ns : List ℕ} → n ∷ ns ≡ [] → ⊥
not_both e = absurd (cc)

one_item : (u : units.Unit) (items : Option (List (Seen Solid))) → in_items not_of_row items ≡ []
    → in_items not_there items ≡ [] → is_no_body u items ≡ false → (solid : Solid) × (only_solid items ≡ Some solid)
one_item u None rows there body = absurd (cc)
one_item u (Some []) rows there body = absurd (cc)
one_item u (Some (seen.Absent n ∷ [])) rows there body = absurd (not_both there)
one_item u (Some (seen.Broken n ∷ [])) rows there body = absurd (not_both rows)
one_item u (Some (seen.Other ∷ [])) rows there body = absurd (cc)
one_item u (Some (seen.Shown s ∷ [])) rows there body = (s, refl)
one_item u (Some (s ∷ t ∷ later)) rows there body = absurd (cc)

behind_none : (ns ms : List ℕ) → ns ++ ms ≡ [] → ms ≡ []
behind_none [] ms e = e
behind_none (n ∷ ns) ms e = absurd (not_both e)

pub has_solid : (u : units.Unit) (s : Seen Shape) → IsRead s → is_misshapen u s ≡ false
    → (solid : Solid) × (solid_of s ≡ Some solid)
has_solid u (seen.Absent n) read shaped = absurd (not_both read.present)
has_solid u (seen.Broken n) read shaped = absurd (not_both read.of_rows)
has_solid u seen.Other read shaped = absurd (cc)
has_solid u (seen.Shown s) read shaped =
    one_item u s.items (behind_none _ (in_items not_of_row s.items) read.of_rows)
    (behind_none _ (in_items not_there s.items) read.present) shaped

-- which is kept
pub kept_solid : (u : units.Unit) (s : Seen Shape) (kept : Kept) (e : Extrusion) → IsKeptOf u s kept
    → IsRead s → is_turned s ≡ false → is_misshapen u s ≡ false → is_far_by u (solid_of s) ≡ false
    → kept.solid ≡ Some e → IsSound u s e
kept_solid u s kept e is read straight shaped near e_is =
    let (solid, solid_is) = has_solid u s read shaped in
    let keeps : KeepsSolid u (Some solid) kept.solid = subst (λ o. KeepsSolid u o kept.solid) solid_is is.solid in
    let same : keeps.0 ≡ e = let o : Some keeps.0 ≡ Some e = sym keeps.1 ∙ e_is in cc in
    record {
      read = read;
      straight = straight;
      shaped = shaped;
      solid = solid;
      is = solid_is;
      near = sym (ap (is_far_by u) solid_is) ∙ near;
      kept = subst (λ x. Keeps u solid x) same keeps.2;
    }

pub none_kept_never : (u : units.Unit) (s : Seen Shape) (kept : Kept) → IsKeptOf u s kept
    → IsRead s → is_misshapen u s ≡ false → kept.solid ≡ None → ⊥
none_kept_never u s kept is read shaped none =
    let (solid, solid_is) = has_solid u s read shaped in
    let keeps : KeepsSolid u (Some solid) kept.solid = subst (λ o. KeepsSolid u o kept.solid) solid_is is.solid in
    absurd (let o : Some keeps.0 ≡ None = sym keeps.1 ∙ none in cc)

-- a far length: the solid is there
pub far_solid : (u : units.Unit) (s : Seen Shape) → IsRead s → is_misshapen u s ≡ false
    → is_far_by u (solid_of s) ≡ true
    → (solid : Solid) × (solid_of s ≡ Some solid) × (has_far_length u solid ≡ true)
far_solid u s read shaped far =
    let (solid, solid_is) = has_solid u s read shaped in
    (solid, solid_is, sym (ap (is_far_by u) solid_is) ∙ far)

pub is_read : (u : units.Unit) (s : Seen Shape) (kept : Kept) → IsKeptOf u s kept → kept.faults.broken ≡ None
    → kept.faults.absent ≡ None → IsRead s
is_read u s kept is broken absent = record {
  of_rows = none_first (in_shape not_of_row s) (sym (ap (λ f. f.broken) is.faults) ∙ broken);
  present = none_first (in_shape not_there s) (sym (ap (λ f. f.absent) is.faults) ∙ absent);
}
