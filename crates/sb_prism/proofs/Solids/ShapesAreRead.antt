-- What is kept of the items of a Body, and of a shape.
use Rattle.std.proofs.Common.{◌≡◌, ◌≢◌, ℕ, Bool, true, false, List, [], ◌∷◌, ◌++◌, length, get_or, arith, Some, None, refl, sym, ap, ◌∙◌, subst}
use Rattle.std.specs.List.{flat_map}
use Rattle.sb_fraction.specs.declared.unit.Unit as units
use Rattle.sb_step.specs.Indexed.{Indexed}
use Rattle.sb_place.specs.declared.sight.Seen.{Seen}
use Rattle.sb_place.specs.declared.sight.Seen.TheVariants as seen
use Rattle.sb_prism.specs.declared.faults.Faults.{Faults}
use Rattle.sb_prism.specs.declared.kept.Extrusion.{Extrusion}
use Rattle.sb_prism.specs.declared.kept.Kept.{Kept}
use Rattle.sb_schema.specs.Rows as rows
use Rattle.sb_schema.specs.Views.{Gives}
use Rattle.sb_place.specs.Sight.{absent_at, broken_at}
use Rattle.sb_prism.specs.declared.items.body.Body.{Body}
use Rattle.sb_prism.specs.Shapes.{Solid, Shape, Representation, AreEach, AreItems, IsSolid, IsShape, IsRepresentation}
use Rattle.sb_prism.specs.Faults.{in_solid, in_items, only_solid, is_turned_by, is_no_body}
use Rattle.sb_prism.specs.Faults.Fault.{not_of_row, not_there}
use Rattle.sb_prism.specs.Kept.{faults_of, joined, solid_faults, instances_alone, without_solid, Items, items_faults, is_far_by, body_of, KeepsSolid, KeepsOnly, IsExtrusionOf, IsItemsOf, IsKeptOf}
use Rattle.sb_prism.proofs.FaultsAreJoined.{joined_faults}
use Rattle.sb_prism.proofs.Outlines.OutlinesAreRead.{flat_push}

-- the instances at fault in solids
abbrev pub solids_faults : List (Seen Solid) → Faults
solids_faults solids =
    faults_of (flat_map (in_solid not_of_row) solids) (flat_map (in_solid not_there) solids) false true false

pub solids_more : (u : units.Unit) (solids : List (Seen Solid)) (s : Seen Solid)
    → joined (solids_faults solids) (instances_alone (solid_faults u s)) ≡ solids_faults (solids ++ s ∷ [])
solids_more u solids s =
    rw (flat_push (in_solid not_of_row) solids s, flat_push (in_solid not_there) solids s)
    (joined_faults (flat_map (in_solid not_of_row) solids) (in_solid not_of_row s) (flat_map (in_solid not_there) solids)
    (in_solid not_there s) false false true false false false)

none_of_two : (s t : Seen Solid) (later : List (Seen Solid)) → only_solid (Some (s ∷ t ∷ later)) ≡ None
none_of_two (seen.Absent n) t later = refl
none_of_two (seen.Broken n) t later = refl
none_of_two seen.Other t later = refl
none_of_two (seen.Shown s) t later = refl

-- several items, or none
pub several_is : (u : units.Unit) (i : Indexed) (numbers : List ℕ) (solids : List (Seen Solid)) (f : Faults)
    → length numbers ≢ 1 → AreEach (IsSolid i) numbers solids → f ≡ solids_faults solids
    → IsItemsOf u (Some solids) (without_solid f)
several_is u i [] [] f many are is = record { faults = is; solid = tt }
several_is u i [] (s ∷ solids) f many are is = absurd are
several_is u i (n ∷ numbers) [] f many are is = absurd are
several_is u i (n ∷ []) (s ∷ []) f many are is = absurd (many refl)
several_is u i (n ∷ []) (s ∷ t ∷ solids) f many are is = absurd are.1
several_is u i (n ∷ m ∷ numbers) (s ∷ []) f many are is = absurd are.1
several_is u i (n ∷ m ∷ numbers) (s ∷ t ∷ solids) f many are is = record {
  faults =
      is
      ∙ ap (λ o. faults_of (flat_map (in_solid not_of_row) (s ∷ t ∷ solids)) (flat_map (in_solid not_there) (s ∷ t ∷ solids))
      (is_turned_by o) true (is_far_by u o)) (sym (none_of_two s t solids));
  solid = subst (λ o. KeepsSolid u o None) (sym (none_of_two s t solids)) tt;
}

trimmed : (b a : List ℕ) (t r f : Bool) → faults_of b a t r f ≡ faults_of (b ++ []) (a ++ []) t r f
trimmed [] [] t r f = refl
trimmed [] (n ∷ a) t r f = refl
trimmed (m ∷ b) [] t r f = refl
trimmed (m ∷ b) (n ∷ a) t r f = refl

-- one item
pub one_is : (u : units.Unit) (s : Seen Solid) (e : Extrusion) → IsExtrusionOf u s e
    → IsItemsOf u (Some (s ∷ [])) (record { faults = e.faults; solid = Some e })
one_is u (seen.Absent n) e is = record { faults = is.faults; solid = tt }
one_is u (seen.Broken n) e is = record { faults = is.faults; solid = tt }
one_is u seen.Other e is = record { faults = is.faults; solid = tt }
one_is u (seen.Shown s) e is = record {
  faults = is.faults ∙ trimmed (in_solid not_of_row (seen.Shown s)) (in_solid not_there (seen.Shown s)) _ _ _;
  solid = (e, refl, is.kept);
}

-- ---- shapes

pub absent_shape : (u : units.Unit) (n : ℕ) (kept : Kept)
    → kept ≡ without_solid (faults_of [] (n ∷ []) false false false) → IsKeptOf u (seen.Absent n) kept
absent_shape u n kept is = record { faults = ap (λ k. k.faults) is; solid = tt }

pub broken_shape : (u : units.Unit) (n : ℕ) (kept : Kept)
    → kept ≡ without_solid (faults_of (n ∷ []) [] false false false) → IsKeptOf u (seen.Broken n) kept
broken_shape u n kept is = record { faults = ap (λ k. k.faults) is; solid = tt }

pub other_shape : (u : units.Unit) (kept : Kept)
    → kept ≡ without_solid (faults_of [] [] false true false) → IsKeptOf u seen.Other kept
other_shape u kept is = record { faults = ap (λ k. k.faults) is; solid = tt }

pub shown_shape : (i : Indexed) (n : ℕ) (u : units.Unit) (numbers : List ℕ) (rs : List (Seen Representation))
    (items : Items) (body : Body) (kept : Kept) → Gives rows.product_definition_shape i n (Some (numbers, tt))
    → AreEach (IsRepresentation i) numbers rs → body ≡ body_of rs → AreItems i body.items items
    → kept.faults ≡ joined body.faults (items_faults u items) → KeepsOnly u items kept
    → (s : Seen Shape) × IsShape i n s × IsKeptOf u s kept
shown_shape i n u numbers rs items body kept gives are body_is items_are faults keeps = (
  seen.Shown (record { representations = rs; items = items }),
  record {
    numbers = numbers;
    gives = gives;
    are = are;
    items_are = subst (λ b. AreItems i b.items items) body_is items_are;
  },
  record {
    faults =
        faults
        ∙ (ap (λ b. joined b.faults (items_faults u items)) body_is
        ∙ joined_faults (flat_map (λ r. broken_at r) rs) (in_items not_of_row items) (flat_map (λ r. absent_at r) rs)
        (in_items not_there items) false (is_turned_by (only_solid items)) false (is_no_body u items) false
        (is_far_by u (only_solid items)));
    solid = keeps;
  },
)

one_number : {X : Type 0} (Is : ℕ → X → Type 0) (ns : List ℕ) (x : X) → length ns ≡ 1 → Is (get_or ns 0 0) x
    → AreEach Is ns (x ∷ [])
one_number Is [] x one is = absurd (omega (arith, one))
one_number Is (n ∷ []) x one is = (is, tt)
one_number Is (n ∷ m ∷ ns) x one is = absurd (omega (arith, one))

pub one_at : (i : Indexed) (u : units.Unit) (ns : List ℕ) (s : Seen Solid) (e : Extrusion) → length ns ≡ 1
    → IsSolid i (get_or ns 0 0) s → IsExtrusionOf u s e
    → (solids : List (Seen Solid)) × AreEach (IsSolid i) ns solids
    × IsItemsOf u (Some solids) (record { faults = e.faults; solid = Some e })
one_at i u ns s e one seen is = (s ∷ [], one_number (IsSolid i) ns s one seen, one_is u s e is)
