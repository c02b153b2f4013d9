-- A file without a defect.
use Rattle.std.proofs.Common.{◌≡◌, ℕ, zero, suc, nat_eq, Bool, true, false, ◌&&◌, ◌||◌, List, [], ◌∷◌, Option, Some, None, is_some, is_none, refl, sym, ap, ◌∙◌, subst, inl, inr}
use Rattle.std.specs.Prelude.{codes, option_map, option_and_then, filter, filter_map, if◌then◌else◌}
use Rattle.std.proofs.lemmas.Bool.{false≢true, eqb-true}
use Rattle.std.proofs.lemmas.Option.{none-some, same_Some}
use Rattle.theory_lists.specs.Members.{Stands}
use Rattle.sb_fraction.specs.declared.unit.Unit.TheVariants as units
use Rattle.sb_step.specs.declared.parameters.param.Param.TheVariants as param
use Rattle.sb_step.specs.declared.parameters.param.Param.TheViews.{outs-List}
use Rattle.sb_step.specs.Cursors.Forms.{reference_in}
use Rattle.sb_schema.specs.Forms.{items_of}
use Rattle.sb_schema.specs.Table.{is_one_of}
use Rattle.sb_profile.specs.declared.following.places.Place.{Place}
use Rattle.sb_profile.specs.declared.following.places.Place.TheVariants as place
use Rattle.sb_profile.specs.Entities.{Entity, row_of, roots, wanted_at}
use Rattle.sb_profile.specs.Entities.Entity.{product_definition_shape}
use Rattle.sb_profile.specs.Contents.{Contents, has_keyword, is_absent}
use Rattle.sb_profile.specs.Products.{is_taken, placement_of, shape_of}
use Rattle.sb_profile.specs.Following.{leads, below_building, IsInChain, IsFollowed, IsReadAs}
use Rattle.sb_profile.specs.Following.IsFollowed.{chain, shape, material, onward}
use Rattle.sb_profile.specs.Following.IsReadAs.{root, followed}
use Rattle.sb_profile.specs.Units.{is_length_unit, only_one, unit_of, unit_in}
use Rattle.sb_profile.specs.Defects.{refused_classes, Occurs, file_codes}
use Rattle.sb_profile.specs.Defects.{IsAbsentFollowed}
use Rattle.sb_profile.specs.First.{IsFirst}
use Rattle.sb_profile.specs.Steps.Found.{any_unfit}
use Rattle.sb_profile.proofs.Verdicts.AllIsRead.{any_unfit_from, both_true}
use Rattle.sb_profile.proofs.Examples.Files.{Tables, file_of, no_tables}

abbrev Row : Type 0
Row = List ℕ × (Option ℕ × (Option ℕ × Unit {0}))

abbrev room : Row
room = ([], (Some 4, (Some 30, tt)))

-- The space #20 is placed where the building #3 is, at #4. It has the shape #30, which has no
-- representation. That #4 is absent is no defect: it is not followed.
abbrev house : Tables
house = record no_tables {
  keywords =
      (1, Some (codes "IFCUNITASSIGNMENT")) ∷ (2, Some (codes "IFCSIUNIT"))
      ∷ (3, Some (codes "IFCBUILDING")) ∷ (20, Some (codes "IFCSPACE"))
      ∷ (30, Some (codes "IFCPRODUCTDEFINITIONSHAPE")) ∷ [];
  parameters =
      (1, param.List (param.Reference 2 ∷ []) ∷ [])
      ∷ (
        2,
        param.Derived ∷ param.Enumeration (codes "LENGTHUNIT") ∷ param.Null
            ∷ param.Enumeration (codes "METRE") ∷ [],
      ) ∷ [];
  buildings = (3, (Some 4, tt)) ∷ [];
  spaces = (20, room) ∷ [];
  shapes = (30, ([], tt)) ∷ [];
}

abbrev sound : Contents
sound = file_of house

in_metres : unit_in sound ≡ Some units.Metre
in_metres =
    ap (λ items. option_and_then (λ n. unit_of (sound.parameters n))
    (option_and_then (λ members. only_one (filter (is_length_unit sound) members))
    (option_map (filter_map (λ p. reference_in (Some p))) items)))
    (ap items_of (outs-List (param.Reference 2 ∷ [])))

-- ---- what is followed

shape_in : Option Row → Option ℕ
shape_in row = option_and_then (λ v. v.1.1.0) row

one_taken : (p : ℕ) → is_taken sound p ≡ true → p ≡ 20
unfolding shape_in
one_taken p = by_number (nat_eq p 20) refl
  where
    by_number : (b : Bool) → nat_eq p 20 ≡ b → is_taken sound p ≡ true → p ≡ 20
    by_number true same taken = eqb-true p 20 same
    by_number false other taken =
        absurd (false≢true
        (sym (ap (λ b. is_some (shape_in (if b then Some room else None)) || false) other) ∙ taken))

no_chain : (k n : ℕ) → IsInChain sound k n → ⊥
no_chain zero n (p, (taken, is)) =
    none-some n
    (sym (ap (λ q. below_building sound (placement_of sound q)) (one_taken p taken)) ∙ is)
no_chain (suc k) n (m, (below, is)) = no_chain k m below

-- only the shape is
shape_alone : {at : Place} {n : ℕ} → IsFollowed sound at n → (at ≡ place.Shape) × (n ≡ 30)
shape_alone (chain k n few there) = absurd (no_chain k n there)
shape_alone (shape p n taken is) =
    (refl, same_Some n 30 (sym is ∙ ap (shape_of sound) (one_taken p taken)))
shape_alone (material p n element is) = absurd (false≢true element)
shape_alone (onward at next m n there leads_on) =
    let was = shape_alone there in
    absurd (subst (Stands (next, n)) (λ i. leads sound (was.0 i) (was.1 i)) leads_on)

-- ---- each instance that is read is of its row, and there

no_keyword : (c : Contents) (n : ℕ) (es : List Entity) → c.keyword n ≡ None
    → any_unfit c n es ≡ false
no_keyword c n [] none = refl
no_keyword c n (e ∷ []) none =
    ap (λ w. is_one_of (row_of e).keywords w && is_none (c.given e n)) none
no_keyword c n (e ∷ f ∷ es) none =
    ap (λ w. (is_one_of (row_of e).keywords w && is_none (c.given e n)) || any_unfit c n (f ∷ es))
    none
    ∙ no_keyword c n (f ∷ es) none

fits : (n : ℕ) → any_unfit sound n roots ≡ false
fits n =
    by_numbers (nat_eq n 1) (nat_eq n 2) (nat_eq n 3) (nat_eq n 20) (nat_eq n 30) refl refl refl refl
    refl
  where
    at_number : (k : ℕ) → nat_eq n k ≡ true → any_unfit sound k roots ≡ false
        → any_unfit sound n roots ≡ false
    at_number k same fit = ap (λ m. any_unfit sound m roots) (eqb-true n k same) ∙ fit

    by_numbers : (a b c d e : Bool) → nat_eq n 1 ≡ a → nat_eq n 2 ≡ b → nat_eq n 3 ≡ c
        → nat_eq n 20 ≡ d → nat_eq n 30 ≡ e → any_unfit sound n roots ≡ false
    by_numbers true b c d e one two three twenty thirty = at_number 1 one refl
    by_numbers false true c d e one two three twenty thirty = at_number 2 two refl
    by_numbers false false true d e one two three twenty thirty = at_number 3 three refl
    by_numbers false false false true e one two three twenty thirty = at_number 20 twenty refl
    by_numbers false false false false true one two three twenty thirty = at_number 30 thirty refl
    by_numbers false false false false false one two three twenty thirty =
        no_keyword sound n roots (rw (one, two, three, twenty, thirty) refl)

of_shapes : (e : Entity) → Stands e (product_definition_shape ∷ []) → sound.given e 30 ≡ None → ⊥
of_shapes e (inl same) none =
    none-some ([], tt) (sym (subst (λ f. sound.given f 30 ≡ None) same none))
of_shapes e (inr never) none = never

none_unfit : (n : ℕ) (e : Entity) → IsReadAs sound e n → sound.given e n ≡ None → ⊥
none_unfit n e (root among keyword) none =
    false≢true
    (sym (fits n)
    ∙ any_unfit_from sound n e roots among
    (both_true (has_keyword sound e n) (is_none (sound.given e n)) keyword (ap is_none none)))
none_unfit n e (followed at there wanted keyword) none =
    let was = shape_alone there in
    of_shapes e (subst (λ p. Stands e (wanted_at p)) was.0 wanted)
    (subst (λ m. sound.given e m ≡ None) was.1 none)

none_absent : (n : ℕ) → IsAbsentFollowed sound n → ⊥
none_absent n gone =
    false≢true (ap (is_absent sound) (sym (shape_alone gone.followed).1) ∙ gone.absent)

not_refused : (n k : ℕ) → n ≡ k → is_one_of refused_classes (sound.keyword k) ≡ false
    → is_one_of refused_classes (sound.keyword n) ≡ true → ⊥
not_refused n k is passes refused =
    false≢true
    (sym passes ∙ (ap (λ m. is_one_of refused_classes (sound.keyword m)) (sym is) ∙ refused))

none_refused : (n : ℕ) → Stands n sound.numbers
    → is_one_of refused_classes (sound.keyword n) ≡ true → ⊥
none_refused n (inl is) refused = not_refused n 1 is refl refused
none_refused n (inr (inl is)) refused = not_refused n 2 is refl refused
none_refused n (inr (inr (inl is))) refused = not_refused n 3 is refl refused
none_refused n (inr (inr (inr (inl is)))) refused = not_refused n 20 is refl refused
none_refused n (inr (inr (inr (inr (inl is))))) refused = not_refused n 30 is refl refused
none_refused n (inr (inr (inr (inr (inr none))))) refused = none

without_defect : IsFirst (Occurs sound) file_codes None
without_defect =
    inr (
      λ n is. false≢true (sym is.1),
      inr (
        λ n is. none-some units.Metre (sym is.1 ∙ in_metres),
        inr (
          λ n is. none-some n is,
          inr (
            λ n is. none_refused n is.0 is.1,
            inr (
              λ n is. none_unfit n is.entity is.read is.none,
              inr (none_absent, refl),
            ),
          ),
        ),
      ),
    )
