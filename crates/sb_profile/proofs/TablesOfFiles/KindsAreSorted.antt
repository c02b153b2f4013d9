-- One number after another is sorted by its keyword, and then all numbers of the file are.
use Rattle.std.proofs.Common.{◌≡◌, ℕ, ◌≤◌, Bool, true, false, ◌&&◌, List, [], ◌∷◌, ◌++◌, Option, Some, None, length, take, refl, sym, ap, ◌∙◌, subst, append-nil}
use Rattle.std.specs.List.{list_all, list_any}
use Rattle.std.specs.Str.{bytes_eq}
use Rattle.std.proofs.lemmas.Bool.{false≢true}
use Rattle.std.proofs.lemmas.Slice.Eq.{bytes_eq-Decides}
use Rattle.sb_schema.specs.Table.{is_one_of}
use Rattle.sb_profile.specs.Entities.{row_of}
use Rattle.sb_profile.specs.Defects.{refused_classes}
use Rattle.std.specs.Prelude.{filter, codes}
use Rattle.std.proofs.lemmas.List.{take_all}
use Rattle.std.proofs.lemmas.List.Elements.{filter-append}
use Rattle.sb_profile.specs.declared.reading.kinds.Kinds.{Kinds}
use Rattle.sb_profile.specs.Entities.Entity.{building, space, opening_filling, rel_voids_element, rel_fills_element, rel_associates_material, rel_defines_by_type}
use Rattle.sb_profile.specs.Contents.{Contents, has_keyword}
use Rattle.sb_profile.specs.Products.{is_of_openings}
use Rattle.sb_profile.specs.Units.{is_called}
use Rattle.sb_profile.specs.Steps.Kinds.{AreSorted, KeepsProducts, KeepsOthers, kept, begins_so, may_count, element_classes, is_of_elements, is_of_refused}

-- a number behind those that passed, if it passes
filter_one_more : (test : ℕ → Bool) (ns : List ℕ) (n : ℕ) (before after : List ℕ)
    → before ≡ filter test ns → after ≡ before ++ kept n (test n)
    → after ≡ filter test (ns ++ n ∷ [])
filter_one_more test ns n before after was is =
    is ∙ (ap (λ ms. ms ++ kept n (test n)) was ∙ sym (filter-append test ns (n ∷ [])))

pub sorted_more : (c : Contents) (ns : List ℕ) (n : ℕ) (old middle new : Kinds)
    → AreSorted c ns old → KeepsProducts old middle n (c.keyword n)
    → KeepsOthers middle new n (c.keyword n) → AreSorted c (ns ++ n ∷ []) new
sorted_more c ns n old middle new sorted products others = record {
  buildings = filter_one_more (has_keyword c building) ns n _ _ sorted.buildings
      (ap (λ v. v.items) others.buildings ∙ products.buildings);
  spaces = filter_one_more (has_keyword c space) ns n _ _ sorted.spaces
      (ap (λ v. v.items) others.spaces ∙ products.spaces);
  elements = filter_one_more (is_of_elements c) ns n _ _ sorted.elements
      (ap (λ v. v.items) others.elements ∙ products.elements);
  openings = filter_one_more (is_of_openings c) ns n _ _ sorted.openings
      (ap (λ v. v.items) others.openings ∙ products.openings);
  fillings = filter_one_more (has_keyword c opening_filling) ns n _ _ sorted.fillings
      (ap (λ v. v.items) others.fillings ∙ products.fillings);
  voids = filter_one_more (has_keyword c rel_voids_element) ns n _ _
      (ap (λ v. v.items) products.voids ∙ sorted.voids) others.voids;
  fills = filter_one_more (has_keyword c rel_fills_element) ns n _ _
      (ap (λ v. v.items) products.fills ∙ sorted.fills) others.fills;
  materials = filter_one_more (has_keyword c rel_associates_material) ns n _ _
      (ap (λ v. v.items) products.materials ∙ sorted.materials) others.materials;
  types = filter_one_more (has_keyword c rel_defines_by_type) ns n _ _
      (ap (λ v. v.items) products.types ∙ sorted.types) others.types;
  assignments = filter_one_more (is_called (codes "IFCUNITASSIGNMENT") c) ns n _ _
      (ap (λ v. v.items) products.assignments ∙ sorted.assignments) others.assignments;
  refused = filter_one_more (is_of_refused c) ns n _ _
      (ap (λ v. v.items) products.refused ∙ sorted.refused) others.refused;
}

-- ---- a keyword that begins otherwise

-- is none of these
other_beginning : (keywords : List (List ℕ)) (w : Option (List ℕ))
    → list_all begins_so keywords ≡ true → may_count w ≡ false → is_one_of keywords w ≡ false
other_beginning keywords None all other = refl
other_beginning keywords (Some w) all other = none_of keywords all
  where
    head_of : (a b : Bool) → (a && b) ≡ true → a ≡ true
    head_of true b both = refl
    head_of false b both = both

    rest_of : (a b : Bool) → (a && b) ≡ true → b ≡ true
    rest_of true b both = both
    rest_of false b both = absurd (false≢true both)

    none_of : (ks : List (List ℕ)) → list_all begins_so ks ≡ true
        → list_any (λ k. bytes_eq k w) ks ≡ false
    none_of [] all = refl
    none_of (k ∷ ks) all =
        by_test (bytes_eq k w) refl
        (none_of ks (rest_of (begins_so k) (list_all begins_so ks) all))
      where
        by_test : (b : Bool) → bytes_eq k w ≡ b → list_any (λ q. bytes_eq q w) ks ≡ false
            → list_any (λ q. bytes_eq q w) (k ∷ ks) ≡ false
        by_test true same later =
            absurd (false≢true
            (sym other
            ∙ (ap begins_so (sym ((bytes_eq-Decides k w).0 same))
            ∙ head_of (begins_so k) (list_all begins_so ks) all)))
        by_test false apart later = rw apart later

-- nothing is kept of its instance
module _ (c : Contents) (ns : List ℕ) (n : ℕ) (kinds : Kinds) (other : may_count (c.keyword n) ≡ false)
    (sorted : AreSorted c ns kinds) where
  none_more : (keywords : List (List ℕ)) (before : List ℕ) → list_all begins_so keywords ≡ true
      → before ≡ filter (λ m. is_one_of keywords (c.keyword m)) ns
      → before ≡ filter (λ m. is_one_of keywords (c.keyword m)) (ns ++ n ∷ [])
  none_more keywords before all was =
      filter_one_more (λ m. is_one_of keywords (c.keyword m)) ns n before before was
      (sym (ap (λ b. before ++ kept n b) (other_beginning keywords (c.keyword n) all other)
      ∙ append-nil before))

  pub sorted_same : AreSorted c (ns ++ n ∷ []) kinds
  sorted_same = record {
    buildings = none_more (row_of building).keywords _ refl sorted.buildings;
    spaces = none_more (row_of space).keywords _ refl sorted.spaces;
    elements = none_more element_classes _ refl sorted.elements;
    openings = none_more (codes "IFCOPENINGELEMENT" ∷ []) _ refl sorted.openings;
    fillings = none_more (row_of opening_filling).keywords _ refl sorted.fillings;
    voids = none_more (row_of rel_voids_element).keywords _ refl sorted.voids;
    fills = none_more (row_of rel_fills_element).keywords _ refl sorted.fills;
    materials = none_more (row_of rel_associates_material).keywords _ refl sorted.materials;
    types = none_more (row_of rel_defines_by_type).keywords _ refl sorted.types;
    assignments = none_more (codes "IFCUNITASSIGNMENT" ∷ []) _ refl sorted.assignments;
    refused = none_more refused_classes _ refl sorted.refused;
  }

-- at the end the numbers are those of the file
pub sorted_all : (c : Contents) (xs : List ℕ) (i : ℕ) (kinds : Kinds) → length xs ≤ i
    → xs ≡ c.numbers → AreSorted c (take i xs) kinds → AreSorted c c.numbers kinds
sorted_all c xs i kinds past are sorted =
    subst (λ ns. AreSorted c ns kinds) (take_all i xs past ∙ are) sorted
