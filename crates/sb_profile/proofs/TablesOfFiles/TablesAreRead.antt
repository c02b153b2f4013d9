-- The tables that are made of the instances by keyword are those of the file.
use Rattle.std.proofs.Common.{◌≡◌, ◌⊎◌, inl, inr, ℕ, nat_eq, Bool, true, false, not, ◌&&◌, ◌||◌, List, [], ◌∷◌, Option, Some, None, is_some, option_map, refl, sym, ap, ◌∙◌, subst}
use Rattle.std.specs.Prelude.{filter, filter_map, option_and_then, codes, if◌then◌else◌}
use Rattle.std.specs.Option.{option_or, option_map_or}
use Rattle.std.specs.List.{list_any}
use Rattle.std.specs.Str.{bytes_eq}
use Rattle.std.specs.Ordering.{nat_cmp}
use Rattle.std.specs.BTreeMap.{get, BTreeMap}
use Rattle.std.specs.BTreeSet.{contains, BTreeSet}
use Rattle.std.proofs.lemmas.Bool.{false≢true, or_cases, or_left, or_right, eqb-true, eq-eqb}
use Rattle.std.proofs.lemmas.Option.{same_Some}
use Rattle.std.proofs.lemmas.List.Folds.{list_any-append}
use Rattle.std.proofs.lemmas.Slice.Eq.{bytes_eq-Decides}
use Rattle.theory_lists.specs.Members.{Stands}
use Rattle.theory_lists.proofs.Members.{one_of_any, any_stands as any_stands_at}
use Rattle.sb_step.specs.Indexed.{Indexed}
use Rattle.sb_schema.specs.Table.{Values, is_one_of}
use Rattle.sb_schema.specs.Rows as rows
use Rattle.sb_profile.specs.declared.reading.links.Link.{Link}
use Rattle.sb_profile.specs.declared.reading.products.Shaped.{Shaped}
use Rattle.sb_profile.specs.Entities.{Entity, row_of}
use Rattle.sb_profile.specs.Entities.Entity.{space, product, rel_voids_element}
use Rattle.sb_profile.specs.Contents.{Contents, Says, has_keyword}
use Rattle.sb_profile.specs.Lowest.{lowest_of}
use Rattle.sb_profile.specs.Products.{shape_of_space, shape_of_product, is_of_openings, is_space, is_element, is_opening, is_taken, is_voided_by, voiding, placement_of, shape_of}
use Rattle.sb_profile.specs.Materials.{Listing, is_listed, listed_with, by_lowest}
use Rattle.sb_profile.specs.Steps.Kinds.{element_classes, is_of_elements}
use Rattle.sb_profile.specs.Steps.Links.{noted, noted_all, link, by_listing, by_voiding, Voiding}
use Rattle.sb_profile.specs.Steps.Shapes.{shaped, shaped_space, shaped_product}
use Rattle.sb_profile.specs.Steps.Read.{IsTakenAs, AreTaken, target_in}
use Rattle.sb_profile.proofs.ListsOfNumbers.{any_stands}
use Rattle.sb_profile.proofs.Followed.PlacesAreFollowed.{stands_filter, filter_stands}
use Rattle.sb_profile.proofs.Followed.LeadsFromProducts.{stands_filter_map, filter_map_stands}
use Rattle.sb_profile.proofs.TablesOfFiles.LinksAreNoted.{noted_is_lowest}
use Rattle.sb_profile.proofs.LowestOfAList.{lowest_stands}
use Rattle.sb_profile.proofs.TablesOfFiles.ViewsAreSights.{any_by_lookup}

-- ---- keywords

-- equal by the test is equal
bytes_same : (a b : List ℕ) → bytes_eq a b ≡ true → a ≡ b
bytes_same a b same = (bytes_eq-Decides a b).0 same

-- an instance of one row is none of the other
space_apart : (w : Option (List ℕ)) → is_one_of rows.space.keywords w ≡ true
    → is_one_of rows.product.keywords w ≡ false
space_apart None keyword = absurd (false≢true keyword)
space_apart (Some w) keyword = one (or_cases (bytes_eq (codes "IFCSPACE") w) false keyword)
  where
    one : (bytes_eq (codes "IFCSPACE") w ≡ true) ⊎ (false ≡ true)
        → is_one_of rows.product.keywords (Some w) ≡ false
    one (inl same) =
        subst (λ k. is_one_of rows.product.keywords (Some k) ≡ false)
        (bytes_same (codes "IFCSPACE") w same) refl
    one (inr never) = absurd (false≢true never)

-- an element is of a class of products that is not that of openings
pub elements_of_products : (w : Option (List ℕ)) → is_one_of rows.product.keywords w ≡ true
    → is_one_of (codes "IFCOPENINGELEMENT" ∷ []) w ≡ false → is_one_of element_classes w ≡ true
elements_of_products None keyword other = absurd (false≢true keyword)
elements_of_products (Some w) keyword other =
    one (or_cases (list_any (λ k. bytes_eq k w) element_classes)
    (list_any (λ k. bytes_eq k w) (codes "IFCOPENINGELEMENT" ∷ []))
    (sym (list_any-append (λ k. bytes_eq k w) element_classes (codes "IFCOPENINGELEMENT" ∷ []))
    ∙ keyword))
  where
    one : (list_any (λ k. bytes_eq k w) element_classes ≡ true)
        ⊎ (list_any (λ k. bytes_eq k w) (codes "IFCOPENINGELEMENT" ∷ []) ≡ true)
        → is_one_of element_classes (Some w) ≡ true
    one (inl there) = there
    one (inr opening) = absurd (false≢true (sym other ∙ opening))

-- and what is of such a class is no opening
pub no_opening : (w : Option (List ℕ)) → is_one_of element_classes w ≡ true
    → is_one_of (codes "IFCOPENINGELEMENT" ∷ []) w ≡ false
no_opening None keyword = absurd (false≢true keyword)
no_opening (Some w) keyword =
    by_test (bytes_eq (codes "IFCOPENINGELEMENT") w) refl
  where
    by_test : (b : Bool) → bytes_eq (codes "IFCOPENINGELEMENT") w ≡ b
        → is_one_of (codes "IFCOPENINGELEMENT" ∷ []) (Some w) ≡ false
    by_test false is = ap (λ b. b || false) is
    by_test true is =
        absurd (false≢true
        (subst (λ k. false ≡ is_one_of element_classes (Some k))
        (bytes_same (codes "IFCOPENINGELEMENT") w is) refl
        ∙ keyword))

module _ (indexed : Indexed) (c : Contents) (says : Says indexed c) where
  -- what a row gives something of has a keyword of the row, and is there
  pub given_keyword : (e : Entity) (n : ℕ) (vs : Values (row_of e).read) → c.given e n ≡ Some vs
      → has_keyword c e n ≡ true
  given_keyword e n vs given =
      let gives = (says.given_is e n vs).0 given in
      ap (is_one_of (row_of e).keywords) (says.keyword_is n) ∙ gives.keyword

  pub given_there : (e : Entity) (n : ℕ) (vs : Values (row_of e).read) → c.given e n ≡ Some vs
      → Stands n c.numbers
  given_there e n vs given =
      let gives = (says.given_is e n vs).0 given in
      any_stands n c.numbers
      (ap (λ ns. list_any (nat_eq n) ns) says.numbers_are
      ∙ (any_by_lookup n indexed.file.instances ∙ ap is_some gives.are.found))

  -- a space is no product of the other row
  not_both : (n : ℕ) (vs : Values (row_of space).read) → c.given space n ≡ Some vs
      → c.given product n ≡ None
  not_both n vs given = by_value (c.given product n) refl
    where
      by_value : (o : Option (Values (row_of product).read)) → c.given product n ≡ o
          → c.given product n ≡ None
      by_value None is = is
      by_value (Some ws) is =
          absurd (false≢true
          (sym (space_apart (c.keyword n) (given_keyword space n vs given))
          ∙ given_keyword product n ws is))

  -- ---- products with shapes

  -- the product is listed with where it is placed and its shape
  record ShapedAs (n : ℕ) (p : Shaped) : Type 0 where
    number : p.number ≡ n
    placement : placement_of c n ≡ p.placement
    shape : shape_of c n ≡ Some p.shape

  taken_from : (n : ℕ) (p : Shaped) → ShapedAs n p → is_taken c n ≡ true → IsTakenAs c p
  taken_from n p is taken = record {
    taken = ap (is_taken c) is.number ∙ taken;
    placement = ap (placement_of c) is.number ∙ is.placement;
    shape = ap (shape_of c) is.number ∙ is.shape;
  }

  or_none : (o : Option ℕ) → option_or o None ≡ o
  or_none None = refl
  or_none (Some n) = refl

  space_shaped : (n : ℕ) (p : Shaped) → shaped_space c n ≡ Some p
      → ShapedAs n p × (is_space c n ≡ true)
  space_shaped n p is = by_value (c.given space n) refl is
    where
      by_shape : (v : Values (row_of space).read) (o : Option ℕ) → c.given space n ≡ Some v
          → v.1.1.0 ≡ o → option_map (shaped n v.1.0) o ≡ Some p
          → ShapedAs n p × (is_space c n ≡ true)
      by_shape v None given none listed = absurd (let e = listed in cc)
      by_shape v (Some s) given some listed =
          let same : shaped n v.1.0 s ≡ p = same_Some (shaped n v.1.0 s) p listed in
          let shape : shape_of_space c n ≡ Some s =
          ap (option_and_then (λ w. w.1.1.0)) given ∙ some in (
            subst (ShapedAs n) same (record {
              number = refl;
              placement =
                  ap (λ o. option_or (option_and_then (λ w. w.1.0) o)
                  (option_and_then (λ w. w.0) (c.given product n))) given
                  ∙ (ap (λ o. option_or v.1.0 (option_and_then (λ w. w.0) o)) (not_both n v given)
                  ∙ or_none v.1.0);
              shape = ap (λ o. option_or o (shape_of_product c n)) shape;
            }),
            ap is_some shape,
          )

      by_value : (o : Option (Values (row_of space).read)) → c.given space n ≡ o
          → option_and_then (λ v. option_map (shaped n v.1.0) v.1.1.0) o ≡ Some p
          → ShapedAs n p × (is_space c n ≡ true)
      by_value None given listed = absurd (let e = listed in cc)
      by_value (Some v) given listed = by_shape v v.1.1.0 given refl listed

  no_space : (n : ℕ) (v : Values (row_of product).read) → c.given product n ≡ Some v
      → c.given space n ≡ None
  no_space n v given = by_value (c.given space n) refl
    where
      by_value : (o : Option (Values (row_of space).read)) → c.given space n ≡ o
          → c.given space n ≡ None
      by_value None is = is
      by_value (Some w) is = absurd (let e = sym given ∙ not_both n w is in cc)

  product_shaped : (n : ℕ) (p : Shaped) → shaped_product c n ≡ Some p
      → ShapedAs n p × (is_some (shape_of_product c n) ≡ true)
  product_shaped n p is = by_value (c.given product n) refl is
    where
      by_shape : (v : Values (row_of product).read) (o : Option ℕ) → c.given product n ≡ Some v
          → v.1.0 ≡ o → option_map (shaped n v.0) o ≡ Some p
          → ShapedAs n p × (is_some (shape_of_product c n) ≡ true)
      by_shape v None given none listed = absurd (let e = listed in cc)
      by_shape v (Some s) given some listed =
          let same : shaped n v.0 s ≡ p = same_Some (shaped n v.0 s) p listed in
          let shape : shape_of_product c n ≡ Some s =
          ap (option_and_then (λ w. w.1.0)) given ∙ some in
          let none = no_space n v given in (
            subst (ShapedAs n) same (record {
              number = refl;
              placement =
                  ap (λ o. option_or (option_and_then (λ w. w.1.0) o)
                  (option_and_then (λ w. w.0) (c.given product n))) none
                  ∙ ap (option_and_then (λ w. w.0)) given;
              shape =
                  ap (λ o. option_or (option_and_then (λ w. w.1.1.0) o) (shape_of_product c n)) none
                  ∙ shape;
            }),
            ap is_some shape,
          )

      by_value : (o : Option (Values (row_of product).read)) → c.given product n ≡ o
          → option_and_then (λ v. option_map (shaped n v.0) v.1.0) o ≡ Some p
          → ShapedAs n p × (is_some (shape_of_product c n) ≡ true)
      by_value None given listed = absurd (let e = listed in cc)
      by_value (Some v) given listed = by_shape v v.1.0 given refl listed

  -- a list with one that is so
  Listed : (ℕ → Option Shaped) → ℕ → Type 0
  Listed shape n = Stands n c.numbers × ((p : Shaped) × ((shape n ≡ Some p) × (p.number ≡ n)))

  space_listed : (n : ℕ) → is_space c n ≡ true → Listed (shaped_space c) n × (has_keyword c space n ≡ true)
  unfolding Listed
  space_listed n is = by_value (c.given space n) refl is
    where
      by_shape : (v : Values (row_of space).read) (o : Option ℕ) → c.given space n ≡ Some v
          → v.1.1.0 ≡ o → is_some o ≡ true → Listed (shaped_space c) n × (has_keyword c space n ≡ true)
      by_shape v None given none some = absurd (false≢true some)
      by_shape v (Some s) given shape some = (
        (
          given_there space n v given,
          (
            shaped n v.1.0 s,
            (
              ap (option_and_then (λ w. option_map (shaped n w.1.0) w.1.1.0)) given
                  ∙ ap (option_map (shaped n v.1.0)) shape,
              refl,
            ),
          ),
        ),
        given_keyword space n v given,
      )

      by_value : (o : Option (Values (row_of space).read)) → c.given space n ≡ o
          → is_some (option_and_then (λ w. w.1.1.0) o) ≡ true
          → Listed (shaped_space c) n × (has_keyword c space n ≡ true)
      by_value None given some = absurd (false≢true some)
      by_value (Some v) given some = by_shape v v.1.1.0 given refl some

  product_listed : (n : ℕ) → is_some (shape_of_product c n) ≡ true
      → Listed (shaped_product c) n × (has_keyword c product n ≡ true)
  unfolding Listed
  product_listed n is = by_value (c.given product n) refl is
    where
      by_shape : (v : Values (row_of product).read) (o : Option ℕ) → c.given product n ≡ Some v
          → v.1.0 ≡ o → is_some o ≡ true
          → Listed (shaped_product c) n × (has_keyword c product n ≡ true)
      by_shape v None given none some = absurd (false≢true some)
      by_shape v (Some s) given shape some = (
        (
          given_there product n v given,
          (
            shaped n v.0 s,
            (
              ap (option_and_then (λ w. option_map (shaped n w.0) w.1.0)) given
                  ∙ ap (option_map (shaped n v.0)) shape,
              refl,
            ),
          ),
        ),
        given_keyword product n v given,
      )

      by_value : (o : Option (Values (row_of product).read)) → c.given product n ≡ o
          → is_some (option_and_then (λ w. w.1.0) o) ≡ true
          → Listed (shaped_product c) n × (has_keyword c product n ≡ true)
      by_value None given some = absurd (false≢true some)
      by_value (Some v) given some = by_shape v v.1.0 given refl some

  -- ---- the lists

  listed_stands : (shape : ℕ → Option Shaped) (test : ℕ → Bool) (n : ℕ) → Listed shape n
      → test n ≡ true
      → (p : Shaped) × (Stands p (filter_map shape (filter test c.numbers)) × (p.number ≡ n))
  unfolding Listed
  listed_stands shape test n (there, (p, known)) passes = (
    p,
    (
      filter_map_stands shape n p (filter test c.numbers)
          (filter_stands test n c.numbers there passes) known.0,
      known.1,
    ),
  )

  pub spaces_taken : AreTaken c (is_space c)
      (filter_map (shaped_space c) (filter (has_keyword c space) c.numbers))
  spaces_taken = record {
    sound = λ p stands.
        let one = stands_filter_map (shaped_space c) p (filter (has_keyword c space) c.numbers) stands in
        let is = space_shaped one.0 p one.1.1 in (
          taken_from one.0 p is.0
              (or_left (is_space c one.0) (is_element c one.0 || is_opening c one.0) is.1),
          ap (is_space c) is.0.number ∙ is.1,
        );
    complete = λ n taken.
        let listed = space_listed n taken in
        listed_stands (shaped_space c) (has_keyword c space) n listed.0 listed.1;
  }

  both_true : (a b : Bool) → a ≡ true → b ≡ true → a && b ≡ true
  both_true a b one two = rw (one, two) refl

  first_true : (a b : Bool) → a && b ≡ true → a ≡ true
  first_true true b both = refl
  first_true false b both = both

  second_true : (a b : Bool) → a && b ≡ true → b ≡ true
  second_true true b both = both
  second_true false b both = absurd (false≢true both)

  not_true : (b : Bool) → not b ≡ true → b ≡ false
  not_true true never = absurd (false≢true never)
  not_true false is = refl

  pub elements_taken : AreTaken c (is_element c)
      (filter_map (shaped_product c) (filter (is_of_elements c) c.numbers))
  elements_taken = record {
    sound = λ p stands.
        let one = stands_filter_map (shaped_product c) p (filter (is_of_elements c) c.numbers) stands in
        let is = product_shaped one.0 p one.1.1 in
        let class = stands_filter (is_of_elements c) one.0 c.numbers one.1.0 in
        let element : is_element c one.0 ≡ true =
        both_true (is_some (shape_of_product c one.0)) (not (is_of_openings c one.0)) is.1
        (ap not (no_opening (c.keyword one.0) class.1)) in (
          taken_from one.0 p is.0
              (or_right (is_space c one.0) (is_element c one.0 || is_opening c one.0)
              (or_left (is_element c one.0) (is_opening c one.0) element)),
          ap (is_element c) is.0.number ∙ element,
        );
    complete = λ n element.
        let listed =
        product_listed n
        (first_true (is_some (shape_of_product c n)) (not (is_of_openings c n)) element) in
        listed_stands (shaped_product c) (is_of_elements c) n listed.0
        (elements_of_products (c.keyword n) listed.1
        (not_true (is_of_openings c n)
        (second_true (is_some (shape_of_product c n)) (not (is_of_openings c n))
        element)));
  }

  -- ---- relations

  pub two_filters : (one two : ℕ → Bool) (ns : List ℕ) → ((n : ℕ) → one n ≡ true → two n ≡ true)
      → filter one (filter two ns) ≡ filter one ns
  two_filters one two [] within = refl
  two_filters one two (n ∷ ns) within =
      by_two (two n) (one n) refl refl (two_filters one two ns within)
    where
      by_two : (b d : Bool) → two n ≡ b → one n ≡ d
          → filter one (filter two ns) ≡ filter one ns
          → filter one (if b then n ∷ filter two ns else filter two ns)
          ≡ (if d then n ∷ filter one ns else filter one ns)
      by_two true true both is later = rw is (ap (λ ks. n ∷ ks) later)
      by_two true false both is later = rw is later
      by_two false false none is later = later
      by_two false true none is later = absurd (false≢true (sym none ∙ within n is))

  -- relations that list objects, noted one after another
  pub listing_is : (e : Entity) (relations : ℕ → Listing)
      → ((r : ℕ) (v : List ℕ × (ℕ × Unit {0})) → relations r ≡ Some v → has_keyword c e r ≡ true)
      → (q : ℕ)
      → target_in (noted_all (λ r found. by_listing q r (relations r) found) None
      (filter (has_keyword c e) c.numbers))
      ≡ by_lowest c relations q
  listing_is e relations keyword q =
      ap target_in
      (noted_is_lowest target (λ r found. by_listing q r (relations r) found)
      (λ r. is_listed q (relations r)) steps (filter (has_keyword c e) c.numbers)
      ∙ ap (λ ns. option_map (λ r. link r (target r)) (lowest_of ns))
      (two_filters (λ r. is_listed q (relations r)) (has_keyword c e) c.numbers within))
      ∙ at_lowest (lowest_of (filter (λ r. is_listed q (relations r)) c.numbers)) refl
    where
      target : ℕ → ℕ
      target r = option_map_or (λ v. v.1.0) (relations r) 0

      steps : (r : ℕ) (found : Option Link) → by_listing q r (relations r) found
          ≡ noted (is_listed q (relations r)) (link r (target r)) found
      steps r found = by_value (relations r)
        where
          by_value : (o : Listing) → by_listing q r o found
              ≡ noted (is_listed q o) (link r (option_map_or (λ v. v.1.0) o 0)) found
          by_value None = refl
          by_value (Some v) = refl

      within : (r : ℕ) → is_listed q (relations r) ≡ true → has_keyword c e r ≡ true
      within r listed = by_value (relations r) refl listed
        where
          by_value : (o : Listing) → relations r ≡ o → is_listed q o ≡ true → has_keyword c e r ≡ true
          by_value None is listed = absurd (false≢true listed)
          by_value (Some v) is listed = keyword r v is

      at_lowest : (o : Option ℕ)
          → lowest_of (filter (λ r. is_listed q (relations r)) c.numbers) ≡ o
          → target_in (option_map (λ r. link r (target r)) o)
          ≡ option_and_then (λ r. listed_with (relations r)) o
      at_lowest None is = refl
      at_lowest (Some r) is =
          by_value (relations r) refl
          (stands_filter (λ k. is_listed q (relations k)) r c.numbers
          (lowest_stands (filter (λ k. is_listed q (relations k)) c.numbers) r is)).1
        where
          by_value : (o : Listing) → relations r ≡ o → is_listed q o ≡ true
              → Some (option_map_or (λ v. v.1.0) (relations r) 0) ≡ listed_with (relations r)
          by_value None none listed = absurd (false≢true listed)
          by_value (Some v) some listed = rw some refl

  -- ---- openings

  same_tests : (a b : Bool) → (a ≡ true → b ≡ true) → (b ≡ true → a ≡ true) → a ≡ b
  same_tests true b there back = sym (there refl)
  same_tests false true there back = back refl
  same_tests false false there back = refl

  pub filter_same : (one two : ℕ → Bool) (ns : List ℕ) → ((n : ℕ) → one n ≡ two n)
      → filter one ns ≡ filter two ns
  filter_same one two [] same = refl
  filter_same one two (n ∷ ns) same =
      ap (λ b. if b then n ∷ filter one ns else filter one ns) (same n)
      ∙ ap (λ ks. if two n then n ∷ ks else ks) (filter_same one two ns same)

  module _ (elements : List Shaped) (numbers : BTreeSet ℕ) (voids : BTreeMap ℕ Link)
      (taken : AreTaken c (is_element c) elements)
      (in_numbers : (q : ℕ) → contains nat_cmp numbers q ≡ list_any (λ p. nat_eq q p.number) elements)
      (in_voids : (q : ℕ) → get nat_cmp voids q
      ≡ noted_all (λ r found. by_voiding (contains nat_cmp numbers) q r (c.given rel_voids_element r) found)
      None (filter (has_keyword c rel_voids_element) c.numbers)) where
    element_is : (q : ℕ) → contains nat_cmp numbers q ≡ is_element c q
    element_is q =
        in_numbers q
        ∙ same_tests (list_any (λ p. nat_eq q p.number) elements) (is_element c q)
        (λ any. let one = one_of_any (λ p. nat_eq q p.number) elements any in
        ap (is_element c) (eqb-true q one.0.number one.1.1)
        ∙ (taken.sound one.0 one.1.0).1)
        (λ element. let one = taken.complete q element in
        any_stands_at (λ p. nat_eq q p.number) one.0 elements one.1.0
        (eq-eqb q one.0.number (sym one.1.1)))

    names : ℕ → ℕ → Bool
    names q r =
        option_map_or (λ v. nat_eq q v.1.0 && contains nat_cmp numbers v.0)
        (c.given rel_voids_element r) false

    target : ℕ → ℕ
    target r = option_map_or (λ v. v.0) (c.given rel_voids_element r) 0

    steps : (q r : ℕ) (found : Option Link)
        → by_voiding (contains nat_cmp numbers) q r (c.given rel_voids_element r) found
        ≡ noted (names q r) (link r (target r)) found
    unfolding names target
    steps q r found = by_value (c.given rel_voids_element r)
      where
        by_value : (o : Voiding) → by_voiding (contains nat_cmp numbers) q r o found
            ≡ noted (option_map_or (λ v. nat_eq q v.1.0 && contains nat_cmp numbers v.0) o false)
            (link r (option_map_or (λ v. v.0) o 0)) found
        by_value None = refl
        by_value (Some v) = refl

    names_is : (q r : ℕ) → names q r ≡ is_voided_by c q r
    unfolding names
    names_is q r = by_value (c.given rel_voids_element r)
      where
        by_value : (o : Voiding)
            → option_map_or (λ v. nat_eq q v.1.0 && contains nat_cmp numbers v.0) o false
            ≡ option_map_or (λ v. nat_eq q v.1.0 && is_element c v.0) o false
        by_value None = refl
        by_value (Some v) = ap (λ b. nat_eq q v.1.0 && b) (element_is v.0)

    within : (q r : ℕ) → is_voided_by c q r ≡ true → has_keyword c rel_voids_element r ≡ true
    within q r named = by_value (c.given rel_voids_element r) refl named
      where
        by_value : (o : Voiding) → c.given rel_voids_element r ≡ o
            → option_map_or (λ v. nat_eq q v.1.0 && is_element c v.0) o false ≡ true
            → has_keyword c rel_voids_element r ≡ true
        by_value None is named = absurd (false≢true named)
        by_value (Some v) is named = given_keyword rel_voids_element r v is

    some_mapped : (f : ℕ → Link) (o : Option ℕ) → is_some (option_map f o) ≡ is_some o
    some_mapped f None = refl
    some_mapped f (Some n) = refl

    voided_is : (q : ℕ) → is_some (get nat_cmp voids q) ≡ is_some (voiding c q)
    voided_is q =
        ap is_some
        (in_voids q
        ∙ noted_is_lowest target
        (λ r found. by_voiding (contains nat_cmp numbers) q r (c.given rel_voids_element r) found)
        (names q) (steps q) (filter (has_keyword c rel_voids_element) c.numbers))
        ∙ (some_mapped (λ r. link r (target r))
        (lowest_of (filter (names q) (filter (has_keyword c rel_voids_element) c.numbers)))
        ∙ ap (λ ns. is_some (lowest_of ns))
        (filter_same (names q) (is_voided_by c q)
        (filter (has_keyword c rel_voids_element) c.numbers) (names_is q)
        ∙ two_filters (is_voided_by c q) (has_keyword c rel_voids_element) c.numbers (within q)))

    pub openings_taken : AreTaken c (is_opening c)
        (filter (λ p. is_some (get nat_cmp voids p.number))
        (filter_map (shaped_product c) (filter (is_of_openings c) c.numbers)))
    openings_taken = record {
      sound = λ p stands.
          let kept = stands_filter (λ q. is_some (get nat_cmp voids q.number)) p
          (filter_map (shaped_product c) (filter (is_of_openings c) c.numbers)) stands in
          let one = stands_filter_map (shaped_product c) p (filter (is_of_openings c) c.numbers) kept.0 in
          let is = product_shaped one.0 p one.1.1 in
          let class = stands_filter (is_of_openings c) one.0 c.numbers one.1.0 in
          let has : is_some (voiding c one.0) ≡ true =
          ap (λ k. is_some (voiding c k)) (sym is.0.number) ∙ (sym (voided_is p.number) ∙ kept.1) in
          let opening : is_opening c one.0 ≡ true =
          both_true (is_some (shape_of_product c one.0))
          (is_of_openings c one.0 && is_some (voiding c one.0)) is.1
          (both_true (is_of_openings c one.0) (is_some (voiding c one.0)) class.1 has) in (
            taken_from one.0 p is.0
                (or_right (is_space c one.0) (is_element c one.0 || is_opening c one.0)
                (or_right (is_element c one.0) (is_opening c one.0) opening)),
            ap (is_opening c) is.0.number ∙ opening,
          );
      complete = λ n opening.
          let shape = first_true (is_some (shape_of_product c n))
          (is_of_openings c n && is_some (voiding c n)) opening in
          let rest = second_true (is_some (shape_of_product c n))
          (is_of_openings c n && is_some (voiding c n)) opening in
          let listed = product_listed n shape in
          let one = listed_stands (shaped_product c) (is_of_openings c) n listed.0
          (first_true (is_of_openings c n) (is_some (voiding c n)) rest) in (
            one.0,
            (
              filter_stands (λ q. is_some (get nat_cmp voids q.number)) one.0
                  (filter_map (shaped_product c) (filter (is_of_openings c) c.numbers)) one.1.0
                  (voided_is one.0.number
                  ∙ (ap (λ k. is_some (voiding c k)) one.1.1
                  ∙ second_true (is_of_openings c n) (is_some (voiding c n)) rest)),
              one.1.1,
            ),
          );
    }
