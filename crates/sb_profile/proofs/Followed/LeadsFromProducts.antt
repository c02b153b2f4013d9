-- The leads with which the following begins are those from products that are taken.
use Rattle.std.proofs.Common.{◌≡◌, ◌↔◌, ℕ, zero, suc, ◌≤◌, ◌⊎◌, inl, inr, true, ◌||◌, List, [], ◌∷◌, ◌++◌, Option, Some, None, refl, sym, ap, ◌∙◌, subst, append_assoc, arith}
use Rattle.std.specs.Prelude.{filter_map, option_and_then}
use Rattle.std.specs.Option.{option_or}
use Rattle.std.specs.List.{cons_option}
use Rattle.std.specs.Ordering.{nat_cmp}
use Rattle.std.specs.BTreeMap.{get, BTreeMap}
use Rattle.std.proofs.lemmas.Bool.{or_cases}
use Rattle.std.proofs.lemmas.Option.{same_Some}
use Rattle.std.proofs.lemmas.List.Elements.{filter_map-append}
use Rattle.theory_lists.specs.Members.{Stands}
use Rattle.theory_lists.proofs.Blocks.{stands_before, stands_behind}
use Rattle.sb_profile.specs.declared.reading.links.Link.{Link}
use Rattle.sb_profile.specs.declared.reading.products.Shaped.{Shaped}
use Rattle.sb_profile.specs.declared.tables.Tables.{Tables}
use Rattle.sb_profile.specs.declared.following.places.Place.{Place}
use Rattle.sb_profile.specs.declared.following.places.Place.TheVariants as place
use Rattle.sb_profile.specs.Contents.{Contents}
use Rattle.sb_profile.specs.Products.{is_space, is_element, is_opening, is_taken, placement_of, shape_of}
use Rattle.sb_profile.specs.Materials.{own_material, type_of, material_of}
use Rattle.sb_profile.specs.Following.{Lead, to, to_each, below, below_building, building_placement, IsInChain, IsFollowed}
use Rattle.sb_profile.specs.Following.IsFollowed.{chain, shape, material}
use Rattle.sb_profile.specs.Steps.Chains.{IsWithin, last_level}
use Rattle.sb_profile.specs.Steps.Read.{IsTakenAs, AreTables, AreFirstLeads, target_in, made_of, starts_of, shapes_of, materials_of}
use Rattle.sb_profile.proofs.ListsOfNumbers.{stands_either}
use Rattle.sb_profile.proofs.Followed.PlacesAreFollowed.{stands_map, map_stands, stands_flat_map, flat_map_stands}

-- ---- members

pub stands_filter_map : {X Y : Type 0} (h : X → Option Y) (y : Y) (xs : List X)
    → Stands y (filter_map h xs) → (x : X) × (Stands x xs × (h x ≡ Some y))
stands_filter_map h y [] stands = absurd stands
stands_filter_map {X = X} {Y = Y} h y (x ∷ xs) stands =
    by_value (h x) refl stands (stands_filter_map h y xs)
  where
    behind : (z : X) × (Stands z xs × (h z ≡ Some y)) → (z : X) × (Stands z (x ∷ xs) × (h z ≡ Some y))
    behind (z, known) = (z, (inr known.0, known.1))

    by_value : (o : Option Y) → h x ≡ o → Stands y (cons_option o (filter_map h xs))
        → (Stands y (filter_map h xs) → (z : X) × (Stands z xs × (h z ≡ Some y)))
        → (z : X) × (Stands z (x ∷ xs) × (h z ≡ Some y))
    by_value None is there later = behind (later there)
    by_value (Some v) is (inl same) later = (x, (inl refl, is ∙ ap Some (sym same)))
    by_value (Some v) is (inr there) later = behind (later there)

pub filter_map_stands : {X Y : Type 0} (h : X → Option Y) (x : X) (y : Y) (xs : List X) → Stands x xs
    → h x ≡ Some y → Stands y (filter_map h xs)
filter_map_stands h x y [] stands is = absurd stands
filter_map_stands {X = X} {Y = Y} h x y (z ∷ xs) stands is =
    by_value (h z) refl stands (λ there. filter_map_stands h x y xs there is)
  where
    by_value : (o : Option Y) → h z ≡ o → Stands x (z ∷ xs)
        → (Stands x xs → Stands y (filter_map h xs)) → Stands y (cons_option o (filter_map h xs))
    by_value None none (inl same) later = absurd (let e = sym none ∙ (ap h (sym same) ∙ is) in cc)
    by_value (Some v) value (inl same) later =
        inl (same_Some y v (sym is ∙ (ap h same ∙ value)))
    by_value None none (inr there) later = later there
    by_value (Some v) value (inr there) later = inr (later there)

-- ---- products

module _ (c : Contents) (tables : Tables) (are : AreTables c tables) where
  all : List Shaped
  all = tables.spaces.items ++ tables.elements.items ++ tables.openings.items

  in_spaces : (p : Shaped) → Stands p tables.spaces.items → Stands p all
  unfolding all
  in_spaces p there =
      stands_before p (tables.spaces.items ++ tables.elements.items) tables.openings.items
      (stands_before p tables.spaces.items tables.elements.items there)

  in_elements : (p : Shaped) → Stands p tables.elements.items → Stands p all
  unfolding all
  in_elements p there =
      stands_before p (tables.spaces.items ++ tables.elements.items) tables.openings.items
      (stands_behind p tables.spaces.items tables.elements.items there)

  in_openings : (p : Shaped) → Stands p tables.openings.items → Stands p all
  unfolding all
  in_openings p there =
      stands_behind p (tables.spaces.items ++ tables.elements.items) tables.openings.items there

  -- each of them is one of three
  of_three : (p : Shaped) → Stands p all → Stands p tables.spaces.items
      ⊎ (Stands p tables.elements.items ⊎ Stands p tables.openings.items)
  unfolding all
  of_three p stands =
      outer (stands_either p (tables.spaces.items ++ tables.elements.items) tables.openings.items stands)
    where
      inner : Stands p tables.spaces.items ⊎ Stands p tables.elements.items
          → Stands p tables.spaces.items
          ⊎ (Stands p tables.elements.items ⊎ Stands p tables.openings.items)
      inner (inl there) = inl there
      inner (inr there) = inr (inl there)

      outer : Stands p (tables.spaces.items ++ tables.elements.items) ⊎ Stands p tables.openings.items
          → Stands p tables.spaces.items
          ⊎ (Stands p tables.elements.items ⊎ Stands p tables.openings.items)
      outer (inl there) =
          inner (stands_either p tables.spaces.items tables.elements.items there)
      outer (inr there) = inr (inr there)

  taken_as : (p : Shaped) → Stands p all → IsTakenAs c p
  taken_as p stands = by_kind (of_three p stands)
    where
      by_kind : Stands p tables.spaces.items
          ⊎ (Stands p tables.elements.items ⊎ Stands p tables.openings.items) → IsTakenAs c p
      by_kind (inl there) = (are.spaces.sound p there).0
      by_kind (inr (inl there)) = (are.elements.sound p there).0
      by_kind (inr (inr there)) = (are.openings.sound p there).0

  -- a product that is taken is there
  there_is : (n : ℕ) → is_taken c n ≡ true → (p : Shaped) × (Stands p all × (p.number ≡ n))
  there_is n taken = by_kind (or_cases (is_space c n) (is_element c n || is_opening c n) taken)
    where
      of_space : (p : Shaped) × (Stands p tables.spaces.items × (p.number ≡ n))
          → (p : Shaped) × (Stands p all × (p.number ≡ n))
      of_space (p, known) = (p, (in_spaces p known.0, known.1))

      of_element : (p : Shaped) × (Stands p tables.elements.items × (p.number ≡ n))
          → (p : Shaped) × (Stands p all × (p.number ≡ n))
      of_element (p, known) = (p, (in_elements p known.0, known.1))

      of_opening : (p : Shaped) × (Stands p tables.openings.items × (p.number ≡ n))
          → (p : Shaped) × (Stands p all × (p.number ≡ n))
      of_opening (p, known) = (p, (in_openings p known.0, known.1))

      by_two : (is_element c n ≡ true) ⊎ (is_opening c n ≡ true)
          → (p : Shaped) × (Stands p all × (p.number ≡ n))
      by_two (inl element) = of_element (are.elements.complete n element)
      by_two (inr opening) = of_opening (are.openings.complete n opening)

      by_kind : (is_space c n ≡ true) ⊎ ((is_element c n || is_opening c n) ≡ true)
          → (p : Shaped) × (Stands p all × (p.number ≡ n))
      by_kind (inl space) = of_space (are.spaces.complete n space)
      by_kind (inr other) = by_two (or_cases (is_element c n) (is_opening c n) other)

  -- ---- chains

  module _ (top : Option ℕ) (building : top ≡ building_placement c) where
    begins : (n : ℕ) → Stands n (starts_of top all) → IsWithin c 0 n
    begins n stands =
        let from_one = stands_filter_map (λ p. below top p.placement) n all stands in
        let taken = taken_as from_one.0 from_one.1.0 in
        record {
          before = 0;
          few = omega arith;
          chained = (
            from_one.0.number,
            (
              taken.taken,
              ap (below_building c) taken.placement
                  ∙ (ap (λ t. below t from_one.0.placement) (sym building) ∙ from_one.1.1),
            ),
          );
        }

    begun : (n : ℕ) → IsWithin c 0 n → Stands n (starts_of top all)
    begun n within = by_level within.before within.few within.chained
      where
        by_level : (k : ℕ) → k ≤ 0 → IsInChain c k n → Stands n (starts_of top all)
        by_level zero few (p, (taken, is)) =
            let one = there_is p taken in
            let as_one = taken_as one.0 one.1.0 in
            filter_map_stands (λ q. below top q.placement) one.0 n all one.1.0
            (ap (below top) (sym as_one.placement)
            ∙ (ap (λ k. below top (placement_of c k)) one.1.1
            ∙ (ap (λ t. below t (placement_of c p)) building ∙ is)))
        by_level (suc k) few chained = absurd (omega arith)

  -- ---- materials

  and_then_same : (f g : ℕ → Option ℕ) (o : Option ℕ) → ((n : ℕ) → f n ≡ g n)
      → option_and_then f o ≡ option_and_then g o
  and_then_same f g None same = refl
  and_then_same f g (Some n) same = same n

  made_is : (n : ℕ) → made_of tables.materials tables.types n ≡ material_of c n
  made_is n =
      ap (λ o. option_or o (option_and_then (λ t. target_in (get nat_cmp tables.materials t))
      (target_in (get nat_cmp tables.types n)))) (are.materials n)
      ∙ ap (option_or (own_material c n))
      (ap (option_and_then (λ t. target_in (get nat_cmp tables.materials t))) (are.types n)
      ∙ and_then_same (λ t. target_in (get nat_cmp tables.materials t)) (own_material c)
      (type_of c n) are.materials)

  -- ---- leads

  of_shapes : (at : Place) (n : ℕ) (products : List Shaped)
      → ((p : Shaped) → Stands p products → Stands p all)
      → Stands (at, n) (shapes_of products) → IsFollowed c at n
  of_shapes at n products among stands =
      let one = stands_map (λ p. (place.Shape, p.shape)) (at, n) products stands in
      let taken = taken_as one.0 (among one.0 one.1.0) in
      let P : Lead → Type 0 = λ l. IsFollowed c l.0 l.1 in
      subst P (sym one.1.1) (shape one.0.number one.0.shape taken.taken taken.shape)

  of_material : (at : Place) (n : ℕ) (p : Shaped) (o : Option ℕ) → Stands p tables.elements.items
      → made_of tables.materials tables.types p.number ≡ o → Stands (at, n) (to place.Material o)
      → IsFollowed c at n
  of_material at n p None there is stands = absurd stands
  of_material at n p (Some m) there is (inl same) =
      let P : Lead → Type 0 = λ l. IsFollowed c l.0 l.1 in
      subst P (sym same)
      (material p.number m (are.elements.sound p there).1 (sym (made_is p.number) ∙ is))
  of_material at n p (Some m) there is (inr none) = absurd none

  of_materials : (at : Place) (n : ℕ)
      → Stands (at, n) (materials_of tables.materials tables.types tables.elements.items)
      → IsFollowed c at n
  of_materials at n stands =
      let one = stands_flat_map
      (λ p. to place.Material (made_of tables.materials tables.types p.number)) (at, n)
      tables.elements.items stands in
      of_material at n one.0 (made_of tables.materials tables.types one.0.number) one.1.0 refl
      one.1.1

  of_chains : (at : Place) (n : ℕ) (placements : List ℕ)
      → ((m : ℕ) → Stands m placements → IsWithin c last_level m)
      → Stands (at, n) (to_each place.Placement placements) → IsFollowed c at n
  of_chains at n placements within stands =
      let one = stands_map (λ m. (place.Placement, m)) (at, n) placements stands in
      let chained = within one.0 one.1.0 in
      let few = chained.few in
      let P : Lead → Type 0 = λ l. IsFollowed c l.0 l.1 in
      subst P (sym one.1.1) (chain chained.before one.0 (omega arith) chained.chained)

  module _ (placements : List ℕ)
      (chains : (n : ℕ) → Stands n placements ↔ IsWithin c last_level n) where
    a : List Lead
    a = to_each place.Placement placements

    s : List Lead
    s = shapes_of tables.spaces.items

    e : List Lead
    e = shapes_of tables.elements.items

    o : List Lead
    o = shapes_of tables.openings.items

    m : List Lead
    m = materials_of tables.materials tables.types tables.elements.items

    pub led_by : AreFirstLeads c
        (to_each place.Placement placements ++ shapes_of tables.spaces.items
        ++ shapes_of tables.elements.items ++ shapes_of tables.openings.items
        ++ materials_of tables.materials tables.types tables.elements.items)
    unfolding a s e o m
    led_by = record {
      sound = λ at n stands. sound_five at n (stands_either (at, n) (a ++ s ++ e ++ o) m stands);
      chains = λ n within. before_m (place.Placement, n) (before_o (place.Placement, n)
          (before_e (place.Placement, n) (stands_before (place.Placement, n) a s
          (map_stands (λ k. (place.Placement, k)) n placements ((chains n).1 within)))));
      shapes = λ p n taken is. shape_by p n (there_is p taken) is;
      materials = λ p n element is. material_by p n (are.elements.complete p element) is;
    }
      where
        before_m : (l : Lead) → Stands l (a ++ s ++ e ++ o) → Stands l (a ++ s ++ e ++ o ++ m)
        before_m l there = stands_before l (a ++ s ++ e ++ o) m there

        before_o : (l : Lead) → Stands l (a ++ s ++ e) → Stands l (a ++ s ++ e ++ o)
        before_o l there = stands_before l (a ++ s ++ e) o there

        before_e : (l : Lead) → Stands l (a ++ s) → Stands l (a ++ s ++ e)
        before_e l there = stands_before l (a ++ s) e there

        sound_two : (at : Place) (n : ℕ) → Stands (at, n) a ⊎ Stands (at, n) s → IsFollowed c at n
        sound_two at n (inl there) = of_chains at n placements (λ k. (chains k).0) there
        sound_two at n (inr there) = of_shapes at n tables.spaces.items in_spaces there

        sound_three : (at : Place) (n : ℕ) → Stands (at, n) (a ++ s) ⊎ Stands (at, n) e
            → IsFollowed c at n
        sound_three at n (inl there) = sound_two at n (stands_either (at, n) a s there)
        sound_three at n (inr there) = of_shapes at n tables.elements.items in_elements there

        sound_four : (at : Place) (n : ℕ) → Stands (at, n) (a ++ s ++ e) ⊎ Stands (at, n) o
            → IsFollowed c at n
        sound_four at n (inl there) = sound_three at n (stands_either (at, n) (a ++ s) e there)
        sound_four at n (inr there) = of_shapes at n tables.openings.items in_openings there

        sound_five : (at : Place) (n : ℕ) → Stands (at, n) (a ++ s ++ e ++ o) ⊎ Stands (at, n) m
            → IsFollowed c at n
        sound_five at n (inl there) = sound_four at n (stands_either (at, n) (a ++ s ++ e) o there)
        sound_five at n (inr there) = of_materials at n there

        in_shapes : (p : Shaped) → Stands p tables.spaces.items
            ⊎ (Stands p tables.elements.items ⊎ Stands p tables.openings.items)
            → Stands (place.Shape, p.shape) (a ++ s ++ e ++ o ++ m)
        in_shapes p (inl there) =
            before_m (place.Shape, p.shape) (before_o (place.Shape, p.shape)
            (before_e (place.Shape, p.shape) (stands_behind (place.Shape, p.shape) a s
            (map_stands (λ q. (place.Shape, q.shape)) p tables.spaces.items there))))
        in_shapes p (inr (inl there)) =
            before_m (place.Shape, p.shape) (before_o (place.Shape, p.shape)
            (stands_behind (place.Shape, p.shape) (a ++ s) e
            (map_stands (λ q. (place.Shape, q.shape)) p tables.elements.items there)))
        in_shapes p (inr (inr there)) =
            before_m (place.Shape, p.shape)
            (stands_behind (place.Shape, p.shape) (a ++ s ++ e) o
            (map_stands (λ q. (place.Shape, q.shape)) p tables.openings.items there))

        shape_by : (p n : ℕ) → (q : Shaped) × (Stands q all × (q.number ≡ p))
            → shape_of c p ≡ Some n → Stands (place.Shape, n) (a ++ s ++ e ++ o ++ m)
        shape_by p n (q, known) is =
            let taken = taken_as q known.0 in
            let same : q.shape ≡ n =
            same_Some q.shape n (sym taken.shape ∙ (ap (shape_of c) known.1 ∙ is)) in
            subst (λ k. Stands (place.Shape, k) (a ++ s ++ e ++ o ++ m)) same
            (in_shapes q (of_three q known.0))

        material_by : (p n : ℕ) → (q : Shaped) × (Stands q tables.elements.items × (q.number ≡ p))
            → material_of c p ≡ Some n → Stands (place.Material, n) (a ++ s ++ e ++ o ++ m)
        material_by p n (q, known) is =
            stands_behind (place.Material, n) (a ++ s ++ e ++ o) m
            (flat_map_stands (λ r. to place.Material (made_of tables.materials tables.types r.number))
            q (place.Material, n) tables.elements.items known.0
            (subst (λ f. Stands (place.Material, n) (to place.Material f))
            (sym (made_is q.number ∙ (ap (material_of c) known.1 ∙ is))) (inl refl)))

  -- the chains begin where the products are placed
  pub begin_there : (top : Option ℕ) → top ≡ building_placement c → (starts first : List ℕ)
      → starts ≡ starts_of top tables.spaces.items ++ starts_of top tables.elements.items
      ++ starts_of top tables.openings.items
      → ((n : ℕ) → Stands n first ↔ Stands n starts)
      → (n : ℕ) → Stands n first ↔ IsWithin c 0 n
  unfolding all
  begin_there top building starts first are_starts same n =
      let split : starts_of top all ≡ starts =
      filter_map-append (λ p. below top p.placement)
      (tables.spaces.items ++ tables.elements.items) tables.openings.items
      ∙ (ap (λ ns. ns ++ starts_of top tables.openings.items)
      (filter_map-append (λ p. below top p.placement) tables.spaces.items
      tables.elements.items)
      ∙ sym are_starts) in (
        λ stands. begins top building n (subst (Stands n) (sym split) ((same n).0 stands)),
        λ within. (same n).1 (subst (Stands n) split (begun top building n within)),
      )

-- ---- one list of leads behind another

pub five_in_turn : (old a s e o m one two three four new : List Lead) → one ≡ old ++ a
    → two ≡ one ++ s → three ≡ two ++ e → four ≡ three ++ o → new ≡ four ++ m
    → new ≡ old ++ (a ++ s ++ e ++ o ++ m)
five_in_turn old a s e o m one two three four new is_one is_two is_three is_four is_new =
    behind four (a ++ s ++ e ++ o) m new
    (behind three (a ++ s ++ e) o four
    (behind two (a ++ s) e three (behind one a s two is_one is_two) is_three) is_four) is_new
  where
    behind : (before xs ys after : List Lead) → before ≡ old ++ xs → after ≡ before ++ ys
        → after ≡ old ++ (xs ++ ys)
    behind before xs ys after is is_after =
        is_after ∙ (ap (λ ls. ls ++ ys) is ∙ append_assoc old xs ys)

-- ---- the placements among the first leads

no_shape_there : (n : ℕ) (products : List Shaped)
    → Stands (place.Placement, n) (shapes_of products) → ⊥
no_shape_there n products stands =
    let one = stands_map (λ p. (place.Shape, p.shape)) (place.Placement, n) products stands in
    let other : place.Placement ≡ place.Shape = ap (λ l. l.0) one.1.1 in
    absurd (let same = other in cc)

no_material_there : (n : ℕ) (o : Option ℕ) → Stands (place.Placement, n) (to place.Material o) → ⊥
no_material_there n None stands = stands
no_material_there n (Some m) (inl same) =
    let other : place.Placement ≡ place.Material = ap (λ l. l.0) same in
    absurd (let is = other in cc)
no_material_there n (Some m) (inr none) = none

no_materials_there : (n : ℕ) (materials types : BTreeMap ℕ Link) (products : List Shaped)
    → Stands (place.Placement, n) (materials_of materials types products) → ⊥
no_materials_there n materials types products stands =
    let one = stands_flat_map (λ p. to place.Material (made_of materials types p.number))
    (place.Placement, n) products stands in
    no_material_there n (made_of materials types one.0.number) one.1.1

module _ (placements : List ℕ) (s e o : List Shaped) (materials types : BTreeMap ℕ Link)
    (made : List Shaped) (n : ℕ) where
  abbrev placed : List Lead
  placed = to_each place.Placement placements

  abbrev last : List Lead
  last = materials_of materials types made

  in_placed : Stands (place.Placement, n) placed → Stands n placements
  in_placed stands =
      let one = stands_map (λ k. (place.Placement, k)) (place.Placement, n) placements stands in
      subst (λ k. Stands k placements) (sym (ap (λ l. l.1) one.1.1)) one.1.0

  by_two : Stands (place.Placement, n) placed ⊎ Stands (place.Placement, n) (shapes_of s)
      → Stands n placements
  by_two (inl there) = in_placed there
  by_two (inr there) = absurd (no_shape_there n s there)

  by_three : Stands (place.Placement, n) (placed ++ shapes_of s)
      ⊎ Stands (place.Placement, n) (shapes_of e) → Stands n placements
  by_three (inl there) = by_two (stands_either (place.Placement, n) placed (shapes_of s) there)
  by_three (inr there) = absurd (no_shape_there n e there)

  by_four : Stands (place.Placement, n) (placed ++ shapes_of s ++ shapes_of e)
      ⊎ Stands (place.Placement, n) (shapes_of o) → Stands n placements
  by_four (inl there) =
      by_three (stands_either (place.Placement, n) (placed ++ shapes_of s) (shapes_of e) there)
  by_four (inr there) = absurd (no_shape_there n o there)

  by_five : Stands (place.Placement, n) (placed ++ shapes_of s ++ shapes_of e ++ shapes_of o)
      ⊎ Stands (place.Placement, n) last → Stands n placements
  by_five (inl there) =
      by_four (stands_either (place.Placement, n) (placed ++ shapes_of s ++ shapes_of e)
      (shapes_of o) there)
  by_five (inr there) = absurd (no_materials_there n materials types made there)

  pub placements_among : Stands n placements
      ↔ Stands (place.Placement, n)
      (to_each place.Placement placements ++ shapes_of s ++ shapes_of e ++ shapes_of o
      ++ materials_of materials types made)
  placements_among = (
    λ stands. stands_before (place.Placement, n)
        (placed ++ shapes_of s ++ shapes_of e ++ shapes_of o) last
        (stands_before (place.Placement, n) (placed ++ shapes_of s ++ shapes_of e) (shapes_of o)
        (stands_before (place.Placement, n) (placed ++ shapes_of s) (shapes_of e)
        (stands_before (place.Placement, n) placed (shapes_of s)
        (map_stands (λ k. (place.Placement, k)) n placements stands)))),
    λ stands. by_five (stands_either (place.Placement, n)
        (placed ++ shapes_of s ++ shapes_of e ++ shapes_of o) last stands),
  )
