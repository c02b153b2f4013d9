-- All instances that are read are looked at: the roots by their keywords, and what follows place after
-- place from the leads with which the following begins.
use Rattle.std.proofs.Common.{◌≡◌, ◌⊎◌, inl, inr, ℕ, ◌<◌, nat_eq, Bool, true, false, ◌&&◌, List, [], ◌∷◌, ◌++◌, Option, Some, None, is_some, is_none, refl, sym, ap, ◌∙◌, subst, arith}
use Rattle.std.specs.Prelude.{filter}
use Rattle.std.specs.List.{list_any}
use Rattle.std.specs.Map.{lookup}
use Rattle.std.proofs.lemmas.Bool.{false≢true, or_cases, or_left, or_right}
use Rattle.theory_lists.specs.Members.{Stands}
use Rattle.theory_lists.proofs.Blocks.{stands_before, stands_behind}
use Rattle.sb_step.specs.declared.step_file.records.Record.{Record}
use Rattle.sb_step.specs.Indexed.{Indexed}
use Rattle.sb_schema.specs.Table.{is_one_of}
use Rattle.sb_profile.specs.declared.following.found.Found.{Found}
use Rattle.sb_profile.specs.declared.reading.kinds.Kinds.{Kinds}
use Rattle.sb_profile.specs.declared.following.places.Place.{Place}
use Rattle.sb_profile.specs.declared.following.places.Place.TheVariants as place
use Rattle.sb_profile.specs.Entities.{Entity, row_of, roots, wanted_at}
use Rattle.sb_profile.specs.Entities.Entity.{building, space, product, opening_filling, rel_voids_element, rel_fills_element, rel_associates_material, rel_defines_by_type}
use Rattle.sb_profile.specs.Contents.{Contents, Says, has_keyword, is_unfit, is_absent}
use Rattle.sb_profile.specs.Products.{is_of_openings}
use Rattle.sb_profile.specs.Following.{Lead, leads, IsFollowed, IsReadAs}
use Rattle.sb_profile.specs.Following.IsFollowed.{chain, shape, material, onward}
use Rattle.sb_profile.specs.Following.IsReadAs.{root, followed}
use Rattle.sb_profile.specs.Defects.{IsUnfitRead, IsAbsentFollowed}
use Rattle.sb_profile.specs.Steps.Kinds.{AreSorted, is_of_elements}
use Rattle.sb_profile.specs.Steps.Links.{lowered}
use Rattle.sb_profile.specs.Steps.Found.{leads_with, any_unfit, is_unfit_at, AreBodies}
use Rattle.sb_profile.specs.Steps.Survey.{rank_of, places, IsLowestIf, IsMarked, IsOneOrMarked, IsSurveyed}
use Rattle.sb_profile.specs.Steps.Read.{unfit_roots, AreFirstLeads, ArePlaced, AreLowest}
use Rattle.sb_profile.proofs.ListsOfNumbers.{any_stands, stands_either}
use Rattle.sb_profile.proofs.Followed.PlacesAreFollowed.{stands_filter, filter_stands, lowest_same, lowest_with_all, surveyed_more, stands_wanted, wanted_stands}
use Rattle.sb_profile.proofs.Followed.EachIsFound.{alike_for_placements}
use Rattle.sb_profile.proofs.Followed.LeadsGoOn.{rank_low}
use Rattle.sb_profile.proofs.TablesOfFiles.TablesAreRead.{elements_of_products}
use Rattle.sb_profile.proofs.TablesOfFiles.ViewsAreSights.{any_by_lookup, unkeyed}

-- ---- tests

none_of : {A : Type 0} (o : Option A) → is_none o ≡ true → o ≡ None
none_of None is = refl
none_of (Some a) is = absurd (false≢true is)

first_true : (a b : Bool) → a && b ≡ true → a ≡ true
first_true true b is = refl
first_true false b is = is

second_true : (a b : Bool) → a && b ≡ true → b ≡ true
second_true true b is = is
second_true false b is = absurd (false≢true is)

pub both_true : (a b : Bool) → a ≡ true → b ≡ true → a && b ≡ true
both_true true b one two = two
both_true false b one two = one

-- what stands in two lists joined, by cases
by_part : {P : Type 0} (n : ℕ) (xs ys : List ℕ) → (Stands n xs → P) → (Stands n ys → P)
    → Stands n (xs ++ ys) → P
by_part {P = P} n xs ys one other stands = either (stands_either n xs ys stands)
  where
    either : Stands n xs ⊎ Stands n ys → P
    either (inl there) = one there
    either (inr there) = other there

-- ---- one of some entities, of whose row an instance is not

pub any_unfit_from : (c : Contents) (n : ℕ) (e : Entity) (es : List Entity) → Stands e es
    → is_unfit c e n ≡ true → any_unfit c n es ≡ true
any_unfit_from c n e [] stands unfit = absurd stands
any_unfit_from c n e (f ∷ []) (inl same) unfit = ap (λ g. is_unfit c g n) (sym same) ∙ unfit
any_unfit_from c n e (f ∷ []) (inr none) unfit = absurd none
any_unfit_from c n e (f ∷ g ∷ es) (inl same) unfit =
    or_left (is_unfit c f n) (any_unfit c n (g ∷ es))
    (ap (λ h. is_unfit c h n) (sym same) ∙ unfit)
any_unfit_from c n e (f ∷ g ∷ es) (inr later) unfit =
    or_right (is_unfit c f n) (any_unfit c n (g ∷ es))
    (any_unfit_from c n e (g ∷ es) later unfit)

record UnfitAmong (c : Contents) (n : ℕ) (es : List Entity) : Type 0 where
  entity : Entity
  among : Stands entity es
  unfit : is_unfit c entity n ≡ true

one_unfit : (c : Contents) (n : ℕ) (es : List Entity) → any_unfit c n es ≡ true
    → UnfitAmong c n es
one_unfit c n [] any = absurd (false≢true any)
one_unfit c n (e ∷ []) any = record { entity = e; among = inl refl; unfit = any }
one_unfit c n (e ∷ f ∷ es) any =
    either (or_cases (is_unfit c e n) (any_unfit c n (f ∷ es)) any) (one_unfit c n (f ∷ es))
  where
    either : (is_unfit c e n ≡ true) ⊎ (any_unfit c n (f ∷ es) ≡ true)
        → (any_unfit c n (f ∷ es) ≡ true → UnfitAmong c n (f ∷ es))
        → UnfitAmong c n (e ∷ f ∷ es)
    either (inl here) later = record { entity = e; among = inl refl; unfit = here }
    either (inr there) later =
        let one = later there in
        record { entity = one.entity; among = inr one.among; unfit = one.unfit }

-- ---- the roots

module _ (c : Contents) (kinds : Kinds) where
  of_root : (e : Entity) (n : ℕ) (ns : List ℕ) → Stands e roots
      → Stands n (filter (is_unfit c e) ns) → UnfitAmong c n roots
  of_root e n ns among stands =
      record { entity = e; among = among; unfit = (stands_filter (is_unfit c e) n ns stands).1 }

  -- the parts of the unfit roots, and each with those behind it
  abbrev buildings : List ℕ
  buildings = filter (is_unfit c building) kinds.buildings.items

  abbrev spaces : List ℕ
  spaces = filter (is_unfit c space) kinds.spaces.items

  abbrev elements : List ℕ
  elements = filter (is_unfit c product) kinds.elements.items

  abbrev openings : List ℕ
  openings = filter (is_unfit c product) kinds.openings.items

  abbrev fillings : List ℕ
  fillings = filter (is_unfit c opening_filling) kinds.fillings.items

  abbrev voids : List ℕ
  voids = filter (is_unfit c rel_voids_element) kinds.voids.items

  abbrev fills : List ℕ
  fills = filter (is_unfit c rel_fills_element) kinds.fills.items

  abbrev materials : List ℕ
  materials = filter (is_unfit c rel_associates_material) kinds.materials.items

  abbrev types : List ℕ
  types = filter (is_unfit c rel_defines_by_type) kinds.types.items

  abbrev from_materials : List ℕ
  from_materials = materials ++ types

  abbrev from_fills : List ℕ
  from_fills = fills ++ from_materials

  abbrev from_voids : List ℕ
  from_voids = voids ++ from_fills

  abbrev from_fillings : List ℕ
  from_fillings = fillings ++ from_voids

  abbrev from_openings : List ℕ
  from_openings = openings ++ from_fillings

  abbrev from_elements : List ℕ
  from_elements = elements ++ from_openings

  abbrev from_spaces : List ℕ
  from_spaces = spaces ++ from_elements

  of_relations : (n : ℕ) → Stands n from_voids → UnfitAmong c n roots
  of_relations n =
      by_part n voids from_fills
      (of_root rel_voids_element n kinds.voids.items (inr (inr (inr (inr (inl refl))))))
      (by_part n fills from_materials
      (of_root rel_fills_element n kinds.fills.items (inr (inr (inr (inr (inr (inl refl)))))))
      (by_part n materials types
      (of_root rel_associates_material n kinds.materials.items
      (inr (inr (inr (inr (inr (inr (inl refl))))))))
      (of_root rel_defines_by_type n kinds.types.items
      (inr (inr (inr (inr (inr (inr (inr (inl refl)))))))))))

  of_roots : (n : ℕ) → Stands n (unfit_roots c kinds) → UnfitAmong c n roots
  of_roots n =
      by_part n buildings from_spaces (of_root building n kinds.buildings.items (inl refl))
      (by_part n spaces from_elements (of_root space n kinds.spaces.items (inr (inl refl)))
      (by_part n elements from_openings
      (of_root product n kinds.elements.items (inr (inr (inl refl))))
      (by_part n openings from_fillings
      (of_root product n kinds.openings.items (inr (inr (inl refl))))
      (by_part n fillings from_voids
      (of_root opening_filling n kinds.fillings.items (inr (inr (inr (inl refl)))))
      (of_relations n)))))

  -- what stands behind stands among the roots
  behind_spaces : (n : ℕ) → Stands n from_spaces → Stands n (unfit_roots c kinds)
  behind_spaces n there = stands_behind n buildings from_spaces there

  behind_elements : (n : ℕ) → Stands n from_elements → Stands n (unfit_roots c kinds)
  behind_elements n there = behind_spaces n (stands_behind n spaces from_elements there)

  behind_openings : (n : ℕ) → Stands n from_openings → Stands n (unfit_roots c kinds)
  behind_openings n there = behind_elements n (stands_behind n elements from_openings there)

  behind_fillings : (n : ℕ) → Stands n from_fillings → Stands n (unfit_roots c kinds)
  behind_fillings n there = behind_openings n (stands_behind n openings from_fillings there)

  behind_voids : (n : ℕ) → Stands n from_voids → Stands n (unfit_roots c kinds)
  behind_voids n there = behind_fillings n (stands_behind n fillings from_voids there)

  behind_fills : (n : ℕ) → Stands n from_fills → Stands n (unfit_roots c kinds)
  behind_fills n there = behind_voids n (stands_behind n voids from_fills there)

  behind_materials : (n : ℕ) → Stands n from_materials → Stands n (unfit_roots c kinds)
  behind_materials n there = behind_fills n (stands_behind n fills from_materials there)

  module _ (indexed : Indexed) (says : Says indexed c) (sorted : AreSorted c c.numbers kinds) where
    -- an instance with a keyword is there
    keyed_there : (e : Entity) (n : ℕ) → has_keyword c e n ≡ true → Stands n c.numbers
    keyed_there e n keyword = by_value (lookup (nat_eq n) indexed.file.instances) refl
      where
        by_value : (o : Option Record) → lookup (nat_eq n) indexed.file.instances ≡ o
            → Stands n c.numbers
        by_value None is =
            absurd (false≢true
            (sym (unkeyed (row_of e).keywords indexed n is)
            ∙ (ap (is_one_of (row_of e).keywords) (sym (says.keyword_is n)) ∙ keyword)))
        by_value (Some r) is =
            any_stands n c.numbers
            (ap (λ ns. list_any (nat_eq n) ns) says.numbers_are
            ∙ (any_by_lookup n indexed.file.instances ∙ ap is_some is))

    -- one that is not of its row stands among those of its keyword
    unfit_of : (e : Entity) (n : ℕ) (ns : List ℕ) → ns ≡ filter (has_keyword c e) c.numbers
        → is_unfit c e n ≡ true → Stands n (filter (is_unfit c e) ns)
    unfit_of e n ns are unfit =
        let keyword = first_true (has_keyword c e n) (is_none (c.given e n)) unfit in
        filter_stands (is_unfit c e) n ns
        (subst (Stands n) (sym are)
        (filter_stands (has_keyword c e) n c.numbers (keyed_there e n keyword) keyword))
        unfit

    -- elements and openings together are the products
    unfit_product : (n : ℕ) → is_unfit c product n ≡ true → Stands n (unfit_roots c kinds)
    unfit_product n unfit = by_class (is_of_openings c n) refl
      where
        keyword : has_keyword c product n ≡ true
        keyword = first_true (has_keyword c product n) (is_none (c.given product n)) unfit

        by_class : (b : Bool) → is_of_openings c n ≡ b → Stands n (unfit_roots c kinds)
        by_class true is =
            behind_openings n
            (stands_before n openings from_fillings
            (filter_stands (is_unfit c product) n kinds.openings.items
            (subst (Stands n) (sym sorted.openings)
            (filter_stands (is_of_openings c) n c.numbers (keyed_there product n keyword) is))
            unfit))
        by_class false is =
            behind_elements n
            (stands_before n elements from_openings
            (filter_stands (is_unfit c product) n kinds.elements.items
            (subst (Stands n) (sym sorted.elements)
            (filter_stands (is_of_elements c) n c.numbers (keyed_there product n keyword)
            (elements_of_products (c.keyword n) keyword is)))
            unfit))

    to_roots : (n : ℕ) (e : Entity) → Stands e roots → is_unfit c e n ≡ true
        → Stands n (unfit_roots c kinds)
    to_roots n e (inl same) unfit =
        stands_before n buildings from_spaces
        (unfit_of building n kinds.buildings.items sorted.buildings
        (ap (λ f. is_unfit c f n) (sym same) ∙ unfit))
    to_roots n e (inr (inl same)) unfit =
        behind_spaces n
        (stands_before n spaces from_elements
        (unfit_of space n kinds.spaces.items sorted.spaces
        (ap (λ f. is_unfit c f n) (sym same) ∙ unfit)))
    to_roots n e (inr (inr (inl same))) unfit =
        unfit_product n (ap (λ f. is_unfit c f n) (sym same) ∙ unfit)
    to_roots n e (inr (inr (inr (inl same)))) unfit =
        behind_fillings n
        (stands_before n fillings from_voids
        (unfit_of opening_filling n kinds.fillings.items sorted.fillings
        (ap (λ f. is_unfit c f n) (sym same) ∙ unfit)))
    to_roots n e (inr (inr (inr (inr (inl same))))) unfit =
        behind_voids n
        (stands_before n voids from_fills
        (unfit_of rel_voids_element n kinds.voids.items sorted.voids
        (ap (λ f. is_unfit c f n) (sym same) ∙ unfit)))
    to_roots n e (inr (inr (inr (inr (inr (inl same)))))) unfit =
        behind_fills n
        (stands_before n fills from_materials
        (unfit_of rel_fills_element n kinds.fills.items sorted.fills
        (ap (λ f. is_unfit c f n) (sym same) ∙ unfit)))
    to_roots n e (inr (inr (inr (inr (inr (inr (inl same))))))) unfit =
        behind_materials n
        (stands_before n materials types
        (unfit_of rel_associates_material n kinds.materials.items sorted.materials
        (ap (λ f. is_unfit c f n) (sym same) ∙ unfit)))
    to_roots n e (inr (inr (inr (inr (inr (inr (inr (inl same)))))))) unfit =
        behind_materials n
        (stands_behind n materials types
        (unfit_of rel_defines_by_type n kinds.types.items sorted.types
        (ap (λ f. is_unfit c f n) (sym same) ∙ unfit)))
    to_roots n e (inr (inr (inr (inr (inr (inr (inr (inr none)))))))) unfit = absurd none

-- ---- the survey begins

module _ (bodies : ℕ → Bool) (c : Contents) (first : List Lead)
    (agree : (n : ℕ) → Stands (place.Shape, n) first
    → leads_with bodies c place.Shape n ≡ leads c place.Shape n) where
  agree_first : (at : Place) (n : ℕ) → Stands (at, n) first
      → leads_with bodies c at n ≡ leads c at n
  agree_first place.Shape n stands = agree n stands
  agree_first place.Placement n stands = refl
  agree_first place.Body n stands = refl
  agree_first place.Representation n stands = refl
  agree_first place.Solid n stands = refl
  agree_first place.Profile n stands = refl
  agree_first place.Curve n stands = refl
  agree_first place.PointList n stands = refl
  agree_first place.Position3d n stands = refl
  agree_first place.Position2d n stands = refl
  agree_first place.Point n stands = refl
  agree_first place.Direction n stands = refl
  agree_first place.Material n stands = refl
  agree_first place.LayerSet n stands = refl
  agree_first place.Layer n stands = refl
  agree_first place.LayerMaterial n stands = refl

-- no rank is below the first
none_below : {P : Type 0} (rank : ℕ) → rank < 0 → P
none_below rank low = absurd (omega arith)

not_marked : (test : Place → ℕ → Bool) (ls : List Lead) (n : ℕ) → IsMarked test 0 ls n → ⊥
not_marked test ls n mark = none_below (rank_of mark.at) mark.low

-- before any place only the roots are there
roots_alone : (ns : List ℕ) (test : Place → ℕ → Bool) (ls : List Lead)
    → IsLowestIf (IsOneOrMarked ns test 0 ls) (lowered None ns)
roots_alone ns test ls =
    lowest_same (λ n. ⊥ ⊎ Stands n ns) (IsOneOrMarked ns test 0 ls) (lowered None ns) there back
    (lowest_with_all (λ _. ⊥) ns None (λ n none. none))
  where
    there : (n : ℕ) → ⊥ ⊎ Stands n ns → IsOneOrMarked ns test 0 ls n
    there n (inl none) = absurd none
    there n (inr stands) = inl stands

    back : (n : ℕ) → IsOneOrMarked ns test 0 ls n → ⊥ ⊎ Stands n ns
    back n (inl stands) = inr stands
    back n (inr mark) = absurd (not_marked test ls n mark)

begins_so : (bodies : ℕ → Bool) (c : Contents) (ns : List ℕ) (found : Found)
    → AreFirstLeads c found.leads.items
    → ((n : ℕ) → Stands (place.Shape, n) found.leads.items
    → leads_with bodies c place.Shape n ≡ leads c place.Shape n)
    → AreBodies c bodies → found.unfit ≡ lowered None ns → found.absent ≡ None
    → IsSurveyed bodies c ns found.leads.items 0 found
begins_so bodies c ns found are agree are_bodies unfit absent = record {
  bodies_are = are_bodies;
  keeps = λ lead there. there;
  sound = are.sound;
  agree = agree_first bodies c found.leads.items agree;
  closed = λ at n lead low stands follows. none_below (rank_of at) low;
  unfit = subst (IsLowestIf (IsOneOrMarked ns (is_unfit_at c) 0 found.leads.items)) (sym unfit)
      (roots_alone ns (is_unfit_at c) found.leads.items);
  absent = subst (IsLowestIf (IsOneOrMarked [] (λ _ n. is_absent c n) 0 found.leads.items))
      (sym absent) (roots_alone [] (λ _ n. is_absent c n) found.leads.items);
}

-- the placements were found beside the leads
placed_so : (bodies : ℕ → Bool) (c : Contents) (ns : List ℕ) (first : List Lead)
    (old beside new : Found) → ArePlaced c old beside
    → new.leads.items ≡ old.leads.items ++ beside.leads.items → new.unfit ≡ beside.unfit
    → new.absent ≡ beside.absent → IsSurveyed bodies c ns first 0 old
    → IsSurveyed bodies c ns first 1 new
placed_so bodies c ns first old beside new placed leads unfit absent begun =
    surveyed_more bodies c ns first place.Placement old new placed.placements
    (λ n. (
      λ stands. stands_wanted place.Placement n old.leads.items ((placed.are n).0 stands),
      λ stands. (placed.are n).1 (wanted_stands place.Placement n old.leads.items stands),
    ))
    (leads
    ∙ ap (λ ls. old.leads.items ++ ls)
    (placed.leads_are ∙ alike_for_placements (λ _. false) bodies c placed.placements))
    (unfit ∙ placed.unfit_is) (absent ∙ placed.absent_is) begun

-- ---- and ends

module _ (bodies : ℕ → Bool) (indexed : Indexed) (c : Contents) (says : Says indexed c)
    (kinds : Kinds) (sorted : AreSorted c c.numbers kinds) (first : List Lead)
    (are : AreFirstLeads c first) (found : Found)
    (surveyed : IsSurveyed bodies c (unfit_roots c kinds) first places found) where
  all_found : (at : Place) (n : ℕ) → IsFollowed c at n → Stands (at, n) found.leads.items
  all_found at n (chain k m few chained) =
      surveyed.keeps (place.Placement, m)
      (are.chains m (record { before = k; few = omega arith; chained = chained }))
  all_found at n (shape p m taken is) =
      surveyed.keeps (place.Shape, m) (are.shapes p m taken is)
  all_found at n (material p m element is) =
      surveyed.keeps (place.Material, m) (are.materials p m element is)
  all_found at n (onward from_place to_place m k there leads_on) =
      let stands = all_found from_place m there in
      surveyed.closed from_place m (to_place, k) (rank_low from_place) stands
      (subst (Stands (to_place, k)) (sym (surveyed.agree from_place m stands)) leads_on)

  unfit_there : (n : ℕ)
      → IsOneOrMarked (unfit_roots c kinds) (is_unfit_at c) places found.leads.items n
      → IsUnfitRead c n
  unfit_there n (inl there) =
      let one = of_roots c kinds n there in
      record {
        entity = one.entity;
        read = root one.among
            (first_true (has_keyword c one.entity n) (is_none (c.given one.entity n)) one.unfit);
        none = none_of (c.given one.entity n)
            (second_true (has_keyword c one.entity n) (is_none (c.given one.entity n)) one.unfit);
      }
  unfit_there n (inr mark) =
      let one = one_unfit c n (wanted_at mark.at) mark.passes in
      record {
        entity = one.entity;
        read = followed mark.at (surveyed.sound mark.at n mark.stands) one.among
            (first_true (has_keyword c one.entity n) (is_none (c.given one.entity n)) one.unfit);
        none = none_of (c.given one.entity n)
            (second_true (has_keyword c one.entity n) (is_none (c.given one.entity n)) one.unfit);
      }

  unfit_by : (n : ℕ) (e : Entity) → c.given e n ≡ None → IsReadAs c e n
      → IsOneOrMarked (unfit_roots c kinds) (is_unfit_at c) places found.leads.items n
  unfit_by n e none (root among keyword) =
      inl (to_roots c kinds indexed says sorted n e among
      (both_true (has_keyword c e n) (is_none (c.given e n)) keyword (ap is_none none)))
  unfit_by n e none (followed at there wanted keyword) =
      inr (record {
        at = at;
        low = rank_low at;
        stands = all_found at n there;
        passes = any_unfit_from c n e (wanted_at at) wanted
            (both_true (has_keyword c e n) (is_none (c.given e n)) keyword (ap is_none none));
      })

  absent_there : (n : ℕ)
      → IsOneOrMarked [] (λ _ k. is_absent c k) places found.leads.items n
      → IsAbsentFollowed c n
  absent_there n (inl none) = absurd none
  absent_there n (inr mark) = record {
    at = mark.at;
    followed = surveyed.sound mark.at n mark.stands;
    absent = mark.passes;
  }

  absent_by : (n : ℕ) → IsAbsentFollowed c n
      → IsOneOrMarked [] (λ _ k. is_absent c k) places found.leads.items n
  absent_by n gone = inr (record {
    at = gone.at;
    low = rank_low gone.at;
    stands = all_found gone.at n gone.followed;
    passes = gone.absent;
  })

  ends_so : AreLowest c found.unfit found.absent
  ends_so = record {
    unfit_is = lowest_same
        (IsOneOrMarked (unfit_roots c kinds) (is_unfit_at c) places found.leads.items)
        (IsUnfitRead c) found.unfit unfit_there
        (λ n wrong. unfit_by n wrong.entity wrong.none wrong.read) surveyed.unfit;
    absent_is = lowest_same (IsOneOrMarked [] (λ _ k. is_absent c k) places found.leads.items)
        (IsAbsentFollowed c) found.absent absent_there absent_by surveyed.absent;
  }

-- from the leads to the lowest numbers
pub lowest_found : (bodies : ℕ → Bool) (indexed : Indexed) (c : Contents) (kinds : Kinds)
    (old beside joined found : Found) → Says indexed c → AreSorted c c.numbers kinds
    → AreFirstLeads c old.leads.items
    → ((n : ℕ) → Stands (place.Shape, n) old.leads.items
    → leads_with bodies c place.Shape n ≡ leads c place.Shape n)
    → AreBodies c bodies → old.unfit ≡ lowered None (unfit_roots c kinds) → old.absent ≡ None
    → ArePlaced c old beside → joined.leads.items ≡ old.leads.items ++ beside.leads.items
    → joined.unfit ≡ beside.unfit → joined.absent ≡ beside.absent
    → ((ns : List ℕ) (first : List Lead) → IsSurveyed bodies c ns first 1 joined
    → IsSurveyed bodies c ns first places found)
    → AreLowest c found.unfit found.absent
lowest_found bodies indexed c kinds old beside joined found says sorted are agree are_bodies unfit absent placed leads_join unfit_join absent_join survey =
    ends_so bodies indexed c says kinds sorted old.leads.items are found
    (survey (unfit_roots c kinds) old.leads.items
    (placed_so bodies c (unfit_roots c kinds) old.leads.items old beside joined placed leads_join
    unfit_join absent_join
    (begins_so bodies c (unfit_roots c kinds) old are agree are_bodies unfit absent)))
