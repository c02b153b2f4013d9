use Rattle.std.proofs.Common.{◌≡◌, ℕ, ◌++◌, ap, sym, subst, ◌∙◌, nat_eq, None}
use Rattle.std.specs.Prelude.{filter, filter_map}
use Rattle.std.specs.List.{list_any}
use Rattle.std.specs.Ordering.{nat_cmp}
use Rattle.std.specs.BTreeMap.{get}
use Rattle.std.specs.BTreeSet.{contains}
use Rattle.std.specs.Prelude.{is_some}
use Rattle.sb_profile.specs.Entities.Entity.{building, space, product, opening_filling, rel_voids_element, rel_fills_element, rel_associates_material, rel_defines_by_type}
use Rattle.sb_profile.specs.Contents.{is_unfit, has_keyword}
use Rattle.sb_profile.specs.Products.{is_space, is_element, is_opening}
use Rattle.sb_profile.specs.Steps.Links.{noted_all, by_listing, by_voiding, lowered}
use Rattle.sb_profile.specs.Steps.Shapes.{shaped_space, shaped_product}
use Rattle.sb_profile.specs.Steps.Read.{AreTaken, target_in}
use Rattle.sb_profile.proofs.TablesOfFiles.LinksAreNoted.{lowered_then}
use Rattle.sb_profile.proofs.TablesOfFiles.TablesAreRead.{given_keyword, spaces_taken, elements_taken, openings_taken, listing_is}
use Rattle.sb_profile.proofs.TablesOfFiles.RelationsGive.{taken_is, giving_is}
use Rattle.sb_profile.proofs.tables.read_tables.Goals as goal

pub returns-clause-unfit : goal.returns-clause-unfit
returns-clause-unfit c = λ said says.
    let k = c.args.kinds.now in
    let last = c.types.new.unfit in
    let rest_nine = filter (is_unfit said rel_defines_by_type) k.types.items in
    let rest_eight = filter (is_unfit said rel_associates_material) k.materials.items ++ rest_nine in
    let rest_seven = filter (is_unfit said rel_fills_element) k.fills.items ++ rest_eight in
    let rest_six = filter (is_unfit said rel_voids_element) k.voids.items ++ rest_seven in
    let rest_five = filter (is_unfit said opening_filling) k.fillings.items ++ rest_six in
    let rest_four = filter (is_unfit said product) k.openings.items ++ rest_five in
    let rest_three = filter (is_unfit said product) k.elements.items ++ rest_four in
    let rest_two = filter (is_unfit said space) k.spaces.items ++ rest_three in
    lowered_then c.args.unfit.now c.unfit_among.new.unfit last
    (filter (is_unfit said building) k.buildings.items) rest_two
    (c.in_ok-unfit_among.ensures said says
    ∙ ap (λ ns. lowered c.args.unfit.now (filter (is_unfit said building) ns)) c.as_slice.ensures.value)
    (lowered_then c.unfit_among.new.unfit c.spaces.new.unfit last
    (filter (is_unfit said space) k.spaces.items) rest_three
    (c.in_ok-spaces.ensures.unfit said says
    ∙ ap (λ ns. lowered c.unfit_among.new.unfit (filter (is_unfit said space) ns)) c.as_slice-2.ensures.value)
    (lowered_then c.spaces.new.unfit c.products.new.unfit last
    (filter (is_unfit said product) k.elements.items) rest_four
    (c.in_ok-elements.ensures.unfit said says
    ∙ ap (λ ns. lowered c.spaces.new.unfit (filter (is_unfit said product) ns)) c.as_slice-3.ensures.value)
    (lowered_then c.products.new.unfit c.products-2.new.unfit last
    (filter (is_unfit said product) k.openings.items) rest_five
    (c.in_ok-shaped.ensures.unfit said says
    ∙ ap (λ ns. lowered c.products.new.unfit (filter (is_unfit said product) ns)) c.as_slice-4.ensures.value)
    (lowered_then c.products-2.new.unfit c.unfit_among-2.new.unfit last
    (filter (is_unfit said opening_filling) k.fillings.items) rest_six
    (c.in_ok-unfit_among-2.ensures said says
    ∙ ap (λ ns. lowered c.products-2.new.unfit (filter (is_unfit said opening_filling) ns)) c.as_slice-5.ensures.value)
    (lowered_then c.unfit_among-2.new.unfit c.voids.new.unfit last
    (filter (is_unfit said rel_voids_element) k.voids.items) rest_seven
    (c.in_ok-voids.ensures.unfit said says
    ∙ ap (λ ns. lowered c.unfit_among-2.new.unfit (filter (is_unfit said rel_voids_element) ns)) c.as_slice-7.ensures.value)
    (lowered_then c.voids.new.unfit c.fills.new.unfit last
    (filter (is_unfit said rel_fills_element) k.fills.items) rest_eight
    (c.in_ok-fills.ensures.unfit said says
    ∙ ap (λ ns. lowered c.voids.new.unfit (filter (is_unfit said rel_fills_element) ns)) c.as_slice-10.ensures.value)
    (lowered_then c.fills.new.unfit c.materials.new.unfit last
    (filter (is_unfit said rel_associates_material) k.materials.items) rest_nine
    (c.in_ok-materials.ensures.unfit said says
    ∙ ap (λ ns. lowered c.fills.new.unfit (filter (is_unfit said rel_associates_material) ns)) c.as_slice-11.ensures.value)
    (c.in_ok-types.ensures.unfit said says
    ∙ ap (λ ns. lowered c.materials.new.unfit (filter (is_unfit said rel_defines_by_type) ns)) c.as_slice-12.ensures.value))))))))

pub returns-clause-tables : goal.returns-clause-tables
returns-clause-tables c = λ said says sorted.
    let file = c.args.file.now in
    let elements =
    subst (AreTaken said (is_element said))
    (sym (c.in_ok-elements.ensures.products said says
    ∙ ap (filter_map (shaped_product said)) (c.as_slice-3.ensures.value ∙ sorted.elements)))
    (elements_taken file said says) in
    let numbers : (q : ℕ) → contains nat_cmp c.in_ok-numbers.numbers q
    ≡ list_any (λ p. nat_eq q p.number) c.in_ok-elements.elements.items = λ q.
    c.in_ok-numbers.ensures q ∙ ap (list_any (λ p. nat_eq q p.number)) c.as_slice-6.ensures.value in
    let voids : (q : ℕ) → get nat_cmp c.in_ok-voids.voids q
    ≡ noted_all (λ r found. by_voiding (contains nat_cmp c.in_ok-numbers.numbers) q r
    (said.given rel_voids_element r) found) None (filter (has_keyword said rel_voids_element) said.numbers) = λ q.
    c.in_ok-voids.ensures.links said says q
    ∙ ap (noted_all (λ r found. by_voiding (contains nat_cmp c.in_ok-numbers.numbers) q r
    (said.given rel_voids_element r) found) None)
    (c.as_slice-7.ensures.value ∙ sorted.voids) in
    let openings =
    subst (AreTaken said (is_opening said))
    (sym (c.in_ok-openings.ensures
    ∙ ap (filter (λ p. is_some (get nat_cmp c.in_ok-voids.voids p.number)))
    (c.as_slice-8.ensures.value
    ∙ (c.in_ok-shaped.ensures.products said says
    ∙ ap (filter_map (shaped_product said)) (c.as_slice-4.ensures.value ∙ sorted.openings)))))
    (openings_taken file said says c.in_ok-elements.elements.items c.in_ok-numbers.numbers
    c.in_ok-voids.voids elements numbers voids) in
    record {
      spaces = subst (AreTaken said (is_space said))
          (sym (c.in_ok-spaces.ensures.products said says
          ∙ ap (filter_map (shaped_space said)) (c.as_slice-2.ensures.value ∙ sorted.spaces)))
          (spaces_taken file said says);
      elements = elements;
      openings = openings;
      materials = λ q.
          ap target_in (c.in_ok-materials.ensures.links said says q
          ∙ ap (noted_all (λ r found. by_listing q r (said.given rel_associates_material r) found) None)
          (c.as_slice-11.ensures.value ∙ sorted.materials))
          ∙ listing_is file said says rel_associates_material (said.given rel_associates_material)
          (given_keyword file said says rel_associates_material) q;
      types = λ q.
          ap target_in (c.in_ok-types.ensures.links said says q
          ∙ ap (noted_all (λ r found. by_listing q r (said.given rel_defines_by_type r) found) None)
          (c.as_slice-12.ensures.value ∙ sorted.types))
          ∙ listing_is file said says rel_defines_by_type (said.given rel_defines_by_type)
          (given_keyword file said says rel_defines_by_type) q;
      voids = λ q.
          ap target_in (voids q)
          ∙ giving_is file said says rel_voids_element (said.given rel_voids_element)
          (given_keyword file said says rel_voids_element)
          (contains nat_cmp c.in_ok-numbers.numbers) (is_element said)
          (taken_is said (is_element said) c.in_ok-elements.elements.items c.in_ok-numbers.numbers
          elements numbers) q;
      fills = λ q.
          ap target_in (c.in_ok-fills.ensures.links said says q
          ∙ ap (noted_all (λ r found. by_voiding (contains nat_cmp c.in_ok-opening_numbers.opening_numbers)
          q r (said.given rel_fills_element r) found) None)
          (c.as_slice-10.ensures.value ∙ sorted.fills))
          ∙ giving_is file said says rel_fills_element (said.given rel_fills_element)
          (given_keyword file said says rel_fills_element)
          (contains nat_cmp c.in_ok-opening_numbers.opening_numbers) (is_opening said)
          (taken_is said (is_opening said) c.in_ok-openings.openings.items
          c.in_ok-opening_numbers.opening_numbers openings
          (λ p. c.in_ok-opening_numbers.ensures p
          ∙ ap (list_any (λ s. nat_eq p s.number)) c.as_slice-9.ensures.value)) q;
    }
