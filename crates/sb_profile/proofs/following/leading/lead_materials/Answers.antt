use Rattle.std.proofs.Common.{ap, ◌∙◌, ◌++◌}
use Rattle.std.proofs.lemmas.List.{take_all}
use Rattle.sb_profile.specs.declared.following.places.Place.TheVariants as place
use Rattle.sb_profile.specs.Following.{to}
use Rattle.sb_profile.specs.Steps.Read.{made_of, materials_of}
use Rattle.sb_profile.proofs.ListsOfNumbers.{flat_map_next}
use Rattle.sb_profile.proofs.following.leading.lead_materials.Goals as goal

pub products-preserved : goal.products-preserved
products-preserved c =
    let leads = c.in_ok-lead_to.ensures in
    let tables = c.args.tables.now in
    record {
      leads_are =
          flat_map_next (λ p. to place.Material (made_of tables.materials tables.types p.number))
          c.as_slice-product-items.result.now c.products.product-index _
          c.args.found.now.leads.items _ _ c.products-test.true c.products.invariant.leads_are
          (leads.leads_are
          ∙ ap (λ o. c.products.found.leads.items ++ to place.Material o)
          c.made_of-material.ensures);
      unfit_is = leads.unfit_is ∙ c.products.invariant.unfit_is;
      absent_is = leads.absent_is ∙ c.products.invariant.absent_is;
    }

pub returns : goal.returns
returns c =
    let tables = c.args.tables.now in
    record {
      leads_are =
          c.products.invariant.leads_are
          ∙ ap (λ ps. c.args.found.now.leads.items ++ materials_of tables.materials tables.types ps)
          (take_all c.products.product-index c.as_slice-product-items.result.now
          c.products-test.false
          ∙ c.as_slice-product-items.ensures.value);
      unfit_is = c.products.invariant.unfit_is;
      absent_is = c.products.invariant.absent_is;
    }
