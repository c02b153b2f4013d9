use Rattle.std.proofs.Common.{◌++◌, ap, ◌∙◌}
use Rattle.sb_profile.specs.declared.following.places.Place.TheVariants as place
use Rattle.sb_profile.specs.Following.{to_each}
use Rattle.sb_profile.specs.Steps.Read.{shapes_of, materials_of}
use Rattle.sb_profile.proofs.Followed.LeadsFromProducts.{five_in_turn}
use Rattle.sb_profile.proofs.following.leading.lead_first.Goals as goal

pub returns : goal.returns
returns c =
    let tables = c.args.tables.now in
    record {
      leads_are = five_in_turn c.args.found.now.leads.items
          (to_each place.Placement c.args.placements.now) (shapes_of tables.spaces.items)
          (shapes_of tables.elements.items) (shapes_of tables.openings.items)
          (materials_of tables.materials tables.types tables.elements.items)
          c.lead_each.new.found.leads.items c.lead_shapes.new.found.leads.items
          c.lead_shapes-2.new.found.leads.items c.lead_shapes-3.new.found.leads.items
          c.lead_materials.new.found.leads.items
          c.in_ok-lead_each.ensures.leads_are
          (c.in_ok-lead_shapes.ensures.leads_are
          ∙ ap (λ ps. c.lead_each.new.found.leads.items ++ shapes_of ps) c.as_slice.ensures.value)
          (c.in_ok-lead_shapes-2.ensures.leads_are
          ∙ ap (λ ps. c.lead_shapes.new.found.leads.items ++ shapes_of ps)
          c.as_slice-2.ensures.value)
          (c.in_ok-lead_shapes-3.ensures.leads_are
          ∙ ap (λ ps. c.lead_shapes-2.new.found.leads.items ++ shapes_of ps)
          c.as_slice-3.ensures.value)
          c.in_ok-lead_materials.ensures.leads_are;
      unfit_is = c.in_ok-lead_materials.ensures.unfit_is
          ∙ (c.in_ok-lead_shapes-3.ensures.unfit_is
          ∙ (c.in_ok-lead_shapes-2.ensures.unfit_is
          ∙ (c.in_ok-lead_shapes.ensures.unfit_is ∙ c.in_ok-lead_each.ensures.unfit_is)));
      absent_is = c.in_ok-lead_materials.ensures.absent_is
          ∙ (c.in_ok-lead_shapes-3.ensures.absent_is
          ∙ (c.in_ok-lead_shapes-2.ensures.absent_is
          ∙ (c.in_ok-lead_shapes.ensures.absent_is ∙ c.in_ok-lead_each.ensures.absent_is)));
    }
