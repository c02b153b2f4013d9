use Rattle.std.proofs.Common.{◌≡◌, ◌↔◌, false, ◌++◌, ap, sym, subst, ◌∙◌}
use Rattle.std.specs.Prelude.{filter}
use Rattle.std.specs.List.{flat_map}
use Rattle.theory_lists.specs.Members.{Stands}
use Rattle.sb_profile.specs.declared.following.places.Place.TheVariants as place
use Rattle.sb_profile.specs.Contents.{is_absent}
use Rattle.sb_profile.specs.Steps.Chains.{IsWithin, last_level}
use Rattle.sb_profile.specs.Steps.Found.{leads_with, is_unfit_at}
use Rattle.sb_profile.specs.Steps.Links.{lowered}
use Rattle.sb_profile.specs.Steps.Read.{AreFirstLeads, first_of}
use Rattle.sb_profile.proofs.Followed.LeadsFromProducts.{led_by, begin_there, placements_among}
use Rattle.sb_profile.proofs.following.leading.first_leads.Goals as goal

pub returns-clause-leads : goal.returns-clause-leads
returns-clause-leads c = λ said says are building nothing.
    let tables = c.args.tables.now in
    let placements = c.as_slice-2.result.now in
    let begin =
    begin_there said tables are c.args.building building c.in_ok-starts.starts.items
    c.in_ok-first.first.placements.items c.in_ok-starts.ensures
    (λ n. subst (λ ns. Stands n c.in_ok-first.first.placements.items ↔ Stands n ns)
    c.as_slice.ensures.value (c.in_ok-first.ensures.reached n)) in
    let chained = c.in_ok-placements.ensures.placements said says building begin in
    subst (AreFirstLeads said)
    (sym (c.in_ok-lead_first.ensures.leads_are
    ∙ ap (λ ls. ls ++ first_of placements tables) nothing))
    (led_by said tables are placements
    (λ n. subst (λ ns. Stands n ns ↔ IsWithin said last_level n) (sym c.as_slice-2.ensures.value) (chained n)))

pub returns-clause-placed : goal.returns-clause-placed
returns-clause-placed c = λ said says nothing.
    let tables = c.args.tables.now in
    let placements = c.in_ok-placements.placements.items in
    let found = c.in_ok-placements.ensures.found said says in
    let leads : c.lead_first.new.found.leads.items ≡ first_of placements tables =
    c.in_ok-lead_first.ensures.leads_are
    ∙ (ap (λ ls. ls ++ first_of c.as_slice-2.result.now tables) nothing
    ∙ ap (λ ns. first_of ns tables) c.as_slice-2.ensures.value) in record {
      placements = placements;
      are = λ n. subst (λ ls. Stands n placements ↔ Stands (place.Placement, n) ls) (sym leads)
          (placements_among placements tables.spaces.items tables.elements.items
          tables.openings.items tables.materials tables.types tables.elements.items n);
      leads_are = found.leads_are
          ∙ ap (λ ls. ls ++ flat_map (leads_with (λ _. false) said place.Placement) placements)
          c.new.ensures.items;
      unfit_is = found.unfit_is
          ∙ ap (λ o. lowered o (filter (is_unfit_at said place.Placement) placements))
          (sym c.in_ok-lead_first.ensures.unfit_is);
      absent_is = found.absent_is
          ∙ ap (λ o. lowered o (filter (is_absent said) placements))
          (sym c.in_ok-lead_first.ensures.absent_is);
    }
