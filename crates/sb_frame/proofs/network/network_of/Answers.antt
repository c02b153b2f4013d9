-- The plan edges with the crossings that were found.
use Rattle.std.proofs.Common.{◌∙◌, sym, ap, subst, List, IsTrue}
use Rattle.std.specs.List.{list_all}
use Rattle.sb_fraction.specs.declared.point.HPoint.{HPoint}
use Rattle.sb_fraction.specs.Bounds.{is_crossing_size}
use Rattle.sb_frame.specs.Network.{spots_of}
use Rattle.sb_frame.specs.Found.{HasFound}
use Rattle.sb_frame.proofs.Meetings.NetworkFound.{points_of, sizes_fit, places_kept, network_kept}
use Rattle.sb_frame.proofs.Meetings.NetworkFound.{few_kept, more_kept}
use Rattle.sb_frame.proofs.network.network_of.Goals as goal

pub invariant_of-result-in-Within : goal.invariant_of-result-in-Within
invariant_of-result-in-Within c =
    subst (λ (ps : List HPoint). IsTrue (list_all is_crossing_size (spots_of ps)))
    (sym (c.in_ok-crossings-in-Within.ensures ∙ ap points_of c.as_slice-in-Within.ensures.value))
    (sizes_fit c.in-Within.list.items)

pub invariant_of-result : goal.invariant_of-result
invariant_of-result c = (
  places_kept c.in_ok-edges.edges.items c.as_slice-in-Within-2.result.now c.in-Within.list.items
      c.as_slice-in-Within-3.result.now c.in_ok-crossings-in-Within.crossings
      c.in_ok-through-in-Within.through c.as_slice-in-Within-2.ensures.value
      c.as_slice-in-Within-3.ensures.value
      (c.in_ok-crossings-in-Within.ensures ∙ ap points_of c.as_slice-in-Within.ensures.value)
      c.in_ok-through-in-Within.ensures,
  tt,
)

pub returns-in_ok-through-in-Within-clause-some :
    goal.returns-in_ok-through-in-Within-clause-some
returns-in_ok-through-in-Within-clause-some c =
    network_kept c.args.model.now c.in_ok-edges.edges.items c.as_slice.result.now
    c.in-Within.list.items c.in_ok-crossings-in-Within.crossings c.in_ok-edges.ensures
    c.as_slice.ensures.value
    (subst (HasFound c.as_slice.result.now) c.in-Within.is c.in_ok-list.ensures)
    (c.in_ok-crossings-in-Within.ensures ∙ ap points_of c.as_slice-in-Within.ensures.value)

pub returns-in_ok-through-in-Within-clause-few :
    goal.returns-in_ok-through-in-Within-clause-few
returns-in_ok-through-in-Within-clause-few c =
    few_kept c.as_slice.result.now c.in-Within.list.items c.in_ok-crossings-in-Within.crossings
    (subst (HasFound c.as_slice.result.now) c.in-Within.is c.in_ok-list.ensures)
    (c.in_ok-crossings-in-Within.ensures ∙ ap points_of c.as_slice-in-Within.ensures.value)

pub returns-in-Beyond-clause-none : goal.returns-in-Beyond-clause-none
returns-in-Beyond-clause-none c =
    more_kept c.args.model.now c.in_ok-edges.edges.items c.as_slice.result.now c.in_ok-edges.ensures
    c.as_slice.ensures.value
    (subst (HasFound c.as_slice.result.now) c.in-Beyond.is c.in_ok-list.ensures)
