use Rattle.std.proofs.Common.{◌∙◌, ap, subst, map, Some, ◌∷◌, []}
use Rattle.std.proofs.lemmas.List.{map-append}
use Rattle.std.specs.List.{list_all}
use Rattle.sb_solid.specs.declared.spot.Spot.{Spot}
use Rattle.sb_solid.specs.Steps.{vector_at}
use Rattle.sb_solid.specs.Turned.{turned_point, spot_vector, is_turned, IsTurnedLoop}
use Rattle.sb_solid.proofs.ListsGrow.{mapped_more, all_more}
use Rattle.sb_solid.proofs.turning.turned_loops.Goals as goal

pub loops-preserved : goal.loops-preserved
loops-preserved c =
    let loops = c.args.loops.now in
    let turned = subst (λ l. IsTurnedLoop c.args.turn c.args.frame.now l (Some c.in-Some.next)) c.as_slice.ensures
    (subst (IsTurnedLoop c.args.turn c.args.frame.now c.as_slice.result.now) c.in-Some.is c.in_ok-next.ensures) in (
      ap (map (map vector_at)) c.in_ok-push.ensures.ok
          ∙ map-append (map vector_at) c.loops.all (c.in-Some.next ∷ [])
          ∙ mapped_more (map (λ (s : Spot). turned_point c.args.turn c.args.frame.now (spot_vector s))) loops c.loops.points-index
          c.points-item.result (map (map vector_at) c.loops.all) (map vector_at c.in-Some.next) c.loops-test.true
          c.points-item.is c.loops.invariant.0 turned.1,
      all_more (list_all (λ (s : Spot). is_turned c.args.turn c.args.frame.now (spot_vector s))) loops c.loops.points-index
          c.points-item.result c.loops-test.true c.points-item.is c.loops.invariant.1 turned.0,
    )
