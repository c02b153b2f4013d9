use Rattle.std.proofs.Common.{◌≡◌, sym, ap, ◌∙◌, subst, slice_get, Some, remove, IsTrue}
use Rattle.std.specs.List.{concat, list_all}
use Rattle.std.proofs.lemmas.Option.{slice_get_within}
use Rattle.sb_fraction.specs.Edges.{Edge}
use Rattle.theory_plans.specs.Plans.{is_same_point}
use Rattle.sb_blocks.specs.Places.{rank_of}
use Rattle.sb_knots.specs.Steps.{is_edge, ends_at}
use Rattle.sb_knots.proofs.EditsOfIds.{all_removed}
use Rattle.sb_knots.proofs.IdsOfEdges.{id_passes}
use Rattle.sb_knots.proofs.standing.close_one.Goals as goal

pub edge-requires : goal.edge-requires
edge-requires c =
    id_passes (is_edge c.args.corners.now) (concat c.args.standing.now)
    (rank_of c.args.standing.now c.in-Some.place) c.in-Some-at.id c.requires.ids
    (sym c.in-Some-at.ensures)

pub returns-then-is_same_point-clause-taken : goal.returns-then-is_same_point-clause-taken
returns-then-is_same_point-clause-taken c n within parted answer =
    let at : rank_of c.args.standing.now c.in-Some.place ≡ n =
    c.in-Some.ensures.same ∙ c.place_over-place.ensures.parted n within parted in
    let found : slice_get (concat c.args.standing.now) n ≡ Some c.in-Some-at.id =
    ap (slice_get (concat c.args.standing.now)) (sym at) ∙ sym c.in-Some-at.ensures in
    record {
      within = slice_get_within (concat c.args.standing.now) n c.in-Some-at.id found;
      ends = λ id there.
          let same : c.in-Some-at.id ≡ id = cc in
          ap (ends_at c.args.corners.now c.args.v) (sym same)
          ∙ ap (λ (e : Edge). is_same_point e.b c.args.v)
          (sym (c.edge-in-Some-at.view_is ∙ c.edge.ensures))
          ∙ sym c.if-is_same_point.ensures;
      rest = c.remove.ensures.rest ∙ ap (remove (concat c.args.standing.now)) at;
    }

pub returns-then-is_same_point-clause-ids : goal.returns-then-is_same_point-clause-ids
returns-then-is_same_point-clause-ids c =
    subst (λ t. IsTrue (list_all (is_edge c.args.corners.now) t)) (sym c.remove.ensures.rest)
    (all_removed (is_edge c.args.corners.now) (concat c.args.standing.now)
    (rank_of c.args.standing.now c.in-Some.place) c.requires.ids)
