use Rattle.std.proofs.Common.{◌≡◌, sym, ◌∙◌, ◌++◌, subst, pos, length, eq-eqb, OnOk}
use Rattle.std.proofs.lemmas.Bool.{false≢true}
use Rattle.sb_knots.proofs.IdsOfEdges.{corners_of_points}
use Rattle.sb_knots.proofs.corners.append.Goals as goal

pub returns : goal.returns
returns c =
    subst
    (λ t. OnOk c.append_from.result (c.append_from.new.list.items ≡ c.args.list.now.items ++ t))
    (corners_of_points c.args.points.now
    (record { x = pos 0; y = pos 0 }) c.saturating_sub-last.result
    c.saturating_sub-last.ensures
    (λ none.
    false≢true
    (sym c.if-is_empty.false ∙ c.is_empty.ensures ∙ eq-eqb (length c.args.points.now) 0 none)))
    c.append_from.ensures
