use Rattle.std.proofs.Common.{◌++◌, ◌∷◌, [], take, sym, ap, ◌∙◌}
use Rattle.std.proofs.lemmas.List.{take_more, take_all}
use Rattle.sb_building.proofs.made.copied.Goals as goal

pub layers-preserved : goal.layers-preserved
layers-preserved c =
    c.in_ok-push.ensures.ok
    ∙ ap (λ xs. xs ++ c.in_ok-same.same ∷ []) c.layers.invariant
    ∙ ap (λ x. take c.layers.layer-index c.args.layers.now ++ x ∷ []) (c.in_ok-same.ensures ∙ c.layer-item.is)
    ∙ sym (take_more c.args.layers.now c.layers.layer-index c.layer-item.result c.layers-test.true)

pub returns : goal.returns
returns c = c.layers.invariant ∙ take_all c.layers.layer-index c.args.layers.now c.layers-test.false
