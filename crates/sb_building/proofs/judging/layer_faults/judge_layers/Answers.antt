use Rattle.std.proofs.Common.{take, [], ◌∷◌, ◌++◌, sym, ap, ◌∙◌, subst}
use Rattle.std.proofs.lemmas.List.{take_more, take_all}
use Rattle.sb_profile.specs.Steps.Read.{made_of}
use Rattle.sb_building.specs.Steps.Layers.{LayersAreJudged}
use Rattle.sb_building.proofs.Products.BadLayersOneByOne.{layers_judged_none, layers_judged_more}
use Rattle.sb_building.proofs.judging.layer_faults.judge_layers.Goals as goal

pub elements-init : goal.elements-init
elements-init c = (
  c.requires,
  layers_judged_none c.args.file.now c.args.unit (made_of c.args.materials.now c.args.types.now)
      c.args.found.now,
)

pub judge-requires : goal.judge-requires
judge-requires c = c.elements.invariant.0

pub elements-preserved : goal.elements-preserved
elements-preserved c = (
  c.in_ok-judge.ensures.known,
  subst (λ ss. LayersAreJudged c.args.file.now c.args.unit (made_of c.args.materials.now c.args.types.now) ss
      c.args.found.now c.judge.new.found)
      (sym (take_more c.args.elements.now c.elements.element-index c.element-item.result c.elements-test.true
      ∙ ap (λ s. take c.elements.element-index c.args.elements.now ++ s ∷ []) (sym c.element-item.is)))
      (layers_judged_more c.args.file.now c.args.unit (made_of c.args.materials.now c.args.types.now)
      (take c.elements.element-index c.args.elements.now) c.element-item.result c.instance_of-instance.result c.args.found.now
      c.elements.found c.judge.new.found c.elements.invariant.1 c.instance_of-instance.ensures
      c.in_ok-judge.ensures.judged),
)

pub returns-clause-judged : goal.returns-clause-judged
returns-clause-judged c =
    subst (λ ss. LayersAreJudged c.args.file.now c.args.unit (made_of c.args.materials.now c.args.types.now) ss
    c.args.found.now c.elements.found)
    (take_all c.elements.element-index c.args.elements.now c.elements-test.false) c.elements.invariant.1

pub returns-clause-known : goal.returns-clause-known
returns-clause-known c = c.elements.invariant.0
