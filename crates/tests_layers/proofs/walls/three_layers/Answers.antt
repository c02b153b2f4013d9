use Rattle.std.proofs.Common.{◌≡◌, sym, subst, IsTrue, pos}
use Rattle.std.proofs.lemmas.Result.{IfOk-weaker}
use Rattle.sb_model.specs.declared.layers.Layering.TheVariants.{Layered}
use Rattle.sb_model.specs.Building.{is_layering}
use Rattle.tests_layers.proofs.ThreeLayers.{three_stand_right}
use Rattle.tests_layers.proofs.walls.three_layers.Goals as goal

pub returns : goal.returns
returns c =
    IfOk-weaker c.listed.result _ _ (λ layers same.
    subst (λ l. IsTrue (is_layering (Layered l (record { x = pos 1; y = pos 0; z = pos 0 })))) (sym same)
    (three_stand_right c.layer.result c.layer-2.result c.layer-3.result c.layer.ensures.index_is
    c.layer-2.ensures.index_is c.layer-3.ensures.index_is c.layer.ensures.micro_is c.layer-2.ensures.micro_is
    c.layer-3.ensures.micro_is)) c.listed.ensures
