-- Three layers with rising indices, each of its thickness.
use Rattle.std.proofs.Common.{◌≡◌, IsTrue, List, [], ◌∷◌, pos, refl, sym, subst}
use Rattle.std.proofs.lemmas.Result.{IfOk-weaker}
use Rattle.theory_numbers.specs.Divisors.{greatest_divisor, divisor_within}
use Rattle.sb_model.specs.declared.layers.Axis.{Axis}
use Rattle.sb_model.specs.declared.layers.Layer.{Layer}
use Rattle.sb_model.specs.declared.layers.Layering.TheVariants.{Layered}
use Rattle.sb_model.specs.Building.{is_layering}
use Rattle.tests_idf_out.proofs.models.of_materials.Goals as goal

abbrev east : Axis
east = record { x = pos 1; y = pos 0; z = pos 0 }

layered : (a b c : Layer) → a.index ≡ 1 → b.index ≡ 2 → c.index ≡ 3 → a.micro ≡ 12500
    → b.micro ≡ 75000 → c.micro ≡ 12500 → IsTrue (is_layering (Layered (a ∷ b ∷ c ∷ []) east))
unfolding greatest_divisor divisor_within
layered a b c i j k p q r = rw (i, j, k, p, q, r) refl

pub returns : goal.returns
returns c =
    IfOk-weaker c.listed.result _ _ (λ layers is.
    subst (λ l. IsTrue (is_layering (Layered l east))) (sym is)
    (layered c.layer.result c.layer-2.result c.layer-3.result c.layer.ensures.index_is c.layer-2.ensures.index_is c.layer-3.ensures.index_is
    c.layer.ensures.micro_is c.layer-2.ensures.micro_is c.layer-3.ensures.micro_is)) c.listed.ensures
