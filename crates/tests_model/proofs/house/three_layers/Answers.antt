use Rattle.std.proofs.Common.{◌≡◌, ◌∙◌, refl}
use Rattle.theory_numbers.specs.Divisors.{greatest_divisor, divisor_within}
use Rattle.tests_model.proofs.house.three_layers.Goals as goal

pub returns : goal.returns
unfolding greatest_divisor divisor_within
returns c =
    rw (
      c.in_ok-push-3.ensures.ok,
      c.in_ok-push-2.ensures.ok,
      c.in_ok-push.ensures.ok,
      c.new-layers.ensures,
      c.layer.ensures.index,
      c.layer.ensures.micro,
      c.layer-2.ensures.index,
      c.layer-2.ensures.micro,
      c.layer-3.ensures.index,
      c.layer-3.ensures.micro,
    )
    refl
