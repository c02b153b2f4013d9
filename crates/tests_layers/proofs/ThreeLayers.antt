-- Three layers with rising numbers, none too thin or too thick, along x.

use Rattle.std.proofs.Common.{◌≡◌, refl, ℕ, true, ◌∷◌, [], pos, IsTrue}
use Rattle.theory_numbers.specs.Divisors.{greatest_divisor, divisor_within}
use Rattle.sb_model.specs.declared.layers.Layer.{Layer}
use Rattle.sb_model.specs.declared.layers.Layering.TheVariants.{Layered}
use Rattle.sb_model.specs.Building.{is_layering}

pub three_stand_right : (a b c : Layer) → a.index ≡ 1 → b.index ≡ 2 → c.index ≡ 3 → a.micro ≡ 12500
    → b.micro ≡ 75000 → c.micro ≡ 12500
    → IsTrue (is_layering (Layered (a ∷ b ∷ c ∷ []) (record { x = pos 1; y = pos 0; z = pos 0 })))
unfolding greatest_divisor divisor_within
three_stand_right a b c one two three thin thick last = rw (one, two, three, thin, thick, last) refl
