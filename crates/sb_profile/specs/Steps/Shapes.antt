-- Products with shapes, as they are listed.
use Rattle.std.specs.Prelude.{ℕ, Option, option_map, option_and_then}
use Rattle.sb_profile.specs.declared.reading.products.Shaped.{Shaped}
use Rattle.sb_profile.specs.Entities.Entity.{space, product}
use Rattle.sb_profile.specs.Contents.{Contents}

abbrev pub shaped : ℕ → Option ℕ → ℕ → Shaped
shaped n placement shape = record { number = n; placement = placement; shape = shape }

-- a space, if it has a shape
abbrev pub shaped_space : Contents → ℕ → Option Shaped
shaped_space c n =
    option_and_then (λ v. option_map (shaped n v.1.0) v.1.1.0) (c.given space n)

-- a wall, slab, roof, column, beam, covering or opening, if it has a shape
abbrev pub shaped_product : Contents → ℕ → Option Shaped
shaped_product c n = option_and_then (λ v. option_map (shaped n v.0) v.1.0) (c.given product n)
