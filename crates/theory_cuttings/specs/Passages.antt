-- Passages: the pieces of a ray from depth 0 on, as an instance of a cutting.
use Rattle.std.specs.Prelude.{◌≡◌, pos, Some, None, List, [], ◌∷◌}
use Rattle.theory_numbers.specs.Arrows.{Arrow}
use Rattle.theory_numbers.specs.Rationals.{rational}
use Rattle.theory_cuttings.specs.Cuttings.{Break, IsReducedCutting}

-- depth 0
abbrev pub ray_start : Arrow
ray_start = rational (pos 0) (pos 1)

-- 0 = t0 < t1 < .. with a label at each: all rational depths strictly between two neighbouring
-- breaks have the label of the first of them, all depths after the last break have its label, and
-- neighbouring labels differ. The breaks are reduced fractions
abbrev pub ArePassages : {L : Type 0} → (Arrow → L) → List (Break L) → Type 0
ArePassages f [] = ⊥
ArePassages f (b ∷ bs) =
    (b.start ≡ ray_start) × IsReducedCutting f (Some ray_start) None b.label bs
