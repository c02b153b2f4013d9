-- A ray has one list of passages: they are a reduced cutting from depth 0 on.
use Rattle.std.proofs.Common.{◌≡◌, sym, ◌∙◌, ap₂, Some, None, List, [], ◌∷◌, arith}
use Rattle.std.proofs.lemmas.Int.{ints}
use Rattle.theory_numbers.specs.Arrows.{Arrow}
use Rattle.theory_cuttings.specs.Cuttings.{Break}
use Rattle.theory_cuttings.specs.Passages.{ray_start, ArePassages}
use Rattle.theory_cuttings.proofs.OneCutting.{has_one_cutting, same_break}

-- two lists of passages of one label are equal
pub one_list_of_passages : {L : Type 0} (f : Arrow → L) (ps qs : List (Break L))
    → ArePassages f ps → ArePassages f qs → ps ≡ qs
one_list_of_passages f [] qs passages others = absurd passages
one_list_of_passages f (b ∷ bs) [] passages others = absurd others
one_list_of_passages {L} f (b ∷ bs) (d ∷ ds) passages others =
    let one =
    has_one_cutting L f (Some ray_start) None (omega (arith, ints)) tt b.label d.label bs ds
    passages.1 others.1
    in
    ap₂ (λ x xs. x ∷ xs) (same_break b d (passages.0 ∙ sym others.0) one.0) one.1
