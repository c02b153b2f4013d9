use Rattle.std.proofs.Common.{◌≡◌, List, [], ◌∷◌, None, drop, refl, sym, ap, ◌∙◌}
use Rattle.std.proofs.lemmas.Bool.{false≢true}
use Rattle.sb_step.specs.declared.parameters.param.Param.{Param}
use Rattle.sb_step.specs.Cursors.Forms.{number_in}
use Rattle.sb_schema.specs.Forms.{each, only_if, are_two}
use Rattle.sb_schema.proofs.ItemsGiveLists.{more_than_two}
use Rattle.sb_schema.proofs.lent.two_numbers.Goals as goal

-- where parameters are left behind two, the list is not of two numbers
some_left : (ps : List Param) → (drop 1 (drop 1 ps) ≡ [] → ⊥)
    → None ≡ only_if are_two (each number_in ps)
some_left [] some = refl
some_left (p ∷ []) some = absurd (some refl)
some_left (p ∷ q ∷ []) some = absurd (some refl)
some_left (p ∷ q ∷ r ∷ ps) some = sym (more_than_two number_in p q r ps)

pub returns-else-is_done : goal.returns-else-is_done
returns-else-is_done c = some_left c.args.first_items (λ none. false≢true
    (sym c.if-is_done.false ∙ c.is_done.ensures.1
    (c.number-2.ensures.left ∙ ap (drop 1) c.number.ensures.left ∙ none)))
