-- What is found by its number is there, and what is there is found.

use Rattle.std.proofs.Common.{◌≡◌, refl, sym, ap, ◌∙◌, ℕ, Bool, true, false, ◌==◌, List, [], ◌∷◌, Option, Some, None, Bor}
use Rattle.std.proofs.Common.{is_some, if◌then◌else◌, ◌||◌}
use Rattle.std.specs.Option.{option_copied}
use Rattle.std.specs.List.{find, list_any}
use Rattle.sb_model.specs.declared.products.Opening.{Opening}
use Rattle.sb_model.specs.Building.{Building, is_opening, opening_numbered}

found_or : {X : Type 0} (b : Bool) (x : X) (rest : Option X) (any : Bool) → is_some rest ≡ any
    → is_some (if b then Some x else rest) ≡ (b || any)
found_or true x rest any same = refl
found_or false x rest any same = same

found_if_there : {X : Type 0} (p : X → Bool) (xs : List X) → is_some (find p xs) ≡ list_any p xs
found_if_there p [] = refl
found_if_there p (x ∷ xs) = found_or (p x) x (find p xs) (list_any p xs) (found_if_there p xs)

lent : {X : Type 0} (r : Option (Bor X)) → is_some (option_copied r) ≡ is_some r
lent None = refl
lent (Some r) = refl

pub opening_found : (m : Building) (n : ℕ) (r : Option (Bor Opening))
    → option_copied r ≡ opening_numbered m n → is_some r ≡ is_opening m n
opening_found m n r found =
    sym (lent r) ∙ ap is_some found ∙ found_if_there (λ o. o.number == n) m.openings
