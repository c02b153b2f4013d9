-- What is found by its number is there, and what is there is found.

use Rattle.std.proofs.Common.{◌≡◌, refl, sym, ap, ◌∙◌, ℕ, Bool, true, false, ◌==◌, List, [], ◌∷◌, Option, Some, None, Bor}
use Rattle.std.proofs.Common.{is_some, if◌then◌else◌, ◌||◌}
use Rattle.std.specs.Option.{option_copied}
use Rattle.std.specs.List.{find, list_any}
use Rattle.sb_model.specs.declared.products.Element.{Element}
use Rattle.sb_model.specs.declared.products.Filling.{Filling}
use Rattle.sb_model.specs.declared.products.Opening.{Opening}
use Rattle.sb_model.specs.Building.{Building, is_opening, opening_numbered, is_element, element_numbered}
use Rattle.sb_model.specs.declared.products.Space.{Space}
use Rattle.sb_model.specs.Building.{is_filling, filling_numbered, is_space}
use Rattle.sb_model.specs.Surfaces.Faces.{space_numbered}

found_or : {X : Type 0} (b : Bool) (x : X) (rest : Option X) (any : Bool) → is_some rest ≡ any
    → is_some (if b then Some x else rest) ≡ (b || any)
found_or true x rest any same = refl
found_or false x rest any same = same

found_if_there : {X : Type 0} (p : X → Bool) (xs : List X) → is_some (find p xs) ≡ list_any p xs
found_if_there p [] = refl
found_if_there p (x ∷ xs) = found_or (p x) x (find p xs) (list_any p xs) (found_if_there p xs)

lent : {X : Type 0} (r : Option (Bor X)) → is_some (option_copied r) ≡ is_some r
lent None = refl
lent (Some r) = refl

pub element_found : (m : Building) (n : ℕ) (r : Option (Bor Element))
    → option_copied r ≡ element_numbered m n → is_some r ≡ is_element m n
element_found m n r found =
    sym (lent r) ∙ ap is_some found ∙ found_if_there (λ (e : Element). e.number == n) m.elements

pub opening_found : (m : Building) (n : ℕ) (r : Option (Bor Opening))
    → option_copied r ≡ opening_numbered m n → is_some r ≡ is_opening m n
opening_found m n r found =
    sym (lent r) ∙ ap is_some found ∙ found_if_there (λ (o : Opening). o.number == n) m.openings

pub filling_found : (m : Building) (n : ℕ) (r : Option (Bor Filling))
    → option_copied r ≡ filling_numbered m n → is_some r ≡ is_filling m n
filling_found m n r found =
    sym (lent r) ∙ ap is_some found ∙ found_if_there (λ (f : Filling). f.number == n) m.fillings

pub space_found : (m : Building) (n : ℕ) (r : Option (Bor Space))
    → option_copied r ≡ space_numbered m n → is_some r ≡ is_space m n
space_found m n r found =
    sym (lent r) ∙ ap is_some found ∙ found_if_there (λ (s : Space). s.number == n) m.spaces
