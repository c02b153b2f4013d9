-- What is kept of material instances gives each element its layering.
use Rattle.std.proofs.Common.{◌≡◌, ℕ, nat_eq, Bool, true, false, List, Option, Some, None, option_map, is_some, refl, sym, ap, ◌∙◌, subst}
use Rattle.std.specs.Prelude.{if◌then◌else◌}
use Rattle.std.proofs.lemmas.Bool.{false≢true}
use Rattle.std.proofs.lemmas.Bool.Decides.{Decides-eqb}
use Rattle.std.proofs.lemmas.Option.{same_Some}
use Rattle.sb_fraction.specs.declared.unit.Unit as units
use Rattle.theory_turns.specs.Turns.{Quarter}
use Rattle.sb_step.specs.Indexed.{Indexed}
use Rattle.sb_model.specs.declared.layers.Layering.{Layering}
use Rattle.sb_model.specs.Solids.{Upright}
use Rattle.sb_profile.specs.Contents.{Contents, Says}
use Rattle.sb_building.specs.declared.made.Made.{Made}
use Rattle.sb_building.specs.Layerings.{layering_in, IsMadeOf, IsLayeringOf, AreMade}

-- what is read of the instance gives the layering
pub layering_is : (c : Contents) (u : units.Unit) (keyword : Option (List ℕ)) (prism : Upright) (turn : Quarter)
    (m : Option ℕ) (what : Option Made) (layering : Option Layering) → IsMadeOf c u m what
    → layering ≡ option_map (λ made. layering_in made keyword prism turn) what
    → IsLayeringOf c u keyword prism turn m layering
layering_is c u keyword prism turn m None layering bad is =
    subst (IsLayeringOf c u keyword prism turn m) (sym is) bad
layering_is c u keyword prism turn m (Some what) layering (good, gives) is =
    subst (IsLayeringOf c u keyword prism turn m) (sym is) (good, gives keyword prism turn)

-- one instance more
pub one_made_more : (i : Indexed) (u : units.Unit) (number : ℕ) (what : Option Made)
    (old new : ℕ → Option (Option Made)) → AreMade i u old
    → ((c : Contents) → Says i c → IsMadeOf c u (Some number) what)
    → ((q : ℕ) → new q ≡ (if nat_eq q number then Some what else old q)) → AreMade i u new
one_made_more i u number what old new are made updates c says n found at = by (nat_eq n number) refl
  where
    by : (b : Bool) → nat_eq n number ≡ b → IsMadeOf c u (Some n) found
    by true same =
        let is : Some what ≡ Some found =
        sym (updates n ∙ ap (λ b. if b then Some what else old n) same) ∙ at in
        subst (λ k. IsMadeOf c u (Some k) found) (sym ((Decides-eqb n number).0 same))
        (subst (IsMadeOf c u (Some number)) (same_Some what found is) (made c says))
    by false apart =
        are c says n found
        (sym (updates n ∙ ap (λ b. if b then Some what else old n) apart) ∙ at)

-- which is there then
pub made_there : (number : ℕ) (what : Option Made) (old new : ℕ → Option (Option Made))
    → ((q : ℕ) → new q ≡ (if nat_eq q number then Some what else old q)) → new number ≡ Some what
made_there number what old new updates =
    updates number
    ∙ ap (λ b. if b then Some what else old number) ((Decides-eqb number number).1 refl)

-- what is found is there
pub found_there : (o : Option (Option Made)) → is_some o ≡ true → (what : Option Made) × (o ≡ Some what)
found_there None none = absurd (false≢true none)
found_there (Some what) is = (what, refl)
