-- The space that is found under a number is one of the model, and has this number.

use Rattle.std.proofs.Common.{◌≡◌, inl, inr, refl, sym, subst, ℕ, Bool, true, false, ◌==◌, List, [], ◌∷◌}
use Rattle.std.proofs.Common.{Some, if◌then◌else◌}
use Rattle.std.specs.List.{find}
use Rattle.std.proofs.lemmas.Bool.{eqb-true}
use Rattle.std.proofs.lemmas.Option.{same_Some, none-some}
use Rattle.theory_lists.specs.Members.{Stands}
use Rattle.sb_model.specs.declared.products.Space.{Space}
use Rattle.sb_model.specs.Building.{Building}
use Rattle.sb_model.specs.Surfaces.Faces.{space_numbered}

-- what is found stands in the list and passes the test
found_in : {X : Type 0} (test : X → Bool) (xs : List X) (x : X) → find test xs ≡ Some x
    → Stands x xs × (test x ≡ true)
found_in test [] x found = absurd (none-some x found)
found_in {X} test (y ∷ ys) x found = from (test y) refl (found_in test ys x) found
  where
    from : (b : Bool) → test y ≡ b → (find test ys ≡ Some x → Stands x ys × (test x ≡ true))
        → (if b then Some y else find test ys) ≡ Some x → Stands x (y ∷ ys) × (test x ≡ true)
    from true passes rest found =
        (inl (sym (same_Some y x found)), subst (λ z. test z ≡ true) (same_Some y x found) passes)
    from false fails rest found = let there = rest found in (inr there.0, there.1)

pub found_stands : (m : Building) (n : ℕ) (s : Space) → space_numbered m n ≡ Some s → Stands s m.spaces
found_stands m n s found = (found_in (λ t. t.number == n) m.spaces s found).0

pub found_number : (m : Building) (n : ℕ) (s : Space) → space_numbered m n ≡ Some s → s.number ≡ n
found_number m n s found =
    eqb-true s.number n (found_in (λ t. t.number == n) m.spaces s found).1
