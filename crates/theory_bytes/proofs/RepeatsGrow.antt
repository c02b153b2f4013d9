-- A repeated string with one piece more, at its end or its front, is a repeated string.
use Rattle.std.proofs.Common.{ℕ, List, [], ◌∷◌, ◌++◌, sym, refl, ap, ◌∙◌, append-nil}
use Rattle.std.specs.List.{concat}
use Rattle.std.proofs.lemmas.List.Folds.{concat-append}
use Rattle.theory_lists.proofs.Blocks.{all-append}
use Rattle.theory_bytes.specs.Sets.{Repeated}

-- a string with one piece more at its end
pub repeated_push : (P : List ℕ → Type 0) (xs more : List ℕ) → Repeated P xs → P more
    → Repeated P (xs ++ more)
repeated_push P xs more r is = record {
  pieces = r.pieces ++ more ∷ [];
  each = all-append P r.pieces (more ∷ []) r.each (is, tt);
  joined =
      ap (λ l. l ++ more) r.joined ∙ ap (λ l. concat r.pieces ++ l) (sym (append-nil more))
      ∙ sym (concat-append r.pieces (more ∷ []));
}

-- and one more at the front
pub repeated_cons : (P : List ℕ → Type 0) (more xs : List ℕ) → P more → Repeated P xs
    → Repeated P (more ++ xs)
repeated_cons P more xs is r = record {
  pieces = more ∷ r.pieces;
  each = (is, r.each);
  joined = ap (λ l. more ++ l) r.joined;
}

-- no piece at all
pub repeated_nothing : (P : List ℕ → Type 0) → Repeated P []
repeated_nothing P = record { pieces = []; each = tt; joined = refl }
