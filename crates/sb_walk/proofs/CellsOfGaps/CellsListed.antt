-- The cells of spaces, one space after another.

use Rattle.std.proofs.Common.{◌≡◌, refl, sym, ap, ◌∙◌, subst, ℕ, List, [], ◌∷◌, ◌++◌, append_assoc, Option, Some, None, length, arith}
use Rattle.std.proofs.lemmas.List.{append-nil}
use Rattle.theory_lists.specs.Members.{Stands}
use Rattle.std.proofs.Common.{inl, inr}
use Rattle.sb_model.specs.declared.boundary.Cell.{Cell}
use Rattle.sb_model.specs.declared.products.Space.{Space}
use Rattle.sb_model.specs.Building.{Building}
use Rattle.sb_model.specs.Surfaces.Faces.{space_numbered}
use Rattle.sb_walk.specs.CellsOfGaps.{AreForOne, AreForEach}
use Rattle.sb_walk.specs.declared.way.Way.{Way}
use Rattle.sb_walk.specs.declared.way.Way.TheVariants as way

module _ (m : Building) (P : Space → Way → Cell → Type 0) where
  -- two more cells, of the next number
  pub two_more : (present rest : List ℕ) (n : ℕ) (others : List ℕ) → rest ≡ n ∷ others → (s : Space)
      → space_numbered m n ≡ Some s → (b t : Cell) → P s way.Down b → P s way.Up t
      → (list first last : List Cell) → first ≡ list ++ b ∷ [] → last ≡ first ++ t ∷ []
      → ((cells : List Cell) → AreForEach m P rest cells → AreForEach m P present (list ++ cells))
      → (cells : List Cell) → AreForEach m P others cells → AreForEach m P present (last ++ cells)
  two_more present rest n others rest_is s found b t b_is t_is list first last first_is last_is before cells
      behind =
      subst (AreForEach m P present) (sym whole)
      (before (b ∷ t ∷ cells)
      (subst (λ ns. AreForEach m P ns (b ∷ t ∷ cells)) (sym rest_is)
      (subst (λ o. AreForOne P (AreForEach m P others) o (b ∷ t ∷ cells)) (sym found)
      (b_is, (t_is, behind)))))
    where
      whole : last ++ cells ≡ list ++ (b ∷ t ∷ cells)
      whole =
          ap (λ xs. xs ++ cells) (last_is ∙ ap (λ xs. xs ++ t ∷ []) first_is)
          ∙ append_assoc (list ++ b ∷ []) (t ∷ []) cells
          ∙ append_assoc list (b ∷ []) (t ∷ cells)

  -- at the end there are no more
  pub no_more : (present rest : List ℕ) → length rest ≡ 0 → (list : List Cell)
      → ((cells : List Cell) → AreForEach m P rest cells → AreForEach m P present (list ++ cells))
      → AreForEach m P present list
  no_more present [] none list before = subst (AreForEach m P present) (append-nil list) (before [] tt)
  no_more present (n ∷ rest) none list before = absurd (omega (arith, none))

-- what follows for the cell of each of these spaces
pub each_follows : (m : Building) (P Q : Space → Way → Cell → Type 0) (present : List ℕ)
    → ((n : ℕ) → Stands n present → (s : Space) → space_numbered m n ≡ Some s → (w : Way) (c : Cell)
    → P s w c → Q s w c)
    → (cells : List Cell) → AreForEach m P present cells → AreForEach m Q present cells
each_follows m P Q [] step [] all = tt
each_follows m P Q [] step (c ∷ cells) all = all
each_follows m P Q (n ∷ ns) step cells all =
    from (space_numbered m n) refl cells (each_follows m P Q ns (λ k k_in. step k (inr k_in))) all
  where
    from : (o : Option Space) → space_numbered m n ≡ o → (cells : List Cell)
        → ((rest : List Cell) → AreForEach m P ns rest → AreForEach m Q ns rest)
        → AreForOne P (AreForEach m P ns) o cells → AreForOne Q (AreForEach m Q ns) o cells
    from None found cells rest all = rest cells all
    from (Some s) found [] rest all = all
    from (Some s) found (b ∷ []) rest all = all
    from (Some s) found (b ∷ t ∷ cells) rest all = (
      step n (inl refl) s found way.Down b all.0,
      (step n (inl refl) s found way.Up t all.1.0, rest cells all.1.1),
    )
