-- The inside of a text is what stands between its first byte and its last, also of a slice.
use Rattle.std.proofs.Common.{◌≡◌, ℕ, ◌+◌, ◌-◌, ◌≤◌, List, [], ◌∷◌, ◌++◌, length, take, drop, sym, ap, ◌∙◌, append_assoc, length-append, length-take-le, length-drop, drop-drop, arith}
use Rattle.std.specs.Prelude.{slice_range}
use Rattle.std.proofs.Math.Seq.{take-append_seam}
use Rattle.std.proofs.lemmas.List.Folds.{drop_split}
use Rattle.theory_bytes.specs.Insides.{inside_of}

-- what stands at a span is as long as the span
pub slice_length : (input : List ℕ) (from to : ℕ) → from ≤ to → to ≤ length input
    → length (slice_range input from to) ≡ to - from
slice_length input from to ordered within =
    length-take-le (to - from) (drop from input) (omega (arith, length-drop from input))

-- the inside between two bytes
pub inside-between : (a b : ℕ) (s : List ℕ) → inside_of (a ∷ (s ++ b ∷ [])) ≡ s
inside-between a b s =
    let size : length (a ∷ (s ++ b ∷ [])) - 1 - 1 ≡ length s =
    omega (arith, length-append s (b ∷ [])) in
    ap (λ n. take n (s ++ b ∷ [])) size ∙ take-append_seam s (b ∷ [])

-- where a slice is an inside between two bytes, this is the slice one byte shorter at each end
pub slice_inside : (input : List ℕ) (start end : ℕ) (a b : ℕ) (mid : List ℕ) → start ≤ end
    → end ≤ length input → slice_range input start end ≡ a ∷ (mid ++ b ∷ [])
    → slice_range input (start + 1) (end - 1) ≡ mid
slice_inside input start end a b mid ordered within is =
    let rest = drop end input in
    let behind : drop (start + 1) input ≡ mid ++ (b ∷ rest) =
    ap (λ k. drop k input) (omega arith) ∙ sym (drop-drop 1 start input)
    ∙ ap (drop 1) (drop_split input start end ordered ∙ ap (λ l. l ++ rest) is)
    ∙ append_assoc mid (b ∷ []) rest in
    let long : end - 1 - (start + 1) ≡ length mid =
    omega (
      arith,
      slice_length input start end ordered within,
      ap length is,
      length-append mid (b ∷ []),
    ) in
    ap (λ k. take k (drop (start + 1) input)) long ∙ ap (take (length mid)) behind
    ∙ take-append_seam mid (b ∷ rest)
