-- A string is written with doubled apostrophes in one way, and read back from it.
use Rattle.sb_step.proofs.Names.{◌≡◌, ℕ, suc, ◌+◌, ◌<◌, Bool, true, false, cond, List, [], ◌∷◌, ◌++◌, length, drop, drop-drop, drop-cons, get_or, if◌then◌else◌, refl, sym, ap, ◌∙◌, subst, inl, inr, append_assoc, append-nil, drop-append_seam, AllByRecursion, concat, ◌==◌, not, IsTrue, apostrophe, Repeated, StringPiece, written, doubled}

-- joined texts are doubled one by one
pub doubled-append : (s t : List ℕ) → doubled (s ++ t) ≡ doubled s ++ doubled t
doubled-append [] t = refl
doubled-append (b ∷ s) t =
    ap (λ l. written b ++ l) (doubled-append s t)
    ∙ sym (append_assoc (written b) (doubled s) (doubled t))

-- the bytes before this place are those of the text so far, and a text is written behind it
pub record HalfRead (bytes single : List ℕ) (at : ℕ) : Type 0 where
  pub so_far : bytes ≡ doubled single ++ drop at bytes
  pub later : List ℕ
  pub behind : drop at bytes ≡ doubled later

-- what is written of a byte begins with it
abbrev behind_written : ℕ → List ℕ → List ℕ
behind_written b rest = if b == apostrophe then b ∷ rest else rest

written_begins : (b : ℕ) (rest : List ℕ) → written b ++ rest ≡ b ∷ behind_written b rest
written_begins b rest = by_case (b == apostrophe)
  where
    by_case : (twice : Bool) → cond twice (b ∷ b ∷ []) (b ∷ []) ++ rest
        ≡ b ∷ cond twice (b ∷ rest) rest
    by_case true = refl
    by_case false = refl

written_head : (b : ℕ) (rest : List ℕ) (c : ℕ) (more : List ℕ) → c ∷ more ≡ written b ++ rest
    → c ≡ b
written_head b rest c more same =
    let begins : c ∷ more ≡ b ∷ behind_written b rest = same ∙ written_begins b rest in cc

module _ (bytes single : List ℕ) (at : ℕ) (h : HalfRead bytes single at)
    (within : at < length bytes) where
  -- the byte at the place
  abbrev pub byte : ℕ
  byte = get_or bytes at 0

  ahead : drop at bytes ≡ byte ∷ drop (suc at) bytes
  ahead = drop-cons bytes at 0 within

  one_by : (later : List ℕ) → drop at bytes ≡ doubled later
      → HalfRead bytes (single ++ byte ∷ []) (at + length (written byte))
  one_by [] same =
      let some : byte ∷ drop (suc at) bytes ≡ [] = sym ahead ∙ same in
      absurd (cc)
  one_by (c ∷ later) same =
      let first : byte ≡ c = written_head c (doubled later) byte (drop (suc at) bytes)
      (sym ahead ∙ same) in
      let now : drop at bytes ≡ written byte ++ doubled later =
      same ∙ ap (λ b. written b ++ doubled later) (sym first) in
      let rest : drop (at + length (written byte)) bytes ≡ doubled later =
      sym (drop-drop (length (written byte)) at bytes)
      ∙ ap (drop (length (written byte))) now ∙ drop-append_seam (written byte) (doubled later) in
      let pushed : doubled (single ++ byte ∷ []) ≡ doubled single ++ written byte =
      doubled-append single (byte ∷ []) ∙ ap (λ l. doubled single ++ l) (append-nil (written byte))
      in
      record {
        so_far =
            h.so_far ∙ ap (λ l. doubled single ++ l) now
            ∙ sym (append_assoc (doubled single) (written byte) (doubled later))
            ∙ (λ i. sym pushed i ++ sym rest i);
        later = later;
        behind = rest;
      }

  -- one byte more
  pub one_byte_more : (pushed : List ℕ) (next_turn : ℕ) → pushed ≡ single ++ byte ∷ []
      → next_turn ≡ length (written byte) → HalfRead bytes pushed (at + next_turn)
  one_byte_more pushed next_turn is size =
      subst (λ n. HalfRead bytes pushed (at + n)) (sym size)
      (subst (λ s. HalfRead bytes s (at + length (written byte))) (sym is)
      (one_by h.later h.behind))

-- a text that is written so
abbrev pub IsWritten : List ℕ → Type 0
IsWritten bytes = (s : List ℕ) × (bytes ≡ doubled s)

piece_is_written : (bytes : List ℕ) → StringPiece bytes → IsWritten bytes
piece_is_written bytes (inl one) = (
  one.byte ∷ [],
  one.alone ∙ by_case (one.byte == apostrophe)
      one.passes,
)
  where
    by_case : (twice : Bool) → IsTrue (not twice) → one.byte ∷ []
        ≡ cond twice (one.byte ∷ one.byte ∷ []) (one.byte ∷ []) ++ []
    by_case true passes = absurd (cc)
    by_case false passes = refl
piece_is_written bytes (inr two) = (apostrophe ∷ [], two)

pieces_are_written : (pieces : List (List ℕ)) → AllByRecursion StringPiece pieces
    → IsWritten (concat pieces)
pieces_are_written [] each = ([], refl)
pieces_are_written (piece ∷ pieces) each =
    let one = piece_is_written piece each.0 in
    let more = pieces_are_written pieces each.1 in
    (one.0 ++ more.0, (λ i. one.1 i ++ more.1 i) ∙ sym (doubled-append one.0 more.0))

-- the inside of a string is written so
pub inside_is_written : (bytes : List ℕ) → Repeated StringPiece bytes → IsWritten bytes
inside_is_written bytes r =
    let w = pieces_are_written r.pieces r.each in (w.0, r.joined ∙ w.1)

-- from what is written the text is known

empty_is_none : (b : ℕ) (s : List ℕ) → [] ≡ doubled (b ∷ s) → ⊥
empty_is_none b s same =
    let begins : [] ≡ b ∷ behind_written b (doubled s) = same ∙ written_begins b (doubled s) in
    absurd (cc)

-- two texts that are doubled alike are one
pub doubled_once : (s t : List ℕ) → doubled s ≡ doubled t → s ≡ t
doubled_once [] [] same = refl
doubled_once [] (c ∷ t) same = absurd (empty_is_none c t same)
doubled_once (b ∷ s) [] same = absurd (empty_is_none b s (sym same))
doubled_once (b ∷ s) (c ∷ t) same =
    let first : b ≡ c = written_head c (doubled t) b (behind_written b (doubled s))
    (sym (written_begins b (doubled s)) ∙ same) in
    let rest : doubled s ≡ doubled t =
    sym (drop-append_seam (written b) (doubled s))
    ∙ (λ i. drop (length (written (first i))) (same i))
    ∙ drop-append_seam (written c) (doubled t) in
    (λ i. first i ∷ doubled_once s t rest i)
