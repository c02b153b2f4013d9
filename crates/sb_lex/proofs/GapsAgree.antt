-- White space and comments are read in one way: two gaps from one place, behind which no piece goes
-- on, are equally long.
use Rattle.std.proofs.Common.{◌≡◌, ℕ, ◌+◌, ◌<◌, List, [], ◌∷◌, ◌++◌, length, take, drop, sym, refl, ap, ◌∙◌, subst, inl, inr, arith, append_assoc, length-append, take_at, take-add}
use Rattle.std.specs.Prelude.{codes}
use Rattle.std.specs.List.{concat, AllByRecursion}
use Rattle.std.proofs.lemmas.Bool.{cond_both}
use Rattle.std.proofs.lemmas.List.{append_cancel_left}
use Rattle.sb_lex.specs.Bytes.{is_white}
use Rattle.theory_bytes.specs.Sets.{Byte}
use Rattle.sb_lex.specs.Kinds.{Unclosed, BlankPiece, Blank}
use Rattle.sb_lex.specs.Scanning.{comment_len, piece_len}
use Rattle.theory_bytes.proofs.PrefixesJoin.{HasPrefix, prefix_byte, text_is}
use Rattle.theory_bytes.proofs.LongestPrefixes.{as_set}
use Rattle.theory_bytes.proofs.JoinedHasParts.{around, around_length}
use Rattle.theory_bytes.proofs.RepeatsGrow.{repeated_push}
use Rattle.sb_lex.proofs.CommentsClose.{comment_len-comment, comment_found}

-- where a length is found, a piece so long stands there
pub piece_found : (bytes : List ℕ) → 0 < piece_len bytes
    → HasPrefix BlankPiece bytes (piece_len bytes)
unfolding comment_len
piece_found [] some = absurd (omega arith)
piece_found (b ∷ bs) some =
    let P : ℕ → Type 0 = λ n. 0 < n → HasPrefix BlankPiece (b ∷ bs) n in
    cond_both (is_white b) 1 (comment_len (b ∷ bs)) P
    (λ white more.
    let byte : HasPrefix (Byte is_white) (b ∷ bs) 1 =
    record { rest = bs; prefix = prefix_byte is_white b bs white } in
    as_set BlankPiece byte (inl byte.prefix.is))
    (λ other more.
    let comment = comment_found (b ∷ bs) more in as_set BlankPiece comment (inr comment.prefix.is))
    some

-- the length of a piece at the front, whatever follows it
pub piece_len-piece : (xs rest : List ℕ) → BlankPiece xs → (piece_len (xs ++ rest) ≡ length xs)
    × (0 < length xs)
piece_len-piece xs rest (inl white) =
    let P : List ℕ → Type 0 = λ l. (piece_len (l ++ rest) ≡ length l) × (0 < length l) in
    subst P (sym white.alone) (rw white.passes refl, omega arith)
piece_len-piece xs rest (inr comment) =
    let t = around (codes "/*") (codes "*/") Unclosed xs comment in
    let P : List ℕ → Type 0 = λ l. piece_len (l ++ rest) ≡ comment_len (l ++ rest) in
    let by_comment : piece_len (xs ++ rest) ≡ comment_len (xs ++ rest) = subst P (sym t.whole)
    refl in (
      by_comment ∙ comment_len-comment xs rest comment,
      omega (arith, around_length (codes "/*") (codes "*/") Unclosed xs t),
    )

-- one piece more
pub blank_more : (rest : List ℕ) (at n : ℕ) → n ≡ piece_len (drop at rest) → 0 < n
    → Blank (take at rest) → Blank (take (at + n) rest)
blank_more rest at n size some blank =
    let e = piece_found (drop at rest) (omega arith) in
    let piece : BlankPiece (take n (drop at rest)) =
    subst BlankPiece (text_is BlankPiece (drop at rest) e.rest (piece_len (drop at rest)) e.prefix
    ∙ ap (λ k. take k (drop at rest)) (sym size)) e.prefix.is in
    subst Blank (sym (take-add at n rest))
    (repeated_push BlankPiece (take at rest) (take n (drop at rest)) blank piece)

pieces_agree : (ps qs : List (List ℕ)) (a b : List ℕ) → AllByRecursion BlankPiece ps
    → AllByRecursion BlankPiece qs → concat ps ++ a ≡ concat qs ++ b → piece_len a ≡ 0
    → piece_len b ≡ 0 → length (concat ps) ≡ length (concat qs)
pieces_agree [] [] a b each_p each_q same a_stops b_stops = refl
pieces_agree [] (q ∷ qs) a b each_p each_q same a_stops b_stops =
    let piece = piece_len-piece q (concat qs ++ b) each_q.0 in
    absurd (omega (arith, ap piece_len (same ∙ append_assoc q (concat qs) b), piece.0, piece.1))
pieces_agree (p ∷ ps) [] a b each_p each_q same a_stops b_stops =
    let piece = piece_len-piece p (concat ps ++ a) each_p.0 in
    absurd (omega (arith, ap piece_len (sym same ∙ append_assoc p (concat ps) a), piece.0, piece.1))
pieces_agree (p ∷ ps) (q ∷ qs) a b each_p each_q same a_stops b_stops =
    let whole : p ++ (concat ps ++ a) ≡ q ++ (concat qs ++ b) =
    sym (append_assoc p (concat ps) a) ∙ same ∙ append_assoc q (concat qs) b in
    let one = (piece_len-piece p (concat ps ++ a) each_p.0).0 in
    let other = (piece_len-piece q (concat qs ++ b) each_q.0).0 in
    let as_long : length p ≡ length q = sym one ∙ ap piece_len whole ∙ other in
    let first : p ≡ q =
    sym (take_at p (concat ps ++ a) (length p) refl) ∙ ap (take (length p)) whole
    ∙ take_at q (concat qs ++ b) (length p) (sym as_long) in
    let behind : concat ps ++ a ≡ concat qs ++ b =
    append_cancel_left p (concat ps ++ a) (concat qs ++ b)
    (whole ∙ ap (λ l. l ++ (concat qs ++ b)) (sym first)) in
    let later = pieces_agree ps qs a b each_p.1 each_q.1 behind a_stops b_stops in
    omega (arith, length-append p (concat ps), length-append q (concat qs))

-- two gaps at the front of the same bytes are equally long, if no piece goes on behind either
pub blanks_agree : (xs ys a b : List ℕ) → Blank xs → Blank ys → xs ++ a ≡ ys ++ b → piece_len a ≡ 0
    → piece_len b ≡ 0 → length xs ≡ length ys
blanks_agree xs ys a b x y same a_stops b_stops =
    ap length x.joined ∙ pieces_agree x.pieces y.pieces a b x.each y.each
    (sym (ap (λ l. l ++ a) x.joined) ∙ same ∙ ap (λ l. l ++ b) y.joined) a_stops b_stops
    ∙ sym (ap length y.joined)
