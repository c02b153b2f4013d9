-- A string ends at the first apostrophe that has no partner, when they are paired from the left.
use Rattle.std.proofs.Common.{◌≡◌, ℕ, suc, true, false, cond, List, [], ◌∷◌, ◌++◌, Option, Some, None, length, sym, refl, ap, ◌∙◌, subst, ⊎_elim, inl, inr, arith, one-add}
use Rattle.std.specs.List.{concat, AllByRecursion}
use Rattle.std.proofs.lemmas.Bool.{cond_both, eqb-true, not-true, not_from_false}
use Rattle.sb_lex.specs.Bytes as byte
use Rattle.sb_lex.specs.Bytes.{is_apostrophe}
use Rattle.theory_bytes.specs.Sets.{begins_with, Repeated}
use Rattle.sb_lex.specs.Kinds.{StringPiece}
use Rattle.sb_lex.specs.Scanning.{after, string_len}
use Rattle.theory_bytes.proofs.RepeatsGrow.{repeated_cons, repeated_nothing}
use Rattle.sb_lex.proofs.StringsByRuns.{string_len-plain}

-- the inside of a string, its last apostrophe and what follows
pub record Ending (bytes : List ℕ) (n : ℕ) : Type 0 where
  pub inside : List ℕ
  pub rest : List ℕ
  pub joined : bytes ≡ inside ++ (byte.apostrophe ∷ rest)
  pub long : suc (length inside) ≡ n
  pub pieces : Repeated StringPiece inside
  pub alone : begins_with is_apostrophe rest ≡ false

-- what was found is the end of the string
abbrev pub IsEnding : Option ℕ → List ℕ → Type 0
IsEnding None bytes = Unit {0}
IsEnding (Some n) bytes = Ending bytes n

ending_here : (b : ℕ) (bs : List ℕ) → is_apostrophe b ≡ true → begins_with is_apostrophe bs ≡ false
    → Ending (b ∷ bs) 1
ending_here b bs ends alone = record {
  inside = [];
  rest = bs;
  joined = ap (λ c. c ∷ bs) (eqb-true b byte.apostrophe ends);
  long = refl;
  pieces = repeated_nothing StringPiece;
  alone = alone;
}

ending_after_plain : (b : ℕ) (bs : List ℕ) (o : Option ℕ) → is_apostrophe b ≡ false → IsEnding o bs
    → IsEnding (after 1 o) (b ∷ bs)
ending_after_plain b bs None plain e = tt
ending_after_plain b bs (Some n) plain e = record {
  inside = b ∷ e.inside;
  rest = e.rest;
  joined = ap (λ l. b ∷ l) e.joined;
  long = ap suc e.long ∙ sym (one-add n);
  pieces =
      repeated_cons StringPiece (b ∷ []) e.inside
      (inl
      (record { byte = b; passes = not_from_false (is_apostrophe b) plain; alone = refl }))
      e.pieces;
  alone = e.alone;
}

ending_after_pair : (b c : ℕ) (bs : List ℕ) (o : Option ℕ) → is_apostrophe b ≡ true → is_apostrophe
    c ≡ true → IsEnding o bs → IsEnding (after 2 o) (b ∷ c ∷ bs)
ending_after_pair b c bs None first second e = tt
ending_after_pair b c bs (Some n) first second e = record {
  inside = byte.apostrophe ∷ byte.apostrophe ∷ e.inside;
  rest = e.rest;
  joined = λ i. eqb-true b byte.apostrophe first i ∷
      (eqb-true c byte.apostrophe second i ∷ e.joined i);
  long = omega (arith, e.long);
  pieces = repeated_cons StringPiece (byte.apostrophe ∷ byte.apostrophe ∷ []) e.inside
      (inr refl) e.pieces;
  alone = e.alone;
}

-- what is found is the end
pub ending_found : (bytes : List ℕ) → IsEnding (string_len bytes) bytes
ending_found [] = tt
ending_found (b ∷ []) =
    cond_both (is_apostrophe b) (Some 1) None (λ o. IsEnding o (b ∷ []))
    (λ ends. ending_here b [] ends refl) (λ no. tt)
ending_found (b ∷ c ∷ bs) =
    cond_both (is_apostrophe b) (cond (is_apostrophe c) (after 2 (string_len bs)) (Some 1))
    (after 1 (string_len (c ∷ bs))) (λ o. IsEnding o (b ∷ c ∷ bs))
    (λ first. cond_both (is_apostrophe c) (after 2 (string_len bs)) (Some 1)
    (λ o. IsEnding o (b ∷ c ∷ bs)) (λ second. ending_after_pair b c bs (string_len bs) first
    second (ending_found bs)) (λ alone. ending_here b (c ∷ bs) first alone))
    (λ plain. ending_after_plain b (c ∷ bs) (string_len (c ∷ bs)) plain (ending_found (c ∷ bs)))

string_len-last : (rest : List ℕ) → begins_with is_apostrophe rest ≡ false
    → string_len (byte.apostrophe ∷ rest)
    ≡ Some 1
string_len-last [] alone = refl
string_len-last (c ∷ rest) alone = rw alone refl

ends_behind : (pieces : List (List ℕ)) (rest : List ℕ) → AllByRecursion StringPiece pieces
    → begins_with is_apostrophe rest ≡ false
    → string_len (concat pieces ++ (byte.apostrophe ∷ rest)) ≡ Some
    (suc (length (concat pieces)))
ends_behind [] rest each alone = string_len-last rest alone
ends_behind (p ∷ ps) rest each alone =
    let tail = concat ps ++ (byte.apostrophe ∷ rest) in
    let later = ends_behind ps rest each.1 alone in
    let P : List ℕ → Type 0 = λ l. string_len ((l ++ concat ps) ++ (byte.apostrophe ∷ rest)) ≡ Some
    (suc (length (l ++ concat ps))) in
    ⊎_elim
    (λ plain.
    let at : P (plain.byte ∷ []) =
    string_len-plain plain.byte tail (not-true (is_apostrophe plain.byte) plain.passes)
    ∙ ap (after 1) later ∙ ap (λ n. Some n) (one-add (suc (length (concat ps)))) in
    subst P (sym plain.alone) at)
    (λ pair.
    let at : P (byte.apostrophe ∷ byte.apostrophe ∷ []) = ap (after 2) later
    ∙ ap (λ n. Some n) (omega arith) in
    subst P (sym pair) at)
    each.0

-- and it is found
pub string_len-text : (inside rest : List ℕ) → Repeated StringPiece inside → begins_with
    is_apostrophe rest ≡ false → string_len (inside ++ (byte.apostrophe ∷ rest)) ≡ Some (suc
    (length inside))
string_len-text inside rest pieces alone =
    let P : List ℕ → Type 0 = λ l. string_len (l ++ (byte.apostrophe ∷ rest)) ≡ Some (suc
    (length l)) in
    subst P (sym pieces.joined) (ends_behind pieces.pieces rest pieces.each alone)
