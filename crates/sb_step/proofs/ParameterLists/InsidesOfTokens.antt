-- What the inside of a string, an enumeration or a binary says is what its token says.
use Rattle.sb_step.proofs.Names.{◌≡◌, ℕ, ◌≤◌, List, [], ◌∷◌, ◌++◌, length, refl, sym, ap, ◌∙◌, subst, length-append, arith, slice_range, Token, Kind, Text, Repeated, StringPiece, Letters, HexDigits, IsOf, IsToken, inside-between, around, Param, doubled, Encloses}
use Rattle.sb_lex.specs.Bytes as byte
use Rattle.sb_lex.specs.declared.kinds.Kind.TheVariants as kind
use Rattle.theory_bytes.specs.Sets.{◌⋅◌}
use Rattle.theory_bytes.specs.Insides.{inside_of}
use Rattle.sb_step.specs.declared.parameters.param.Param.TheVariants as param
use Rattle.sb_step.specs.Params.Parameters.{Says}
use Rattle.sb_step.proofs.ParameterLists.DoubledApostrophes.{IsWritten, inside_is_written}

-- the bytes of a token
abbrev pub text_of : List ℕ → Token → List ℕ
text_of input t = slice_range input t.start t.end

-- the text is its inside between two bytes
pub record IsEnclosed (q : ℕ) (P : List ℕ → Type 0) (text : List ℕ) : Type 0 where
  pub long : 2 ≤ length text
  pub whole : Encloses (q ∷ []) (inside_of text) text
  pub is : P (inside_of text)

-- an inside between two equal bytes
pub enclosed : (q : ℕ) (P : List ℕ → Type 0) (text : List ℕ)
    → (Text (q ∷ []) ⋅ P ⋅ Text (q ∷ [])) text → IsEnclosed q P text
enclosed q P text t =
    let a = around (q ∷ []) (q ∷ []) P text t in
    let same : a.inside ≡ inside_of text =
    sym (inside-between q q a.inside) ∙ ap inside_of (sym a.whole) in
    record {
      long = omega (arith, ap length a.whole, length-append a.inside (q ∷ []));
      whole = record { whole = a.whole ∙ ap (λ s. q ∷ (s ++ q ∷ [])) same };
      is = subst P same a.is;
    }

module _ {input : List ℕ} {t : Token} (token : IsToken input t) where
  -- a token that stands between two equal marks
  enclosed_is : (k : Kind) (q : ℕ) (P : List ℕ → Type 0)
      → ((xs : List ℕ) → IsOf k xs → (Text (q ∷ []) ⋅ P ⋅ Text (q ∷ [])) xs) → t.kind ≡ k
      → IsEnclosed q P (text_of input t)
  enclosed_is k q P between is =
      enclosed q P (text_of input t) (between (text_of input t)
      (subst (λ k. IsOf k (text_of input t)) is token.candidate.of_kind))

  -- a string is its inside between apostrophes
  pub string_is : t.kind ≡ kind.Str
      → IsEnclosed byte.apostrophe (Repeated StringPiece) (text_of input t)
  string_is is = enclosed_is kind.Str byte.apostrophe (Repeated StringPiece) (λ xs of. of) is

  -- an enumeration is its inside between points
  pub enumeration_is : t.kind ≡ kind.Enumeration → IsEnclosed byte.point Letters (text_of input t)
  enumeration_is is = enclosed_is kind.Enumeration byte.point Letters (λ xs of. of) is

  -- a binary is its inside between quotes
  pub binary_is : t.kind ≡ kind.Binary → IsEnclosed byte.quote HexDigits (text_of input t)
  binary_is is = enclosed_is kind.Binary byte.quote HexDigits (λ xs of. of) is

  -- the inside of a string is some text with its apostrophes doubled
  pub string_is_written : {inside : List ℕ} → t.kind ≡ kind.Str
      → inside ≡ inside_of (text_of input t) → IsWritten inside
  string_is_written is same =
      subst IsWritten (sym same) (inside_is_written _ (string_is is).is)

  -- a token says what its inside says
  says_inside : (k : Kind) (q : ℕ) (P : List ℕ → Type 0) (p : Param) (written inside : List ℕ)
      → (Encloses (q ∷ []) written (text_of input t) → Says k (text_of input t) p) → t.kind ≡ k
      → IsEnclosed q P (text_of input t) → inside ≡ inside_of (text_of input t)
      → inside ≡ written → Says t.kind (text_of input t) p
  says_inside k q P p written inside says is enclosed same single =
      subst (λ k. Says k (text_of input t) p) (sym is)
      (says (subst (λ i. Encloses (q ∷ []) i (text_of input t)) (sym same ∙ single)
      enclosed.whole))

  -- a string says its inside with each doubled apostrophe once
  pub says_string : (s : List ℕ) {inside : List ℕ} → t.kind ≡ kind.Str
      → inside ≡ inside_of (text_of input t) → inside ≡ doubled s
      → Says t.kind (text_of input t) (param.Str s)
  says_string s {inside = inside} is same single =
      says_inside kind.Str byte.apostrophe (Repeated StringPiece) (param.Str s) (doubled s) inside
      (λ e. (s, e, refl)) is (string_is is) same single

  -- an enumeration says its inside
  pub says_enumeration : (s : List ℕ) {inside : List ℕ} → t.kind ≡ kind.Enumeration
      → inside ≡ inside_of (text_of input t) → s ≡ inside
      → Says t.kind (text_of input t) (param.Enumeration s)
  says_enumeration s {inside = inside} is same copied =
      says_inside kind.Enumeration byte.point Letters (param.Enumeration s) s inside
      (λ e. (s, e, refl)) is (enumeration_is is) same (sym copied)

  -- a binary says its inside
  pub says_binary : (s : List ℕ) {inside : List ℕ} → t.kind ≡ kind.Binary
      → inside ≡ inside_of (text_of input t) → s ≡ inside
      → Says t.kind (text_of input t) (param.Binary s)
  says_binary s {inside = inside} is same copied =
      says_inside kind.Binary byte.quote HexDigits (param.Binary s) s inside
      (λ e. (s, e, refl)) is (binary_is is) same (sym copied)
