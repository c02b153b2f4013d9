-- No token is empty, and one with an inside has a first byte and a last.
use Rattle.std.proofs.Common.{◌≡◌, ℕ, ◌≤◌, List, [], ◌∷◌, length, refl, arith}
use Rattle.std.specs.Prelude.{codes, slice_range}
use Rattle.theory_bytes.proofs.InsidesAreBetween.{slice_length}
use Rattle.sb_lex.specs.declared.kinds.Kind.{Kind}
use Rattle.sb_lex.specs.declared.kinds.Kind.TheVariants as kind
use Rattle.sb_lex.specs.declared.kinds.Token.{Token}
use Rattle.theory_bytes.specs.Sets.{Text, ◌⋅◌, Repeated}
use Rattle.sb_lex.specs.Kinds.{Letters, HexDigits, StringPiece, IsOf}
use Rattle.sb_lex.specs.Tokens.{IsNext, Reading, least_length, LiesBehind}
use Rattle.theory_bytes.proofs.JoinedHasParts.{around, around_length}
use Rattle.sb_lex.proofs.FoundIsLongest.{scan_covers}

two_around : (a b : List ℕ) (P : List ℕ → Type 0) (text : List ℕ) → (Text a ⋅ P ⋅ Text b) text
    → length a ≡ 1 → length b ≡ 1 → 2 ≤ length text
two_around a b P text is one other =
    let t = around a b P text is in omega (arith, around_length a b P text t)

-- nothing is found where there are no bytes, so that no string of a kind is empty
some_byte : (k : Kind) (text : List ℕ) → IsOf k text → 1 ≤ length text
some_byte k [] is =
    absurd (scan_covers k [] 0 (record {
      prefix = record {
        rest = [];
        prefix = record { text = []; joined = refl; long = refl; is = is };
      };
      free = refl;
    }))
some_byte k (b ∷ bs) is = omega arith

-- a string of the kind has its least length
pub long_enough : (k : Kind) (text : List ℕ) → IsOf k text → least_length k ≤ length text
long_enough kind.Str text is = two_around (codes "'") (codes "'") (Repeated StringPiece) text is
    refl refl
long_enough kind.Enumeration text is = two_around (codes ".") (codes ".") Letters text is refl refl
long_enough kind.Binary text is = two_around (codes "\"") (codes "\"") HexDigits text is refl refl
long_enough k text is = some_byte k text is

-- where the next token lies
pub next_lies : (at : Reading) (t : Token) → IsNext at.input at.place t → LiesBehind at t
next_lies at t next =
    let c = next.token.candidate in
    let long = long_enough t.kind (slice_range at.input t.start t.end) c.of_kind in
    record {
      behind = next.gap.ordered;
      some =
          omega (
            arith,
            long,
            some_byte t.kind (slice_range at.input t.start t.end) c.of_kind,
            slice_length at.input t.start t.end c.ordered
                c.within,
            c.ordered,
          );
      long = omega (arith, long, slice_length at.input t.start t.end c.ordered c.within, c.ordered);
      within = c.within;
    }
