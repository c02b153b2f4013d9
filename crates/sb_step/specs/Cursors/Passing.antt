-- What passing over a parameter promises: parentheses are counted, until all that opened have closed.
use Rattle.std.specs.Prelude.{◌≡◌, ℕ, zero, suc, pred, List, [], ◌∷◌, Option, if◌then◌else◌}
use Rattle.sb_lex.specs.declared.kinds.Kind.{Kind}
use Rattle.sb_lex.specs.declared.kinds.Token.{Token}
use Rattle.sb_lex.specs.Tokens.{Reading}
use Rattle.sb_step.specs.declared.parameters.param.Param.{Param}
use Rattle.sb_step.specs.Lexemes.{Lexeme, is_open, is_close}
use Rattle.sb_step.specs.Rules.{Rule}
use Rattle.sb_step.specs.Params.Parameters.{AreFurther}
use Rattle.sb_step.specs.Params.Readers.{AreAhead, Onward}
use Rattle.sb_step.specs.Cursors.Cursor.{AreLeft}

-- how many parentheses are open behind a token, where so many are open before it
abbrev pub depth_behind : ℕ → Kind → ℕ
depth_behind depth k = if is_open k then suc depth else (if is_close k then pred depth else depth)

-- the lexemes up to the one that closes the last of so many open parentheses, that one too
abbrev pub Closes : ℕ → Rule
Closes zero xs rest = rest ≡ xs
Closes (suc depth) [] rest = ⊥
Closes (suc depth) (x ∷ xs) rest = Closes (depth_behind (suc depth) x.token.kind) xs rest

-- so many parentheses are open before the lexemes that are left of what the rule describes
pub record StillOpen (depth : ℕ) (now : Reading) (rest : List Lexeme) : Type 0 where
  pub ys : List Lexeme
  pub ahead : AreAhead now ys
  pub closes : Closes depth ys rest

-- where it stood before what the rule describes for some value, so many parentheses of that are open
-- now
pub record Opens {A : Type 0} (P : A → Rule) (depth : ℕ) (old new : Reading) : Type 0 where
  pub onward : Onward old new
  pub leads : (a : A) (xs rest : List Lexeme) → AreAhead old xs → P a xs rest
      → StillOpen depth new rest

-- where so many parentheses were open, it stands behind the one that closes the last of them
pub record HasClosed (depth : ℕ) (old new : Reading) : Type 0 where
  pub onward : Onward old new
  pub leads : (rest : List Lexeme) → StillOpen depth old rest → AreAhead new rest

-- where it stood before what the rule describes for some value, it stands behind that
pub record PassesOver {A : Type 0} (P : A → Rule) (old new : Reading) : Type 0 where
  pub onward : Onward old new
  pub leads : (a : A) (xs rest : List Lexeme) → AreAhead old xs → P a xs rest → AreAhead new rest

-- behind a parameter of a list, the further ones are left
abbrev pub Leaves : Reading → Option Token → Type 0
Leaves at next =
    (ps : List Param) (xs rest : List Lexeme) → AreAhead at xs → AreFurther ps xs rest
    → AreLeft at.input next ps
