-- The tokens that were counted stand before the place that was reached: whatever tokens follow from
-- there complete them.
use Rattle.std.proofs.Common.{◌≡◌, ℕ, ◌+◌, List, [], ◌∷◌, Option, length, arith}
use Rattle.sb_lex.specs.declared.kinds.Token.{Token}
use Rattle.sb_lex.specs.declared.kinds.BadToken.{BadToken}
use Rattle.sb_lex.specs.Tokens.{IsNext, AreTokensFrom, AreTokens}
use Rattle.bench_tokens.specs.Counts.{CountsTokens}

-- the tokens of the input, if those from the place on are these
pub record Completed (input : List ℕ) (counted : ℕ) (rest : List Token) (fault : Option BadToken) :
    Type 0 where
  pub tokens : List Token
  pub are : AreTokens input tokens fault
  pub number : length tokens ≡ counted + length rest

-- so many tokens stand before the place
pub record SoFar (input : List ℕ) (counted place : ℕ) : Type 0 where
  pub completes : (rest : List Token) (fault : Option BadToken) → AreTokensFrom input place rest
      fault → Completed input counted rest fault

-- nothing is counted at the first byte
pub nothing_counted : (input : List ℕ) → SoFar input 0 0
nothing_counted input = record
    { completes = λ rest fault are. record { tokens = rest; are = are; number = omega arith } }

-- one token more
pub one_more : (input : List ℕ) (counted place : ℕ) (t : Token) → SoFar input counted place
    → IsNext input place t → SoFar input (counted + 1) t.end
one_more input counted place t so_far next = record {
  completes =
      λ rest fault are.
      let all = so_far.completes (t ∷ rest) fault (next, are) in
      record { tokens = all.tokens; are = all.are; number = omega (arith, all.number) };
}

-- where the calls end, all are counted
pub all_counted : (input : List ℕ) (counted place : ℕ) (fault : Option BadToken) → SoFar input
    counted place → AreTokensFrom input place [] fault → CountsTokens input
    (record { tokens = counted; fault = fault })
all_counted input counted place fault so_far are =
    let all = so_far.completes [] fault are in
    record { tokens = all.tokens; are = all.are; number = omega (arith, all.number) }
