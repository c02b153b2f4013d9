-- What the program says of a file.
use Rattle.std.specs.Prelude.{◌≡◌, ℕ, List, length}
use Rattle.sb_lex.specs.declared.kinds.Token.{Token}
use Rattle.sb_lex.specs.Tokens.{AreTokens}
use Rattle.bench_tokens.specs.declared.counting.Count.{Count}

-- it is the number of the tokens of the input, with the fault behind them
pub record CountsTokens (input : List ℕ) (count : Count) : Type 0 where
  pub tokens : List Token
  pub are : AreTokens input tokens count.fault
  pub number : length tokens ≡ count.tokens
