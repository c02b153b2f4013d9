-- What a file that was indexed is for its user: the input that it borrows, and the file that this
-- describes.
use Rattle.std.specs.Prelude.{ℕ, List}
use Rattle.sb_step.specs.Grammar.{File}

-- a file with its input
pub record Indexed : Type 0 where
  pub input : List ℕ
  pub file : File
