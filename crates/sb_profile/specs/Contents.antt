-- What a file says, as far as it is judged: its schema, the numbers of its instances, of each its keyword
-- and its parameters, and what a view gives of it.
use Rattle.std.specs.Prelude.{◌≡◌, ◌↔◌, ℕ, nat_eq, Bool, not, ◌&&◌, List, [], Option, Some, None, is_none}
use Rattle.std.specs.List.{list_any}
use Rattle.std.specs.Map.{lookup}
use Rattle.sb_step.specs.declared.parameters.param.Param.{Param}
use Rattle.sb_step.specs.declared.step_file.records.Record.{Record}
use Rattle.sb_step.specs.Indexed.{Indexed}
use Rattle.sb_step.specs.Numbers.{numbers_of}
use Rattle.sb_step.specs.Records.Spans.{keyword_of}
use Rattle.sb_step.specs.Records.Schema.{IsSchema}
use Rattle.sb_step.specs.Params.Parameters.{HasParameters}
use Rattle.sb_schema.specs.Table.{Values, is_one_of}
use Rattle.sb_schema.specs.Views.{Gives}
use Rattle.sb_profile.specs.Entities.{Entity, row_of}

pub record Contents : Type 0 where
  -- the text of the one FILE_SCHEMA, if there is one
  pub schema : Option (List ℕ)
  -- the numbers of the instances in file order
  pub numbers : List ℕ
  -- the keyword of an instance; a complex one has none, nor has an absent one
  pub keyword : ℕ → Option (List ℕ)
  -- the parameters of an instance; a complex one has none, nor has an absent one
  pub parameters : ℕ → List Param
  -- the attributes that a row reads of an instance, if it is of this row
  pub given : (e : Entity) → ℕ → Option (Values (row_of e).read)

-- the file says this
pub record Says (indexed : Indexed) (c : Contents) : Type 0 where
  pub schema_is : (text : List ℕ) → (c.schema ≡ Some text) ↔ IsSchema indexed text
  pub numbers_are : c.numbers ≡ numbers_of indexed.file.instances
  pub keyword_is : (n : ℕ) → c.keyword n ≡ keyword_of indexed n
  pub parameters_are : (n : ℕ) (r : Record) → lookup (nat_eq n) indexed.file.instances ≡ Some r
      → HasParameters indexed n (c.parameters n)
  pub none_of_absent : (n : ℕ) → lookup (nat_eq n) indexed.file.instances ≡ None
      → c.parameters n ≡ []
  pub given_is : (e : Entity) (n : ℕ) (vs : Values (row_of e).read) → (c.given e n ≡ Some vs)
      ↔ Gives (row_of e) indexed n (Some vs)

-- no instance has the number
abbrev pub is_absent : Contents → ℕ → Bool
is_absent c n = not (list_any (nat_eq n) c.numbers)

-- the keyword of the instance is one of the entity's
abbrev pub has_keyword : Contents → Entity → ℕ → Bool
has_keyword c e n = is_one_of (row_of e).keywords (c.keyword n)

-- the instance has a keyword of the entity, and is not of its row
abbrev pub is_unfit : Contents → Entity → ℕ → Bool
is_unfit c e n = has_keyword c e n && is_none (c.given e n)
