-- What is kept of the instances that were read.
use Rattle.std.specs.Prelude.{◌≡◌, ℕ, List, map}
use Rattle.sb_step.specs.declared.step_file.records.Record.{Record}
use Rattle.sb_step.specs.declared.indexing.instances.Instances.{Instances}
use Rattle.sb_step.specs.Numbers.{numbers_of}
use Rattle.sb_step.specs.Records.Table.{place_of}

-- the numbers of the instances in file order, and where their keywords stand
pub record AreStored (instances : List (ℕ × Record)) (kept : Instances) : Type 0 where
  pub numbers : kept.numbers.items ≡ numbers_of instances
  pub places : kept.places.items ≡ map (λ i. place_of i.1) instances
