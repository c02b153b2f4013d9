-- What is kept of all that was found.
use Rattle.std.specs.Prelude.{ℕ, List}
use Rattle.sb_step.specs.declared.indexing.states.Event.{Event}
use Rattle.sb_step.specs.declared.indexing.collected.Collected.{Collected}
use Rattle.sb_step.specs.Records.SchemaReading.{SchemaSays}
use Rattle.sb_step.specs.Index.Turns.{entities_of, instances_of}
use Rattle.sb_step.specs.Index.StoredInstances.{AreStored}

-- where the schema stands among the entities of the input, and the instances
pub record AreCollected (input : List ℕ) (events : List Event) (c : Collected) : Type 0 where
  pub schema : SchemaSays input (entities_of events) c.schema
  pub instances : AreStored (instances_of events) c.instances
