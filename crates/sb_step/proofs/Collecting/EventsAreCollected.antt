-- What was found at one lexeme more stands behind what was found before.
use Rattle.sb_step.proofs.Names.{◌≡◌, ℕ, List, [], ◌∷◌, ◌++◌, refl, sym, ap, ◌∙◌, subst, append-nil, Record, Event, Collected, entities_of, instances_of, AreStored, AreCollected, with_entity, SchemaSays}
use Rattle.sb_step.specs.declared.indexing.states.Event.TheVariants as event
use Rattle.sb_step.proofs.Records.OneSchema.{says_more}

entities_of-more : (events : List Event) (g : Event) → entities_of (events ++ g ∷ [])
    ≡ entities_of events ++ entities_of (g ∷ [])
entities_of-more [] g = refl
entities_of-more (event.Nothing ∷ events) g = entities_of-more events g
entities_of-more (event.Entity r ∷ events) g = ap (λ l. r ∷ l) (entities_of-more events g)
entities_of-more (event.Instance n r ∷ events) g = entities_of-more events g

instances_of-more : (events : List Event) (g : Event) → instances_of (events ++ g ∷ [])
    ≡ instances_of events ++ instances_of (g ∷ [])
instances_of-more [] g = refl
instances_of-more (event.Nothing ∷ events) g = instances_of-more events g
instances_of-more (event.Entity r ∷ events) g = instances_of-more events g
instances_of-more (event.Instance n r ∷ events) g =
    ap (λ l. (n, r) ∷ l) (instances_of-more events g)

module _ (input : List ℕ) (events : List Event) where
  -- nothing more
  pub collected_nothing : (c : Collected) → AreCollected input events c
      → AreCollected input (events ++ event.Nothing ∷ []) c
  collected_nothing c are = record {
    schema = subst (λ l. SchemaSays input l c.schema)
        (sym (append-nil (entities_of events)) ∙ sym (entities_of-more events event.Nothing))
        are.schema;
    instances = subst (λ l. AreStored l c.instances)
        (sym (append-nil (instances_of events)) ∙ sym (instances_of-more events event.Nothing))
        are.instances;
  }

  -- an entity more
  pub collected_entity : (r : Record) (c : Collected) → AreCollected input events c
      → AreCollected input (events ++ event.Entity r ∷ [])
      (record { schema = with_entity input c.schema r; instances = c.instances })
  collected_entity r c are = record {
    schema = subst (λ l. SchemaSays input l (with_entity input c.schema r))
        (sym (entities_of-more events (event.Entity r)))
        (says_more input (entities_of events) c.schema r are.schema);
    instances = subst (λ l. AreStored l c.instances)
        (sym (append-nil (instances_of events)) ∙ sym (instances_of-more events (event.Entity r)))
        are.instances;
  }

  -- an instance more
  pub collected_instance : (n : ℕ) (r : Record) (old new : Collected)
      → AreCollected input events old → new.schema ≡ old.schema
      → (AreStored (instances_of events) old.instances
      → AreStored (instances_of events ++ (n, r) ∷ []) new.instances)
      → AreCollected input (events ++ event.Instance n r ∷ []) new
  collected_instance n r old new are same kept = record {
    schema = subst (SchemaSays input (entities_of (events ++ event.Instance n r ∷ []))) (sym same)
        (subst (λ l. SchemaSays input l old.schema)
        (sym (append-nil (entities_of events))
        ∙ sym (entities_of-more events (event.Instance n r))) are.schema);
    instances = subst (λ l. AreStored l new.instances)
        (sym (instances_of-more events (event.Instance n r))) (kept are.instances);
  }
