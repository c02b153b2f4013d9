use Rattle.sb_step.proofs.Names.{[], ◌∷◌, ◌++◌, refl, sym, subst, AreCollected, instances_of}
use Rattle.sb_step.specs.declared.indexing.states.Event.TheVariants as event
use Rattle.sb_step.proofs.Collecting.EventsAreCollected.{collected_nothing, collected_entity, collected_instance}
use Rattle.sb_step.proofs.indexing.collected.Collected.add.Goals as goal

pub returns-in-Nothing : goal.returns-in-Nothing
returns-in-Nothing c = λ events are.
    subst (λ g. AreCollected c.args.bytes.now (events ++ g ∷ []) c.args.self.now)
    (sym c.in-Nothing.is) (collected_nothing c.args.bytes.now events c.args.self.now are)

pub returns-in-Entity : goal.returns-in-Entity
returns-in-Entity c = λ events are.
    subst (λ g. AreCollected c.args.bytes.now (events ++ g ∷ []) (record
    { schema = c.with_entity-self.result; instances = c.args.self.now.instances }))
    (sym c.in-Entity.is)
    (subst (λ s. AreCollected c.args.bytes.now (events ++ event.Entity c.in-Entity.entity ∷ []) (record
    { schema = s; instances = c.args.self.now.instances })) (sym c.with_entity-self.ensures)
    (collected_entity c.args.bytes.now events c.in-Entity.entity c.args.self.now are))

pub returns-in_ok-insert-in-Instance : goal.returns-in_ok-insert-in-Instance
returns-in_ok-insert-in-Instance c = λ events are.
    subst (λ g. AreCollected c.args.bytes.now (events ++ g ∷ []) (record
    { schema = c.args.self.now.schema; instances = c.insert.new.self })) (sym c.in-Instance.is)
    (collected_instance c.args.bytes.now events c.in-Instance.number c.in-Instance.body
    c.args.self.now _ are refl (c.in_ok-insert-in-Instance.ensures (instances_of events)))
