-- What is found as leads are followed: further leads, the lowest instance that is not of its row and the
-- lowest that is absent.
use Rattle.std.specs.Prelude.{◌≡◌, ℕ, Bool, true, false, ◌||◌, List, [], ◌∷◌, ◌++◌, find, filter}
use Rattle.std.specs.List.{flat_map}
use Rattle.sb_schema.specs.declared.entities.shapes.ProductDefinitionShape.{ProductDefinitionShape}
use Rattle.sb_schema.specs.Table.{Values}
use Rattle.sb_profile.specs.declared.following.found.Found.{Found}
use Rattle.sb_profile.specs.declared.following.places.Place.{Place}
use Rattle.sb_profile.specs.declared.following.places.Place.TheVariants as place
use Rattle.sb_profile.specs.Entities.{Entity, row_of, wanted_at}
use Rattle.sb_profile.specs.Entities.Entity.{product_definition_shape}
use Rattle.sb_profile.specs.Contents.{Contents, is_unfit, is_absent}
use Rattle.sb_profile.specs.Lowest.{lower_if}
use Rattle.sb_profile.specs.Following.{Lead, from, to, to_each, leads, is_body}
use Rattle.sb_profile.specs.Steps.Links.{lowered}

-- behind the leads stand these, and nothing else is found
pub record Leads (more : List Lead) (old new : Found) : Type 0 where
  pub leads_are : new.leads.items ≡ old.leads.items ++ more
  pub unfit_is : new.unfit ≡ old.unfit
  pub absent_is : new.absent ≡ old.absent

-- nothing is led to, and it is kept if the instance is not of its row or is absent
pub record Notes (unfit absent : Bool) (n : ℕ) (old new : Found) : Type 0 where
  pub leads_are : new.leads.items ≡ old.leads.items
  pub unfit_is : new.unfit ≡ lower_if unfit n old.unfit
  pub absent_is : new.absent ≡ lower_if absent n old.absent

-- all that a file says of the instance as one of the entity is found, and what follows from it
pub record FindsAs (e : Entity) (follow : Values (row_of e).read → List Lead) (c : Contents) (n : ℕ)
    (old new : Found) : Type 0 where
  pub leads_are : new.leads.items ≡ old.leads.items ++ from (c.given e n) follow
  pub unfit_is : new.unfit ≡ lower_if (is_unfit c e n) n old.unfit
  pub absent_is : new.absent ≡ lower_if (is_absent c n) n old.absent

-- the same where nothing follows
pub record FindsOnly (e : Entity) (c : Contents) (n : ℕ) (old new : Found) : Type 0 where
  pub leads_are : new.leads.items ≡ old.leads.items ++ []
  pub unfit_is : new.unfit ≡ lower_if (is_unfit c e n) n old.unfit
  pub absent_is : new.absent ≡ lower_if (is_absent c n) n old.absent

-- the instance is of one of the entities, and not of its row
abbrev pub any_unfit : Contents → ℕ → List Entity → Bool
any_unfit c n [] = false
any_unfit c n (e ∷ []) = is_unfit c e n
any_unfit c n (e ∷ f ∷ es) = is_unfit c e n || any_unfit c n (f ∷ es)

abbrev pub is_unfit_at : Contents → Place → ℕ → Bool
is_unfit_at c at n = any_unfit c n (wanted_at at)

-- what follows from a definition shape where these representations are bodies
abbrev pub shape_leads : (ℕ → Bool) → List ℕ × Unit {0} → List Lead
shape_leads bodies v = to_each place.Representation v.0 ++ to place.Body (find bodies v.0)

abbrev pub shape_fields : ProductDefinitionShape → List ℕ × Unit {0}
shape_fields v = (v.a3, tt)

-- what follows from an instance at a place where they are
abbrev pub leads_with : (ℕ → Bool) → Contents → Place → ℕ → List Lead
leads_with bodies c place.Shape n =
    from (c.given product_definition_shape n) (shape_leads bodies)
leads_with bodies c at n = leads c at n

-- all that a file says of the instance at the place is found
pub record Finds (bodies : ℕ → Bool) (c : Contents) (at : Place) (n : ℕ) (old new : Found)
    : Type 0 where
  pub leads_are : new.leads.items ≡ old.leads.items ++ leads_with bodies c at n
  pub unfit_is : new.unfit ≡ lower_if (is_unfit_at c at n) n old.unfit
  pub absent_is : new.absent ≡ lower_if (is_absent c n) n old.absent

-- all that a file says of some instances at one place is found, one after another
pub record FindsEach (bodies : ℕ → Bool) (c : Contents) (at : Place) (ns : List ℕ) (old new : Found)
    : Type 0 where
  pub leads_are : new.leads.items ≡ old.leads.items ++ flat_map (leads_with bodies c at) ns
  pub unfit_is : new.unfit ≡ lowered old.unfit (filter (is_unfit_at c at) ns)
  pub absent_is : new.absent ≡ lowered old.absent (filter (is_absent c) ns)

-- these representations are bodies
abbrev pub AreBodies : Contents → (ℕ → Bool) → Type 0
AreBodies c bodies = (n : ℕ) → bodies n ≡ true → is_body c n ≡ true
