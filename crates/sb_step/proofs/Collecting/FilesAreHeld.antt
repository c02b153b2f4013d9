-- What was kept of a file is held of it, and the least number used twice is found in the table.
use Rattle.sb_step.proofs.Names.{◌≡◌, ℕ, List, Some, None, refl, sym, ap, ◌∙◌, subst, Row, Collected, FilesAreUnique, numbers_of, Described, Described-prop, IsHeld, HasDoubled, IsTable, IsDoubledIn, IsFound}
use Rattle.sb_step.proofs.Records.InstancesByNumber.{apart_from, least_from}

module _ {input : List ℕ} {k : ℕ} {c : Collected} (found : IsFound input k c) {numbers : List ℕ}
    {rows : List Row} (taken : numbers ≡ c.instances.numbers.items) (t : IsTable numbers rows)
  where
    table_is : IsTable (numbers_of found.file.instances) rows
    table_is = subst (λ l. IsTable l rows) (taken ∙ found.instances.numbers) t

    -- the number that is found is the least of those used twice
    pub doubled_is : (n : ℕ) → IsDoubledIn (Some n) rows → HasDoubled input n
    doubled_is n first = record {
      file = found.file;
      is = found.is;
      least = least_from found.file.instances rows table_is n first;
    }

    held : IsDoubledIn None rows → IsHeld c.schema c.instances.numbers.items
        c.instances.places.items rows k (record { input = input; file = found.file })
    held unlike = record {
      is = record {
        input_is = refl;
        file = found.is;
        apart = apart_from found.file.instances rows table_is unlike;
      };
      schema_is = found.schema;
      numbers_are = found.instances.numbers;
      places_are = found.instances.places;
      table = table_is;
      end_is = sym found.ends;
    }

    -- what is held is that of the one file that is described
    pub held_is : FilesAreUnique → (d : Described input) → IsDoubledIn None rows
        → IsHeld c.schema c.instances.numbers.items c.instances.places.items rows k
        (record { input = input; file = d.0 })
    held_is unique d unlike =
        subst (λ f. IsHeld c.schema c.instances.numbers.items c.instances.places.items rows k
        (record { input = input; file = f }))
        (ap (λ (e : Described input). e.0)
        (Described-prop unique input (found.file, ∣ found.is ∣₁) d)) (held unlike)

    -- the same where the text is handed on as the input
    pub held_of : (other : List ℕ) → other ≡ input → FilesAreUnique → (d : Described other)
        → IsDoubledIn None rows
        → IsHeld c.schema c.instances.numbers.items c.instances.places.items rows k
        (record { input = other; file = d.0 })
    held_of other same unique d unlike =
        subst (λ i. (e : Described i)
        → IsHeld c.schema c.instances.numbers.items c.instances.places.items rows k
        (record { input = i; file = e.0 }))
        (sym same) (λ e. held_is unique e unlike) d
