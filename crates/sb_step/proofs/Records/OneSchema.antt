-- What is known of the schema stays right with an entity more.
use Rattle.sb_step.proofs.Names.{◌≡◌, ℕ, true, false, cond, List, [], ◌∷◌, ◌++◌, length, refl, sym, ap, ◌∙◌, subst, ⊎_elim, arith, length-append, append-nil, codes, filter, cases_Bool, cond-true, cond-false, filter-append, Form, Record, Schema, is_spelled, is_schema, one_more, with_entity_by, with_entity, SchemaSays}
use Rattle.sb_step.specs.declared.step_file.records.Form.TheVariants as form
use Rattle.sb_step.specs.declared.step_file.schema.Schema.TheVariants as schema
use Rattle.sb_step.specs.Records.SchemaReading.{Says}

-- one found more
one_found_more : (found : List Record) (s : Schema) (r : Record) (end : ℕ)
    → r.form ≡ form.Simple end → Says found s → Says (found ++ r ∷ []) (one_more s end)
one_found_more found schema.Missing r end simple says =
    record { entity = r; only = ap (λ l. l ++ r ∷ []) says; form = simple }
one_found_more found (schema.One other) r end simple says =
    let two : length (found ++ r ∷ []) ≡ 2 = ap (λ l. length (l ++ r ∷ [])) says.only in
    omega (arith, two)
one_found_more found schema.Several r end simple says =
    omega (arith, says, length-append found (r ∷ []))

module _ (input : List ℕ) (before : List Record) where
  filter-more : (r : Record) → filter (is_schema input) (before ++ r ∷ [])
      ≡ filter (is_schema input) before ++ filter (is_schema input) (r ∷ [])
  filter-more r = filter-append (is_schema input) before (r ∷ [])

  -- an entity that is none
  passed_over : (s : Schema) (r : Record) → is_schema input r ≡ false → SchemaSays input before s
      → SchemaSays input (before ++ r ∷ []) s
  passed_over s r fails says =
      subst (λ l. Says l s)
      (sym (append-nil (filter (is_schema input) before))
      ∙ sym (ap (λ b. filter (is_schema input) before ++ cond b (r ∷ []) []) fails)
      ∙ sym (filter-more r)) says

  -- one that is
  counted : (s : Schema) (r : Record) (end : ℕ) → is_schema input r ≡ true
      → r.form ≡ form.Simple end → SchemaSays input before s
      → SchemaSays input (before ++ r ∷ []) (one_more s end)
  counted s r end passes simple says =
      subst (λ l. Says l (one_more s end))
      (sym (ap (λ b. filter (is_schema input) before ++ cond b (r ∷ []) []) passes)
      ∙ sym (filter-more r))
      (one_found_more (filter (is_schema input) before) s r end simple says)

  by_form : (s : Schema) (r : Record) (f : Form) → r.form ≡ f → SchemaSays input before s
      → SchemaSays input (before ++ r ∷ []) (with_entity_by input s r.start f)
  by_form s r form.Complex is says =
      passed_over s r (ap (is_spelled (codes "FILE_SCHEMA") input r.start) is) says
  by_form s r (form.Simple end) is says =
      let spelled = is_spelled (codes "FILE_SCHEMA") input r.start in
      ⊎_elim
      (λ passes. subst (SchemaSays input (before ++ r ∷ []))
      (sym (cond-true (spelled (form.Simple end)) (one_more s end) s passes))
      (counted s r end (ap spelled is ∙ passes) is says))
      (λ fails. subst (SchemaSays input (before ++ r ∷ []))
      (sym (cond-false (spelled (form.Simple end)) (one_more s end) s fails))
      (passed_over s r (ap spelled is ∙ fails) says))
      (cases_Bool (spelled (form.Simple end)))

  -- with an entity more
  pub says_more : (s : Schema) (r : Record) → SchemaSays input before s
      → SchemaSays input (before ++ r ∷ []) (with_entity input s r)
  says_more s r says = by_form s r r.form refl says
