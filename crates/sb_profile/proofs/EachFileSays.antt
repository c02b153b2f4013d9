-- What an indexed file says: each instance has one list of parameters, and a row gives of an instance what
-- it gives of these.
use Rattle.std.proofs.Common.{◌≡◌, ℕ, nat_eq, Bool, true, false, List, [], Option, Some, None, refl, ap, ◌∙◌, ◌↔◌}
use Rattle.std.specs.Map.{lookup}
use Rattle.std.specs.Prelude.{option_and_then}
use Rattle.sb_step.specs.declared.parameters.param.Param.{Param}
use Rattle.sb_step.specs.declared.step_file.records.Record.{Record}
use Rattle.sb_step.specs.Indexed.{Indexed}
use Rattle.sb_step.specs.IndexAnswers.{IsIndexed}
use Rattle.sb_step.specs.Numbers.{numbers_of}
use Rattle.sb_step.specs.Records.Spans.{keyword_by, keyword_of}
use Rattle.sb_step.specs.Records.Schema.{IsSchema}
use Rattle.sb_step.specs.Params.Parameters.{HasParameters, EachInstanceHasParameters, ParametersAreUnique}
use Rattle.sb_schema.specs.Table.{Row, Values, values, is_one_of}
use Rattle.sb_schema.specs.Views.{Gives}
use Rattle.sb_profile.specs.Entities.{Entity, row_of}
use Rattle.sb_profile.specs.Contents.{Contents, Says}

module _ (exist : EachInstanceHasParameters) (unique : ParametersAreUnique) (indexed : Indexed)
    (is : IsIndexed indexed.input indexed) where
  -- the parameters of the instance that is found
  params_found : (n : ℕ) (found : Option Record)
      → lookup (nat_eq n) indexed.file.instances ≡ found → List Param
  params_found n None missing = []
  params_found n (Some r) here = (exist indexed n r is here).0

  found_has : (n : ℕ) (r : Record) (found : Option Record)
      → (here : lookup (nat_eq n) indexed.file.instances ≡ found) → found ≡ Some r
      → HasParameters indexed n (params_found n found here)
  unfolding params_found
  found_has n r None missing some = absurd (let e = some in cc)
  found_has n r (Some s) here some = (exist indexed n s is here).1

  pub params_of : ℕ → List Param
  params_of n = params_found n (lookup (nat_eq n) indexed.file.instances) refl

  params_has : (n : ℕ) (r : Record) → lookup (nat_eq n) indexed.file.instances ≡ Some r
      → HasParameters indexed n (params_of n)
  unfolding params_of
  params_has n r here = found_has n r (lookup (nat_eq n) indexed.file.instances) refl here

  none_found : (n : ℕ) (found : Option Record)
      → (here : lookup (nat_eq n) indexed.file.instances ≡ found) → found ≡ None
      → params_found n found here ≡ []
  unfolding params_found
  none_found n None missing none = refl
  none_found n (Some r) here none = absurd (let e = none in cc)

  params_none : (n : ℕ) → lookup (nat_eq n) indexed.file.instances ≡ None → params_of n ≡ []
  unfolding params_of
  params_none n missing = none_found n (lookup (nat_eq n) indexed.file.instances) refl missing

  -- an instance with a keyword is found
  with_keyword : (keywords : List (List ℕ)) (n : ℕ) (found : Option Record)
      → lookup (nat_eq n) indexed.file.instances ≡ found
      → is_one_of keywords (keyword_of indexed n) ≡ true
      → (r : Record) × (lookup (nat_eq n) indexed.file.instances ≡ Some r)
  with_keyword keywords n None missing keyword =
      absurd (let e : keyword_of indexed n ≡ None =
      ap (option_and_then (λ r. keyword_by indexed.input r.start r.form)) missing in
      let f : is_one_of keywords (keyword_of indexed n) ≡ false = ap (is_one_of keywords) e in
      cc)
  with_keyword keywords n (Some r) here keyword = (r, here)

  by_keyword : (row : Row) → Bool → List Param → Option (Values row.read)
  by_keyword row true ps = values row ps
  by_keyword row false ps = None

  pub given_of : (e : Entity) → ℕ → Option (Values (row_of e).read)
  given_of e n =
      by_keyword (row_of e) (is_one_of (row_of e).keywords (keyword_of indexed n)) (params_of n)

  gives_from : (row : Row) (n : ℕ) (vs : Values row.read) (b : Bool)
      → is_one_of row.keywords (keyword_of indexed n) ≡ b
      → by_keyword row b (params_of n) ≡ Some vs → Gives row indexed n (Some vs)
  unfolding by_keyword
  gives_from row n vs true keyword given =
      let there = with_keyword row.keywords n (lookup (nat_eq n) indexed.file.instances) refl keyword in
      record {
        keyword = keyword;
        parameters = params_of n;
        are = params_has n there.0 there.1;
        give = given;
      }
  gives_from row n vs false keyword given = absurd (let e = given in cc)

  gives_back : (row : Row) (n : ℕ) (vs : Values row.read) → Gives row indexed n (Some vs)
      → by_keyword row (is_one_of row.keywords (keyword_of indexed n)) (params_of n) ≡ Some vs
  unfolding by_keyword
  gives_back row n vs gives =
      let same : params_of n ≡ gives.parameters =
      unique indexed n (params_of n) gives.parameters
      (params_has n gives.are.record_of gives.are.found) gives.are in
      ap (λ b. by_keyword row b (params_of n)) gives.keyword ∙ (ap (values row) same ∙ gives.give)

  -- the file says this, with the schema that it has
  pub said : Option (List ℕ) → Contents
  said schema = record {
    schema = schema;
    numbers = numbers_of indexed.file.instances;
    keyword = keyword_of indexed;
    parameters = params_of;
    given = given_of;
  }

  pub says : (schema : Option (List ℕ))
      → ((text : List ℕ) → (schema ≡ Some text) ↔ IsSchema indexed text) → Says indexed (said schema)
  unfolding said given_of
  says schema are = record {
    schema_is = are;
    numbers_are = refl;
    keyword_is = λ n. refl;
    parameters_are = params_has;
    none_of_absent = params_none;
    given_is = λ e n vs. (
      gives_from (row_of e) n vs (is_one_of (row_of e).keywords (keyword_of indexed n)) refl,
      gives_back (row_of e) n vs,
    );
  }
