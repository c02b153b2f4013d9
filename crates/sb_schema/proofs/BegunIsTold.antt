-- What `read` tells of the parameters of an instance is what the view answers of it.
use Rattle.std.proofs.Common.{◌≡◌, ℕ, List, [], ◌∷◌, Option, Some, None, Result, Ok, Err, ok_or, refl, sym, ap, ◌∙◌, subst, drop, slice_get, false, true, zero, suc}
use Rattle.std.proofs.lemmas.List.{drop-drop}
use Rattle.std.proofs.lemmas.Bool.{false≢true}
use Rattle.sb_step.specs.declared.parameters.param.Param.{Param}
use Rattle.sb_step.specs.Indexed.{Indexed}
use Rattle.sb_schema.specs.declared.error.ViewError.{ViewError}
use Rattle.sb_schema.specs.declared.error.ViewError.TheVariants as view_error
use Rattle.sb_schema.specs.declared.attributes.Attributes.{Attributes}
use Rattle.sb_schema.specs.Views.Taking.{with_memory, without_memory}
use Rattle.sb_schema.specs.Table.{Row, Values, values}
use Rattle.sb_schema.specs.Views.{Views, HasMemory, NeedsNoMemory, Gives, seen, Taking}
use Rattle.sb_schema.specs.Steps.{IsBegun, Tells}

-- the first that is left is the one at this place of the whole list
pub slice_get-drop : (k : ℕ) (ps : List Param) → slice_get (drop k ps) 0 ≡ slice_get ps k
slice_get-drop zero ps = refl
slice_get-drop (suc k) [] = refl
slice_get-drop (suc k) (p ∷ ps) = slice_get-drop k ps

-- what is refused gave nothing
refused_by : {W E : Type 0} (given : Option W) (e error : E) → Err e ≡ ok_or given error
    → (given ≡ None) × (e ≡ error)
refused_by None e error is = (refl, cc)
refused_by (Some w) e error is = absurd (cc)

-- what is answered was given
given_by : {W E : Type 0} (given : Option W) (w : W) (error : E) → Ok w ≡ ok_or given error
    → given ≡ Some w
given_by None w error is = absurd (cc)
given_by (Some v) w error is = cc

-- where no memory is taken, none is wanted
none_wanted : (taking : Taking) {V : Type 0} {given : Type 0} {k : ℕ} (result : Result V ViewError)
    → (HasMemory taking result → result ≡ Err view_error.NoMemory
    → given × (view_error.NoMemory ≡ view_error.Fields k))
    → NeedsNoMemory taking result
none_wanted with_memory result refused = tt
none_wanted without_memory result refused = λ is. let error = (refused tt is).1 in absurd (cc)

-- an error is seen as it is
error_seen : {V W : Type 0} (fields : V → W) (result : Result V ViewError) (e : ViewError)
    → seen fields result ≡ Err e → result ≡ Err e
error_seen fields (Ok view) e is = absurd (cc)
error_seen fields (Err error) e is = cc

-- Where an instance of the row's keyword was begun, what `read` tells is the view.
pub told : (taking : Taking) (row : Row) {V : Type 0} (fields : V → Values row.read)
    (indexed : Indexed) (n : ℕ) (begun : Attributes) (result : Result V ViewError)
    → IsBegun row.keywords indexed n begun → Tells taking row fields begun result
    → Views taking row fields indexed n result
told taking row fields indexed n begun result is tells = record {
  missing = λ m memory. (
    λ missing. let error = (refusal (view_error.Missing m) memory missing).1 in absurd (cc error),
    λ missing. let none = missing.1 in let found = is.are.found in absurd (cc),
  );
  other = λ m memory. (
    λ other. let error = (refusal (view_error.Other m) memory other).1 in absurd (cc error),
    λ other. absurd (false≢true (sym other.1.keyword ∙ is.keyword)),
  );
  not_of_row = λ m memory. (
    λ refused. let r = refusal (view_error.Fields m) memory refused in (
      let same : view_error.Fields m ≡ view_error.Fields begun.number = r.1 in
          let at = is.number in
          cc,
      gives_this None r.0,
    ),
    λ gives. error_seen fields result (view_error.Fields m)
        (answered memory None gives.1 ∙ ap (λ k. Err (view_error.Fields k)) (is.number ∙ sym gives.0)),
  );
  steady = none_wanted taking result (refusal view_error.NoMemory);
  view = λ vs memory. (
    λ seen_as. gives_this (Some vs)
        (given_by (values row begun.left) vs (view_error.Fields begun.number)
        (sym seen_as ∙ tells memory)),
    λ gives. answered memory (Some vs) gives,
  );
}
  where
    refusal : (error : ViewError) → HasMemory taking result → result ≡ Err error
        → (values row begun.left ≡ None) × (error ≡ view_error.Fields begun.number)
    refusal error memory refused =
        refused_by (values row begun.left) error (view_error.Fields begun.number)
        (ap (seen fields) (sym refused) ∙ tells memory)

    gives_this : (given : Option (Values row.read)) → values row begun.left ≡ given
        → Gives row indexed n given
    gives_this given so =
        record { keyword = is.keyword; parameters = begun.left; are = is.are; give = so }

    answered : HasMemory taking result → (given : Option (Values row.read)) → Gives row indexed n given
        → seen fields result ≡ ok_or given (view_error.Fields begun.number)
    answered memory given g =
        tells memory
        ∙ ap (λ so. ok_or so (view_error.Fields begun.number))
        (ap (values row) (sym (is.only g.parameters g.are)) ∙ g.give)

-- what is left behind some calls, said of the whole list: this proves each `read`
pub ruleset telling = (slice_get-drop, drop-drop)
