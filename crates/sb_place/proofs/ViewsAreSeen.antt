-- What a view answers of an instance is what is seen of it.
use Rattle.std.proofs.Common.{◌≡◌, ◌≢◌, ℕ, Result, Ok, Err, IfOk, refl, subst}
use Rattle.std.specs.declared.alloc.AllocError.{AllocError}
use Rattle.sb_step.specs.Indexed.{Indexed}
use Rattle.sb_schema.specs.declared.error.ViewError.{ViewError}
use Rattle.sb_schema.specs.declared.error.ViewError.TheVariants as view_error
use Rattle.sb_schema.specs.Table.{Row, Values}
use Rattle.sb_schema.specs.Views.Taking.{with_memory, without_memory}
use Rattle.sb_schema.specs.Views.{Views, HasMemory, Taking}
use Rattle.sb_place.specs.declared.sight.Seen.{Seen}
use Rattle.sb_place.specs.declared.sight.Seen.TheVariants as seen
use Rattle.sb_place.specs.Sight.{IsSeen}
use Rattle.sb_place.specs.Steps.{seen_of}

had_memory : (taking : Taking) {V : Type 0} (view : Result V ViewError)
    → (view ≢ Err view_error.NoMemory) → HasMemory taking view
had_memory with_memory view other = other
had_memory without_memory view other = tt

view_is_seen : (taking : Taking) (row : Row) {V : Type 0} (fields : V → Values row.read)
    (indexed : Indexed) (n : ℕ) (view : Result V ViewError) (s : Seen V)
    → Views taking row fields indexed n view → Ok s ≡ seen_of view
    → IsSeen row indexed n fields s
view_is_seen taking row fields indexed n (Ok v) s views is =
    let same : seen.Shown v ≡ s = cc in
    subst (λ t. IsSeen row indexed n fields t) same
    ((views.view (fields v) (had_memory taking (Ok v) (λ e. cc))).0 refl)
view_is_seen taking row fields indexed n (Err (view_error.Missing m)) s views is =
    let same : seen.Absent m ≡ s = cc in
    subst (λ t. IsSeen row indexed n fields t) same
    ((views.missing m (had_memory taking (Err (view_error.Missing m)) (λ e. cc))).0 refl)
view_is_seen taking row fields indexed n (Err (view_error.Other m)) s views is =
    let same : seen.Other ≡ s = cc in
    subst (λ t. IsSeen row indexed n fields t) same
    ((views.other m (had_memory taking (Err (view_error.Other m)) (λ e. cc))).0 refl).1
view_is_seen taking row fields indexed n (Err (view_error.Fields m)) s views is =
    let same : seen.Broken m ≡ s = cc in
    subst (λ t. IsSeen row indexed n fields t) same
    ((views.not_of_row m (had_memory taking (Err (view_error.Fields m)) (λ e. cc))).0 refl)
view_is_seen taking row fields indexed n (Err view_error.NoMemory) s views is = absurd (cc)

-- and so is what is seen by it
pub views_are_seen : (taking : Taking) (row : Row) {V : Type 0} (fields : V → Values row.read)
    (indexed : Indexed) (n : ℕ) (view : Result V ViewError) (result : Result (Seen V) AllocError)
    → Views taking row fields indexed n view → result ≡ seen_of view
    → IfOk result (λ s. IsSeen row indexed n fields s)
views_are_seen taking row fields indexed n view (Ok s) views is =
    view_is_seen taking row fields indexed n view s views is
views_are_seen taking row fields indexed n view (Err e) views is = tt
