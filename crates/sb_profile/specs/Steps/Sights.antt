-- What is seen of an instance that is looked at as one of an entity.
use Rattle.std.specs.Prelude.{◌≡◌, ℕ, Bool, true, false, Option, Some, None, Result, Ok, Err}
use Rattle.sb_schema.specs.declared.error.ViewError.{ViewError}
use Rattle.sb_schema.specs.declared.error.ViewError.TheVariants as view_error
use Rattle.sb_schema.specs.Table.{Values}
use Rattle.sb_profile.specs.declared.sights.Sight.{Sight}
use Rattle.sb_profile.specs.declared.sights.Sight.TheVariants as sight
use Rattle.sb_profile.specs.Entities.{Entity, row_of}
use Rattle.sb_profile.specs.Contents.{Contents, is_unfit, is_absent}

-- what a view's answer is as a sight; want of memory is none
abbrev pub sight_of : {V : Type 0} → Result V ViewError → Option (Sight V)
sight_of (Ok v) = Some (sight.Of v)
sight_of (Err (view_error.Missing n)) = Some sight.Absent
sight_of (Err (view_error.Other n)) = Some sight.Other
sight_of (Err (view_error.Fields n)) = Some sight.Unfit
sight_of (Err view_error.NoMemory) = None

-- the attributes that are seen
abbrev pub seen_of : {V W : Type 0} → (V → W) → Sight V → Option W
seen_of fields (sight.Of v) = Some (fields v)
seen_of fields _ = None

-- it is seen that the instance is not of its row
abbrev pub shows_unfit : {V : Type 0} → Sight V → Bool
shows_unfit sight.Unfit = true
shows_unfit _ = false

-- that there is none
abbrev pub shows_absent : {V : Type 0} → Sight V → Bool
shows_absent sight.Absent = true
shows_absent _ = false

-- the sight is what a file says of the instance of the number
pub record Shows (e : Entity) {V : Type 0} (fields : V → Values (row_of e).read) (c : Contents)
    (n : ℕ) (s : Sight V) : Type 0 where
  pub given_is : c.given e n ≡ seen_of fields s
  pub unfit_is : is_unfit c e n ≡ shows_unfit s
  pub absent_is : is_absent c n ≡ shows_absent s
