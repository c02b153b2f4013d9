-- Whether a number is the only one, as it is counted.
use Rattle.std.specs.Prelude.{ℕ, Bool, List, [], ◌∷◌, Option, Some, None, if◌then◌else◌}
use Rattle.sb_profile.specs.declared.reading.units.Only.{Only}
use Rattle.sb_profile.specs.declared.reading.units.Only.TheVariants as only

-- with one more
abbrev pub one_more : ℕ → Only → Only
one_more n only.None = only.One n
one_more n _ = only.Several

-- with a list more
abbrev pub counted : Only → List ℕ → Only
counted found [] = found
counted found (n ∷ ns) = counted (one_more n found) ns

-- with a member more, if it is a number that passes the test
abbrev pub with_member : (ℕ → Bool) → Option ℕ → Only → Only
with_member test None found = found
with_member test (Some n) found = if test n then one_more n found else found

-- the only one
abbrev pub the_only : Only → Option ℕ
the_only (only.One n) = Some n
the_only _ = None
