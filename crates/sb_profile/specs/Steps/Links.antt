-- Tables of links: what the lowest relation that names a number says of it, as relations are noted one
-- after another.
use Rattle.std.specs.Prelude.{ℕ, nat_eq, nat_lt, Bool, List, [], ◌∷◌, Option, Some, None, ◌&&◌, if◌then◌else◌}
use Rattle.std.specs.List.{list_any}
use Rattle.sb_profile.specs.declared.reading.links.Link.{Link}
use Rattle.sb_profile.specs.Lowest.{lower_of}
use Rattle.sb_profile.specs.Materials.{Listing}

abbrev pub link : ℕ → ℕ → Link
link r target = record { relation = r; target = target }

-- the link of the lower relation
abbrev pub lower_link : Link → Option Link → Link
lower_link one None = one
lower_link one (Some other) = if nat_lt other.relation one.relation then other else one

-- with a link noted, if it is of the number that is looked up
abbrev pub noted : Bool → Link → Option Link → Option Link
noted named one found = if named then Some (lower_link one found) else found

-- with one relation after another
abbrev pub noted_all : (ℕ → Option Link → Option Link) → Option Link → List ℕ → Option Link
noted_all step found [] = found
noted_all step found (r ∷ rs) = noted_all step (step r found) rs

-- a relation that lists objects and says what they have
abbrev pub by_listing : ℕ → ℕ → Listing → Option Link → Option Link
by_listing q r None found = found
by_listing q r (Some v) found = noted (list_any (nat_eq q) v.0) (link r v.1.0) found

-- the attributes of a relation that gives an opening to an element
abbrev pub Voiding : Type 0
Voiding = Option (ℕ × (ℕ × Unit {0}))

-- a relation that gives an opening to an element that passes the test
abbrev pub by_voiding : (ℕ → Bool) → ℕ → ℕ → Voiding → Option Link → Option Link
by_voiding test q r None found = found
by_voiding test q r (Some v) found = noted (nat_eq q v.1.0 && test v.0) (link r v.0) found

-- the lowest of a number and of others, one after another
abbrev pub lowered : Option ℕ → List ℕ → Option ℕ
lowered found [] = found
lowered found (n ∷ ns) = lowered (lower_of n found) ns
