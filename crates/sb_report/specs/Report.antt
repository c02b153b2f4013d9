-- The report of a list of boundaries and its model: one compact object of JSON and a line feed.

use Rattle.std.specs.Prelude.{ℕ, ◌+◌, List, [], ◌∷◌, ◌++◌, map, codes}
use Rattle.serde_json.specs.Data.{Data, string, array, object, no_members, member}
use Rattle.serde_json.specs.View.{items_of}
use Rattle.serde_json.specs.Written.{compact_text}
use Rattle.sb_model.specs.declared.boundary.Boundary.{Boundary}
use Rattle.sb_model.specs.declared.products.Space.{Space}
use Rattle.sb_model.specs.Building.{Building}
use Rattle.sb_report.specs.Entries.{count, signed, boundary_data}

-- the entries of boundaries, whose ids count up from this one
abbrev pub entries_from : Building → ℕ → List Boundary → List Data
entries_from m id [] = []
entries_from m id (b ∷ bs) = boundary_data m id b ∷ entries_from m (id + 1) bs

-- the numbers of spaces
abbrev pub space_numbers : List Space → Data
space_numbers spaces = array (items_of (map (λ s. count s.number) spaces))

-- the whole: the boundaries, the name of this form, the model's ground and reach in millimetres,
-- and the numbers of its spaces
unfoldable pub report_data : Building → List Boundary → Data
report_data m bs = object
    (member (codes "boundaries") (array (items_of (entries_from m 1 bs)))
    (member (codes "format") (string (codes "sbgen-1"))
    (member (codes "ground") (signed m.ground_height)
    (member (codes "reach") (count m.reach)
    (member (codes "spaces") (space_numbers m.spaces)
    no_members)))))

-- the text of the report: without spaces, and with a line feed at its end
unfoldable pub report_of : Building → List Boundary → List ℕ
report_of m bs = compact_text (report_data m bs) ++ codes "\n"
