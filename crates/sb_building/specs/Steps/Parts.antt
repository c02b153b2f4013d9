-- The parts of a model: lists of products.
use Rattle.std.specs.Prelude.{◌≡◌, ℕ, ℤ, Bool, true, List, [], ◌∷◌, ◌++◌, is_some, Option, Some, if◌then◌else◌, codes}
use Rattle.theory_lists.specs.Members.{Stands}
use Rattle.sb_step.specs.Indexed.{Indexed}
use Rattle.sb_schema.specs.Table.{is_one_of}
use Rattle.sb_model.specs.declared.products.Space.{Space}
use Rattle.sb_model.specs.declared.products.Element.{Element}
use Rattle.sb_model.specs.declared.products.Opening.{Opening}
use Rattle.sb_model.specs.declared.products.Filling.{Filling}
use Rattle.sb_model.specs.declared.products.FillKind.{FillKind}
use Rattle.sb_model.specs.declared.products.FillKind.TheVariants as fill_kind
use Rattle.sb_model.specs.Building.{Building, building}
use Rattle.sb_profile.specs.declared.reading.links.Link.{Link}
use Rattle.sb_profile.specs.Entities.Entity.{opening_filling}
use Rattle.sb_profile.specs.Contents.{Contents}
use Rattle.sb_profile.specs.Products.{is_space, is_element, is_opening, is_filling}
use Rattle.sb_profile.specs.Units.{unit_in}
use Rattle.sb_building.specs.declared.lists.assembled.Parts.{Parts}
use Rattle.sb_building.specs.Models.{kind_of, IsSpaceOf, IsElementOf, IsOpeningOf, IsFillingOf}
use Rattle.sb_building.specs.Steps.Order.{Rise}

-- by rising numbers, all items whose numbers pass the test, each as it has to be
pub record AreOf {X : Type 0} (number : X → ℕ) (test : ℕ → Bool) (Is : X → Type 0) (xs : List X)
    : Type 0 where
  pub rise : Rise number xs
  pub sound : (x : X) → Stands x xs → (test (number x) ≡ true) × Is x
  pub complete : (n : ℕ) → test n ≡ true → (x : X) × Stands x xs × (number x ≡ n)

-- the products of a file, in four lists
pub record AreParts (i : Indexed) (c : Contents) (p : Parts) : Type 0 where
  pub unit_is : unit_in c ≡ Some p.unit
  pub spaces_are : AreOf (λ (s : Space). s.number) (is_space c) (IsSpaceOf i c p.unit) p.spaces
  pub elements_are : AreOf (λ (e : Element). e.number) (is_element c) (IsElementOf i c p.unit) p.elements
  pub openings_are : AreOf (λ (o : Opening). o.number) (is_opening c) (IsOpeningOf i c p.unit) p.openings
  pub fillings_are : AreOf (λ (f : Filling). f.number) (is_filling c) (IsFillingOf c) p.fillings

-- a model of these products
abbrev pub model_with : Parts → ℤ → ℕ → Building
model_with p ground_height reach =
    building p.unit ground_height reach p.spaces p.elements p.openings p.fillings

-- ---- fillings

abbrev pub filling_as : ℕ → ℕ → FillKind → Filling
filling_as number opening kind = record { number = number; opening = opening; kind = kind }

-- a door or window of an opening; nothing where the instance is neither
abbrev pub filled_if : Bool → ℕ → ℕ → FillKind → List Filling
filled_if is number opening kind = if is then filling_as number opening kind ∷ [] else []

abbrev pub filled : Contents → ℕ → ℕ → List Filling
filled c n opening = filled_if (is_some (c.given opening_filling n)) n opening (kind_of c n)

-- by entries of a table
abbrev pub all_filled : Contents → List (ℕ × Link) → List Filling
all_filled c [] = []
all_filled c (e ∷ es) = filled c e.0 e.1.target ++ all_filled c es

-- the kind by a keyword
abbrev pub kind_by : Option (List ℕ) → FillKind
kind_by keyword = if is_one_of (codes "IFCDOOR" ∷ []) keyword then fill_kind.Door else fill_kind.Window
