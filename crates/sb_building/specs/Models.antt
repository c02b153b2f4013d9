-- The model of a file: its taken products, each with its prism.
use Rattle.std.specs.Prelude.{◌≡◌, ◌↔◌, ℕ, ℤ, true, List, [], ◌∷◌, map, Option, Some, option_map, codes, if◌then◌else◌}
use Rattle.theory_lists.specs.Members.{Stands}
use Rattle.sb_fraction.specs.declared.unit.Unit as units
use Rattle.sb_step.specs.Indexed.{Indexed}
use Rattle.sb_schema.specs.Table.{is_one_of}
use Rattle.sb_model.specs.declared.frame.Frame.{Frame}
use Rattle.sb_model.specs.declared.products.Space.{Space}
use Rattle.sb_model.specs.declared.products.Element.{Element}
use Rattle.sb_model.specs.declared.products.Opening.{Opening}
use Rattle.sb_model.specs.declared.products.Filling.{Filling}
use Rattle.sb_model.specs.declared.products.FillKind.{FillKind}
use Rattle.sb_model.specs.declared.products.FillKind.TheVariants as fill_kind
use Rattle.sb_model.specs.Building.{Building}
use Rattle.sb_profile.specs.Entities.Entity.{space}
use Rattle.sb_profile.specs.Contents.{Contents, Says}
use Rattle.sb_profile.specs.Products.{is_space, is_element, is_opening, is_filling, element_of, opening_of}
use Rattle.sb_profile.specs.Materials.{material_of}
use Rattle.sb_profile.specs.Units.{unit_in}
use Rattle.sb_building.specs.Placings.{IsPlacedIn}
use Rattle.sb_building.specs.Layerings.{layering_by}

-- the GlobalId of a space as read
abbrev pub global_id_of : Contents → ℕ → Option (List ℕ)
global_id_of c n = option_map (λ v. v.0) (c.given space n)

-- a door is an IFCDOOR, and what else fills an opening is a window
abbrev pub kind_of : Contents → ℕ → FillKind
kind_of c n =
    if is_one_of (codes "IFCDOOR" ∷ []) (c.keyword n) then fill_kind.Door else fill_kind.Window

-- the file has this space, element, opening or filling
pub record IsSpaceOf (indexed : Indexed) (c : Contents) (u : units.Unit) (s : Space) : Type 0 where
  pub global_id : global_id_of c s.number ≡ Some s.global_id
  pub placed : IsPlacedIn indexed c u s.number s.frame s.prism

pub record IsElementOf (indexed : Indexed) (c : Contents) (u : units.Unit) (e : Element) : Type 0 where
  pub frame : Frame
  pub placed : IsPlacedIn indexed c u e.number frame e.prism
  pub layering : e.layering
      ≡ layering_by c u (c.keyword e.number) e.prism frame.turn (material_of c e.number)

pub record IsOpeningOf (indexed : Indexed) (c : Contents) (u : units.Unit) (o : Opening) : Type 0 where
  pub frame : Frame
  pub placed : IsPlacedIn indexed c u o.number frame o.prism
  pub element : element_of c o.number ≡ Some o.element

pub record IsFillingOf (c : Contents) (f : Filling) : Type 0 where
  pub opening : opening_of c f.number ≡ Some f.opening
  pub kind : f.kind ≡ kind_of c f.number

-- The model has exactly the taken products of the file, each as the file has it. (Of every model the
-- numbers rise in each list.)
pub record IsModelBy (indexed : Indexed) (c : Contents) (ground : ℤ) (reach : ℕ) (m : Building)
    : Type 0 where
  pub unit : unit_in c ≡ Some m.unit
  pub ground_is : m.ground_height ≡ ground
  pub reach_is : m.reach ≡ reach
  pub spaces : (n : ℕ) → Stands n (map (λ s. s.number) m.spaces) ↔ (is_space c n ≡ true)
  pub elements : (n : ℕ) → Stands n (map (λ e. e.number) m.elements) ↔ (is_element c n ≡ true)
  pub openings : (n : ℕ) → Stands n (map (λ o. o.number) m.openings) ↔ (is_opening c n ≡ true)
  pub fillings : (n : ℕ) → Stands n (map (λ f. f.number) m.fillings) ↔ (is_filling c n ≡ true)
  pub each_space : (s : Space) → Stands s m.spaces → IsSpaceOf indexed c m.unit s
  pub each_element : (e : Element) → Stands e m.elements → IsElementOf indexed c m.unit e
  pub each_opening : (o : Opening) → Stands o m.openings → IsOpeningOf indexed c m.unit o
  pub each_filling : (f : Filling) → Stands f m.fillings → IsFillingOf c f

-- the model of a file, by what the file says
abbrev pub IsModelOf : Indexed → ℤ → ℕ → Building → Type 0
IsModelOf indexed ground reach m =
    (c : Contents) → Says indexed c → IsModelBy indexed c ground reach m
