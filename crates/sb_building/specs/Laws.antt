-- Laws: what is at fault where a product is read is a defect of the file; a file has one model for each
-- ground and reach.
use Rattle.std.specs.Prelude.{◌≡◌, ℕ, ℤ, true, List, Option, Some, None, Err, IsTrue}
use Rattle.sb_fraction.specs.declared.unit.Unit as units
use Rattle.sb_model.specs.declared.frame.Frame.{Frame}
use Rattle.sb_place.specs.declared.error.PlaceError.TheVariants as place_error
use Rattle.sb_prism.specs.declared.error.PrismError.TheVariants as prism_error
use Rattle.sb_profile.specs.declared.defects.Code.{Code}
use Rattle.sb_profile.specs.declared.defects.Code.TheVariants as code
use Rattle.sb_profile.specs.declared.defects.Defect.{Defect}
use Rattle.sb_profile.specs.Defects.{Occurs, file_codes}
use Rattle.sb_profile.specs.First.{IsFirst, IsFirstDefect}
use Rattle.sb_profile.specs.Products.{is_taken}
use Rattle.sb_profile.specs.Units.{unit_in}
use Rattle.sb_step.specs.Indexed.{Indexed}
use Rattle.sb_profile.specs.Contents.{Contents, Says}
use Rattle.sb_model.specs.Building.{Building, is_building}
use Rattle.sb_building.specs.Placings.{IsFrameIn, IsPrismIn}
use Rattle.sb_building.specs.Conditions.{HasCondition, OccursAt, IsFirstOfProducts, IsFirstIn, product_codes, all_codes}
use Rattle.sb_building.specs.Models.{IsModelBy}
use Rattle.sb_building.specs.Steps.Least.{IsLeastOf}
use Rattle.sb_building.specs.Steps.Given.{AreGiven}

-- What is answered of the frame of a taken product: an instance that is not of its row, or an absent one,
-- is a defect of the file.
pub record FramesAreRead (indexed : Indexed) (c : Contents) (u : units.Unit) (p n : ℕ) : Type 0 where
  pub unfit : IsFrameIn indexed c u p (Err (place_error.Fields n)) → Occurs c code.Fields n
  pub absent : IsFrameIn indexed c u p (Err (place_error.Missing n)) → Occurs c code.Missing n

-- and of its prism in a frame
pub record PrismsAreRead (indexed : Indexed) (c : Contents) (u : units.Unit) (f : Frame) (p n : ℕ)
    : Type 0 where
  pub unfit : IsPrismIn indexed c u p f (Err (prism_error.Fields n)) → Occurs c code.Fields n
  pub absent : IsPrismIn indexed c u p f (Err (prism_error.Missing n)) → Occurs c code.Missing n

-- so that a file without these two defects has no product of which either is answered
abbrev pub ProductsAreRead : Type 0
ProductsAreRead =
    (indexed : Indexed) (c : Contents) (u : units.Unit) (p n : ℕ) → Says indexed c → is_taken c p ≡ true
    → FramesAreRead indexed c u p n × ((f : Frame) → PrismsAreRead indexed c u f p n)

-- a product has one condition at most
abbrev pub OneCondition : Type 0
OneCondition =
    (indexed : Indexed) (c : Contents) (u : units.Unit) (p : ℕ) (one two : Code) → Says indexed c
    → HasCondition indexed c u one p → HasCondition indexed c u two p → one ≡ two

-- a file and its products have one first defect, or none
abbrev pub OneFirstIn : Type 0
OneFirstIn =
    (indexed : Indexed) (c : Contents) (codes : List Code) (one two : Option Defect) → Says indexed c
    → IsFirstIn indexed codes one → IsFirstIn indexed codes two → one ≡ two

-- the first defect of the file comes before those of its products
abbrev pub FileComesFirst : Type 0
FileComesFirst =
    (indexed : Indexed) (defect : Defect) → IsFirstDefect indexed file_codes (Some defect)
    → IsFirstIn indexed all_codes (Some defect)

-- where it has none, the first of its products is the first of all
abbrev pub ProductsFollow : Type 0
ProductsFollow =
    (indexed : Indexed) (found : Option Defect) → IsFirstDefect indexed file_codes None
    → IsFirstOfProducts indexed product_codes found → IsFirstIn indexed all_codes found

-- A file has one model at most for each ground and reach.
abbrev pub OneModel : Type 0
OneModel =
    (indexed : Indexed) (c : Contents) (ground : ℤ) (reach : ℕ) (one two : Building)
    → Says indexed c → IsTrue (is_building one) → IsTrue (is_building two)
    → IsModelBy indexed c ground reach one → IsModelBy indexed c ground reach two → one ≡ two

-- Where it was found of each taken product which condition it has, the least of these conditions is the
-- first of products.
abbrev pub LeastOfProducts : Type 0
LeastOfProducts =
    (indexed : Indexed) (c : Contents) (u : units.Unit) (seen : List (ℕ × Code)) (found : Option Defect)
    → Says indexed c → unit_in c ≡ Some u → AreGiven indexed c u seen → IsLeastOf seen found
    → IsFirst (OccursAt indexed c) product_codes found
