-- Products as their placements are judged, one after another: those that stand in a frame, and the
-- conditions of the others.
use Rattle.std.specs.Prelude.{◌≡◌, ℕ, Bool, true, ◌⊎◌, List, [], ◌∷◌, ◌++◌, Option, Some, None, Ok, Err}
use Rattle.theory_lists.specs.Members.{Stands}
use Rattle.sb_fraction.specs.declared.unit.Unit as units
use Rattle.sb_step.specs.Indexed.{Indexed}
use Rattle.sb_model.specs.declared.frame.Frame.{Frame}
use Rattle.sb_place.specs.declared.error.PlaceError.{PlaceError}
use Rattle.sb_place.specs.declared.error.PlaceError.TheVariants as place_error
use Rattle.sb_place.specs.Judgement.{IsFrameOf}
use Rattle.sb_profile.specs.declared.reading.products.Shaped.{Shaped}
use Rattle.sb_profile.specs.declared.defects.Code.{Code}
use Rattle.sb_profile.specs.declared.defects.Code.TheVariants as code
use Rattle.sb_profile.specs.declared.defects.Defect.{Defect}
use Rattle.sb_profile.specs.Contents.{Contents}
use Rattle.sb_profile.specs.Products.{is_taken, shape_of}
use Rattle.sb_profile.specs.Following.{building_placement}
use Rattle.sb_profile.specs.Steps.Read.{AreTaken}
use Rattle.sb_building.specs.declared.judging.standing.Standing.{Standing}
use Rattle.sb_building.specs.Placings.{IsFrameIn}
use Rattle.sb_building.specs.Conditions.{HasCondition}
use Rattle.sb_building.specs.Steps.Least.{IsLeastOf}
use Rattle.sb_building.specs.Steps.Order.{Rise}

-- the code of what is answered of a placement; an instance that is not of its row, or absent, is a defect
-- of the file
abbrev pub code_of : PlaceError → Option Code
code_of place_error.Chain = Some code.Chain
code_of place_error.Turned = Some code.Turned
code_of place_error.Range = Some code.Range
code_of _ = None

abbrev pub standing : Shaped → Frame → Standing
standing p f = record { number = p.number; shape = p.shape; frame = f }

-- the product stands in this frame
pub record StandsAs (i : Indexed) (b : Option ℕ) (u : units.Unit) (ps : List Shaped) (s : Standing)
    : Type 0 where
  pub product : Shaped
  pub f : Frame
  pub among : Stands product ps
  pub is : s ≡ standing product f
  pub frame : IsFrameOf i product.placement b u (Ok f)

-- the product has no frame, and so this condition
pub record HasFault (i : Indexed) (b : Option ℕ) (u : units.Unit) (ps : List Shaped) (n : ℕ) (k : Code)
    : Type 0 where
  pub product : Shaped
  pub fault : PlaceError
  pub among : Stands product ps
  pub number : product.number ≡ n
  pub code : code_of fault ≡ Some k
  pub frame : IsFrameOf i product.placement b u (Err fault)

-- it stands in a frame, or its condition was seen
abbrev pub IsJudgedAmong : List Standing → List (ℕ × Code) → Shaped → Type 0
IsJudgedAmong all seen p =
    ((f : Frame) × Stands (standing p f) all) ⊎ ((k : Code) × Stands (p.number, k) seen)

-- these products were judged: they stand there, or their conditions were seen
pub record AreStanding (i : Indexed) (b : Option ℕ) (u : units.Unit) (ps : List Shaped)
    (all : List Standing) (seen : List (ℕ × Code)) : Type 0 where
  pub rise : Rise (λ p. p.number) ps → Rise (λ s. s.number) all
  pub standing_are : (s : Standing) → Stands s all → StandsAs i b u ps s
  pub seen_are : (n : ℕ) (k : Code) → Stands (n, k) seen → HasFault i b u ps n k
  pub each : (p : Shaped) → Stands p ps → IsJudgedAmong all seen p

-- one product more was judged: it stands behind the others, or its condition was seen
abbrev pub IsOneMore : Indexed → Option ℕ → units.Unit → Shaped → List Standing → List Standing
    → Option Defect → Option Defect → Type 0
IsOneMore i b u p old new found then_found =
    ((f : Frame) × IsFrameOf i p.placement b u (Ok f) × (new ≡ old ++ standing p f ∷ [])
    × (then_found ≡ found))
    ⊎ ((e : PlaceError) × (k : Code) × IsFrameOf i p.placement b u (Err e) × (code_of e ≡ Some k)
    × (new ≡ old)
    × ((seen : List (ℕ × Code)) → IsLeastOf seen found → IsLeastOf (seen ++ (p.number, k) ∷ []) then_found))

-- some products were judged, behind conditions that had been seen
abbrev pub AreJudged : Indexed → Option ℕ → units.Unit → List Shaped → List Standing
    → Option Defect → Option Defect → Type 0
AreJudged i b u ps all found then_found =
    (before : List (ℕ × Code)) → IsLeastOf before found
    → (seen : List (ℕ × Code)) × AreStanding i b u ps all seen × IsLeastOf (before ++ seen) then_found

-- ---- of taken products

-- a product that passes the test stands in this frame, with its shape
pub record IsTakenStanding (i : Indexed) (c : Contents) (u : units.Unit) (test : ℕ → Bool) (s : Standing)
    : Type 0 where
  pub taken : is_taken c s.number ≡ true
  pub passes : test s.number ≡ true
  pub frame_is : IsFrameIn i c u s.number (Ok s.frame)
  pub shape_is : shape_of c s.number ≡ Some s.shape

-- the products that pass the test stand there, or their conditions were seen
pub record AreTakenStanding (i : Indexed) (c : Contents) (u : units.Unit) (test : ℕ → Bool)
    (all : List Standing) (seen : List (ℕ × Code)) : Type 0 where
  pub standing_are : (s : Standing) → Stands s all → IsTakenStanding i c u test s
  pub seen_are : (n : ℕ) (k : Code) → Stands (n, k) seen → (is_taken c n ≡ true) × HasCondition i c u k n
  pub each : (n : ℕ) → test n ≡ true
      → ((s : Standing) × Stands s all × (s.number ≡ n)) ⊎ ((k : Code) × Stands (n, k) seen)

-- taken products were judged, behind conditions that had been seen
abbrev pub TakenAreJudged : Indexed → Option ℕ → units.Unit → List Shaped → List Standing
    → Option Defect → Option Defect → Type 0
TakenAreJudged i b u ps all found then_found =
    (before : List (ℕ × Code)) → IsLeastOf before found
    → (seen : List (ℕ × Code)) × Rise (λ s. s.number) all × IsLeastOf (before ++ seen) then_found
    × ((c : Contents) (test : ℕ → Bool) → AreTaken c test ps → b ≡ building_placement c
    → AreTakenStanding i c u test all seen)
