-- A product has one condition at most: it is computed of its chain and its shape.
use Rattle.std.proofs.Common.{◌≡◌, ℕ, Bool, true, false, List, Option, Some, None, is_none, option_map, Result, Ok, Err, refl, sym, ap, ◌∙◌, inl, inr}
use Rattle.std.specs.Prelude.{if◌then◌else◌}
use Rattle.std.specs.List.{list_any}
use Rattle.sb_fraction.specs.declared.unit.Unit as units
use Rattle.sb_step.specs.Indexed.{Indexed}
use Rattle.sb_step.specs.Params.Parameters.{ParametersAreUnique}
use Rattle.sb_model.specs.declared.frame.Frame.{Frame}
use Rattle.sb_model.specs.Solids.{Upright}
use Rattle.sb_place.specs.declared.sight.Seen.{Seen}
use Rattle.sb_place.specs.Chains as chain
use Rattle.sb_place.specs.Chains.{Link, IsChain, most_placements, frame_of}
use Rattle.sb_place.specs.Judgement as frames
use Rattle.sb_place.specs.Laws.{ChainsAreUnique}
use Rattle.sb_prism.specs.declared.error.PrismError.{PrismError}
use Rattle.sb_prism.specs.declared.error.PrismError.TheVariants as prism_error
use Rattle.sb_prism.specs.Shapes.{Shape, Solid, IsShape}
use Rattle.sb_prism.specs.Faults as faults
use Rattle.sb_prism.specs.Prisms as prisms
use Rattle.sb_profile.specs.declared.defects.Code.{Code}
use Rattle.sb_profile.specs.declared.defects.Code.TheVariants as code
use Rattle.sb_profile.specs.Contents.{Contents, Says}
use Rattle.sb_profile.specs.Products.{placement_of, shape_of}
use Rattle.sb_profile.specs.Following.{building_placement}
use Rattle.sb_building.specs.Placings.{IsFrameIn, IsPrismIn, IsPlacedIn}
use Rattle.sb_building.specs.Conditions.{HasCondition}
use Rattle.sb_building.proofs.Followed.ShapesByContents.{shape_at, one_shape}

-- ---- the condition, by what is seen

abbrev by_chain : Bool → Bool → Bool → Code → Code
by_chain off turned far rest =
    if off then code.Chain else (if turned then code.Turned else (if far then code.Range else rest))

abbrev by_shape : Bool → Bool → Code → Code
by_shape turned misshapen rest = if turned then code.Turned else (if misshapen then code.Shape else rest)

abbrev by_solid : Bool → Bool → Bool → Code
by_solid far off none =
    if far then code.Range else (if off then code.OffGrid else (if none then code.Loops else code.Layers))

abbrev of_solid : units.Unit → Frame → Option Solid → Code
of_solid u f None = code.Layers
of_solid u f (Some s) =
    by_solid (prisms.is_out_of_range u f s) (prisms.is_off_grid u f s) (is_none (prisms.prism_of u f s))

abbrev of_shape : units.Unit → Frame → Option (Seen Shape) → Code
of_shape u f None = code.Layers
of_shape u f (Some s) =
    by_shape (faults.is_turned s) (faults.is_misshapen u s) (of_solid u f (faults.solid_of s))

abbrev of_product : units.Unit → List Link → Bool → Option (Seen Shape) → Code
of_product u links reached s =
    by_chain (frames.is_broken_off links reached) (list_any chain.is_turned links)
    (frames.is_out_of_range u links) (of_shape u (frame_of u links) s)

module _ (unique : ParametersAreUnique) (one_chain : ChainsAreUnique) (i : Indexed) (c : Contents)
    (says : Says i c) (u : units.Unit) (p : ℕ) where
  -- the shape of the product as it is seen
  abbrev seen_shape : Option (Seen Shape)
  seen_shape = option_map (shape_at unique i c says) (shape_of c p)

  -- the condition of the product's chain and shape
  record IsOf (k : Code) : Type 0 where
    links : List Link
    reached : Bool
    is : IsChain i (building_placement c) most_placements (placement_of c p) links reached
    same : k ≡ of_product u links reached seen_shape

  -- ---- of the chain

  off : (links : List Link) (reached : Bool) → frames.is_broken_off links reached ≡ true
      → code.Chain ≡ of_product u links reached seen_shape
  off links reached is =
      sym (ap (λ b. by_chain b (list_any chain.is_turned links) (frames.is_out_of_range u links)
      (of_shape u (frame_of u links) seen_shape)) is)

  turned : (links : List Link) (reached : Bool) → frames.is_broken_off links reached ≡ false
      → list_any chain.is_turned links ≡ true → code.Turned ≡ of_product u links reached seen_shape
  turned links reached whole is =
      sym (ap (λ b. by_chain b (list_any chain.is_turned links) (frames.is_out_of_range u links)
      (of_shape u (frame_of u links) seen_shape)) whole
      ∙ ap (λ b. by_chain false b (frames.is_out_of_range u links) (of_shape u (frame_of u links) seen_shape)) is)

  far : (links : List Link) (reached : Bool) → frames.is_broken_off links reached ≡ false
      → list_any chain.is_turned links ≡ false → frames.is_out_of_range u links ≡ true
      → code.Range ≡ of_product u links reached seen_shape
  far links reached whole straight is =
      sym (ap (λ b. by_chain b (list_any chain.is_turned links) (frames.is_out_of_range u links)
      (of_shape u (frame_of u links) seen_shape)) whole
      ∙ ap (λ b. by_chain false b (frames.is_out_of_range u links) (of_shape u (frame_of u links) seen_shape))
      straight
      ∙ ap (λ b. by_chain false false b (of_shape u (frame_of u links) seen_shape)) is)

  -- a chain without fault leaves the shape's
  sound : (links : List Link) (reached : Bool) → frames.is_broken_off links reached ≡ false
      → list_any chain.is_turned links ≡ false → frames.is_out_of_range u links ≡ false
      → of_product u links reached seen_shape ≡ of_shape u (frame_of u links) seen_shape
  sound links reached whole straight near =
      ap (λ b. by_chain b (list_any chain.is_turned links) (frames.is_out_of_range u links)
      (of_shape u (frame_of u links) seen_shape)) whole
      ∙ ap (λ b. by_chain false b (frames.is_out_of_range u links) (of_shape u (frame_of u links) seen_shape))
      straight
      ∙ ap (λ b. by_chain false false b (of_shape u (frame_of u links) seen_shape)) near

  -- ---- of the shape

  shape_turned : (f : Frame) (s : Seen Shape) → faults.is_turned s ≡ true → code.Turned ≡ of_shape u f (Some s)
  shape_turned f s is =
      sym (ap (λ b. by_shape b (faults.is_misshapen u s) (of_solid u f (faults.solid_of s))) is)

  misshapen : (f : Frame) (s : Seen Shape) → faults.is_turned s ≡ false → faults.is_misshapen u s ≡ true
      → code.Shape ≡ of_shape u f (Some s)
  misshapen f s straight is =
      sym (ap (λ b. by_shape b (faults.is_misshapen u s) (of_solid u f (faults.solid_of s))) straight
      ∙ ap (λ b. by_shape false b (of_solid u f (faults.solid_of s))) is)

  to_solid : (f : Frame) (s : Seen Shape) (solid : Solid) → faults.is_turned s ≡ false
      → faults.is_misshapen u s ≡ false → faults.solid_of s ≡ Some solid
      → of_shape u f (Some s) ≡ of_solid u f (Some solid)
  to_solid f s solid straight shaped found =
      ap (λ b. by_shape b (faults.is_misshapen u s) (of_solid u f (faults.solid_of s))) straight
      ∙ ap (λ b. by_shape false b (of_solid u f (faults.solid_of s))) shaped
      ∙ ap (of_solid u f) found

  solid_far : (f : Frame) (s : Solid) → prisms.is_out_of_range u f s ≡ true
      → code.Range ≡ of_solid u f (Some s)
  solid_far f s is =
      sym (ap (λ b. by_solid b (prisms.is_off_grid u f s) (is_none (prisms.prism_of u f s))) is)

  solid_off : (f : Frame) (s : Solid) → prisms.is_out_of_range u f s ≡ false
      → prisms.is_off_grid u f s ≡ true → code.OffGrid ≡ of_solid u f (Some s)
  solid_off f s near is =
      sym (ap (λ b. by_solid b (prisms.is_off_grid u f s) (is_none (prisms.prism_of u f s))) near
      ∙ ap (λ b. by_solid false b (is_none (prisms.prism_of u f s))) is)

  solid_knotted : (f : Frame) (s : Solid) → prisms.is_out_of_range u f s ≡ false
      → prisms.is_off_grid u f s ≡ false → prisms.prism_of u f s ≡ None → code.Loops ≡ of_solid u f (Some s)
  solid_knotted f s near on none =
      sym (ap (λ b. by_solid b (prisms.is_off_grid u f s) (is_none (prisms.prism_of u f s))) near
      ∙ ap (λ b. by_solid false b (is_none (prisms.prism_of u f s))) on
      ∙ ap (λ o. by_solid false false (is_none o)) none)

  solid_stands : (f : Frame) (s : Solid) (prism : Upright) → prisms.is_out_of_range u f s ≡ false
      → prisms.is_off_grid u f s ≡ false → prisms.prism_of u f s ≡ Some prism
      → code.Layers ≡ of_solid u f (Some s)
  solid_stands f s prism near on some =
      sym (ap (λ b. by_solid b (prisms.is_off_grid u f s) (is_none (prisms.prism_of u f s))) near
      ∙ ap (λ b. by_solid false b (is_none (prisms.prism_of u f s))) on
      ∙ ap (λ o. by_solid false false (is_none o)) some)

  -- what is answered of the prism, and the code that it is
  abbrev CodeOf : Result Upright PrismError → Code → Type 0
  CodeOf (Err prism_error.Turned) k = k ≡ code.Turned
  CodeOf (Err prism_error.Shape) k = k ≡ code.Shape
  CodeOf (Err prism_error.Range) k = k ≡ code.Range
  CodeOf (Err prism_error.OffGrid) k = k ≡ code.OffGrid
  CodeOf (Err prism_error.Loops) k = k ≡ code.Loops
  CodeOf (Ok prism) k = k ≡ code.Layers
  CodeOf _ k = ⊥

  judged : (f : Frame) (s : Seen Shape) (r : Result Upright PrismError) (k : Code) → CodeOf r k
      → prisms.Judges u f s r → k ≡ of_shape u f (Some s)
  judged f s (Err prism_error.Turned) k is (read, turned_is) = is ∙ shape_turned f s turned_is
  judged f s (Err prism_error.Shape) k is (read, straight, shaped) = is ∙ misshapen f s straight shaped
  judged f s (Err prism_error.Range) k is (read, straight, shaped, (solid, found, far_is)) =
      is ∙ solid_far f solid far_is ∙ sym (to_solid f s solid straight shaped found)
  judged f s (Err prism_error.OffGrid) k is (read, straight, shaped, (solid, found, (near, off_is))) =
      is ∙ solid_off f solid near off_is ∙ sym (to_solid f s solid straight shaped found)
  judged f s (Err prism_error.Loops) k is (read, straight, shaped, (solid, found, (near, on, none))) =
      is ∙ solid_knotted f solid near on none ∙ sym (to_solid f s solid straight shaped found)
  judged f s (Ok prism) k is (read, straight, shaped, (solid, found, (near, on, some))) =
      is ∙ solid_stands f solid prism near on some ∙ sym (to_solid f s solid straight shaped found)
  judged f s (Err (prism_error.Fields n)) k is judges = absurd is
  judged f s (Err (prism_error.Missing n)) k is judges = absurd is
  judged f s (Err prism_error.NoMemory) k is judges = absurd is

  -- a frame, and the code of what is answered of the prism in it
  together : (f : Frame) (k : Code) → IsFrameIn i c u p (Ok f) → (shape : ℕ) (s : Seen Shape)
      → shape_of c p ≡ Some shape → IsShape i shape s → k ≡ of_shape u f (Some s) → IsOf k
  together f k (links, reached, is, (read, whole, straight, near, frame)) shape s shape_is sees same = record {
    links = links;
    reached = reached;
    is = is;
    same = same
        ∙ ap (λ o. of_shape u f o)
        (ap Some (one_shape unique i c says shape s sees) ∙ sym (ap (option_map (shape_at unique i c says)) shape_is))
        ∙ ap (λ g. of_shape u g seen_shape) frame
        ∙ sym (sound links reached whole straight near);
  }

  -- by each answer
  of_prism : (f : Frame) (r : Result Upright PrismError) (k : Code) → CodeOf r k → IsFrameIn i c u p (Ok f)
      → IsPrismIn i c u p f r → IsOf k
  of_prism f (Err (prism_error.Fields n)) k is frame prism = absurd is
  of_prism f (Err (prism_error.Missing n)) k is frame prism = absurd is
  of_prism f (Err prism_error.NoMemory) k is frame prism = absurd is
  of_prism f (Err prism_error.Turned) k is frame (shape, shape_is, (s, sees, judges)) =
      together f k frame shape s shape_is sees (judged f s (Err prism_error.Turned) k is judges)
  of_prism f (Err prism_error.Shape) k is frame (shape, shape_is, (s, sees, judges)) =
      together f k frame shape s shape_is sees (judged f s (Err prism_error.Shape) k is judges)
  of_prism f (Err prism_error.Range) k is frame (shape, shape_is, (s, sees, judges)) =
      together f k frame shape s shape_is sees (judged f s (Err prism_error.Range) k is judges)
  of_prism f (Err prism_error.OffGrid) k is frame (shape, shape_is, (s, sees, judges)) =
      together f k frame shape s shape_is sees (judged f s (Err prism_error.OffGrid) k is judges)
  of_prism f (Err prism_error.Loops) k is frame (shape, shape_is, (s, sees, judges)) =
      together f k frame shape s shape_is sees (judged f s (Err prism_error.Loops) k is judges)
  of_prism f (Ok prism) k is frame (shape, shape_is, (s, sees, judges)) =
      together f k frame shape s shape_is sees (judged f s (Ok prism) k is judges)

  -- ---- of each code

  is_of : (k : Code) → HasCondition i c u k p → IsOf k
  is_of code.Chain (links, reached, is, (read, off_is)) =
      record { links = links; reached = reached; is = is; same = off links reached off_is }
  is_of code.Turned (inl (links, reached, is, (read, whole, turned_is))) =
      record { links = links; reached = reached; is = is; same = turned links reached whole turned_is }
  is_of code.Turned (inr (f, frame, prism)) = of_prism f (Err prism_error.Turned) code.Turned refl frame prism
  is_of code.Shape (f, frame, prism) = of_prism f (Err prism_error.Shape) code.Shape refl frame prism
  is_of code.Range (inl (links, reached, is, (read, whole, straight, far_is))) =
      record { links = links; reached = reached; is = is; same = far links reached whole straight far_is }
  is_of code.Range (inr (f, frame, prism)) = of_prism f (Err prism_error.Range) code.Range refl frame prism
  is_of code.OffGrid (f, frame, prism) = of_prism f (Err prism_error.OffGrid) code.OffGrid refl frame prism
  is_of code.Loops (f, frame, prism) = of_prism f (Err prism_error.Loops) code.Loops refl frame prism
  is_of code.Layers bad =
      of_prism bad.f (Ok bad.prism) code.Layers refl bad.placed.frame bad.placed.prism_is
  is_of code.Schema none = absurd none
  is_of code.Units none = absurd none
  is_of code.Building none = absurd none
  is_of code.Class none = absurd none
  is_of code.Fields none = absurd none
  is_of code.Missing none = absurd none

  one_of : (j k : Code) → IsOf j → IsOf k → j ≡ k
  one_of j k first second =
      let same = one_chain i (building_placement c) most_placements (placement_of c p) first.links second.links
      first.reached second.reached first.is second.is in
      first.same
      ∙ ap (λ ls. of_product u ls first.reached seen_shape) same.0
      ∙ ap (λ r. of_product u second.links r seen_shape) same.1
      ∙ sym second.same

  pub one_condition : (j k : Code) → HasCondition i c u j p → HasCondition i c u k p → j ≡ k
  one_condition j k first second = one_of j k (is_of j first) (is_of k second)

  -- a product that stands in a frame and fills a prism has no condition but that of its layers
  pub only_layers : (f : Frame) (prism : Upright) (k : Code) → IsPlacedIn i c u p f prism
      → HasCondition i c u k p → k ≡ code.Layers
  only_layers f prism k placed has =
      one_of k code.Layers (is_of k has)
      (of_prism f (Ok prism) code.Layers refl placed.frame placed.prism_is)
