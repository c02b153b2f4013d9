-- What holds of each face of a box: a plain point lies in one patch of it and looks out at the
-- patch's end, and the points of a patch are points of the face.
use Rattle.std.proofs.Common.{◌≡◌, refl, sym, ap, ◌∙◌, arith, ℕ, ℤ, pos, ◌*ℤ◌, ◌<ℤ◌, ◌≤ℤ◌, Bool}
use Rattle.std.proofs.Common.{true, false, not, ◌&&◌, int_lt, subst, ⊎_elim, Option, Some}
use Rattle.std.specs.List.{AllByRecursion}
use Rattle.std.proofs.lemmas.Int.{ints}
use Rattle.std.proofs.lemmas.Bool.{and_from, and_parts, true≢false, false≢true}
use Rattle.std.proofs.lemmas.Bool.Decides.{Decides-int_eq}
use Rattle.theory_numbers.specs.Arrows.{Arrow}
use Rattle.theory_numbers.specs.Rationals.{IsRational, IsBelow}
use Rattle.theory_numbers.proofs.Signs.{less_from, test_less}
use Rattle.theory_numbers.proofs.Products.{scale_at_most, negative_product, weak_product}
use Rattle.theory_numbers.proofs.Ring.{mul_comm}
use Rattle.theory_cuttings.specs.Passages.{ray_start}
use Rattle.sb_model.specs.declared.faces.face.FaceKind.{FaceKind}
use Rattle.sb_model.specs.declared.faces.face.FaceKind.TheVariants as kind
use Rattle.sb_model.specs.declared.labels.label.Label.TheVariants as label
use Rattle.sb_model.specs.declared.walk.End.{End}
use Rattle.sb_model.specs.declared.walk.End.TheVariants as end
use Rattle.sb_fraction.specs.Spots.{Spot, Vector, IsSpot, along, reading, times_w}
use Rattle.sb_fraction.specs.Edges.{Edge, is_on}
use Rattle.sb_model.specs.Solids.{is_between_heights}
use Rattle.sb_model.specs.PlanEdges.{is_abscissa}
use Rattle.sb_model.specs.Surfaces.PlainPoints.{is_plain, is_off_cuts, is_off_side_cuts, is_at_height}
use Rattle.sb_model.specs.Surfaces.PlainPoints.{is_at_ground}
use Rattle.sb_model.specs.Labels.{label_at, open_label}
use Rattle.sb_model.specs.Surfaces.Faces.{Surface, side_over, is_in_plane, is_of_face, is_of_side}
use Rattle.sb_model.specs.Surfaces.Faces.{edge_numbered, bottom_of, top_of}
use Rattle.sb_fraction.specs.Directions.{direction_of, axis_z}
use Rattle.sb_model.specs.Surfaces.Patches.{is_same_kind}
use Rattle.theory_lists.specs.OneOf.{ExactlyOne}
use Rattle.theory_models.proofs.PatchesBetweenLevels.{is_in_window}
use Rattle.theory_lists.proofs.Members.{all_follow}
use Rattle.theory_models.proofs.PassagesOfRays.{LooksOut, looks_out_throughout}
use Rattle.sb_box.specs.declared.extent.Extent.{Extent}
use Rattle.sb_box.specs.BoxList.{BoxPatch, box_patches, box_patch, above, below}
use Rattle.sb_box.specs.BoxModel.{prism_of}
use Rattle.sb_box.proofs.BoxLabels.{Besides, box_model, label_outside, beside, below_is_earth}
use Rattle.sb_box.proofs.BoxLabels.{above_is_void}
use Rattle.sb_box.proofs.BoxSides.{IsRising, IsBoxSide, reads_z}
use Rattle.sb_box.proofs.BoxLevels.{on_bottom, of_bottom, bottom_looks_out, on_top, of_top}
use Rattle.sb_box.proofs.BoxLevels.{top_looks_out}
use Rattle.sb_box.proofs.PatchesOfBoxFaces.{patch_test, window_tells, OnFace, IsPart, MeetsBySide}
use Rattle.sb_box.proofs.PatchesOfBoxFaces.{HasParts, HasOne, IsOver, bottom_once, top_once}
use Rattle.sb_box.proofs.PatchesOfBoxFaces.{bottom_alone, top_alone}

-- the point lies in this patch of the face
abbrev pub lies_in : FaceKind → Surface → Spot → BoxPatch → Bool
lies_in k f p = patch_test k (times_w p f.across) (times_w p f.up) p.w

-- what is shown of each face: a plain point lies in one patch, a point of the plane in a patch is
-- of the face, and a plain point of a patch looks out at its end
pub record FaceFacts (s : Besides) (n : ℕ) (e : Extent) (k : FaceKind) (f : Surface) : Type 0 where
  pub once : (p : Spot) → IsSpot p → is_plain (box_model s n e) (prism_of e) k p ≡ true
      → ExactlyOne (lies_in k f p) (box_patches e)
  pub inside : (p : Spot) → IsSpot p → is_in_plane f p ≡ true
      → AllByRecursion (λ q. lies_in k f p q ≡ true → is_of_face (prism_of e) k p ≡ true)
      (box_patches e)
  pub looks : (p : Spot) → IsSpot p → is_plain (box_model s n e) (prism_of e) k p ≡ true
      → AllByRecursion (λ q. lies_in k f p q ≡ true → LooksOut (box_model s n e) f p q.end)
      (box_patches e)

-- ---- Bottom and Top

over_window : (e : Extent) (u v w : ℤ) → is_in_window e.x0 e.x1 e.y0 e.y1 u v w ≡ true
    → IsOver e u v w
over_window e u v w inside =
    let t = window_tells e.x0 e.x1 e.y0 e.y1 u v w inside in
    record { left = t.0.0; right = t.0.1; low = t.1.0; high = t.1.1 }

-- a patch that contains the point is of this face, and its window contains the point
lies_tells : (k : FaceKind) (f : Surface) (p : Spot) (q : BoxPatch) → lies_in k f p q ≡ true
    → (is_same_kind q.kind k ≡ true)
    × (is_in_window q.low q.high q.lower q.upper (times_w p f.across) (times_w p f.up) p.w
    ≡ true)
lies_tells k f p q lies =
    and_parts (is_same_kind q.kind k)
    (is_in_window q.low q.high q.lower q.upper (times_w p f.across) (times_w p f.up) p.w) lies

lies_over : (e : Extent) (k : FaceKind) (f : Surface) (found : End) (p : Spot) (q : BoxPatch)
    → OnFace k (λ t. t ≡ box_patch k e.x0 e.x1 e.y0 e.y1 found) q → lies_in k f p q ≡ true
    → IsOver e (times_w p f.across) (times_w p f.up) p.w
lies_over e k f found p q alone lies =
    let tells = lies_tells k f p q lies in
    over_window e (times_w p f.across) (times_w p f.up) p.w
    (subst (λ (t : BoxPatch). is_in_window t.low t.high t.lower t.upper (times_w p f.across)
    (times_w p f.up) p.w ≡ true)
    (alone tells.0) tells.1)

plain_of_face : (s : Besides) (n : ℕ) (e : Extent) (k : FaceKind) (p : Spot)
    → is_plain (box_model s n e) (prism_of e) k p ≡ true → is_of_face (prism_of e) k p ≡ true
plain_of_face s n e k p plain =
    (and_parts (is_of_face (prism_of e) k p)
    (is_off_cuts (box_model s n e) (prism_of e) k p) plain).0

level_facts : (s : Besides) (n : ℕ) (e : Extent) (k : FaceKind) (f : Surface) (found : End)
    → ((u v w : ℤ) → IsOver e u v w → ExactlyOne (patch_test k u v w) (box_patches e))
    → AllByRecursion (OnFace k (λ q. q ≡ box_patch k e.x0 e.x1 e.y0 e.y1 found)) (box_patches e)
    → ((p : Spot) → IsSpot p → is_of_face (prism_of e) k p ≡ true
    → IsOver e (times_w p f.across) (times_w p f.up) p.w)
    → ((p : Spot) → IsSpot p → is_in_plane f p ≡ true
    → IsOver e (times_w p f.across) (times_w p f.up) p.w
    → is_of_face (prism_of e) k p ≡ true)
    → ((p : Spot) → IsSpot p → is_of_face (prism_of e) k p ≡ true
    → LooksOut (box_model s n e) f p found)
    → FaceFacts s n e k f
level_facts s n e k f found one alone on of out = record {
  once = λ p positive plain.
      one (times_w p f.across) (times_w p f.up) p.w (on p positive (plain_of_face s n e k p plain));
  inside = λ p positive plane.
      all_follow {P = OnFace k (λ q. q ≡ box_patch k e.x0 e.x1 e.y0 e.y1 found)}
      {Q = λ q. lies_in k f p q ≡ true → is_of_face (prism_of e) k p ≡ true}
      (λ q own lies. of p positive plane (lies_over e k f found p q own lies))
      (box_patches e) alone;
  looks = λ p positive plain.
      all_follow {P = OnFace k (λ q. q ≡ box_patch k e.x0 e.x1 e.y0 e.y1 found)}
      {Q = λ q. lies_in k f p q ≡ true → LooksOut (box_model s n e) f p q.end}
      (λ q own lies.
      subst (λ (met : End). LooksOut (box_model s n e) f p met)
      (sym (ap (λ (t : BoxPatch). t.end) (own (lies_tells k f p q lies).0)))
      (out p positive (plain_of_face s n e k p plain)))
      (box_patches e) alone;
}

-- they hold of Bottom
pub bottom_facts : (s : Besides) (n : ℕ) (e : Extent) → IsRising e
    → FaceFacts s n e kind.Bottom (bottom_of (prism_of e))
bottom_facts s n e rising =
    level_facts s n e kind.Bottom (bottom_of (prism_of e)) (below e.z0) (bottom_once e)
    (bottom_alone e)
    (λ p positive on. (on_bottom e rising p positive on).0) (of_bottom e rising)
    (λ p positive on. bottom_looks_out s n e p positive (on_bottom e rising p positive on).1)

-- of Top
pub top_facts : (s : Besides) (n : ℕ) (e : Extent) → IsRising e
    → FaceFacts s n e kind.Top (top_of (prism_of e))
top_facts s n e rising =
    level_facts s n e kind.Top (top_of (prism_of e)) (above e.z1) (top_once e) (top_alone e)
    (λ p positive on. (on_top e rising p positive on).0) (of_top e rising)
    (λ p positive on. top_looks_out s n e p positive (on_top e rising p positive on).1)

-- ---- the sides

-- what a plain point of a side is
record IsPlainOn (s : Besides) (n : ℕ) (e : Extent) (side : Edge) (f : Surface)
    (p : Spot) : Type 0 where
  on : is_on p side ≡ true
  above_bottom : (e.z0 *ℤ p.w) <ℤ p.z
  below_top : p.z <ℤ (e.z1 *ℤ p.w)
  no_abscissa : is_abscissa (box_model s n e) f.across (reading p f.across) ≡ false
  off_ground : p.z ≡ pos 0 → ⊥

not_true : (t : Bool) → not t ≡ true → t ≡ false
not_true true e = absurd (false≢true e)
not_true false e = refl

plain_tells : (s : Besides) (n : ℕ) (e : Extent) (j : ℕ) (side : Edge) (f : Surface) (p : Spot)
    → edge_numbered (prism_of e) j ≡ Some side → side_over side ≡ f
    → is_plain (box_model s n e) (prism_of e) (kind.Side j) p ≡ true → IsPlainOn s n e side f p
plain_tells s n e j side f p numbered surface plain =
    let m = box_model s n e in
    let d = direction_of side in
    let here : (is_of_side (prism_of e) (Some side) p && is_off_side_cuts m (Some side) p) ≡ true =
    subst (λ (o : Option Edge). (is_of_side (prism_of e) o p && is_off_side_cuts m o p) ≡ true)
    numbered plain in
    let parts = and_parts (is_of_side (prism_of e) (Some side) p)
    (is_off_side_cuts m (Some side) p) here in
    let at = and_parts (is_on p side) (is_between_heights e.z0 e.z1 p) parts.0 in
    let heights = and_parts (int_lt (e.z0 *ℤ p.w) p.z) (int_lt p.z (e.z1 *ℤ p.w)) at.1 in
    let off = and_parts (not (is_abscissa m d (reading p d)))
    (not (is_at_height m p) && not (is_at_ground m p)) parts.1 in
    let level = and_parts (not (is_at_height m p)) (not (is_at_ground m p)) off.1 in
    record {
      on = at.0;
      above_bottom = less_from (e.z0 *ℤ p.w) p.z heights.0;
      below_top = less_from p.z (e.z1 *ℤ p.w) heights.1;
      no_abscissa =
          subst (λ (v : Vector). is_abscissa m v (reading p v) ≡ false)
          (ap (λ (g : Surface). g.across) surface)
          (not_true (is_abscissa m d (reading p d)) off.0);
      off_ground = λ same. true≢false
          (sym ((Decides-int_eq p.z (pos 0 *ℤ p.w)).1 (same ∙ sym (zero_mul p.w)))
          ∙ not_true (is_at_ground m p) level.1);
    }
  where
    zero_mul : (w : ℤ) → pos 0 *ℤ w ≡ pos 0
    zero_mul w = omega (arith, ints)

scaled_at_most : (a b w : ℤ) → a ≤ℤ b → pos 0 <ℤ w → (a *ℤ w) ≤ℤ (b *ℤ w)
scaled_at_most a b w at_most positive =
    let h = scale_at_most w a b (omega (arith, ints)) at_most in
    let f = mul_comm w a in
    let g = mul_comm w b in
    omega (arith, ints)

-- a point of a side's patch, by the coordinates of the face
record IsInPart (e : Extent) (low high : ℤ) (f : Surface) (p : Spot) (q : BoxPatch) : Type 0 where
  left : (low *ℤ p.w) <ℤ times_w p f.across
  right : times_w p f.across <ℤ (high *ℤ p.w)
  over_lower : (q.lower *ℤ p.w) <ℤ p.z
  under_upper : p.z <ℤ (q.upper *ℤ p.w)

in_part : (e : Extent) (k : FaceKind) (f : Surface) (low high : ℤ) (p : Spot) (q : BoxPatch)
    → f.up ≡ axis_z
    → IsPart k low high e.z0 e.z1 q → lies_in k f p q ≡ true → IsInPart e low high f p q
in_part e k f low high p q up_is part lies =
    let tells = lies_tells k f p q lies in
    let t = window_tells q.low q.high q.lower q.upper (times_w p f.across)
    (times_w p f.up) p.w tells.1 in
    let z : times_w p f.up ≡ p.z = ap (times_w p) up_is ∙ reads_z p in
    record {
      left = rw part.low_is at t.0.0;
      right = rw part.high_is at t.0.1;
      over_lower = rw z at t.1.0;
      under_upper = rw z at t.1.1;
    }

-- a side's ray has one label: that of the open at its height
side_label : (s : Besides) (n : ℕ) (e : Extent) (side : Edge) (f : Surface) (low high : ℤ)
    → IsBoxSide s n e side f low high → (p : Spot) → IsSpot p → is_on p side ≡ true
    → (u : Arrow) → IsRational u → IsBelow ray_start u
    → label_at (box_model s n e) (along p f.normal u) ≡ open_label (pos 0) (along p f.normal u)
side_label s n e side f low high is p positive on u rational after =
    label_outside s n e (along p f.normal u)
    (beside e (along p f.normal u) (is.outside p positive on u rational after))

side_in_earth : (s : Besides) (n : ℕ) (e : Extent) (side : Edge) (f : Surface) (low high : ℤ)
    → IsBoxSide s n e side f low high → (p : Spot) → IsSpot p → is_on p side ≡ true → p.z <ℤ pos 0
    → LooksOut (box_model s n e) f p end.Earth
side_in_earth s n e side f low high is p positive on under =
    looks_out_throughout (box_model s n e) f p label.Earth end.Earth refl
    (λ u rational after. side_label s n e side f low high is p positive on u rational after
    ∙ below_is_earth (along p f.normal u)
    (rw (is.same_height p u)
    (let h = negative_product u.x p.z rational under in let g =
    mul_comm u.x p.z in omega (arith, ints))))

side_in_air : (s : Besides) (n : ℕ) (e : Extent) (side : Edge) (f : Surface) (low high : ℤ)
    → IsBoxSide s n e side f low high → (p : Spot) → IsSpot p → is_on p side ≡ true → pos 0 ≤ℤ p.z
    → LooksOut (box_model s n e) f p end.Outside
side_in_air s n e side f low high is p positive on over =
    looks_out_throughout (box_model s n e) f p label.Void end.Outside refl
    (λ u rational after. side_label s n e side f low high is p positive on u rational after
    ∙ above_is_void (along p f.normal u)
    (rw (is.same_height p u) (weak_product p.z u.x over (omega (arith, ints)))))

part_looks_out : (s : Besides) (n : ℕ) (e : Extent) (side : Edge) (f : Surface) (low high : ℤ)
    → IsBoxSide s n e side f low high → (p : Spot) → IsSpot p → is_on p side ≡ true
    → (q : BoxPatch) → MeetsBySide q → (q.lower *ℤ p.w) <ℤ p.z → p.z <ℤ (q.upper *ℤ p.w)
    → LooksOut (box_model s n e) f p q.end
part_looks_out s n e side f low high is p positive on q meets over under =
    ⊎_elim
    (λ earth. subst (λ (met : End). LooksOut (box_model s n e) f p met) (sym earth.0)
    (side_in_earth s n e side f low high is p positive on
    (let h = scaled_at_most q.upper (pos 0) p.w earth.1 positive in omega (arith, ints))))
    (λ air. subst (λ (met : End). LooksOut (box_model s n e) f p met) (sym air.0)
    (side_in_air s n e side f low high is p positive on
    (let h = scaled_at_most (pos 0) q.lower p.w air.1 positive in omega (arith, ints))))
    meets

-- and of each side
pub side_facts : (s : Besides) (n : ℕ) (e : Extent) (j : ℕ) (side : Edge) (f : Surface)
    (low high : ℤ)
    → IsBoxSide s n e side f low high → edge_numbered (prism_of e) j ≡ Some side
    → HasParts e (kind.Side j) low high → HasOne e (kind.Side j) low high
    → FaceFacts s n e (kind.Side j) f
side_facts s n e j side f low high is numbered parts one = record {
  once = λ p positive plain.
      let on = plain_tells s n e j side f p numbered is.surface plain in
      let ends = is.within p positive on.on on.no_abscissa in
      let z : times_w p f.up ≡ p.z = ap (times_w p) is.up_is ∙ reads_z p in
      one (times_w p f.across) (times_w p f.up) p.w
      (record {
        left = ends.0;
        right = ends.1;
        lower = rw z on.above_bottom;
        upper =
            rw z on.below_top;
        off = rw z on.off_ground;
      });
  inside = λ p positive plane.
      all_follow {P = OnFace (kind.Side j) (IsPart (kind.Side j) low high e.z0 e.z1)}
      {Q = λ q. lies_in (kind.Side j) f p q ≡ true → is_of_face (prism_of e) (kind.Side j) p ≡ true}
      (λ q own lies. of_side p positive plane q (own (lies_tells (kind.Side j) f p q lies).0) lies)
      (box_patches e) parts;
  looks = λ p positive plain.
      let on = plain_tells s n e j side f p numbered is.surface plain in
      all_follow {P = OnFace (kind.Side j) (IsPart (kind.Side j) low high e.z0 e.z1)}
      {Q = λ q. lies_in (kind.Side j) f p q ≡ true → LooksOut (box_model s n e) f p q.end}
      (λ q own lies.
      let part = own (lies_tells (kind.Side j) f p q lies).0 in
      let at = in_part e (kind.Side j) f low high p q is.up_is part lies in
      part_looks_out s n e side f low high is p positive on.on q
      part.meets at.over_lower at.under_upper)
      (box_patches e) parts;
}
  where
    of_side : (p : Spot) → IsSpot p → is_in_plane f p ≡ true → (q : BoxPatch)
        → IsPart (kind.Side j) low high e.z0 e.z1 q
        → lies_in (kind.Side j) f p q ≡ true → is_of_face (prism_of e) (kind.Side j) p ≡ true
    of_side p positive plane q part lies =
        let at = in_part e (kind.Side j) f low high p q is.up_is part lies in
        let bottom = scaled_at_most e.z0 q.lower p.w part.from_bottom positive in
        let top = scaled_at_most q.upper e.z1 p.w part.to_top positive in
        subst (λ (o : Option Edge). is_of_side (prism_of e) o p ≡ true) (sym numbered)
        (and_from (is_on p side) (is_between_heights e.z0 e.z1 p)
        (is.on_edge p plane at.left at.right)
        (and_from (int_lt (e.z0 *ℤ p.w) p.z) (int_lt p.z (e.z1 *ℤ p.w))
        (test_less (e.z0 *ℤ p.w) p.z (let h = at.over_lower in omega (arith, ints)))
        (test_less p.z (e.z1 *ℤ p.w) (let h = at.under_upper in omega (arith, ints)))))
