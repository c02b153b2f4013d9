-- Bottom and Top of a box: which points lie on them, and what their rays meet.
use Rattle.std.proofs.Common.{◌≡◌, refl, sym, ap, ◌∙◌, arith, ℕ, ℤ, pos, negsuc, neg_ℤ, ◌+ℤ◌, ◌-ℤ◌}
use Rattle.std.proofs.Common.{◌*ℤ◌, ◌<ℤ◌, ◌≤ℤ◌, Bool, true, false, [], ◌∷◌, int_lt}
use Rattle.std.specs.Ordering.{int_eq}
use Rattle.std.proofs.lemmas.Int.{ints, by_lt_z}
use Rattle.std.proofs.lemmas.Bool.{and_from, and_left, and_right, and_parts, false≢true}
use Rattle.std.proofs.lemmas.Bool.Decides.{Decides-int_eq}
use Rattle.theory_numbers.specs.Arrows.{Arrow}
use Rattle.theory_numbers.specs.Rationals.{IsBelow}
use Rattle.theory_numbers.proofs.Signs.{less_from, test_less, test_not_less, test_at_most}
use Rattle.theory_numbers.proofs.Signs.{test_not_at_most}
use Rattle.theory_numbers.proofs.Shapes.{var, num, minus, plus, times, negated, equal}
use Rattle.theory_numbers.proofs.Ring.{mul_comm}
use Rattle.theory_numbers.proofs.Products.{positive_product, negative_product, weak_product}
use Rattle.theory_numbers.proofs.Products.{weak_negative_product}
use Rattle.theory_cuttings.specs.Passages.{ray_start}
use Rattle.sb_model.specs.declared.faces.face.FaceKind.TheVariants as kind
use Rattle.sb_model.specs.declared.labels.label.Label.{Label}
use Rattle.sb_model.specs.declared.labels.label.Label.TheVariants as label
use Rattle.sb_fraction.specs.Spots.{Spot, IsSpot, vector, along, times_w}
use Rattle.theory_plans.specs.Inside.{is_in_plan}
use Rattle.sb_model.specs.Solids.{is_between_heights}
use Rattle.sb_model.specs.Labels.{label_at, open_label}
use Rattle.sb_model.specs.Surfaces.Faces.{bottom_of, top_of, is_in_plane, is_of_face}
use Rattle.sb_fraction.specs.Directions.{axis_x, axis_y, axis_z}
use Rattle.theory_plans.specs.Rectangles.{rectangle, is_between_xs, is_between_ys}
use Rattle.theory_plans.proofs.InsideRectangle.{inside_rectangle}
use Rattle.theory_models.proofs.PassagesOfRays.{LooksOut, looks_out_throughout, looks_out_up_to}
use Rattle.sb_box.specs.declared.extent.Extent.{Extent}
use Rattle.sb_box.specs.BoxList.{above, below}
use Rattle.sb_box.specs.BoxModel.{prism_of}
use Rattle.sb_box.proofs.BoxLabels.{Besides, box_model, label_outside, below_is_earth}
use Rattle.sb_box.proofs.BoxLabels.{above_is_void}
use Rattle.sb_box.proofs.BoxSides.{IsRising, reads_x, reads_y, reads_z, deep, falls, rises}
use Rattle.sb_box.proofs.PatchesOfBoxFaces.{IsOver}

-- inside the plan is over the box
inside_is_over : (e : Extent) → IsRising e → (p : Spot) → IsSpot p
    → is_in_plan (rectangle e.x0 e.x1 e.y0 e.y1 ∷ []) p ≡ true
    → IsOver e (times_w p axis_x) (times_w p axis_y) p.w
inside_is_over e rising p positive inside =
    let between = sym (inside_rectangle e.x0 e.x1 e.y0 e.y1 p rising.x rising.y positive)
    ∙ inside in
    let parts = and_parts (is_between_xs e.x0 e.x1 p) (is_between_ys e.y0 e.y1 p) between in
    let xs = and_parts (int_lt (e.x0 *ℤ p.w) p.x) (int_lt p.x (e.x1 *ℤ p.w)) parts.0 in
    let ys = and_parts (int_lt (e.y0 *ℤ p.w) p.y) (int_lt p.y (e.y1 *ℤ p.w)) parts.1 in
    record {
      left = rw (reads_x p) (less_from (e.x0 *ℤ p.w) p.x xs.0);
      right = rw (reads_x p) (less_from p.x (e.x1 *ℤ p.w) xs.1);
      low = rw (reads_y p) (less_from (e.y0 *ℤ p.w) p.y ys.0);
      high = rw (reads_y p) (less_from p.y (e.y1 *ℤ p.w) ys.1);
    }

over_is_inside : (e : Extent) → IsRising e → (p : Spot) → IsSpot p
    → IsOver e (times_w p axis_x) (times_w p axis_y) p.w
    → is_in_plan (rectangle e.x0 e.x1 e.y0 e.y1 ∷ []) p ≡ true
over_is_inside e rising p positive over =
    inside_rectangle e.x0 e.x1 e.y0 e.y1 p rising.x rising.y positive
    ∙ and_from (is_between_xs e.x0 e.x1 p) (is_between_ys e.y0 e.y1 p)
    (and_from (int_lt (e.x0 *ℤ p.w) p.x) (int_lt p.x (e.x1 *ℤ p.w))
    (test_less (e.x0 *ℤ p.w) p.x (rw (reads_x p) at over.left))
    (test_less p.x (e.x1 *ℤ p.w) (rw (reads_x p) at over.right)))
    (and_from (int_lt (e.y0 *ℤ p.w) p.y) (int_lt p.y (e.y1 *ℤ p.w))
    (test_less (e.y0 *ℤ p.w) p.y (rw (reads_y p) at over.low))
    (test_less p.y (e.y1 *ℤ p.w) (rw (reads_y p) at over.high)))

-- ---- Bottom

-- a point of Bottom lies over the box, at its lower height
pub on_bottom : (e : Extent) → IsRising e → (p : Spot) → IsSpot p
    → is_of_face (prism_of e) kind.Bottom p ≡ true
    → IsOver e (times_w p axis_x) (times_w p axis_y) p.w × (p.z ≡ e.z0 *ℤ p.w)
on_bottom e rising p positive on =
    let parts = and_parts (is_in_plan (rectangle e.x0 e.x1 e.y0 e.y1 ∷ []) p)
    (int_eq p.z (e.z0 *ℤ p.w)) on in
    (inside_is_over e rising p positive parts.0, (Decides-int_eq p.z (e.z0 *ℤ p.w)).0 parts.1)

in_bottom : (x y z w c : ℤ)
    → ((x *ℤ pos 0) +ℤ (y *ℤ pos 0)) +ℤ (z *ℤ negsuc 0) ≡ neg_ℤ c *ℤ w → z ≡ c *ℤ w
in_bottom x y z w c e = let f = turned c w in omega (arith, ints)
  where
    turned : (c w : ℤ) → pos 0 -ℤ (neg_ℤ c *ℤ w) ≡ c *ℤ w
    turned c w = equal (minus (num 0) (times (negated (var c)) (var w))) (times (var c) (var w))
        (omega arith)

-- a point of its plane over the box is one of Bottom
pub of_bottom : (e : Extent) → IsRising e → (p : Spot) → IsSpot p
    → is_in_plane (bottom_of (prism_of e)) p ≡ true
    → IsOver e (times_w p axis_x) (times_w p axis_y) p.w
    → is_of_face (prism_of e) kind.Bottom p ≡ true
of_bottom e rising p positive plane over =
    and_from (is_in_plan (rectangle e.x0 e.x1 e.y0 e.y1 ∷ []) p) (int_eq p.z (e.z0 *ℤ p.w))
    (over_is_inside e rising p positive over)
    ((Decides-int_eq p.z (e.z0 *ℤ p.w)).1 (in_bottom p.x p.y p.z p.w e.z0
    ((Decides-int_eq (((p.x *ℤ pos 0) +ℤ (p.y *ℤ pos 0)) +ℤ (p.z *ℤ negsuc 0))
    (neg_ℤ e.z0 *ℤ p.w)).0 plane)))

-- the height along the ray
sinks_to : (c z w d n : ℤ) → z ≡ c *ℤ w
    → (z *ℤ (d *ℤ pos 1)) +ℤ (negsuc 0 *ℤ (n *ℤ w)) ≡ w *ℤ ((c *ℤ d) -ℤ n)
sinks_to c z w d n at = rw at (same c w d n)
  where
    same : (c w d n : ℤ) → ((c *ℤ w) *ℤ (d *ℤ pos 1)) +ℤ (negsuc 0 *ℤ (n *ℤ w))
        ≡ w *ℤ ((c *ℤ d) -ℤ n)
    same c w d n =
        equal (plus (times (times (var c) (var w)) (times (var d) (num 1)))
        (times (negated (num 1)) (times (var n) (var w))))
        (times (var w) (minus (times (var c) (var d)) (var n))) (omega arith)

climbs_to : (c z w d n : ℤ) → z ≡ c *ℤ w
    → (z *ℤ (d *ℤ pos 1)) +ℤ (pos 1 *ℤ (n *ℤ w)) ≡ w *ℤ ((c *ℤ d) +ℤ n)
climbs_to c z w d n at = rw at (same c w d n)
  where
    same : (c w d n : ℤ) → ((c *ℤ w) *ℤ (d *ℤ pos 1)) +ℤ (pos 1 *ℤ (n *ℤ w)) ≡ w *ℤ ((c *ℤ d) +ℤ n)
    same c w d n =
        equal (plus (times (times (var c) (var w)) (times (var d) (num 1)))
        (times (num 1) (times (var n) (var w))))
        (times (var w) (plus (times (var c) (var d)) (var n))) (omega arith)

at_most_zero : (c d : ℤ) → c ≤ℤ pos 0 → pos 0 <ℤ d → (c *ℤ d) ≤ℤ pos 0
at_most_zero c d low deep =
    let h = weak_negative_product d c (omega (arith, ints)) low in let e =
    mul_comm c d in omega (arith, ints)

at_least_zero : (c d : ℤ) → pos 0 ≤ℤ c → pos 0 <ℤ d → pos 0 ≤ℤ (c *ℤ d)
at_least_zero c d low deep = weak_product c d low (omega (arith, ints))

abbrev is_earth_label : Label → Bool
is_earth_label label.Earth = true
is_earth_label _ = false

void_is_not_earth : label.Void ≡ label.Earth → ⊥
void_is_not_earth same = false≢true (ap is_earth_label same)

-- a point that is not between the heights of the box has the label of the open
label_off_heights : (k : Besides) (n : ℕ) (e : Extent) (q : Spot)
    → is_between_heights e.z0 e.z1 q ≡ false
    → label_at (box_model k n e) q ≡ open_label (pos 0) q
label_off_heights k n e q off =
    label_outside k n e q
    (and_right (is_in_plan (rectangle e.x0 e.x1 e.y0 e.y1 ∷ []) q)
    (is_between_heights e.z0 e.z1 q) off)

-- ---- the ray down from Bottom

-- the point of the ray
abbrev down : Spot → Arrow → Spot
down p u = along p (vector (pos 0) (pos 0) (negsuc 0)) u

down_label : (k : Besides) (n : ℕ) (e : Extent) (p : Spot) → IsSpot p → p.z ≡ e.z0 *ℤ p.w
    → (u : Arrow) → IsBelow ray_start u
    → label_at (box_model k n e) (down p u) ≡ open_label (pos 0) (down p u)
down_label k n e p positive at u after =
    label_off_heights k n e (down p u)
    (and_left (int_lt (e.z0 *ℤ (down p u).w) (down p u).z)
    (int_lt (down p u).z (e.z1 *ℤ (down p u).w))
    (test_not_less (e.z0 *ℤ (down p u).w) (down p u).z
    (falls e.z0 p.z p.w u.x u.y at positive (deep u after))))

sunk : (c : ℤ) (p : Spot) (u : Arrow) → IsSpot p → p.z ≡ c *ℤ p.w → (c *ℤ u.x) <ℤ u.y
    → (down p u).z <ℤ pos 0
sunk c p u positive at lower =
    rw (sinks_to c p.z p.w u.x u.y at)
    (negative_product p.w ((c *ℤ u.x) -ℤ u.y) positive (omega (arith, ints)))

not_sunk : (c : ℤ) (p : Spot) (u : Arrow) → IsSpot p → p.z ≡ c *ℤ p.w → u.y <ℤ (c *ℤ u.x)
    → pos 0 ≤ℤ (down p u).z
not_sunk c p u positive at higher =
    rw (sinks_to c p.z p.w u.x u.y at)
    (let h = positive_product p.w ((c *ℤ u.x) -ℤ u.y) positive (omega (arith, ints)) in omega
    (arith, ints))

-- Bottom on the ground or below looks at the earth, above it at the open air
pub bottom_looks_out : (k : Besides) (n : ℕ) (e : Extent) (p : Spot) → IsSpot p → p.z ≡ e.z0 *ℤ p.w
    → LooksOut (box_model k n e) (bottom_of (prism_of e)) p (below e.z0)
bottom_looks_out k n e p positive at =
    let m = box_model k n e in
    let f = bottom_of (prism_of e) in
    by_lt_z (pos 0) e.z0
    (λ over. looks_out_up_to m f p label.Void label.Earth e.z0 (below e.z0)
    (rw (test_not_at_most e.z0 (pos 0) over) refl) over void_is_not_earth
    (λ u rational after before. down_label k n e p positive at u after
    ∙ above_is_void (down p u) (not_sunk e.z0 p u positive at before))
    (λ u rational after past. down_label k n e p positive at u after
    ∙ below_is_earth (down p u) (sunk e.z0 p u positive at past)))
    (λ under. looks_out_throughout m f p label.Earth (below e.z0)
    (rw (test_at_most e.z0 (pos 0) under) refl)
    (λ u rational after. down_label k n e p positive at u after
    ∙ below_is_earth (down p u) (sunk e.z0 p u positive at
    (let h = at_most_zero e.z0 u.x under rational in let d = deep u after in omega (arith, ints)))))

-- ---- Top, and the ray up from it

-- a point of Top lies over the box, at its upper height
pub on_top : (e : Extent) → IsRising e → (p : Spot) → IsSpot p
    → is_of_face (prism_of e) kind.Top p ≡ true
    → IsOver e (times_w p axis_x) (times_w p axis_y) p.w × (p.z ≡ e.z1 *ℤ p.w)
on_top e rising p positive on =
    let parts = and_parts (is_in_plan (rectangle e.x0 e.x1 e.y0 e.y1 ∷ []) p)
    (int_eq p.z (e.z1 *ℤ p.w)) on in
    (inside_is_over e rising p positive parts.0, (Decides-int_eq p.z (e.z1 *ℤ p.w)).0 parts.1)

-- a point of its plane over the box is one of Top
pub of_top : (e : Extent) → IsRising e → (p : Spot) → IsSpot p
    → is_in_plane (top_of (prism_of e)) p ≡ true
    → IsOver e (times_w p axis_x) (times_w p axis_y) p.w → is_of_face (prism_of e) kind.Top p ≡ true
of_top e rising p positive plane over =
    and_from (is_in_plan (rectangle e.x0 e.x1 e.y0 e.y1 ∷ []) p) (int_eq p.z (e.z1 *ℤ p.w))
    (over_is_inside e rising p positive over)
    ((Decides-int_eq p.z (e.z1 *ℤ p.w)).1 (sym (reads_z p)
    ∙ (Decides-int_eq (times_w p axis_z) (e.z1 *ℤ p.w)).0 plane))

abbrev up : Spot → Arrow → Spot
up p u = along p (vector (pos 0) (pos 0) (pos 1)) u

up_label : (k : Besides) (n : ℕ) (e : Extent) (p : Spot) → IsSpot p → p.z ≡ e.z1 *ℤ p.w
    → (u : Arrow) → IsBelow ray_start u
    → label_at (box_model k n e) (up p u) ≡ open_label (pos 0) (up p u)
up_label k n e p positive at u after =
    label_off_heights k n e (up p u)
    (and_right (int_lt (e.z0 *ℤ (up p u).w) (up p u).z) (int_lt (up p u).z (e.z1 *ℤ (up p u).w))
    (test_not_less (up p u).z (e.z1 *ℤ (up p u).w)
    (rises e.z1 p.z p.w u.x u.y at positive (deep u after))))

not_raised : (c : ℤ) (p : Spot) (u : Arrow) → IsSpot p → p.z ≡ c *ℤ p.w
    → ((c *ℤ u.x) +ℤ u.y) <ℤ pos 0 → (up p u).z <ℤ pos 0
not_raised c p u positive at lower =
    rw (climbs_to c p.z p.w u.x u.y at) (negative_product p.w ((c *ℤ u.x) +ℤ u.y) positive lower)

raised : (c : ℤ) (p : Spot) (u : Arrow) → IsSpot p → p.z ≡ c *ℤ p.w → pos 0 <ℤ ((c *ℤ u.x) +ℤ u.y)
    → pos 0 ≤ℤ (up p u).z
raised c p u positive at higher =
    rw (climbs_to c p.z p.w u.x u.y at)
    (let h = positive_product p.w ((c *ℤ u.x) +ℤ u.y) positive higher in omega (arith, ints))

neg_mul : (c d : ℤ) → neg_ℤ c *ℤ d ≡ pos 0 -ℤ (c *ℤ d)
neg_mul c d = equal (times (negated (var c)) (var d)) (minus (num 0) (times (var c) (var d)))
    (omega arith)

-- Top at the ground or above looks at the open air, below it at the earth
pub top_looks_out : (k : Besides) (n : ℕ) (e : Extent) (p : Spot) → IsSpot p → p.z ≡ e.z1 *ℤ p.w
    → LooksOut (box_model k n e) (top_of (prism_of e)) p (above e.z1)
top_looks_out k n e p positive at =
    let m = box_model k n e in
    let f = top_of (prism_of e) in
    by_lt_z e.z1 (pos 0)
    (λ under. looks_out_up_to m f p label.Earth label.Void (neg_ℤ e.z1) (above e.z1)
    (rw (test_not_at_most (pos 0) e.z1 under) refl) (omega (arith, ints))
    (λ same. void_is_not_earth (sym same))
    (λ u rational after before. up_label k n e p positive at u after
    ∙ below_is_earth (up p u) (not_raised e.z1 p u positive at
    (let g = neg_mul e.z1 u.x in omega (arith, ints))))
    (λ u rational after past. up_label k n e p positive at u after
    ∙ above_is_void (up p u) (raised e.z1 p u positive at
    (let g = neg_mul e.z1 u.x in omega (arith, ints)))))
    (λ over. looks_out_throughout m f p label.Void (above e.z1)
    (rw (test_at_most (pos 0) e.z1 over) refl)
    (λ u rational after. up_label k n e p positive at u after
    ∙ above_is_void (up p u) (raised e.z1 p u positive at
    (let h = at_least_zero e.z1 u.x over rational in let d =
    deep u after in omega (arith, ints)))))
