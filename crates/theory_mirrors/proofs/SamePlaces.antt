-- Two faces with opposite normals have one u and v, and the point along the normal has those of the first.
use Rattle.std.proofs.Common.{◌≡◌, refl, sym, ap, subst, subst₂, ◌∙◌, arith, ◌⊎◌, inl, inr, ℤ, pos}
use Rattle.std.proofs.Common.{negsuc, neg_ℤ}
use Rattle.std.proofs.Common.{◌+ℤ◌, ◌-ℤ◌, ◌*ℤ◌, ◌<ℤ◌, Bool, true, false, ◌&&◌, ◌||◌, int_lt, nat_le, unsigned_abs, Option, Some, None}
use Rattle.std.specs.Ordering.{int_eq}
use Rattle.std.proofs.lemmas.Int.{ints}
use Rattle.std.proofs.lemmas.Bool.{and_parts}
use Rattle.std.proofs.lemmas.Bool.Decides.{Decides-int_eq}
use Rattle.std.proofs.lemmas.Option.{none-some}
use Rattle.theory_lists.proofs.Members.{stands_at}
use Rattle.theory_numbers.specs.Arrows.{Arrow}
use Rattle.theory_numbers.specs.Rationals.{IsSame}
use Rattle.theory_numbers.proofs.Shapes.{var, num, plus, minus, times, negated, equal, cross_eq}
use Rattle.theory_numbers.proofs.Signs.{less_from}
use Rattle.sb_fraction.specs.Directions.{axis_x, axis_y, axis_z, step, runs_along, direction_of, normal_over}
use Rattle.sb_fraction.specs.Edges.{Edge}
use Rattle.sb_fraction.specs.Plane.{is_forward, longest_step}
use Rattle.sb_fraction.specs.Spots.{Spot, Vector, vector, inner, opposite, along, reading}
use Rattle.theory_plans.specs.LoopEdges.{edges_of}
use Rattle.theory_plans.proofs.Edges.EdgesOfPlans.{is_proper_edge, plan_edges_are_proper}
use Rattle.theory_plans.proofs.Edges.StepsOfEdges.{direction_is, direction_is_level, direction_along}
use Rattle.theory_plans.proofs.Edges.StepsOfEdges.{direction_against}
use Rattle.sb_model.specs.declared.faces.face.FaceKind.{FaceKind}
use Rattle.sb_model.specs.declared.faces.face.FaceKind.TheVariants as kind
use Rattle.sb_model.specs.declared.products.Space.{Space}
use Rattle.sb_model.specs.Surfaces.Faces.{Surface, surface_of, side_of, side_over, edge_numbered, bottom_of, top_of}
use Rattle.theory_models.proofs.EdgesOfProducts.{plan_of_solid}
use Rattle.theory_gaps.proofs.OneWalkEach.{proper_there}
use Rattle.theory_mirrors.specs.Laws.{HasPlace, HaveSamePlaces}

-- ---- directions

forward_cases : (x y : ℤ) → is_forward x y ≡ true
    → (pos 0 <ℤ x) ⊎ ((x ≡ pos 0) × (y ≡ pos 1))
forward_cases x y forward = by (int_lt (pos 0) x) refl forward
  where
    by : (b : Bool) → int_lt (pos 0) x ≡ b → (b || (int_eq x (pos 0) && int_eq y (pos 1))) ≡ true
        → (pos 0 <ℤ x) ⊎ ((x ≡ pos 0) × (y ≡ pos 1))
    by true above is = inl (less_from (pos 0) x above)
    by false back is =
        let parts = and_parts (int_eq x (pos 0)) (int_eq y (pos 1)) is in
        inr ((Decides-int_eq x (pos 0)).0 parts.0, (Decides-int_eq y (pos 1)).0 parts.1)

-- of two opposite vectors one is not forward
not_both_forward : (x y a c : ℤ) → a ≡ neg_ℤ x → c ≡ neg_ℤ y → is_forward x y ≡ true
    → is_forward a c ≡ true → ⊥
not_both_forward x y a c same_x same_y one other =
    by (forward_cases x y one) (forward_cases a c other)
  where
    by : (pos 0 <ℤ x) ⊎ ((x ≡ pos 0) × (y ≡ pos 1)) → (pos 0 <ℤ a) ⊎ ((a ≡ pos 0) × (c ≡ pos 1)) → ⊥
    by (inl above) (inl more) = omega (arith, ints, same_x, above, more)
    by (inl above) (inr (none, up)) = omega (arith, ints, same_x, above, none)
    by (inr (none, up)) (inl more) = omega (arith, ints, same_x, more, none)
    by (inr (none, up)) (inr (zero_too, up_too)) = omega (arith, ints, same_y, up, up_too)

is_forward_way : (e : Edge) → is_proper_edge e ≡ true
    → is_forward (direction_of e).x (direction_of e).y ≡ true
is_forward_way e proper =
    let all = direction_is e proper in
    let first = and_parts _ (nat_le (unsigned_abs (direction_of e).y) longest_step) all in
    let second = and_parts _ (nat_le (unsigned_abs (direction_of e).x) longest_step) first.0 in
    (and_parts _ (is_forward (direction_of e).x (direction_of e).y) second.0).1

-- edges whose normals are opposite have opposite steps
opposite_steps : (e f : Edge) → normal_over f ≡ opposite (normal_over e)
    → ((step f).x ≡ neg_ℤ (step e).x) × ((step f).y ≡ neg_ℤ (step e).y)
unfolding normal_over
opposite_steps e f same = (turned (step f).x (step e).x (ap (λ v. v.y) same), ap (λ v. v.x) same)
  where
    turned : (x y : ℤ) → neg_ℤ x ≡ neg_ℤ (neg_ℤ y) → x ≡ neg_ℤ y
    turned x y same = omega (arith, ints, same)

-- so they have one direction
same_direction : (e f : Edge) → is_proper_edge e ≡ true → is_proper_edge f ≡ true
    → normal_over f ≡ opposite (normal_over e) → direction_of f ≡ direction_of e
same_direction e f e_proper f_proper same =
    by (runs_along e) refl (runs_along f) refl
  where
    steps : ((step f).x ≡ neg_ℤ (step e).x) × ((step f).y ≡ neg_ℤ (step e).y)
    steps = opposite_steps e f same

    from_parts : (direction_of f).x ≡ (direction_of e).x → (direction_of f).y ≡ (direction_of e).y
        → direction_of f ≡ direction_of e
    from_parts x y =
        let z : (direction_of f).z ≡ (direction_of e).z =
        direction_is_level f ∙ sym (direction_is_level e) in
        let whole
        : vector (direction_of f).x (direction_of f).y (direction_of f).z
        ≡ vector (direction_of e).x (direction_of e).y (direction_of e).z =
        (λ i. vector (x i) (y i) (z i)) in
        whole

    clash : (direction_of f).x ≡ neg_ℤ (direction_of e).x
        → (direction_of f).y ≡ neg_ℤ (direction_of e).y → ⊥
    clash x y =
        not_both_forward (direction_of e).x (direction_of e).y (direction_of f).x (direction_of f).y x y
        (is_forward_way e e_proper) (is_forward_way f f_proper)

    twice : (x y : ℤ) → x ≡ neg_ℤ y → neg_ℤ x ≡ y
    twice x y same = omega (arith, ints, same)

    by : (a : Bool) → runs_along e ≡ a → (b : Bool) → runs_along f ≡ b → direction_of f ≡ direction_of e
    by true e_along true f_along =
        let one = direction_along e e_along in
        let other = direction_along f f_along in
        absurd
        (clash (ap (λ v. v.x) other ∙ steps.0 ∙ ap (λ v. neg_ℤ v.x) (sym one))
        (ap (λ v. v.y) other ∙ steps.1 ∙ ap (λ v. neg_ℤ v.y) (sym one)))
    by true e_along false f_back =
        let one = direction_along e e_along in
        let other = direction_against f f_back in
        from_parts
        (ap (λ v. v.x) other ∙ twice (step f).x (step e).x steps.0 ∙ ap (λ v. v.x) (sym one))
        (ap (λ v. v.y) other ∙ twice (step f).y (step e).y steps.1 ∙ ap (λ v. v.y) (sym one))
    by false e_back true f_along =
        let one = direction_against e e_back in
        let other = direction_along f f_along in
        from_parts (ap (λ v. v.x) other ∙ steps.0 ∙ ap (λ v. v.x) (sym one))
        (ap (λ v. v.y) other ∙ steps.1 ∙ ap (λ v. v.y) (sym one))
    by false e_back false f_back =
        let one = direction_against e e_back in
        let other = direction_against f f_back in
        absurd
        (clash (ap (λ v. v.x) other ∙ ap neg_ℤ steps.0 ∙ ap (λ v. neg_ℤ v.x) (sym one))
        (ap (λ v. v.y) other ∙ ap neg_ℤ steps.1 ∙ ap (λ v. neg_ℤ v.y) (sym one)))

-- ---- readings

-- along a vector a point reads the same on every vector at right angles
reads_alike : (p : Spot) (n v : Vector) (depth : Arrow) → inner n v ≡ pos 0
    → IsSame (reading (along p n depth) v) (reading p v)
reads_alike p n v depth level =
    cross_eq (reading (along p n depth) v) (reading p v)
    ∙ spread p.x p.y p.z p.w n.x n.y n.z v.x v.y v.z (depth.x *ℤ inner n n) (depth.y *ℤ p.w)
    ∙ ap (λ k. neg_ℤ ((k *ℤ (depth.y *ℤ p.w)) *ℤ p.w)) level ∙ none (depth.y *ℤ p.w) p.w
  where
    none : (far w : ℤ) → neg_ℤ ((pos 0 *ℤ far) *ℤ w) ≡ pos 0
    none far w = equal (negated (times (times (num 0) (var far)) (var w))) (num 0) (omega arith)

    spread : (x y z w a b c r s t sc far : ℤ)
        → ((w *ℤ sc) *ℤ (((x *ℤ r) +ℤ (y *ℤ s)) +ℤ (z *ℤ t)))
        -ℤ ((((((x *ℤ sc) +ℤ (a *ℤ far)) *ℤ r) +ℤ (((y *ℤ sc) +ℤ (b *ℤ far)) *ℤ s))
        +ℤ (((z *ℤ sc) +ℤ (c *ℤ far)) *ℤ t)) *ℤ w)
        ≡ neg_ℤ (((((a *ℤ r) +ℤ (b *ℤ s)) +ℤ (c *ℤ t)) *ℤ far) *ℤ w)
    spread x y z w a b c r s t sc far =
        equal
        (minus
        (times (times (var w) (var sc))
        (plus (plus (times (var x) (var r)) (times (var y) (var s))) (times (var z) (var t))))
        (times
        (plus
        (plus (times (plus (times (var x) (var sc)) (times (var a) (var far))) (var r))
        (times (plus (times (var y) (var sc)) (times (var b) (var far))) (var s)))
        (times (plus (times (var z) (var sc)) (times (var c) (var far))) (var t))) (var w)))
        (negated
        (times
        (times
        (plus (plus (times (var a) (var r)) (times (var b) (var s))) (times (var c) (var t)))
        (var far)) (var w))) (omega arith)

-- ---- the law

-- the normal of a side is level, and at right angles to its direction
normal_is_level : (e : Edge) → inner (normal_over e) (direction_of e) ≡ pos 0
unfolding normal_over
normal_is_level e = by (runs_along e) refl
  where
    ahead : (x y z : ℤ) → ((y *ℤ x) +ℤ (neg_ℤ x *ℤ y)) +ℤ (pos 0 *ℤ z) ≡ pos 0
    ahead x y z =
        equal
        (plus (plus (times (var y) (var x)) (times (negated (var x)) (var y))) (times (num 0) (var z)))
        (num 0) (omega arith)

    behind : (x y z : ℤ)
        → ((y *ℤ neg_ℤ x) +ℤ (neg_ℤ x *ℤ neg_ℤ y)) +ℤ (pos 0 *ℤ neg_ℤ z) ≡ pos 0
    behind x y z =
        equal
        (plus (plus (times (var y) (negated (var x))) (times (negated (var x)) (negated (var y))))
        (times (num 0) (negated (var z)))) (num 0) (omega arith)

    by : (b : Bool) → runs_along e ≡ b
        → inner (vector (step e).y (neg_ℤ (step e).x) (pos 0)) (direction_of e) ≡ pos 0
    by true along =
        ap (inner (vector (step e).y (neg_ℤ (step e).x) (pos 0))) (direction_along e along)
        ∙ ahead (step e).x (step e).y (step e).z
    by false against =
        ap (inner (vector (step e).y (neg_ℤ (step e).x) (pos 0))) (direction_against e against)
        ∙ behind (step e).x (step e).y (step e).z

normal_has_no_height : (e : Edge) → (normal_over e).z ≡ pos 0
unfolding normal_over
normal_has_no_height e = refl

normal_off_height : (e : Edge) → inner (normal_over e) axis_z ≡ pos 0
unfolding normal_over
normal_off_height e = level (step e).y (neg_ℤ (step e).x)
  where
    level : (x y : ℤ) → ((x *ℤ pos 0) +ℤ (y *ℤ pos 0)) +ℤ (pos 0 *ℤ pos 1) ≡ pos 0
    level x y = omega (arith, ints)

-- two sides
sides_alike : (e f : Edge) → is_proper_edge e ≡ true → is_proper_edge f ≡ true
    → normal_over f ≡ opposite (normal_over e) → (p : Spot) (depth : Arrow)
    → HasPlace (side_over e) (side_over f) p (along p (normal_over e) depth)
sides_alike e f e_proper f_proper same p depth = record {
  across = same_direction e f e_proper f_proper same;
  up = refl;
  same_u = reads_alike p (normal_over e) (direction_of e) depth (normal_is_level e);
  same_v = reads_alike p (normal_over e) axis_z depth (normal_off_height e);
}

-- a top and a bottom, in whichever order
top_and_bottom : (f g : Surface) → f.across ≡ axis_x → f.up ≡ axis_y → g.across ≡ axis_x
    → g.up ≡ axis_y → inner f.normal axis_x ≡ pos 0 → inner f.normal axis_y ≡ pos 0 → (p : Spot)
    → (depth : Arrow) → HasPlace f g p (along p f.normal depth)
top_and_bottom f g f_across f_up g_across g_up level_x level_y p depth = record {
  across = g_across ∙ sym f_across;
  up = g_up ∙ sym f_up;
  same_u =
      reads_alike p f.normal f.across depth (ap (inner f.normal) f_across ∙ level_x);
  same_v = reads_alike p f.normal f.up depth (ap (inner f.normal) f_up ∙ level_y);
}

-- a level normal is not an upright one
no_height : (n v : Vector) → n.z ≡ pos 0 → v ≡ opposite n → (v.z ≡ pos 1) ⊎ (v.z ≡ negsuc 0) → ⊥
no_height n v level same (inl up) = let z = ap (λ w. w.z) same in omega (arith, ints, level, up)
no_height n v level same (inr down) = let z = ap (λ w. w.z) same in omega (arith, ints, level, down)

-- a bottom or a top
record IsLevelFace (f : Surface) : Type 0 where
  across_is : f.across ≡ axis_x
  up_is : f.up ≡ axis_y
  upright : (f.normal ≡ axis_z) ⊎ (f.normal ≡ opposite axis_z)

-- the side over an edge
record IsSideFace (f : Surface) : Type 0 where
  edge : Edge
  proper : is_proper_edge edge ≡ true
  side_is : side_over edge ≡ f

face_is : (s : Space) (k : FaceKind) (f : Surface) → surface_of s.prism k ≡ Some f
    → IsLevelFace f ⊎ IsSideFace f
face_is s kind.Bottom f f_is =
    let one : bottom_of s.prism ≡ f = cc in
    inl
    (subst IsLevelFace one
    (record { across_is = refl; up_is = refl; upright = inr refl }))
face_is s kind.Top f f_is =
    let one : top_of s.prism ≡ f = cc in
    inl
    (subst IsLevelFace one
    (record { across_is = refl; up_is = refl; upright = inl refl }))
face_is s (kind.Side j) f f_is = by (edge_numbered s.prism j) refl f_is
  where
    by : (o : Option Edge) → edge_numbered s.prism j ≡ o → side_of o ≡ Some f
        → IsLevelFace f ⊎ IsSideFace f
    by None found side = absurd (none-some f side)
    by (Some e) found side =
        let one : side_over e ≡ f = cc in
        inr
        (record {
          edge = e;
          proper =
              proper_there e (edges_of s.prism.loops)
              (plan_edges_are_proper s.prism.loops (plan_of_solid s.prism s.is_solid))
              (stands_at (edges_of s.prism.loops) j e found);
          side_is = one;
        })

upright_height : (f : Surface) → IsLevelFace f → (f.normal.z ≡ pos 1) ⊎ (f.normal.z ≡ negsuc 0)
upright_height f is = by is.upright
  where
    by : (f.normal ≡ axis_z) ⊎ (f.normal ≡ opposite axis_z)
        → (f.normal.z ≡ pos 1) ⊎ (f.normal.z ≡ negsuc 0)
    by (inl up) = inl (ap (λ v. v.z) up)
    by (inr down) = inr (ap (λ v. v.z) down)

side_height : (f : Surface) → IsSideFace f → f.normal.z ≡ pos 0
side_height f is = ap (λ g. g.normal.z) (sym is.side_is) ∙ normal_has_no_height is.edge

-- at right angles to x and to y
off_level : (f : Surface) → IsLevelFace f
    → (inner f.normal axis_x ≡ pos 0) × (inner f.normal axis_y ≡ pos 0)
off_level f is = by is.upright
  where
    by : (f.normal ≡ axis_z) ⊎ (f.normal ≡ opposite axis_z)
        → (inner f.normal axis_x ≡ pos 0) × (inner f.normal axis_y ≡ pos 0)
    by (inl up) = (ap (λ v. inner v axis_x) up, ap (λ v. inner v axis_y) up)
    by (inr down) = (ap (λ v. inner v axis_x) down, ap (λ v. inner v axis_y) down)

-- one place
pub have_same_places : HaveSamePlaces
have_same_places s t j k f g f_is g_is back p depth =
    by (face_is s j f f_is) (face_is t k g g_is)
  where
    turned : (a : ℤ) → (a ≡ pos 1) ⊎ (a ≡ negsuc 0) → pos 0 ≡ neg_ℤ a → ⊥
    turned a (inl up) same = omega (arith, ints, up, same)
    turned a (inr down) same = omega (arith, ints, down, same)

    by : IsLevelFace f ⊎ IsSideFace f → IsLevelFace g ⊎ IsSideFace g
        → HasPlace f g p (along p f.normal depth)
    by (inl f_level) (inl g_level) =
        let off = off_level f f_level in
        top_and_bottom f g f_level.across_is f_level.up_is g_level.across_is g_level.up_is off.0 off.1 p
        depth
    by (inl f_level) (inr g_side) =
        absurd
        (turned f.normal.z (upright_height f f_level)
        (sym (side_height g g_side) ∙ ap (λ v. v.z) back))
    by (inr f_side) (inl g_level) =
        absurd
        (no_height f.normal g.normal (side_height f f_side) back (upright_height g g_level))
    by (inr f_side) (inr g_side) =
        subst₂ (λ x y. HasPlace x y p (along p x.normal depth)) f_side.side_is g_side.side_is
        (sides_alike f_side.edge g_side.edge f_side.proper g_side.proper
        (ap (λ x. x.normal) g_side.side_is ∙ back ∙ ap (λ x. opposite x.normal) (sym f_side.side_is)) p
        depth)
