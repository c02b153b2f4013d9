-- The label at a depth of a ray does not depend on how the depth is written.

use Rattle.std.proofs.Common.{◌≡◌, ap, ap₂, sym, ◌∙◌, arith, ℤ, pos, ◌+ℤ◌, ◌*ℤ◌, ◌<ℤ◌}
use Rattle.std.proofs.lemmas.Int.{ints}
use Rattle.theory_numbers.specs.Arrows.{Arrow}
use Rattle.theory_numbers.specs.Rationals.{IsRational, IsSame}
use Rattle.theory_numbers.proofs.Products.{positive_product}
use Rattle.theory_numbers.proofs.Ring.{mul_comm, mul-add}
use Rattle.theory_numbers.proofs.Shapes.{var, times, equal, cross_eq}
use Rattle.theory_cuttings.specs.Cuttings.{IsAlike}
use Rattle.sb_fraction.specs.Spots.{Spot, IsSpot, Vector, inner, along}
use Rattle.theory_plans.specs.Alike.{AreAlike}
use Rattle.sb_model.specs.Building.{Building}
use Rattle.sb_model.specs.Labels.{label_at}
use Rattle.sb_model.specs.Passages.{Ray, at_depth}
use Rattle.theory_models.proofs.LabelsAlike.{alike_labels}

-- one coordinate of two points of a ray, each times the other's denominator
same_coordinate : (w n scale p ux uy vx vy : ℤ) → vx *ℤ uy ≡ ux *ℤ vy
    → (w *ℤ (vx *ℤ scale)) *ℤ ((p *ℤ (ux *ℤ scale)) +ℤ (n *ℤ (uy *ℤ w)))
    ≡ (w *ℤ (ux *ℤ scale)) *ℤ ((p *ℤ (vx *ℤ scale)) +ℤ (n *ℤ (vy *ℤ w)))
same_coordinate w n scale p ux uy vx vy same =
    mul-add (w *ℤ (vx *ℤ scale)) (p *ℤ (ux *ℤ scale)) (n *ℤ (uy *ℤ w))
    ∙ ap₂ (λ a b. a +ℤ b) (exchanged w p (vx *ℤ scale) (ux *ℤ scale))
    (gathered_at w n (vx *ℤ scale) uy
    ∙ ap (λ a. ((w *ℤ n) *ℤ w) *ℤ a)
    (scaled_at vx scale uy ∙ ap (λ a. scale *ℤ a) same ∙ sym (scaled_at ux scale vy))
    ∙ sym (gathered_at w n (ux *ℤ scale) vy))
    ∙ sym (mul-add (w *ℤ (ux *ℤ scale)) (p *ℤ (vx *ℤ scale)) (n *ℤ (vy *ℤ w)))
  where
    exchanged : (k q a b : ℤ) → (k *ℤ a) *ℤ (q *ℤ b) ≡ (k *ℤ b) *ℤ (q *ℤ a)
    exchanged k q a b =
        equal (times (times (var k) (var a)) (times (var q) (var b)))
        (times (times (var k) (var b)) (times (var q) (var a))) (omega arith)

    gathered_at : (k m a b : ℤ) → (k *ℤ a) *ℤ (m *ℤ (b *ℤ k)) ≡ ((k *ℤ m) *ℤ k) *ℤ (a *ℤ b)
    gathered_at k m a b =
        equal (times (times (var k) (var a)) (times (var m) (times (var b) (var k))))
        (times (times (times (var k) (var m)) (var k)) (times (var a) (var b))) (omega arith)

    scaled_at : (a k b : ℤ) → (a *ℤ k) *ℤ b ≡ k *ℤ (a *ℤ b)
    scaled_at a k b =
        equal (times (times (var a) (var k)) (var b)) (times (var k) (times (var a) (var b)))
        (omega arith)

-- at equal depths a ray has one point
pub same_depth_is_alike : (p : Spot) (n : Vector) (u v : Arrow) → IsSame u v
    → AreAlike (along p n u) (along p n v)
same_depth_is_alike p n u v same =
    let spread = cross_eq u v in
    let turned = mul_comm v.x u.y in
    let crossed : v.x *ℤ u.y ≡ u.x *ℤ v.y = omega (arith, ints) in
    record {
      x = same_coordinate p.w n.x (inner n n) p.x u.x u.y v.x v.y crossed;
      y = same_coordinate p.w n.y (inner n n) p.y u.x u.y v.x v.y crossed;
      z = same_coordinate p.w n.z (inner n n) p.z u.x u.y v.x v.y crossed;
    }

-- the point of a ray has a positive denominator
pub along_is_spot : (p : Spot) (n : Vector) (u : Arrow) → IsSpot p → pos 0 <ℤ inner n n
    → IsRational u → IsSpot (along p n u)
along_is_spot p n u p_is some u_is =
    positive_product p.w (u.x *ℤ inner n n) p_is (positive_product u.x (inner n n) u_is some)

-- the label at a depth does not see how the depth is written
pub label_along_is_alike : (m : Building) (r : Ray) → IsSpot r.start
    → pos 0 <ℤ inner r.normal r.normal → IsAlike (λ depth. label_at m (at_depth r depth))
label_along_is_alike m r start some u v u_is v_is same =
    alike_labels m (at_depth r u) (at_depth r v)
    (along_is_spot r.start r.normal u start some u_is)
    (along_is_spot r.start r.normal v start some v_is)
    (same_depth_is_alike r.start r.normal u v same)
