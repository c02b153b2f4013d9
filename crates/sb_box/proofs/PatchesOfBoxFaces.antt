-- The patches of a box by faces: which stand on each, and that each inner point lies in one of
-- them.
use Rattle.std.proofs.Common.{◌≡◌, refl, sym, ap, ◌∙◌, arith, ℕ, ℤ, pos, ◌*ℤ◌, ◌<ℤ◌, ◌≤ℤ◌, Bool}
use Rattle.std.proofs.Common.{true, false, ◌&&◌, List, [], ◌∷◌, ◌++◌, int_lt, int_le, ◌⊎◌, inl, inr}
use Rattle.std.proofs.Common.{⊎_elim, zero, suc, ◌<◌, ◌≤◌, ◌+◌, ◌==◌, subst, if◌then◌else◌}
use Rattle.std.specs.List.{AllByRecursion, list_any}
use Rattle.std.proofs.lemmas.Int.{ints, by_lt_z}
use Rattle.std.proofs.lemmas.Bool.{and_from, and_parts, and_left, and_right, or_from, false≢true}
use Rattle.std.proofs.lemmas.Bool.{eqb-true, eq-eqb, ne_eqb, cases_lt}
use Rattle.theory_numbers.proofs.Signs.{test_less, test_not_less, test_at_most, test_not_at_most}
use Rattle.theory_numbers.proofs.Signs.{less_from}
use Rattle.sb_model.specs.declared.faces.face.FaceKind.{FaceKind}
use Rattle.sb_model.specs.declared.faces.face.FaceKind.TheVariants as kind
use Rattle.sb_model.specs.declared.walk.End.{End}
use Rattle.sb_model.specs.declared.walk.End.TheVariants as end
use Rattle.sb_model.specs.Surfaces.Patches.{is_same_kind}
use Rattle.sb_model.specs.Boundaries.Order.{rank_of}
use Rattle.theory_lists.specs.Members.{AllOfTwo}
use Rattle.theory_lists.specs.OneOf.{ExactlyOne}
use Rattle.theory_models.proofs.PatchesBetweenLevels.{is_in_window}
use Rattle.theory_lists.proofs.Blocks.{none-append, none_where, first_alone, one_behind}
use Rattle.theory_lists.proofs.Blocks.{one_in_first, one_in_second, all-append, two-append}
use Rattle.theory_lists.proofs.Members.{all_follow}
use Rattle.sb_box.specs.declared.extent.Extent.{Extent}
use Rattle.sb_box.specs.BoxList.{BoxPatch, box_patch, box_patches, side_patches, is_cut, below}
use Rattle.sb_box.specs.BoxList.{above}

-- the patch stands on this face and contains the point (u/w, v/w)
abbrev pub patch_test : FaceKind → ℤ → ℤ → ℤ → BoxPatch → Bool
patch_test k u v w p = is_same_kind p.kind k && is_in_window p.low p.high p.lower p.upper u v w

window_in : (a b c d u v w : ℤ) → (a *ℤ w) <ℤ u → u <ℤ (b *ℤ w) → (c *ℤ w) <ℤ v → v <ℤ (d *ℤ w)
    → is_in_window a b c d u v w ≡ true
window_in a b c d u v w left right low high =
    and_from (int_lt (a *ℤ w) u && int_lt u (b *ℤ w)) (int_lt (c *ℤ w) v && int_lt v (d *ℤ w))
    (and_from (int_lt (a *ℤ w) u) (int_lt u (b *ℤ w)) (test_less (a *ℤ w) u left)
    (test_less u (b *ℤ w) right))
    (and_from (int_lt (c *ℤ w) v) (int_lt v (d *ℤ w)) (test_less (c *ℤ w) v low)
    (test_less v (d *ℤ w) high))

window_above : (a b c d u v w : ℤ) → (d *ℤ w) ≤ℤ v → is_in_window a b c d u v w ≡ false
window_above a b c d u v w high =
    and_right (int_lt (a *ℤ w) u && int_lt u (b *ℤ w)) (int_lt (c *ℤ w) v && int_lt v (d *ℤ w))
    (and_right (int_lt (c *ℤ w) v) (int_lt v (d *ℤ w)) (test_not_less v (d *ℤ w) high))

window_below : (a b c d u v w : ℤ) → v ≤ℤ (c *ℤ w) → is_in_window a b c d u v w ≡ false
window_below a b c d u v w low =
    and_right (int_lt (a *ℤ w) u && int_lt u (b *ℤ w)) (int_lt (c *ℤ w) v && int_lt v (d *ℤ w))
    (and_left (int_lt (c *ℤ w) v) (int_lt v (d *ℤ w)) (test_not_less (c *ℤ w) v low))

-- a point of a window lies between its four numbers
pub window_tells : (a b c d u v w : ℤ) → is_in_window a b c d u v w ≡ true
    → (((a *ℤ w) <ℤ u) × (u <ℤ (b *ℤ w))) × (((c *ℤ w) <ℤ v) × (v <ℤ (d *ℤ w)))
window_tells a b c d u v w inside =
    let parts = and_parts (int_lt (a *ℤ w) u && int_lt u (b *ℤ w))
    (int_lt (c *ℤ w) v && int_lt v (d *ℤ w)) inside in
    let across = and_parts (int_lt (a *ℤ w) u) (int_lt u (b *ℤ w)) parts.0 in
    let up = and_parts (int_lt (c *ℤ w) v) (int_lt v (d *ℤ w)) parts.1 in (
      (less_from (a *ℤ w) u across.0, less_from u (b *ℤ w) across.1),
      (less_from (c *ℤ w) v up.0, less_from v (d *ℤ w) up.1),
    )

-- one kind, as a test
pub kinds_are : (a b : FaceKind) → is_same_kind a b ≡ true → a ≡ b
kinds_are kind.Bottom kind.Bottom same = refl
kinds_are kind.Top kind.Top same = refl
kinds_are (kind.Side j) (kind.Side k) same = ap kind.Side (eqb-true j k same)
kinds_are kind.Bottom kind.Top same = absurd (false≢true same)
kinds_are kind.Bottom (kind.Side k) same = absurd (false≢true same)
kinds_are kind.Top kind.Bottom same = absurd (false≢true same)
kinds_are kind.Top (kind.Side k) same = absurd (false≢true same)
kinds_are (kind.Side j) kind.Bottom same = absurd (false≢true same)
kinds_are (kind.Side j) kind.Top same = absurd (false≢true same)

-- ---- the patches of one side

all_of_choice : (P : BoxPatch → Type 0) (b : Bool) (p q r : BoxPatch) → (b ≡ true → P p × P q)
    → (b ≡ false → P r)
    → AllByRecursion P (if b then p ∷ q ∷ [] else r ∷ [])
all_of_choice P true p q r two one = ((two refl).0, ((two refl).1, tt))
all_of_choice P false p q r two one = (one refl, tt)

-- what holds of both parts where the ground cuts the side, and of the whole elsewhere
pub all_of_side : (P : BoxPatch → Type 0) (face : FaceKind) (low high z0 z1 : ℤ)
    → (is_cut z0 z1 ≡ true → P (box_patch face low high z0 (pos 0) end.Earth)
    × P (box_patch face low high (pos 0) z1 end.Outside))
    → (is_cut z0 z1 ≡ false → P (box_patch face low high z0 z1 (above z0)))
    → AllByRecursion P (side_patches face low high z0 z1)
all_of_side P face low high z0 z1 = all_of_choice P (is_cut z0 z1) _ _ _

cut_tells : (z0 z1 : ℤ) → is_cut z0 z1 ≡ true → (z0 <ℤ pos 0) × (pos 0 <ℤ z1)
cut_tells z0 z1 cut =
    let parts = and_parts (int_lt z0 (pos 0)) (int_lt (pos 0) z1) cut in
    (less_from z0 (pos 0) parts.0, less_from (pos 0) z1 parts.1)

-- what a part of a side meets: the earth below the ground, the open air above
abbrev pub MeetsBySide : BoxPatch → Type 0
MeetsBySide p = ((p.end ≡ end.Earth) × (p.upper ≤ℤ pos 0))
    ⊎ ((p.end ≡ end.Outside) × (pos 0 ≤ℤ p.lower))

-- a part of the side over this face
pub record IsPart (face : FaceKind) (low high z0 z1 : ℤ) (p : BoxPatch) : Type 0 where
  pub kind_is : p.kind ≡ face
  pub low_is : p.low ≡ low
  pub high_is : p.high ≡ high
  pub from_bottom : z0 ≤ℤ p.lower
  pub to_top : p.upper ≤ℤ z1
  pub meets : MeetsBySide p

meets_whole : (face : FaceKind) (low high z0 z1 : ℤ) → is_cut z0 z1 ≡ false
    → MeetsBySide (box_patch face low high z0 z1 (above z0))
meets_whole face low high z0 z1 not_cut =
    by_lt_z z0 (pos 0)
    (λ under. inl (
      rw (test_not_at_most (pos 0) z0 under) refl,
      by_lt_z (pos 0) z1
          (λ over. absurd (false≢true
          (sym not_cut ∙ and_from (int_lt z0 (pos 0)) (int_lt (pos 0) z1)
          (test_less z0 (pos 0) under) (test_less (pos 0) z1 over))))
          (λ top. top),
    ))
    (λ over. inr (rw (test_at_most (pos 0) z0 over) refl, over))

part_between : (face : FaceKind) (low high z0 z1 lower upper : ℤ) (met : End) → z0 ≤ℤ lower
    → upper ≤ℤ z1 → MeetsBySide (box_patch face low high lower upper met)
    → IsPart face low high z0 z1 (box_patch face low high lower upper met)
part_between face low high z0 z1 lower upper met from to meets = record {
  kind_is = refl;
  low_is = refl;
  high_is = refl;
  from_bottom = from;
  to_top = to;
  meets = meets;
}

-- the patches of a side are its parts
pub side_is_parts : (face : FaceKind) (low high z0 z1 : ℤ) → z0 <ℤ z1
    → AllByRecursion (IsPart face low high z0 z1) (side_patches face low high z0 z1)
side_is_parts face low high z0 z1 rising =
    all_of_side (IsPart face low high z0 z1) face low high z0 z1
    (λ cut. let signs = cut_tells z0 z1 cut in (
      part_between face low high z0 z1 z0 (pos 0) end.Earth (omega (arith, ints))
          (omega (arith, ints)) (inl (refl, omega (arith, ints))),
      part_between face low high z0 z1 (pos 0) z1 end.Outside (omega (arith, ints))
          (omega (arith, ints)) (inr (refl, omega (arith, ints))),
    ))
    (λ not_cut. part_between face low high z0 z1 z0 z1 (above z0) (omega (arith, ints))
    (omega (arith, ints)) (meets_whole face low high z0 z1 not_cut))

-- ---- each inner point of a side off the ground lies in one part

one_of_choice : (test : BoxPatch → Bool) (b : Bool) (p q r : BoxPatch)
    → (b ≡ true → ((test p ≡ true) × (test q ≡ false)) ⊎ ((test p ≡ false) × (test q ≡ true)))
    → (b ≡ false → test r ≡ true)
    → ExactlyOne test (if b then p ∷ q ∷ [] else r ∷ [])
one_of_choice test true p q r two one =
    ⊎_elim
    (λ h. first_alone test p (q ∷ []) h.0 (or_from (test q) false h.1 refl))
    (λ h. one_behind test p (q ∷ []) h.0 (first_alone test q [] h.1 refl))
    (two refl)
one_of_choice test false p q r two one = first_alone test r [] (one refl) refl

-- a point of a side that is not at the ground lies in exactly one of its patches
pub one_of_side : (face : FaceKind) (low high z0 z1 u v w : ℤ) → is_same_kind face face ≡ true
    → (low *ℤ w) <ℤ u → u <ℤ (high *ℤ w) → (z0 *ℤ w) <ℤ v → v <ℤ (z1 *ℤ w) → (v ≡ pos 0 → ⊥)
    → ExactlyOne (patch_test face u v w) (side_patches face low high z0 z1)
one_of_side face low high z0 z1 u v w same left right lower upper off =
    one_of_choice (patch_test face u v w) (is_cut z0 z1) _ _ _
    (λ cut. by_lt_z v (pos 0)
    (λ under. inl (
      and_from _ _ same (window_in low high z0 (pos 0) u v w left right lower
          (omega (arith, ints))),
      and_right _ _ (window_below low high (pos 0) z1 u v w (omega (arith, ints))),
    ))
    (λ over. inr (
      and_right _ _ (window_above low high z0 (pos 0) u v w (omega (arith, ints))),
      and_from _ _ same (window_in low high (pos 0) z1 u v w left right
          (by_lt_z (pos 0 *ℤ w) v (λ h. h) (λ h. absurd (off (omega (arith, ints))))) upper),
    )))
    (λ not_cut. and_from _ _ same (window_in low high z0 z1 u v w left right lower upper))

-- and in none of another face
pub none_of_side : (k face : FaceKind) (low high z0 z1 u v w : ℤ) → is_same_kind face k ≡ false
    → list_any (patch_test k u v w) (side_patches face low high z0 z1) ≡ false
none_of_side k face low high z0 z1 u v w other =
    none_where (patch_test k u v w) (side_patches face low high z0 z1)
    (all_of_side (λ p. patch_test k u v w p ≡ false) face low high z0 z1
    (λ cut. (and_left _ _ other, and_left _ _ other)) (λ not_cut. and_left _ _ other))

-- ---- the sides one behind the other

-- from where side i lies along its edge: in x where it runs along x, else in y
abbrev pub from_of : Extent → ℕ → ℤ
from_of e zero = e.x0
from_of e (suc zero) = e.y0
from_of e (suc (suc zero)) = e.x0
from_of e (suc (suc (suc i))) = e.y0

-- and to where
abbrev pub to_of : Extent → ℕ → ℤ
to_of e zero = e.x1
to_of e (suc zero) = e.y1
to_of e (suc (suc zero)) = e.x1
to_of e (suc (suc (suc i))) = e.y1

-- the patches of side i
abbrev side : Extent → ℕ → List BoxPatch
side e i = side_patches (kind.Side i) (from_of e i) (to_of e i) e.z0 e.z1

-- those of side i and of so many more behind it
abbrev sides : Extent → ℕ → ℕ → List BoxPatch
sides e i zero = side e i
sides e i (suc more) = side e i ++ sides e (suc i) more

all_of_sides : (P : BoxPatch → Type 0) (e : Extent) (i more : ℕ) → i + more < 4
    → ((j : ℕ) → j < 4 → AllByRecursion P (side e j)) → AllByRecursion P (sides e i more)
all_of_sides P e i zero room each = each i (omega arith)
all_of_sides P e i (suc more) room each =
    all-append P (side e i) (sides e (suc i) more) (each i (omega arith))
    (all_of_sides P e (suc i) more (omega arith) each)

abbrev bottom : Extent → BoxPatch
bottom e = box_patch kind.Bottom e.x0 e.x1 e.y0 e.y1 (below e.z0)

abbrev top : Extent → BoxPatch
top e = box_patch kind.Top e.x0 e.x1 e.y0 e.y1 (above e.z1)

-- what holds of Bottom, Top and each side holds of the list
pub all_of_box : (P : BoxPatch → Type 0) (e : Extent) → P (bottom e) → P (top e)
    → ((j : ℕ) → j < 4 → AllByRecursion P (side e j)) → AllByRecursion P (box_patches e)
all_of_box P e of_bottom of_top each =
    (of_bottom, (of_top, all_of_sides P e 0 3 (omega arith) each))

-- a fact of every kind of face
pub all_by_kind : (Q : FaceKind → Type 0) (e : Extent) → Q kind.Bottom → Q kind.Top
    → Q (kind.Side 0)
    → Q (kind.Side 1) → Q (kind.Side 2) → Q (kind.Side 3)
    → AllByRecursion (λ p. Q p.kind) (box_patches e)
all_by_kind Q e of_bottom of_top first second third fourth =
    all_of_box (λ p. Q p.kind) e of_bottom of_top
    (λ j within. all_of_side (λ p. Q p.kind) (kind.Side j) (from_of e j) (to_of e j) e.z0 e.z1
    (λ cut. (of_side j within, of_side j within)) (λ not_cut. of_side j within))
  where
    of_side : (j : ℕ) → j < 4 → Q (kind.Side j)
    of_side zero within = first
    of_side (suc zero) within = second
    of_side (suc (suc zero)) within = third
    of_side (suc (suc (suc zero))) within = fourth
    of_side (suc (suc (suc (suc j)))) within = absurd (omega arith)

-- a fact of the patches of this face
abbrev pub OnFace : FaceKind → (BoxPatch → Type 0) → BoxPatch → Type 0
OnFace k Q p = is_same_kind p.kind k ≡ true → Q p

other_kind : (k : FaceKind) (Q : BoxPatch → Type 0) (p : BoxPatch) → is_same_kind p.kind k ≡ false
    → OnFace k Q p
other_kind k Q p other same = absurd (false≢true (sym other ∙ same))

other_side : (k face : FaceKind) (Q : BoxPatch → Type 0) (low high z0 z1 : ℤ)
    → is_same_kind face k ≡ false
    → AllByRecursion (OnFace k Q) (side_patches face low high z0 z1)
other_side k face Q low high z0 z1 other =
    all_of_side (OnFace k Q) face low high z0 z1
    (λ cut. (other_kind k Q _ other, other_kind k Q _ other)) (λ not_cut. other_kind k Q _ other)

-- so with a side, be it this face or another
own_or_other : (k face : FaceKind) (Q : BoxPatch → Type 0) (low high z0 z1 : ℤ) (b : Bool)
    → is_same_kind face k ≡ b
    → (is_same_kind face k ≡ true → AllByRecursion Q (side_patches face low high z0 z1))
    → AllByRecursion (OnFace k Q) (side_patches face low high z0 z1)
own_or_other k face Q low high z0 z1 true same own =
    all_follow {P = Q} {Q = OnFace k Q} (λ p part it. part) (side_patches face low high z0 z1)
    (own same)
own_or_other k face Q low high z0 z1 false other own = other_side k face Q low high z0 z1 other

-- the one patch of Bottom
pub bottom_alone : (e : Extent)
    → AllByRecursion (OnFace kind.Bottom (λ p. p ≡ bottom e)) (box_patches e)
bottom_alone e =
    let Q : BoxPatch → Type 0 = λ p. p ≡ bottom e in
    all_of_box (OnFace kind.Bottom Q) e (λ same. refl) (other_kind kind.Bottom Q (top e) refl)
    (λ j within. other_side kind.Bottom (kind.Side j) Q (from_of e j) (to_of e j) e.z0 e.z1 refl)

-- the one patch of Top
pub top_alone : (e : Extent) → AllByRecursion (OnFace kind.Top (λ p. p ≡ top e)) (box_patches e)
top_alone e =
    let Q : BoxPatch → Type 0 = λ p. p ≡ top e in
    all_of_box (OnFace kind.Top Q) e (other_kind kind.Top Q (bottom e) refl) (λ same. refl)
    (λ j within. other_side kind.Top (kind.Side j) Q (from_of e j) (to_of e j) e.z0 e.z1 refl)

-- all patches of this side are its parts
abbrev pub HasParts : Extent → FaceKind → ℤ → ℤ → Type 0
HasParts e k low high = AllByRecursion (OnFace k (IsPart k low high e.z0 e.z1)) (box_patches e)

-- a part of a side
abbrev IsPartOf : Extent → ℕ → BoxPatch → Type 0
IsPartOf e i = IsPart (kind.Side i) (from_of e i) (to_of e i) e.z0 e.z1

-- they are so of each side
pub side_parts : (e : Extent) (i : ℕ) → e.z0 <ℤ e.z1
    → HasParts e (kind.Side i) (from_of e i) (to_of e i)
side_parts e i rising =
    let k = kind.Side i in
    all_of_box (OnFace k (IsPartOf e i)) e (other_kind k (IsPartOf e i) (bottom e) refl)
    (other_kind k (IsPartOf e i) (top e) refl)
    (λ j within. own_or_other k (kind.Side j) (IsPartOf e i) (from_of e j) (to_of e j) e.z0 e.z1
    (j == i) refl
    (λ same. subst (λ n. AllByRecursion (IsPartOf e n) (side e j)) (eqb-true j i same)
    (side_is_parts (kind.Side j) (from_of e j) (to_of e j) e.z0 e.z1 rising)))

-- ---- exactly one

-- no patch of these sides stands on another face
none_of_sides : (e : Extent) (k : FaceKind) (i more : ℕ) (u v w : ℤ)
    → ((j : ℕ) → i ≤ j → is_same_kind (kind.Side j) k ≡ false)
    → list_any (patch_test k u v w) (sides e i more) ≡ false
none_of_sides e k i zero u v w other =
    none_of_side k (kind.Side i) (from_of e i) (to_of e i) e.z0 e.z1 u v w (other i (omega arith))
none_of_sides e k i (suc more) u v w other =
    none-append (patch_test k u v w) (side e i) (sides e (suc i) more)
    (none_of_side k (kind.Side i) (from_of e i) (to_of e i) e.z0 e.z1 u v w (other i (omega arith)))
    (none_of_sides e k (suc i) more u v w (λ j later. other j (omega arith)))

-- the point lies over the box in plan
pub record IsOver (e : Extent) (u v w : ℤ) : Type 0 where
  pub left : (e.x0 *ℤ w) <ℤ u
  pub right : u <ℤ (e.x1 *ℤ w)
  pub low : (e.y0 *ℤ w) <ℤ v
  pub high : v <ℤ (e.y1 *ℤ w)

-- a point over the box lies in one patch of Bottom
pub bottom_once : (e : Extent) (u v w : ℤ) → IsOver e u v w
    → ExactlyOne (patch_test kind.Bottom u v w) (box_patches e)
bottom_once e u v w over =
    first_alone (patch_test kind.Bottom u v w) (bottom e) (top e ∷ sides e 0 3)
    (window_in e.x0 e.x1 e.y0 e.y1 u v w over.left over.right over.low over.high)
    (none_of_sides e kind.Bottom 0 3 u v w (λ j later. refl))

-- and in one of Top
pub top_once : (e : Extent) (u v w : ℤ) → IsOver e u v w
    → ExactlyOne (patch_test kind.Top u v w) (box_patches e)
top_once e u v w over =
    one_behind (patch_test kind.Top u v w) (bottom e) (top e ∷ sides e 0 3) refl
    (first_alone (patch_test kind.Top u v w) (top e) (sides e 0 3)
    (window_in e.x0 e.x1 e.y0 e.y1 u v w over.left over.right over.low over.high)
    (none_of_sides e kind.Top 0 3 u v w (λ j later. refl)))

-- the point lies on a side between its ends and heights, and not at the ground
pub record IsBesides (low high z0 z1 u v w : ℤ) : Type 0 where
  pub left : (low *ℤ w) <ℤ u
  pub right : u <ℤ (high *ℤ w)
  pub lower : (z0 *ℤ w) <ℤ v
  pub upper : v <ℤ (z1 *ℤ w)
  pub off : v ≡ pos 0 → ⊥

-- each point of this side that is not at the ground lies in exactly one of its patches
abbrev pub HasOne : Extent → FaceKind → ℤ → ℤ → Type 0
HasOne e k low high =
    (u v w : ℤ) → IsBesides low high e.z0 e.z1 u v w
    → ExactlyOne (patch_test k u v w) (box_patches e)

one_of_own : (e : Extent) (i : ℕ) (u v w : ℤ)
    → IsBesides (from_of e i) (to_of e i) e.z0 e.z1 u v w
    → ExactlyOne (patch_test (kind.Side i) u v w) (side e i)
one_of_own e i u v w at =
    one_of_side (kind.Side i) (from_of e i) (to_of e i) e.z0 e.z1 u v w (eq-eqb i i refl)
    at.left at.right at.lower at.upper at.off

-- of these sides it lies on one alone
one_of_sides : (e : Extent) (i j more : ℕ) (u v w : ℤ) → j ≤ i → i ≤ j + more
    → IsBesides (from_of e i) (to_of e i) e.z0 e.z1 u v w
    → ExactlyOne (patch_test (kind.Side i) u v w) (sides e j more)
one_of_sides e i j zero u v w after before at =
    subst (λ n. ExactlyOne (patch_test (kind.Side i) u v w) (side e n)) (same i j after before)
    (one_of_own e i u v w at)
  where
    same : (m n : ℕ) → n ≤ m → m ≤ n + 0 → m ≡ n
    same m n low high = omega arith
one_of_sides e i j (suc more) u v w after before at =
    let test = patch_test (kind.Side i) u v w in
    ⊎_elim
    (λ later. one_in_second test (side e j) (sides e (suc j) more)
    (none_of_side (kind.Side i) (kind.Side j) (from_of e j) (to_of e j) e.z0 e.z1 u v w
    (ne_eqb j i (λ same. earlier j i later same)))
    (one_of_sides e i (suc j) more u v w (omega arith) (omega arith) at))
    (λ not_later. one_in_first test (side e j) (sides e (suc j) more)
    (subst (λ n. ExactlyOne test (side e n)) (here i j after not_later) (one_of_own e i u v w at))
    (none_of_sides e (kind.Side i) (suc j) more u v w
    (λ n behind. ne_eqb n i (λ same. past n i j behind not_later same))))
    (cases_lt j i)
  where
    earlier : (m n : ℕ) → m < n → m ≡ n → ⊥
    earlier m n less same = omega arith

    here : (m n : ℕ) → n ≤ m → m ≤ n → m ≡ n
    here m n low high = omega arith

    past : (m n l : ℕ) → suc l ≤ m → n ≤ l → m ≡ n → ⊥
    past m n l behind low same = omega arith

-- so with each side
pub side_once : (e : Extent) (i : ℕ) → i ≤ 3 → HasOne e (kind.Side i) (from_of e i) (to_of e i)
side_once e i within u v w at =
    let test = patch_test (kind.Side i) u v w in
    one_behind test (bottom e) (top e ∷ sides e 0 3) refl
    (one_behind test (top e) (sides e 0 3) refl
    (one_of_sides e i 0 3 u v w (omega arith) (omega arith) at))

-- ---- each two: on different faces, or one above the other with another end

-- q lies on p, on the same face, and has another end
pub record IsAbove (p q : BoxPatch) : Type 0 where
  pub kind_same : p.kind ≡ q.kind
  pub low_same : p.low ≡ q.low
  pub touching : p.upper ≡ q.lower
  pub other_end : p.end ≡ q.end → ⊥

-- p comes before q: on an earlier face, or just below it
abbrev pub Precedes : BoxPatch → BoxPatch → Type 0
Precedes p q = (rank_of p.kind < rank_of q.kind) ⊎ IsAbove p q

is_earth : End → Bool
is_earth end.Earth = true
is_earth _ = false

two_of_choice : (R : BoxPatch → BoxPatch → Type 0) (b : Bool) (p q r : BoxPatch) → R p q
    → AllOfTwo R (if b then p ∷ q ∷ [] else r ∷ [])
two_of_choice R true p q r related = ((related, tt), (tt, tt))
two_of_choice R false p q r related = (tt, tt)

two_of_side : (face : FaceKind) (low high z0 z1 : ℤ)
    → AllOfTwo Precedes (side_patches face low high z0 z1)
unfolding is_earth
two_of_side face low high z0 z1 =
    two_of_choice Precedes (is_cut z0 z1) (box_patch face low high z0 (pos 0) end.Earth)
    (box_patch face low high (pos 0) z1 end.Outside) (box_patch face low high z0 z1 (above z0))
    (inr (record {
      kind_same = refl;
      low_same = refl;
      touching = refl;
      other_end = λ same.
          false≢true (sym (ap is_earth same));
    }))

-- a side before faces of higher rank
before_all : (face : FaceKind) (low high z0 z1 : ℤ) (ys : List BoxPatch)
    → AllByRecursion (λ q. rank_of face < rank_of q.kind) ys
    → AllByRecursion (λ p. AllByRecursion (Precedes p) ys) (side_patches face low high z0 z1)
before_all face low high z0 z1 ys higher =
    all_of_side (λ p. AllByRecursion (Precedes p) ys) face low high z0 z1
    (λ cut. (
      ahead (box_patch face low high z0 (pos 0) end.Earth) higher,
      ahead (box_patch face low high (pos 0) z1 end.Outside) higher,
    ))
    (λ not_cut. ahead (box_patch face low high z0 z1 (above z0)) higher)
  where
    ahead : (p : BoxPatch) → AllByRecursion (λ q. rank_of p.kind < rank_of q.kind) ys
        → AllByRecursion (Precedes p) ys
    ahead p all = all_follow {P = λ q. rank_of p.kind < rank_of q.kind} {Q = Precedes p}
        (λ q h. inl h) ys all

rank_of_side : (n : ℕ) (k : ℕ) (low high z0 z1 : ℤ) → n < 2 + k
    → AllByRecursion (λ q. n < rank_of q.kind) (side_patches (kind.Side k) low high z0 z1)
rank_of_side n k low high z0 z1 less =
    all_of_side (λ q. n < rank_of q.kind) (kind.Side k) low high z0 z1 (λ cut. (less, less))
    (λ not_cut. less)

rank_of_sides : (e : Extent) (n i more : ℕ) → n < 2 + i
    → AllByRecursion (λ q. n < rank_of q.kind) (sides e i more)
rank_of_sides e n i zero less = rank_of_side n i (from_of e i) (to_of e i) e.z0 e.z1 less
rank_of_sides e n i (suc more) less =
    all-append (λ q. n < rank_of q.kind) (side e i) (sides e (suc i) more)
    (rank_of_side n i (from_of e i) (to_of e i) e.z0 e.z1 less)
    (rank_of_sides e n (suc i) more (omega arith))

two_of_sides : (e : Extent) (i more : ℕ) → AllOfTwo Precedes (sides e i more)
two_of_sides e i zero = two_of_side (kind.Side i) (from_of e i) (to_of e i) e.z0 e.z1
two_of_sides e i (suc more) =
    two-append Precedes (side e i) (sides e (suc i) more)
    (two_of_side (kind.Side i) (from_of e i) (to_of e i) e.z0 e.z1) (two_of_sides e (suc i) more)
    (before_all (kind.Side i) (from_of e i) (to_of e i) e.z0 e.z1 (sides e (suc i) more)
    (rank_of_sides e (2 + i) (suc i) more (omega arith)))

-- of each two patches of a box the earlier precedes the later
pub each_two : (e : Extent) → AllOfTwo Precedes (box_patches e)
each_two e = (
  (inl (omega arith), ahead_of_sides 0 (bottom e) (omega arith) (λ q h. inl h)),
  (ahead_of_sides 1 (top e) (omega arith) (λ q h. inl h), two_of_sides e 0 3),
)
  where
    ahead_of_sides : (n : ℕ) (p : BoxPatch) → n < 2
        → ((q : BoxPatch) → n < rank_of q.kind → Precedes p q)
        → AllByRecursion (Precedes p) (sides e 0 3)
    ahead_of_sides n p less to =
        all_follow {P = λ q. n < rank_of q.kind} {Q = Precedes p} to (sides e 0 3)
        (rank_of_sides e n 0 3 less)

-- ---- each patch looks out at the earth or the open air

-- the earth or the open air
abbrev pub IsOpen : End → Type 0
IsOpen found = (found ≡ end.Earth) ⊎ (found ≡ end.Outside)

open_choice : (b : Bool) (p q : End) → IsOpen p → IsOpen q → IsOpen (if b then p else q)
open_choice true p q left right = left
open_choice false p q left right = right

-- each patch of a box has such an end
pub all_open : (e : Extent) → AllByRecursion (λ p. IsOpen p.end) (box_patches e)
all_open e =
    all_of_box (λ p. IsOpen p.end) e
    (open_choice (int_le e.z0 (pos 0)) end.Earth end.Outside (inl refl) (inr refl))
    (open_choice (int_le (pos 0) e.z1) end.Outside end.Earth (inr refl) (inl refl))
    (λ j within. side_open (kind.Side j) (from_of e j) (to_of e j))
  where
    side_open : (face : FaceKind) (low high : ℤ)
        → AllByRecursion (λ p. IsOpen p.end) (side_patches face low high e.z0 e.z1)
    side_open face low high =
        all_of_side (λ p. IsOpen p.end) face low high e.z0 e.z1
        (λ cut. (inl refl, inr refl))
        (λ not_cut. open_choice (int_le (pos 0) e.z0) end.Outside end.Earth (inr refl) (inl refl))
