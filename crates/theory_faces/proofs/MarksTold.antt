-- The test of marks tells whether two are equal.
use Rattle.std.proofs.Common.{◌≡◌, refl, ap, ℕ, ℤ, Bool, ◌&&◌, Decides}
use Rattle.std.proofs.Common.{List, [], ◌∷◌}
use Rattle.std.proofs.lemmas.Bool.{and_parts, and_from, false≢true}
use Rattle.std.proofs.lemmas.Bool.Decides.{Decides-int_eq, Decides-eqb}
use Rattle.theory_numbers.specs.Fractions.{Ratio}
use Rattle.theory_joining.specs.Laws.{TellsEqual}
use Rattle.sb_model.specs.declared.faces.face.Face.{Face}
use Rattle.sb_model.specs.declared.faces.face.FaceKind.{FaceKind}
use Rattle.sb_model.specs.declared.faces.face.FaceKind.TheVariants as kind
use Rattle.sb_model.specs.declared.walk.End.{End}
use Rattle.sb_model.specs.declared.walk.End.TheVariants as end
use Rattle.sb_model.specs.declared.walk.Item.{Item}
use Rattle.sb_model.specs.declared.walk.Walk.{Walk}
use Rattle.sb_fraction.specs.Numbers.{ratio}
use Rattle.sb_model.specs.Walks.{item}
use Rattle.sb_model.specs.Surfaces.Patches.{is_same_kind}
use Rattle.theory_faces.specs.Strips.{Mark, is_same_ratio, is_same_item, are_same_items}
use Rattle.theory_faces.specs.Strips.{is_same_end, is_same_walk, is_same_face, is_same_mark}

abbrev walk_with : List Item → ℤ → End → Walk
walk_with items depth found = record { items = items; depth = depth; end = found }

abbrev face_with : ℕ → FaceKind → Face
face_with space kinds = record { space = space; kind = kinds }

abbrev mark_with : Face → Walk → Mark
mark_with face walk = record { face = face; walk = walk }

-- two tests that both tell
both_tell : {b c : Bool} {P Q R : Type 0} → Decides b P → Decides c Q → (P → Q → R) → (R → P)
    → (R → Q) → Decides (b && c) R
both_tell {b} {c} first second together left right = (
  λ answer.
      let parts = and_parts b c answer in together (first.0 parts.0) (second.0 parts.1),
  λ same. and_from b c (first.1 (left same)) (second.1 (right same)),
)

ratio_tells : (r s : Ratio) → Decides (is_same_ratio r s) (r ≡ s)
ratio_tells r s =
    both_tell (Decides-int_eq r.num s.num) (Decides-int_eq r.den s.den) together
    (λ same. ap (λ (t : Ratio). t.num) same) (λ same. ap (λ (t : Ratio). t.den) same)
  where
    together : r.num ≡ s.num → r.den ≡ s.den → r ≡ s
    together num den =
        let whole : ratio r.num r.den ≡ ratio s.num s.den = cc in whole

item_tells : (i j : Item) → Decides (is_same_item i j) (i ≡ j)
item_tells i j =
    both_tell {Q = (i.layer ≡ j.layer) × (i.thickness ≡ j.thickness)}
    (Decides-eqb i.element j.element)
    (both_tell (Decides-eqb i.layer j.layer) (ratio_tells i.thickness j.thickness)
    (λ layer thickness. (layer, thickness)) (λ two. two.0) (λ two. two.1))
    (λ element two. together element two.0 two.1) (λ same. ap (λ (k : Item). k.element) same)
    (λ same. (ap (λ (k : Item). k.layer) same, ap (λ (k : Item). k.thickness) same))
  where
    together : i.element ≡ j.element → i.layer ≡ j.layer → i.thickness ≡ j.thickness → i ≡ j
    together element layer thickness =
        let whole : item i.element i.layer i.thickness ≡ item j.element j.layer j.thickness = cc in
        whole

items_tell : (is js : List Item) → Decides (are_same_items is js) (is ≡ js)
items_tell [] [] = (λ answer. refl, λ same. refl)
items_tell [] (j ∷ js) = (λ answer. absurd (false≢true answer), λ same. absurd cc)
items_tell (i ∷ is) [] = (λ answer. absurd (false≢true answer), λ same. absurd cc)
items_tell (i ∷ is) (j ∷ js) =
    both_tell (item_tells i j) (items_tell is js) (λ first rest. cc) (λ same. cc) (λ same. cc)

end_tells : (e f : End) → Decides (is_same_end e f) (e ≡ f)
end_tells (end.Space m) (end.Space n) =
    (λ answer. ap end.Space ((Decides-eqb m n).0 answer), λ same. (Decides-eqb m n).1 cc)
end_tells (end.Space m) end.Outside = (λ answer. absurd (false≢true answer), λ same. absurd cc)
end_tells (end.Space m) end.Earth = (λ answer. absurd (false≢true answer), λ same. absurd cc)
end_tells (end.Space m) (end.Solid n) = (λ answer. absurd (false≢true answer), λ same. absurd cc)
end_tells end.Outside (end.Space n) = (λ answer. absurd (false≢true answer), λ same. absurd cc)
end_tells end.Outside end.Outside = (λ answer. refl, λ same. refl)
end_tells end.Outside end.Earth = (λ answer. absurd (false≢true answer), λ same. absurd cc)
end_tells end.Outside (end.Solid n) = (λ answer. absurd (false≢true answer), λ same. absurd cc)
end_tells end.Earth (end.Space n) = (λ answer. absurd (false≢true answer), λ same. absurd cc)
end_tells end.Earth end.Outside = (λ answer. absurd (false≢true answer), λ same. absurd cc)
end_tells end.Earth end.Earth = (λ answer. refl, λ same. refl)
end_tells end.Earth (end.Solid n) = (λ answer. absurd (false≢true answer), λ same. absurd cc)
end_tells (end.Solid m) (end.Space n) = (λ answer. absurd (false≢true answer), λ same. absurd cc)
end_tells (end.Solid m) end.Outside = (λ answer. absurd (false≢true answer), λ same. absurd cc)
end_tells (end.Solid m) end.Earth = (λ answer. absurd (false≢true answer), λ same. absurd cc)
end_tells (end.Solid m) (end.Solid n) =
    (λ answer. ap end.Solid ((Decides-eqb m n).0 answer), λ same. (Decides-eqb m n).1 cc)

-- the test of walks tells
pub walk_tells : (v w : Walk) → Decides (is_same_walk v w) (v ≡ w)
walk_tells v w =
    both_tell {Q = (v.depth ≡ w.depth) × (v.end ≡ w.end)} (items_tell v.items w.items)
    (both_tell (Decides-int_eq v.depth w.depth) (end_tells v.end w.end)
    (λ depth found. (depth, found)) (λ two. two.0) (λ two. two.1))
    (λ items two. together items two.0 two.1) (λ same. ap (λ (x : Walk). x.items) same)
    (λ same. (ap (λ (x : Walk). x.depth) same, ap (λ (x : Walk). x.end) same))
  where
    together : v.items ≡ w.items → v.depth ≡ w.depth → v.end ≡ w.end → v ≡ w
    together items depth found =
        let whole : walk_with v.items v.depth v.end ≡ walk_with w.items w.depth w.end = cc in whole

-- the test of kinds of faces
pub kind_tells : (j k : FaceKind) → Decides (is_same_kind j k) (j ≡ k)
kind_tells kind.Bottom kind.Bottom = (λ answer. refl, λ same. refl)
kind_tells kind.Bottom kind.Top = (λ answer. absurd (false≢true answer), λ same. absurd cc)
kind_tells kind.Bottom (kind.Side k) = (λ answer. absurd (false≢true answer), λ same. absurd cc)
kind_tells kind.Top kind.Bottom = (λ answer. absurd (false≢true answer), λ same. absurd cc)
kind_tells kind.Top kind.Top = (λ answer. refl, λ same. refl)
kind_tells kind.Top (kind.Side k) = (λ answer. absurd (false≢true answer), λ same. absurd cc)
kind_tells (kind.Side j) kind.Bottom = (λ answer. absurd (false≢true answer), λ same. absurd cc)
kind_tells (kind.Side j) kind.Top = (λ answer. absurd (false≢true answer), λ same. absurd cc)
kind_tells (kind.Side j) (kind.Side k) =
    (λ answer. ap kind.Side ((Decides-eqb j k).0 answer), λ same. (Decides-eqb j k).1 cc)

-- the test of faces
pub face_tells : (f g : Face) → Decides (is_same_face f g) (f ≡ g)
face_tells f g =
    both_tell (Decides-eqb f.space g.space) (kind_tells f.kind g.kind) together
    (λ same. ap (λ (h : Face). h.space) same) (λ same. ap (λ (h : Face). h.kind) same)
  where
    together : f.space ≡ g.space → f.kind ≡ g.kind → f ≡ g
    together space kinds =
        let whole : face_with f.space f.kind ≡ face_with g.space g.kind = cc in whole

-- the test of marks
pub mark_tells : TellsEqual is_same_mark
mark_tells m n =
    both_tell (face_tells m.face n.face) (walk_tells m.walk n.walk) together
    (λ same. ap (λ (x : Mark). x.face) same) (λ same. ap (λ (x : Mark). x.walk) same)
  where
    together : m.face ≡ n.face → m.walk ≡ n.walk → m ≡ n
    together face walk =
        let whole : mark_with m.face m.walk ≡ mark_with n.face n.walk = cc in whole
