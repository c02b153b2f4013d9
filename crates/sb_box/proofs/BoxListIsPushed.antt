-- Boundaries that are pushed one by one are a list in their order.
use Rattle.std.proofs.Common.{◌≡◌, ℕ, ℤ, pos, true, false, ◌++◌, ◌∷◌, [], List, append_assoc, ap}
use Rattle.std.proofs.Common.{◌∙◌, subst}
use Rattle.sb_model.specs.declared.boundary.Boundary.{Boundary}
use Rattle.sb_box.specs.BoxList.{BoxPatch, IsBoxBoundary, AreBoxBoundaries, IsBoxList, box_patch}
use Rattle.sb_box.specs.BoxList.{box_patches, side_patches, is_cut, above, below}
use Rattle.sb_box.specs.declared.extent.Extent.{Extent}
use Rattle.sb_model.specs.declared.faces.face.FaceKind.TheVariants as kind
use Rattle.sb_model.specs.declared.walk.End.{End}
use Rattle.sb_model.specs.declared.faces.face.FaceKind.{FaceKind}
use Rattle.sb_model.specs.declared.walk.End.TheVariants as end

appended : (space : ℕ) (ps : List BoxPatch) (list : List Boundary) (p : BoxPatch) (b : Boundary)
    → AreBoxBoundaries space ps list → IsBoxBoundary space p b
    → AreBoxBoundaries space (ps ++ p ∷ []) (list ++ b ∷ [])
appended space [] [] p b are is = (is, tt)
appended space (q ∷ qs) (c ∷ cs) p b are is = (are.0, appended space qs cs p b are.1 is)
appended space [] (c ∷ cs) p b are is = absurd are
appended space (q ∷ qs) [] p b are is = absurd are

-- a list with one more boundary stands for one more patch
pub pushed : (space : ℕ) (ps : List BoxPatch) (before after : List Boundary) (p : BoxPatch)
    (b : Boundary)
    → AreBoxBoundaries space ps before → IsBoxBoundary space p b → after ≡ before ++ b ∷ []
    → AreBoxBoundaries space (ps ++ p ∷ []) after
pushed space ps before after p b are is grown = rw grown (appended space ps before p b are is)

-- a list with the boundary of a side that the ground does not cut
pub one_pushed : (space : ℕ) (ps : List BoxPatch) (before after : List Boundary) (b : Boundary)
    (face : FaceKind) (low high z0 z1 : ℤ) → is_cut z0 z1 ≡ false
    → AreBoxBoundaries space ps before
    → IsBoxBoundary space (box_patch face low high z0 z1 (above z0)) b → after ≡ before ++ b ∷ []
    → AreBoxBoundaries space (ps ++ side_patches face low high z0 z1) after
one_pushed space ps before after b face low high z0 z1 whole_side are is grown =
    rw whole_side (pushed space ps before after
    (box_patch face low high z0 z1 (above z0)) b are is grown)

-- a list with the two boundaries of a side that the ground cuts
pub two_pushed : (space : ℕ) (ps : List BoxPatch) (before between after : List Boundary)
    (b c : Boundary)
    (face : FaceKind) (low high z0 z1 : ℤ) → is_cut z0 z1 ≡ true
    → AreBoxBoundaries space ps before
    → IsBoxBoundary space (box_patch face low high z0 (pos 0) end.Earth) b
    → between ≡ before ++ b ∷ []
    → IsBoxBoundary space (box_patch face low high (pos 0) z1 end.Outside) c
    → after ≡ between ++ c ∷ []
    → AreBoxBoundaries space (ps ++ side_patches face low high z0 z1) after
two_pushed space ps before between after b c face low high z0 z1 cut are is grown is_too grown_too =
    let earth = box_patch face low high z0 (pos 0) end.Earth in
    let air = box_patch face low high (pos 0) z1 end.Outside in
    let longer = pushed space ps before between earth b are is grown in
    let longest = pushed space (ps ++ earth ∷ []) between after air c longer is_too grown_too in
    rw cut (rw append_assoc at longest)

-- one list is another with the patches of a side behind its own
abbrev pub Extends : ℕ → FaceKind → ℤ → ℤ → ℤ → ℤ → List Boundary → List Boundary → Type 0
Extends space face low high z0 z1 before after =
    (ps : List BoxPatch) → AreBoxBoundaries space ps before
    → AreBoxBoundaries space (ps ++ side_patches face low high z0 z1) after

joined : (a b c d e : List BoxPatch) → (((a ++ b) ++ c) ++ d) ++ e ≡ a ++ (b ++ (c ++ (d ++ e)))
joined a b c d e =
    append_assoc ((a ++ b) ++ c) d e ∙ append_assoc (a ++ b) c (d ++ e)
    ∙ append_assoc a b (c ++ (d ++ e))

-- the patches of a box by its six numbers
abbrev patches_at : ℤ → ℤ → ℤ → ℤ → ℤ → ℤ → List BoxPatch
patches_at x0 x1 y0 y1 z0 z1 =
    box_patch kind.Bottom x0 x1 y0 y1 (below z0) ∷ box_patch kind.Top x0 x1 y0 y1 (above z1)
    ∷ (side_patches (kind.Side 0) x0 x1 z0 z1 ++ (side_patches (kind.Side 1) y0 y1 z0 z1
    ++ (side_patches (kind.Side 2) x0 x1 z0 z1 ++ side_patches (kind.Side 3) y0 y1 z0 z1)))

same_numbers : (x0 x1 y0 y1 z0 z1 : ℤ) (e : Extent)
    → x0 ≡ e.x0 → x1 ≡ e.x1 → y0 ≡ e.y0 → y1 ≡ e.y1 → z0 ≡ e.z0 → z1 ≡ e.z1
    → patches_at x0 x1 y0 y1 z0 z1 ≡ box_patches e
same_numbers x0 x1 y0 y1 z0 z1 e left right front back foot head =
    ap (λ n. patches_at n x1 y0 y1 z0 z1) left ∙ ap (λ n. patches_at e.x0 n y0 y1 z0 z1) right
    ∙ ap (λ n. patches_at e.x0 e.x1 n y1 z0 z1) front
    ∙ ap (λ n. patches_at e.x0 e.x1 e.y0 n z0 z1) back
    ∙ ap (λ n. patches_at e.x0 e.x1 e.y0 e.y1 n z1) foot
    ∙ ap (λ n. patches_at e.x0 e.x1 e.y0 e.y1 e.z0 n) head

-- Bottom, Top and the four sides, pushed in this order, are the list of the box
pub box_pushed : (space : ℕ) (e : Extent) (x0 x1 y0 y1 z0 z1 : ℤ)
    → x0 ≡ e.x0 → x1 ≡ e.x1 → y0 ≡ e.y0 → y1 ≡ e.y1 → z0 ≡ e.z0 → z1 ≡ e.z1
    → (empty one two three four five list : List Boundary) (bottom top : Boundary)
    (under over : End)
    → empty ≡ [] → one ≡ empty ++ bottom ∷ [] → two ≡ one ++ top ∷ []
    → IsBoxBoundary space (box_patch kind.Bottom x0 x1 y0 y1 under) bottom → under ≡ below z0
    → IsBoxBoundary space (box_patch kind.Top x0 x1 y0 y1 over) top → over ≡ above z1
    → Extends space (kind.Side 0) x0 x1 z0 z1 two three
    → Extends space (kind.Side 1) y0 y1 z0 z1 three four
    → Extends space (kind.Side 2) x0 x1 z0 z1 four five
    → Extends space (kind.Side 3) y0 y1 z0 z1 five list
    → IsBoxList space e list
box_pushed space e x0 x1 y0 y1 z0 z1 left right front back foot head empty one two three four five
    list bottom top under over
    none bottom_pushed top_pushed bottom_is under_is top_is over_is first second third fourth =
    let low = box_patch kind.Bottom x0 x1 y0 y1 (below z0) in
    let high = box_patch kind.Top x0 x1 y0 y1 (above z1) in
    let start : AreBoxBoundaries space [] empty = rw none tt in
    let with_bottom : AreBoxBoundaries space (low ∷ []) one =
    pushed space [] empty one low bottom start (rw under_is at bottom_is) bottom_pushed in
    let with_top : AreBoxBoundaries space (low ∷ high ∷ []) two =
    pushed space (low ∷ []) one two high top with_bottom (rw over_is at top_is) top_pushed in
    let levels = low ∷ high ∷ [] in
    let a = side_patches (kind.Side 0) x0 x1 z0 z1 in
    let b = side_patches (kind.Side 1) y0 y1 z0 z1 in
    let c = side_patches (kind.Side 2) x0 x1 z0 z1 in
    let d = side_patches (kind.Side 3) y0 y1 z0 z1 in
    let all = fourth (((levels ++ a) ++ b) ++ c)
    (third ((levels ++ a) ++ b) (second (levels ++ a) (first levels with_top))) in
    subst (λ (ps : List BoxPatch). AreBoxBoundaries space ps list)
    (joined levels a b c d ∙ same_numbers x0 x1 y0 y1 z0 z1 e left right front back foot head)
    all
