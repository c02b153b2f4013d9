-- The list of a box is sound and in order for each model that is the box.
use Rattle.std.proofs.Common.{◌≡◌, refl, sym, ap, ◌∙◌, arith, ℕ, zero, suc, pos, ◌≤ℤ◌, ◌<◌, true}
use Rattle.std.proofs.Common.{false, List, inl, inr, ⊎_elim, subst, Option, Some, None}
use Rattle.std.specs.List.{list_any}
use Rattle.std.proofs.lemmas.Bool.{eq-eqb, and_from, and_left}
use Rattle.std.proofs.lemmas.Int.{ints}
use Rattle.theory_numbers.specs.Rationals.{IsSame}
use Rattle.theory_numbers.proofs.Vectors.Arrows.{cross-self}
use Rattle.theory_numbers.proofs.Signs.{less_from}
use Rattle.theory_numbers.specs.Fractions.{Ratio, whole}
use Rattle.theory_plane.specs.Sides.{LineSide, level, clearance_at}
use Rattle.theory_plane.proofs.Clearance.{clearance-self}
use Rattle.sb_model.specs.declared.boundary.Boundary.{Boundary}
use Rattle.sb_model.specs.declared.faces.face.Face.{Face}
use Rattle.sb_model.specs.declared.faces.face.FaceKind.{FaceKind}
use Rattle.sb_model.specs.declared.faces.face.FaceKind.TheVariants as kind
use Rattle.sb_model.specs.declared.products.Space.{Space}
use Rattle.sb_model.specs.declared.walk.End.{End}
use Rattle.sb_model.specs.declared.walk.Walk.{Walk}
use Rattle.sb_fraction.specs.Spots.{Spot, IsSpot, times_w}
use Rattle.sb_model.specs.Building.{Building}
use Rattle.sb_model.specs.Surfaces.Sides.{arrow_of, line_of}
use Rattle.sb_model.specs.Surfaces.Faces.{Surface, surface_of, space_numbered, has_face, is_of_face}
use Rattle.sb_model.specs.Surfaces.PlainPoints.{is_plain}
use Rattle.sb_model.specs.Surfaces.Patches.{is_same_kind, is_in_patch, is_child_of, is_id}
use Rattle.theory_lists.specs.Members.{Stands}
use Rattle.sb_model.specs.Boundaries.Places.{boundary_at}
use Rattle.sb_model.specs.Boundaries.Covers.{Covers, CoversFace, is_top_at}
use Rattle.sb_model.specs.Boundaries.Trimmed.{AreTopsTrimmed, AreTrimmed}
use Rattle.sb_model.specs.Boundaries.Mirrors.{ArePaired, IsPairedBy}
use Rattle.sb_model.specs.Boundaries.Nested.{IsNested, Opens, is_child_at}
use Rattle.sb_model.specs.Boundaries.Order.{IsInOrder, IsBefore, rank_of}
use Rattle.sb_model.specs.Boundaries.Sound.{IsSound}
use Rattle.theory_models.proofs.PatchesBetweenLevels.{is_in_window}
use Rattle.theory_models.proofs.BoundariesById.{stands_with_id}
use Rattle.std.proofs.lemmas.Option.{same_Some, none-some}
use Rattle.theory_lists.proofs.Members.{all_stands}
use Rattle.theory_lists.proofs.Blocks.{none_where}
use Rattle.theory_models.proofs.PassagesOfRays.{LooksOut, looks_out_walk, looks_out_not_opened}
use Rattle.sb_box.specs.declared.extent.Extent.{Extent}
use Rattle.sb_box.specs.BoxList.{BoxPatch, box_patches, IsBoxBoundary, IsBoxList}
use Rattle.sb_box.specs.BoxModel.{prism_of, IsBoxModel}
use Rattle.sb_box.proofs.BoxPatchesArePatches.{x_is_interval, y_is_interval, z_is_interval}
use Rattle.sb_box.proofs.BoxPatchesArePatches.{interval_less}
use Rattle.sb_box.proofs.BoxLabels.{Besides, besides_of, box_space, box_model, is_box_model}
use Rattle.sb_box.proofs.BoxSides.{IsRising, first_side, second_side, third_side, fourth_side}
use Rattle.sb_box.proofs.PatchesOfBoxFaces.{all_by_kind, side_parts, side_once, Precedes, each_two}
use Rattle.sb_box.proofs.PatchesOfBoxFaces.{IsOpen, all_open}
use Rattle.sb_box.proofs.FacesOfBoxes.{FaceFacts, lies_in, bottom_facts, top_facts, side_facts}
use Rattle.sb_box.proofs.BoundariesArePatches.{all_lift, one_lift, two_lift, HasPatch, has_patch}
use Rattle.sb_box.proofs.BoundariesArePatches.{in_patch_is, top_is}

-- the coordinates of every box rise
pub rising_box : (e : Extent) → IsRising e
rising_box e = record {
  x = less_from e.x0 e.x1 (interval_less e.x0 e.x1 (x_is_interval e));
  y = less_from e.y0 e.y1 (interval_less e.y0 e.y1 (y_is_interval e));
  z = less_from e.z0 e.z1 (interval_less e.z0 e.z1 (z_is_interval e));
}

-- ---- the faces

-- each face of the box has its facts
pub face_facts : (s : Besides) (n : ℕ) (e : Extent) → IsRising e → (k : FaceKind) (f : Surface)
    → surface_of (prism_of e) k ≡ Some f → FaceFacts s n e k f
face_facts s n e rising kind.Bottom f is =
    subst (FaceFacts s n e kind.Bottom) (same_Some _ f is) (bottom_facts s n e rising)
face_facts s n e rising kind.Top f is =
    subst (FaceFacts s n e kind.Top) (same_Some _ f is) (top_facts s n e rising)
face_facts s n e rising (kind.Side zero) f is =
    let side = first_side s n e rising in
    subst (FaceFacts s n e (kind.Side 0)) (sym side.surface ∙ same_Some _ f is)
    (side_facts s n e 0 _ _ e.x0 e.x1 side refl
    (side_parts e 0 rising.z) (side_once e 0 (omega arith)))
face_facts s n e rising (kind.Side (suc zero)) f is =
    let side = second_side s n e rising in
    subst (FaceFacts s n e (kind.Side 1)) (sym side.surface ∙ same_Some _ f is)
    (side_facts s n e 1 _ _ e.y0 e.y1 side refl
    (side_parts e 1 rising.z) (side_once e 1 (omega arith)))
face_facts s n e rising (kind.Side (suc (suc zero))) f is =
    let side = third_side s n e rising in
    subst (FaceFacts s n e (kind.Side 2)) (sym side.surface ∙ same_Some _ f is)
    (side_facts s n e 2 _ _ e.x0 e.x1 side refl
    (side_parts e 2 rising.z) (side_once e 2 (omega arith)))
face_facts s n e rising (kind.Side (suc (suc (suc zero)))) f is =
    let side = fourth_side s n e rising in
    subst (FaceFacts s n e (kind.Side 3)) (sym side.surface ∙ same_Some _ f is)
    (side_facts s n e 3 _ _ e.y0 e.y1 side refl
    (side_parts e 3 rising.z) (side_once e 3 (omega arith)))
face_facts s n e rising (kind.Side (suc (suc (suc (suc zero))))) f is =
    absurd (none-some f is)
face_facts s n e rising (kind.Side (suc (suc (suc (suc (suc k)))))) f is =
    absurd (none-some f is)

covers_face : (s : Besides) (n : ℕ) (e : Extent) (k : FaceKind) (f : Surface) (list : List Boundary)
    → FaceFacts s n e k f → IsBoxList n e list
    → CoversFace (box_model s n e) list (box_space s n e) k f
covers_face s n e k f list facts are = record {
  once = λ p positive plain.
      one_lift n (lies_in k f p) (is_top_at (box_space s n e) k f p) (top_is s n e k f p)
      (box_patches e) list are
      (facts.once p positive plain);
  inside = λ p positive plane b at top.
      let h = has_patch n (box_patches e) list b are at in
      all_stands (λ q. lies_in k f p q ≡ true → is_of_face (prism_of e) k p ≡ true)
      h.patch (box_patches e)
      (facts.inside p positive plane) h.there (sym (top_is s n e k f p h.patch b h.is) ∙ top);
  walks = λ p positive plain b at top.
      let h = has_patch n (box_patches e) list b are at in
      let l = all_stands (λ q. lies_in k f p q ≡ true → LooksOut (box_model s n e) f p q.end)
      h.patch (box_patches e)
      (facts.looks p positive plain) h.there (sym (top_is s n e k f p h.patch b h.is) ∙ top) in
      looks_out_walk (box_model s n e) f p h.patch.end b.walk l h.is.items h.is.depth h.is.end;
}

space_found : (s : Besides) (n : ℕ) (e : Extent)
    → space_numbered (box_model s n e) n ≡ Some (box_space s n e)
space_found s n e = rw (eq-eqb n n refl) refl

box_covers : (s : Besides) (n : ℕ) (e : Extent) (list : List Boundary) → IsBoxList n e list
    → Covers (box_model s n e) list
box_covers s n e list are = record {
  on_faces = λ b at top.
      let h = has_patch n (box_patches e) list b are at in
      let kinds = all_by_kind (λ k. has_face (Some (box_space s n e)) k ≡ true) e refl refl refl
      refl refl refl in
      ap (λ (number : ℕ). has_face (space_numbered (box_model s n e) number) b.patch.face.kind)
      h.is.of_space
      ∙ ap (λ (o : Option Space). has_face o b.patch.face.kind) (space_found s n e)
      ∙ ap (λ (k : FaceKind). has_face (Some (box_space s n e)) k) h.is.of_face
      ∙ all_stands (λ q. has_face (Some (box_space s n e)) q.kind ≡ true)
      h.patch (box_patches e) kinds h.there;
  faces = λ t at k f surface.
      let same : t ≡ box_space s n e = ⊎_elim (λ e. e) (λ none. absurd none) at in
      subst (λ (t : Space). CoversFace (box_model s n e) list t k f) (sym same)
      (covers_face s n e k f list
      (face_facts s n e (rising_box e) k f
      (ap (λ (t : Space). surface_of t.prism k) (sym same) ∙ surface)) are);
}

-- ---- trimmed, paired, nested

less_than_itself : (a b : ℕ) → a < b → a ≡ b → ⊥
less_than_itself a b less same = omega arith

box_trimmed : (s : Besides) (n : ℕ) (e : Extent) (list : List Boundary) → IsBoxList n e list
    → AreTopsTrimmed (box_model s n e) list
box_trimmed s n e list are =
    two_lift n Precedes
    (λ b c. b.parent ≡ None → c.parent ≡ None → b.patch.face ≡ c.patch.face → b.walk ≡ c.walk
    → AreTrimmed (box_model s n e) b.patch c.patch)
    (λ p q b c is_b is_c precedes top_b top_c face walk.
    absurd (⊎_elim
    (λ lower. less_than_itself (rank_of p.kind) (rank_of q.kind) lower
    (ap rank_of (sym is_b.of_face ∙ ap (λ (f : Face). f.kind) face ∙ is_c.of_face)))
    (λ above. above.other_end (sym is_b.end ∙ ap (λ (w : Walk). w.end) walk ∙ is_c.end))
    precedes))
    (box_patches e) list are (each_two e)

-- a boundary that looks out at the earth or the open air has no pair
open_is_paired : (m : Building) (list : List Boundary) (b : Boundary) (id : ℕ) → IsOpen b.walk.end
    → b.pair ≡ None
    → IsPairedBy m list b id b.walk.end
open_is_paired m list b id open_end none =
    ⊎_elim
    (λ earth. subst (λ (met : End). IsPairedBy m list b id met) (sym earth) none)
    (λ air. subst (λ (met : End). IsPairedBy m list b id met) (sym air) none)
    open_end

box_paired : (s : Besides) (n : ℕ) (e : Extent) (list : List Boundary) → IsBoxList n e list
    → ArePaired (box_model s n e) list
box_paired s n e list are = λ id b at.
    let h = has_patch n (box_patches e) list b are (stands_with_id list id b at) in
    open_is_paired (box_model s n e) list b id
    (subst IsOpen (sym h.is.end)
    (all_stands (λ q. IsOpen q.end) h.patch (box_patches e) (all_open e) h.there))
    h.is.pair

same_kind_itself : (k : FaceKind) → is_same_kind k k ≡ true
same_kind_itself kind.Bottom = refl
same_kind_itself kind.Top = refl
same_kind_itself (kind.Side j) = eq-eqb j j refl

-- a plain point of a patch of the list looks out
looks_out_at : (s : Besides) (n : ℕ) (e : Extent) (list : List Boundary) → IsBoxList n e list
    → (a : Boundary) → (h : HasPatch n (box_patches e) a) → (f : Surface)
    → surface_of (prism_of e) a.patch.face.kind ≡ Some f
    → (p : Spot) → IsSpot p → is_plain (box_model s n e) (prism_of e) a.patch.face.kind p ≡ true
    → is_in_patch f a.patch p ≡ true → LooksOut (box_model s n e) f p h.patch.end
looks_out_at s n e list are a h f surface p positive plain inside =
    let k = a.patch.face.kind in
    all_stands (λ q. lies_in k f p q ≡ true → LooksOut (box_model s n e) f p q.end)
    h.patch (box_patches e)
    ((face_facts s n e (rising_box e) k f surface).looks p positive plain) h.there
    (and_from (is_same_kind h.patch.kind k)
    (is_in_window h.patch.low h.patch.high h.patch.lower h.patch.upper (times_w p f.across)
    (times_w p f.up) p.w)
    (ap (λ (j : FaceKind). is_same_kind j k) (sym h.is.of_face) ∙ same_kind_itself k)
    (sym (in_patch_is n f p h.patch a h.is) ∙ inside))

-- no boundary of the list is a child
no_child : (n : ℕ) (e : Extent) (list : List Boundary) → IsBoxList n e list → (b : Boundary)
    → Stands b list
    → b.parent ≡ None
no_child n e list are b at = (has_patch n (box_patches e) list b are at).is.parent

childless : (b : Boundary) (id : ℕ) → b.parent ≡ None → b.parent ≡ Some id → ⊥
childless b id none some = none-some id (sym none ∙ some)

no_children : (n : ℕ) (e : Extent) (list : List Boundary) → IsBoxList n e list
    → (f : Surface) (id : ℕ) (p : Spot)
    → list_any (is_child_at f id p) list ≡ false
no_children n e list are f id p =
    none_where (is_child_at f id p) list
    (all_lift n (λ q. Unit {0}) (λ b. is_child_at f id p b ≡ false)
    (λ q b is one. and_left (is_child_of id b) (is_in_patch f b.patch p)
    (ap (is_id id) is.parent))
    (box_patches e) list are (all_by_kind (λ k. Unit {0}) e tt tt tt tt tt tt))

box_opens : (s : Besides) (n : ℕ) (e : Extent) (list : List Boundary) → IsBoxList n e list
    → (id : ℕ) (a : Boundary) → boundary_at list id ≡ Some a → Opens (box_model s n e) list a id
box_opens s n e list are id a at = λ t found f surface p positive plain inside.
    let m = box_model s n e in
    let h = has_patch n (box_patches e) list a are (stands_with_id list id a at) in
    let same : box_space s n e ≡ t =
    same_Some (box_space s n e) t
    (sym (space_found s n e) ∙ ap (space_numbered m) (sym h.is.of_space) ∙ found) in
    let own_surface = ap (λ (t : Space). surface_of t.prism a.patch.face.kind) same ∙ surface in
    let own_plain = ap (λ (t : Space). is_plain m t.prism a.patch.face.kind p) same ∙ plain in
    let l = looks_out_at s n e list are a h f own_surface p positive own_plain inside in
    record {
      opened = λ o. absurd (looks_out_not_opened m f p h.patch.end l o);
      keys = λ o. absurd (looks_out_not_opened m f p h.patch.end l o);
      closed = λ not_opened. no_children n e list are f id p;
    }

box_nested : (s : Besides) (n : ℕ) (e : Extent) (list : List Boundary) → IsBoxList n e list
    → IsNested (box_model s n e) list
box_nested s n e list are = record {
  no_key = λ b at top. (has_patch n (box_patches e) list b are at).is.key;
  in_parent = λ b at id child. absurd (childless b id (no_child n e list are b at) child);
  opens = λ id a at top. box_opens s n e list are id a at;
  trimmed = λ id.
      two_lift n Precedes
      (λ b c. b.parent ≡ Some id → c.parent ≡ Some id → b.key ≡ c.key
      → AreTrimmed (box_model s n e) b.patch c.patch)
      (λ p q b c is_b is_c precedes child other key. absurd (childless b id is_b.parent child))
      (box_patches e) list are (each_two e);
}

-- ---- in order

precedes_is_before : (p q : BoxPatch) (b c : Boundary) (n : ℕ) → IsBoxBoundary n p b
    → IsBoxBoundary n q c
    → Precedes p q → IsBefore b.patch c.patch
precedes_is_before p q b c n is_b is_c precedes = inr (
  is_b.of_space ∙ sym is_c.of_space,
  ⊎_elim
      (λ lower. inl (rw (is_b.of_face, is_c.of_face) lower))
      (λ above. inr (
        ap rank_of (is_b.of_face ∙ above.kind_same ∙ sym is_c.of_face),
        inr (
          subst (λ (r : Ratio). IsSame (arrow_of b.patch.low) (arrow_of r))
              (is_b.low ∙ ap whole above.low_same ∙ sym is_c.low)
              (cross-self (arrow_of b.patch.low)),
          λ u rational in_first in_second.
              subst (λ (l : LineSide). pos 0 ≤ℤ clearance_at (line_of b.patch.upper) l u)
              (is_b.upper ∙ ap level above.touching ∙ sym is_c.lower)
              (let e = clearance-self (line_of b.patch.upper) u in omega (arith, ints)),
        ),
      ))
      precedes,
)

-- the list is in order
pub box_in_order : (n : ℕ) (e : Extent) (list : List Boundary) → IsBoxList n e list → IsInOrder list
box_in_order n e list are = record {
  tops =
      two_lift n Precedes (λ b c. b.parent ≡ None → c.parent ≡ None → IsBefore b.patch c.patch)
      (λ p q b c is_b is_c precedes top other. precedes_is_before p q b c n is_b is_c precedes)
      (box_patches e) list are (each_two e);
  children = λ id.
      two_lift n Precedes (λ b c. b.parent ≡ Some id → c.parent ≡ Some id
      → IsBefore b.patch c.patch)
      (λ p q b c is_b is_c precedes child other. absurd (childless b id is_b.parent child))
      (box_patches e) list are (each_two e);
  followed = λ id place c at child.
      absurd (childless c id (no_child n e list are c (stands_with_id list place c at)) child);
}

-- the list is sound for each model that is the box
pub box_list_is_sound : (n : ℕ) (e : Extent) (list : List Boundary) → IsBoxList n e list
    → (m : Building) → IsBoxModel n e m → IsSound m list
box_list_is_sound n e list are m is =
    let s = besides_of m is.space in
    let sound : IsSound (box_model s n e) list = record {
      covers = box_covers s n e list are;
      trimmed = box_trimmed s n e list are;
      paired = box_paired s n e list are;
      nested = box_nested s n e list are;
    } in
    subst (λ (m : Building). IsSound m list) (sym (is_box_model n e m is)) sound
