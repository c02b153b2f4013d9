-- Joinable cells whose runs are put in order and carried on are joined: the patches are trimmed, and
-- on each face they have the points, the plain points and the walks of the cells.
use Rattle.std.proofs.Common.{◌≡◌, refl, sym, ◌∙◌, ap, subst, inl, inr, ◌⊎◌, arith, ℕ, ℤ, pos}
use Rattle.std.proofs.Common.{neg_ℤ, ◌+ℤ◌, ◌*ℤ◌, ◌<◌, ◌==◌, true, false, List, [], ◌∷◌}
use Rattle.std.proofs.Common.{map, Option, Some, None, IsTrue, IsPermutation}
use Rattle.std.specs.Prelude.{cond, slice_get}
use Rattle.std.specs.List.{AllByRecursion, list_any, find}
use Rattle.std.specs.Ordering.{int_eq}
use Rattle.std.proofs.lemmas.Int.{ints}
use Rattle.std.proofs.lemmas.Bool.{and_parts, and_from, false_from_ne_true, eq-eqb, ne_eqb}
use Rattle.std.proofs.lemmas.Bool.Decides.{Decides-int_eq}
use Rattle.std.proofs.lemmas.List.Sorted.{IsPermutation-sym}
use Rattle.std.proofs.lemmas.Option.{same_Some, none-some}
use Rattle.theory_lists.specs.Members.{Stands, AllOfTwo}
use Rattle.theory_lists.specs.OneOf.{ExactlyOne, AtMostOne}
use Rattle.theory_lists.proofs.Members.{all_stands, all_follow, all_that_stand, all_images, two_follow}
use Rattle.theory_lists.proofs.Members.{two_of_images, one_or_two, any_stands, one_of_any, stands_at}
use Rattle.theory_lists.proofs.Blocks.{one_of_at_most}
use Rattle.theory_lists.proofs.InAnyOrder.{all_permuted, two_permuted}
use Rattle.theory_lists.proofs.Passing.{passes_if_all}
use Rattle.theory_numbers.specs.Rationals.{IsRational, IsBelow, IsSame}
use Rattle.theory_numbers.proofs.Ring.{neg-mul}
use Rattle.theory_plane.specs.Sides.{LineSide, IsLineSide}
use Rattle.theory_plane.specs.Points.{abscissa_of, is_on_side}
use Rattle.theory_plane.specs.Regions.{is_inside}
use Rattle.theory_patches.specs.Marked.{IsPatch}
use Rattle.theory_patches.specs.Sheets.{Sheet, IsNoAbscissa, IsMarkedAt}
use Rattle.theory_patches.specs.Trimmed.{IsTrimmedList, AreTrimmed as AreTrimmedOnSheet}
use Rattle.theory_patches.proofs.TrimmedInAnyOrder.{trimmed_permuted, marked_permuted}
use Rattle.theory_joining.specs.Cells.{raised}
use Rattle.theory_joining.specs.Put.{carried_on}
use Rattle.theory_joining.proofs.GoesOn.{GoesOn}
use Rattle.theory_joining.proofs.RunsMerge.{AreOneRun}
use Rattle.theory_plans.specs.LoopEdges.{edges_of}
use Rattle.theory_plans.proofs.Edges.EdgesOfPlans.{is_proper_edge}
use Rattle.theory_plans.specs.Inside.{is_in_plan}
use Rattle.theory_plans.proofs.Edges.EdgesOfPlans.{plan_edges_are_proper}
use Rattle.theory_plans.proofs.Edges.StepsOfEdges.{step_is}
use Rattle.theory_parity.proofs.Regions.RegionIsFourHalves.{region_inside_throughout_off_sides}
use Rattle.sb_fraction.specs.Spots.{Spot, IsSpot, Vector, times_w, reading, opposite}
use Rattle.sb_fraction.specs.Edges.{Edge}
use Rattle.sb_fraction.specs.Directions.{axis_z, direction_of}
use Rattle.sb_fraction.specs.Lines.{in_frame}
use Rattle.sb_model.specs.declared.boundary.Cell.{Cell}
use Rattle.sb_model.specs.declared.faces.face.Face.{Face}
use Rattle.sb_model.specs.declared.faces.face.FaceKind.{FaceKind}
use Rattle.sb_model.specs.declared.faces.face.FaceKind.TheVariants as kind
use Rattle.sb_model.specs.declared.products.Space.{Space}
use Rattle.sb_model.specs.declared.walk.Walk.{Walk}
use Rattle.sb_model.specs.Solids.{Upright}
use Rattle.sb_model.specs.Building.{Building, is_building}
use Rattle.sb_model.specs.PlanEdges.{is_abscissa}
use Rattle.sb_model.specs.Surfaces.Faces.{Surface, surface_of, space_numbered, side_of, side_over, edge_numbered}
use Rattle.sb_model.specs.Surfaces.Faces.{on_face, is_in_plane, is_of_face, is_of_side}
use Rattle.sb_model.specs.Surfaces.Faces.{bottom_of, top_of}
use Rattle.sb_model.specs.Surfaces.PlainPoints.{is_plain}
use Rattle.sb_model.specs.Surfaces.Patches.{region_of, is_in_patch, surface_at, surface_in}
use Rattle.sb_model.specs.Surfaces.FineCells.{IsFineCell, IsPieceOf, IsPieceOver, way_x}
use Rattle.sb_model.specs.Boundaries.Trimmed.{AreTrimmed}
use Rattle.theory_models.proofs.NumbersApart.{own_numbers}
use Rattle.theory_models.proofs.EdgesOfProducts.{plan_of_solid}
use Rattle.theory_faces.specs.Strips.{Mark, Strip, strip_of, strips_of, is_same_face, is_same_mark}
use Rattle.theory_faces.specs.Strips.{runs_of_calls}
use Rattle.theory_faces.specs.Chains.{chains, AreInOrder}
use Rattle.theory_faces.specs.Joinable.{AreJoinable, IsTaken, is_cell_at}
use Rattle.theory_faces.specs.Laws.{HasJoinedCells}
use Rattle.theory_faces.proofs.MarksTold.{mark_tells, face_tells}
use Rattle.theory_faces.proofs.Slabs.SlabAfterSlab.{all_strips, all_listed, all_apart}
use Rattle.theory_faces.proofs.Slabs.SlabAfterSlab.{all_in_turn, all_apart_at, AreApartAt, all_of_strips}
use Rattle.theory_faces.proofs.Slabs.SlabAfterSlab.{all_have_marks, all_have_no_more, Ascend}
use Rattle.theory_faces.proofs.ChainsAreTrimmed.{IsListed, each_chain, chains_are_trimmed}
use Rattle.theory_faces.proofs.ChainsAreTrimmed.{chains_apart_at, chains_have_marks}
use Rattle.theory_faces.proofs.ChainsAreTrimmed.{chains_have_no_more}
use Rattle.theory_faces.proofs.PatchesAreRegions.{patch_is}
use Rattle.theory_faces.proofs.Slabs.CellsRise.{way_x_is}
use Rattle.theory_faces.proofs.Slabs.JoinableAscends.{joinable_ascends, sheet_of_ends, ends_of, none_of_sheet}
use Rattle.theory_faces.proofs.Slabs.JoinableAscends.{strip_of_cell, stands_of_image, image_stands}
use Rattle.theory_faces.proofs.Slabs.JoinableAscends.{stands_in_all}
use Rattle.theory_faces.proofs.Points.PlainOffSides.{plain_off_uppers, plain_is_no_abscissa, IsLevel}
use Rattle.theory_faces.proofs.Points.PlainOffSides.{bottom_is_level, top_is_level, level_point, frame_point}
use Rattle.theory_faces.proofs.Points.PlainOffSides.{plan_point}
use Rattle.theory_faces.proofs.Points.PointsOfSides.{IsOnSide, spans_between, on_side_is_of_side}

-- ---- the space with a number

find_space : (s : Space) (xs : List Space) → AllOfTwo (λ x y. x.number < y.number) xs → Stands s xs
    → find (λ x. x.number == s.number) xs ≡ Some s
find_space s [] rise stands = absurd stands
find_space s (x ∷ xs) rise (inl same) =
    ap (λ b. cond b (Some x) (find (λ y. y.number == s.number) xs))
    (eq-eqb x.number s.number (sym (ap (λ (y : Space). y.number) same)))
    ∙ ap Some (sym same)
find_space s (x ∷ xs) rise (inr later) =
    ap (λ b. cond b (Some x) (find (λ y. y.number == s.number) xs))
    (ne_eqb x.number s.number
    (λ same.
    let less = all_stands (λ (y : Space). x.number < y.number) s xs rise.0 later in
    omega arith))
    ∙ find_space s xs rise.1 later

-- a space of a model is the one with its number
pub space_found : (m : Building) → IsTrue (is_building m) → (s : Space) → Stands s m.spaces
    → space_numbered m s.number ≡ Some s
space_found m is s stands =
    find_space s m.spaces (own_numbers m is).spaces.rise stands

abbrev mark_with : Face → Walk → Mark
mark_with face walk = record { face = face; walk = walk }

abbrev face_with : ℕ → FaceKind → Face
face_with space kinds = record { space = space; kind = kinds }

module _ (m : Building) (is : IsTrue (is_building m)) (d : Vector) (calls : List (List Cell))
    (joinable : AreJoinable m d calls) (sorted : List Strip) (answer : List Cell)
    (permuted : IsPermutation (runs_of_calls calls) sorted) (order : AreInOrder sorted)
    (answered : IsPermutation (chains sorted) (strips_of answer)) where
  abbrev lists : List (List Strip)
  lists = map strips_of calls

  abbrev sheet : Sheet
  sheet = sheet_of_ends (map strips_of calls)

  ascend : Ascend (sheet_of_ends (map strips_of calls)) (map strips_of calls)
  ascend = joinable_ascends m d calls joinable

  listed : AllByRecursion (IsListed sheet) (runs_of_calls calls)
  listed = all_listed sheet lists ascend.slabs

  -- a cell that was taken is a fine cell
  taken_is_fine : (c : Cell) → IsTaken c calls → IsFineCell m d c.patch
  taken_is_fine c (cells, at) =
      all_stands (λ (b : Cell). IsFineCell m d b.patch) c cells
      (all_stands (λ xs. AllByRecursion (λ (b : Cell). IsFineCell m d b.patch) xs) cells calls
      joinable.fine at.1)
      at.0

  -- what holds of the strip of each cell, also of two in one, along v and along u, holds of the strip
  -- of each patch of the answer
  each_answer : (P : Strip → Type 0)
      → ((b : Cell) → IsTaken b calls → P (strip_of b))
      → ((c r : Strip) → AreOneRun is_same_mark mark_tells c r → P c → P r → P (raised c r))
      → ((p q : Strip) → IsListed sheet p → IsListed sheet q → GoesOn p q → P p → P q
      → P (carried_on p q))
      → (c : Cell) → Stands c answer → P (strip_of c)
  each_answer P of_cell along_v along_u c at =
      all_stands P (strip_of c) (strips_of answer)
      (all_permuted P (chains sorted) (strips_of answer) answered
      (each_chain sheet (runs_of_calls calls) sorted permuted listed P along_u
      (all_of_strips sheet P along_v lists ascend.slabs
      (all_images (AllByRecursion P) strips_of calls
      (all_that_stand (λ cells. AllByRecursion P (strips_of cells)) calls
      (λ cells at_calls.
      all_images P strip_of cells
      (all_that_stand (λ b. P (strip_of b)) cells
      (λ b at_cells. of_cell b (cells, (at_cells, at_calls))))))))))
      (image_stands strip_of c answer at)

  -- ---- faces

  HasCell : Strip → Type 0
  HasCell p = (b : Cell) × (IsTaken b calls × (b.patch.face ≡ p.mark.face))

  -- each patch stands on the face of a cell
  on_faces : (c : Cell) → Stands c answer
      → (b : Cell) × (IsTaken b calls × (b.patch.face ≡ c.patch.face))
  on_faces c at =
      each_answer (λ p. (b : Cell) × (IsTaken b calls × (b.patch.face ≡ p.mark.face)))
      (λ b taken. (b, (taken, refl))) (λ x r one at_x at_r. at_x)
      (λ p q p_in q_in on at_p at_q. at_p) c at

  -- the face of a patch is read along d
  read_along : (c : Cell) → Stands c answer → (f : Surface) → surface_at m c.patch.face ≡ Some f
      → f.across ≡ d
  read_along c at f found =
      let (b, (taken, same)) = on_faces c at in
      let (s, (s_is, fine)) = taken_is_fine b taken in
      let whole : surface_at m b.patch.face ≡ Some fine.surface =
      ap (λ o. surface_in o b.patch.face.kind) s_is ∙ fine.is_surface in
      let one : fine.surface ≡ f =
      same_Some fine.surface f (sym whole ∙ ap (surface_at m) same ∙ found) in
      sym (ap (λ (g : Surface). g.across) one) ∙ fine.along

  -- ---- trimmed

  chains_trimmed : IsTrimmedList sheet (chains sorted)
  chains_trimmed =
      chains_are_trimmed sheet (runs_of_calls calls) sorted permuted listed
      (all_apart sheet lists ascend) (all_in_turn sheet lists ascend) order

  -- two patches of the answer, if the sheet has them trimmed
  bridge : (b c : Cell) → Stands b answer → AreTrimmedOnSheet sheet (strip_of b) (strip_of c)
      → b.patch.face ≡ c.patch.face → b.walk ≡ c.walk → AreTrimmed m b.patch c.patch
  bridge b c at_b two face walk =
      let alike : mark_with b.patch.face b.walk ≡ mark_with c.patch.face c.walk = cc in
      record {
        apart =
            λ f found u v u_in none common.
            two.apart alike u v u_in
            (none_of_sheet m d calls joinable u
            (subst (λ e. is_abscissa m e u ≡ false) (read_along b at_b f found) none))
            common;
        first_before = (two.no_seam alike).first_before;
        second_before = (two.no_seam alike).second_before;
      }

  answer_trimmed : AllOfTwo
      (λ b c. b.patch.face ≡ c.patch.face → b.walk ≡ c.walk → AreTrimmed m b.patch c.patch) answer
  answer_trimmed =
      two_follow (λ b c. AreTrimmedOnSheet sheet (strip_of b) (strip_of c))
      (λ b c. b.patch.face ≡ c.patch.face → b.walk ≡ c.walk → AreTrimmed m b.patch c.patch) answer
      (λ b c at_b at_c two. bridge b c at_b two)
      (two_of_images (AreTrimmedOnSheet sheet) strip_of answer
      (trimmed_permuted sheet (chains sorted) (strips_of answer) answered chains_trimmed).trimmed)

  -- ---- one face

  module _ (s : Space) (s_in : Stands s m.spaces) (k : FaceKind) (f : Surface)
      (f_is : surface_of s.prism k ≡ Some f) where
    abbrev face : Face
    face = face_with s.number k

    -- a fine cell of this face is one of this space
    fine_here : (b : Cell) → IsTaken b calls → b.patch.face ≡ face_with s.number k
        → IsPieceOf m s.prism k (region_of b.patch) × (f.across ≡ d)
    fine_here b taken same = from (taken_is_fine b taken)
      where
        space : b.patch.face.space ≡ s.number
        space = ap (λ (g : Face). g.space) same

        kinds : b.patch.face.kind ≡ k
        kinds = ap (λ (g : Face). g.kind) same

        from : IsFineCell m d b.patch → IsPieceOf m s.prism k (region_of b.patch) × (f.across ≡ d)
        from (t, (t_is, fine)) =
            let one : t ≡ s =
            same_Some t s (sym t_is ∙ ap (space_numbered m) space ∙ space_found m is s s_in) in
            let piece : IsPieceOf m s.prism k (region_of b.patch) =
            subst (λ j. IsPieceOf m s.prism j (region_of b.patch)) kinds
            (subst (λ (x : Space). IsPieceOf m x.prism b.patch.face.kind (region_of b.patch)) one
            fine.piece) in
            let surface : surface_of s.prism k ≡ Some fine.surface =
            subst (λ j. surface_of s.prism j ≡ Some fine.surface) kinds
            (subst (λ (x : Space). surface_of x.prism b.patch.face.kind ≡ Some fine.surface) one
            fine.is_surface) in
            let same_surface : fine.surface ≡ f =
            same_Some fine.surface f (sym surface ∙ f_is) in (
              piece,
              sym (ap (λ (g : Surface). g.across) same_surface) ∙ fine.along,
            )

    -- what the test of a cell at a point says
    cell_at : (p : Spot) (c : Cell) → is_cell_at s k f p c ≡ true
        → (c.patch.face ≡ face_with s.number k)
        × (is_inside (region_of c.patch) (on_face f p) ≡ true)
    cell_at p c answer_is =
        let parts =
        and_parts (is_same_face c.patch.face (face_with s.number k)) (is_in_patch f c.patch p)
        answer_is
        in
        ((face_tells c.patch.face (face_with s.number k)).0 parts.0, parts.1)

    at_cell : (p : Spot) (c : Cell) → c.patch.face ≡ face_with s.number k
        → is_inside (region_of c.patch) (on_face f p) ≡ true → is_cell_at s k f p c ≡ true
    at_cell p c same inside =
        and_from (is_same_face c.patch.face (face_with s.number k)) (is_in_patch f c.patch p)
        ((face_tells c.patch.face (face_with s.number k)).1 same) inside

    -- a cell at a point marks it
    taken_marks : (p : Spot) (c : Cell) → IsTaken c calls → is_cell_at s k f p c ≡ true
        → IsMarkedAt (all_strips lists) (on_face f p) (mark_with c.patch.face c.walk)
    taken_marks p c (cells, at) here = (
      strip_of c,
      stands_in_all (strip_of c) (strips_of cells) lists (image_stands strip_of c cells at.0)
          (image_stands strips_of cells calls at.1),
      refl,
      (cell_at p c here).1,
    )

    answer_marks : (p : Spot) (c : Cell) → Stands c answer → is_cell_at s k f p c ≡ true
        → IsMarkedAt (strips_of answer) (on_face f p) (mark_with c.patch.face c.walk)
    answer_marks p c at here =
        (strip_of c, image_stands strip_of c answer at, refl, (cell_at p c here).1)

    -- ---- at a point whose abscissa is none of the sheet's

    module _ (p : Spot) (p_is : IsSpot p)
        (off : IsNoAbscissa (sheet_of_ends (map strips_of calls)) (abscissa_of (on_face f p))) where
      -- the answer marks what the runs mark
      marks_from_runs : (mark : Mark) → IsMarkedAt (runs_of_calls calls) (on_face f p) mark
          → IsMarkedAt (strips_of answer) (on_face f p) mark
      marks_from_runs mark marked =
          marked_permuted (chains sorted) (strips_of answer) answered (on_face f p) mark
          (chains_have_marks sheet (runs_of_calls calls) sorted permuted listed (on_face f p) p_is
          off mark marked)

      -- and nothing else
      runs_from_marks : (mark : Mark) → IsMarkedAt (strips_of answer) (on_face f p) mark
          → IsMarkedAt (runs_of_calls calls) (on_face f p) mark
      runs_from_marks mark marked =
          chains_have_no_more sheet (runs_of_calls calls) sorted permuted listed (on_face f p) p_is
          off mark
          (marked_permuted (strips_of answer) (chains sorted)
          (IsPermutation-sym (chains sorted) (strips_of answer) answered) (on_face f p) mark marked)

      -- a point that is off the upper sides over it lies in a cell where it lies in a patch
      cell_from_answer : (c : Cell) → Stands c answer → is_cell_at s k f p c ≡ true
          → ((b : Strip) → Stands b (all_strips lists) → b.mark.face ≡ c.patch.face
          → IsBelow b.region.low (abscissa_of (on_face f p))
          → IsBelow (abscissa_of (on_face f p)) b.region.high
          → is_on_side b.region.upper (on_face f p) ≡ false)
          → (b : Cell) × (IsTaken b calls × (is_cell_at s k f p b ≡ true))
      cell_from_answer c at here uppers =
          let mark = mark_with c.patch.face c.walk in
          let found =
          all_have_no_more sheet (on_face f p) p_is mark lists ascend.slabs uppers
          (runs_from_marks mark (answer_marks p c at here))
          in
          let strip = found.0 in
          let of_cell = strip_of_cell m d calls joinable strip found.1 in
          let b = of_cell.0 in
          let same : b.patch.face ≡ c.patch.face =
          ap (λ (x : Strip). x.mark.face) of_cell.1.0 ∙ ap (λ (x : Mark). x.face) found.2 in (
            b,
            (
              of_cell.1.1,
              at_cell p b (same ∙ (cell_at p c here).0)
                  (ap (λ (x : Strip). is_inside x.region (on_face f p)) of_cell.1.0 ∙ found.3),
            ),
          )

      -- at most one patch of this face contains the point
      one_at_most : AtMostOne (is_cell_at s k f p) answer
      one_at_most =
          two_follow (λ b c. AreApartAt (on_face f p) (strip_of b) (strip_of c))
          (λ b c. is_cell_at s k f p b ≡ true → is_cell_at s k f p c ≡ true → ⊥) answer
          (λ b c at_b at_c apart here there.
          apart ((cell_at p b here).0 ∙ sym (cell_at p c there).0) (cell_at p b here).1
          (cell_at p c there).1)
          (two_of_images (AreApartAt (on_face f p)) strip_of answer
          (two_permuted (AreApartAt (on_face f p))
          (λ x y two same at_y at_x. two (sym same) at_x at_y) (chains sorted) (strips_of answer)
          answered
          (chains_apart_at sheet (runs_of_calls calls) sorted permuted listed (on_face f p) p_is off
          (all_apart_at sheet (on_face f p) p_is lists ascend))))

      -- a cell at the point has a patch there with its walk
      patch_from_cell : (c : Cell) → IsTaken c calls → is_cell_at s k f p c ≡ true
          → (b : Cell) × (Stands b answer × ((is_cell_at s k f p b ≡ true) × (b.walk ≡ c.walk)))
      patch_from_cell c taken here =
          let mark = mark_with c.patch.face c.walk in
          let found =
          marks_from_runs mark
          (all_have_marks sheet (on_face f p) p_is mark lists ascend.slabs
          (taken_marks p c taken here))
          in
          let strip = found.0 in
          let of_answer = stands_of_image strip_of strip answer found.1 in
          let b = of_answer.0 in
          let same : b.patch.face ≡ c.patch.face =
          ap (λ (x : Strip). x.mark.face) of_answer.1.1 ∙ ap (λ (x : Mark). x.face) found.2 in (
            b,
            (
              of_answer.1.0,
              (
                at_cell p b (same ∙ (cell_at p c here).0)
                    (ap (λ (x : Strip). is_inside x.region (on_face f p)) of_answer.1.1 ∙ found.3),
                ap (λ (x : Strip). x.mark.walk) of_answer.1.1 ∙ ap (λ (x : Mark). x.walk) found.2,
              ),
            ),
          )

    -- ---- plain points

    module _ (p : Spot) (p_is : IsSpot p) (plain : is_plain m s.prism k p ≡ true) where
      -- where the face is read along d, the abscissa is none of the sheet
      plain_off : f.across ≡ d
          → IsNoAbscissa (sheet_of_ends (map strips_of calls)) (abscissa_of (on_face f p))
      plain_off along =
          none_of_sheet m d calls joinable (abscissa_of (on_face f p))
          (subst (λ e. is_abscissa m e (reading p f.across) ≡ false) along
          (plain_is_no_abscissa m s.prism k f p f_is plain))

      -- a plain point is off the upper sides of the strips over it
      plain_off_strips : (b : Strip) → Stands b (all_strips lists)
          → b.mark.face ≡ face_with s.number k
          → IsBelow b.region.low (abscissa_of (on_face f p))
          → IsBelow (abscissa_of (on_face f p)) b.region.high
          → is_on_side b.region.upper (on_face f p) ≡ false
      plain_off_strips b at same after before =
          let found = strip_of_cell m d calls joinable b at in
          let c = found.0 in
          let here : c.patch.face ≡ face_with s.number k =
          ap (λ (x : Strip). x.mark.face) found.1.0 ∙ same in
          ap (λ (x : Strip). is_on_side x.region.upper (on_face f p)) (sym found.1.0)
          ∙ plain_off_uppers m s.prism s.prism k f p p_is f_is plain (region_of c.patch)
          (patch_is c.patch) (fine_here c found.1.1 here).0
          (subst (λ (x : Strip). IsBelow x.region.low (abscissa_of (on_face f p))) (sym found.1.0)
          after)
          (subst (λ (x : Strip). IsBelow (abscissa_of (on_face f p)) x.region.high)
          (sym found.1.0) before)

      once : (c : Cell) → IsTaken c calls → is_cell_at s k f p c ≡ true
          → ExactlyOne (is_cell_at s k f p) answer
      once c taken here =
          let off = plain_off (fine_here c taken (cell_at p c here).0).1 in
          let found = patch_from_cell p p_is off c taken here in
          one_of_at_most (is_cell_at s k f p) answer (one_at_most p p_is off)
          (any_stands (is_cell_at s k f p) found.0 answer found.1.0 found.1.1.0)

      walks : (c : Cell) → IsTaken c calls → is_cell_at s k f p c ≡ true
          → (b : Cell) → Stands b answer → is_cell_at s k f p b ≡ true → b.walk ≡ c.walk
      walks c taken here b at there =
          let off = plain_off (fine_here c taken (cell_at p c here).0).1 in
          let found = patch_from_cell p p_is off c taken here in
          from found.0 found.1.1.0 found.1.1.1
          (one_or_two (λ x y. is_cell_at s k f p x ≡ true → is_cell_at s k f p y ≡ true → ⊥) b
          found.0 answer (one_at_most p p_is off) at found.1.0)
        where
          from : (x : Cell) → is_cell_at s k f p x ≡ true → x.walk ≡ c.walk
              → (b ≡ x)
              ⊎ ((is_cell_at s k f p b ≡ true → is_cell_at s k f p x ≡ true → ⊥)
              ⊎ (is_cell_at s k f p x ≡ true → is_cell_at s k f p b ≡ true → ⊥))
              → b.walk ≡ c.walk
          from x at_x walk (inl same) = ap (λ (y : Cell). y.walk) same ∙ walk
          from x at_x walk (inr (inl apart)) = absurd (apart there at_x)
          from x at_x walk (inr (inr apart)) = absurd (apart at_x there)

      none : ((c : Cell) → IsTaken c calls → is_cell_at s k f p c ≡ true → ⊥)
          → list_any (is_cell_at s k f p) answer ≡ false
      none no_cell =
          false_from_ne_true (list_any (is_cell_at s k f p) answer)
          (λ some.
          let found = one_of_any (is_cell_at s k f p) answer some in
          let c = found.0 in
          let same = (cell_at p c found.1.1).0 in
          let of_cell = on_faces c found.1.0 in
          let along = (fine_here of_cell.0 of_cell.1.0 (of_cell.1.1 ∙ same)).1 in
          let cell =
          cell_from_answer p p_is (plain_off along) c found.1.0 found.1.1
          (λ b at b_same after before. plain_off_strips b at (b_same ∙ same) after before)
          in
          no_cell cell.0 cell.1.0 cell.1.1)

    -- ---- each point

    ends_are_rational : (cs : List Strip) → AllByRecursion (λ c. IsPatch c.region) cs
        → AllByRecursion IsRational (ends_of cs)
    ends_are_rational [] patches = tt
    ends_are_rational (c ∷ cs) patches = (
      patches.0.region.low_in,
      (patches.0.region.high_in, ends_are_rational cs patches.1),
    )

    all_are_patches : AllByRecursion (λ c. IsPatch c.region) (all_strips lists)
    all_are_patches =
        all_that_stand (λ (c : Strip). IsPatch c.region) (all_strips lists)
        (λ c at.
        let found = strip_of_cell m d calls joinable c at in
        subst (λ (x : Strip). IsPatch x.region) found.1.0 (patch_is found.0.patch))

    uppers : List LineSide
    uppers = map (λ (c : Strip). c.region.upper) (all_strips lists)

    -- a level patch lies inside the space's loops
    level_inside : IsLevel f
        → ((b : Cell) → IsPieceOf m s.prism k (region_of b.patch) → (p : Spot) → IsSpot p
        → is_inside (region_of b.patch) (plan_point p) ≡ true → is_in_plan s.prism.loops p ≡ true)
        → (c : Cell) → Stands c answer → c.patch.face ≡ face_with s.number k
        → (p : Spot) → IsSpot p → is_inside (region_of c.patch) (on_face f p) ≡ true
        → is_in_plan s.prism.loops p ≡ true
    unfolding uppers
    level_inside level piece c at same p p_is inside =
        region_inside_throughout_off_sides s.prism.loops (plan_of_solid s.prism s.is_solid) way_x
        (region_of c.patch) (ends_of (all_strips lists))
        (map (λ (x : Strip). x.region.upper) (all_strips lists)) way_x_is
        (ends_are_rational (all_strips lists) all_are_patches)
        (all_images IsLineSide (λ (x : Strip). x.region.upper) (all_strips lists)
        (all_follow (λ x x_in. x_in.region.upper_in) (all_strips lists) all_are_patches))
        (λ q q_is at_q off.
        let point : in_frame way_x q ≡ on_face f q =
        frame_point q ∙ sym (level_point f q level.across level.up) in
        let inside_q : is_inside (region_of c.patch) (on_face f q) ≡ true =
        subst (λ x. is_inside (region_of c.patch) x ≡ true) point at_q in
        let cell =
        cell_from_answer q q_is
        (subst (λ x. AllByRecursion (λ a. IsSame a (abscissa_of x) → ⊥) (ends_of (all_strips lists)))
        point off.no_abscissa)
        c at (at_cell q c same inside_q)
        (λ b at_b b_same after before.
        all_stands (λ l. is_on_side l (on_face f q) ≡ false) b.region.upper
        (map (λ (x : Strip). x.region.upper) (all_strips lists))
        (subst
        (λ x. AllByRecursion (λ l. is_on_side l x ≡ false)
        (map (λ (y : Strip). y.region.upper) (all_strips lists))) point off.no_cut)
        (image_stands (λ (x : Strip). x.region.upper) b (all_strips lists) at_b))
        in
        let here = cell_at q cell.0 cell.1.1 in
        piece cell.0 (fine_here cell.0 cell.1.0 here.0).0 q q_is
        (subst (λ x. is_inside (region_of cell.0.patch) x ≡ true)
        (level_point f q level.across level.up) here.1))
        p p_is
        (subst (λ x. is_inside (region_of c.patch) x ≡ true)
        (level_point f p level.across level.up ∙ sym (frame_point p)) inside)

-- ---- heights of level faces

reads_down : (x y z : ℤ)
    → ((x *ℤ neg_ℤ (pos 0)) +ℤ (y *ℤ neg_ℤ (pos 0))) +ℤ (z *ℤ neg_ℤ (pos 1)) ≡ neg_ℤ z
reads_down x y z = omega (arith, ints)

reads_up : (x y z : ℤ) → ((x *ℤ pos 0) +ℤ (y *ℤ pos 0)) +ℤ (z *ℤ pos 1) ≡ z
reads_up x y z = omega (arith, ints)

-- a point of Bottom's plane is at its height
pub bottom_height : (s : Upright) (f : Surface) → surface_of s kind.Bottom ≡ Some f → (p : Spot)
    → is_in_plane f p ≡ true → int_eq p.z (s.z0 *ℤ p.w) ≡ true
bottom_height s f f_is p plane =
    let same : is_in_plane (bottom_of s) p ≡ true =
    subst (λ (g : Surface). is_in_plane g p ≡ true) (sym (same_Some _ f f_is)) plane in
    let height =
    (Decides-int_eq (times_w p (opposite axis_z)) (neg_ℤ s.z0 *ℤ p.w)).0 same in
    let low = reads_down p.x p.y p.z in
    let turned = neg-mul s.z0 p.w in
    (Decides-int_eq p.z (s.z0 *ℤ p.w)).1 (omega (arith, ints))

-- and one of Top's
pub top_height : (s : Upright) (f : Surface) → surface_of s kind.Top ≡ Some f → (p : Spot)
    → is_in_plane f p ≡ true → int_eq p.z (s.z1 *ℤ p.w) ≡ true
top_height s f f_is p plane =
    let same : is_in_plane (top_of s) p ≡ true =
    subst (λ (g : Surface). is_in_plane g p ≡ true) (sym (same_Some _ f f_is)) plane in
    let height = (Decides-int_eq (times_w p axis_z) (s.z1 *ℤ p.w)).0 same in
    let high = reads_up p.x p.y p.z in
    (Decides-int_eq p.z (s.z1 *ℤ p.w)).1 (omega (arith, ints))

-- ---- each point in a patch is a point of the face

module _ (m : Building) (is : IsTrue (is_building m)) (d : Vector) (calls : List (List Cell))
    (joinable : AreJoinable m d calls) (sorted : List Strip) (answer : List Cell)
    (permuted : IsPermutation (runs_of_calls calls) sorted) (order : AreInOrder sorted)
    (answered : IsPermutation (chains sorted) (strips_of answer)) (s : Space)
    (s_in : Stands s m.spaces) where
  side_inside : (j : ℕ) (e : Edge) → slice_get (edges_of s.prism.loops) j ≡ Some e
      → (c : Cell) → Stands c answer → c.patch.face ≡ face_with s.number (kind.Side j)
      → (p : Spot) → IsSpot p → is_in_plane (side_over e) p ≡ true
      → is_inside (region_of c.patch) (on_face (side_over e) p) ≡ true
      → is_of_side s.prism (Some e) p ≡ true
  side_inside j e e_is c at same p p_is plane inside =
      on_side_is_of_side s.prism e
      (step_is e
      (passes_if_all is_proper_edge e (edges_of s.prism.loops)
      (plan_edges_are_proper s.prism.loops (plan_of_solid s.prism s.is_solid))
      (stands_at (edges_of s.prism.loops) j e e_is)))
      (region_of c.patch) (patch_is c.patch).region.low_in (patch_is c.patch).region.high_in
      (each_answer m is d calls joinable sorted answer permuted order answered
      (λ r. r.mark.face ≡ face_with s.number (kind.Side j) → IsOnSide s.prism e r.region)
      (λ b taken here.
      of_piece b
      (fine_here m is d calls joinable sorted answer permuted order answered s s_in (kind.Side j)
      (side_over e) (ap side_of e_is) b taken here).0)
      (λ x r one at_x at_r here.
      let first = at_x here in
      let second = at_r (sym (ap (λ (n : Mark). n.face) one.mark) ∙ here) in
      record {
        after = first.after;
        before = first.before;
        from = first.from;
        to = second.to;
        lower = first.lower;
        upper = second.upper;
        above = first.above;
        below = second.below;
      })
      (λ x q x_in q_in on at_x at_q here.
      let first = at_x here in
      let second = at_q (sym (ap (λ (n : Mark). n.face) on.mark) ∙ here) in
      record {
        after = first.after;
        before = second.before;
        from = first.from;
        to = first.to;
        lower = first.lower;
        upper = first.upper;
        above = first.above;
        below = first.below;
      })
      c at same)
      p p_is plane inside
    where
      of_piece : (b : Cell) → IsPieceOf m s.prism (kind.Side j) (region_of b.patch)
          → IsOnSide s.prism e (region_of b.patch)
      of_piece b piece = from (edge_numbered s.prism j) e_is piece
        where
          from : (g : Option Edge) → g ≡ Some e → IsPieceOver m s.prism g (region_of b.patch)
              → IsOnSide s.prism e (region_of b.patch)
          from None none over = absurd over
          from (Some g) some over =
              let b_in = patch_is b.patch in
              let spans =
              spans_between (direction_of g) g (region_of b.patch).low (region_of b.patch).high
              b_in.region.low_in b_in.region.high_in b_in.region.wide over.spans
              in
              subst (λ x. IsOnSide s.prism x (region_of b.patch)) (same_Some g e some)
              (record {
                after = spans.0;
                before = spans.1;
                from = over.from;
                to = over.to;
                lower = over.lower;
                upper = over.upper;
                above = over.above;
                below = over.below;
              })

  face_inside : (k : FaceKind) (f : Surface) → surface_of s.prism k ≡ Some f
      → (p : Spot) → IsSpot p → is_in_plane f p ≡ true
      → (c : Cell) → Stands c answer → c.patch.face ≡ face_with s.number k
      → is_inside (region_of c.patch) (on_face f p) ≡ true → is_of_face s.prism k p ≡ true
  face_inside kind.Bottom f f_is p p_is plane c at same inside =
      and_from (is_in_plan s.prism.loops p) (int_eq p.z (s.prism.z0 *ℤ p.w))
      (level_inside m is d calls joinable sorted answer permuted order answered s s_in kind.Bottom f
      f_is (bottom_is_level s.prism f f_is) (λ b piece q q_is at_q. piece.inside q q_is at_q) c at
      same p p_is inside)
      (bottom_height s.prism f f_is p plane)
  face_inside kind.Top f f_is p p_is plane c at same inside =
      and_from (is_in_plan s.prism.loops p) (int_eq p.z (s.prism.z1 *ℤ p.w))
      (level_inside m is d calls joinable sorted answer permuted order answered s s_in kind.Top f
      f_is (top_is_level s.prism f f_is) (λ b piece q q_is at_q. piece.inside q q_is at_q) c at
      same p p_is inside)
      (top_height s.prism f f_is p plane)
  face_inside (kind.Side j) f f_is p p_is plane c at same inside =
      from (edge_numbered s.prism j) refl f_is
    where
      from : (o : Option Edge) → edge_numbered s.prism j ≡ o → side_of o ≡ Some f
          → is_of_side s.prism o p ≡ true
      from None e_is side = absurd (none-some f side)
      from (Some e) e_is side =
          let over : side_over e ≡ f = same_Some (side_over e) f side in
          side_inside j e e_is c at same p p_is
          (subst (λ (g : Surface). is_in_plane g p ≡ true) (sym over) plane)
          (subst (λ (g : Surface). is_inside (region_of c.patch) (on_face g p) ≡ true) (sym over)
          inside)

-- the law: joinable cells whose runs are put in order and carried on are joined
pub has_joined_cells : HasJoinedCells
has_joined_cells m d calls sorted answer is joinable permuted order answered =
    record {
      on_faces = on_faces m is d calls joinable sorted answer permuted order answered;
      trimmed = answer_trimmed m is d calls joinable sorted answer permuted order answered;
      faces =
          λ s s_in k f f_is.
          record {
            inside =
                λ p p_is plane c at here.
                let parts =
                cell_at m is d calls joinable sorted answer permuted order answered s s_in k f f_is p
                c here
                in
                face_inside m is d calls joinable sorted answer permuted order answered s s_in k f
                f_is p p_is plane c at parts.0 parts.1;
            once =
                λ p p_is plain.
                once m is d calls joinable sorted answer permuted order answered s s_in k f f_is p
                p_is plain;
            walks =
                λ p p_is plain.
                walks m is d calls joinable sorted answer permuted order answered s s_in k f f_is p
                p_is plain;
            none =
                λ p p_is plain.
                none m is d calls joinable sorted answer permuted order answered s s_in k f f_is p
                p_is plain;
          };
    }
