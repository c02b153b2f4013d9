-- Joinable cells are strips of slabs that ascend, on the sheet whose abscissae are their ends.
use Rattle.std.proofs.Common.{◌≡◌, refl, sym, ◌∙◌, ap, subst, inl, inr, ◌⊎◌, ⊎_elim, arith, pos}
use Rattle.std.proofs.Common.{◌≤ℤ◌, ◌&&◌, true, false, List, [], ◌∷◌, ◌++◌, map}
use Rattle.std.proofs.Common.{Option, Some, None}
use Rattle.std.specs.List.{AllByRecursion}
use Rattle.std.specs.Ordering.{int_eq}
use Rattle.std.proofs.lemmas.Bool.{and_from}
use Rattle.std.proofs.lemmas.Bool.Decides.{Decides-int_eq}
use Rattle.std.proofs.lemmas.Option.{same_Some}
use Rattle.theory_lists.specs.Members.{Stands, AllOfTwo}
use Rattle.theory_lists.proofs.Members.{all_stands, all_follow, all_that_stand, all_images}
use Rattle.theory_lists.proofs.Members.{two_follow, one_of_any}
use Rattle.theory_lists.proofs.Blocks.{stands_before, stands_behind}
use Rattle.theory_numbers.specs.Arrows.{Arrow, cross}
use Rattle.theory_numbers.specs.Rationals.{IsRational, IsBelow, IsAtMost, IsSame, is_below}
use Rattle.theory_numbers.proofs.Fractions.Rationals.{below_irrefl, same_sym, same_trans}
use Rattle.theory_numbers.proofs.Signs.{test_less}
use Rattle.theory_plane.specs.Sides.{level, clearance_at}
use Rattle.theory_plane.specs.Regions.{Region}
use Rattle.theory_patches.specs.Marked.{IsPatch}
use Rattle.theory_patches.specs.Sheets.{Sheet, IsNoAbscissa}
use Rattle.theory_joining.specs.Runs.{IsRunOver}
use Rattle.theory_joining.specs.Cells.{IsClearOver, IsUnder}
use Rattle.sb_fraction.specs.Spots.{Vector}
use Rattle.sb_fraction.specs.Edges.{Edge}
use Rattle.sb_fraction.specs.Directions.{axis_x}
use Rattle.sb_model.specs.declared.boundary.Cell.{Cell}
use Rattle.sb_model.specs.declared.faces.face.Face.{Face}
use Rattle.sb_model.specs.declared.faces.face.FaceKind.{FaceKind}
use Rattle.sb_model.specs.declared.faces.face.FaceKind.TheVariants as kind
use Rattle.sb_model.specs.declared.patches.patch.Patch.{Patch}
use Rattle.sb_model.specs.Solids.{Upright}
use Rattle.sb_model.specs.Building.{Building}
use Rattle.sb_model.specs.PlanEdges.{is_abscissa}
use Rattle.sb_model.specs.Surfaces.Faces.{Surface, surface_of, edge_numbered}
use Rattle.sb_model.specs.Surfaces.Patches.{region_of}
use Rattle.sb_model.specs.Surfaces.FineCells.{AreNeighbours, IsPieceOf, IsPieceOver, IsFineCell, IsOfSpanning}
use Rattle.sb_model.specs.Boundaries.Order.{IsBefore, IsBeforeOnFace, rank_of}
use Rattle.theory_models.specs.Abscissae.{abscissae_of}
use Rattle.theory_models.proofs.AbscissaeListed.{abscissa_is_among, no_abscissa_is_none}
use Rattle.theory_faces.specs.Strips.{Strip, strip_of, strips_of}
use Rattle.theory_faces.specs.Joinable.{IsFirstOfSlab, EndsBefore, AreJoinable}
use Rattle.theory_faces.proofs.ByFace.{FacesRise}
use Rattle.theory_faces.proofs.Slabs.RunsOfASlab.{AreOfSlab, IsUnderOnFace}
use Rattle.theory_faces.proofs.Slabs.SlabAfterSlab.{all_strips, AreOfASlab, StripsEndBefore, Ascend}
use Rattle.theory_faces.proofs.PatchesAreRegions.{patch_is}
use Rattle.theory_faces.proofs.Slabs.CellsRise.{level_sides_rise, heights_rise}

-- ---- lists of images

module _ {X Y : Type 0} (f : X → Y) where
  -- what stands among the images is that of one that stands there
  pub stands_of_image : (y : Y) (xs : List X) → Stands y (map f xs)
      → (x : X) × (Stands x xs × (f x ≡ y))
  stands_of_image y [] stands = absurd stands
  stands_of_image y (x ∷ xs) (inl same) = (x, (inl refl, sym same))
  stands_of_image y (x ∷ xs) (inr later) =
      let rest = stands_of_image y xs later in (rest.0, (inr rest.1.0, rest.1.1))

  -- and the image of one that stands there stands among them
  pub image_stands : (x : X) (xs : List X) → Stands x xs → Stands (f x) (map f xs)
  image_stands x [] stands = stands
  image_stands x (y ∷ ys) (inl same) = inl (ap f same)
  image_stands x (y ∷ ys) (inr later) = inr (image_stands x ys later)

  -- what holds of each two, in this form, holds of their images
  pub two_images : (R : Y → Y → Type 0) (xs : List X) → AllOfTwo (λ x y. R (f x) (f y)) xs
      → AllOfTwo R (map f xs)
  two_images R [] all = tt
  two_images R (x ∷ xs) all = (all_images (R (f x)) f xs all.0, two_images R xs all.1)

-- ---- two cells of one face

-- on one face the first begins at a lower number, or is lower
on_one_face : (p q : Patch) → IsBefore p q → p.face ≡ q.face → IsBeforeOnFace p q
on_one_face p q (inl less) same =
    let space = ap (λ (f : Face). f.space) same in absurd (omega arith)
on_one_face p q (inr (space, inl less)) same =
    let rank = ap (λ (f : Face). rank_of f.kind) same in absurd (omega arith)
on_one_face p q (inr (space, inr (rank, on))) same = on

-- of one slab the upper side of the first is nowhere above the lower side of the second
nowhere_above : (b c : Cell) → IsFirstOfSlab b c → b.patch.face ≡ c.patch.face → (u : Arrow)
    → IsRational u → IsBelow (region_of b.patch).low u → IsBelow u (region_of b.patch).high
    → pos 0 ≤ℤ clearance_at (region_of b.patch).upper (region_of c.patch).lower u
nowhere_above b c first same u u_in after before = from (on_one_face b.patch c.patch first.before same)
  where
    spanned : (low high : Arrow) → IsBelow low u → IsBelow u high
        → (is_below low u && is_below u high) ≡ true
    spanned low high above under =
        and_from (is_below low u) (is_below u high) (test_less (pos 0) (cross low u) above)
        (test_less (pos 0) (cross u high) under)

    from : IsBeforeOnFace b.patch c.patch
        → pos 0 ≤ℤ clearance_at (region_of b.patch).upper (region_of c.patch).lower u
    from (inl less) =
        absurd
        (below_irrefl (region_of b.patch).low
        (subst (λ n. IsBelow (region_of b.patch).low n) (sym first.low) less))
    from (inr (begins, lower)) =
        lower u u_in (spanned (region_of b.patch).low (region_of b.patch).high after before)
        (spanned (region_of c.patch).low (region_of c.patch).high
        (subst (λ n. IsBelow n u) first.low after) (subst (λ n. IsBelow u n) first.high before))

-- what is read along the direction of Bottom or Top is read along (1, 0)
along_x : (k : FaceKind) (s : Upright) (f : Surface) (d : Vector) → surface_of s k ≡ Some f
    → f.across ≡ d → (k ≡ kind.Bottom) ⊎ (k ≡ kind.Top) → axis_x ≡ d
along_x kind.Bottom s f d is along level = ap (λ (g : Surface). g.across) (same_Some _ f is) ∙ along
along_x kind.Top s f d is along level = ap (λ (g : Surface). g.across) (same_Some _ f is) ∙ along
along_x (kind.Side k) s f d is along (inl same) = absurd cc
along_x (kind.Side k) s f d is along (inr same) = absurd cc

-- pieces of one kind over one slab rise
module _ (m : Building) (d : Vector) (p q : Region) (p_in : IsPatch p) (q_in : IsPatch q)
    (low : p.low ≡ q.low) (high : p.high ≡ q.high) (near : AreNeighbours m d p.low p.high)
    (weak : (u : Arrow) → IsRational u → IsBelow p.low u → IsBelow u p.high
    → pos 0 ≤ℤ clearance_at p.upper q.lower u) where
  level_pieces_rise : axis_x ≡ d → IsOfSpanning m p.low p.high p.upper
      → IsOfSpanning m q.low q.high q.lower
      → (p.upper ≡ q.lower) ⊎ IsClearOver p.low p.high p.upper q.lower
  level_pieces_rise along first second =
      level_sides_rise m p.low p.high p_in.region.low_in p_in.region.high_in p_in.region.wide
      (subst (λ e. AreNeighbours m e p.low p.high) (sym along) near) p.upper q.lower
      p_in.upper_reduced q_in.lower_reduced first
      (subst (λ n. IsOfSpanning m n p.high q.lower) (sym low)
      (subst (λ n. IsOfSpanning m q.low n q.lower) (sym high) second))
      weak

  upright_pieces_rise : (s t : Upright) (e f : Option Edge) → IsPieceOver m s e p
      → IsPieceOver m t f q → (p.upper ≡ q.lower) ⊎ IsClearOver p.low p.high p.upper q.lower
  upright_pieces_rise s t None f first second = absurd first
  upright_pieces_rise s t (Some e) None first second = absurd second
  upright_pieces_rise s t (Some e) (Some f) first second =
      subst
      (λ l. (l ≡ q.lower) ⊎ IsClearOver p.low p.high l q.lower) (sym first.upper)
      (subst
      (λ k. (level first.to ≡ k) ⊎ IsClearOver p.low p.high (level first.to) k)
      (sym second.lower)
      (heights_rise p.low p.high p_in.region.low_in p_in.region.high_in p_in.region.wide first.to
      second.from
      (λ u u_in after before.
      subst (λ l. pos 0 ≤ℤ clearance_at l (level second.from) u) first.upper
      (subst (λ k. pos 0 ≤ℤ clearance_at p.upper k u) second.lower
      (weak u u_in after before)))))

  pieces_rise : (k : FaceKind) (s t : Upright) (f : Surface) → surface_of s k ≡ Some f
      → f.across ≡ d → IsPieceOf m s k p → IsPieceOf m t k q
      → (p.upper ≡ q.lower) ⊎ IsClearOver p.low p.high p.upper q.lower
  pieces_rise kind.Bottom s t f is along first second =
      level_pieces_rise (along_x kind.Bottom s f d is along (inl refl)) first.upper second.lower
  pieces_rise kind.Top s t f is along first second =
      level_pieces_rise (along_x kind.Top s f d is along (inr refl)) first.upper second.lower
  pieces_rise (kind.Side k) s t f is along first second =
      upright_pieces_rise s t (edge_numbered s k) (edge_numbered t k) first second

-- the first of two cells of a slab is under the second, on one face
cells_rise : (m : Building) (d : Vector) (b c : Cell) → IsFineCell m d b.patch
    → IsFineCell m d c.patch → IsFirstOfSlab b c → b.patch.face ≡ c.patch.face
    → IsUnder (region_of b.patch).low (region_of b.patch).high (strip_of b) (strip_of c)
cells_rise m d b c (s, (s_is, b_fine)) (t, (t_is, c_fine)) first same =
    pieces_rise m d (region_of b.patch) (region_of c.patch) (patch_is b.patch) (patch_is c.patch)
    first.low first.high b_fine.neighbours (nowhere_above b c first same) b.patch.face.kind s.prism
    t.prism b_fine.surface b_fine.is_surface b_fine.along b_fine.piece
    (subst (λ k. IsPieceOf m t.prism k (region_of c.patch)) (sym (ap (λ (f : Face). f.kind) same))
    c_fine.piece)

-- ---- the cells of one call

-- the faces of cells in order rise
faces_rise : (b c : Cell) → IsFirstOfSlab b c → FacesRise (strip_of b) (strip_of c)
faces_rise b c first = from first.before
  where
    from : IsBefore b.patch c.patch → FacesRise (strip_of b) (strip_of c)
    from (inl less) = inl less
    from (inr (space, inl less)) = inr (space, omega arith)
    from (inr (space, inr (rank, on))) = inr (space, omega arith)

module _ (m : Building) (d : Vector) where
  slab_of : (c : Cell) (cs : List Cell) → AllByRecursion (λ b. IsFineCell m d b.patch) (c ∷ cs)
      → AllOfTwo IsFirstOfSlab (c ∷ cs)
      → AreOfSlab (region_of c.patch).low (region_of c.patch).high (strips_of (c ∷ cs))
  slab_of c cs fine firsts =
      let low = (region_of c.patch).low in
      let high = (region_of c.patch).high in
      let c_in = patch_is c.patch in
      record {
        low_in = c_in.region.low_in;
        high_in = c_in.region.high_in;
        wide = c_in.region.wide;
        strips = (
          record { patch = c_in; begins = refl; ends = refl },
          all_images (λ (r : Strip). IsRunOver low high r.region) strip_of cs
              (all_follow
              (λ b first.
              record { patch = patch_is b.patch; begins = sym first.low; ends = sym first.high })
              cs firsts.0),
        );
        faces =
            two_images strip_of FacesRise (c ∷ cs)
            (two_follow IsFirstOfSlab (λ x y. FacesRise (strip_of x) (strip_of y)) (c ∷ cs)
            (λ x y at_x at_y first. faces_rise x y first) firsts);
        under =
            two_images strip_of (IsUnderOnFace low high) (c ∷ cs)
            (two_follow IsFirstOfSlab
            (λ x y. IsUnderOnFace low high (strip_of x) (strip_of y)) (c ∷ cs)
            (λ x y at_x at_y first same.
            subst (λ n. IsUnder n high (strip_of x) (strip_of y)) (begins x at_x)
            (subst (λ n. IsUnder (region_of x.patch).low n (strip_of x) (strip_of y)) (ends x at_x)
            (cells_rise m d x y
            (all_stands (λ b. IsFineCell m d b.patch) x (c ∷ cs) fine at_x)
            (all_stands (λ b. IsFineCell m d b.patch) y (c ∷ cs) fine at_y) first same)))
            firsts);
      }
    where
      begins : (x : Cell) → Stands x (c ∷ cs) → (region_of x.patch).low ≡ (region_of c.patch).low
      begins x (inl same) = ap (λ (b : Cell). (region_of b.patch).low) same
      begins x (inr later) = sym (all_stands (IsFirstOfSlab c) x cs firsts.0 later).low

      ends : (x : Cell) → Stands x (c ∷ cs)
          → (region_of x.patch).high ≡ (region_of c.patch).high
      ends x (inl same) = ap (λ (b : Cell). (region_of b.patch).high) same
      ends x (inr later) = sym (all_stands (IsFirstOfSlab c) x cs firsts.0 later).high

-- ---- the ends of strips as abscissae

-- the ends of strips
abbrev pub ends_of : List Strip → List Arrow
ends_of [] = []
ends_of (c ∷ cs) = c.region.low ∷ c.region.high ∷ ends_of cs

-- the sheet whose abscissae are the ends of the strips
abbrev pub sheet_of_ends : List (List Strip) → Sheet
sheet_of_ends lists = record { abscissae = ends_of (all_strips lists); cuts = [] }

low_stands : (c : Strip) (cs : List Strip) → Stands c cs → Stands c.region.low (ends_of cs)
low_stands c [] stands = stands
low_stands c (b ∷ bs) (inl same) = inl (ap (λ (x : Strip). x.region.low) same)
low_stands c (b ∷ bs) (inr later) = inr (inr (low_stands c bs later))

high_stands : (c : Strip) (cs : List Strip) → Stands c cs → Stands c.region.high (ends_of cs)
high_stands c [] stands = stands
high_stands c (b ∷ bs) (inl same) = inr (inl (ap (λ (x : Strip). x.region.high) same))
high_stands c (b ∷ bs) (inr later) = inr (inr (high_stands c bs later))

-- what holds of both ends of each strip holds of all ends
all_ends : (P : Arrow → Type 0) (cs : List Strip)
    → AllByRecursion (λ c. P c.region.low × P c.region.high) cs → AllByRecursion P (ends_of cs)
all_ends P [] all = tt
all_ends P (c ∷ cs) all = (all.0.0, (all.0.1, all_ends P cs all.1))

-- a strip of one of the lists is one of all
pub stands_in_all : (c : Strip) (cs : List Strip) (lists : List (List Strip)) → Stands c cs
    → Stands cs lists → Stands c (all_strips lists)
stands_in_all c cs [] at at_list = absurd at_list
stands_in_all c cs (bs ∷ lists) at (inl same) =
    stands_before c bs (all_strips lists) (subst (λ xs. Stands c xs) same at)
stands_in_all c cs (bs ∷ lists) at (inr later) =
    stands_behind c bs (all_strips lists) (stands_in_all c cs lists at later)

-- a number that is no abscissa is none that is one
pub other_than_abscissa : (m : Building) (d : Vector) (a u : Arrow) → IsRational a
    → is_abscissa m d a ≡ true → is_abscissa m d u ≡ false → IsSame a u → ⊥
other_than_abscissa m d a u a_in is none same =
    let found =
    one_of_any (λ x. int_eq (cross a x) (pos 0)) (abscissae_of m d)
    (sym (abscissa_is_among m d a) ∙ is)
    in
    let x = found.0 in
    all_stands (λ y. IsSame y u → ⊥) x (abscissae_of m d) (no_abscissa_is_none m d u none)
    found.1.0
    (same_trans x a u a_in
    (same_sym a x ((Decides-int_eq (cross a x) (pos 0)).0 found.1.1)) same)

-- ---- joinable cells

module _ (m : Building) (d : Vector) (calls : List (List Cell)) (joinable : AreJoinable m d calls)
  where
    abbrev lists : List (List Strip)
    lists = map strips_of calls

    -- they are strips of slabs that ascend
    pub joinable_ascends : Ascend (sheet_of_ends (map strips_of calls)) (map strips_of calls)
    joinable_ascends =
        record {
          slabs =
              all_images (AreOfASlab (sheet_of_ends (map strips_of calls))) strips_of calls
              (all_that_stand
              (λ cells. AreOfASlab (sheet_of_ends (map strips_of calls)) (strips_of cells)) calls
              (λ cells at.
              own cells at
              (all_stands (λ xs. AllByRecursion (λ c. IsFineCell m d c.patch) xs) cells calls
              joinable.fine at)
              (all_stands (λ xs. AllOfTwo IsFirstOfSlab xs) cells calls joinable.slabs at)));
          ascending =
              two_images strips_of StripsEndBefore calls
              (two_follow EndsBefore (λ bs cs. StripsEndBefore (strips_of bs) (strips_of cs)) calls
              (λ bs cs at_b at_c before b c stands_b stands_c.
              let cell_b = stands_of_image strip_of b bs stands_b in
              let cell_c = stands_of_image strip_of c cs stands_c in
              subst (λ (x : Strip). IsAtMost x.region.high c.region.low) cell_b.1.1
              (subst (λ (x : Strip). IsAtMost (region_of cell_b.0.patch).high x.region.low)
              cell_c.1.1
              (before cell_b.0 cell_c.0 cell_b.1.0 cell_c.1.0)))
              joinable.ascending);
        }
      where
        own : (cells : List Cell) → Stands cells calls
            → AllByRecursion (λ c. IsFineCell m d c.patch) cells → AllOfTwo IsFirstOfSlab cells
            → AreOfASlab (sheet_of_ends (map strips_of calls)) (strips_of cells)
        own [] at fine firsts = tt
        own (c ∷ cs) at fine firsts =
            let there =
            stands_in_all (strip_of c) (strips_of (c ∷ cs)) (map strips_of calls) (inl refl)
            (image_stands strips_of (c ∷ cs) calls at)
            in (
              slab_of m d c cs fine firsts,
              (
                low_stands (strip_of c) (all_strips (map strips_of calls)) there,
                high_stands (strip_of c) (all_strips (map strips_of calls)) there,
              ),
            )

    -- each strip is that of a cell
    pub strip_of_cell : (c : Strip) → Stands c (all_strips (map strips_of calls))
        → (b : Cell) × ((strip_of b ≡ c)
        × ((cells : List Cell) × (Stands b cells × Stands cells calls)))
    strip_of_cell c at = from calls c at
      where
        in_block : (xs ys : List Strip) (x : Strip) → Stands x (xs ++ ys)
            → Stands x xs ⊎ Stands x ys
        in_block [] ys x stands = inr stands
        in_block (y ∷ xs) ys x (inl same) = inl (inl same)
        in_block (y ∷ xs) ys x (inr later) =
            ⊎_elim (λ first. inl (inr first)) (λ second. inr second) (in_block xs ys x later)

        from : (some : List (List Cell)) (x : Strip) → Stands x (all_strips (map strips_of some))
            → (b : Cell) × ((strip_of b ≡ x)
            × ((cells : List Cell) × (Stands b cells × Stands cells some)))
        from [] x stands = absurd stands
        from (cells ∷ some) x stands =
            ⊎_elim
            (λ here.
            let found = stands_of_image strip_of x cells here in
            (found.0, (found.1.1, (cells, (found.1.0, inl refl)))))
            (λ later.
            let rest = from some x later in
            (rest.0, (rest.1.0, (rest.1.1.0, (rest.1.1.1.0, inr rest.1.1.1.1)))))
            (in_block (strips_of cells) (all_strips (map strips_of some)) x stands)

    -- what is no abscissa of the model is none of the sheet
    pub none_of_sheet : (u : Arrow) → is_abscissa m d u ≡ false
        → IsNoAbscissa (sheet_of_ends (map strips_of calls)) u
    none_of_sheet u none =
        all_ends (λ a. IsSame a u → ⊥) (all_strips (map strips_of calls))
        (all_that_stand (λ c. (IsSame c.region.low u → ⊥) × (IsSame c.region.high u → ⊥))
        (all_strips (map strips_of calls))
        (λ c at.
        let found = strip_of_cell c at in
        let cell = found.0 in
        let fine =
        all_stands (λ b. IsFineCell m d b.patch) cell found.1.1.0
        (all_stands (λ xs. AllByRecursion (λ b. IsFineCell m d b.patch) xs) found.1.1.0 calls
        joinable.fine found.1.1.1.1)
        found.1.1.1.0
        in
        let near = fine.1.1.neighbours in
        let in_there = patch_is cell.patch in
        subst (λ (x : Strip). (IsSame x.region.low u → ⊥) × (IsSame x.region.high u → ⊥)) found.1.0 (
          other_than_abscissa m d (region_of cell.patch).low u in_there.region.low_in near.first none,
          other_than_abscissa m d (region_of cell.patch).high u in_there.region.high_in near.last none,
        )))
