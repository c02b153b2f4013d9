-- The strips of one face among those of several, and what the runs of a slab keep of them.
use Rattle.std.proofs.Common.{◌≡◌, refl, sym, ◌∙◌, ap, subst, inl, inr, ◌⊎◌, arith, ◌<◌, ◌≤◌}
use Rattle.std.proofs.Common.{Bool, true, false, ◌&&◌, if◌then◌else◌, List, [], ◌∷◌}
use Rattle.std.specs.Prelude.{cond}
use Rattle.std.specs.List.{AllByRecursion, filter}
use Rattle.std.proofs.lemmas.Bool.{and_from, false≢true}
use Rattle.std.proofs.lemmas.Bool.Decides.{Decides-int_eq}
use Rattle.theory_numbers.specs.Arrows.{Arrow}
use Rattle.theory_plane.specs.Points.{FacePoint}
use Rattle.theory_lists.specs.Members.{Stands, AllOfTwo}
use Rattle.theory_patches.specs.Sheets.{IsMarkedAt}
use Rattle.theory_joining.specs.Cells.{is_one_run, raised, lay_under, runs_of}
use Rattle.theory_joining.proofs.RunsMerge.{one_run_from}
use Rattle.theory_joining.proofs.RunsStayApart.{all_laid}
use Rattle.sb_model.specs.declared.faces.face.Face.{Face}
use Rattle.sb_model.specs.Boundaries.Order.{rank_of}
use Rattle.theory_faces.specs.Strips.{Mark, Strip, is_same_face, is_same_mark, is_same_number}
use Rattle.theory_faces.specs.Strips.{have_same_ends, lay, runs_over}
use Rattle.theory_faces.proofs.MarksTold.{mark_tells, face_tells}
use Rattle.theory_faces.proofs.NoSeamInOrder.{same_rank, same_face}

-- the strip is of this face
abbrev pub is_of : Face → Strip → Bool
is_of f p = is_same_face p.mark.face f

-- the strips of one face
abbrev pub of_face : Face → List Strip → List Strip
of_face f ps = filter (is_of f) ps

-- ---- lists that a test parts

module _ {X : Type 0} (test : X → Bool) where
  -- what holds of all that pass
  pub all_that_pass : (P : X → Type 0) (xs : List X) → AllByRecursion P (filter test xs)
      → AllByRecursion (λ x. test x ≡ true → P x) xs
  all_that_pass P [] all = tt
  all_that_pass P (x ∷ xs) all = from (test x) (all_that_pass P xs) all
    where
      from : (b : Bool)
          → (AllByRecursion P (filter test xs) → AllByRecursion (λ y. test y ≡ true → P y) xs)
          → AllByRecursion P (cond b (x ∷ filter test xs) (filter test xs))
          → (b ≡ true → P x) × AllByRecursion (λ y. test y ≡ true → P y) xs
      from true rest both = (λ passes. both.0, rest both.1)
      from false rest all_rest = (λ passes. absurd (false≢true passes), rest all_rest)

  -- what holds of all holds of those that pass
  pub all_filtered : (P : X → Type 0) (xs : List X) → AllByRecursion P xs
      → AllByRecursion P (filter test xs)
  all_filtered P [] all = tt
  all_filtered P (x ∷ xs) all = from (test x) (all_filtered P xs all.1)
    where
      from : (b : Bool) → AllByRecursion P (filter test xs)
          → AllByRecursion P (cond b (x ∷ filter test xs) (filter test xs))
      from true rest = (all.0, rest)
      from false rest = rest

  -- they pass
  pub all_pass_there : (xs : List X) → AllByRecursion (λ x. test x ≡ true) (filter test xs)
  all_pass_there [] = tt
  all_pass_there (x ∷ xs) = from (test x) refl (all_pass_there xs)
    where
      from : (b : Bool) → test x ≡ b → AllByRecursion (λ y. test y ≡ true) (filter test xs)
          → AllByRecursion (λ y. test y ≡ true) (cond b (x ∷ filter test xs) (filter test xs))
      from true passes rest = (passes, rest)
      from false fails rest = rest

  -- what holds of each two holds of each two that pass
  pub two_filtered : (R : X → X → Type 0) (xs : List X) → AllOfTwo R xs
      → AllOfTwo R (filter test xs)
  two_filtered R [] all = tt
  two_filtered R (x ∷ xs) all = from (test x) (two_filtered R xs all.1)
    where
      from : (b : Bool) → AllOfTwo R (filter test xs)
          → AllOfTwo R (cond b (x ∷ filter test xs) (filter test xs))
      from true rest = (all_filtered (R x) xs all.0, rest)
      from false rest = rest

  -- one that passes stands among those that pass
  pub stands_filtered : (x : X) (xs : List X) → Stands x xs → test x ≡ true
      → Stands x (filter test xs)
  stands_filtered x [] stands passes = absurd stands
  stands_filtered x (y ∷ ys) stands passes =
      from (test y) refl (λ later. stands_filtered x ys later passes) stands
    where
      from : (b : Bool) → test y ≡ b → (Stands x ys → Stands x (filter test ys))
          → (x ≡ y) ⊎ Stands x ys → Stands x (cond b (y ∷ filter test ys) (filter test ys))
      from true is rest (inl same) = inl same
      from true is rest (inr later) = inr (rest later)
      from false is rest (inl same) =
          absurd (false≢true (sym is ∙ ap test (sym same) ∙ passes))
      from false is rest (inr later) = rest later

  -- and what stands among them stands in the list
  pub stands_in_whole : (x : X) (xs : List X) → Stands x (filter test xs) → Stands x xs
  stands_in_whole x [] stands = stands
  stands_in_whole x (y ∷ ys) stands = from (test y) (stands_in_whole x ys) stands
    where
      from : (b : Bool) → (Stands x (filter test ys) → Stands x ys)
          → Stands x (cond b (y ∷ filter test ys) (filter test ys)) → (x ≡ y) ⊎ Stands x ys
      from true rest (inl same) = inl same
      from true rest (inr later) = inr (rest later)
      from false rest later = inr (rest later)

  -- where none passes nothing is left
  pub none_left : (xs : List X) → AllByRecursion (λ x. test x ≡ false) xs → filter test xs ≡ []
  none_left [] none = refl
  none_left (x ∷ xs) none =
      ap (λ b. cond b (x ∷ filter test xs) (filter test xs)) none.0 ∙ none_left xs none.1

-- ---- one face at a time

-- what holds of each two of each face holds of each two that have one face
pub two_by_face : (R : Strip → Strip → Type 0) (ps : List Strip)
    → ((f : Face) → AllOfTwo R (of_face f ps))
    → AllOfTwo (λ p q. p.mark.face ≡ q.mark.face → R p q) ps
two_by_face R [] each = tt
two_by_face R (p ∷ ps) each = (
  first (is_of p.mark.face p) ((face_tells p.mark.face p.mark.face).1 refl) (each p.mark.face),
  two_by_face R ps (λ f. rest f (is_of f p) (each f)),
)
  where
    one_face : (q : Strip) → (is_of p.mark.face q ≡ true → R p q) → p.mark.face ≡ q.mark.face
        → R p q
    one_face q at same = at ((face_tells q.mark.face p.mark.face).1 (sym same))

    first : (b : Bool) → b ≡ true
        → AllOfTwo R (cond b (p ∷ of_face p.mark.face ps) (of_face p.mark.face ps))
        → AllByRecursion (λ q. p.mark.face ≡ q.mark.face → R p q) ps
    first true is all =
        follow ps (all_that_pass (is_of p.mark.face) (R p) ps all.0)
      where
        follow : (qs : List Strip)
            → AllByRecursion (λ q. is_of p.mark.face q ≡ true → R p q) qs
            → AllByRecursion (λ q. p.mark.face ≡ q.mark.face → R p q) qs
        follow [] none = tt
        follow (q ∷ qs) some = (one_face q some.0, follow qs some.1)
    first false is all = absurd (false≢true is)

    rest : (f : Face) (b : Bool) → AllOfTwo R (cond b (p ∷ of_face f ps) (of_face f ps))
        → AllOfTwo R (of_face f ps)
    rest f true all = all.1
    rest f false all = all

-- the strips of a face mark what all mark with this face
pub marked_of_face : (ps : List Strip) (point : FacePoint) (mark : Mark)
    → IsMarkedAt ps point mark → IsMarkedAt (of_face mark.face ps) point mark
marked_of_face ps point mark (p, stands, has_mark, inside) = (
  p,
  stands_filtered (is_of mark.face) p ps stands
      ((face_tells p.mark.face mark.face).1 (ap (λ m. m.face) has_mark)),
  has_mark,
  inside,
)

-- and no more
pub marked_in_whole : (f : Face) (ps : List Strip) (point : FacePoint) (mark : Mark)
    → IsMarkedAt (of_face f ps) point mark → IsMarkedAt ps point mark
marked_in_whole f ps point mark (p, stands, has_mark, inside) =
    (p, stands_in_whole (is_of f) p ps stands, has_mark, inside)

-- ---- runs of strips that all have the same ends

-- the strip begins and ends there
pub record HasEnds (low high : Arrow) (p : Strip) : Type 0 where
  pub begins : p.region.low ≡ low
  pub ends : p.region.high ≡ high

same_number : (u w : Arrow) → u ≡ w → is_same_number u w ≡ true
same_number u w same =
    subst (λ x. is_same_number u x ≡ true) same
    (and_from _ _ ((Decides-int_eq u.x u.x).1 refl) ((Decides-int_eq u.y u.y).1 refl))

module _ (low high : Arrow) where
  same_ends : (p q : Strip) → HasEnds low high p → HasEnds low high q
      → have_same_ends p.region q.region ≡ true
  same_ends p q p_is q_is =
      and_from _ _ (same_number p.region.low q.region.low (p_is.begins ∙ sym q_is.begins))
      (same_number p.region.high q.region.high (p_is.ends ∙ sym q_is.ends))

  -- runs keep the ends
  pub runs_have_ends : (cs : List Strip) → AllByRecursion (HasEnds low high) cs
      → AllByRecursion (HasEnds low high) (runs_of is_same_mark cs)
  runs_have_ends [] ends = tt
  runs_have_ends (c ∷ cs) ends =
      all_laid is_same_mark c (HasEnds low high) ends.0
      (λ r r_is one. record { begins = ends.0.begins; ends = ends.0.ends })
      (runs_of is_same_mark cs) (runs_have_ends cs ends.1)

  lay_alike : (c : Strip) → HasEnds low high c → (rs : List Strip)
      → AllByRecursion (HasEnds low high) rs → lay c rs ≡ lay_under is_same_mark c rs
  lay_alike c c_is [] ends = refl
  lay_alike c c_is (r ∷ rs) ends =
      ap
      (λ b. if b && is_one_run is_same_mark c r then raised c r ∷ rs else c ∷ r ∷ rs)
      (same_ends c r c_is ends.0)

  -- and are the runs that the theory of joining speaks of
  pub runs_alike : (cs : List Strip) → AllByRecursion (HasEnds low high) cs
      → runs_over cs ≡ runs_of is_same_mark cs
  runs_alike [] ends = refl
  runs_alike (c ∷ cs) ends =
      ap (lay c) (runs_alike cs ends.1)
      ∙ lay_alike c ends.0 (runs_of is_same_mark cs) (runs_have_ends cs ends.1)

-- ---- the runs of one face are those of its strips

-- the face of the first comes before that of the second, or both have one face
abbrev pub FacesRise : Strip → Strip → Type 0
FacesRise p q =
    (p.mark.face.space < q.mark.face.space)
    ⊎ ((p.mark.face.space ≡ q.mark.face.space)
    × (rank_of p.mark.face.kind ≤ rank_of q.mark.face.kind))

-- what stands between two of one face is of this face
pub between_one_face : (p x q : Strip) → FacesRise p x → FacesRise x q
    → p.mark.face ≡ q.mark.face → p.mark.face ≡ x.mark.face
between_one_face p x q first second same = from first second
  where
    space : p.mark.face.space ≡ q.mark.face.space
    space = ap (λ (f : Face). f.space) same

    rank : rank_of p.mark.face.kind ≡ rank_of q.mark.face.kind
    rank = ap (λ (f : Face). rank_of f.kind) same

    from : FacesRise p x → FacesRise x q → p.mark.face ≡ x.mark.face
    from (inl less) (inl more) = absurd (omega (arith, space))
    from (inl less) (inr one) = let at = one.0 in absurd (omega (arith, space))
    from (inr one) (inl more) = let at = one.0 in absurd (omega (arith, space))
    from (inr one) (inr two) =
        let low = one.1 in
        let high = two.1 in
        same_face p.mark.face x.mark.face one.0
        (same_rank p.mark.face.kind x.mark.face.kind (omega (arith, rank)))

-- what holds of the marks of all strips holds of those of all runs
pub runs_marks : (Q : Mark → Type 0) (cs : List Strip) → AllByRecursion (λ c. Q c.mark) cs
    → AllByRecursion (λ r. Q r.mark) (runs_of is_same_mark cs)
runs_marks Q [] all = tt
runs_marks Q (c ∷ cs) all =
    all_laid is_same_mark c (λ r. Q r.mark) all.0 (λ r at one. all.0) (runs_of is_same_mark cs)
    (runs_marks Q cs all.1)

-- and of the marks of each two
pub runs_two_marks : (Q : Mark → Mark → Type 0) (cs : List Strip)
    → AllOfTwo (λ c d. Q c.mark d.mark) cs
    → AllOfTwo (λ r s. Q r.mark s.mark) (runs_of is_same_mark cs)
runs_two_marks Q [] all = tt
runs_two_marks Q (c ∷ cs) all =
    laid (runs_of is_same_mark cs) (runs_marks (Q c.mark) cs all.0) (runs_two_marks Q cs all.1)
  where
    laid : (rs : List Strip) → AllByRecursion (λ r. Q c.mark r.mark) rs
        → AllOfTwo (λ r s. Q r.mark s.mark) rs
        → AllOfTwo (λ r s. Q r.mark s.mark) (lay_under is_same_mark c rs)
    laid [] first rest = (tt, tt)
    laid (r ∷ rs) first rest = from (is_one_run is_same_mark c r)
      where
        from : (b : Bool)
            → AllOfTwo (λ x y. Q x.mark y.mark) (if b then raised c r ∷ rs else c ∷ r ∷ rs)
        from true = (first.1, rest.1)
        from false = (first, rest)

module _ (f : Face) where
  one_of_run : (c r : Strip) → is_one_run is_same_mark c r ≡ true → is_of f c ≡ is_of f r
  one_of_run c r one = ap (λ m. is_same_face m.face f) (one_run_from is_same_mark mark_tells c r one).mark

  -- a strip of another face changes nothing
  lay_other : (c : Strip) → is_of f c ≡ false → (rs : List Strip)
      → of_face f (lay_under is_same_mark c rs) ≡ of_face f rs
  lay_other c other [] = ap (λ b. cond b (c ∷ []) []) other
  lay_other c other (r ∷ rs) = from (is_one_run is_same_mark c r) refl
    where
      from : (b : Bool) → is_one_run is_same_mark c r ≡ b
          → of_face f (if b then raised c r ∷ rs else c ∷ r ∷ rs) ≡ of_face f (r ∷ rs)
      from true one =
          ap (λ b. cond b (raised c r ∷ of_face f rs) (of_face f rs)) other
          ∙ sym (ap (λ b. cond b (r ∷ of_face f rs) (of_face f rs)) (sym (one_of_run c r one) ∙ other))
      from false none = ap (λ b. cond b (c ∷ of_face f (r ∷ rs)) (of_face f (r ∷ rs))) other

  -- the strips of this face once c is laid under r, by whether c is of this face, and whether the
  -- two are one run
  abbrev laid : Strip → Strip → List Strip → Bool → Bool → List Strip
  laid c r rs own_c one =
      if one then cond own_c (raised c r ∷ of_face f rs) (of_face f rs)
      else cond own_c (c ∷ of_face f (r ∷ rs)) (of_face f (r ∷ rs))

  -- a strip of this face is laid under the first run, if that is of this face
  lay_own : (c : Strip) → is_of f c ≡ true → (rs : List Strip)
      → AllByRecursion (FacesRise c) rs → AllOfTwo FacesRise rs
      → of_face f (lay_under is_same_mark c rs) ≡ lay_under is_same_mark c (of_face f rs)
  lay_own c own [] after rising = ap (λ b. cond b (c ∷ []) []) own
  lay_own c own (r ∷ rs) after rising = by (is_of f r) refl
    where
      opened : (b : Bool) → of_face f (if b then raised c r ∷ rs else c ∷ r ∷ rs)
          ≡ laid c r rs (is_of f c) b
      opened true = refl
      opened false = refl

      no_more : is_of f r ≡ false → (s : Strip) → FacesRise r s → is_of f s ≡ true → ⊥
      no_more other s rise at =
          let face = (face_tells c.mark.face f).0 own in
          let there = (face_tells s.mark.face f).0 at in
          let between = between_one_face c r s after.0 rise (face ∙ sym there) in
          false≢true (sym other ∙ (face_tells r.mark.face f).1 (sym between ∙ face))

      rest_none : is_of f r ≡ false → (ss : List Strip) → AllByRecursion (FacesRise r) ss
          → AllByRecursion (λ s. is_of f s ≡ false) ss
      rest_none other [] rise = tt
      rest_none other (s ∷ ss) rise = (
        none (is_of f s) refl,
        rest_none other ss rise.1,
      )
        where
          none : (b : Bool) → is_of f s ≡ b → b ≡ false
          none true at = absurd (no_more other s rise.0 at)
          none false at = refl

      by : (b : Bool) → is_of f r ≡ b
          → of_face f (lay_under is_same_mark c (r ∷ rs))
          ≡ lay_under is_same_mark c (of_face f (r ∷ rs))
      by true at =
          opened (is_one_run is_same_mark c r)
          ∙ ap (λ b. laid c r rs b (is_one_run is_same_mark c r)) own
          ∙ both (is_one_run is_same_mark c r)
          ∙ sym (ap (lay_under is_same_mark c) whole)
        where
          whole : of_face f (r ∷ rs) ≡ r ∷ of_face f rs
          whole = ap (λ b. cond b (r ∷ of_face f rs) (of_face f rs)) at

          both : (b : Bool) → laid c r rs true b
              ≡ (if b then raised c r ∷ of_face f rs else c ∷ r ∷ of_face f rs)
          both true = refl
          both false = ap (λ ss. c ∷ ss) whole
      by false at =
          let none = none_left (is_of f) (r ∷ rs) (at, rest_none at rs rising.0) in
          opened (is_one_run is_same_mark c r)
          ∙ ap (λ b. laid c r rs b (is_one_run is_same_mark c r)) own
          ∙ alone (is_one_run is_same_mark c r) refl none
          ∙ sym (ap (lay_under is_same_mark c) none)
        where
          alone : (b : Bool) → is_one_run is_same_mark c r ≡ b → of_face f (r ∷ rs) ≡ []
              → laid c r rs true b ≡ c ∷ []
          alone true one none =
              absurd (false≢true (sym at ∙ sym (one_of_run c r one) ∙ own))
          alone false one none = ap (λ ss. c ∷ ss) none

  -- the runs of one face are those of its strips
  pub runs_of_face : (cs : List Strip) → AllOfTwo FacesRise cs
      → of_face f (runs_of is_same_mark cs) ≡ runs_of is_same_mark (of_face f cs)
  runs_of_face [] rising = refl
  runs_of_face (c ∷ cs) rising = by (is_of f c) refl (runs_of_face cs rising.1)
    where
      by : (b : Bool) → is_of f c ≡ b
          → of_face f (runs_of is_same_mark cs) ≡ runs_of is_same_mark (of_face f cs)
          → of_face f (lay_under is_same_mark c (runs_of is_same_mark cs))
          ≡ runs_of is_same_mark (cond b (c ∷ of_face f cs) (of_face f cs))
      by true own rest =
          lay_own c own (runs_of is_same_mark cs)
          (runs_marks
          (λ m. (c.mark.face.space < m.face.space) ⊎ ((c.mark.face.space ≡ m.face.space)
          × (rank_of c.mark.face.kind ≤ rank_of m.face.kind))) cs rising.0)
          (runs_two_marks
          (λ m n. (m.face.space < n.face.space) ⊎ ((m.face.space ≡ n.face.space)
          × (rank_of m.face.kind ≤ rank_of n.face.kind))) cs rising.1)
          ∙ ap (lay_under is_same_mark c) rest
      by false other rest = lay_other c other (runs_of is_same_mark cs) ∙ rest
