-- What the chains of runs keep: that they are patches, what holds of each and of each two, and what
-- they mark off the lines on which runs begin.
use Rattle.std.proofs.Common.{◌≡◌, refl, sym, ◌∙◌, ap, ap₂, inl, inr, ◌⊎◌, ⊎_elim, Bool, true}
use Rattle.std.proofs.Common.{false, ◌&&◌, if◌then◌else◌, List, [], ◌∷◌}
use Rattle.std.proofs.Common.{subst}
use Rattle.std.specs.List.{AllByRecursion}
use Rattle.std.proofs.lemmas.List.Sorted.{IsPermutation-refl}
use Rattle.theory_numbers.specs.Rationals.{IsSame}
use Rattle.theory_plane.specs.Sides.{is_same_side}
use Rattle.theory_plane.specs.Points.{FacePoint, IsFacePoint, abscissa_of}
use Rattle.theory_lists.specs.Members.{AllOfTwo}
use Rattle.theory_lists.proofs.Members.{all_follow, all_both}
use Rattle.theory_patches.specs.Marked.{IsPatch}
use Rattle.theory_patches.specs.Sheets.{IsMarkedAt}
use Rattle.theory_patches.proofs.MarkedAt.{Marks, marked_first, marked_later, marked_cases}
use Rattle.theory_patches.proofs.MarkedAt.{none_marked}
use Rattle.theory_joining.specs.Put.{ends_where_begins, goes_on, carried_on, put, ArePutTo}
use Rattle.theory_joining.proofs.GoesOn.{GoesOn, goes_on_from, carried_on_is_patch}
use Rattle.theory_joining.proofs.MarksOfPut.{runs_add_marks, runs_add_no_more}
use Rattle.theory_faces.specs.Strips.{Mark, Strip, is_same_mark}
use Rattle.theory_faces.specs.Chains.{lay_before, chains}
use Rattle.theory_faces.proofs.MarksTold.{mark_tells}

-- what the test says
pub goes : (p q : Strip) → goes_on is_same_mark p q ≡ true → GoesOn p q
goes p q answer = goes_on_from is_same_mark mark_tells p q answer

-- ---- all of a list

all_before : (p : Strip) (P : Strip → Type 0) → P p
    → ((q : Strip) → P q → GoesOn p q → P (carried_on p q)) → (qs : List Strip)
    → AllByRecursion P qs → AllByRecursion P (lay_before p qs)
all_before p P at_p in_one [] all = (at_p, tt)
all_before p P at_p in_one (q ∷ qs) all =
    from (goes_on is_same_mark p q) (λ on. in_one q all.0 (goes p q on))
  where
    from : (b : Bool) → (b ≡ true → P (carried_on p q))
        → AllByRecursion P (if b then carried_on p q ∷ qs else p ∷ q ∷ qs)
    from true one = (one refl, all.1)
    from false one = (at_p, all)

-- chains of patches are patches
pub chains_are_patches : (ps : List Strip) → AllByRecursion (λ p. IsPatch p.region) ps
    → AllByRecursion (λ p. IsPatch p.region) (chains ps)
chains_are_patches [] patches = tt
chains_are_patches (p ∷ ps) patches =
    all_before p (λ q. IsPatch q.region) patches.0
    (λ q q_in on. carried_on_is_patch p q patches.0 q_in on) (chains ps)
    (chains_are_patches ps patches.1)

-- what holds of each run, also of two in one, holds of each chain; more may be known of the runs,
-- if it is known of two in one too
pub chains_all : (Known P : Strip → Type 0)
    → ((p q : Strip) → Known p → Known q → GoesOn p q → Known (carried_on p q))
    → ((p q : Strip) → Known p → Known q → GoesOn p q → P p → P q → P (carried_on p q))
    → (ps : List Strip) → AllByRecursion Known ps → AllByRecursion P ps
    → AllByRecursion P (chains ps)
chains_all Known P known together ps each all =
    all_follow (λ q both. both.1) (chains ps) (both_keep ps (all_both Known P ps each all))
  where
    both_keep : (qs : List Strip) → AllByRecursion (λ q. Known q × P q) qs
        → AllByRecursion (λ q. Known q × P q) (chains qs)
    both_keep [] two = tt
    both_keep (q ∷ qs) two =
        all_before q (λ r. Known r × P r) two.0
        (λ r at_r on. (
          known q r two.0.0 at_r.0 on,
          together q r two.0.0 at_r.0 on two.0.1 at_r.1,
        ))
        (chains qs) (both_keep qs two.1)

-- a relation of two that sees a chain as its two parts, from before and from behind
pub record SeesParts (Known : Strip → Type 0) (R : Strip → Strip → Type 0) : Type 0 where
  pub known : (p q : Strip) → Known p → Known q → GoesOn p q → Known (carried_on p q)
  pub behind : (x p q : Strip) → Known p → Known q → GoesOn p q → R x p → R x q
      → R x (carried_on p q)
  pub before : (p q y : Strip) → Known p → Known q → GoesOn p q → R p y → R q y
      → R (carried_on p q) y

-- it holds of each two chains
pub chains_two : (Known : Strip → Type 0) (R : Strip → Strip → Type 0) → SeesParts Known R
    → (ps : List Strip) → AllByRecursion Known ps → AllOfTwo R ps → AllOfTwo R (chains ps)
chains_two Known R sees [] each all = tt
chains_two Known R sees (p ∷ ps) each all =
    laid (chains ps)
    (chains_all Known Known sees.known (λ q r q_is r_is on at_q at_r. sees.known q r q_is r_is on)
    ps each.1 each.1)
    (chains_all Known (R p) sees.known (λ q r q_is r_is on. sees.behind p q r q_is r_is on) ps each.1
    all.0)
    (chains_two Known R sees ps each.1 all.1)
  where
    laid : (qs : List Strip) → AllByRecursion Known qs → AllByRecursion (R p) qs
        → AllOfTwo R qs → AllOfTwo R (lay_before p qs)
    laid [] known first rest = (tt, tt)
    laid (q ∷ qs) known first rest = from (goes_on is_same_mark p q) (goes p q)
      where
        from : (b : Bool) → (b ≡ true → GoesOn p q)
            → AllOfTwo R (if b then carried_on p q ∷ qs else p ∷ q ∷ qs)
        from true on = (
          all_follow (λ y both. sees.before p q y each.0 known.0 (on refl) both.0 both.1) qs
              (all_both (R p) (R q) qs first.1 rest.0),
          rest.1,
        )
        from false on = (first, rest)

-- ---- no two neighbours go on

-- the first of the list does not go on from p
abbrev pub IsClosedBefore : Strip → List Strip → Type 0
IsClosedBefore p [] = Unit {0}
IsClosedBefore p (q ∷ qs) = goes_on is_same_mark p q ≡ false

-- no neighbours go on
abbrev pub AreClosed : List Strip → Type 0
AreClosed [] = Unit {0}
AreClosed (p ∷ ps) = IsClosedBefore p ps × AreClosed ps

-- what is carried on goes on as its end did
carried_goes_on : (p q r : Strip) → GoesOn p q
    → goes_on is_same_mark (carried_on p q) r ≡ goes_on is_same_mark q r
carried_goes_on p q r on =
    ap₂ (λ sides mark. (ends_where_begins q.region r.region && sides) && mark)
    (ap₂ (λ l m. is_same_side l r.region.lower && is_same_side m r.region.upper) on.sides.lower
    on.sides.upper)
    (ap (λ m. is_same_mark m r.mark) on.mark)

pub chains_are_closed : (ps : List Strip) → AreClosed (chains ps)
chains_are_closed [] = tt
chains_are_closed (p ∷ ps) = laid (chains ps) (chains_are_closed ps)
  where
    laid : (qs : List Strip) → AreClosed qs → AreClosed (lay_before p qs)
    laid [] closed = (tt, tt)
    laid (q ∷ qs) closed = from (goes_on is_same_mark p q) refl
      where
        carried : GoesOn p q → (rs : List Strip) → IsClosedBefore q rs
            → IsClosedBefore (carried_on p q) rs
        carried on [] none = tt
        carried on (r ∷ rs) none = carried_goes_on p q r on ∙ none

        from : (b : Bool) → goes_on is_same_mark p q ≡ b
            → AreClosed (if b then carried_on p q ∷ qs else p ∷ q ∷ qs)
        from true on = (carried (goes p q on) qs closed.0, closed.1)
        from false none = (none, closed)

-- ---- marks

module _ (point : FacePoint) (point_in : IsFacePoint point) (mark : Mark) where
  module _ (p q : Strip) (p_in : IsPatch p.region) (q_in : IsPatch q.region)
      (on : goes_on is_same_mark p q ≡ true) where
    put_is : put is_same_mark q (p ∷ []) ≡ carried_on p q ∷ []
    put_is = ap (λ b. if b then carried_on p q ∷ [] else p ∷ q ∷ []) on

    are_put : ArePutTo is_same_mark (q ∷ []) (p ∷ []) (put is_same_mark q (p ∷ []))
    are_put = (put is_same_mark q (p ∷ []), IsPermutation-refl _, IsPermutation-refl _)

    alone : (r : Strip) → Marks r point mark ⊎ IsMarkedAt {M = Mark} [] point mark
        → Marks r point mark
    alone r (inl marks) = marks
    alone r (inr none) = absurd (none_marked point mark none)

    -- a run and the next one in one mark what both mark
    carried_marks : Marks p point mark ⊎ Marks q point mark → Marks (carried_on p q) point mark
    carried_marks either =
        alone (carried_on p q)
        (marked_cases point mark (carried_on p q) []
        (subst (λ ps. IsMarkedAt ps point mark) put_is
        (runs_add_marks point point_in mark is_same_mark mark_tells (q ∷ []) (q_in, tt) (p ∷ [])
        (put is_same_mark q (p ∷ [])) are_put (p_in, tt)
        (⊎_elim (λ old. inr (marked_first point mark p [] old))
        (λ new. inl (marked_first point mark q [] new)) either))))

    -- and nothing else, but on the line between them
    carried_marks_no_more : (IsSame q.region.low (abscissa_of point) → ⊥)
        → Marks (carried_on p q) point mark → Marks p point mark ⊎ Marks q point mark
    carried_marks_no_more off marks =
        ⊎_elim (λ new. inr (alone q (marked_cases point mark q [] new)))
        (λ old. inl (alone p (marked_cases point mark p [] old)))
        (runs_add_no_more point point_in mark is_same_mark mark_tells (q ∷ []) (q_in, tt) (off, tt)
        (p ∷ []) (put is_same_mark q (p ∷ [])) are_put (p_in, tt)
        (subst (λ ps. IsMarkedAt ps point mark) (sym put_is)
        (marked_first point mark (carried_on p q) [] marks)))

  -- chains mark what their runs mark
  pub chains_mark : (ps : List Strip) → AllByRecursion (λ p. IsPatch p.region) ps
      → IsMarkedAt ps point mark → IsMarkedAt (chains ps) point mark
  chains_mark [] patches marked = marked
  chains_mark (p ∷ ps) patches marked =
      laid (chains ps) (chains_are_patches ps patches.1)
      (⊎_elim (λ first. inl first) (λ later. inr (chains_mark ps patches.1 later))
      (marked_cases point mark p ps marked))
    where
      laid : (qs : List Strip) → AllByRecursion (λ q. IsPatch q.region) qs
          → Marks p point mark ⊎ IsMarkedAt qs point mark → IsMarkedAt (lay_before p qs) point mark
      laid [] qs_in (inl first) = marked_first point mark p [] first
      laid [] qs_in (inr later) = marked_later point mark p [] later
      laid (q ∷ qs) qs_in either = from (goes_on is_same_mark p q) (λ on. on) either
        where
          in_one : goes_on is_same_mark p q ≡ true → Marks q point mark ⊎ IsMarkedAt qs point mark
              → IsMarkedAt (carried_on p q ∷ qs) point mark
          in_one on (inl first) =
              marked_first point mark (carried_on p q) qs
              (carried_marks p q patches.0 qs_in.0 on (inr first))
          in_one on (inr later) = marked_later point mark (carried_on p q) qs later

          from : (b : Bool) → (b ≡ true → goes_on is_same_mark p q ≡ true)
              → Marks p point mark ⊎ IsMarkedAt (q ∷ qs) point mark
              → IsMarkedAt (if b then carried_on p q ∷ qs else p ∷ q ∷ qs) point mark
          from true on (inl first) =
              marked_first point mark (carried_on p q) qs
              (carried_marks p q patches.0 qs_in.0 (on refl) (inl first))
          from true on (inr later) = in_one (on refl) (marked_cases point mark q qs later)
          from false on (inl first) = marked_first point mark p (q ∷ qs) first
          from false on (inr later) = marked_later point mark p (q ∷ qs) later

  -- and nothing else, off the lines on which runs begin
  pub chains_mark_no_more : (ps : List Strip) → AllByRecursion (λ p. IsPatch p.region) ps
      → AllByRecursion (λ p. IsSame p.region.low (abscissa_of point) → ⊥) ps
      → IsMarkedAt (chains ps) point mark → IsMarkedAt ps point mark
  chains_mark_no_more [] patches off marked = marked
  chains_mark_no_more (p ∷ ps) patches off marked =
      ⊎_elim (λ first. marked_first point mark p ps first)
      (λ later. marked_later point mark p ps (chains_mark_no_more ps patches.1 off.1 later))
      (laid (chains ps) (chains_are_patches ps patches.1)
      (chains_all (λ q. IsPatch q.region) (λ q. IsSame q.region.low (abscissa_of point) → ⊥)
      (λ q r q_in r_in on. carried_on_is_patch q r q_in r_in on)
      (λ q r q_in r_in on at_q at_r. at_q) ps patches.1 off.1)
      marked)
    where
      laid : (qs : List Strip) → AllByRecursion (λ q. IsPatch q.region) qs
          → AllByRecursion (λ q. IsSame q.region.low (abscissa_of point) → ⊥) qs
          → IsMarkedAt (lay_before p qs) point mark
          → Marks p point mark ⊎ IsMarkedAt qs point mark
      laid [] qs_in qs_off there = marked_cases point mark p [] there
      laid (q ∷ qs) qs_in qs_off there = from (goes_on is_same_mark p q) (λ on. on) there
        where
          of_one : Marks p point mark ⊎ Marks q point mark
              → Marks p point mark ⊎ IsMarkedAt (q ∷ qs) point mark
          of_one (inl old) = inl old
          of_one (inr new) = inr (marked_first point mark q qs new)

          of_cases : goes_on is_same_mark p q ≡ true → Marks (carried_on p q) point mark ⊎ IsMarkedAt qs point mark
              → Marks p point mark ⊎ IsMarkedAt (q ∷ qs) point mark
          of_cases on (inl first) =
              of_one
              (carried_marks_no_more p q patches.0 qs_in.0 on qs_off.0 first)
          of_cases on (inr later) = inr (marked_later point mark q qs later)

          from : (b : Bool) → (b ≡ true → goes_on is_same_mark p q ≡ true)
              → IsMarkedAt (if b then carried_on p q ∷ qs else p ∷ q ∷ qs) point mark
              → Marks p point mark ⊎ IsMarkedAt (q ∷ qs) point mark
          from true on marks = of_cases (on refl) (marked_cases point mark (carried_on p q) qs marks)
          from false on marks = marked_cases point mark p (q ∷ qs) marks
