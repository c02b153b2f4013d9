-- Chains of runs that stand in order of their faces, their sides and their beginnings, and that
-- follow each other where they have one face and one pair of sides, have no seam.
use Rattle.std.proofs.Common.{◌≡◌, refl, sym, ◌∙◌, ap, subst, inl, inr, ◌⊎◌, arith, ℕ, pos}
use Rattle.std.proofs.Common.{true, false, ◌&&◌, List, [], ◌∷◌}
use Rattle.std.specs.List.{AllByRecursion}
use Rattle.std.specs.declared.cmp.Ordering.{Ordering}
use Rattle.std.specs.declared.cmp.Ordering.TheVariants.{Less, Equal, Greater}
use Rattle.std.specs.Ordering.{int_cmp, nat_cmp, is_lt, ordering_then, ordering_reverse}
use Rattle.std.specs.Cmp.{IsTotalOrder, signed_Decides}
use Rattle.std.proofs.lemmas.Int.{ints}
use Rattle.std.proofs.lemmas.Bool.{and_parts, and_from, false_from_ne_true, false≢true}
use Rattle.std.proofs.lemmas.Cmp.{nat_cmp_total, int_cmp_total, on_total, then_total, tied_itself}
use Rattle.std.proofs.lemmas.Map.Lookups.{exact_unsigned, exact_signed}
use Rattle.theory_numbers.specs.Arrows.{Arrow, cross}
use Rattle.theory_numbers.specs.Rationals.{IsRational, IsBelow, IsAtMost, IsSame}
use Rattle.theory_numbers.specs.Tests.{is_positive}
use Rattle.theory_numbers.proofs.Fractions.Rationals.{below_or_not, at_most_below_trans, below_irrefl}
use Rattle.theory_numbers.proofs.Fractions.Rationals.{below_at_most_trans, below_trans}
use Rattle.theory_numbers.proofs.Signs.{test_less}
use Rattle.theory_plane.specs.Sides.{LineSide, clearance_at}
use Rattle.theory_plane.specs.Regions.{have_same_sides, is_seam}
use Rattle.theory_plane.proofs.SameSide.{same_line}
use Rattle.theory_lists.specs.Members.{AllOfTwo}
use Rattle.theory_lists.proofs.Members.{all_follow, all_both}
use Rattle.theory_patches.specs.Marked.{IsPatch}
use Rattle.theory_patches.specs.Trimmed.{HaveNoSeam}
use Rattle.theory_patches.proofs.NoneBetween.{at_most_from_same}
use Rattle.theory_joining.specs.Put.{ends_where_begins, goes_on}
use Rattle.theory_joining.proofs.GoesOn.{one_sides_from}
use Rattle.sb_fraction.specs.Numbers.{order_of}
use Rattle.sb_model.specs.declared.faces.face.Face.{Face}
use Rattle.sb_model.specs.declared.faces.face.FaceKind.{FaceKind}
use Rattle.sb_model.specs.declared.faces.face.FaceKind.TheVariants as kind
use Rattle.sb_model.specs.Boundaries.Order.{rank_of}
use Rattle.theory_faces.specs.Strips.{Strip, is_same_mark}
use Rattle.theory_faces.specs.Chains.{order_of_sides, order_of_keys, order_of_runs}
use Rattle.theory_faces.proofs.MarksTold.{mark_tells}
use Rattle.theory_faces.proofs.ChainsKeep.{AreClosed}

-- the two have one face and one pair of sides
abbrev pub HaveOneKey : Strip → Strip → Type 0
HaveOneKey p q =
    (p.mark.face ≡ q.mark.face) × ((p.region.lower ≡ q.region.lower)
    × (p.region.upper ≡ q.region.upper))

pub key_sym : (p q : Strip) → HaveOneKey p q → HaveOneKey q p
key_sym p q key = (sym key.0, (sym key.1.0, sym key.1.1))

pub key_trans : (p q r : Strip) → HaveOneKey p q → HaveOneKey q r → HaveOneKey p r
key_trans p q r first second =
    (first.0 ∙ second.0, (first.1.0 ∙ second.1.0, first.1.1 ∙ second.1.1))

-- ---- the order of keys

sides_total : IsTotalOrder order_of_sides
sides_total =
    then_total (on_total (λ (l : LineSide). l.dx) int_cmp_total)
    (then_total (on_total (λ (l : LineSide). l.dy) int_cmp_total)
    (on_total (λ (l : LineSide). l.off) int_cmp_total))

-- the order of keys is total
pub keys_total : IsTotalOrder order_of_keys
keys_total =
    then_total (on_total (λ (p : Strip). p.mark.face.space) nat_cmp_total)
    (then_total (on_total (λ (p : Strip). rank_of p.mark.face.kind) nat_cmp_total)
    (then_total (on_total (λ (p : Strip). p.region.lower) sides_total)
    (on_total (λ (p : Strip). p.region.upper) sides_total)))

both_equal : (o p : Ordering) → ordering_then o p ≡ Equal → (o ≡ Equal) × (p ≡ Equal)
both_equal Less p same = absurd cc
both_equal Equal p same = (refl, same)
both_equal Greater p same = absurd cc

sides_exact : (l m : LineSide) → order_of_sides l m ≡ Equal → l ≡ m
sides_exact l m same =
    let first = both_equal (int_cmp l.dx m.dx)
    (ordering_then (int_cmp l.dy m.dy) (int_cmp l.off m.off)) same in
    let rest = both_equal (int_cmp l.dy m.dy) (int_cmp l.off m.off) first.1 in
    same_line l m (exact_signed l.dx m.dx first.0) (exact_signed l.dy m.dy rest.0)
    (exact_signed l.off m.off rest.1)

-- a kind of face is told by its rank
pub same_rank : (j k : FaceKind) → rank_of j ≡ rank_of k → j ≡ k
same_rank kind.Bottom kind.Bottom same = refl
same_rank kind.Bottom kind.Top same = absurd (omega arith)
same_rank kind.Bottom (kind.Side k) same = absurd (omega arith)
same_rank kind.Top kind.Bottom same = absurd (omega arith)
same_rank kind.Top kind.Top same = refl
same_rank kind.Top (kind.Side k) same = absurd (omega arith)
same_rank (kind.Side j) kind.Bottom same = absurd (omega arith)
same_rank (kind.Side j) kind.Top same = absurd (omega arith)
same_rank (kind.Side j) (kind.Side k) same = ap kind.Side (omega arith)

abbrev face_with : ℕ → FaceKind → Face
face_with space kinds = record { space = space; kind = kinds }

pub same_face : (f g : Face) → f.space ≡ g.space → f.kind ≡ g.kind → f ≡ g
same_face f g space kinds =
    let whole : face_with f.space f.kind ≡ face_with g.space g.kind = cc in whole

-- equal keys are one key
pub keys_exact : (p q : Strip) → order_of_keys p q ≡ Equal → HaveOneKey p q
keys_exact p q same =
    let space = both_equal (nat_cmp p.mark.face.space q.mark.face.space) _ same in
    let rank = both_equal (nat_cmp (rank_of p.mark.face.kind) (rank_of q.mark.face.kind)) _ space.1 in
    let sides = both_equal (order_of_sides p.region.lower q.region.lower)
    (order_of_sides p.region.upper q.region.upper) rank.1 in (
      same_face p.mark.face q.mark.face (exact_unsigned _ _ space.0)
          (same_rank p.mark.face.kind q.mark.face.kind (exact_unsigned _ _ rank.0)),
      (
        sides_exact p.region.lower q.region.lower sides.0,
        sides_exact p.region.upper q.region.upper sides.1,
      ),
    )

-- the order of the keys of p and of these data
abbrev order_with : Strip → Face → LineSide → LineSide → Ordering
order_with p face lower upper =
    ordering_then (nat_cmp p.mark.face.space face.space)
    (ordering_then (nat_cmp (rank_of p.mark.face.kind) (rank_of face.kind))
    (ordering_then (order_of_sides p.region.lower lower) (order_of_sides p.region.upper upper)))

-- and one key is equal
pub keys_equal : (p q : Strip) → HaveOneKey p q → order_of_keys p q ≡ Equal
keys_equal p q key =
    subst (λ f. order_with p f q.region.lower q.region.upper ≡ Equal) key.0
    (subst (λ l. order_with p p.mark.face l q.region.upper ≡ Equal) key.1.0
    (subst (λ m. order_with p p.mark.face p.region.lower m ≡ Equal) key.1.1
    (tied_itself keys_total p)))

-- ---- runs in order

-- the second does not come before the first
abbrev pub IsNotAfter : Strip → Strip → Type 0
IsNotAfter p q = is_lt (order_of_runs q p) ≡ false

not_less : (o p : Ordering) → is_lt (ordering_then o p) ≡ false → o ≡ Less → ⊥
not_less Less p none less = false≢true (sym none)
not_less Equal p none less = cc
not_less Greater p none less = cc

-- what stands between two of one key has this key
pub between_one_key : (p x q : Strip) → IsNotAfter p x → IsNotAfter x q → HaveOneKey p q
    → HaveOneKey p x
between_one_key p x q first second key = from (order_of_keys x p) refl
  where
    from : (o : Ordering) → order_of_keys x p ≡ o → HaveOneKey p x
    from Less is = absurd (not_less (order_of_keys x p) _ first is)
    from Equal is = key_sym x p (keys_exact x p is)
    from Greater is =
        absurd
        (not_less (order_of_keys q x) _ second
        (sym (keys_total.congr p q x (keys_equal p q key)) ∙ keys_total.antisymm p x
        ∙ ap ordering_reverse is))

less_test : (r s : Arrow) → IsBelow r s → is_lt (order_of r s) ≡ true
less_test r s below = rw (test_less (pos 0) (cross r s) below) refl

-- of two of one key the first does not begin after the second
pub begins_first : (p q : Strip) → IsNotAfter p q → HaveOneKey p q
    → IsAtMost p.region.low q.region.low
begins_first p q order key = from (below_or_not q.region.low p.region.low)
  where
    at_low : is_lt (order_of q.region.low p.region.low) ≡ false
    at_low =
        subst (λ o. is_lt (ordering_then o (order_of q.region.low p.region.low)) ≡ false)
        (keys_equal q p (key_sym p q key)) order

    from : IsBelow q.region.low p.region.low ⊎ IsAtMost p.region.low q.region.low
        → IsAtMost p.region.low q.region.low
    from (inl below) =
        absurd (false≢true (sym at_low ∙ less_test q.region.low p.region.low below))
    from (inr least) = least

-- ---- runs that follow each other

-- of one key, the first ends where the second begins, or before
abbrev pub IsInTurn : Strip → Strip → Type 0
IsInTurn p q = HaveOneKey p q → IsAtMost p.region.high q.region.low

-- of one key, one of the two ends where the other begins, or before
abbrev pub AreInTurn : Strip → Strip → Type 0
AreInTurn p q =
    HaveOneKey p q
    → IsAtMost p.region.high q.region.low ⊎ IsAtMost q.region.high p.region.low

-- so where they stand in order the first ends first
pub in_turn_if_in_order : (p q : Strip) → IsPatch p.region → IsPatch q.region → AreInTurn p q
    → IsNotAfter p q → IsInTurn p q
in_turn_if_in_order p q p_in q_in turn order key = from (turn key)
  where
    from : IsAtMost p.region.high q.region.low ⊎ IsAtMost q.region.high p.region.low
        → IsAtMost p.region.high q.region.low
    from (inl first) = first
    from (inr back) =
        absurd
        (below_irrefl q.region.low
        (below_at_most_trans q.region.low q.region.high q.region.low q_in.region.low_in
        q_in.region.high_in q_in.region.low_in q_in.region.wide
        (at_most_of_two q.region.high p.region.low q.region.low q_in.region.high_in
        p_in.region.low_in q_in.region.low_in back (begins_first p q order key))))
      where
        at_most_of_two : (r s t : Arrow) → IsRational r → IsRational s → IsRational t
            → IsAtMost r s → IsAtMost s t → IsAtMost r t
        at_most_of_two r s t r_in s_in t_in low high = by (below_or_not t r)
          where
            by : IsBelow t r ⊎ IsAtMost r t → IsAtMost r t
            by (inl above) =
                absurd
                (below_irrefl t
                (below_at_most_trans t s t t_in s_in t_in
                (below_at_most_trans t r s t_in r_in s_in above low) high))
            by (inr least) = least

-- ---- no seam

-- the two have no seam, if they have one mark
abbrev pub HaveNoSeamIfAlike : Strip → Strip → Type 0
HaveNoSeamIfAlike p q = p.mark ≡ q.mark → HaveNoSeam p.region q.region

module _ (p q : Strip) (alike : p.mark ≡ q.mark) where
  -- where there is a seam, the second begins where the first ends, and they have one key
  seam_tells : is_seam p.region q.region ≡ true
      → IsSame p.region.high q.region.low × HaveOneKey p q
  seam_tells answer =
      let parts =
      and_parts (ends_where_begins p.region q.region)
      (have_same_sides p.region q.region
      && is_positive (clearance_at p.region.lower p.region.upper p.region.high)) answer
      in
      let sides =
      and_parts (have_same_sides p.region q.region)
      (is_positive (clearance_at p.region.lower p.region.upper p.region.high)) parts.1
      in
      let one = one_sides_from p.region q.region sides.0 in (
        (signed_Decides (cross p.region.high q.region.low) (pos 0)).0 parts.0,
        (ap (λ m. m.face) alike, (one.lower, one.upper)),
      )

  -- where the second does not go on with the first there is none
  no_seam_if_closed : goes_on is_same_mark p q ≡ false → is_seam p.region q.region ≡ false
  no_seam_if_closed closed =
      false_from_ne_true (is_seam p.region q.region)
      (λ answer.
      let parts =
      and_parts (ends_where_begins p.region q.region)
      (have_same_sides p.region q.region
      && is_positive (clearance_at p.region.lower p.region.upper p.region.high)) answer
      in
      let sides =
      and_parts (have_same_sides p.region q.region)
      (is_positive (clearance_at p.region.lower p.region.upper p.region.high)) parts.1
      in
      false≢true
      (sym closed
      ∙ and_from (ends_where_begins p.region q.region && have_same_sides p.region q.region)
      (is_same_mark p.mark q.mark)
      (and_from (ends_where_begins p.region q.region) (have_same_sides p.region q.region) parts.0
      sides.0)
      ((mark_tells p.mark q.mark).1 alike)))

  -- nor where it begins beyond the end of the first
  no_seam_if_beyond : (HaveOneKey p q → IsBelow p.region.high q.region.low)
      → is_seam p.region q.region ≡ false
  no_seam_if_beyond beyond =
      false_from_ne_true (is_seam p.region q.region)
      (λ answer.
      let tells = seam_tells answer in
      let above : IsBelow p.region.high q.region.low = beyond tells.1 in
      let same : IsSame p.region.high q.region.low = tells.0 in
      omega (arith, ints))

-- what follows has no seam with what comes before, seen from behind
no_seam_back : (p q : Strip) → IsPatch p.region → IsPatch q.region → IsInTurn p q
    → p.mark ≡ q.mark → is_seam q.region p.region ≡ false
no_seam_back p q p_in q_in turn alike =
    false_from_ne_true (is_seam q.region p.region)
    (λ answer.
    let tells = seam_tells q p (sym alike) answer in
    below_irrefl p.region.low
    (below_at_most_trans p.region.low q.region.high p.region.low p_in.region.low_in
    q_in.region.high_in p_in.region.low_in
    (below_trans p.region.low p.region.high q.region.high p_in.region.low_in p_in.region.high_in
    q_in.region.high_in p_in.region.wide
    (at_most_below_trans p.region.high q.region.low q.region.high p_in.region.high_in
    q_in.region.low_in q_in.region.high_in (turn (key_sym q p tells.1)) q_in.region.wide))
    (at_most_from_same q.region.high p.region.low tells.0)))

-- with one between them, of runs that follow each other, the second begins beyond the first
beyond_one : (p x q : Strip) → IsPatch p.region → IsPatch x.region → IsPatch q.region
    → IsInTurn p x → IsInTurn x q → IsNotAfter p x → IsNotAfter x q → HaveOneKey p q
    → IsBelow p.region.high q.region.low
beyond_one p x q p_in x_in q_in first second order next key =
    let to_x = between_one_key p x q order next key in
    below_at_most_trans p.region.high x.region.high q.region.low p_in.region.high_in
    x_in.region.high_in q_in.region.low_in
    (at_most_below_trans p.region.high x.region.low x.region.high p_in.region.high_in
    x_in.region.low_in x_in.region.high_in (first to_x) x_in.region.wide)
    (second (key_trans x p q (key_sym p x to_x) key))

-- a list in which no neighbours go on, in order and in turn, has no seam
pub none_has_seam : (ps : List Strip) → AllByRecursion (λ p. IsPatch p.region) ps
    → AllOfTwo IsInTurn ps → AllOfTwo IsNotAfter ps → AreClosed ps
    → AllOfTwo HaveNoSeamIfAlike ps
none_has_seam [] patches turns order closed = tt
none_has_seam (p ∷ []) patches turns order closed = (tt, tt)
none_has_seam (p ∷ x ∷ qs) patches turns order closed = (
  (
    λ alike.
        record {
          first_before = no_seam_if_closed p x alike closed.0;
          second_before = no_seam_back p x patches.0 patches.1.0 turns.0.0 alike;
        },
    all_follow
        (λ q at alike.
        record {
          first_before =
              no_seam_if_beyond p q alike
              (beyond_one p x q patches.0 patches.1.0 at.0 turns.0.0 at.1.1.0 order.0.0 at.1.1.1);
          second_before = no_seam_back p q patches.0 at.0 at.1.0 alike;
        })
        qs
        (all_both (λ q. IsPatch q.region) _ qs patches.1.1
        (all_both (IsInTurn p) _ qs turns.0.1
        (all_both (IsInTurn x) (IsNotAfter x) qs turns.1.0 order.1.0))),
  ),
  none_has_seam (x ∷ qs) patches.1 turns.1 order.1 closed.1,
)
