-- A number is an abscissa of a direction where it is the number of an item of the list of them.

use Rattle.std.proofs.Common.{◌≡◌, refl, ap, ap₂, sym, ◌∙◌, arith, ℤ, pos, ◌<ℤ◌, ◌+ℤ◌, ◌-ℤ◌, ◌*ℤ◌, ◌≤ℤ◌, Bool, true}
use Rattle.std.proofs.Common.{false, not, ◌&&◌, ◌||◌, List, [], ◌∷◌, ◌++◌, if◌then◌else◌}
use Rattle.std.specs.Ordering.{int_eq}
use Rattle.std.specs.List.{list_any, AllByRecursion}
use Rattle.std.proofs.Math.Path.{fun_ext}
use Rattle.std.proofs.lemmas.Int.{ints, by_lt_z}
use Rattle.std.proofs.lemmas.Bool.{or_parts, and_parts, false≢true}
use Rattle.std.proofs.lemmas.Bool.{false_from_ne_true}
use Rattle.std.proofs.lemmas.Bool.Decides.{Decides-int_eq}
use Rattle.theory_lists.proofs.Blocks.{all-append}
use Rattle.theory_numbers.specs.Arrows.{Arrow, arrow, cross}
use Rattle.theory_numbers.specs.Rationals.{rational, IsRational, IsSame}
use Rattle.theory_numbers.proofs.Vectors.Arrows.{cross-turn}
use Rattle.theory_numbers.proofs.Signs.{test_less, test_not_less}
use Rattle.sb_fraction.specs.Spots.{Spot, spot, Vector, reading}
use Rattle.sb_fraction.specs.Edges.{Edge, span_of}
use Rattle.sb_fraction.specs.Crossings.{cross_at, cross_over, ends_over, meeting_of, abscissa_at}
use Rattle.sb_fraction.specs.Crossings.{are_parallel, with_positive}
use Rattle.sb_model.specs.Building.{Building}
use Rattle.sb_model.specs.PlanEdges.{PlanEdge, plan_edges, is_abscissa}
use Rattle.theory_models.specs.Abscissae.{gathered, end_abscissae, crossing_abscissa, abscissae_of}

-- u is the number of an item
abbrev pub is_among : Arrow → List Arrow → Bool
is_among u list = list_any (λ a. int_eq (cross u a) (pos 0)) list

or_false : (b : Bool) → (b || false) ≡ b
or_false true = refl
or_false false = refl

or_assoc : (a b c : Bool) → (a || (b || c)) ≡ ((a || b) || c)
or_assoc true b c = refl
or_assoc false b c = refl

any-append : {X : Type 0} (test : X → Bool) (xs ys : List X)
    → list_any test (xs ++ ys) ≡ (list_any test xs || list_any test ys)
any-append test [] ys = refl
any-append test (x ∷ xs) ys =
    ap (λ b. test x || b) (any-append test xs ys)
    ∙ or_assoc (test x) (list_any test xs) (list_any test ys)

any-gathered : {X Y : Type 0} (test : Y → Bool) (f : X → List Y) (xs : List X)
    → list_any test (gathered f xs) ≡ list_any (λ x. list_any test (f x)) xs
any-gathered test f [] = refl
any-gathered test f (x ∷ xs) =
    any-append test (f x) (gathered f xs)
    ∙ ap (λ b. list_any test (f x) || b) (any-gathered test f xs)

ends_among : (d : Vector) (u : Arrow) (e : Edge)
    → is_among u (end_abscissae d e) ≡ ends_over d u e
ends_among d u e =
    ap (λ b. int_eq (cross u (rational (abscissa_at e.a d) (pos 1))) (pos 0) || b)
    (or_false (int_eq (cross u (rational (abscissa_at e.b d) (pos 1))) (pos 0)))

among_where : (u a : Arrow) (b : Bool)
    → is_among u (if b then a ∷ [] else []) ≡ (b && int_eq (cross u a) (pos 0))
among_where u a true = or_false (int_eq (cross u a) (pos 0))
among_where u a false = refl

crossing_among : (d : Vector) (u : Arrow) (e f : Edge)
    → is_among u (crossing_abscissa d e f) ≡ cross_over d u e f
crossing_among d u e f =
    among_where u (reading (meeting_of e f) d) (cross_at (meeting_of e f) e f)

-- to be an abscissa is to be among the abscissae
pub abscissa_is_among : (m : Building) (d : Vector) (u : Arrow)
    → is_abscissa m d u ≡ is_among u (abscissae_of m d)
abscissa_is_among m d u =
    sym (any-append test ends crossings ∙ ap₂ (λ s t. s || t) of_ends of_crossings)
  where
    test : Arrow → Bool
    test a = int_eq (cross u a) (pos 0)

    ends : List Arrow
    ends = gathered (λ e. end_abscissae d e.edge) (plan_edges m)

    crossings : List Arrow
    crossings =
        gathered (λ e. gathered (λ f. crossing_abscissa d e.edge f.edge) (plan_edges m))
        (plan_edges m)

    of_ends : list_any test ends ≡ list_any (λ e. ends_over d u e.edge) (plan_edges m)
    of_ends =
        any-gathered test (λ e. end_abscissae d e.edge) (plan_edges m)
        ∙ ap (λ (f : PlanEdge → Bool). list_any f (plan_edges m))
        (fun_ext (λ e. ends_among d u e.edge))

    of_crossings : list_any test crossings
        ≡ list_any (λ e. list_any (λ f. cross_over d u e.edge f.edge) (plan_edges m)) (plan_edges m)
    of_crossings =
        any-gathered test (λ e. gathered (λ f. crossing_abscissa d e.edge f.edge) (plan_edges m))
        (plan_edges m)
        ∙ ap (λ (f : PlanEdge → Bool). list_any f (plan_edges m)) (fun_ext (λ e.
        any-gathered test (λ f. crossing_abscissa d e.edge f.edge) (plan_edges m)
        ∙ ap (λ (g : PlanEdge → Bool). list_any g (plan_edges m))
        (fun_ext (λ f. crossing_among d u e.edge f.edge))))

-- a number that is among none of them is the number of none
none_is_same : (u : Arrow) (list : List Arrow) → is_among u list ≡ false
    → AllByRecursion (λ a. IsSame a u → ⊥) list
none_is_same u [] none = tt
none_is_same u (a ∷ list) none =
    let parts = or_parts (int_eq (cross u a) (pos 0)) (is_among u list) none in (
      λ same.
          let turned = cross-turn a u in
          false≢true (sym parts.0 ∙ (Decides-int_eq (cross u a) (pos 0)).1 (omega (arith, ints))),
      none_is_same u list parts.1,
    )

-- so what is no abscissa is the number of none of them
pub no_abscissa_is_none : (m : Building) (d : Vector) (u : Arrow) → is_abscissa m d u ≡ false
    → AllByRecursion (λ a. IsSame a u → ⊥) (abscissae_of m d)
no_abscissa_is_none m d u none =
    none_is_same u (abscissae_of m d) (sym (abscissa_is_among m d u) ∙ none)

among_none : (u : Arrow) (list : List Arrow) → AllByRecursion (λ a. IsSame a u → ⊥) list
    → is_among u list ≡ false
among_none u [] none = refl
among_none u (a ∷ list) none =
    or_of_both (false_from_ne_true (int_eq (cross u a) (pos 0)) (λ same.
    let zero = (Decides-int_eq (cross u a) (pos 0)).0 same in
    let turned = cross-turn u a in
    none.0 (omega (arith, ints)))) (among_none u list none.1)
  where
    or_of_both : {b c : Bool} → b ≡ false → c ≡ false → (b || c) ≡ false
    or_of_both first second = rw (first, second) refl

-- and what is the number of none is no abscissa
pub none_is_no_abscissa : (m : Building) (d : Vector) (u : Arrow)
    → AllByRecursion (λ a. IsSame a u → ⊥) (abscissae_of m d) → is_abscissa m d u ≡ false
none_is_no_abscissa m d u none =
    abscissa_is_among m d u ∙ among_none u (abscissae_of m d) none

-- ---- each of them is a rational number

all-gathered : {X Y : Type 0} (P : Y → Type 0) (f : X → List Y) → ((x : X) → AllByRecursion P (f x))
    → (xs : List X) → AllByRecursion P (gathered f xs)
all-gathered P f each [] = tt
all-gathered P f each (x ∷ xs) =
    all-append P (f x) (gathered f xs) (each x) (all-gathered P f each xs)

ends_are_rational : (d : Vector) (e : Edge) → AllByRecursion IsRational (end_abscissae d e)
ends_are_rational d e = (omega (arith, ints), (omega (arith, ints), tt))

-- a denominator that is not 0 is made positive
made_positive : (p : Spot) → (p.w ≡ pos 0 → ⊥) → pos 0 <ℤ (with_positive p).w
made_positive p other =
    by_lt_z p.w (pos 0)
    (λ below. rw (test_less p.w (pos 0) below) (omega (arith, ints)))
    (λ high. rw (test_not_less p.w (pos 0) high) (above p.w high other))
  where
    above : (w : ℤ) → pos 0 ≤ℤ w → (w ≡ pos 0 → ⊥) → pos 0 <ℤ w
    above w high some =
        by_lt_z (pos 0) w (λ more. more) (λ low. absurd (some (omega (arith, ints))))

crossing_is_rational : (d : Vector) (e f : Edge)
    → AllByRecursion IsRational (crossing_abscissa d e f)
crossing_is_rational d e f =
    from (cross_at (meeting_of e f) e f) (λ crosses.
    let parts = and_parts (not (are_parallel e f)) _ crosses in
    let w = cross (span_of e) (span_of f) in
    let s = cross (arrow (f.a.x -ℤ e.a.x) (f.a.y -ℤ e.a.y)) (span_of f) in
    made_positive (spot ((e.a.x *ℤ w) +ℤ (s *ℤ (span_of e).x))
    ((e.a.y *ℤ w) +ℤ (s *ℤ (span_of e).y)) (pos 0) w)
    (λ zero. false≢true (ap not (sym ((Decides-int_eq w (pos 0)).1 zero)) ∙ parts.0)))
  where
    from : (b : Bool) → (b ≡ true → IsRational (reading (meeting_of e f) d))
        → AllByRecursion IsRational (if b then reading (meeting_of e f) d ∷ [] else [])
    from true good = (good refl, tt)
    from false good = tt

-- each abscissa of the list is a rational number
pub abscissae_are_rational : (m : Building) (d : Vector)
    → AllByRecursion IsRational (abscissae_of m d)
abscissae_are_rational m d =
    all-append IsRational
    (gathered (λ e. end_abscissae d e.edge) (plan_edges m))
    (gathered (λ e. gathered (λ f. crossing_abscissa d e.edge f.edge) (plan_edges m))
    (plan_edges m))
    (all-gathered IsRational (λ e. end_abscissae d e.edge) (λ e. ends_are_rational d e.edge)
    (plan_edges m))
    (all-gathered IsRational
    (λ e. gathered (λ f. crossing_abscissa d e.edge f.edge) (plan_edges m))
    (λ e. all-gathered IsRational (λ f. crossing_abscissa d e.edge f.edge)
    (λ f. crossing_is_rational d e.edge f.edge) (plan_edges m))
    (plan_edges m))
