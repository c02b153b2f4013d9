-- What is kept of a curve, point by point.
use Rattle.std.proofs.Common.{◌≡◌, ℕ, Bool, true, false, ◌||◌, not, List, [], ◌∷◌, ◌++◌, map, length, get_or, take, ◌<◌, ◌+◌, arith, Option, Some, None, refl, sym, ap, ◌∙◌, append_assoc}
use Rattle.std.specs.Prelude.{is_none, if◌then◌else◌}
use Rattle.std.specs.List.{flat_map, list_any}
use Rattle.std.proofs.lemmas.Grind.{flat_map-append}
use Rattle.std.proofs.lemmas.List.{map-append, append-nil, take_more, map_more, get_or-map, length-map}
use Rattle.std.proofs.lemmas.List.Folds.{list_any-append}
use Rattle.sb_fraction.specs.declared.unit.Unit as units
use Rattle.sb_place.specs.declared.sight.Seen.{Seen}
use Rattle.sb_place.specs.declared.sight.Seen.TheVariants as seen
use Rattle.sb_place.specs.Directions.{Coordinates, all_three}
use Rattle.sb_place.specs.Positions.{is_length}
use Rattle.sb_place.specs.Sight.{absent_at, broken_at, is_other}
use Rattle.sb_prism.specs.declared.faults.Faults.{Faults}
use Rattle.sb_solid.specs.declared.spot.Spot.{Spot}
use Rattle.sb_prism.specs.declared.sections.outline.Outline.{Outline}
use Rattle.sb_prism.specs.Shapes.Curve.{polyline}
use Rattle.sb_prism.specs.Outlines.{texts_at}
use Rattle.sb_prism.specs.Prisms.{is_far_point}
use Rattle.sb_prism.specs.Kept.{faults_of, joined, spot_in, spot_at, outline_of, point_faults, with_spot, with_measured, with_points}
use Rattle.sb_prism.proofs.FaultsAreJoined.{joined_faults}

-- ---- lists with one more

pub or_false : (b : Bool) → (b || false) ≡ b
or_false true = refl
or_false false = refl

pub any_push : {X : Type 0} (test : X → Bool) (xs : List X) (x : X)
    → list_any test (xs ++ x ∷ []) ≡ (list_any test xs || test x)
any_push test xs x =
    list_any-append test xs (x ∷ []) ∙ ap (λ b. list_any test xs || b) (or_false (test x))

pub flat_push : {X : Type 0} (f : X → List ℕ) (xs : List X) (x : X)
    → flat_map f (xs ++ x ∷ []) ≡ flat_map f xs ++ f x
flat_push f xs x = flat_map-append f xs (x ∷ []) ∙ ap (λ ys. flat_map f xs ++ ys) (append-nil (f x))

-- ---- a polyline

far_points : (u : units.Unit) (ps : List (Seen Coordinates)) (p : Seen Coordinates)
    → list_any (is_far_point u) (map texts_at (ps ++ p ∷ []))
    ≡ (list_any (is_far_point u) (map texts_at ps) || is_far_point u (texts_at p))
far_points u ps p =
    ap (list_any (is_far_point u)) (map-append texts_at ps (p ∷ []))
    ∙ any_push (is_far_point u) (map texts_at ps) (texts_at p)

spots_push : (u : units.Unit) (ps : List (Seen Coordinates)) (p : Seen Coordinates)
    → map (spot_at u) (map texts_at (ps ++ p ∷ []))
    ≡ map (spot_at u) (map texts_at ps) ++ spot_at u (texts_at p) ∷ []
spots_push u ps p =
    ap (map (spot_at u)) (map-append texts_at ps (p ∷ []))
    ∙ map-append (spot_at u) (map texts_at ps) (texts_at p ∷ [])

-- a polyline with one point more
pub polyline_more : (u : units.Unit) (ps : List (Seen Coordinates)) (p : Seen Coordinates)
    → with_spot (outline_of u (seen.Shown (polyline ps))) (point_faults u p) (spot_at u (texts_at p))
    ≡ outline_of u (seen.Shown (polyline (ps ++ p ∷ [])))
polyline_more u ps p =
    rw (
      flat_push (λ q. broken_at q) ps p,
      flat_push (λ q. absent_at q) ps p,
      any_push (λ q. is_other q) ps p,
      far_points u ps p,
      spots_push u ps p,
    )
    (ap (λ f. record { faults = f; points = map (spot_at u) (map texts_at ps) ++ spot_at u (texts_at p) ∷ [] })
    (joined_faults (flat_map (λ q. broken_at q) ps) (broken_at p) (flat_map (λ q. absent_at q) ps) (absent_at p)
    false false (list_any (λ q. is_other q) ps) (is_other p)
    (list_any (is_far_point u) (map texts_at ps)) (is_far_point u (texts_at p))))

-- ---- points of a list

none_if : (b : Bool) (s : Spot) → is_none (if b then Some s else None) ≡ not b
none_if true s = refl
none_if false s = refl

-- a point is out of range where none is kept
pub far_is_none : (u : units.Unit) (texts : Coordinates) → is_none (spot_in u texts) ≡ is_far_point u texts
far_is_none u texts = none_if (all_three (is_length u) texts) _

nothing_more : (f : Faults) → joined f (faults_of [] [] false false false) ≡ f
nothing_more f = by_each f.broken f.absent f.turned f.stray f.far
  where
    by_each : (b a : Option ℕ) (t s r : Bool)
        → joined (record { broken = b; absent = a; turned = t; stray = s; far = r }) (faults_of [] [] false false false)
        ≡ record { broken = b; absent = a; turned = t; stray = s; far = r }
    by_each None None t s r = rw (or_false t, or_false s, or_false r) refl
    by_each None (Some n) t s r = rw (or_false t, or_false s, or_false r) refl
    by_each (Some m) None t s r = rw (or_false t, or_false s, or_false r) refl
    by_each (Some m) (Some n) t s r = rw (or_false t, or_false s, or_false r) refl

pub no_points_more : (u : units.Unit) (o : Outline) → with_points u o [] ≡ o
no_points_more u o =
    rw (nothing_more o.faults, append-nil o.points) refl

or_or : (a b c : Bool) → ((a || b) || c) ≡ (a || (b || c))
or_or true b c = refl
or_or false b c = refl

far_joined : (f : Faults) (a b : Bool)
    → joined (joined f (faults_of [] [] false false a)) (faults_of [] [] false false b)
    ≡ joined f (faults_of [] [] false false (a || b))
far_joined f a b = by_each f.broken f.absent f.turned f.stray f.far
  where
    by_each : (c d : Option ℕ) (t s r : Bool)
        → joined (joined (record { broken = c; absent = d; turned = t; stray = s; far = r }) (faults_of [] [] false false a)) (faults_of [] [] false false b)
        ≡ joined (record { broken = c; absent = d; turned = t; stray = s; far = r }) (faults_of [] [] false false (a || b))
    by_each None None t s r = rw (or_or r a b, or_or t false false, or_or s false false) refl
    by_each None (Some n) t s r = rw (or_or r a b, or_or t false false, or_or s false false) refl
    by_each (Some m) None t s r = rw (or_or r a b, or_or t false false, or_or s false false) refl
    by_each (Some m) (Some n) t s r = rw (or_or r a b, or_or t false false, or_or s false false) refl

-- one point more
pub point_more : (u : units.Unit) (o : Outline) (coordinates : List Coordinates) (texts : Coordinates)
    → with_measured (with_points u o coordinates) (spot_in u texts)
    ≡ with_points u o (coordinates ++ texts ∷ [])
point_more u o coordinates texts =
    rw (
      far_is_none u texts,
      any_push (is_far_point u) coordinates texts,
      map-append (spot_at u) coordinates (texts ∷ []),
      far_joined o.faults (list_any (is_far_point u) coordinates) (is_far_point u texts),
      append_assoc o.points (map (spot_at u) coordinates) (spot_at u texts ∷ []),
    )
    refl

-- the points of two lists
pub points_joined : (u : units.Unit) (o : Outline) (cs ds : List Coordinates)
    → with_points u (with_points u o cs) ds ≡ with_points u o (cs ++ ds)
points_joined u o cs ds =
    rw (
      list_any-append (is_far_point u) cs ds,
      map-append (spot_at u) cs ds,
      far_joined o.faults (list_any (is_far_point u) cs) (list_any (is_far_point u) ds),
      append_assoc o.points (map (spot_at u) cs) (map (spot_at u) ds),
    )
    refl

-- a loop's step: over all points of a list, and over those that indices name
pub all_more : (u : units.Unit) (o now next : Outline) (points : List Coordinates) (all : List (Option Spot)) (i : ℕ)
    (d : Option Spot) → i < length all → all ≡ map (spot_in u) points → now ≡ with_points u o (take i points)
    → next ≡ with_measured now (get_or all i d) → next ≡ with_points u o (take (i + 1) points)
all_more u o now next points all i d within all_is now_is next_is =
    let short : i < length points = omega (arith, within, ap length all_is, length-map points (spot_in u)) in
    next_is
    ∙ (ap (λ b. with_measured b (get_or all i d)) now_is
    ∙ (ap (with_measured (with_points u o (take i points)))
    (ap (λ xs. get_or xs i d) all_is ∙ get_or-map (spot_in u) points i [] d short)
    ∙ (point_more u o (take i points) (get_or points i [])
    ∙ ap (with_points u o) (sym (take_more points i [] short)))))

pub named_more : {X : Type 0} (u : units.Unit) (o now next : Outline) (f : X → Coordinates) (xs : List X) (i : ℕ) (x : X)
    (spot : Option Spot) → i < length xs → x ≡ get_or xs i x → now ≡ with_points u o (map f (take i xs))
    → spot ≡ spot_in u (f x) → next ≡ with_measured now spot → next ≡ with_points u o (map f (take (i + 1) xs))
named_more u o now next f xs i x spot within x_is now_is spot_is next_is =
    next_is
    ∙ (ap (λ b. with_measured b spot) now_is
    ∙ (ap (with_measured (with_points u o (map f (take i xs)))) (spot_is ∙ ap (λ y. spot_in u (f y)) x_is)
    ∙ (point_more u o (map f (take i xs)) (f (get_or xs i x))
    ∙ ap (with_points u o) (sym (map_more f xs i x within)))))

pub segment_more : {X : Type 0} (u : units.Unit) (o now next : Outline) (f : List ℕ → Coordinates) (g : X → List (List ℕ))
    (xs : List X) (i : ℕ) (x : X) → i < length xs → x ≡ get_or xs i x
    → now ≡ with_points u o (map f (flat_map g (take i xs))) → next ≡ with_points u now (map f (g x))
    → next ≡ with_points u o (map f (flat_map g (take (i + 1) xs)))
segment_more u o now next f g xs i x within x_is now_is next_is =
    next_is
    ∙ (ap (λ b. with_points u b (map f (g x))) now_is
    ∙ (points_joined u o (map f (flat_map g (take i xs))) (map f (g x))
    ∙ ap (with_points u o)
    (sym (map-append f (flat_map g (take i xs)) (g x))
    ∙ ap (map f)
    (ap (λ y. flat_map g (take i xs) ++ g y) x_is
    ∙ (ap (λ ys. flat_map g (take i xs) ++ ys) (sym (append-nil (g (get_or xs i x))))
    ∙ (sym (flat_map-append g (take i xs) (get_or xs i x ∷ []))
    ∙ ap (flat_map g) (sym (take_more xs i x within))))))))
