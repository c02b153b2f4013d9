-- Tests of every point of loops, by their coordinates.
use Rattle.std.proofs.Common.{◌≡◌, ℤ, ◌+ℤ◌, Bool, true, false, ◌&&◌, List, [], ◌∷◌, map, refl, sym, ap, ap₂, ◌∙◌, arith}
use Rattle.std.specs.List.{list_all, flat_map}
use Rattle.std.proofs.lemmas.Int.{ints}
use Rattle.std.proofs.lemmas.Bool.{and_parts, and_from}
use Rattle.std.proofs.lemmas.List.Folds.{list_all-append}
use Rattle.sb_fraction.specs.Spots.{Vector}
use Rattle.sb_model.specs.Frames.{sum_of}
use Rattle.sb_solid.specs.declared.points.axes.Coordinate.{Coordinate}
use Rattle.sb_solid.specs.declared.points.axes.Coordinate.TheVariants as coordinate
use Rattle.sb_solid.specs.Steps.{coordinate_of}
use Rattle.sb_solid.specs.Solids.{Extruded, ends_of, world_points, each_coordinate}
use Rattle.sb_solid.specs.Judged.{numbers_in}

-- the test passes at every point of every loop
abbrev pub every : {X : Type 0} → (X → Bool) → List (List X) → Bool
every test loops = list_all (list_all test) loops

all-same : {X : Type 0} (f g : X → Bool) → ((x : X) → f x ≡ g x) → (xs : List X) → list_all f xs ≡ list_all g xs
all-same f g each [] = refl
all-same f g each (x ∷ xs) = ap₂ (λ s t. s && t) (each x) (all-same f g each xs)

pub every-same : {X : Type 0} (f g : X → Bool) → ((x : X) → f x ≡ g x) → (loops : List (List X))
    → every f loops ≡ every g loops
every-same f g each loops = all-same (list_all f) (list_all g) (all-same f g each) loops

four : (a b c d : Bool) → ((a && b) && (c && d)) ≡ ((a && c) && (b && d))
four true true c d = refl
four true false true d = refl
four true false false d = refl
four false b c d = refl

all-and : {X : Type 0} (f g : X → Bool) (xs : List X) → list_all (λ x. f x && g x) xs ≡ (list_all f xs && list_all g xs)
all-and f g [] = refl
all-and f g (x ∷ xs) =
    ap (λ t. (f x && g x) && t) (all-and f g xs) ∙ four (f x) (g x) (list_all f xs) (list_all g xs)

pub every-and : {X : Type 0} (f g : X → Bool) (loops : List (List X))
    → every (λ x. f x && g x) loops ≡ (every f loops && every g loops)
every-and f g loops =
    all-same (list_all (λ x. f x && g x)) (λ l. list_all f l && list_all g l) (all-and f g) loops
    ∙ all-and (list_all f) (list_all g) loops

all-flat : {X Y : Type 0} (test : Y → Bool) (f : X → List Y) (xs : List X)
    → list_all test (flat_map f xs) ≡ list_all (λ x. list_all test (f x)) xs
all-flat test f [] = refl
all-flat test f (x ∷ xs) =
    list_all-append test (f x) (flat_map f xs) ∙ ap (λ t. list_all test (f x) && t) (all-flat test f xs)

all-map : {X Y : Type 0} (test : Y → Bool) (f : X → Y) (xs : List X)
    → list_all test (map f xs) ≡ list_all (λ x. test (f x)) xs
all-map test f [] = refl
all-map test f (x ∷ xs) = ap (λ t. test (f x) && t) (all-map test f xs)

-- the coordinates of loops along an axis
pub numbers-every : (c : Coordinate) (test : ℤ → Bool) (loops : List (List Vector))
    → list_all test (numbers_in c loops) ≡ every (λ p. test (coordinate_of c p)) loops
numbers-every c test loops =
    all-flat test (map (coordinate_of c)) loops
    ∙ all-same (λ l. list_all test (map (coordinate_of c) l)) (list_all (λ p. test (coordinate_of c p)))
    (all-map test (coordinate_of c)) loops

-- ---- both ends of each point

rearranged : (a b c d e f : Bool)
    → ((a && (b && c)) && ((d && (e && f)) && true)) ≡ ((a && d) && ((b && e) && (c && f)))
rearranged false b c d e f = refl
rearranged true false c true e f = refl
rearranged true false c false e f = refl
rearranged true true false true true f = refl
rearranged true true false true false f = refl
rearranged true true false false e f = refl
rearranged true true true true true true = refl
rearranged true true true true true false = refl
rearranged true true true true false f = refl
rearranged true true true false e f = refl

-- a number passes at both ends
abbrev pub at_both : (ℤ → Bool) → ℤ → ℤ → ℤ → Bool
at_both test shift way n = test (n +ℤ shift) && test (n +ℤ (way +ℤ shift))

-- so does a point
abbrev pub at_ends : (ℤ → Bool) → Vector → Vector → Vector → Bool
at_ends test shift way p =
    at_both test shift.x way.x p.x && (at_both test shift.y way.y p.y && at_both test shift.z way.z p.z)

further : (test : ℤ → Bool) (n w s : ℤ) → test ((n +ℤ w) +ℤ s) ≡ test (n +ℤ (w +ℤ s))
further test n w s = ap test (omega (arith, ints))

ends-each : (test : ℤ → Bool) (way shift p : Vector)
    → list_all (each_coordinate test) (ends_of way shift p) ≡ at_ends test shift way p
ends-each test way shift p =
    ap (λ t. each_coordinate test (sum_of p shift) && (t && true))
    (ap₂ (λ s t. s && t) (further test p.x way.x shift.x)
    (ap₂ (λ s t. s && t) (further test p.y way.y shift.y) (further test p.z way.z shift.z)))
    ∙ rearranged (test (p.x +ℤ shift.x)) (test (p.y +ℤ shift.y)) (test (p.z +ℤ shift.z))
    (test (p.x +ℤ (way.x +ℤ shift.x))) (test (p.y +ℤ (way.y +ℤ shift.y))) (test (p.z +ℤ (way.z +ℤ shift.z)))

-- all world coordinates pass where each point does at both ends
pub world-every : (test : ℤ → Bool) (e : Extruded) (shift : Vector)
    → list_all (each_coordinate test) (world_points e shift) ≡ every (at_ends test shift e.way) e.loops
world-every test e shift =
    all-flat (each_coordinate test) (λ loop. flat_map (ends_of e.way shift) loop) e.loops
    ∙ all-same (λ loop. list_all (each_coordinate test) (flat_map (ends_of e.way shift) loop))
    (list_all (at_ends test shift e.way))
    (λ loop.
    all-flat (each_coordinate test) (ends_of e.way shift) loop
    ∙ all-same (λ p. list_all (each_coordinate test) (ends_of e.way shift p)) (at_ends test shift e.way)
    (ends-each test e.way shift) loop) e.loops

-- the coordinates of an axis pass at both ends
abbrev pub along_passes : (ℤ → Bool) → Coordinate → ℤ → ℤ → List (List Vector) → Bool
along_passes test c shift way loops =
    list_all (λ n. test (n +ℤ shift)) (numbers_in c loops) && list_all (λ n. test (n +ℤ (way +ℤ shift))) (numbers_in c loops)

along-every : (test : ℤ → Bool) (c : Coordinate) (shift way : ℤ) (loops : List (List Vector))
    → along_passes test c shift way loops ≡ every (λ p. at_both test shift way (coordinate_of c p)) loops
along-every test c shift way loops =
    ap₂ (λ s t. s && t) (numbers-every c (λ n. test (n +ℤ shift)) loops)
    (numbers-every c (λ n. test (n +ℤ (way +ℤ shift))) loops)
    ∙ sym (every-and (λ p. test (coordinate_of c p +ℤ shift)) (λ p. test (coordinate_of c p +ℤ (way +ℤ shift))) loops)

-- all world coordinates pass where those of each axis do
pub world-along : (test : ℤ → Bool) (e : Extruded) (shift : Vector)
    → list_all (each_coordinate test) (world_points e shift)
    ≡ (along_passes test coordinate.X shift.x e.way.x e.loops
    && (along_passes test coordinate.Y shift.y e.way.y e.loops
    && along_passes test coordinate.Z shift.z e.way.z e.loops))
world-along test e shift =
    world-every test e shift
    ∙ every-and (λ p. at_both test shift.x e.way.x p.x)
    (λ p. at_both test shift.y e.way.y p.y && at_both test shift.z e.way.z p.z) e.loops
    ∙ ap₂ (λ s t. s && t) (sym (along-every test coordinate.X shift.x e.way.x e.loops))
    (every-and (λ p. at_both test shift.y e.way.y p.y) (λ p. at_both test shift.z e.way.z p.z) e.loops
    ∙ ap₂ (λ s t. s && t) (sym (along-every test coordinate.Y shift.y e.way.y e.loops))
    (sym (along-every test coordinate.Z shift.z e.way.z e.loops)))

-- ---- maps that agree where a test passes

map-where : {X Y : Type 0} (test : X → Bool) (f g : X → Y) → ((x : X) → test x ≡ true → f x ≡ g x)
    → (xs : List X) → list_all test xs ≡ true → map f xs ≡ map g xs
map-where test f g each [] all = refl
map-where test f g each (x ∷ xs) all =
    let parts = and_parts (test x) (list_all test xs) all in
    ap₂ (λ s t. s ∷ t) (each x parts.0) (map-where test f g each xs parts.1)

pub maps-where : {X Y : Type 0} (test : X → Bool) (f g : X → Y) → ((x : X) → test x ≡ true → f x ≡ g x)
    → (loops : List (List X)) → every test loops ≡ true → map (map f) loops ≡ map (map g) loops
maps-where test f g each [] all = refl
maps-where test f g each (l ∷ loops) all =
    let parts = and_parts (list_all test l) (every test loops) all in
    ap₂ (λ s t. s ∷ t) (map-where test f g each l parts.0) (maps-where test f g each loops parts.1)

-- a test that follows from another
all-from : {X : Type 0} (f g : X → Bool) → ((x : X) → f x ≡ true → g x ≡ true) → (xs : List X)
    → list_all f xs ≡ true → list_all g xs ≡ true
all-from f g each [] all = refl
all-from f g each (x ∷ xs) all =
    let parts = and_parts (f x) (list_all f xs) all in
    and_from (g x) (list_all g xs) (each x parts.0) (all-from f g each xs parts.1)

pub every-from : {X : Type 0} (f g : X → Bool) → ((x : X) → f x ≡ true → g x ≡ true)
    → (loops : List (List X)) → every f loops ≡ true → every g loops ≡ true
every-from f g each loops all = all-from (list_all f) (list_all g) (all-from f g each) loops all

pub every-map : {X Y : Type 0} (test : Y → Bool) (f : X → Y) (loops : List (List X))
    → every test (map (map f) loops) ≡ every (λ x. test (f x)) loops
every-map test f [] = refl
every-map test f (l ∷ loops) = ap₂ (λ s t. s && t) (all-map test f l) (every-map test f loops)
