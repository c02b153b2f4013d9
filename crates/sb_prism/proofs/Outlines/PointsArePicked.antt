-- The points of a list that segments name, one text and one point after another.
use Rattle.std.proofs.Common.{◌≡◌, ℕ, zero, suc, ◌+◌, ◌-◌, ◌<◌, ◌≤◌, ◌||◌, Bool, true, false, List, [], ◌∷◌, length, get_or, take, drop, map, Option, Some, None, nat_eq, refl, sym, ap, ◌∙◌, subst, arith, drop-drop, get_or-drop, get_or-take, length-take-le, ◌⊎◌, inl, inr, if◌then◌else◌}
use Rattle.std.specs.Prelude.{is_some, slice_get}
use Rattle.std.specs.List.{All, flat_map, list_any}
use Rattle.std.proofs.lemmas.Bool.{eqb-true, eqb-false, eq-eqb, cases_lt}
use Rattle.std.proofs.lemmas.List.{get_or-map, get_or_default, get_or_past, length-map}
use Rattle.std.proofs.lemmas.List.Folds.{list_any-append}
use Rattle.std.proofs.lemmas.Option.{none-some, same_Some}
use Rattle.sb_fraction.specs.declared.unit.Unit as units
use Rattle.sb_place.specs.Directions.{Coordinates}
use Rattle.sb_solid.specs.declared.spot.Spot.{Spot}
use Rattle.sb_prism.specs.Outlines.{point_numbered}
use Rattle.sb_prism.specs.Kept.{spot_in, no_spot, held}
use Rattle.sb_prism.specs.Picked.{place_of, is_named, AreRead, ArePicked, Names, point_where}
use Rattle.sb_prism.proofs.Outlines.IndicesAreRead.{named_is}

abbrev Table : Type 0
Table = ℕ → Option (Option Spot)

-- ---- points that are read

-- what stands at a place of the first ones, with one more
module _ {X : Type 0} (all : List X) (at : ℕ) (d : X) (within : at < length all) where
  last_taken : get_or (take (at + 1) all) at d ≡ get_or all at d
  last_taken = get_or-take (at + 1) all at d (omega arith)

  other_taken : (q : ℕ) → (q ≡ at → ⊥) → get_or (take (at + 1) all) q d ≡ get_or (take at all) q d
  other_taken q other = by (cases_lt q at)
    where
      by : (q < at) ⊎ (at ≤ q) → get_or (take (at + 1) all) q d ≡ get_or (take at all) q d
      by (inl less) =
          get_or-take (at + 1) all q d (omega (arith, less)) ∙ sym (get_or-take at all q d less)
      by (inr more) =
          get_or_past (take (at + 1) all) q d
          (omega (arith, more, other, length-take-le (at + 1) all (omega (arith, within))))
          ∙ sym (get_or_past (take at all) q d
          (omega (arith, more, length-take-le at all (omega (arith, within)))))

some_if : (b : Bool) (v : Option Spot) → is_some (if b then Some v else None) ≡ b
some_if true v = refl
some_if false v = refl

pub one_read : (places now next : Table) (all : List (Option Spot)) (at : ℕ) (spot d : Option Spot) → at < length all
    → AreRead places (take at all) now → spot ≡ get_or all at d
    → ((q : ℕ) → next q
    ≡ (if nat_eq q at then (if is_some (now at) then Some spot else None) else now q))
    → AreRead places (take (at + 1) all) next
one_read places now next all at spot d within read spot_is next_is q =
    next_is q ∙ by (nat_eq q at) refl
  where
    there : is_some (now q) ≡ is_some (places q)
    there = ap is_some (read q) ∙ some_if (is_some (places q)) (get_or (take at all) q (Some no_spot))

    by : (b : Bool) → nat_eq q at ≡ b
        → (if b then (if is_some (now at) then Some spot else None) else now q)
        ≡ (if is_some (places q) then Some (get_or (take (at + 1) all) q (Some no_spot)) else None)
    by true same =
        ap (λ c. if c then Some spot else None) (ap (λ k. is_some (now k)) (sym (eqb-true q at same)) ∙ there)
        ∙ ap (λ s. if is_some (places q) then Some s else None)
        (spot_is
        ∙ (get_or_default all at d (Some no_spot) within
        ∙ (sym (last_taken all at (Some no_spot) within)
        ∙ ap (λ k. get_or (take (at + 1) all) k (Some no_spot)) (sym (eqb-true q at same)))))
    by false other =
        read q
        ∙ ap (λ s. if is_some (places q) then Some s else None)
        (sym (other_taken all at (Some no_spot) within q (eqb-false q at other)))

-- one point more
pub read_more : (u : units.Unit) (places now next : Table) (all rest left : List Coordinates) (at then_at : ℕ)
    (p : Coordinates) → slice_get rest 0 ≡ Some p → left ≡ drop 1 rest → then_at ≡ at + 1
    → at + length rest ≡ length all → rest ≡ drop at all
    → ((q : ℕ) → next q
    ≡ (if nat_eq q at then (if is_some (now at) then Some (spot_in u p) else None) else now q))
    → (AreRead places [] places → AreRead places (take at (map (spot_in u) all)) now)
    → (then_at + length left ≡ length all) × (left ≡ drop then_at all)
    × (AreRead places [] places → AreRead places (take then_at (map (spot_in u) all)) next)
read_more u places now next all [] left at then_at p first left_is at_is count rest_is next_is read =
    absurd (none-some p first)
read_more u places now next all (x ∷ xs) left at then_at p first left_is at_is count rest_is next_is read =
    let short : at < length all = omega (arith, count) in
    let point : get_or all at [] ≡ p =
    ap (λ k. get_or all k []) (omega arith) ∙ (sym (get_or-drop at all 0 []) ∙ (ap (λ ys. get_or ys 0 []) (sym rest_is) ∙ same_Some x p first)) in
    let spot : spot_in u p ≡ get_or (map (spot_in u) all) at None =
    ap (spot_in u) (sym point) ∙ sym (get_or-map (spot_in u) all at [] None short) in (
      omega (arith, count, at_is, ap length left_is),
      left_is ∙ (ap (drop 1) rest_is ∙ (drop-drop 1 at all ∙ ap (λ k. drop k all) (omega (arith, at_is)))),
      λ blank. subst (λ k. AreRead places (take k (map (spot_in u) all)) next) (sym at_is)
          (one_read places now next (map (spot_in u) all) at (spot_in u p) None
          (omega (arith, short, length-map all (spot_in u))) (read blank) spot next_is),
    )

-- ---- points that are named

or_right : (a b : Bool) → b ≡ true → (a || b) ≡ true
or_right true b b_is = refl
or_right false b b_is = b_is

any_at : {X : Type 0} (test : X → Bool) (xs : List X) (k : ℕ) (d : X) → k < length xs → test (get_or xs k d) ≡ true
    → list_any test xs ≡ true
any_at test [] k d within is = absurd (omega (arith, within))
any_at test (x ∷ xs) zero d within is = rw is refl
any_at test (x ∷ xs) (suc k) d within is =
    or_right (test x) (list_any test xs) (any_at test xs k d (omega (arith, within)) is)

any_flat : {X : Type 0} (test : List ℕ → Bool) (f : X → List (List ℕ)) (xs : List X) (k : ℕ) (d : X) → k < length xs
    → list_any test (f (get_or xs k d)) ≡ true → list_any test (flat_map f xs) ≡ true
any_flat test f [] k d within is = absurd (omega (arith, within))
any_flat test f (x ∷ xs) zero d within is =
    list_any-append test (f x) (flat_map f xs) ∙ rw is refl
any_flat test f (x ∷ xs) (suc k) d within is =
    list_any-append test (f x) (flat_map f xs)
    ∙ or_right (list_any test (f x)) (list_any test (flat_map f xs)) (any_flat test f xs k d (omega (arith, within)) is)

-- each text of the segments names its point
pub each_named : {X : Type 0} (u : units.Unit) (points : List Coordinates) (f : X → List (List ℕ)) (segments : List X)
    (table : Table) → length points ≤ held - 1 → ArePicked (map (spot_in u) points) (flat_map f segments) table
    → All (λ s. All (Names u points table) (f s)) segments
each_named u points f segments table short picked k d within j e below =
    let text = get_or (f (get_or segments k d)) j e in
    let named : is_named (flat_map f segments) (place_of text) ≡ true =
    any_flat (λ t. nat_eq (place_of text) (place_of t)) f segments k d within
    (any_at (λ t. nat_eq (place_of text) (place_of t)) (f (get_or segments k d)) j e below
    (eq-eqb (place_of text) (place_of text) refl)) in
    ap point_where
    (picked (place_of text)
    ∙ ap (λ b. if b then Some (get_or (map (spot_in u) points) (place_of text) (Some no_spot)) else None) named)
    ∙ named_is u points (map (spot_in u) points) text (place_of text) (omega (arith, short, length-map points (spot_in u))) refl refl

-- so does the text at a place
pub named_at : (u : units.Unit) (points : List Coordinates) (table : Table) (texts : List (List ℕ)) (i : ℕ)
    (text given : List ℕ) (spot : Option Spot) → i < length texts → text ≡ get_or texts i text → given ≡ text
    → All (Names u points table) texts → spot ≡ point_where (table (place_of given))
    → spot ≡ spot_in u (point_numbered points text)
named_at u points table texts i text given spot within is given_is names spot_is =
    spot_is
    ∙ (ap (λ t. point_where (table (place_of t))) (given_is ∙ is)
    ∙ (names i text within ∙ ap (λ t. spot_in u (point_numbered points t)) (sym is)))
