-- A file has one position of each number, and one chain from each placement upwards.
use Rattle.std.proofs.Common.{◌≡◌, ℕ, ◌-◌, ◌<◌, Bool, false, List, [], ◌∷◌, Option, Some, None, arith, refl, sym, ap, ◌∙◌, subst}
use Rattle.std.proofs.lemmas.Bool.{false≢true}
use Rattle.sb_step.specs.Indexed.{Indexed}
use Rattle.sb_step.specs.Params.Parameters.{ParametersAreUnique}
use Rattle.sb_schema.specs.Rows as rows
use Rattle.sb_schema.specs.Table.{Row, Values, values}
use Rattle.sb_schema.specs.Views.{IsMissing, IsOther, Gives}
use Rattle.sb_place.specs.declared.sight.Seen.{Seen}
use Rattle.sb_place.specs.declared.sight.Seen.TheVariants as seen
use Rattle.sb_place.specs.declared.position.Position.{Position}
use Rattle.sb_place.specs.Sight.{Sees}
use Rattle.sb_place.specs.Directions.{Coordinates}
use Rattle.sb_place.specs.Positions.{IsPoint, IsDirection, IsDirectionWhere, in_plan, in_plan_where, ShowsInSpace, ShowsInPlan, IsSpacePosition}
use Rattle.sb_place.specs.Chains.{Link, Stops, IsChain, IsLost, ShowsNext, ShowsPlacement, is_at}
use Rattle.sb_place.specs.Laws.{SpacePositionsAreUnique, PlanPositionsAreUnique, ChainsAreUnique}

-- ---- what is seen of an instance

-- a row gives one thing of it
gives_one : ParametersAreUnique → (row : Row) (indexed : Indexed) (n : ℕ)
    (a b : Option (Values row.read)) → Gives row indexed n a → Gives row indexed n b → a ≡ b
gives_one unique row indexed n a b first second =
    sym first.give
    ∙ ap (values row) (unique indexed n first.parameters second.parameters first.are second.are)
    ∙ second.give

missing_gives_none : (row : Row) (indexed : Indexed) (n : ℕ) (a : Option (Values row.read))
    → IsMissing indexed n → Gives row indexed n a → ⊥
missing_gives_none row indexed n a missing gives = let found = gives.are.found in absurd (cc)

missing_is_not_other : (keywords : List (List ℕ)) (indexed : Indexed) (n : ℕ) → IsMissing indexed n
    → IsOther keywords indexed n → ⊥
missing_is_not_other keywords indexed n missing other = let found = other.found in absurd (cc)

other_gives_none : (row : Row) (indexed : Indexed) (n : ℕ) (a : Option (Values row.read))
    → IsOther row.keywords indexed n → Gives row indexed n a → ⊥
other_gives_none row indexed n a other gives = false≢true (sym other.keyword ∙ gives.keyword)

some_is_not_none : (row : Row) (a : Values row.read) → None ≡ Some a → ⊥
some_is_not_none row a e = cc e

-- where one thing is shown, one thing is seen
sees_one : ParametersAreUnique → (row : Row) (indexed : Indexed) (n : ℕ) {V : Type 0}
    (shows : V → Type 0) (s t : Seen V)
    → ((v : V) → shows v → (vs : Values row.read) × Gives row indexed n (Some vs))
    → ((v w : V) → shows v → shows w → v ≡ w) → Sees row indexed n shows s → Sees row indexed n shows t
    → s ≡ t
sees_one unique row indexed n shows (seen.Absent a) (seen.Absent b) gives same x y =
    ap seen.Absent (x.0 ∙ sym y.0)
sees_one unique row indexed n shows (seen.Absent a) (seen.Broken b) gives same x y =
    absurd (missing_gives_none row indexed n None x.1 y.1)
sees_one unique row indexed n shows (seen.Absent a) seen.Other gives same x y =
    absurd (missing_is_not_other row.keywords indexed n x.1 y)
sees_one unique row indexed n shows (seen.Absent a) (seen.Shown w) gives same x y =
    absurd (missing_gives_none row indexed n (Some (gives w y).0) x.1 (gives w y).1)
sees_one unique row indexed n shows (seen.Broken a) (seen.Absent b) gives same x y =
    absurd (missing_gives_none row indexed n None y.1 x.1)
sees_one unique row indexed n shows (seen.Broken a) (seen.Broken b) gives same x y =
    ap seen.Broken (x.0 ∙ sym y.0)
sees_one unique row indexed n shows (seen.Broken a) seen.Other gives same x y =
    absurd (other_gives_none row indexed n None y x.1)
sees_one unique row indexed n shows (seen.Broken a) (seen.Shown w) gives same x y =
    absurd (some_is_not_none row (gives w y).0
    (gives_one unique row indexed n None (Some (gives w y).0) x.1 (gives w y).1))
sees_one unique row indexed n shows seen.Other (seen.Absent b) gives same x y =
    absurd (missing_is_not_other row.keywords indexed n y.1 x)
sees_one unique row indexed n shows seen.Other (seen.Broken b) gives same x y =
    absurd (other_gives_none row indexed n None x y.1)
sees_one unique row indexed n shows seen.Other seen.Other gives same x y = refl
sees_one unique row indexed n shows seen.Other (seen.Shown w) gives same x y =
    absurd (other_gives_none row indexed n (Some (gives w y).0) x (gives w y).1)
sees_one unique row indexed n shows (seen.Shown v) (seen.Absent b) gives same x y =
    absurd (missing_gives_none row indexed n (Some (gives v x).0) y.1 (gives v x).1)
sees_one unique row indexed n shows (seen.Shown v) (seen.Broken b) gives same x y =
    absurd (some_is_not_none row (gives v x).0
    (gives_one unique row indexed n None (Some (gives v x).0) y.1 (gives v x).1))
sees_one unique row indexed n shows (seen.Shown v) seen.Other gives same x y =
    absurd (other_gives_none row indexed n (Some (gives v x).0) y (gives v x).1)
sees_one unique row indexed n shows (seen.Shown v) (seen.Shown w) gives same x y =
    ap seen.Shown (same v w x y)

-- ---- points, directions and positions

-- the pair that is there, and this one where none is
abbrev pair_or : {X Y : Type 0} → X × Y → Option (X × Y) → X × Y
pair_or p None = p
pair_or p (Some q) = q

only_of : {X : Type 0} (v w : X)
    → ◌≡◌ {A = Option (X × Unit {0})} (Some (v, tt)) (Some (w, tt)) → v ≡ w
only_of v w e = ap (λ o. (pair_or (v, tt) o).0) e

one_point : ParametersAreUnique → (indexed : Indexed) (n : ℕ) (s t : Seen Coordinates)
    → IsPoint indexed n s → IsPoint indexed n t → s ≡ t
one_point unique indexed n s t x y =
    sees_one unique rows.cartesian_point indexed n
    (λ (v : Coordinates). Gives rows.cartesian_point indexed n (Some (v, tt))) s t
    (λ v gives. ((v, tt), gives))
    (λ v w first second.
    only_of v w (gives_one unique rows.cartesian_point indexed n (Some (v, tt)) (Some (w, tt)) first second))
    x y

one_direction : ParametersAreUnique → (indexed : Indexed) (n : ℕ) (s t : Seen Coordinates)
    → IsDirection indexed n s → IsDirection indexed n t → s ≡ t
one_direction unique indexed n s t x y =
    sees_one unique rows.direction indexed n
    (λ (v : Coordinates). Gives rows.direction indexed n (Some (v, tt))) s t
    (λ v gives. ((v, tt), gives))
    (λ v w first second.
    only_of v w (gives_one unique rows.direction indexed n (Some (v, tt)) (Some (w, tt)) first second))
    x y

one_direction_where : ParametersAreUnique → (indexed : Indexed) (n : Option ℕ)
    (s t : Option (Seen Coordinates)) → IsDirectionWhere indexed n s → IsDirectionWhere indexed n t
    → s ≡ t
one_direction_where unique indexed None None None x y = refl
one_direction_where unique indexed (Some n) (Some s) (Some t) x y =
    ap Some (one_direction unique indexed n s t x y)
one_direction_where unique indexed None (Some s) t x y = absurd x
one_direction_where unique indexed None None (Some t) x y = absurd y
one_direction_where unique indexed (Some n) None t x y = absurd x
one_direction_where unique indexed (Some n) (Some s) None x y = absurd y

same_position : (p q : Position) → p.location ≡ q.location → p.axis ≡ q.axis
    → p.reference ≡ q.reference → p ≡ q
same_position p q first second third =
    ap (λ l. record { location = l; axis = p.axis; reference = p.reference }) first
    ∙ ap (λ a. record { location = q.location; axis = a; reference = p.reference }) second
    ∙ ap (λ r. record { location = q.location; axis = q.axis; reference = r }) third

first_of : {X Y : Type 0} (a c : X) (b d : Y) → ◌≡◌ {A = Option (X × Y)} (Some (a, b)) (Some (c, d))
    → a ≡ c
first_of a c b d e = ap (λ o. (pair_or (a, b) o).0) e

rest_of : {X Y : Type 0} (a c : X) (b d : Y) → ◌≡◌ {A = Option (X × Y)} (Some (a, b)) (Some (c, d))
    → ◌≡◌ {A = Option Y} (Some b) (Some d)
rest_of a c b d e = ap (λ o. Some (pair_or (a, b) o).1) e

one_in_space : ParametersAreUnique → (indexed : Indexed) (n : ℕ) (p q : Position)
    → ShowsInSpace indexed n p → ShowsInSpace indexed n q → p ≡ q
one_in_space unique indexed n p q x y =
    let all = gives_one unique rows.axis2_placement_3d indexed n
    (Some (x.point, (x.axis_at, (x.reference_at, tt)))) (Some (y.point, (y.axis_at, (y.reference_at, tt))))
    x.gives y.gives in
    let later = rest_of x.point y.point (x.axis_at, (x.reference_at, tt)) (y.axis_at, (y.reference_at, tt)) all in
    let last = rest_of x.axis_at y.axis_at (x.reference_at, tt) (y.reference_at, tt) later in
    let point = first_of x.point y.point (x.axis_at, (x.reference_at, tt)) (y.axis_at, (y.reference_at, tt)) all in
    let axis_at = first_of x.axis_at y.axis_at (x.reference_at, tt) (y.reference_at, tt) later in
    let reference_at = only_of x.reference_at y.reference_at last in
    same_position p q
    (one_point unique indexed y.point p.location q.location
    (subst (λ k. IsPoint indexed k p.location) point x.location) y.location)
    (one_direction_where unique indexed y.axis_at p.axis q.axis
    (subst (λ k. IsDirectionWhere indexed k p.axis) axis_at x.axis) y.axis)
    (one_direction_where unique indexed y.reference_at p.reference q.reference
    (subst (λ k. IsDirectionWhere indexed k p.reference) reference_at x.reference) y.reference)

one_in_plan : ParametersAreUnique → (indexed : Indexed) (n : ℕ) (p q : Position)
    → ShowsInPlan indexed n p → ShowsInPlan indexed n q → p ≡ q
one_in_plan unique indexed n p q x y =
    let all = gives_one unique rows.axis2_placement_2d indexed n
    (Some (x.point, (x.reference_at, tt))) (Some (y.point, (y.reference_at, tt))) x.gives y.gives in
    let point = first_of x.point y.point (x.reference_at, tt) (y.reference_at, tt) all in
    let reference_at = only_of x.reference_at y.reference_at
    (rest_of x.point y.point (x.reference_at, tt) (y.reference_at, tt) all) in
    same_position p q
    (x.location_in_plan
    ∙ ap in_plan (one_point unique indexed y.point x.whole_location y.whole_location
    (subst (λ k. IsPoint indexed k x.whole_location) point x.location) y.location)
    ∙ sym y.location_in_plan)
    (x.no_axis ∙ sym y.no_axis)
    (x.reference_in_plan
    ∙ ap in_plan_where (one_direction_where unique indexed y.reference_at x.whole_reference y.whole_reference
    (subst (λ k. IsDirectionWhere indexed k x.whole_reference) reference_at x.reference) y.reference)
    ∙ sym y.reference_in_plan)

pub space_positions_are_unique : ParametersAreUnique → SpacePositionsAreUnique
space_positions_are_unique unique indexed n s t x y =
    sees_one unique rows.axis2_placement_3d indexed n (ShowsInSpace indexed n) s t
    (λ p shows. ((shows.point, (shows.axis_at, (shows.reference_at, tt))), shows.gives))
    (one_in_space unique indexed n) x y

pub plan_positions_are_unique : ParametersAreUnique → PlanPositionsAreUnique
plan_positions_are_unique unique indexed n s t x y =
    sees_one unique rows.axis2_placement_2d indexed n (ShowsInPlan indexed n) s t
    (λ p shows. ((shows.point, (shows.reference_at, tt)), shows.gives))
    (one_in_plan unique indexed n) x y

-- ---- chains

-- a placement that is shown has its attributes and its position
seen_next : (indexed : Indexed) (n : ℕ) (claim : Option ℕ → Type 0) (l : Link) (last : Type 0)
    → ShowsNext indexed n claim l last
    → Sees rows.local_placement indexed n (ShowsPlacement indexed n (λ _. Unit {0})) l
seen_next indexed n claim (seen.Shown s) last shows = record {
  relative_to = shows.relative_to;
  axes = shows.axes;
  gives = shows.gives;
  position = shows.position;
  above = tt;
}
seen_next indexed n claim (seen.Absent m) last shows = shows.0
seen_next indexed n claim (seen.Broken m) last shows = shows.0
seen_next indexed n claim seen.Other last shows = shows.0

one_placement : ParametersAreUnique → (indexed : Indexed) (n : ℕ) (s t : Seen Position)
    → ShowsPlacement indexed n (λ _. Unit {0}) s → ShowsPlacement indexed n (λ _. Unit {0}) t → s ≡ t
one_placement unique indexed n s t x y =
    let all = gives_one unique rows.local_placement indexed n (Some (x.relative_to, (x.axes, tt)))
    (Some (y.relative_to, (y.axes, tt))) x.gives y.gives in
    let axes = only_of x.axes y.axes
    (rest_of x.relative_to y.relative_to (x.axes, tt) (y.axes, tt) all) in
    space_positions_are_unique unique indexed y.axes s t
    (subst (λ k. IsSpacePosition indexed k s) axes x.position) y.position

one_link : ParametersAreUnique → (indexed : Indexed) (n : ℕ) (l m : Link)
    → Sees rows.local_placement indexed n (ShowsPlacement indexed n (λ _. Unit {0})) l
    → Sees rows.local_placement indexed n (ShowsPlacement indexed n (λ _. Unit {0})) m → l ≡ m
one_link unique indexed n l m x y =
    sees_one unique rows.local_placement indexed n (ShowsPlacement indexed n (λ _. Unit {0})) l m
    (λ s shows. ((shows.relative_to, (shows.axes, tt)), shows.gives))
    (one_placement unique indexed n) x y

-- where nothing follows two chains are alike
lost_alike : (links others : List Link) (reached other : Bool) → IsLost links reached → IsLost others other
    → (links ≡ others) × (reached ≡ other)
lost_alike links others reached other x y = (x.0 ∙ sym y.0, x.1 ∙ sym y.1)

-- two chains above one placement are one
one_above : ParametersAreUnique → (indexed : Indexed) (n : ℕ) (first second : Option ℕ → Type 0)
    (l : Link) (links others : List Link) (reached other : Bool)
    → ((above : Option ℕ) → first above → second above → (links ≡ others) × (reached ≡ other))
    → ShowsNext indexed n first l (IsLost links reached)
    → ShowsNext indexed n second l (IsLost others other) → (links ≡ others) × (reached ≡ other)
one_above unique indexed n first second (seen.Shown s) links others reached other above x y =
    let all = gives_one unique rows.local_placement indexed n (Some (x.relative_to, (x.axes, tt)))
    (Some (y.relative_to, (y.axes, tt))) x.gives y.gives in
    let relative_to = first_of x.relative_to y.relative_to (x.axes, tt) (y.axes, tt) all in
    above y.relative_to (subst first relative_to x.above) y.above
one_above unique indexed n first second (seen.Absent m) links others reached other above x y =
    lost_alike links others reached other x.1 y.1
one_above unique indexed n first second (seen.Broken m) links others reached other above x y =
    lost_alike links others reached other x.1 y.1
one_above unique indexed n first second seen.Other links others reached other above x y =
    lost_alike links others reached other x.1 y.1

-- where a chain stops no placement follows
stops_apart : (building : Option ℕ) (left : ℕ) (from : Option ℕ) (reached : Bool) (n : ℕ)
    → Stops building left from reached → from ≡ Some n → is_at building n ≡ false → 0 < left → ⊥
stops_apart building left None reached n stops is apart more = cc
stops_apart building left (Some m) reached n stops is apart more =
    let same : m ≡ n = cc in
    let none : left ≡ 0 = stops.1 (stops.0 ∙ ap (is_at building) same ∙ apart) in
    omega (arith, none, more)

one_end : (building : Option ℕ) (left : ℕ) (from : Option ℕ) (reached other : Bool)
    → Stops building left from reached → Stops building left from other → reached ≡ other
one_end building left None reached other x y = x ∙ sym y
one_end building left (Some n) reached other x y = x.0 ∙ sym y.0

pub chains_are_unique : ParametersAreUnique → ChainsAreUnique
chains_are_unique unique indexed building left from [] [] reached other x y =
    (refl, one_end building left from reached other x y)
chains_are_unique unique indexed building left from [] (m ∷ others) reached other x y =
    absurd (stops_apart building left from reached y.0 x y.1 y.2 y.3)
chains_are_unique unique indexed building left from (l ∷ links) [] reached other x y =
    absurd (stops_apart building left from other x.0 y x.1 x.2 x.3)
chains_are_unique unique indexed building left from (l ∷ links) (m ∷ others) reached other x y =
    let named : Some x.0 ≡ Some y.0 = sym x.1 ∙ y.1 in
    let here : x.0 ≡ y.0 = cc in
    let again = subst (λ k. ShowsNext indexed k (λ above. IsChain indexed building (left - 1) above links reached) l
    (IsLost links reached)) here x.4 in
    let same = one_link unique indexed y.0 l m
    (seen_next indexed y.0 (λ above. IsChain indexed building (left - 1) above links reached) l
    (IsLost links reached) again)
    (seen_next indexed y.0 (λ above. IsChain indexed building (left - 1) above others other) m
    (IsLost others other) y.4) in
    let tails = one_above unique indexed y.0
    (λ above. IsChain indexed building (left - 1) above links reached)
    (λ above. IsChain indexed building (left - 1) above others other) m links others reached other
    (λ above upper next.
    chains_are_unique unique indexed building (left - 1) above links others reached other upper next)
    (subst (λ k. ShowsNext indexed y.0 (λ above. IsChain indexed building (left - 1) above links reached) k
    (IsLost links reached)) same again)
    y.4 in
    (ap (λ k. k ∷ links) same ∙ ap (λ ls. m ∷ ls) tails.0, tails.1)
