-- What is kept of a chain is what is judged.
use Rattle.std.proofs.Common.{◌+◌, zero, suc, take, ap, ◌≡◌, ℕ, ◌-◌, ◌<◌, Bool, true, false, not, ◌&&◌, nat_le, List, [], ◌∷◌, length, Option, Some, None, is_some, Result, Ok, Err, IfOk, arith, refl, sym, subst}
use Rattle.std.proofs.lemmas.List.{take_all}
use Rattle.std.proofs.lemmas.Bool.{le-leb, false≢true}
use Rattle.sb_fraction.specs.declared.unit.Unit as units
use Rattle.std.specs.declared.alloc.AllocError.{AllocError}
use Rattle.sb_step.specs.Indexed.{Indexed}
use Rattle.sb_model.specs.declared.frame.Frame.{Frame}
use Rattle.sb_schema.specs.Rows as rows
use Rattle.sb_schema.specs.Views.{Gives}
use Rattle.sb_place.specs.declared.error.PlaceError.{PlaceError}
use Rattle.sb_place.specs.declared.error.PlaceError.TheVariants as place_error
use Rattle.sb_place.specs.declared.sight.Seen.{Seen}
use Rattle.sb_place.specs.declared.sight.Seen.TheVariants as seen
use Rattle.sb_place.specs.declared.position.Position.{Position}
use Rattle.sb_place.specs.declared.kept.Placed.{Placed}
use Rattle.sb_place.specs.Positions.{IsSpacePosition}
use Rattle.sb_place.specs.Chains.{Link, Stops, IsChain, IsLost, ShowsNext, is_at}
use Rattle.sb_place.specs.Judgement.{Judges, IsFrameOf}
use Rattle.sb_place.specs.Kept.{IsKept, IsKeptOf, IsPlaced, read_of, is_reached_by}

-- ---- where a chain ends

pub ends : (indexed : Indexed) (building : Option ℕ) (u : units.Unit) (left : ℕ) (from : Option ℕ)
    (reached : Bool) (placed : Placed) → Stops building left from reached
    → IsKept u [] reached placed → IsPlaced indexed building u left from placed
ends indexed building u left from reached placed stops kept = record {
  links = [];
  reached = reached;
  few = omega arith;
  chain = stops;
  kept = kept;
}

-- at a placement that is not of its row
pub ends_at : (indexed : Indexed) (building : Option ℕ) (u : units.Unit) (left n : ℕ) (l : Link)
    (placed : Placed) → is_at building n ≡ false → 0 < left
    → ShowsNext indexed n (λ above. IsChain indexed building (left - 1) above [] false) l
    (IsLost [] false)
    → IsKept u (l ∷ []) false placed → IsPlaced indexed building u left (Some n) placed
ends_at indexed building u left n l placed apart more shows kept = record {
  links = l ∷ [];
  reached = false;
  few = omega (arith, more);
  chain = (n, refl, apart, more, shows);
  kept = kept;
}

-- and where it goes on
pub goes_on : (indexed : Indexed) (building : Option ℕ) (u : units.Unit) (left n axes : ℕ)
    (relative_to : Option ℕ) (s : Seen Position) (above placed : Placed) → is_at building n ≡ false
    → 0 < left → Gives rows.local_placement indexed n (Some (relative_to, (axes, tt)))
    → IsSpacePosition indexed axes s → IsPlaced indexed building u (left - 1) relative_to above
    → ((links : List Link) (reached : Bool) → IsKept u links reached above
    → IsKept u (seen.Shown s ∷ links) reached placed)
    → IsPlaced indexed building u left (Some n) placed
goes_on indexed building u left n axes relative_to s above placed apart more gives is upper on = record {
  links = seen.Shown s ∷ upper.links;
  reached = upper.reached;
  few = let few = upper.few in omega (arith, few, more);
  chain = (
    n,
    refl,
    apart,
    more,
    record {
      relative_to = relative_to;
      axes = axes;
      gives = gives;
      position = is;
      above = upper.chain;
    },
  );
  kept = on upper.links upper.reached upper.kept;
}

-- ---- the judgement

frame_is : (indexed : Indexed) (placement building : Option ℕ) (u : units.Unit) (links : List Link)
    (reached : Bool) (result : Result Frame PlaceError)
    → IsChain indexed building 64 placement links reached → Judges u links reached result
    → IsFrameOf indexed placement building u result
frame_is indexed placement building u links reached (Ok frame) chain judges = (links, reached, chain, judges)
frame_is indexed placement building u links reached (Err place_error.Chain) chain judges = (links, reached, chain, judges)
frame_is indexed placement building u links reached (Err place_error.Turned) chain judges = (links, reached, chain, judges)
frame_is indexed placement building u links reached (Err place_error.Range) chain judges = (links, reached, chain, judges)
frame_is indexed placement building u links reached (Err (place_error.Fields n)) chain judges = (links, reached, chain, judges)
frame_is indexed placement building u links reached (Err (place_error.Missing n)) chain judges = (links, reached, chain, judges)
frame_is indexed placement building u links reached (Err place_error.NoMemory) chain judges = tt

and_true : (a b : Bool) → b ≡ true → (a && b) ≡ a
and_true true b is = is
and_true false b is = refl

-- what is kept of the placements that are read gives the frame
pub placed_is : (indexed : Indexed) (placement building : Option ℕ) (u : units.Unit) (placed : Placed)
    (result : Result Frame PlaceError) → IsPlaced indexed building u 64 placement placed
    → ((links : List Link) (reached : Bool) → IsKept u links reached placed
    → Judges u (read_of links) (is_reached_by links reached) result)
    → IsFrameOf indexed placement building u result
placed_is indexed placement building u placed result is judges =
    let few = is.few in
    frame_is indexed placement building u is.links is.reached result is.chain
    (subst (λ ls. Judges u ls is.reached result) (take_all 64 is.links few)
    (subst (λ r. Judges u (read_of is.links) r result)
    (and_true is.reached (nat_le (length is.links) 64) (le-leb (length is.links) 64 few))
    (judges is.links is.reached is.kept)))

-- ---- the calls

-- at `$`, with no building
pub no_building : (building : Option ℕ) (none : Bool) → is_some building ≡ not none
    → none ≡ not (is_some building)
no_building None true is = refl
no_building None false is = absurd (false≢true is)
no_building (Some b) false is = refl
no_building (Some b) true is = absurd (false≢true (sym is))

-- where the placement of a position was put on the chain above it
pub goes_on_if : (indexed : Indexed) (building : Option ℕ) (u : units.Unit) (left n axes : ℕ)
    (relative_to : Option ℕ) (above : Placed) (result : Result Placed AllocError)
    → is_at building n ≡ false → 0 < left
    → Gives rows.local_placement indexed n (Some (relative_to, (axes, tt)))
    → IsPlaced indexed building u (left - 1) relative_to above
    → IfOk result (λ placed. (s : Seen Position) × IsSpacePosition indexed axes s
    × ((links : List Link) (reached : Bool) → IsKept u links reached above
    → IsKept u (seen.Shown s ∷ links) reached placed))
    → IfOk result (IsPlaced indexed building u left (Some n))
goes_on_if indexed building u left n axes relative_to above (Ok placed) apart more gives upper on =
    goes_on indexed building u left n axes relative_to on.0 above placed apart more gives on.1 upper on.2
goes_on_if indexed building u left n axes relative_to above (Err e) apart more gives upper on = tt

-- ---- the placements that are read of a whole chain

whole_ends : (building from : Option ℕ) (k : ℕ) (reached : Bool) → Stops building 1 from reached
    → Stops building k from reached
whole_ends building None k reached stops = stops
whole_ends building (Some n) k reached stops =
    (stops.0, λ lost. absurd (let none : 1 ≡ 0 = stops.1 lost in omega (arith, none)))

all_there : (reached : Bool) (k : ℕ) → (reached && nat_le 0 k) ≡ reached
all_there reached k = and_true reached (nat_le 0 k) (le-leb 0 k (omega arith))

lost_by : (reached few : Bool) → few ≡ false → (reached && few) ≡ false
lost_by true few is = is
lost_by false few is = refl

none_in_none : (n : ℕ) → nat_le (suc n) 0 ≡ false
none_in_none n = grind arith

less_by_one : (n k : ℕ) → nat_le (suc n) (suc k) ≡ nat_le n k
less_by_one n k = grind arith

one_back : (n : ℕ) → suc n + 1 - 1 ≡ n + 1
one_back n = omega arith

less_one : (k : ℕ) → k ≡ suc k - 1
less_one k = omega arith

-- one placement of the whole chain, and those above it
next_of : (indexed : Indexed) (n : ℕ) (whole part : Option ℕ → Type 0) (l : Link) (last some_last : Type 0)
    → ((above : Option ℕ) → whole above → part above) → (last → some_last)
    → ShowsNext indexed n whole l last → ShowsNext indexed n part l some_last
next_of indexed n whole part (seen.Shown s) last some_last of of_last shows = record {
  relative_to = shows.relative_to;
  axes = shows.axes;
  gives = shows.gives;
  position = shows.position;
  above = of shows.relative_to shows.above;
}
next_of indexed n whole part (seen.Absent m) last some_last of of_last shows = (shows.0, of_last shows.1)
next_of indexed n whole part (seen.Broken m) last some_last of of_last shows = (shows.0, of_last shows.1)
next_of indexed n whole part seen.Other last some_last of of_last shows = (shows.0, of_last shows.1)

-- the first placements of a whole chain are those that are read
first_are_read : (indexed : Indexed) (building : Option ℕ) (k : ℕ) (from : Option ℕ) (links : List Link)
    (reached : Bool) → IsChain indexed building (length links + 1) from links reached
    → IsChain indexed building k from (take k links) (reached && nat_le (length links) k)
first_are_read indexed building k from [] reached chain =
    rw (take_all {A = Link} k [] (omega arith)) (rw (all_there reached k) (whole_ends building from k reached chain))
first_are_read indexed building zero from (l ∷ links) reached chain =
    let lost = lost_by reached (nat_le (length (l ∷ links)) 0) (none_in_none (length links)) in
    rw lost (rw chain.1 (sym chain.2, λ _. refl))
first_are_read indexed building (suc k) from (l ∷ links) reached chain = (
  chain.0,
  chain.1,
  chain.2,
  omega arith,
  next_of indexed chain.0
      (λ above. IsChain indexed building (length (l ∷ links) + 1 - 1) above links reached)
      (λ above. IsChain indexed building (suc k - 1) above (take k links) (reached && nat_le (length (l ∷ links)) (suc k)))
      l (IsLost links reached) (IsLost (take k links) (reached && nat_le (length (l ∷ links)) (suc k)))
      (λ above upper. later above (first_are_read indexed building k above links reached (whole above upper)))
      (λ last. (
        rw last.0 (take_all {A = Link} k [] (omega arith)),
        ap (λ r. r && nat_le (length (l ∷ links)) (suc k)) last.1,
      ))
      chain.4,
)
  where
    whole : (above : Option ℕ) → IsChain indexed building (length (l ∷ links) + 1 - 1) above links reached
        → IsChain indexed building (length links + 1) above links reached
    whole above upper =
        subst (λ j. IsChain indexed building j above links reached) (one_back (length links)) upper

    later : (above : Option ℕ)
        → IsChain indexed building k above (take k links) (reached && nat_le (length links) k)
        → IsChain indexed building (suc k - 1) above (take k links)
        (reached && nat_le (length (l ∷ links)) (suc k))
    later above upper =
        subst (λ j. IsChain indexed building j above (take k links)
        (reached && nat_le (length (l ∷ links)) (suc k))) (less_one k)
        (subst (λ b. IsChain indexed building k above (take k links) (reached && b))
        (sym (less_by_one (length links) k)) upper)

-- so what is judged of them is the frame
pub whole_is : (indexed : Indexed) (placement building : Option ℕ) (u : units.Unit) (placed : Placed)
    (result : Result Frame PlaceError) (is : IsKeptOf indexed building u placement placed)
    → Judges u (read_of is.links) (is_reached_by is.links is.reached) result
    → IsFrameOf indexed placement building u result
whole_is indexed placement building u placed result is judges =
    frame_is indexed placement building u (read_of is.links) (is_reached_by is.links is.reached) result
    (first_are_read indexed building 64 placement is.links is.reached is.chain) judges
