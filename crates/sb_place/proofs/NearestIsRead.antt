-- The nearest number that is at fault, and what it says of the placements that are read.
use Rattle.std.proofs.Common.{ℕ, zero, suc, ◌+◌, ◌≡◌, ◌<◌, Bool, true, false, not, ◌&&◌, ◌||◌, nat_le, List, [], ◌∷◌, ◌++◌, Option, Some, None, option_map, length, take, slice_get, if◌then◌else◌, arith, refl, sym, ap, ◌∙◌, inl, subst}
use Rattle.std.specs.Prelude.{nat_lt}
use Rattle.std.specs.List.{list_any}
use Rattle.std.proofs.lemmas.List.{take_all}
use Rattle.std.proofs.lemmas.Bool.{leb-true, le-leb}
use Rattle.theory_lists.specs.Members.{Stands}
use Rattle.sb_place.specs.declared.kept.Sighting.{Sighting}
use Rattle.sb_place.specs.declared.kept.Placed.{Placed}
use Rattle.sb_fraction.specs.declared.unit.Unit as units
use Rattle.sb_place.specs.Chains.{Link, numbers_in, is_stray, broken_of, absent_of}
use Rattle.sb_place.specs.Kept.{from_below, nearest_of, nearest, counted, below, read_of, is_reached_by, IsKept}
use Rattle.sb_place.specs.Steps.{nearest_read}
use Rattle.sb_place.specs.Judgement.{is_broken_off, IsRead}

-- ---- one placement more

-- a sighting that is less than so many placements above
abbrev keep_below : ℕ → Option Sighting → Option Sighting
keep_below k None = None
keep_below k (Some s) = if nat_le k s.above then None else Some s

none_below_zero : (s : Option Sighting) → keep_below zero s ≡ None
none_below_zero None = refl
none_below_zero (Some s) = ap (λ b. if b then None else Some s) (le-leb 0 s.above (omega arith))

kept_from_below : (k : ℕ) (ns : List ℕ) (s : Option Sighting)
    → nearest_of ns (keep_below k s) ≡ keep_below (suc k) (nearest_of ns s)
kept_from_below k (n ∷ ns) s = sym (ap (λ b. if b then None else Some here) never)
  where
    here : Sighting
    here = record { number = n; above = 0 }

    never : nat_le (suc k) 0 ≡ false
    never = grind arith
kept_from_below k [] None = refl
kept_from_below k [] (Some s) = by (nat_le k s.above) (nat_le (suc k) (s.above + 1)) same
  where
    same : nat_le k s.above ≡ nat_le (suc k) (s.above + 1)
    same = grind arith

    by : (a b : Bool) → a ≡ b
        → option_map from_below (if a then None else Some s)
        ≡ (if b then None else Some (from_below s))
    by true true e = refl
    by false false e = refl
    by true false e = absurd (cc)
    by false true e = absurd (cc)

-- of one placement less that is seen which is less far away
shorter : (of : Link → List ℕ) (k : ℕ) (links : List Link)
    → nearest of (take k links) ≡ keep_below k (nearest of (take (suc k) links))
shorter of k [] = nothing k
  where
    nothing : (k : ℕ) → nearest of (take k []) ≡ keep_below k (nearest of (take (suc k) []))
    nothing zero = refl
    nothing (suc k) = refl
shorter of zero (l ∷ links) = sym (none_below_zero (nearest of (take 1 (l ∷ links))))
shorter of (suc k) (l ∷ links) =
    ap (nearest_of (of l)) (shorter of k links)
    ∙ kept_from_below k (of l) (nearest of (take (suc k) links))

read_here : (ns : List ℕ) (s : Option Sighting)
    → nearest_of ns (keep_below 63 s) ≡ nearest_read (slice_get ns 0) s
read_here (n ∷ ns) s = refl
read_here [] None = refl
read_here [] (Some s) = by (nat_le 63 s.above)
  where
    by : (a : Bool)
        → option_map from_below (if a then None else Some s)
        ≡ (if a then None else Some (from_below s))
    by true = refl
    by false = refl

-- the nearest number of one placement more
pub nearest-below : (of : Link → List ℕ) (l : Link) (links : List Link)
    → nearest of (read_of (l ∷ links)) ≡ nearest_read (slice_get (of l) 0) (nearest of (read_of links))
nearest-below of l links =
    ap (nearest_of (of l)) (shorter of 63 links)
    ∙ read_here (of l) (nearest of (read_of links))

-- ---- what it says

stands_by : (ns rest : List ℕ) (above : Option Sighting) (s : Sighting)
    → ((t : Sighting) → above ≡ Some t → Stands t.number rest)
    → nearest_of ns above ≡ Some s → Stands s.number (ns ++ rest)
stands_by (n ∷ ns) rest above s later is =
    let same : record { number = n; above = 0 } ≡ s = cc in
    inl (sym (ap (λ t. t.number) same))
stands_by [] rest None s later is = absurd (cc)
stands_by [] rest (Some t) s later is =
    let same : from_below t ≡ s = cc in
    subst (λ n. Stands n rest) (ap (λ u. u.number) same) (later t refl)

-- the nearest number is one of them
pub nearest_stands : (of : Link → List ℕ) (links : List Link) (s : Sighting)
    → nearest of links ≡ Some s → Stands s.number (numbers_in of links)
nearest_stands of [] s is = absurd (cc)
nearest_stands of (l ∷ links) s is =
    stands_by (of l) (numbers_in of links) (nearest of links) s (nearest_stands of links) is

none_by : (ns rest : List ℕ) (above : Option Sighting) → (above ≡ None → rest ≡ [])
    → nearest_of ns above ≡ None → ns ++ rest ≡ []
none_by (n ∷ ns) rest above later is = absurd (cc)
none_by [] rest None later is = later refl
none_by [] rest (Some t) later is = absurd (cc)

-- where there is no nearest, there is none
pub nearest_none : (of : Link → List ℕ) (links : List Link) → nearest of links ≡ None
    → numbers_in of links ≡ []
nearest_none of [] is = refl
nearest_none of (l ∷ links) is =
    none_by (of l) (numbers_in of links) (nearest of links) (nearest_none of links) is

-- ---- how long the chain is

-- one placement more is counted
pub counted-below : (n : ℕ) → below (counted n) ≡ counted (suc n)
counted-below n = grind arith

-- all are read of a chain that is not too long
pub all_read : (links : List Link) → nat_le (length links) 64 ≡ true → read_of links ≡ links
all_read links few = take_all 64 links (leb-true (length links) 64 few)

stray_of : (few : Bool) (links read : List Link) (reached : Bool) → (few ≡ true → read ≡ links)
    → is_broken_off read (reached && few) ≡ (not reached || (not few || list_any is_stray links))
stray_of true links read true all = ap (λ ls. list_any is_stray ls) (all refl)
stray_of true links read false all = refl
stray_of false links read true all = refl
stray_of false links read false all = refl

-- whether the chain is broken off, by what is kept of it
pub broken_off-kept : (links : List Link) (reached : Bool)
    → is_broken_off (read_of links) (is_reached_by links reached)
    ≡ (not reached || (nat_lt 64 (counted (length links)) || list_any is_stray links))
broken_off-kept links reached =
    stray_of (nat_le (length links) 64) links (read_of links) reached (all_read links)
    ∙ ap (λ b. not reached || (b || list_any is_stray links)) (too_many (length links))
  where
    too_many : (n : ℕ) → not (nat_le n 64) ≡ nat_lt 64 (counted n)
    too_many n = grind arith

few_by : (few stray reached : Bool) → (not (reached && few) || stray) ≡ false → few ≡ true
few_by true stray reached whole = refl
few_by false stray true whole = absurd (cc)
few_by false stray false whole = absurd (cc)

-- a chain that is not broken off is not too long
pub whole_is_few : (links : List Link) (reached : Bool)
    → is_broken_off (read_of links) (is_reached_by links reached) ≡ false
    → nat_le (length links) 64 ≡ true
whole_is_few links reached whole =
    few_by (nat_le (length links) 64) (list_any is_stray (read_of links)) reached whole

-- each instance that is read is there and of its row, where none is seen that is not
pub is_read : (links : List Link) → nearest broken_of (read_of links) ≡ None
    → nearest absent_of (read_of links) ≡ None → IsRead (read_of links)
is_read links broken absent = record {
  of_rows = nearest_none broken_of (read_of links) broken;
  present = nearest_none absent_of (read_of links) absent;
}

-- whether the chain is broken off, by what is kept
pub off_by : (u : units.Unit) (links : List Link) (reached : Bool) (placed : Placed)
    → IsKept u links reached placed
    → (not placed.reached || (nat_lt 64 placed.depth || placed.stray))
    ≡ is_broken_off (read_of links) (is_reached_by links reached)
off_by u links reached placed kept =
    rw (kept.reached_is, kept.depth, kept.stray) (sym (broken_off-kept links reached))

-- fewer than are read are counted as they are
pub counted_less : (n depth : ℕ) → depth ≡ counted n → n < 64 → depth < 64
counted_less n depth is few = rw is (grind arith)
