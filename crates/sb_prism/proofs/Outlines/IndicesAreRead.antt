-- The index that a text writes, and the point that it names.
use Rattle.std.proofs.Common.{◌⊎◌, inl, inr, ◌≡◌, ℕ, zero, suc, ◌+◌, ◌-◌, ◌*◌, ◌<◌, ◌≤◌, Bool, true, false, min, List, [], ◌∷◌, ◌++◌, length, get_or, take, map, Option, Some, refl, sym, ap, ◌∙◌, arith, append-nil, if◌then◌else◌}
use Rattle.std.proofs.lemmas.Bool.{cases_lt}
use Rattle.std.proofs.lemmas.List.{get_or_past}
use Rattle.std.specs.Char.{is_ascii_digit, digit_value}
use Rattle.std.specs.Str.Parse.{digits_value}
use Rattle.std.proofs.lemmas.Int.Digits.{digits_value_push}
use Rattle.std.proofs.lemmas.List.Elements.{filter_more}
use Rattle.sb_fraction.specs.declared.unit.Unit as units
use Rattle.sb_fixed.specs.Decimals.{digits_in}
use Rattle.sb_place.specs.Directions.{Coordinates}
use Rattle.sb_solid.specs.declared.spot.Spot.{Spot}
use Rattle.sb_prism.specs.Faults.{index_of}
use Rattle.sb_prism.specs.Outlines.{point_numbered}
use Rattle.sb_prism.specs.Kept.{spot_in, no_spot, held}

-- a number that no longer grows is the number held back at the end
held_back : (number digit limit : ℕ) → min (min number limit * 10 + digit) limit ≡ min (number * 10 + digit) limit
held_back number digit limit = omega arith

-- one byte more
pub byte_more : (text : List ℕ) (i number more : ℕ) → i < length text
    → number ≡ min (digits_value 10 (digits_in (take i text))) held
    → more ≡ (if is_ascii_digit (get_or text i 0) then min (number * 10 + digit_value (get_or text i 0)) held else number)
    → more ≡ min (digits_value 10 (digits_in (take (i + 1) text))) held
byte_more text i number more within so_far grown =
    rw (filter_more is_ascii_digit text i 0 within)
    (by (is_ascii_digit (get_or text i 0)) grown)
  where
    b : ℕ
    b = get_or text i 0

    by : (is : Bool) → more ≡ (if is then min (number * 10 + digit_value b) held else number)
        → more ≡ min (digits_value 10 (digits_in (take i text) ++ (if is then b ∷ [] else []))) held
    by true more_is =
        more_is
        ∙ (ap (λ n. min (n * 10 + digit_value b) held) so_far
        ∙ (held_back (digits_value 10 (digits_in (take i text))) (digit_value b) held
        ∙ ap (λ n. min n held) (sym (digits_value_push 10 (digits_in (take i text)) b))))
    by false more_is =
        more_is ∙ (so_far ∙ ap (λ ds. min (digits_value 10 ds) held) (sym (append-nil (digits_in (take i text)))))

-- what stands at a place of a list that is made from another
mapped_at : (u : units.Unit) (points : List Coordinates) (i : ℕ)
    → get_or (map (spot_in u) points) i (Some no_spot) ≡ spot_in u (get_or points i [])
mapped_at u [] i = refl
mapped_at u (p ∷ points) zero = refl
mapped_at u (p ∷ points) (suc i) = mapped_at u points i

-- a place that is held back stands past the end of every list
pub place_is : (all : List (Option Spot)) (n place : ℕ) → length all ≤ held - 1
    → place ≡ min (n - 1) (held - 1) → get_or all place (Some no_spot) ≡ get_or all (n - 1) (Some no_spot)
place_is all n place short is = by (cases_lt (n - 1) (held - 1))
  where
    by : (n - 1 < held - 1) ⊎ (held - 1 ≤ n - 1)
        → get_or all place (Some no_spot) ≡ get_or all (n - 1) (Some no_spot)
    by (inl less) = ap (λ k. get_or all k (Some no_spot)) (omega (arith, is, less))
    by (inr more) =
        get_or_past all place (Some no_spot) (omega (arith, is, more, short))
        ∙ sym (get_or_past all (n - 1) (Some no_spot) (omega (arith, more, short)))

pub named_is : (u : units.Unit) (points : List Coordinates) (all : List (Option Spot)) (text : List ℕ) (place : ℕ)
    → length all ≤ held - 1 → place ≡ min (index_of text - 1) (held - 1) → all ≡ map (spot_in u) points
    → get_or all place (Some no_spot) ≡ spot_in u (point_numbered points text)
named_is u points all text place short is all_is =
    place_is all (index_of text) place short is
    ∙ (ap (λ xs. get_or xs (index_of text - 1) (Some no_spot)) all_is
    ∙ mapped_at u points (index_of text - 1))
