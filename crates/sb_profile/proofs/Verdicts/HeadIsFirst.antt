-- The codes that are judged before any instance is looked at, and the two behind: which defect is the first.
use Rattle.std.proofs.Common.{◌≡◌, inl, inr, ℕ, ◌≤◌, Bool, true, false, List, [], ◌∷◌, Option, Some, None, is_some, option_map, refl, sym, ap, ◌∙◌, subst, arith}
use Rattle.std.specs.Prelude.{filter}
use Rattle.std.proofs.lemmas.Bool.{false≢true}
use Rattle.std.proofs.lemmas.Option.{none-some, same_Some}
use Rattle.sb_profile.specs.declared.defects.Code.{Code}
use Rattle.sb_profile.specs.declared.defects.Defect.{Defect}
use Rattle.sb_profile.specs.declared.defects.Code.TheVariants as code
use Rattle.sb_profile.specs.Contents.{Contents}
use Rattle.sb_profile.specs.Lowest.{lowest_of}
use Rattle.sb_profile.specs.Units.{unit_in}
use Rattle.sb_profile.specs.Defects.{is_ifc4, buildings, in_buildings, Occurs, file_codes}
use Rattle.sb_profile.specs.First.{defect_at, IsFirst}
use Rattle.sb_profile.specs.Steps.Kinds.{is_of_refused}
use Rattle.sb_profile.specs.Steps.Read.{AreLowest, head_codes, read_codes, head_of, read_of}
use Rattle.sb_profile.proofs.LowestOfAList.{lowest_none, lowest_is}
use Rattle.sb_profile.proofs.Verdicts.OneFirst.{earlier_first, later_follow}
use Rattle.sb_profile.proofs.Followed.PlacesAreFollowed.{stands_filter, filter_stands}

zero_least : (m : ℕ) → 0 ≤ m
zero_least m = omega arith

least_of_one : (o : Option ℕ) (m k : ℕ) → o ≡ Some m → o ≡ Some k → m ≤ k
least_of_one o m k one two =
    let e : m ≡ k = same_Some m k (sym one ∙ two) in omega arith

no_value : {A : Type 0} (o : Option A) → is_some o ≡ false → o ≡ None
no_value None is = refl
no_value (Some a) is = absurd (false≢true (sym is))

-- a defect of no instance is the first, if it occurs
of_no_instance : (Has : Code → ℕ → Type 0) (first : Code) (later : List Code) → Has first 0
    → IsFirst Has (first ∷ later) (Some (defect_at 0 first))
of_no_instance Has first later occurs =
    inl (0, (record { holds = occurs; lowest = λ m other. zero_least m }, refl))

class_is : (c : Contents) (refused : Option ℕ)
    → lowest_of (filter (is_of_refused c) c.numbers) ≡ refused
    → IsFirst (Occurs c) (code.Class ∷ []) (option_map (λ n. defect_at n code.Class) refused)
class_is c None is =
    inr (
      λ n there. lowest_none (filter (is_of_refused c) c.numbers) n is
          (filter_stands (is_of_refused c) n c.numbers there.0 there.1),
      refl,
    )
class_is c (Some m) is =
    inl (
      m,
      (
        lowest_is (Occurs c code.Class) (filter (is_of_refused c) c.numbers) m
            (λ k there. stands_filter (is_of_refused c) k c.numbers there)
            (λ k there. filter_stands (is_of_refused c) k c.numbers there.0 there.1) is,
        refl,
      ),
    )

building_is : (c : Contents) (found refused : Option ℕ) → in_buildings (buildings c) ≡ found
    → lowest_of (filter (is_of_refused c) c.numbers) ≡ refused
    → IsFirst (Occurs c) (code.Building ∷ code.Class ∷ []) (head_of true true found refused)
building_is c None refused is is_refused =
    inr (λ n there. none-some n (sym is ∙ there), class_is c refused is_refused)
building_is c (Some m) refused is is_refused =
    inl (
      m,
      (
        record {
          holds = is;
          lowest = λ k there. least_of_one (in_buildings (buildings c)) m k is there;
        },
        refl,
      ),
    )

units_is : (c : Contents) (unit : Bool) (found refused : Option ℕ) → is_some (unit_in c) ≡ unit
    → in_buildings (buildings c) ≡ found
    → lowest_of (filter (is_of_refused c) c.numbers) ≡ refused
    → IsFirst (Occurs c) (code.Units ∷ code.Building ∷ code.Class ∷ [])
    (head_of true unit found refused)
units_is c false found refused is is_found is_refused =
    of_no_instance (Occurs c) code.Units (code.Building ∷ code.Class ∷ [])
    (refl, no_value (unit_in c) is)
units_is c true found refused is is_found is_refused =
    inr (
      λ n wrong. false≢true (sym (ap is_some wrong.1) ∙ is),
      building_is c found refused is_found is_refused,
    )

pub head_is : (c : Contents) (schema unit : Bool) (found refused : Option ℕ)
    → is_ifc4 c.schema ≡ schema → is_some (unit_in c) ≡ unit → in_buildings (buildings c) ≡ found
    → lowest_of (filter (is_of_refused c) c.numbers) ≡ refused
    → IsFirst (Occurs c) head_codes (head_of schema unit found refused)
head_is c false unit found refused is is_unit is_found is_refused =
    of_no_instance (Occurs c) code.Schema (code.Units ∷ code.Building ∷ code.Class ∷ []) (refl, is)
head_is c true unit found refused is is_unit is_found is_refused =
    inr (
      λ n wrong. false≢true (sym wrong.1 ∙ is),
      units_is c unit found refused is_unit is_found is_refused,
    )

-- where the head has none the file has a unit
pub head_has_unit : (c : Contents) (found : Option Defect) → IsFirst (Occurs c) head_codes found
    → found ≡ None → unit_in c ≡ None → ⊥
head_has_unit c found (inl (n, (low, is))) nothing none = absurd (let some = sym nothing ∙ is in cc)
head_has_unit c found (inr (other, inl (n, (low, is)))) nothing none =
    absurd (let some = sym nothing ∙ is in cc)
head_has_unit c found (inr (other, inr (no_units, later))) nothing none = no_units 0 (refl, none)

-- what is read
read_is : (c : Contents) (unfit absent : Option ℕ) → AreLowest c unfit absent
    → IsFirst (Occurs c) read_codes (read_of unfit absent)
read_is c (Some n) absent are = inl (n, (are.unfit_is, refl))
read_is c None None are = inr (are.unfit_is, inr (are.absent_is, refl))
read_is c None (Some m) are = inr (are.unfit_is, inl (m, (are.absent_is, refl)))

-- a defect of the head is the first of all
pub head_first : (c : Contents) (found : Option Defect) (d : Defect)
    → IsFirst (Occurs c) head_codes found → found ≡ Some d
    → IsFirst (Occurs c) file_codes (Some d)
head_first c found d first is =
    earlier_first (Occurs c) head_codes read_codes d
    (subst (IsFirst (Occurs c) head_codes) is first)

-- where it has none that of what is read is
pub read_first : (c : Contents) (found : Option Defect) (unfit absent : Option ℕ)
    → IsFirst (Occurs c) head_codes found → found ≡ None → AreLowest c unfit absent
    → IsFirst (Occurs c) file_codes (read_of unfit absent)
read_first c found unfit absent first none are =
    later_follow (Occurs c) head_codes read_codes (read_of unfit absent)
    (subst (IsFirst (Occurs c) head_codes) none first) (read_is c unfit absent are)
