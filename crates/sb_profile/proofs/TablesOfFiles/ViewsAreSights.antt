-- What a view answers is what the file says of the instance.
use Rattle.std.proofs.Common.{◌≡◌, ◌≢◌, ◌⊎◌, inl, inr, sym, ℕ, nat_eq, Bool, true, false, not, ◌&&◌, List, [], ◌∷◌, map, Option, Some, None, Result, Ok, Err, is_some, is_none, refl, ap, ◌∙◌, subst}
use Rattle.std.specs.Prelude.{option_and_then, IfOk}
use Rattle.std.specs.declared.alloc.AllocError.{AllocError}
use Rattle.std.specs.List.{list_any}
use Rattle.std.specs.Map.{lookup}
use Rattle.std.specs.Str.{bytes_eq}
use Rattle.std.proofs.lemmas.Bool.{false≢true, or_cases}
use Rattle.std.proofs.lemmas.Slice.Eq.{bytes_eq-Decides}
use Rattle.std.proofs.lemmas.Option.{same_Some}
use Rattle.sb_step.specs.declared.step_file.records.Record.{Record}
use Rattle.sb_step.specs.Indexed.{Indexed}
use Rattle.sb_step.specs.Records.Spans.{keyword_by, keyword_of}
use Rattle.sb_schema.specs.declared.error.ViewError.{ViewError}
use Rattle.sb_schema.specs.declared.error.ViewError.TheVariants as view_error
use Rattle.sb_schema.specs.Table.{Values, is_one_of}
use Rattle.sb_schema.specs.Views.{Taking, HasMemory, Views, Gives, seen}
use Rattle.sb_schema.specs.Views.Taking.{with_memory, without_memory}
use Rattle.sb_profile.specs.declared.sights.Sight.{Sight}
use Rattle.sb_profile.specs.declared.sights.Sight.TheVariants as sight
use Rattle.sb_profile.specs.Entities.{Entity, row_of}
use Rattle.sb_profile.specs.Contents.{Contents, Says, is_absent, is_unfit, has_keyword}
use Rattle.sb_profile.specs.Steps.Sights.{sight_of, Shows}

-- a number is among those of the instances exactly where one is found by it
pub any_by_lookup : (n : ℕ) (instances : List (ℕ × Record))
    → list_any (nat_eq n) (map (λ i. i.0) instances) ≡ is_some (lookup (nat_eq n) instances)
any_by_lookup n [] = refl
any_by_lookup n (i ∷ instances) = by_test (nat_eq n i.0) refl (any_by_lookup n instances)
  where
    by_test : (b : Bool) → nat_eq n i.0 ≡ b
        → list_any (nat_eq n) (map (λ i. i.0) instances) ≡ is_some (lookup (nat_eq n) instances)
        → list_any (nat_eq n) (map (λ i. i.0) (i ∷ instances))
        ≡ is_some (lookup (nat_eq n) (i ∷ instances))
    by_test true same later = rw same refl
    by_test false apart later = rw apart later

-- no value where any is refuted
none_if : {A : Type 0} (o : Option A) → ((a : A) → o ≡ Some a → ⊥) → o ≡ None
none_if None refuted = refl
none_if (Some a) refuted = absurd (refuted a refl)

-- what is not found has no keyword
pub unkeyed : (keywords : List (List ℕ)) (indexed : Indexed) (n : ℕ)
    → lookup (nat_eq n) indexed.file.instances ≡ None
    → is_one_of keywords (keyword_of indexed n) ≡ false
unkeyed keywords indexed n missing =
    ap (λ o. is_one_of keywords (option_and_then (λ r. keyword_by indexed.input r.start r.form) o))
    missing

has_memory : (taking : Taking) {V : Type 0} (r : Result V ViewError)
    → r ≢ Err view_error.NoMemory → HasMemory taking r
has_memory with_memory r other = other
has_memory without_memory r other = tt

and_false : (b : Bool) → b && false ≡ false
and_false true = refl
and_false false = refl

module _ (e : Entity) {V : Type 0} (fields : V → Values (row_of e).read) (indexed : Indexed)
    (c : Contents) (n : ℕ) (says : Says indexed c) where
  found_is : is_absent c n ≡ not (is_some (lookup (nat_eq n) indexed.file.instances))
  found_is =
      ap (λ ns. not (list_any (nat_eq n) ns)) says.numbers_are
      ∙ ap not (any_by_lookup n indexed.file.instances)

  there : (r : Record) → lookup (nat_eq n) indexed.file.instances ≡ Some r
      → is_absent c n ≡ false
  there r here = found_is ∙ ap (λ o. not (is_some o)) here

  keyword_is : (b : Bool) → is_one_of (row_of e).keywords (keyword_of indexed n) ≡ b
      → has_keyword c e n ≡ b
  keyword_is b known = ap (is_one_of (row_of e).keywords) (says.keyword_is n) ∙ known

  -- no row gives anything of an instance with another keyword
  not_given : is_one_of (row_of e).keywords (keyword_of indexed n) ≡ false → c.given e n ≡ None
  not_given other =
      none_if (c.given e n)
      (λ vs given. let gives = (says.given_is e n vs).0 given in
      let keyword = gives.keyword in cc)

  module _ (taking : Taking) (r : Result V ViewError)
      (views : Views taking (row_of e) fields indexed n r) where
    of_view : (v : V) → r ≡ Ok v → Shows e fields c n (sight.Of v)
    of_view v is =
        let memory : HasMemory taking r = has_memory taking r (λ none. let known = is in cc) in
        let gives : Gives (row_of e) indexed n (Some (fields v)) =
        (views.view (fields v) memory).0 (ap (λ q. seen fields q) is) in
        let given : c.given e n ≡ Some (fields v) = (says.given_is e n (fields v)).1 gives in
        record {
          given_is = given;
          unfit_is = ap (λ o. has_keyword c e n && is_none o) given ∙ and_false (has_keyword c e n);
          absent_is = there gives.are.record_of gives.are.found;
        }

    of_missing : (m : ℕ) → r ≡ Err (view_error.Missing m) → Shows e fields c n sight.Absent
    of_missing m is =
        let memory : HasMemory taking r = has_memory taking r (λ none. let known = is in cc) in
        let missing : lookup (nat_eq n) indexed.file.instances ≡ None =
        ((views.missing m memory).0 is).1 in
        let other = unkeyed (row_of e).keywords indexed n missing in
        record {
          given_is = not_given other;
          unfit_is = ap (λ b. b && is_none (c.given e n)) (keyword_is false other);
          absent_is = found_is ∙ ap (λ o. not (is_some o)) missing;
        }

    of_other : (m : ℕ) → r ≡ Err (view_error.Other m) → Shows e fields c n sight.Other
    of_other m is =
        let memory : HasMemory taking r = has_memory taking r (λ none. let known = is in cc) in
        let other = ((views.other m memory).0 is).1 in
        record {
          given_is = not_given other.keyword;
          unfit_is = ap (λ b. b && is_none (c.given e n)) (keyword_is false other.keyword);
          absent_is = there other.record_of other.found;
        }

    of_unfit : (m : ℕ) → r ≡ Err (view_error.Fields m) → Shows e fields c n sight.Unfit
    of_unfit m is =
        let memory : HasMemory taking r = has_memory taking r (λ none. let known = is in cc) in
        let gives = ((views.not_of_row m memory).0 is).1 in
        let none : c.given e n ≡ None =
        none_if (c.given e n)
        (λ vs given. let back : seen fields r ≡ Ok vs =
        (views.view vs memory).1 ((says.given_is e n vs).0 given) in
        let front : seen fields r ≡ Err (view_error.Fields m) = ap (λ q. seen fields q) is in
        cc) in
        record {
          given_is = none;
          unfit_is =
              ap (λ b. b && is_none (c.given e n)) (keyword_is true gives.keyword)
              ∙ ap is_none none;
          absent_is = there gives.are.record_of gives.are.found;
        }

    by_answer : (q : Result V ViewError) → r ≡ q → (s : Sight V) → sight_of q ≡ Some s
        → Shows e fields c n s
    by_answer (Ok v) is s same = subst (Shows e fields c n) (same_Some _ _ same) (of_view v is)
    by_answer (Err (view_error.Missing m)) is s same =
        subst (Shows e fields c n) (same_Some _ _ same) (of_missing m is)
    by_answer (Err (view_error.Other m)) is s same =
        subst (Shows e fields c n) (same_Some _ _ same) (of_other m is)
    by_answer (Err (view_error.Fields m)) is s same =
        subst (Shows e fields c n) (same_Some _ _ same) (of_unfit m is)
    by_answer (Err view_error.NoMemory) is s same = absurd (let none = same in cc)

-- the sight of a view is what the file says
pub shown : (e : Entity) {V : Type 0} (fields : V → Values (row_of e).read) (indexed : Indexed)
    (n : ℕ) (taking : Taking) (r : Result V ViewError) (s : Sight V)
    → Views taking (row_of e) fields indexed n r → sight_of r ≡ Some s
    → (c : Contents) → Says indexed c → Shows e fields c n s
shown e fields indexed n taking r s views same c says =
    by_answer e fields indexed c n says taking r views r refl s same

-- the same of an answer that may be want of memory
pub shown_all : (e : Entity) {V : Type 0} (fields : V → Values (row_of e).read) (indexed : Indexed)
    (n : ℕ) (taking : Taking) (r : Result V ViewError) (result : Result (Sight V) AllocError)
    → Views taking (row_of e) fields indexed n r → IfOk result (λ s. sight_of r ≡ Some s)
    → IfOk result (λ s. (c : Contents) → Says indexed c → Shows e fields c n s)
shown_all e fields indexed n taking r (Ok s) views same =
    shown e fields indexed n taking r s views same
shown_all e fields indexed n taking r (Err failed) views same = same

-- ---- what the keyword of an instance tells

-- an instance with another keyword gives nothing, and is not unfit
pub other_gives_nothing : (e : Entity) (indexed : Indexed) (c : Contents) (n : ℕ) → Says indexed c
    → has_keyword c e n ≡ false → (c.given e n ≡ None) × (is_unfit c e n ≡ false)
other_gives_nothing e indexed c n says other = (
  none_if (c.given e n)
      (λ vs given. let gives = (says.given_is e n vs).0 given in
      absurd (false≢true
      (sym other ∙ (ap (is_one_of (row_of e).keywords) (says.keyword_is n) ∙ gives.keyword)))),
  ap (λ b. b && is_none (c.given e n)) other,
)

-- one that gives anything is there, and of its row
pub giver_is_fit : (e : Entity) (indexed : Indexed) (c : Contents) (n : ℕ)
    (vs : Values (row_of e).read) → Says indexed c → c.given e n ≡ Some vs
    → (is_unfit c e n ≡ false) × (is_absent c n ≡ false)
giver_is_fit e indexed c n vs says given =
    let gives = (says.given_is e n vs).0 given in (
      ap (λ o. has_keyword c e n && is_none o) given ∙ and_false (has_keyword c e n),
      there e (λ v. v) indexed c n says gives.are.record_of gives.are.found,
    )

-- an instance with one keyword has no other
pub one_keyword : (a b : List ℕ) (w : Option (List ℕ)) → is_one_of (b ∷ []) (Some a) ≡ false
    → is_one_of (a ∷ []) w ≡ true → is_one_of (b ∷ []) w ≡ false
one_keyword a b None differ is = absurd (false≢true is)
one_keyword a b (Some w) differ is = one (or_cases (bytes_eq a w) false is)
  where
    one : (bytes_eq a w ≡ true) ⊎ (false ≡ true) → is_one_of (b ∷ []) (Some w) ≡ false
    one (inl same) =
        subst (λ k. is_one_of (b ∷ []) (Some k) ≡ false) ((bytes_eq-Decides a w).0 same) differ
    one (inr never) = absurd (false≢true never)
