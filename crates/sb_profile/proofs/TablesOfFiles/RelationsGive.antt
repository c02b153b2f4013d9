-- Relations that give one object to another, noted one after another: the lowest that gives it to one
-- that passes counts.
use Rattle.std.proofs.Common.{◌≡◌, ℕ, nat_eq, Bool, true, false, ◌&&◌, Option, Some, None, option_map, refl, sym, ap, ◌∙◌}
use Rattle.std.specs.Prelude.{filter, option_and_then}
use Rattle.std.specs.Option.{option_map_or}
use Rattle.std.specs.List.{list_any}
use Rattle.std.specs.Ordering.{nat_cmp}
use Rattle.std.specs.BTreeSet.{contains, BTreeSet}
use Rattle.std.proofs.lemmas.Bool.{false≢true, eqb-true, eq-eqb}
use Rattle.std.specs.Prelude.{List}
use Rattle.theory_lists.proofs.Members.{one_of_any, any_stands as any_stands_at}
use Rattle.sb_step.specs.Indexed.{Indexed}
use Rattle.sb_profile.specs.declared.reading.links.Link.{Link}
use Rattle.sb_profile.specs.declared.reading.products.Shaped.{Shaped}
use Rattle.sb_profile.specs.Entities.{Entity}
use Rattle.sb_profile.specs.Contents.{Contents, Says, has_keyword}
use Rattle.sb_profile.specs.Lowest.{lowest_of}
use Rattle.sb_profile.specs.Steps.Links.{noted, noted_all, link, by_voiding, Voiding}
use Rattle.sb_profile.specs.Steps.Read.{AreTaken, target_in}
use Rattle.sb_profile.proofs.Followed.PlacesAreFollowed.{stands_filter}
use Rattle.sb_profile.proofs.TablesOfFiles.LinksAreNoted.{noted_is_lowest}
use Rattle.sb_profile.proofs.LowestOfAList.{lowest_stands}
use Rattle.sb_profile.proofs.TablesOfFiles.TablesAreRead.{two_filters, filter_same}

same_tests : (a b : Bool) → (a ≡ true → b ≡ true) → (b ≡ true → a ≡ true) → a ≡ b
same_tests true b there back = sym (there refl)
same_tests false true there back = back refl
same_tests false false there back = refl

-- the numbers of products that are taken are those that pass
pub taken_is : (c : Contents) (test : ℕ → Bool) (products : List Shaped) (numbers : BTreeSet ℕ)
    → AreTaken c test products
    → ((q : ℕ) → contains nat_cmp numbers q ≡ list_any (λ p. nat_eq q p.number) products)
    → (q : ℕ) → contains nat_cmp numbers q ≡ test q
taken_is c test products numbers taken in_numbers q =
    in_numbers q
    ∙ same_tests (list_any (λ p. nat_eq q p.number) products) (test q)
    (λ any. let one = one_of_any (λ p. nat_eq q p.number) products any in
    ap test (eqb-true q one.0.number one.1.1)
    ∙ (taken.sound one.0 one.1.0).1)
    (λ passes. let one = taken.complete q passes in
    any_stands_at (λ p. nat_eq q p.number) one.0 products one.1.0
    (eq-eqb q one.0.number (sym one.1.1)))

-- the relation gives the object to one that passes
abbrev gives_to : (ℕ → Bool) → ℕ → Voiding → Bool
gives_to test q relation = option_map_or (λ v. nat_eq q v.1.0 && test v.0) relation false

module _ (indexed : Indexed) (c : Contents) (says : Says indexed c) (e : Entity)
    (relations : ℕ → Voiding)
    (keyword : (r : ℕ) (v : ℕ × (ℕ × Unit {0})) → relations r ≡ Some v → has_keyword c e r ≡ true)
    (passed test : ℕ → Bool) (same : (n : ℕ) → passed n ≡ test n) (q : ℕ) where
  target : ℕ → ℕ
  target r = option_map_or (λ v. v.0) (relations r) 0

  steps : (r : ℕ) (found : Option Link) → by_voiding passed q r (relations r) found
      ≡ noted (gives_to passed q (relations r)) (link r (target r)) found
  unfolding target
  steps r found = by_value (relations r)
    where
      by_value : (o : Voiding) → by_voiding passed q r o found
          ≡ noted (gives_to passed q o) (link r (option_map_or (λ v. v.0) o 0)) found
      by_value None = refl
      by_value (Some v) = refl

  gives_same : (r : ℕ) → gives_to passed q (relations r) ≡ gives_to test q (relations r)
  gives_same r = by_value (relations r)
    where
      by_value : (o : Voiding) → gives_to passed q o ≡ gives_to test q o
      by_value None = refl
      by_value (Some v) = ap (λ b. nat_eq q v.1.0 && b) (same v.0)

  within : (r : ℕ) → gives_to test q (relations r) ≡ true → has_keyword c e r ≡ true
  within r gives = by_value (relations r) refl gives
    where
      by_value : (o : Voiding) → relations r ≡ o → gives_to test q o ≡ true
          → has_keyword c e r ≡ true
      by_value None is gives = absurd (false≢true gives)
      by_value (Some v) is gives = keyword r v is

  at_lowest : (o : Option ℕ)
      → lowest_of (filter (λ r. gives_to test q (relations r)) c.numbers) ≡ o
      → target_in (option_map (λ r. link r (target r)) o)
      ≡ option_and_then (λ r. option_map (λ v. v.0) (relations r)) o
  unfolding target
  at_lowest None is = refl
  at_lowest (Some r) is =
      by_value (relations r) refl
      (stands_filter (λ k. gives_to test q (relations k)) r c.numbers
      (lowest_stands (filter (λ k. gives_to test q (relations k)) c.numbers) r is)).1
    where
      by_value : (o : Voiding) → relations r ≡ o → gives_to test q o ≡ true
          → Some (option_map_or (λ v. v.0) (relations r) 0) ≡ option_map (λ v. v.0) (relations r)
      by_value None none gives = absurd (false≢true gives)
      by_value (Some v) some gives = rw some refl

  pub giving_is : target_in (noted_all (λ r found. by_voiding passed q r (relations r) found) None
      (filter (has_keyword c e) c.numbers))
      ≡ option_and_then (λ r. option_map (λ v. v.0) (relations r))
      (lowest_of (filter (λ r. gives_to test q (relations r)) c.numbers))
  giving_is =
      ap target_in
      (noted_is_lowest target (λ r found. by_voiding passed q r (relations r) found)
      (λ r. gives_to passed q (relations r)) steps (filter (has_keyword c e) c.numbers)
      ∙ ap (λ ns. option_map (λ r. link r (target r)) (lowest_of ns))
      (filter_same indexed c says (λ r. gives_to passed q (relations r))
      (λ r. gives_to test q (relations r)) (filter (has_keyword c e) c.numbers) gives_same
      ∙ two_filters indexed c says (λ r. gives_to test q (relations r)) (has_keyword c e) c.numbers
      within))
      ∙ at_lowest (lowest_of (filter (λ r. gives_to test q (relations r)) c.numbers)) refl
