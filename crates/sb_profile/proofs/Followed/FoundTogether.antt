-- What is found of an instance as the one entity that its keyword names is what is found at a place where
-- others are wanted too.
use Rattle.std.proofs.Common.{◌≡◌, ℕ, Bool, true, false, ◌||◌, List, [], ◌++◌, Option, Some, None, refl, sym, ap, ◌∙◌, subst, append-nil, Result, Ok, Err}
use Rattle.std.specs.Prelude.{OnOk, codes}
use Rattle.std.specs.Option.{option_map_or}
use Rattle.std.specs.Str.{bytes_eq}
use Rattle.std.specs.declared.alloc.AllocError.{AllocError}
use Rattle.std.proofs.lemmas.Bool.{false≢true}
use Rattle.sb_step.specs.Indexed.{Indexed}
use Rattle.sb_schema.specs.Table.{Values}
use Rattle.sb_profile.specs.declared.following.found.Found.{Found}
use Rattle.sb_profile.specs.declared.following.places.Place.{Place}
use Rattle.sb_profile.specs.declared.following.places.Place.TheVariants as place
use Rattle.sb_profile.specs.Entities.{Entity, row_of}
use Rattle.sb_profile.specs.Entities.Entity.{shape_representation}
use Rattle.sb_profile.specs.Contents.{Contents, Says, is_unfit}
use Rattle.sb_profile.specs.Lowest.{lower_if}
use Rattle.sb_profile.specs.Following.{Lead, from}
use Rattle.sb_profile.specs.Steps.Found.{FindsAs, FindsOnly, Finds, AreBodies, leads_with, is_unfit_at}
use Rattle.sb_profile.proofs.TablesOfFiles.ViewsAreSights.{giver_is_fit}

-- ---- one of two or three that leads on, or is unfit

pub first_of_two : (a b : List Lead) → b ≡ [] → a ≡ a ++ b
first_of_two a b none = sym (ap (λ ls. a ++ ls) none ∙ append-nil a)

pub second_of_two : (a b : List Lead) → a ≡ [] → b ≡ a ++ b
second_of_two a b none = sym (ap (λ ls. ls ++ b) none)

pub first_of_three : (a b d : List Lead) → b ≡ [] → d ≡ [] → a ≡ a ++ b ++ d
first_of_three a b d no_b no_d = first_of_two a b no_b ∙ first_of_two (a ++ b) d no_d

pub second_of_three : (a b d : List Lead) → a ≡ [] → d ≡ [] → b ≡ a ++ b ++ d
second_of_three a b d no_a no_d = second_of_two a b no_a ∙ first_of_two (a ++ b) d no_d

pub third_of_three : (a b d : List Lead) → a ≡ [] → b ≡ [] → d ≡ a ++ b ++ d
third_of_three a b d no_a no_b =
    second_of_two (a ++ b) d (ap (λ ls. ls ++ b) no_a ∙ no_b)

pub first_alone : (a b : Bool) → b ≡ false → a ≡ (a || b)
first_alone true b none = refl
first_alone false b none = sym none

pub second_alone : (a b : Bool) → a ≡ false → b ≡ (a || b)
second_alone a b none = sym (ap (λ k. k || b) none)

pub neither : (a b : Bool) → a ≡ false → b ≡ false → (a || b) ≡ false
neither a b no_a no_b = ap (λ k. k || b) no_a ∙ no_b

-- nothing follows
pub from_nothing : {A : Type 0} (o : Option A) → from o (λ _. []) ≡ []
from_nothing None = refl
from_nothing (Some a) = refl

pub from_none : {A : Type 0} (o : Option A) (follow : A → List Lead) → o ≡ None → from o follow ≡ []
from_none o follow none = ap (λ v. from v follow) none

-- ---- what is found at a place

pub found_as_one : (bodies : ℕ → Bool) (c : Contents) (at : Place) (n : ℕ) (e : Entity)
    (follow : Values (row_of e).read → List Lead) (old new : Found) → FindsAs e follow c n old new
    → from (c.given e n) follow ≡ leads_with bodies c at n → is_unfit c e n ≡ is_unfit_at c at n
    → Finds bodies c at n old new
found_as_one bodies c at n e follow old new as_one leads unfit = record {
  leads_are = as_one.leads_are ∙ ap (λ ls. old.leads.items ++ ls) leads;
  unfit_is = as_one.unfit_is ∙ ap (λ b. lower_if b n old.unfit) unfit;
  absent_is = as_one.absent_is;
}

-- at the place the instance leads on, and is unfit, as this one entity alone
pub record IsAlone (bodies : ℕ → Bool) (c : Contents) (at : Place) (e : Entity) (n : ℕ)
    (follow : Values (row_of e).read → List Lead) : Type 0 where
  pub leads : from (c.given e n) follow ≡ leads_with bodies c at n
  pub unfit : is_unfit c e n ≡ is_unfit_at c at n

-- where nothing follows at a place
pub found_last : (bodies : ℕ → Bool) (indexed : Indexed) (at last : Place) (e : Entity) (n : ℕ)
    (old new : Found) (result : Result (Unit {0}) AllocError) → at ≡ last
    → ((c : Contents) → [] ≡ leads_with bodies c last n)
    → ((c : Contents) → is_unfit c e n ≡ is_unfit_at c last n)
    → OnOk result ((c : Contents) → Says indexed c → FindsOnly e c n old new)
    → OnOk result ((c : Contents) → Says indexed c → Finds bodies c at n old new)
found_last bodies indexed at last e n old new (Ok done) is nothing unfit only = λ c says.
    let found = only c says in
    subst (λ p. Finds bodies c p n old new) (sym is) (record {
      leads_are = found.leads_are ∙ ap (λ ls. old.leads.items ++ ls) (nothing c);
      unfit_is = found.unfit_is ∙ ap (λ b. lower_if b n old.unfit) (unfit c);
      absent_is = found.absent_is;
    })
found_last bodies indexed at last e n old new (Err failed) is nothing unfit only = only

-- where the instance is looked at as the one entity that its keyword names
pub found_by_keyword : (bodies : ℕ → Bool) (indexed : Indexed) (at : Place) (e : Entity) (n : ℕ)
    (follow : Values (row_of e).read → List Lead) (old new : Found)
    (result : Result (Unit {0}) AllocError)
    → ((c : Contents) → Says indexed c → IsAlone bodies c at e n follow)
    → OnOk result ((c : Contents) → Says indexed c → FindsAs e follow c n old new)
    → OnOk result ((c : Contents) → Says indexed c → Finds bodies c at n old new)
found_by_keyword bodies indexed at e n follow old new (Ok done) alone found = λ c says.
    let one = alone c says in
    found_as_one bodies c at n e follow old new (found c says) one.leads one.unfit
found_by_keyword bodies indexed at e n follow old new (Err failed) alone found = found

-- what is said whatever the bodies are is said where they are bodies
pub whatever_bodies : (bodies : ℕ → Bool) (indexed : Indexed) (at : Place) (n : ℕ) (old new : Found)
    (result : Result (Unit {0}) AllocError)
    → OnOk result ((c : Contents) → Says indexed c → Finds bodies c at n old new)
    → OnOk result ((c : Contents) → Says indexed c → AreBodies c bodies → Finds bodies c at n old new)
whatever_bodies bodies indexed at n old new (Ok done) found = λ c says are. found c says
whatever_bodies bodies indexed at n old new (Err failed) found = found

-- a body is a representation of its row, and nothing more is found of it
pub body_is_found : (bodies : ℕ → Bool) (indexed : Indexed) (c : Contents) (n : ℕ) (found : Found)
    → Says indexed c → AreBodies c bodies → bodies n ≡ true
    → Finds bodies c place.Representation n found found
body_is_found bodies indexed c n found says are body =
    by_given (c.given shape_representation n) refl
  where
    by_given : (o : Option (Values (row_of shape_representation).read))
        → c.given shape_representation n ≡ o
        → Finds bodies c place.Representation n found found
    by_given None none =
        absurd (false≢true
        (sym (ap (λ o. option_map_or
        (λ (v : Values (row_of shape_representation).read).
        option_map_or (bytes_eq (codes "Body")) v.0 false) o false) none) ∙ are n body))
    by_given (Some v) given =
        let fit = giver_is_fit shape_representation indexed c n v says given in
        record {
          leads_are = sym (append-nil found.leads.items);
          unfit_is = sym (ap (λ b. lower_if b n found.unfit) fit.0);
          absent_is = sym (ap (λ b. lower_if b n found.absent) fit.1);
        }
