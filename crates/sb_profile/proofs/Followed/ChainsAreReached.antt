-- The placements of all chains are reached, level after level.
use Rattle.std.proofs.Common.{◌≡◌, ◌↔◌, ℕ, zero, suc, ◌+◌, ◌<◌, ◌≤◌, ◌⊎◌, inl, inr, nat_eq, Bool, true, false, ◌||◌, List, [], ◌∷◌, ◌++◌, length, get_or, take, Option, Some, None, refl, sym, ap, ◌∙◌, subst, append_assoc, arith}
use Rattle.std.specs.List.{list_any}
use Rattle.std.specs.Ordering.{nat_cmp}
use Rattle.std.specs.BTreeSet.{contains}
use Rattle.std.proofs.lemmas.Option.{same_Some}
use Rattle.std.proofs.lemmas.List.{take_more, append-nil, take-append-le, take_all, length-append, get_or_append_left}
use Rattle.std.proofs.lemmas.List.Folds.{list_any-append}
use Rattle.theory_lists.specs.Members.{Stands}
use Rattle.theory_lists.proofs.Blocks.{stands_before, stands_behind}
use Rattle.sb_profile.specs.declared.following.chains.Chain.{Chain}
use Rattle.sb_profile.specs.Contents.{Contents}
use Rattle.sb_profile.specs.Following.{below_building, parent_of, IsInChain}
use Rattle.sb_profile.specs.Steps.Chains.{IsSeen, Grows, Reaches, IsWithin, AreReached, Climbs}
use Rattle.sb_profile.proofs.ListsOfNumbers.{any_stands, stands_either, stands_here}

-- ---- one placement

-- it was there
pub found_there : (n : ℕ) (old : Chain) → IsSeen old → contains nat_cmp old.seen n ≡ true
    → Reaches (Some n) old old
found_there n old seen there = record {
  seen = seen;
  grows = record { more = []; is = sym (append-nil old.placements.items) };
  old_or_found = λ q stands. inl stands;
  has_found = λ q is. subst (λ k. Stands k old.placements.items) (same_Some n q is)
      (any_stands n old.placements.items (sym (seen n) ∙ there));
}

-- or stands behind the others now
pub found_behind : (n : ℕ) (old new : Chain) → IsSeen old
    → new.placements.items ≡ old.placements.items ++ n ∷ []
    → ((q : ℕ) → contains nat_cmp new.seen q ≡ (contains nat_cmp old.seen q || nat_eq q n))
    → Reaches (Some n) old new
found_behind n old new seen items put = record {
  seen = λ q. put q ∙ (ap (λ b. b || nat_eq q n) (seen q)
      ∙ (ap (λ b. list_any (nat_eq q) old.placements.items || b) (or_nothing (nat_eq q n))
      ∙ (sym (list_any-append (nat_eq q) old.placements.items (n ∷ []))
      ∙ ap (list_any (nat_eq q)) (sym items))));
  grows = record { more = n ∷ []; is = items };
  old_or_found = λ q stands.
      either q (stands_either q old.placements.items (n ∷ [])
      (subst (Stands q) items stands));
  has_found = λ q is. subst (Stands q) (sym items)
      (stands_behind q old.placements.items (n ∷ []) (inl (sym (same_Some n q is))));
}
  where
    or_nothing : (b : Bool) → b ≡ (b || false)
    or_nothing true = refl
    or_nothing false = refl

    either : (q : ℕ) → Stands q old.placements.items ⊎ Stands q (n ∷ [])
        → Stands q old.placements.items ⊎ (Some n ≡ Some q)
    either q (inl stands) = inl stands
    either q (inr (inl same)) = inr (ap Some (sym same))
    either q (inr (inr none)) = absurd none

-- there is none
pub found_none : (old : Chain) → IsSeen old → Reaches None old old
found_none old seen = record {
  seen = seen;
  grows = record { more = []; is = sym (append-nil old.placements.items) };
  old_or_found = λ q stands. inl stands;
  has_found = λ q is. absurd (let e = is in cc);
}

-- ---- lists that grow

pub grows_more : (old middle new : List ℕ) → Grows old middle → Grows middle new → Grows old new
grows_more old middle new first second = record {
  more = first.more ++ second.more;
  is = second.is ∙ (ap (λ ns. ns ++ second.more) first.is
      ∙ append_assoc old first.more second.more);
}

grown_stands : (n : ℕ) (old new : List ℕ) → Grows old new → Stands n old → Stands n new
grown_stands n old new grows stands =
    subst (Stands n) (sym grows.is) (stands_before n old grows.more stands)

-- the first ones stay
grown_take : (i : ℕ) (old new : List ℕ) → Grows old new → i ≤ length old → take i new ≡ take i old
grown_take i old new grows within =
    ap (take i) grows.is ∙ take-append-le i old grows.more within

pub grown_length : (old new : List ℕ) → Grows old new → length old ≤ length new
grown_length old new grows =
    let e : length new ≡ length old + length grows.more =
    ap length grows.is ∙ length-append old grows.more in
    omega arith

pub grown_here : (old new : List ℕ) (i : ℕ) → Grows old new → i < length old
    → get_or new i 0 ≡ get_or old i 0
grown_here old new i grows within =
    ap (λ ns. get_or ns i 0) grows.is ∙ get_or_append_left old grows.more 0 i within

-- those that were there are the first
pub grown_whole : (old new : List ℕ) → Grows old new → take (length old) new ≡ old
grown_whole old new grows =
    grown_take (length old) old new grows (omega arith) ∙ take_all (length old) old (omega arith)

-- ---- a level

module _ (c : Contents) (level : ℕ) (old : List ℕ) (asked : ℕ)
    (reached : AreReached c level old asked) where
  -- before any is asked for
  pub climbs_first : Climbs c level old asked
  climbs_first = record {
    sound = λ n stands. let within = reached.sound n stands in record {
      before = within.before;
      few = let few = within.few in omega arith;
      chained = within.chained;
    };
    closed = reached.closed;
  }

  -- one more
  pub climbs_more : (items new : List ℕ) (at : ℕ) (found : Option ℕ) → Grows old items
      → at < length old → Climbs c level items at
      → found ≡ below_building c (parent_of c (get_or items at 0))
      → Grows items new
      → ((q : ℕ) → Stands q new → Stands q items ⊎ (found ≡ Some q))
      → ((q : ℕ) → found ≡ Some q → Stands q new)
      → Climbs c level new (at + 1)
  climbs_more items new at found grows within climbs is grown either there = record {
    sound = λ n stands. sound_by n (either n stands);
    closed = λ m n stands parent. closed_by m n
        (stands_either m (take at items) (get_or items at 0 ∷ [])
        (subst (Stands m) taken stands))
        parent;
  }
    where
      in_items : at < length items
      in_items = let longer : length old ≤ length items = grown_length old items grows in omega arith

      asked_is_old : Stands (get_or items at 0) old
      asked_is_old =
          subst (λ k. Stands k old) (sym (grown_here old items at grows within))
          (stands_here old at within)

      taken : take (at + 1) new ≡ take at items ++ get_or items at 0 ∷ []
      taken =
          let inside = in_items in
          grown_take (at + 1) items new grown (omega arith) ∙ take_more items at 0 inside

      sound_by : (n : ℕ) → Stands n items ⊎ (found ≡ Some n) → IsWithin c (level + 1) n
      sound_by n (inl stands) = climbs.sound n stands
      sound_by n (inr some) =
          let parent = reached.sound (get_or items at 0) asked_is_old in
          record {
            before = suc parent.before;
            few = let few = parent.few in omega arith;
            chained = (get_or items at 0, (parent.chained, sym is ∙ some));
          }

      closed_by : (m n : ℕ) → Stands m (take at items) ⊎ Stands m (get_or items at 0 ∷ [])
          → below_building c (parent_of c m) ≡ Some n → Stands n new
      closed_by m n (inl before) parent =
          grown_stands n items new grown (climbs.closed m n before parent)
      closed_by m n (inr (inl same)) parent =
          there n (is ∙ (ap (λ k. below_building c (parent_of c k)) (sym same) ∙ parent))
      closed_by m n (inr (inr none)) parent = absurd none

  -- all of them
  pub climbs_all : (items : List ℕ) → Grows old items → Climbs c level items (length old)
      → AreReached c (level + 1) items (length old)
  climbs_all items grows climbs = record {
    sound = climbs.sound;
    complete = λ n within. complete_by n within.before within.few within.chained;
    closed = climbs.closed;
  }
    where
      whole : take (length old) items ≡ old
      whole = grown_whole old items grows

      from_old : (n k : ℕ) → k ≤ level → IsInChain c k n → Stands n items
      from_old n k few chained =
          grown_stands n old items grows
          (reached.complete n (record { before = k; few = few; chained = chained }))

      complete_by : (n k : ℕ) → k ≤ level + 1 → IsInChain c k n → Stands n items
      complete_by n zero few chained = from_old n zero (omega arith) chained
      complete_by n (suc k) few (m, (below, is)) =
          climbs.closed m n
          (subst (Stands m) (sym whole)
          (reached.complete m (record {
            before = k;
            few = omega arith;
            chained = below;
          })))
          is

-- ---- the first level

pub reached_first : (c : Contents) (items : List ℕ)
    → ((n : ℕ) → Stands n items ↔ IsWithin c 0 n) → AreReached c 0 items 0
reached_first c items first = record {
  sound = λ n stands. (first n).0 stands;
  complete = λ n within. (first n).1 within;
  closed = λ m n none parent. absurd none;
}

-- ---- where chains begin

pub reached_more : (xs : List ℕ) (i : ℕ) (old new : Chain) (n : ℕ) → i < length xs
    → Reaches (Some (get_or xs i 0)) old new
    → (Stands n old.placements.items ↔ Stands n (take i xs))
    → Stands n new.placements.items ↔ Stands n (take (i + 1) xs)
reached_more xs i old new n within reaches same = (
  λ stands. subst (Stands n) (sym taken) (either (reaches.old_or_found n stands)),
  λ stands. back (stands_either n (take i xs) (get_or xs i 0 ∷ []) (subst (Stands n) taken stands)),
)
  where
    taken : take (i + 1) xs ≡ take i xs ++ get_or xs i 0 ∷ []
    taken = take_more xs i 0 within

    either : Stands n old.placements.items ⊎ (Some (get_or xs i 0) ≡ Some n)
        → Stands n (take i xs ++ get_or xs i 0 ∷ [])
    either (inl there) =
        stands_before n (take i xs) (get_or xs i 0 ∷ []) (same.0 there)
    either (inr found) =
        stands_behind n (take i xs) (get_or xs i 0 ∷ []) (inl (sym (same_Some _ n found)))

    back : Stands n (take i xs) ⊎ Stands n (get_or xs i 0 ∷ []) → Stands n new.placements.items
    back (inl there) =
        grown_stands n old.placements.items new.placements.items reaches.grows (same.1 there)
    back (inr (inl here)) = reaches.has_found n (ap Some (sym here))
    back (inr (inr none)) = absurd none
