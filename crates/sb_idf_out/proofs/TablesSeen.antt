-- A table of keys that are seen as other things: the number of a thing that has one, and of one more.
use Rattle.std.proofs.Common.{◌≡◌, ℕ, suc, Bool, true, false, List, [], ◌∷◌, ◌++◌, length, map, Some, None, refl, sym, ap, ◌∙◌}
use Rattle.std.specs.declared.cmp.Ordering.{Ordering}
use Rattle.std.specs.BTreeMap.{BTreeMap}
use Rattle.std.proofs.lemmas.List.{map-append}
use Rattle.sb_idf_out.specs.FirstUse.{has, with_new, number_in}
use Rattle.sb_idf_out.specs.Steps.Tables.{IsNumbered, NumbersAs, number_where}
use Rattle.sb_idf_out.proofs.NumbersStay.{number_next}
use Rattle.sb_idf_out.proofs.NumbersTell.{has_viewed, number_viewed}
use Rattle.sb_idf_out.proofs.TablesGrow.{number_some, none_absent}

-- a list that has a thing stays as it is; one that has not gets it at its end
pub with_known : {X : Type 0} (same : X → X → Bool) (xs : List X) (x : X) → has same xs x ≡ true
    → with_new same xs x ≡ xs
with_known same xs x there = rw there refl

pub with_more : {X : Type 0} (same : X → X → Bool) (xs : List X) (x : X) → has same xs x ≡ false
    → with_new same xs x ≡ xs ++ x ∷ []
with_more same xs x absent = rw absent refl

module _ {K X : Type 0} (same : X → X → Bool) (cmp : K → K → Ordering) (view : K → X) where
  abbrev pub alike : K → K → Bool
  alike a b = same (view a) (view b)

  has_seen : (ks : List K) (xs : List X) (k : K) → map view ks ≡ xs
      → has alike ks k ≡ has same xs (view k)
  has_seen ks xs k seen = has_viewed same view ks k ∙ ap (λ l. has same l (view k)) seen

  pub known : (xs : List X) (numbers : BTreeMap K ℕ) (k : K) (n : ℕ)
      → NumbersAs alike cmp view xs numbers
      → ((ks : List K) → IsNumbered alike cmp ks numbers → Some n ≡ number_where alike ks k)
      → NumbersAs alike cmp view (with_new same xs (view k)) numbers
      × (n ≡ number_in same xs (view k))
  known xs numbers k n (ks, seen, numbered) found =
      let is = number_some alike ks k n (sym (found ks numbered)) in
      let there : has same xs (view k) ≡ true = sym (has_seen ks xs k seen) ∙ is.0 in (
        (ks, seen ∙ sym (with_known same xs (view k) there), numbered),
        is.1 ∙ (number_viewed same view ks k ∙ ap (λ l. number_in same l (view k)) seen),
      )

  pub added : (xs : List X) (old new : BTreeMap K ℕ) (k : K) (n : ℕ)
      → NumbersAs alike cmp view xs old
      → ((ks : List K) → IsNumbered alike cmp ks old → None ≡ number_where alike ks k)
      → ((ks : List K) → IsNumbered alike cmp ks old → n ≡ suc (length ks))
      → ((ks : List K) → IsNumbered alike cmp ks old → has alike ks k ≡ false → n ≡ suc (length ks)
      → IsNumbered alike cmp (ks ++ k ∷ []) new)
      → NumbersAs alike cmp view (with_new same xs (view k)) new
      × (n ≡ number_in same xs (view k))
  added xs old new k n (ks, seen, numbered) none next grown =
      let absent = none_absent alike ks k (sym (none ks numbered)) in
      let missing : has same xs (view k) ≡ false = sym (has_seen ks xs k seen) ∙ absent in (
        (
          ks ++ k ∷ [],
          map-append view ks (k ∷ [])
              ∙ (ap (λ l. l ++ view k ∷ []) seen ∙ sym (with_more same xs (view k) missing)),
          grown ks numbered absent (next ks numbered),
        ),
        next ks numbered
            ∙ (sym (number_next alike ks k absent)
            ∙ (number_viewed same view ks k ∙ ap (λ l. number_in same l (view k)) seen)),
      )
