-- A table with one key more has the numbers of one key more.
use Rattle.std.proofs.Common.{◌≡◌, ℕ, suc, ◌+◌, Bool, true, false, cond, List, [], ◌∷◌, ◌++◌, length, length-append, Some, None, is_some, refl, sym, ap, ◌∙◌}
use Rattle.std.specs.Prelude.{if◌then◌else◌}
use Rattle.std.specs.Option.{unwrap_or}
use Rattle.std.specs.Cmp.{IsEquivalence}
use Rattle.std.specs.declared.cmp.Ordering.{Ordering}
use Rattle.std.specs.Ordering.{is_eq, eq_by_cmp}
use Rattle.std.specs.BTreeMap.{BTreeMap, get, btree_map_len}
use Rattle.std.proofs.lemmas.Bool.{false≢true}
use Rattle.std.proofs.lemmas.Map.Steps.{list_any_congr}
use Rattle.sb_idf_out.specs.FirstUse.{has, number_in}
use Rattle.sb_idf_out.specs.Steps.Tables.{IsNumbered, number_where}
use Rattle.sb_idf_out.proofs.NumbersStay.{number_kept, number_behind, has_behind}

module _ {K : Type 0} (same : K → K → Bool) where
  pub number_none : (ks : List K) (k : K) → has same ks k ≡ false → number_where same ks k ≡ None
  number_none ks k absent = rw absent refl

  pub number_some : (ks : List K) (k : K) (n : ℕ) → number_where same ks k ≡ Some n
      → (has same ks k ≡ true) × (n ≡ number_in same ks k)
  number_some ks k n is = by (has same ks k) refl is
    where
      by : (b : Bool) → has same ks k ≡ b → (if b then Some (number_in same ks k) else None) ≡ Some n
          → (has same ks k ≡ true) × (n ≡ number_in same ks k)
      by true there is = (there, sym (ap (λ o. unwrap_or o 0) is))
      by false there is = absurd (false≢true (ap is_some is))

  pub none_absent : (ks : List K) (k : K) → number_where same ks k ≡ None → has same ks k ≡ false
  none_absent ks k is = by (has same ks k) refl is
    where
      by : (b : Bool) → has same ks k ≡ b → (if b then Some (number_in same ks k) else None) ≡ None
          → has same ks k ≡ false
      by true there is = absurd (false≢true (sym (ap is_some is)))
      by false there is = there

module _ {K : Type 0} (same : K → K → Bool) (law : IsEquivalence same) where
  -- the number of any key among those and one more
  pub number_where_behind : (ks : List K) (k q : K) → has same ks k ≡ false
      → number_where same (ks ++ k ∷ []) q
      ≡ cond (same k q) (Some (suc (length ks))) (number_where same ks q)
  number_where_behind ks k q absent = by (same k q) (has same ks q) refl refl
    where
      by : (t h : Bool) → same k q ≡ t → has same ks q ≡ h
          → (if has same (ks ++ k ∷ []) q then Some (number_in same (ks ++ k ∷ []) q) else None)
          ≡ cond t (Some (suc (length ks))) (if h then Some (number_in same ks q) else None)
      by true true t h = absurd (false≢true (sym absent ∙ (list_any_congr law k q ks t ∙ h)))
      by true false t h =
          rw (has_behind same ks k q, h, law.symm q k, t)
          (ap Some (number_behind same ks k q (law.symm q k ∙ t) h))
      by false true t h =
          rw (has_behind same ks k q, h) (ap Some (number_kept same ks (k ∷ []) q h))
      by false false t h = rw (has_behind same ks k q, h, law.symm q k, t) refl

  pub one_key_more : (cmp : K → K → Ordering) → ((a b : K) → same a b ≡ eq_by_cmp cmp a b)
      → (ks : List K) (k : K) (n : ℕ) (old new : BTreeMap K ℕ)
      → IsNumbered same cmp ks old → has same ks k ≡ false → n ≡ suc (length ks)
      → ((q : K) → get cmp new q ≡ cond (is_eq (cmp k q)) (Some n) (get cmp old q))
      → btree_map_len new ≡ btree_map_len old + 1
      → IsNumbered same cmp (ks ++ k ∷ []) new
  one_key_more cmp ties ks k n old new before absent next updated longer = (
    longer ∙ (ap (λ l. l + 1) before.0 ∙ sym (length-append ks (k ∷ []))),
    λ q.
        updated q
        ∙ (ap (λ b. cond b (Some n) (get cmp old q)) (sym (ties k q))
        ∙ (ap (λ j. cond (same k q) (Some j) (get cmp old q)) next
        ∙ (ap (λ o. cond (same k q) (Some (suc (length ks))) o) (before.1 q)
        ∙ sym (number_where_behind ks k q absent)))),
  )
