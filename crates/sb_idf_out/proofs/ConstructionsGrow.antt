-- The number of a construction: of one that has a number, and of one more.
use Rattle.std.proofs.Common.{◌≡◌, ℕ, suc, ◌+◌, Bool, true, false, List, [], ◌∷◌, ◌++◌, length, Some, None, sym, ap, ◌∙◌, arith}
use Rattle.std.specs.Ordering.{nat_cmp}
use Rattle.std.specs.declared.cmp.Ordering.{Ordering}
use Rattle.std.specs.Cmp.Lexicographic.{slice_cmp}
use Rattle.std.specs.BTreeMap.{BTreeMap}
use Rattle.sb_idf_out.specs.FirstUse.{has, with_new, number_in, in_order}
use Rattle.sb_idf_out.specs.Constructions.{is_same_construction}
use Rattle.sb_idf_out.specs.Objects.{construction_object}
use Rattle.sb_idf_out.specs.Steps.Tables.{IsNumbered, number_where}
use Rattle.sb_idf_out.specs.Steps.Uses.{ConstructionsAre}
use Rattle.sb_idf_out.proofs.NumbersStay.{number_next, order_push}
use Rattle.sb_idf_out.proofs.NumbersTell.{has_viewed}
use Rattle.sb_idf_out.proofs.TablesGrow.{number_some, none_absent}
use Rattle.sb_idf_out.proofs.TablesSeen.{with_known, with_more, known, added}

abbrev pub by_items : {K : Type 0} → (K → List ℕ) → K → K → Ordering
by_items items a b = slice_cmp nat_cmp (items a) (items b)

abbrev pub same_items : {K : Type 0} → (K → List ℕ) → K → K → Bool
same_items items a b = is_same_construction (items a) (items b)

module _ {K : Type 0} (cs : List (List ℕ)) (old : BTreeMap K ℕ) where
  pub construction_known : (items : K → List ℕ) (objects : List ℕ) (k : K) (n : ℕ)
      → ConstructionsAre cs old items objects
      → ((ks : List K) → IsNumbered (same_items items) (by_items items) ks old
      → Some n ≡ number_where (same_items items) ks k)
      → ConstructionsAre (with_new is_same_construction cs (items k)) old items objects
      × (n ≡ number_in is_same_construction cs (items k))
  construction_known items objects k n (numbers, written) found =
      let is = known is_same_construction (by_items items) items cs old k n numbers found in
      let (ks, seen, numbered) = numbers in
      let one = number_some (same_items items) ks k n (sym (found ks numbered)) in
      let there : has is_same_construction cs (items k) ≡ true =
      sym (has_viewed is_same_construction items ks k
      ∙ ap (λ l. has is_same_construction l (items k)) seen) ∙ one.0 in (
        (
          is.0,
          written ∙ ap (in_order construction_object 1) (sym (with_known is_same_construction cs (items k) there)),
        ),
        is.1,
      )

  pub construction_added : (new : BTreeMap K ℕ) (items : K → List ℕ) (objects made : List ℕ) (k : K) (n : ℕ)
      → ConstructionsAre cs old items objects
      → ((ks : List K) → IsNumbered (same_items items) (by_items items) ks old
      → None ≡ number_where (same_items items) ks k)
      → ((ks : List K) → IsNumbered (same_items items) (by_items items) ks old → n ≡ suc (length ks))
      → ((ks : List K) → IsNumbered (same_items items) (by_items items) ks old
      → has (same_items items) ks k ≡ false → n ≡ suc (length ks)
      → IsNumbered (same_items items) (by_items items) (ks ++ k ∷ []) new)
      → made ≡ objects ++ construction_object n (items k)
      → ConstructionsAre (with_new is_same_construction cs (items k)) new items made
      × (n ≡ number_in is_same_construction cs (items k))
  construction_added new items objects made k n (numbers, written) none next grown is_made =
      let is = added is_same_construction (by_items items) items cs old new k n numbers none next grown in
      let (ks, seen, numbered) = numbers in
      let absent = none_absent (same_items items) ks k (sym (none ks numbered)) in
      let missing : has is_same_construction cs (items k) ≡ false =
      sym (has_viewed is_same_construction items ks k
      ∙ ap (λ l. has is_same_construction l (items k)) seen) ∙ absent in
      let count : n ≡ suc (length cs) = is.1 ∙ number_next is_same_construction cs (items k) missing in
      let place : n ≡ 1 + length cs = omega arith in (
        (
          is.0,
          is_made
              ∙ (ap (λ l. l ++ construction_object n (items k)) written
              ∙ (sym (order_push construction_object 1 cs (items k) n place)
              ∙ ap (in_order construction_object 1) (sym (with_more is_same_construction cs (items k) missing)))),
        ),
        is.1,
      )
