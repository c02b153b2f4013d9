-- Each edge of a table reaches past its abscissa.

use Rattle.std.proofs.Common.{◌≡◌, ℕ, zero, suc, Bool, true, List, [], ◌∷◌, get_or, IsTrue, sym, subst}
use Rattle.std.specs.List.{list_all}
use Rattle.std.proofs.lemmas.Bool.{and_parts}
use Rattle.sb_fraction.specs.Bounds.{is_abscissa_size}
use Rattle.sb_fraction.specs.Orders.{is_over}
use Rattle.sb_slab.specs.declared.item.Reaching.{Reaching}
use Rattle.sb_slab.specs.Table.{Lines, is_table, item_at}

passes_at : (test : Reaching → Bool) (first : Reaching) (list : List Reaching) (i : ℕ)
    → test first ≡ true → list_all test list ≡ true → test (get_or list i first) ≡ true
passes_at test first [] zero one all = one
passes_at test first [] (suc i) one all = one
passes_at test first (r ∷ list) zero one all = (and_parts (test r) (list_all test list) all).0
passes_at test first (r ∷ list) (suc i) one all =
    passes_at test first list i one (and_parts (test r) (list_all test list) all).1

pub item_is_over : (t : Lines) (i : ℕ) → IsTrue (is_table t)
    → IsTrue (is_over t.direction (item_at t i).segment t.at)
item_is_over t i is =
    let test : Reaching → Bool = λ r. is_over t.direction r.segment t.at in
    let parts = and_parts (is_abscissa_size t.at) (list_all test (t.first ∷ t.edges)) is in
    let both = and_parts (test t.first) (list_all test t.edges) parts.1 in
    passes_at test t.first t.edges i both.0 both.1

pub table_size : (t : Lines) → IsTrue (is_table t) → IsTrue (is_abscissa_size t.at)
table_size t is =
    (and_parts (is_abscissa_size t.at)
    (list_all (λ (r : Reaching). is_over t.direction r.segment t.at) (t.first ∷ t.edges)) is).0

-- so does one that is found at a place
pub over_if_found : (t : Lines) (i : ℕ) (r : Reaching) → IsTrue (is_table t) → r ≡ item_at t i
    → IsTrue (is_over t.direction r.segment t.at)
over_if_found t i r is same =
    subst (λ (q : Reaching). IsTrue (is_over t.direction q.segment t.at)) (sym same)
    (item_is_over t i is)
