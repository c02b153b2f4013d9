-- The closure compares the edges.
use Rattle.std.proofs.Common.{rules, ◌≡◌, refl, ◌∙◌, ap, ℕ, List, subst, IsPermutation}
use Rattle.std.specs.Ordering.{is_lt}
use Rattle.std.proofs.lemmas.Fn.{answers_by}
use Rattle.std.proofs.lemmas.List.Sorted.{ranks_by}
use Rattle.sb_slab.specs.Sorted.{numbers_to}
use Rattle.sb_slab.specs.Table.{order_of_two}
use Rattle.sb_slab.proofs.LinesInOrder.{table_total}
use Rattle.sb_slab.proofs.SortedByLines.{sorted_two}
use Rattle.sb_slab.proofs.sorting.sorted_numbers.Goals as goal

pub returns : goal.returns
returns g c =
    record {
      permuted =
          subst (λ (list : List ℕ). IsPermutation list c.sort_unstable_by.new.self.items)
          (c.in_ok-list.ensures ∙ ap numbers_to c.len.ensures.value)
          c.sort_unstable_by.ensures.permutation;
      sorted =
          sorted_two (λ i j. is_lt (order_of_two c.args.table.now i j))
          (ranks_by (table_total c.args.table.now c.len.ensures.is_table) (λ (i : ℕ). i))
          c.sort_unstable_by.new.self.items
          (c.sort_unstable_by.ensures.sorted (λ i j. is_lt (order_of_two c.args.table.now i j))
          (ranks_by (table_total c.args.table.now c.len.ensures.is_table) (λ (i : ℕ). i))
          (answers_by _ _ (λ q. q.0.now ≡ c.args.table.now) (λ f a r f' k same.
          let known : r ≡ order_of_two f.0.now a.0.now a.1.0.now = search rules in
          let kept : f'.0.now ≡ f.0.now = search rules in (
            ap is_lt known
                ∙ ap (λ t. is_lt (order_of_two t a.0.now a.1.0.now)) same,
            kept ∙ same,
          ))
          _ refl));
    }
