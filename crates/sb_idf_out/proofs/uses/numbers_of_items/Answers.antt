-- One item more, and at the end all.
use Rattle.std.proofs.Common.{◌≡◌, ◌<◌, ◌≤◌, ◌∙◌, ◌++◌, ◌∷◌, [], map, take, get_or, length, sym, ap, subst}
use Rattle.std.proofs.lemmas.List.{take_all}
use Rattle.sb_idf_out.specs.FirstUse.{with_all}
use Rattle.sb_idf_out.specs.Materials.{is_same_material, of_item}
use Rattle.sb_idf_out.specs.Steps.Tables.{used_numbers}
use Rattle.sb_idf_out.specs.Steps.Uses.{AreMaterials}
use Rattle.sb_idf_out.proofs.ItemsInTurn.{all_more, used_more}
use Rattle.sb_idf_out.proofs.uses.numbers_of_items.Goals as goal

pub items-preserved : goal.items-preserved
items-preserved c =
    let m = c.args.model.now in
    let xs = c.args.items.now in
    let i = c.items.item-index in
    let x = c.item-item.result in
    let all = c.as_slice-item-items.ensures in
    let within = subst (λ l. i < length l) all c.items-test.true in
    let is = subst (λ l. x ≡ get_or l i x) all c.item-item.is in (
      λ ms before.
          let now = c.items.invariant.0 ms before in
          subst (λ l. AreMaterials m l c.number_of_item.new.materials)
          (sym (all_more (of_item m) ms xs i x within is))
          (c.in_ok-number_of_item.ensures _ now).0,
      λ ms before.
          let now = c.items.invariant.0 ms before in
          c.in_ok-push.ensures.items
          ∙ (ap (λ l. l ++ c.in_ok-number_of_item.field-0 ∷ []) (c.items.invariant.1 ms before)
          ∙ (ap (λ n. used_numbers is_same_material ms (map (of_item m) (take i xs)) ++ n ∷ [])
          (c.in_ok-number_of_item.ensures _ now).1
          ∙ sym (used_more (of_item m) ms xs i x within is))),
    )

pub returns : goal.returns
returns c =
    let m = c.args.model.now in
    let past = subst (λ l. length l ≤ c.items.item-index) c.as_slice-item-items.ensures c.items-test.false in
    let whole = take_all c.items.item-index c.args.items.now past in
    record {
      materials = λ ms before.
          subst (λ l. AreMaterials m (with_all is_same_material ms (map (of_item m) l)) c.items.materials)
          whole (c.items.invariant.0 ms before);
      numbers = λ ms before.
          c.items.invariant.1 ms before
          ∙ ap (λ l. used_numbers is_same_material ms (map (of_item m) l)) whole;
    }
