use Rattle.std.proofs.Common.{◌≡◌, sym, subst, IfSome}
use Rattle.sb_model.specs.Building.{material_of}
use Rattle.sb_idf_out.specs.FirstUse.{with_new, number_in}
use Rattle.sb_idf_out.specs.Materials.{is_same_name}
use Rattle.sb_idf_out.specs.Steps.Names.{AreNames, NamesAre, IsNameNumber}
use Rattle.sb_idf_out.proofs.TablesSeen.{with_known}
use Rattle.sb_idf_out.proofs.NamesGrow.{layer_noted}
use Rattle.sb_idf_out.proofs.names.number_of_layer.Goals as goal

pub returns-in-Some : goal.returns-in-Some
returns-in-Some c =
    λ ns before.
    let m = c.args.model.now in
    let name = material_of m c.args.element c.args.layer in
    let is =
    subst (λ o. IfSome o (IsNameNumber m ns c.args.element c.args.layer)) (sym c.in-Some.ensures)
    (before.1 c.args.element c.args.layer) in (
      subst (λ l. AreNames m l c.args.names.now) (sym (with_known is_same_name ns name is.0)) before,
      is.1,
    )

pub returns-in_ok-insert-in-None : goal.returns-in_ok-insert-in-None
returns-in_ok-insert-in-None c =
    λ ns before.
    let numbered =
    subst (λ name. NamesAre (with_new is_same_name ns name) c.number_of_name.new.numbers
    × (c.in_ok-number-in-None.number ≡ number_in is_same_name ns name)) c.material.ensures
    (c.in_ok-number-in-None.ensures ns before.0) in (
      (
        numbered.0,
        layer_noted c.args.model.now ns c.args.element c.args.layer c.in_ok-number-in-None.number
            c.args.names.now.layers c.insert.new.self before.1
            (λ q. c.in_ok-insert-in-None.ensures.updates.0 q) numbered.1,
      ),
      numbered.1,
    )
