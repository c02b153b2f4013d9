-- The boundary at each place is one of the model.
use Rattle.std.proofs.Common.{◌≡◌, ◌∙◌, ◌≤◌, ◌+◌, ◌-◌, ℕ, List, Option, Some, Bor, slice_get, ap}
use Rattle.std.proofs.Common.{sym, arith}
use Rattle.std.specs.Option.{option_copied}
use Rattle.sb_model.specs.declared.boundary.Boundary.{Boundary}
use Rattle.sb_report.proofs.NamedInModel.{face_at}
use Rattle.sb_report.proofs.report.entry_at.Goals as goal

-- the boundary with the id i + 1 stands at place i
found_at : (bs : List Boundary) (i : ℕ) (found : Option (Bor Boundary)) (b : Bor Boundary)
    → (1 ≤ i + 1 → option_copied found ≡ slice_get bs (i + 1 - 1))
    → found ≡ Some b → slice_get bs i ≡ Some b.now
found_at bs i found b item some =
    let place : i ≡ i + 1 - 1 = omega arith in
    ap (slice_get bs) place ∙ sym (item (omega arith)) ∙ ap option_copied some

pub boundary_value-requires : goal.boundary_value-requires
boundary_value-requires c = record {
  face = face_at c.args.model.now c.args.bounds.now c.args.index _ c.requires.of_model
      (found_at _ _ _ _ c.get.ensures.item c.unwrap-boundary.ensures);
}
