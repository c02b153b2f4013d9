use Rattle.std.proofs.Common.{◌≡◌, ◌≤◌, ◌<◌, ℕ, List, [], ◌∷◌, false, nat_le, length, drop, ap, sym, ◌∙◌, drop-drop, arith, length-drop}
use Rattle.std.proofs.lemmas.Bool.Decides.{nat_tests}
use Rattle.std.proofs.lemmas.Bool.{false≢true}
use Rattle.sb_step.specs.declared.parameters.param.Param.{Param}
use Rattle.sb_schema.proofs.attributes.are_left.Goals as goal

-- one of these is left
one_at_least : (ps : List Param) → (ps ≡ [] → ⊥) → 1 ≤ length ps
one_at_least [] some = absurd (some (λ i. []))
one_at_least (p ∷ ps) some = omega arith

too_few : (count size : ℕ) → size < count → false ≡ nat_le count size
too_few count size less = grind (arith, nat_tests)

pub returns-then-is_done : goal.returns-then-is_done
returns-then-is_done c =
    let done = ap length (sym c.parameters.invariant.left ∙ c.is_done.ensures.0 c.if-is_done.true) in
    too_few c.args.count (length c.args.left.now)
    (omega (arith, length-drop c.parameters._passed c.args.left.now))

pub parameters-preserved : goal.parameters-preserved
parameters-preserved c = record {
  left =
      c.skip.ensures ∙ ap (drop 1) c.parameters.invariant.left
      ∙ drop-drop 1 c.parameters._passed c.args.left.now;
  within =
      let some : 1 ≤ length (drop c.parameters._passed c.args.left.now) = one_at_least (drop c.parameters._passed c.args.left.now)
      (λ none. false≢true (sym c.if-is_done.false
      ∙ c.is_done.ensures.1 (c.parameters.invariant.left ∙ none))) in
      omega (arith, length-drop c.parameters._passed c.args.left.now);
}
