use Rattle.std.proofs.Common.{◌↔◌, [], sym, subst}
use Rattle.std.proofs.lemmas.List.{take_all}
use Rattle.theory_lists.specs.Members.{Stands}
use Rattle.sb_profile.proofs.Followed.ChainsAreReached.{reached_more}
use Rattle.sb_profile.proofs.following.leading.reached.Goals as goal

pub numbers-init : goal.numbers-init
numbers-init c = (
  c.no_chain-chain.ensures.seen,
  λ n. subst (λ ns. Stands n ns ↔ Stands n []) (sym c.no_chain-chain.ensures.items)
      (λ none. none, λ none. none),
)

pub numbers-preserved : goal.numbers-preserved
numbers-preserved c = (
  c.in_ok-add.ensures.seen,
  λ n. reached_more c.args.numbers.now c.numbers.number-index c.numbers.chain c.add.new.chain n
      c.numbers-test.true c.in_ok-add.ensures (c.numbers.invariant.1 n),
)

pub returns : goal.returns
returns c = record {
  seen = c.numbers.invariant.0;
  reached = λ n.
      subst (λ ns. Stands n c.numbers.chain.placements.items ↔ Stands n ns)
      (take_all c.numbers.number-index c.args.numbers.now c.numbers-test.false)
      (c.numbers.invariant.1 n);
}
