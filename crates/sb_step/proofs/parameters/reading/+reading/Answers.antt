use Rattle.sb_step.proofs.Names.{sym, arith, IfOk-weaker, lexeme_at}
use Rattle.sb_lex.specs.declared.kinds.Mark.TheVariants as mark
use Rattle.sb_step.proofs.KindsSay.{mark_says}
use Rattle.sb_step.proofs.ParameterLists.ListsAreRead.{list_has_next, list_begins, item_awaited, item_less, next_awaited, list_goes_on, list_ends}
use Rattle.sb_step.proofs.ParameterLists.ParametersByToken.{list_awaited, reads_list, is_a_value, reads_value, opens_next, first_next, c_is, first_is, less_left, inner_awaited, closes_next, reads_typed}
use Rattle.sb_step.proofs.parameters.reading.+reading.Goals as goal

pub list-next-token-requires : goal.list-next-token-requires
list-next-token-requires t c = list_has_next c.args.lexer.now c.requires.awaits

pub list-items-init : goal.list-items-init
list-items-init t c =
    list_begins c.next-token.ensures c.requires.input c.new-items.result c.new-items.ensures

pub list-parameter-requires : goal.list-parameter-requires
list-parameter-requires t c =
    let read = c.items.invariant in
    let awaited = item_awaited read (sym c.items-test.ensures) c.requires.awaits in
    (omega (arith, c.decreases, item_less read), (read.input_is, (read.token, awaited)))

pub list-next_item-token-requires : goal.list-next_item-token-requires
list-next_item-token-requires t c =
    next_awaited c.items.invariant c.in_ok-parameter.ensures (sym c.items-test.ensures)
    c.requires.awaits

pub list-items-preserved : goal.list-items-preserved
list-items-preserved t c =
    list_goes_on c.items.invariant c.in_ok-parameter.ensures c.next_item-token.ensures
    c.push.new.self c.in_ok-push.ensures.ok (sym c.items-test.ensures)

pub list-returns : goal.list-returns
list-returns t c = list_ends c.items.invariant (sym c.items-test.ensures)

pub parameter-list-requires : goal.parameter-list-requires
parameter-list-requires t c = (
  omega (arith, c.decreases),
  (
    c.requires.input,
    list_awaited c.args.lexer.now (lexeme_at c.args.bytes.now c.args.first)
        (mark_says mark.Open c.args.first.kind (sym c.if-is_open.ensures)) c.requires.awaits,
  ),
)

pub parameter-value-requires-clause-value : goal.parameter-value-requires-clause-value
parameter-value-requires-clause-value t c =
    is_a_value c.args.lexer.now (lexeme_at c.args.bytes.now c.args.first)
    (sym c.if-is_keyword.ensures) (sym c.if-is_open.ensures) c.requires.awaits

pub parameter-returns-in_ok-list : goal.parameter-returns-in_ok-list
parameter-returns-in_ok-list t c =
    reads_list c.args.lexer.now c.list.new.lexer (lexeme_at c.args.bytes.now c.args.first)
    c.in_ok-list.field-0 (mark_says mark.Open c.args.first.kind (sym c.if-is_open.ensures))
    c.in_ok-list.ensures

pub parameter-returns-else-is_open : goal.parameter-returns-else-is_open
parameter-returns-else-is_open t c =
    IfOk-weaker c.value.result _ _
    (λ p says. reads_value c.args.lexer.now (lexeme_at c.args.bytes.now c.args.first)
    (sym c.if-is_keyword.ensures) (sym c.if-is_open.ensures) p says)
    c.value.ensures

pub typed-next-opens-requires : goal.typed-next-opens-requires
typed-next-opens-requires t c =
    opens_next c.args.bytes.now (lexeme_at c.args.bytes.now c.args.keyword) c.requires.keyword
    c.args.lexer.now c.requires.input c.requires.awaits

pub typed-next-first-requires : goal.typed-next-first-requires
typed-next-first-requires t c =
    first_next c.args.bytes.now (lexeme_at c.args.bytes.now c.args.keyword) c.requires.keyword
    c.args.lexer.now c.requires.input c.next-opens.ensures c.requires.awaits

pub typed-parameter-requires : goal.typed-parameter-requires
typed-parameter-requires t c =
    let bytes = c.args.bytes.now in
    let x = lexeme_at bytes c.args.keyword in
    let a = c.args.lexer.now in
    let opens = c.next-opens.ensures in
    let first = c.next-first.ensures in
    let less = less_left bytes x c.requires.keyword a c.requires.input opens first in (
      omega (arith, c.decreases, less),
      (
        c_is bytes x c.requires.keyword a c.requires.input opens first,
        (
          first_is bytes x c.requires.keyword a c.requires.input opens first,
          inner_awaited bytes x c.requires.keyword a c.requires.input opens first
              c.requires.awaits,
        ),
      ),
    )

pub typed-next-closes-requires : goal.typed-next-closes-requires
typed-next-closes-requires t c =
    closes_next c.args.bytes.now (lexeme_at c.args.bytes.now c.args.keyword) c.requires.keyword
    c.args.lexer.now c.requires.input c.next-opens.ensures c.next-first.ensures
    c.in_ok-inner.ensures c.requires.awaits

pub typed-returns : goal.typed-returns
typed-returns t c =
    reads_typed c.args.bytes.now (lexeme_at c.args.bytes.now c.args.keyword) c.requires.keyword
    c.args.lexer.now c.requires.input c.next-opens.ensures c.next-first.ensures
    c.in_ok-inner.ensures c.next-closes.ensures c.in_ok-name.name c.in_ok-new.field-0
    c.in_ok-name.ensures c.in_ok-new.ensures
