-- One boundary more, and at the end all.
use Rattle.std.proofs.Common.{◌≡◌, ◌<◌, ◌≤◌, ◌∙◌, ◌++◌, ◌+◌, length, take, sym, ap, arith}
use Rattle.std.proofs.lemmas.List.{take_all, append_assoc}
use Rattle.sb_idf_out.specs.Objects.{object_under}
use Rattle.sb_idf_out.specs.Steps.Surfaces.{objects_by}
use Rattle.sb_idf_out.proofs.ObjectsInTurn.{objects_more, some_at}
use Rattle.sb_idf_out.proofs.text.append_boundaries.Goals as goal

pub bounds-preserved : goal.bounds-preserved
bounds-preserved c =
    let m = c.args.model.now in
    let ks = c.args.numbers.now in
    let bs = c.args.bounds.now in
    let i = c.bounds.index in
    let each : length ks ≡ length bs = c.requires.each in
    let count : c.len-index-end.result ≡ length bs = c.len-index-end.ensures in
    let before : i < c.len-index-end.result = c.bounds-test.true in
    let within : i < length bs = omega arith in
    let inside : i < length ks = omega arith in
    let k = some_at ks i inside in
    let b = some_at bs i within in
    c.in_ok-append_boundary_at.ensures k.0 b.0 k.1 b.1
    ∙ (ap (λ t. t ++ object_under m k.0 (i + 1) b.0 b.0.parent) c.bounds.invariant
    ∙ (append_assoc c.args.text.now.items (objects_by m 1 (take i ks) (take i bs))
    (object_under m k.0 (i + 1) b.0 b.0.parent)
    ∙ ap (λ t. c.args.text.now.items ++ t) (sym (objects_more m ks bs i k.0 b.0 each within k.1 b.1))))

pub returns : goal.returns
returns c =
    let ks = c.args.numbers.now in
    let bs = c.args.bounds.now in
    let i = c.bounds.index in
    let each : length ks ≡ length bs = c.requires.each in
    let count : c.len-index-end.result ≡ length bs = c.len-index-end.ensures in
    let done : c.len-index-end.result ≤ i = c.bounds-test.false in
    let past : length bs ≤ i = omega arith in
    let over : length ks ≤ i = omega arith in
    c.bounds.invariant
    ∙ (λ j. c.args.text.now.items ++ objects_by c.args.model.now 1 (take_all i ks over j) (take_all i bs past j))
