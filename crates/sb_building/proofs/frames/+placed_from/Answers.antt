use Rattle.std.proofs.Common.{Some, refl, sym, ◌∙◌}
use Rattle.std.specs.Ordering.{nat_cmp}
use Rattle.std.specs.BTreeMap.{get}
use Rattle.std.proofs.lemmas.Result.{on_ok_weaker}
use Rattle.sb_place.specs.declared.sight.Seen.TheVariants as seen
use Rattle.sb_place.specs.Kept.{IsKeptOf}
use Rattle.sb_building.proofs.Known.FramesAreKnown.{kept_lost, kept_under, where_none, where_building, one_more, answered}
use Rattle.sb_building.proofs.frames.+placed_from.Goals as goal

pub returns-in_default-clause-kept : goal.returns-in_default-clause-kept
returns-in_default-clause-kept t c =
    where_none c.args.file.now c.args.building c.args.unit c.args.from c.is_none.result c.end.result
    c.in_default.is c.is_none.ensures (c.end.ensures c.args.unit)

pub returns-then-is_at-clause-kept : goal.returns-then-is_at-clause-kept
returns-then-is_at-clause-kept t c =
    where_building c.args.file.now c.args.building c.args.unit c.args.from c.in-Some.number
    c.end-then-is_at.result c.in-Some.is (sym c.is_at.ensures ∙ c.if-is_at.true)
    (c.end-then-is_at.ensures c.args.unit)

lost-in-Absent : (t : _) (c : goal.After-keep t)
    → IsKeptOf c.args.file.now c.args.building c.args.unit (Some c.in-Some.number) c.absent.result
lost-in-Absent t c =
    kept_lost c.args.file.now c.args.building c.args.unit c.in-Some.number (seen.Absent c.in-Absent.n) c.absent.result
    (sym c.is_at.ensures ∙ c.if-is_at.false)
    (rw c.in-Absent.is at c.in_ok-n.ensures, (refl, refl)) (c.absent.ensures c.args.unit)

pub returns-in-Absent-clause-kept : goal.returns-in-Absent-clause-kept
returns-in-Absent-clause-kept t c =
    answered c.args.file.now c.args.building c.args.unit c.args.from c.in-Some.number c.absent.result
    c.keep.result c.in-Some.is (lost-in-Absent t c) c.keep.ensures.value

pub returns-in-Absent-clause-known : goal.returns-in-Absent-clause-known
returns-in-Absent-clause-known t c =
    on_ok_weaker c.keep.result
    (λ new. one_more c.args.file.now c.args.building c.args.unit c.in-Some.number c.absent.result
    (get nat_cmp c.args.known.now) (get nat_cmp c.keep.new.known) c.requires new (lost-in-Absent t c))
    c.keep.ensures.known

lost-in-Broken : (t : _) (c : goal.After-keep-in-Broken t)
    → IsKeptOf c.args.file.now c.args.building c.args.unit (Some c.in-Some.number) c.broken.result
lost-in-Broken t c =
    kept_lost c.args.file.now c.args.building c.args.unit c.in-Some.number (seen.Broken c.in-Broken.n) c.broken.result
    (sym c.is_at.ensures ∙ c.if-is_at.false)
    (rw c.in-Broken.is at c.in_ok-n.ensures, (refl, refl)) (c.broken.ensures c.args.unit)

pub returns-in-Broken-clause-kept : goal.returns-in-Broken-clause-kept
returns-in-Broken-clause-kept t c =
    answered c.args.file.now c.args.building c.args.unit c.args.from c.in-Some.number c.broken.result
    c.keep-in-Broken.result c.in-Some.is (lost-in-Broken t c) c.keep-in-Broken.ensures.value

pub returns-in-Broken-clause-known : goal.returns-in-Broken-clause-known
returns-in-Broken-clause-known t c =
    on_ok_weaker c.keep-in-Broken.result
    (λ new. one_more c.args.file.now c.args.building c.args.unit c.in-Some.number c.broken.result
    (get nat_cmp c.args.known.now) (get nat_cmp c.keep-in-Broken.new.known) c.requires new (lost-in-Broken t c))
    c.keep-in-Broken.ensures.known

lost-in-Other : (t : _) (c : goal.After-keep-in-Other t)
    → IsKeptOf c.args.file.now c.args.building c.args.unit (Some c.in-Some.number) c.other.result
lost-in-Other t c =
    kept_lost c.args.file.now c.args.building c.args.unit c.in-Some.number (seen.Other) c.other.result
    (sym c.is_at.ensures ∙ c.if-is_at.false)
    (rw c.in-Other.is at c.in_ok-n.ensures, (refl, refl)) (c.other.ensures c.args.unit)

pub returns-in-Other-clause-kept : goal.returns-in-Other-clause-kept
returns-in-Other-clause-kept t c =
    answered c.args.file.now c.args.building c.args.unit c.args.from c.in-Some.number c.other.result
    c.keep-in-Other.result c.in-Some.is (lost-in-Other t c) c.keep-in-Other.ensures.value

pub returns-in-Other-clause-known : goal.returns-in-Other-clause-known
returns-in-Other-clause-known t c =
    on_ok_weaker c.keep-in-Other.result
    (λ new. one_more c.args.file.now c.args.building c.args.unit c.in-Some.number c.other.result
    (get nat_cmp c.args.known.now) (get nat_cmp c.keep-in-Other.new.known) c.requires new (lost-in-Other t c))
    c.keep-in-Other.ensures.known

under : (t : _) (c : goal.After-keep-in-Some-2 t)
    → IsKeptOf c.args.file.now c.args.building c.args.unit (Some c.in-Some.number)
    c.in_ok-placed-in-Some-2.placed
under t c =
    let (s, sees, below) = c.in_ok-placed-in-Some-2.ensures in
    kept_under c.args.file.now c.args.building c.args.unit c.in-Some.number c.in-Shown.placement.a2
    c.in-Shown.placement.a1 c.in-Some-2.above c.in_ok-placed-in-Some-2.placed s
    (sym c.is_at.ensures ∙ c.if-is_at.false) (rw c.in-Shown.is at c.in_ok-n.ensures)
    (c.in_ok-placed_from-in-Shown.ensures.kept c.in-Some-2.above c.in-Some-2.is) sees
    (below)

pub returns-in_ok-placed-in-Some-2-clause-kept : goal.returns-in_ok-placed-in-Some-2-clause-kept
returns-in_ok-placed-in-Some-2-clause-kept t c =
    answered c.args.file.now c.args.building c.args.unit c.args.from c.in-Some.number
    c.in_ok-placed-in-Some-2.placed c.keep-in-Some-2.result c.in-Some.is (under t c) c.keep-in-Some-2.ensures.value

pub returns-in_ok-placed-in-Some-2-clause-known : goal.returns-in_ok-placed-in-Some-2-clause-known
returns-in_ok-placed-in-Some-2-clause-known t c =
    on_ok_weaker c.keep-in-Some-2.result
    (λ new. one_more c.args.file.now c.args.building c.args.unit c.in-Some.number c.in_ok-placed-in-Some-2.placed
    (get nat_cmp c.placed_from.new.known) (get nat_cmp c.keep-in-Some-2.new.known)
    c.in_ok-placed_from-in-Shown.ensures.known new (under t c))
    c.keep-in-Some-2.ensures.known
