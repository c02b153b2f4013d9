use Rattle.sb_step.proofs.Names.{Some, None, subst, IsIndexed, IsDoubledIn}
use Rattle.sb_step.proofs.Collecting.FilesAreHeld.{doubled_is, held_of}
use Rattle.sb_step.proofs.indexing.found.Goals as goal

pub file_text-text-requires : goal.file_text-text-requires
file_text-text-requires c = (c.requires.file, c.requires.is)

pub returns-in-Some : goal.returns-in-Some
returns-in-Some c =
    doubled_is c.requires c.deref.ensures.value c.in-Ok.ensures c.in-Some.number
    (subst (IsDoubledIn (Some c.in-Some.number)) c.deref-2.ensures.value c.in-Some.ensures)

pub invariant_of-result : goal.invariant_of-result
invariant_of-result c =
    held_of c.requires c.deref.ensures.value c.in-Ok.ensures
    c.file_text-text.result.bytes.now c.file_text-text.ensures
    c.one_file_or_one_fault.ensures.one_file c.file_text-text.result.described
    (subst (IsDoubledIn None) c.deref-2.ensures.value c.in-None.ensures)

pub returns : goal.returns
returns c =
    subst (λ i. IsIndexed i (record {
      input = c.file_text-text.result.bytes.now;
      file = c.file_text-text.result.described.0;
    })) c.file_text-text.ensures
    (held_of c.requires c.deref.ensures.value c.in-Ok.ensures
    c.file_text-text.result.bytes.now c.file_text-text.ensures
    c.one_file_or_one_fault.ensures.one_file c.file_text-text.result.described
    (subst (IsDoubledIn None) c.deref-2.ensures.value c.in-None.ensures)).is
