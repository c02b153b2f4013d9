-- The boundary at the place is one of the list's.
use Rattle.std.proofs.Common.{◌≡◌, ◌∙◌, ◌++◌, ◌+◌, get_or, length, refl, subst}
use Rattle.std.proofs.lemmas.Option.{get_or_from_slice_get, slice_get_read}
use Rattle.sb_idf_out.specs.Objects.{object_under}
use Rattle.sb_idf_out.proofs.ObjectsInTurn.{face_of_each, ok_weaker}
use Rattle.sb_idf_out.proofs.text.append_boundary_at.Goals as goal

pub append_object-requires : goal.append_object-requires
append_object-requires c =
    let bs = c.args.bounds.now in
    let i = c.args.index in
    let b = c.index-as_slice-index.result in
    let here = subst (λ l. b ≡ get_or l i b) c.as_slice.ensures c.index-as_slice-index.is in
    record {
      face = face_of_each c.args.model.now bs i b c.requires.of_model
          (slice_get_read bs (length bs) i b refl c.requires.within here);
    }

pub returns : goal.returns
returns c =
    let ks = c.args.numbers.now in
    let bs = c.args.bounds.now in
    let i = c.args.index in
    let b = c.index-as_slice-index.result in
    let here = subst (λ l. b ≡ get_or l i b) c.as_slice.ensures c.index-as_slice-index.is in
    ok_weaker c.append_object.result (λ written k a is_k is_a.
    let number = get_or_from_slice_get ks i k 0 is_k in
    let boundary = here ∙ get_or_from_slice_get bs i a b is_a in
    written
    ∙ (λ j. c.args.text.now.items
    ++ object_under c.args.model.now (number j) (i + 1) (boundary j) (boundary j).parent))
    c.append_object.ensures
