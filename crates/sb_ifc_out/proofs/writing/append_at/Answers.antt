-- The boundary at a place has the lines of its place, and its space's names are kept.
use Rattle.std.proofs.Common.{◌∙◌, ap, length, Some, ◌++◌, ◌+◌, arith}
use Rattle.std.proofs.lemmas.Option.{get_or_from_slice_get}
use Rattle.sb_ifc_out.proofs.LinesOfFaces.{lines_placed}
use Rattle.sb_ifc_out.proofs.NamedInModel.{are_named}
use Rattle.sb_ifc_out.proofs.OutlinesOfLists.{outlines_length, outline_is}
use Rattle.sb_ifc_out.proofs.NamesKept.{kept_for, kept_again}
use Rattle.sb_ifc_out.proofs.writing.append_at.Goals as goal

pub names_of-names-requires : goal.names_of-names-requires
names_of-names-requires c =
    rw c.bytes.ensures
    (kept_for c.args.model.now c.space_of-space.result.now
    c.boundary_at-boundary.result.now.patch.face.space c.args.names c.requires.kept
    c.space_of-space.ensures.value)

pub relation_of-requires : goal.relation_of-requires
relation_of-requires c =
    let b = c.boundary_at-boundary.result.now in
    let named = are_named c.args.model.now (length c.args.bounds.now) b
    (c.boundary_at-boundary.ensures.of_model c.args.model.now c.requires.of_model) in
    record { within = rw c.requires.count named.parent }

pub relation_of-requires-2 : goal.relation_of-requires-2
relation_of-requires-2 c =
    let b = c.boundary_at-boundary.result.now in
    let named = are_named c.args.model.now (length c.args.bounds.now) b
    (c.boundary_at-boundary.ensures.of_model c.args.model.now c.requires.of_model) in
    record { within = rw c.requires.count named.pair }

pub append_boundary-requires-clause-face : goal.append_boundary-requires-clause-face
append_boundary-requires-clause-face c =
    let b = c.boundary_at-boundary.result.now in
    let named = are_named c.args.model.now (length c.args.bounds.now) b
    (c.boundary_at-boundary.ensures.of_model c.args.model.now c.requires.of_model) in
    named.face

pub append_boundary-requires-clause-names : goal.append_boundary-requires-clause-names
append_boundary-requires-clause-names c = rw c.bytes.ensures at c.names_of-names.ensures.holds

pub append_boundary-requires-clause-fits : goal.append_boundary-requires-clause-fits
append_boundary-requires-clause-fits c =
    let last = rw c.boundary_at-boundary.ensures.value at c.requires.last in
    let fits = rw (get_or_from_slice_get c.args.relations.now c.args.index _ 0 last) at
    (c.type_inv.relations c.args.index) in
    omega (arith, fits)

pub returns-clause-kept : goal.returns-clause-kept
returns-clause-kept c =
    kept_again c.args.model.now c.space_of-space.result.now
    c.boundary_at-boundary.result.now.patch.face.space c.bytes.result.now c.names_of-names.result
    c.names_of-names.ensures c.bytes.ensures c.space_of-space.ensures.value

pub returns-clause-lines : goal.returns-clause-lines
returns-clause-lines c = λ f is.
    let m = c.args.model.now in
    let s = c.space_of-space.result.now in
    let b = c.boundary_at-boundary.result.now in
    let placed = lines_placed m f s c.relation_of.result c.relation_of-2.result c.args.before
    (c.args.index + 1) b c.space_of-space.ensures.value (c.relation_of.ensures f is)
    (c.relation_of-2.ensures f is) in
    rw c.boundary_at-boundary.ensures.value
    (ap Some (c.in_ok-append_boundary.ensures ∙ ap (λ t. c.args.text.now ++ t) placed))

pub outline_at-requires : goal.outline_at-requires
outline_at-requires c =
    let long = outlines_length c.args.model.now c.args.bounds.now c.args.outlines.now
    c.requires.outlines in
    omega (arith, long, c.requires.within)

pub append_boundary-requires-clause-corners : goal.append_boundary-requires-clause-corners
append_boundary-requires-clause-corners c =
    outline_is c.args.model.now c.args.bounds.now c.args.outlines.now c.args.index
    c.boundary_at-boundary.result.now c.outline_at.result.now c.requires.outlines
    c.boundary_at-boundary.ensures.value c.outline_at.ensures
