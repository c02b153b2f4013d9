-- What is kept of a solid under one turn answers for the shape in each frame of that turn.
use Rattle.std.proofs.Common.{◌≡◌, ℕ, true, ◌||◌, List, map, Ok, Err, IsTrue, refl, sym, ap, ◌∙◌, subst}
use Rattle.sb_fraction.specs.declared.unit.Unit as units
use Rattle.sb_fraction.specs.Spots.{Vector}
use Rattle.theory_turns.specs.Turns.{Quarter, is_quarter}
use Rattle.theory_turns.proofs.SignedAxes.{upright_of_quarter}
use Rattle.sb_model.specs.Frames.{vector_of}
use Rattle.sb_model.specs.Solids.{Upright}
use Rattle.sb_model.specs.declared.frame.Frame.{Frame}
use Rattle.sb_step.specs.Indexed.{Indexed}
use Rattle.sb_solid.specs.declared.judged.Judged.{Judged}
use Rattle.sb_solid.specs.declared.error.SolidError.{SolidError}
use Rattle.sb_solid.specs.declared.error.SolidError.TheVariants as solid_error
use Rattle.sb_solid.specs.Solids.{Extruded, JudgesAt, is_beyond}
use Rattle.sb_solid.specs.Judged.{IsJudgedOf}
use Rattle.sb_solid.specs.Turned.{turned_point, spot_vector, extruded_of, is_fit}
use Rattle.sb_place.specs.declared.sight.Seen.{Seen}
use Rattle.sb_prism.specs.declared.error.PrismError.{PrismError}
use Rattle.sb_prism.specs.declared.error.PrismError.TheVariants as prism_error
use Rattle.sb_prism.specs.declared.kept.Extrusion.{Extrusion}
use Rattle.sb_prism.specs.Shapes.{Solid, Shape, IsShape}
use Rattle.sb_prism.specs.Outlines.{frame_where, loops_in, way_of}
use Rattle.sb_prism.specs.Prisms.{is_out_of_range, Judges, IsPrismOf}
use Rattle.sb_prism.specs.Moved.{extruded_by, IsMoved}
use Rattle.sb_prism.specs.Kept.{spot_of}
use Rattle.sb_prism.specs.Sound.{IsSound, IsJudged}
use Rattle.sb_prism.specs.Errors.{of_solid}
use Rattle.sb_prism.proofs.NumbersFit.{solid_fits}
use Rattle.sb_prism.proofs.TurnedFirst.{map-once, solids_move}

-- ---- what is kept under one turn

kept_loops : (q : Quarter) (f : Frame) (loops : List (List Vector))
    → map (map (λ s. turned_point q f (spot_vector s))) (map (map spot_of) loops) ≡ map (map (turned_point q f)) loops
kept_loops q f loops =
    sym
    (map-once (map (turned_point q f)) (map (λ s. turned_point q f (spot_vector s))) (map spot_of)
    (map-once (turned_point q f) (λ s. turned_point q f (spot_vector s)) spot_of (λ p. refl)) loops)

kept_solid : (u : units.Unit) (q : Quarter) (s : Solid)
    → extruded_of q (frame_where u s.position) (way_of u s).z (map (map spot_of) (loops_in u s.profile)) ≡ extruded_by u q s
kept_solid u q s =
    ap (λ loops. record { loops = loops; way = (extruded_by u q s).way; along = (extruded_by u q s).along })
    (kept_loops q (frame_where u s.position) (loops_in u s.profile))

pub judged_is : (u : units.Unit) (s : Seen Shape) (q : Quarter) (e : Extrusion) (kept : Judged)
    → IsTrue (is_quarter q.x q.z) → IsSound u s e
    → (is_fit q e.frame e.way e.loops ≡ true → IsJudgedOf (extruded_of q e.frame e.way e.loops) kept)
    → IsJudged u s q kept
judged_is u s q e kept quarter sound judged =
    let solid = sound.solid in
    let frame_is = subst (λ f. is_fit q f e.way e.loops ≡ true → IsJudgedOf (extruded_of q f e.way e.loops) kept)
    sound.kept.frame judged in
    let way_is = subst (λ w. is_fit q (frame_where u solid.position) w e.loops ≡ true
    → IsJudgedOf (extruded_of q (frame_where u solid.position) w e.loops) kept) (sound.kept.way sound.near) frame_is in
    let loops_are = subst (λ l. is_fit q (frame_where u solid.position) (way_of u solid).z l ≡ true
    → IsJudgedOf (extruded_of q (frame_where u solid.position) (way_of u solid).z l) kept)
    (sound.kept.loops sound.near) way_is in
    record {
      by_quarters = quarter;
      solid = solid;
      is = sound.is;
      near = sound.near;
      judged = subst (λ x. IsJudgedOf x kept) (kept_solid u q solid)
          (loops_are (solid_fits u q solid (upright_of_quarter q quarter) sound.near));
    }

-- ---- what is answered

-- a fault that each product has
pub fault_answers : (i : Indexed) (n : ℕ) (u : units.Unit) (f : Frame) (s : Seen Shape) (e : PrismError) → IsShape i n s
    → Judges u f s (Err e) → IsPrismOf i n f u (Err e)
fault_answers i n u f s (prism_error.Fields m) is judges = (s, is, judges)
fault_answers i n u f s (prism_error.Missing m) is judges = (s, is, judges)
fault_answers i n u f s prism_error.Turned is judges = (s, is, judges)
fault_answers i n u f s prism_error.Shape is judges = (s, is, judges)
fault_answers i n u f s prism_error.Range is judges = (s, is, judges)
fault_answers i n u f s prism_error.OffGrid is judges = (s, is, judges)
fault_answers i n u f s prism_error.Loops is judges = (s, is, judges)
fault_answers i n u f s prism_error.NoMemory is judges = tt

module _ (i : Indexed) (n : ℕ) (u : units.Unit) (f : Frame) (s : Seen Shape) (is : IsShape i n s) (e : Extrusion)
    (sound : IsSound u s e) (kept : Judged) (judged : IsJudged u s f.turn kept)
  where
    moved : IsMoved u f judged.solid
    moved = solids_move i n s judged.solid (record { is_shape = is; is = judged.is }) u f judged.by_quarters

    range_is : is_out_of_range u f judged.solid ≡ is_beyond (extruded_by u f.turn judged.solid) (vector_of f.shift)
    range_is =
        moved.out_of_range
        ∙ ap (λ t. t || is_beyond (extruded_by u f.turn judged.solid) (vector_of f.shift)) judged.near

    pub prism_answers : (prism : Upright)
        → ((x : Extruded) → IsJudgedOf x kept → JudgesAt x (vector_of f.shift) (Ok prism)) → IsPrismOf i n f u (Ok prism)
    prism_answers prism at =
        let there = at (extruded_by u f.turn judged.solid) judged.judged in (
          s,
          is,
          (
            sound.read,
            sound.straight,
            sound.shaped,
            (
              judged.solid,
              judged.is,
              (range_is ∙ there.0, moved.off_grid ∙ there.1, moved.prism ∙ there.2),
            ),
          ),
        )

    pub error_answers : (error : SolidError)
        → ((x : Extruded) → IsJudgedOf x kept → JudgesAt x (vector_of f.shift) (Err error))
        → IsPrismOf i n f u (Err (of_solid error))
    error_answers solid_error.Range at =
        let there = at (extruded_by u f.turn judged.solid) judged.judged in
        (s, is, (sound.read, sound.straight, sound.shaped, (judged.solid, judged.is, range_is ∙ there)))
    error_answers solid_error.OffGrid at =
        let there = at (extruded_by u f.turn judged.solid) judged.judged in (
          s,
          is,
          (
            sound.read,
            sound.straight,
            sound.shaped,
            (judged.solid, judged.is, (range_is ∙ there.0, moved.off_grid ∙ there.1)),
          ),
        )
    error_answers solid_error.Loops at =
        let there = at (extruded_by u f.turn judged.solid) judged.judged in (
          s,
          is,
          (
            sound.read,
            sound.straight,
            sound.shaped,
            (
              judged.solid,
              judged.is,
              (range_is ∙ there.0, moved.off_grid ∙ there.1, moved.prism ∙ there.2),
            ),
          ),
        )
    error_answers solid_error.NoMemory at = tt
