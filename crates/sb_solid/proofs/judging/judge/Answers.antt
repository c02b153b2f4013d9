use Rattle.std.proofs.Common.{rules, ◌≡◌, pos, List, map, ap, subst, ◌∙◌, FitsSigned}
use Rattle.std.specs.Int.{w128}
use Rattle.std.proofs.lemmas.Int.{to_z-of_z}
use Rattle.sb_fraction.specs.Spots.{Vector, vector}
use Rattle.sb_solid.specs.Solids.{Extruded}
use Rattle.sb_solid.specs.Steps.{vector_at}
use Rattle.sb_solid.specs.Turned.{turn_alone, turned_point, turned_vector, spot_vector, IsTurned, AreTurned}
use Rattle.sb_solid.specs.Judged.{IsPlacingWhere}
use Rattle.sb_solid.proofs.judging.judge.Goals as goal

abbrev solid : List (List Vector) → Vector → Vector → Extruded
solid loops way along = record { loops = loops; way = way; along = along }

same_solid : (k l : List (List Vector)) (w v a b : Vector) → k ≡ l → w ≡ v → a ≡ b → solid k w a ≡ solid l v b
same_solid k l w v a b loops way along =
    ap (λ x. solid x w a) loops ∙ ap (λ x. solid l x a) way ∙ ap (solid l v) along

pub returns : goal.returns
returns c fit =
    let n : FitsSigned w128 c.args.way = search rules in
    let q = c.args.turn in
    let f = c.args.frame.now in
    let far = simp to_z-of_z at c.turned_vector.ensures in
    let loops = subst (AreTurned q f c.as_slice.result.now) c.in-Some.is c.in_ok-loops.ensures in
    let way = subst (IsTurned q (turn_alone f.turn) (vector (pos 0) (pos 0) c.args.way)) c.in-Some-turned_vector.is far in
    let along = subst (IsTurned q (turn_alone f.turn) (vector (pos 0) (pos 0) (pos 1))) c.in-Some-turned_vector-2.is
    c.turned_vector-2.ensures in
    record {
      way = way.1;
      placing = subst (λ e. IsPlacingWhere e c.in_ok-placing.placing)
          (same_solid (map (map vector_at) c.as_slice-2.result.now)
          (map (map (λ s. turned_point q f (spot_vector s))) c.args.loops.now) (vector_at c.in-Some-turned_vector.way)
          (turned_vector q f.turn (vector (pos 0) (pos 0) c.args.way)) (vector_at c.in-Some-turned_vector-2.along)
          (turned_vector q f.turn (vector (pos 0) (pos 0) (pos 1)))
          (ap (map (map vector_at)) c.as_slice-2.ensures ∙ loops.1
          ∙ ap (map (map (λ s. turned_point q f (spot_vector s)))) c.as_slice.ensures)
          way.1 along.1)
          c.in_ok-placing.ensures;
    }
