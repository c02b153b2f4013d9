-- Between the ends along x, it is left to look along y.
use Rattle.std.proofs.Common.{◌≡◌, rules, ap, sym, ◌∙◌, ◌&&◌, Bool, true, FitsSigned, w32, w64}
use Rattle.std.proofs.lemmas.Int.{to_z-of_z}
use Rattle.sb_frame.specs.Through.{is_between}
use Rattle.sb_frame.proofs.cell.Cell.is_by.Goals as goal

-- where the first of two tests holds, the second tells both
second_tells : (t u b r : Bool) → b ≡ t → b ≡ true → r ≡ u → r ≡ t && u
second_tells t u b r is holds tells = tells ∙ ap (λ (s : Bool). s && u) (sym holds ∙ is)

pub returns-then-is_between : goal.returns-then-is_between
returns-then-is_between c =
    let first_x : FitsSigned w32 c.args.s.now.a.x = search rules in
    let first_y : FitsSigned w32 c.args.s.now.a.y = search rules in
    let second_x : FitsSigned w32 c.args.s.now.b.x = search rules in
    let second_y : FitsSigned w32 c.args.s.now.b.y = search rules in
    let corner_x : FitsSigned w64 c.args.self.x = search rules in
    let corner_y : FitsSigned w64 c.args.self.y = search rules in
    let along_x = simp to_z-of_z at c.is_between.ensures in
    let along_y = simp to_z-of_z at c.is_between-then-is_between.ensures in
    second_tells (is_between c.args.s.now.a.x c.args.s.now.b.x c.args.self.x)
    (is_between c.args.s.now.a.y c.args.s.now.b.y c.args.self.y) c.is_between.result
    c.is_between-then-is_between.result along_x c.if-is_between.true along_y
