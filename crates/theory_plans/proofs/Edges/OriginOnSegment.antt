-- When the origin lies on a segment along an axis: an end of an edge is seen from a point so.
use Rattle.std.proofs.Common.{◌≡◌, sym, ap, ◌∙◌, arith, ℤ, pos, ◌+ℤ◌, ◌-ℤ◌, ◌*ℤ◌, ◌≤ℤ◌, Bool, true}
use Rattle.std.proofs.Common.{◌&&◌, int_le}
use Rattle.std.specs.Ordering.{int_eq}
use Rattle.std.proofs.lemmas.Int.{ints}
use Rattle.std.proofs.lemmas.Bool.{and_from, and_parts}
use Rattle.std.proofs.lemmas.Bool.Decides.{Decides-int_eq}
use Rattle.theory_numbers.proofs.Shapes.{var, minus, times, equal}
use Rattle.theory_numbers.proofs.Signs.{at_most_from, test_at_most}
use Rattle.theory_numbers.proofs.Ring.{mul-zero}
use Rattle.theory_numbers.proofs.Products.{zero_factor}

-- the origin lies on the segment from u to v
abbrev pub touches : ℤ → ℤ → ℤ → ℤ → Bool
touches ux uy vx vy =
    int_eq ((ux *ℤ vy) -ℤ (uy *ℤ vx)) (pos 0) && int_le ((ux *ℤ vx) +ℤ (uy *ℤ vy)) (pos 0)

-- what the test says
record IsTouched (ux uy vx vy : ℤ) : Type 0 where
  on_line : (ux *ℤ vy) -ℤ (uy *ℤ vx) ≡ pos 0
  between : ((ux *ℤ vx) +ℤ (uy *ℤ vy)) ≤ℤ pos 0

touched_from : (ux uy vx vy : ℤ) → touches ux uy vx vy ≡ true → IsTouched ux uy vx vy
touched_from ux uy vx vy on =
    let parts = and_parts (int_eq ((ux *ℤ vy) -ℤ (uy *ℤ vx)) (pos 0))
    (int_le ((ux *ℤ vx) +ℤ (uy *ℤ vy)) (pos 0)) on in
    record {
      on_line = (Decides-int_eq ((ux *ℤ vy) -ℤ (uy *ℤ vx)) (pos 0)).0 parts.0;
      between = at_most_from ((ux *ℤ vx) +ℤ (uy *ℤ vy)) (pos 0) parts.1;
    }

touches_from : (ux uy vx vy : ℤ) → IsTouched ux uy vx vy → touches ux uy vx vy ≡ true
touches_from ux uy vx vy touched =
    and_from (int_eq ((ux *ℤ vy) -ℤ (uy *ℤ vx)) (pos 0)) (int_le ((ux *ℤ vx) +ℤ (uy *ℤ vy)) (pos 0))
    ((Decides-int_eq ((ux *ℤ vy) -ℤ (uy *ℤ vx)) (pos 0)).1 touched.on_line)
    (test_at_most ((ux *ℤ vx) +ℤ (uy *ℤ vy)) (pos 0) touched.between)

-- the two coordinates may be exchanged
exchanged : (ux uy vx vy : ℤ) → IsTouched ux uy vx vy → IsTouched uy ux vy vx
exchanged ux uy vx vy touched =
    let on_line = touched.on_line in
    let between = touched.between in
    record { on_line = omega (arith, ints); between = omega (arith, ints) }

level_turn : (a b c : ℤ) → (a *ℤ c) -ℤ (c *ℤ b) ≡ (a -ℤ b) *ℤ c
level_turn a b c = equal (minus (times (var a) (var c)) (times (var c) (var b)))
    (times (minus (var a) (var b)) (var c)) (omega arith)

-- on a level segment the height is 0, and the ends lie on both sides
touched_level : (a b c : ℤ) → (a ≡ b → ⊥) → IsTouched a c b c
    → (c ≡ pos 0) × ((a *ℤ b) ≤ℤ pos 0)
touched_level a b c other touched =
    let level : c ≡ pos 0 =
    zero_factor (a -ℤ b) c (apart a b other) (sym (level_turn a b c) ∙ touched.on_line) in
    let square : c *ℤ c ≡ pos 0 = ap (λ z. z *ℤ z) level in
    let between = touched.between in
    (level, omega (arith, ints))
  where
    apart : (m n : ℤ) → (m ≡ n → ⊥) → m -ℤ n ≡ pos 0 → ⊥
    apart m n differ none = differ (omega (arith, ints))

level_is_touched : (a b c : ℤ) → c ≡ pos 0 → (a *ℤ b) ≤ℤ pos 0 → IsTouched a c b c
level_is_touched a b c level about =
    let square : c *ℤ c ≡ pos 0 = ap (λ z. z *ℤ z) level in
    let none : (a -ℤ b) *ℤ c ≡ pos 0 = ap (λ z. (a -ℤ b) *ℤ z) level ∙ mul-zero (a -ℤ b) in
    record { on_line = level_turn a b c ∙ none; between = omega (arith, ints) }

-- the origin on a segment between (a, c) and (b, c)
pub touches_level : (a b c : ℤ) → (a ≡ b → ⊥) → touches a c b c ≡ true
    → (c ≡ pos 0) × ((a *ℤ b) ≤ℤ pos 0)
touches_level a b c other on = touched_level a b c other (touched_from a c b c on)

-- and there it lies on it
pub level_touches : (a b c : ℤ) → c ≡ pos 0 → (a *ℤ b) ≤ℤ pos 0 → touches a c b c ≡ true
level_touches a b c level about = touches_from a c b c (level_is_touched a b c level about)

-- the origin on a segment between (c, a) and (c, b)
pub touches_upright : (c a b : ℤ) → (a ≡ b → ⊥) → touches c a c b ≡ true
    → (c ≡ pos 0) × ((a *ℤ b) ≤ℤ pos 0)
touches_upright c a b other on =
    touched_level a b c other (exchanged c a c b (touched_from c a c b on))

-- and there it lies on it
pub upright_touches : (c a b : ℤ) → c ≡ pos 0 → (a *ℤ b) ≤ℤ pos 0 → touches c a c b ≡ true
upright_touches c a b upright about =
    touches_from c a c b (exchanged a c b c (level_is_touched a b c upright about))
