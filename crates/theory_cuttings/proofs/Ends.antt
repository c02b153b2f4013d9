-- Between two ends there is a number, and the order goes on through numbers between them.
use Rattle.std.proofs.Common.{◌≡◌, refl, inl, inr, ◌⊎◌, arith}
use Rattle.std.proofs.Common.{Option, Some, None, ℤ, pos, negsuc, ◌+ℤ◌, ◌-ℤ◌, ◌*ℤ◌, neg_ℤ}
use Rattle.std.proofs.Common.{zero, suc, unsigned_abs}
use Rattle.std.proofs.lemmas.Int.{ints}
use Rattle.theory_numbers.specs.Arrows.{Arrow, arrow, cross, mirror}
use Rattle.theory_numbers.specs.Rationals.{IsRational, IsBelow, IsAtMost, mediant, rational}
use Rattle.theory_numbers.proofs.Shapes.{var, plus, minus, times, equal, cross_by}
use Rattle.theory_numbers.proofs.Products.{positive_product}
use Rattle.theory_numbers.proofs.Vectors.Arrows.{cross-mirror, mirror-cross, cross-mirror_comm}
use Rattle.theory_numbers.proofs.Fractions.Rationals.{below_trans, below_or_not, at_most_below_trans}
use Rattle.theory_numbers.proofs.Fractions.Rationals.{below_at_most_trans}
use Rattle.theory_numbers.proofs.Fractions.Rationals.{mediant-IsRational, mediant_between}
use Rattle.theory_cuttings.specs.Ends.{IsEnd, IsOpen, IsAfter, IsBefore, IsFrom, IsUpTo}
use Rattle.theory_cuttings.specs.Ends.{mirror_end}
use Rattle.theory_cuttings.specs.Cuttings.{IsFraction}

-- ---- the order through the ends

-- what is above a number that is above the lower end is above it
pub after_trans : (low : Option Arrow) (b u : Arrow) → IsEnd low → IsRational b → IsRational u
    → IsAfter low b → IsBelow b u → IsAfter low u
after_trans None b u low_in b_in u_in after more = tt
after_trans (Some r) b u low_in b_in u_in after more =
    below_trans r b u low_in b_in u_in after more

-- what is below a number that is below the upper end is below it
pub before_trans : (u b : Arrow) (high : Option Arrow) → IsRational u → IsRational b → IsEnd high
    → IsBelow u b → IsBefore b high → IsBefore u high
before_trans u b None u_in b_in high_in less before = tt
before_trans u b (Some t) u_in b_in high_in less before =
    below_trans u b t u_in b_in high_in less before

-- so is what is at most such a number
pub before_at_most : (u b : Arrow) (high : Option Arrow) → IsRational u → IsRational b
    → IsEnd high → IsAtMost u b → IsBefore b high → IsBefore u high
before_at_most u b None u_in b_in high_in less before = tt
before_at_most u b (Some t) u_in b_in high_in less before =
    at_most_below_trans u b t u_in b_in high_in less before

-- two ends with a number between them are open
pub open_trans : (low : Option Arrow) (b : Arrow) (high : Option Arrow) → IsEnd low
    → IsRational b → IsEnd high → IsAfter low b → IsBefore b high → IsOpen low high
open_trans None b high low_in b_in high_in after before = tt
open_trans (Some r) b None low_in b_in high_in after before = tt
open_trans (Some r) b (Some t) low_in b_in high_in after before =
    below_trans r b t low_in b_in high_in after before

-- what is above a number that is not below the lower end is above that end
pub from_trans : (low : Option Arrow) (s u : Arrow) → IsEnd low → IsRational s → IsRational u
    → IsFrom low s → IsBelow s u → IsAfter low u
from_trans None s u low_in s_in u_in after more = tt
from_trans (Some r) s u low_in s_in u_in after more =
    at_most_below_trans r s u low_in s_in u_in after more

-- what is below a number that is not above the upper end is below that end
pub up_to_trans : (u t : Arrow) (high : Option Arrow) → IsRational u → IsRational t → IsEnd high
    → IsBelow u t → IsUpTo t high → IsBefore u high
up_to_trans u t None u_in t_in high_in less before = tt
up_to_trans u t (Some h) u_in t_in high_in less before =
    below_at_most_trans u t h u_in t_in high_in less before

-- ---- a number between the ends

-- u lies strictly between the ends
pub record IsBetween (low high : Option Arrow) (u : Arrow) : Type 0 where
  pub rational : IsRational u
  pub after : IsAfter low u
  pub before : IsBefore u high

one_less : (t : Arrow) → cross (arrow t.x (t.y -ℤ t.x)) t ≡ t.x *ℤ t.x
one_less t =
    equal
    (cross_by (arrow t.x (t.y -ℤ t.x)) t (var t.x) (minus (var t.y) (var t.x)) (var t.x)
    (var t.y))
    (times (var t.x) (var t.x)) (omega arith)

one_more : (r : Arrow) → cross r (arrow r.x (r.y +ℤ r.x)) ≡ r.x *ℤ r.x
one_more r =
    equal
    (cross_by r (arrow r.x (r.y +ℤ r.x)) (var r.x) (var r.y) (var r.x)
    (plus (var r.y) (var r.x)))
    (times (var r.x) (var r.x)) (omega arith)

-- between open ends there is a number
pub number_between : (low high : Option Arrow) → IsEnd low → IsEnd high → IsOpen low high
    → (u : Arrow) × IsBetween low high u
number_between None None low_in high_in wide = (
  rational (pos 0) (pos 1),
  record { rational = omega (arith, ints); after = tt; before = tt },
)
number_between None (Some t) low_in high_in wide = (
  arrow t.x (t.y -ℤ t.x),
  record {
    rational = high_in;
    after = tt;
    before = rw (one_less t) (positive_product t.x t.x high_in high_in);
  },
)
number_between (Some r) None low_in high_in wide = (
  arrow r.x (r.y +ℤ r.x),
  record {
    rational = low_in;
    after = rw (one_more r) (positive_product r.x r.x low_in low_in);
    before = tt;
  },
)
number_between (Some r) (Some t) low_in high_in wide =
    let inside = mediant_between r t wide in (
      mediant r t,
      record {
        rational = mediant-IsRational r t low_in high_in;
        after = inside.0;
        before = inside.1;
      },
    )

-- a number above one end and below two others
pub below_two_ends : (low high other : Option Arrow) → IsEnd low → IsEnd high → IsEnd other
    → IsOpen low high → IsOpen low other
    → (u : Arrow) × (IsBetween low high u × IsBetween low other u)
below_two_ends low high other low_in high_in other_in wide wide_too =
    lesser (number_between low high low_in high_in wide)
    (number_between low other low_in other_in wide_too)
  where
    lesser : (u : Arrow) × IsBetween low high u → (v : Arrow) × IsBetween low other v
        → (w : Arrow) × (IsBetween low high w × IsBetween low other w)
    lesser (u, u_is) (v, v_is) = from (below_or_not u v)
      where
        from : IsBelow u v ⊎ IsAtMost v u
            → (w : Arrow) × (IsBetween low high w × IsBetween low other w)
        from (inl less) = (
          u,
          (
            u_is,
            record {
              rational = u_is.rational;
              after = u_is.after;
              before = before_trans u v other u_is.rational v_is.rational other_in less v_is.before;
            },
          ),
        )
        from (inr more) = (
          v,
          (
            record {
              rational = v_is.rational;
              after = v_is.after;
              before = before_at_most v u high v_is.rational u_is.rational high_in more u_is.before;
            },
            v_is,
          ),
        )

-- ---- reduced fractions

-- a reduced fraction is a rational number
pub fraction-IsRational : (r : Arrow) → IsFraction r → IsRational r
fraction-IsRational r r_in = r_in.positive

unsigned_abs-neg : (n : ℤ) → unsigned_abs (neg_ℤ n) ≡ unsigned_abs n
unsigned_abs-neg (pos zero) = refl
unsigned_abs-neg (pos (suc n)) = refl
unsigned_abs-neg (negsuc n) = refl

-- its mirror image is a reduced fraction
pub mirror-IsFraction : (r : Arrow) → IsFraction r → IsFraction (mirror r)
mirror-IsFraction r r_in =
    record {
      positive = r_in.positive;
      no_divisor = rw (unsigned_abs-neg r.y) r_in.no_divisor;
    }

-- ---- in the mirror at 0

-- an end stays an end
pub mirror_end_is : (end : Option Arrow) → IsEnd end → IsEnd (mirror_end end)
mirror_end_is None end_in = tt
mirror_end_is (Some r) end_in = end_in

-- the interval from end to end is turned
pub mirror_open : (low high : Option Arrow) → IsOpen low high
    → IsOpen (mirror_end high) (mirror_end low)
mirror_open None None wide = tt
mirror_open None (Some t) wide = tt
mirror_open (Some r) None wide = tt
mirror_open (Some r) (Some t) wide = rw (cross-mirror t r) wide

-- what lies above the mirror image of the upper end has its image below that end
pub mirror_before : (u : Arrow) (high : Option Arrow) → IsAfter (mirror_end high) u
    → IsBefore (mirror u) high
mirror_before u None after = tt
mirror_before u (Some t) after = rw (mirror-cross u t) after

-- and what lies below that of the lower end, above it
pub mirror_after : (u : Arrow) (low : Option Arrow) → IsBefore u (mirror_end low)
    → IsAfter low (mirror u)
mirror_after u None before = tt
mirror_after u (Some r) before = rw (cross-mirror_comm r u) before
