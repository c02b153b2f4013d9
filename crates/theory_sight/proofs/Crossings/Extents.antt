-- The extents of a prism along two parallel normals: the same ends, in the same order where the two
-- point the same way and exchanged where they point opposite ways.
use Rattle.std.proofs.Common.{◌≡◌, refl, sym, ap, ap₂, ◌∙◌, arith, ℤ, pos, neg_ℤ, ◌+ℤ◌, ◌*ℤ◌}
use Rattle.std.proofs.Common.{◌<ℤ◌, Bool, true, false, cond, int_lt, negsuc, List, [], ◌∷◌, ◌++◌}
use Rattle.std.proofs.lemmas.Int.{ints}
use Rattle.std.proofs.lemmas.Bool.{and_parts}
use Rattle.std.proofs.lemmas.Bool.Decides.{Decides-int_eq}
use Rattle.std.specs.Ordering.{int_eq}
use Rattle.std.specs.List.{fold}
use Rattle.std.specs.Int.{int_min, int_max}
use Rattle.theory_numbers.proofs.Shapes.{var, plus, times, negated, equal}
use Rattle.theory_numbers.proofs.Ring.{mul-zero}
use Rattle.theory_numbers.proofs.Signs.{same_less, less_from, not_less_from}
use Rattle.theory_numbers.proofs.Products.{scale_less, unscale_less}
use Rattle.sb_fraction.specs.declared.point.Point.{Point}
use Rattle.sb_fraction.specs.Spots.{Spot, Vector, inner, opposite, times_w}
use Rattle.sb_model.specs.Solids.{Upright}
use Rattle.sb_model.specs.Labels.{readings_in, readings_of, least_of, greatest_of}
use Rattle.sb_model.specs.Labels.{low_along, high_along}
use Rattle.sb_model.specs.Walks.{is_parallel}

-- k times each number of the one list is c times that of the other
abbrev AreScaled : ℤ → ℤ → List ℤ → List ℤ → Type 0
AreScaled k c [] [] = Unit {0}
AreScaled k c (x ∷ xs) (y ∷ ys) = (k *ℤ x ≡ c *ℤ y) × AreScaled k c xs ys
AreScaled k c _ _ = ⊥

scaled-append : (k c : ℤ) (xs ys us vs : List ℤ) → AreScaled k c xs ys → AreScaled k c us vs
    → AreScaled k c (xs ++ us) (ys ++ vs)
scaled-append k c [] [] us vs front back = back
scaled-append k c (x ∷ xs) (y ∷ ys) us vs front back =
    (front.0, scaled-append k c xs ys us vs front.1 back)
scaled-append k c [] (y ∷ ys) us vs front back = absurd front
scaled-append k c (x ∷ xs) [] us vs front back = absurd front

-- ---- the least and the greatest of scaled numbers

neg_times : (c x : ℤ) → neg_ℤ c *ℤ x ≡ neg_ℤ (c *ℤ x)
neg_times c x = equal (times (negated (var c)) (var x)) (negated (times (var c) (var x))) (omega arith)

turned : (s t : ℤ) → s <ℤ t → neg_ℤ t <ℤ neg_ℤ s
turned s t less = omega (arith, ints)

turned_back : (s t : ℤ) → neg_ℤ t <ℤ neg_ℤ s → s <ℤ t
turned_back s t less = omega (arith, ints)

-- the order of two numbers in a positive multiple, and turned in a negative one
module _ (k c a b x y : ℤ) (k_in : pos 0 <ℤ k) (a_is : k *ℤ a ≡ c *ℤ x) (b_is : k *ℤ b ≡ c *ℤ y) where
  order_up : pos 0 <ℤ c → int_lt b a ≡ int_lt y x
  order_up c_in =
      same_less b a y x
      (λ less. unscale_less c y x (omega (arith, ints)) (rw (sym a_is, sym b_is) (scale_less k b a k_in less)))
      (λ less. unscale_less k b a (omega (arith, ints)) (rw (a_is, b_is) (scale_less c y x c_in less)))

  order_down : c <ℤ pos 0 → int_lt b a ≡ int_lt x y
  order_down c_in =
      same_less b a x y
      (λ less.
      unscale_less (neg_ℤ c) x y (omega (arith, ints))
      (rw (neg_times c x, neg_times c y)
      (turned (c *ℤ y) (c *ℤ x) (rw (sym a_is, sym b_is) (scale_less k b a k_in less)))))
      (λ less.
      unscale_less k b a (omega (arith, ints))
      (rw (a_is, b_is)
      (turned_back (c *ℤ y) (c *ℤ x)
      (rw (sym (neg_times c x), sym (neg_times c y))
      (scale_less (neg_ℤ c) x y (omega (arith, ints)) less)))))

  min_up : pos 0 <ℤ c → k *ℤ int_min a b ≡ c *ℤ int_min x y
  min_up c_in = ap (λ t. k *ℤ cond t b a) (order_up c_in) ∙ by (int_lt y x)
    where
      by : (t : Bool) → k *ℤ cond t b a ≡ c *ℤ cond t y x
      by true = b_is
      by false = a_is

  max_up : pos 0 <ℤ c → k *ℤ int_max a b ≡ c *ℤ int_max x y
  max_up c_in = ap (λ t. k *ℤ cond t a b) (order_up c_in) ∙ by (int_lt y x)
    where
      by : (t : Bool) → k *ℤ cond t a b ≡ c *ℤ cond t x y
      by true = a_is
      by false = b_is

  min_down : c <ℤ pos 0 → k *ℤ int_min a b ≡ c *ℤ int_max x y
  min_down c_in = ap (λ t. k *ℤ cond t b a) (order_down c_in) ∙ by (int_lt x y) (int_lt y x) refl refl
    where
      by : (t u : Bool) → int_lt x y ≡ t → int_lt y x ≡ u
          → k *ℤ cond t b a ≡ c *ℤ cond u x y
      by true true up down =
          let more = less_from x y up in
          let less = less_from y x down in
          absurd (omega (arith, ints))
      by true false up down = b_is
      by false true up down = a_is
      by false false up down =
          let more = not_less_from x y up in
          let less = not_less_from y x down in
          let same : x ≡ y = omega (arith, ints) in
          a_is ∙ ap (λ z. c *ℤ z) same

module _ (k c : ℤ) (k_in : pos 0 <ℤ k) where
  fold_min_up : pos 0 <ℤ c → (a x : ℤ) (es xs : List ℤ) → k *ℤ a ≡ c *ℤ x → AreScaled k c es xs
      → k *ℤ fold int_min a es ≡ c *ℤ fold int_min x xs
  fold_min_up c_in a x [] [] at rest = at
  fold_min_up c_in a x (b ∷ es) (y ∷ xs) at rest =
      fold_min_up c_in (int_min a b) (int_min x y) es xs (min_up k c a b x y k_in at rest.0 c_in)
      rest.1
  fold_min_up c_in a x [] (y ∷ xs) at rest = absurd rest
  fold_min_up c_in a x (b ∷ es) [] at rest = absurd rest

  fold_max_up : pos 0 <ℤ c → (a x : ℤ) (es xs : List ℤ) → k *ℤ a ≡ c *ℤ x → AreScaled k c es xs
      → k *ℤ fold int_max a es ≡ c *ℤ fold int_max x xs
  fold_max_up c_in a x [] [] at rest = at
  fold_max_up c_in a x (b ∷ es) (y ∷ xs) at rest =
      fold_max_up c_in (int_max a b) (int_max x y) es xs (max_up k c a b x y k_in at rest.0 c_in)
      rest.1
  fold_max_up c_in a x [] (y ∷ xs) at rest = absurd rest
  fold_max_up c_in a x (b ∷ es) [] at rest = absurd rest

  fold_min_down : c <ℤ pos 0 → (a x : ℤ) (es xs : List ℤ) → k *ℤ a ≡ c *ℤ x → AreScaled k c es xs
      → k *ℤ fold int_min a es ≡ c *ℤ fold int_max x xs
  fold_min_down c_in a x [] [] at rest = at
  fold_min_down c_in a x (b ∷ es) (y ∷ xs) at rest =
      fold_min_down c_in (int_min a b) (int_max x y) es xs
      (min_down k c a b x y k_in at rest.0 c_in) rest.1
  fold_min_down c_in a x [] (y ∷ xs) at rest = absurd rest
  fold_min_down c_in a x (b ∷ es) [] at rest = absurd rest

  zeros : k *ℤ pos 0 ≡ c *ℤ pos 0
  zeros = mul-zero k ∙ sym (mul-zero c)

  least_up : pos 0 <ℤ c → (es xs : List ℤ) → AreScaled k c es xs
      → k *ℤ least_of es ≡ c *ℤ least_of xs
  least_up c_in [] [] rest = zeros
  least_up c_in (a ∷ es) (x ∷ xs) rest = fold_min_up c_in a x es xs rest.0 rest.1
  least_up c_in [] (x ∷ xs) rest = absurd rest
  least_up c_in (a ∷ es) [] rest = absurd rest

  greatest_up : pos 0 <ℤ c → (es xs : List ℤ) → AreScaled k c es xs
      → k *ℤ greatest_of es ≡ c *ℤ greatest_of xs
  greatest_up c_in [] [] rest = zeros
  greatest_up c_in (a ∷ es) (x ∷ xs) rest = fold_max_up c_in a x es xs rest.0 rest.1
  greatest_up c_in [] (x ∷ xs) rest = absurd rest
  greatest_up c_in (a ∷ es) [] rest = absurd rest

  least_down : c <ℤ pos 0 → (es xs : List ℤ) → AreScaled k c es xs
      → k *ℤ least_of es ≡ c *ℤ greatest_of xs
  least_down c_in [] [] rest = zeros
  least_down c_in (a ∷ es) (x ∷ xs) rest = fold_min_down c_in a x es xs rest.0 rest.1
  least_down c_in [] (x ∷ xs) rest = absurd rest
  least_down c_in (a ∷ es) [] rest = absurd rest

-- ---- the readings of a prism

-- k times the one vector is c times the other
pub record IsMultiple (k c : ℤ) (a n : Vector) : Type 0 where
  pub x : k *ℤ a.x ≡ c *ℤ n.x
  pub y : k *ℤ a.y ≡ c *ℤ n.y
  pub z : k *ℤ a.z ≡ c *ℤ n.z

module _ (k c : ℤ) (a n : Vector) (is : IsMultiple k c a n) where
  -- so are the readings of a point
  reading_scaled : (p q h : ℤ)
      → k *ℤ (((p *ℤ a.x) +ℤ (q *ℤ a.y)) +ℤ (h *ℤ a.z))
      ≡ c *ℤ (((p *ℤ n.x) +ℤ (q *ℤ n.y)) +ℤ (h *ℤ n.z))
  reading_scaled p q h =
      spread k p q h a ∙ ap₂ (λ s t. s +ℤ t)
      (ap₂ (λ s t. s +ℤ t) (ap (λ s. p *ℤ s) is.x) (ap (λ s. q *ℤ s) is.y))
      (ap (λ s. h *ℤ s) is.z)
      ∙ sym (spread c p q h n)
    where
      spread : (k p q h : ℤ) (v : Vector)
          → k *ℤ (((p *ℤ v.x) +ℤ (q *ℤ v.y)) +ℤ (h *ℤ v.z))
          ≡ ((p *ℤ (k *ℤ v.x)) +ℤ (q *ℤ (k *ℤ v.y))) +ℤ (h *ℤ (k *ℤ v.z))
      spread k p q h v =
          equal
          (times (var k)
          (plus (plus (times (var p) (var v.x)) (times (var q) (var v.y)))
          (times (var h) (var v.z))))
          (plus
          (plus (times (var p) (times (var k) (var v.x))) (times (var q) (times (var k) (var v.y))))
          (times (var h) (times (var k) (var v.z))))
          (omega arith)

  readings_in_scaled : (s : Upright) (points : List Point)
      → AreScaled k c (readings_in s a points) (readings_in s n points)
  readings_in_scaled s [] = tt
  readings_in_scaled s (p ∷ points) =
      (reading_scaled p.x p.y s.z0, (reading_scaled p.x p.y s.z1, readings_in_scaled s points))

  readings_scaled : (s : Upright) (loops : List (List Point))
      → AreScaled k c (readings_of s a loops) (readings_of s n loops)
  readings_scaled s [] = tt
  readings_scaled s (points ∷ loops) =
      scaled-append k c (readings_in s a points) (readings_in s n points) (readings_of s a loops)
      (readings_of s n loops) (readings_in_scaled s points) (readings_scaled s loops)

  -- the reading of any point
  pub times_scaled : (p : Spot) → k *ℤ times_w p a ≡ c *ℤ times_w p n
  times_scaled p = reading_scaled p.x p.y p.z

  -- the extents along vectors that point the same way
  pub low_scaled : pos 0 <ℤ k → pos 0 <ℤ c → (s : Upright) → k *ℤ low_along s a ≡ c *ℤ low_along s n
  low_scaled k_in c_in s =
      least_up k c k_in c_in (readings_of s a s.loops) (readings_of s n s.loops)
      (readings_scaled s s.loops)

  -- their upper ends
  pub high_scaled : pos 0 <ℤ k → pos 0 <ℤ c → (s : Upright)
      → k *ℤ high_along s a ≡ c *ℤ high_along s n
  high_scaled k_in c_in s =
      greatest_up k c k_in c_in (readings_of s a s.loops) (readings_of s n s.loops)
      (readings_scaled s s.loops)

  -- and opposite ways
  pub low_turned : pos 0 <ℤ k → c <ℤ pos 0 → (s : Upright)
      → k *ℤ low_along s a ≡ c *ℤ high_along s n
  low_turned k_in c_in s =
      least_down k c k_in c_in (readings_of s a s.loops) (readings_of s n s.loops)
      (readings_scaled s s.loops)

-- the opposite normal
opposite_is_multiple : (n : Vector) → IsMultiple (pos 1) (negsuc 0) (opposite n) n
opposite_is_multiple n = record { x = neg n.x; y = neg n.y; z = neg n.z }
  where
    neg : (z : ℤ) → pos 1 *ℤ neg_ℤ z ≡ negsuc 0 *ℤ z
    neg z = omega (arith, ints)

multiple_of_opposite : (n : Vector) → IsMultiple (pos 1) (negsuc 0) n (opposite n)
multiple_of_opposite n = record { x = neg n.x; y = neg n.y; z = neg n.z }
  where
    neg : (z : ℤ) → pos 1 *ℤ z ≡ negsuc 0 *ℤ neg_ℤ z
    neg z = omega (arith, ints)

-- along the opposite normal the ends are exchanged and turned about
pub low-opposite : (s : Upright) (n : Vector) → low_along s (opposite n) ≡ neg_ℤ (high_along s n)
low-opposite s n =
    let is = low_turned (pos 1) (negsuc 0) (opposite n) n (opposite_is_multiple n)
    (omega (arith, ints)) (omega (arith, ints)) s in
    omega (arith, ints)

-- and the upper end becomes the lower one
pub high-opposite : (s : Upright) (n : Vector) → high_along s (opposite n) ≡ neg_ℤ (low_along s n)
high-opposite s n =
    let is = low_turned (pos 1) (negsuc 0) n (opposite n) (multiple_of_opposite n)
    (omega (arith, ints)) (omega (arith, ints)) s in
    omega (arith, ints)

-- a vector that is parallel to a normal, as a multiple of it
pub parallel_is_multiple : (a n : Vector) → is_parallel a n ≡ true
    → IsMultiple (inner n n) (inner a n) a n
parallel_is_multiple a n parallel =
    let first = and_parts (int_eq (a.y *ℤ n.z) (a.z *ℤ n.y)) _ parallel in
    let rest = and_parts (int_eq (a.z *ℤ n.x) (a.x *ℤ n.z)) _ first.1 in
    let yz = (Decides-int_eq (a.y *ℤ n.z) (a.z *ℤ n.y)).0 first.0 in
    let zx = (Decides-int_eq (a.z *ℤ n.x) (a.x *ℤ n.z)).0 rest.0 in
    let xy = (Decides-int_eq (a.x *ℤ n.y) (a.y *ℤ n.x)).0 rest.1 in
    record {
      x = one n.x n.y n.z a.x a.y a.z xy (sym zx);
      y = second n.x n.y n.z a.x a.y a.z xy yz;
      z = third n.x n.y n.z a.x a.y a.z zx yz;
    }
  where
    -- the products that stay and those that are exchanged
    one : (nx ny nz ax ay az : ℤ) → ax *ℤ ny ≡ ay *ℤ nx → ax *ℤ nz ≡ az *ℤ nx
        → (((nx *ℤ nx) +ℤ (ny *ℤ ny)) +ℤ (nz *ℤ nz)) *ℤ ax
        ≡ (((ax *ℤ nx) +ℤ (ay *ℤ ny)) +ℤ (az *ℤ nz)) *ℤ nx
    one nx ny nz ax ay az xy xz =
        equal
        (times (plus (plus (times (var nx) (var nx)) (times (var ny) (var ny)))
        (times (var nz) (var nz))) (var ax))
        (plus (plus (times (var nx) (times (var ax) (var nx))) (times (var ny) (times (var ax) (var ny))))
        (times (var nz) (times (var ax) (var nz)))) (omega arith)
        ∙ ap₂ (λ s t. ((nx *ℤ (ax *ℤ nx)) +ℤ (ny *ℤ s)) +ℤ (nz *ℤ t)) xy xz
        ∙ equal
        (plus (plus (times (var nx) (times (var ax) (var nx))) (times (var ny) (times (var ay) (var nx))))
        (times (var nz) (times (var az) (var nx))))
        (times (plus (plus (times (var ax) (var nx)) (times (var ay) (var ny)))
        (times (var az) (var nz))) (var nx)) (omega arith)

    second : (nx ny nz ax ay az : ℤ) → ax *ℤ ny ≡ ay *ℤ nx → ay *ℤ nz ≡ az *ℤ ny
        → (((nx *ℤ nx) +ℤ (ny *ℤ ny)) +ℤ (nz *ℤ nz)) *ℤ ay
        ≡ (((ax *ℤ nx) +ℤ (ay *ℤ ny)) +ℤ (az *ℤ nz)) *ℤ ny
    second nx ny nz ax ay az xy yz =
        equal
        (times (plus (plus (times (var nx) (var nx)) (times (var ny) (var ny)))
        (times (var nz) (var nz))) (var ay))
        (plus (plus (times (var nx) (times (var ay) (var nx))) (times (var ny) (times (var ay) (var ny))))
        (times (var nz) (times (var ay) (var nz)))) (omega arith)
        ∙ ap₂ (λ s t. ((nx *ℤ s) +ℤ (ny *ℤ (ay *ℤ ny))) +ℤ (nz *ℤ t)) (sym xy) yz
        ∙ equal
        (plus (plus (times (var nx) (times (var ax) (var ny))) (times (var ny) (times (var ay) (var ny))))
        (times (var nz) (times (var az) (var ny))))
        (times (plus (plus (times (var ax) (var nx)) (times (var ay) (var ny)))
        (times (var az) (var nz))) (var ny)) (omega arith)

    third : (nx ny nz ax ay az : ℤ) → az *ℤ nx ≡ ax *ℤ nz → ay *ℤ nz ≡ az *ℤ ny
        → (((nx *ℤ nx) +ℤ (ny *ℤ ny)) +ℤ (nz *ℤ nz)) *ℤ az
        ≡ (((ax *ℤ nx) +ℤ (ay *ℤ ny)) +ℤ (az *ℤ nz)) *ℤ nz
    third nx ny nz ax ay az zx yz =
        equal
        (times (plus (plus (times (var nx) (var nx)) (times (var ny) (var ny)))
        (times (var nz) (var nz))) (var az))
        (plus (plus (times (var nx) (times (var az) (var nx))) (times (var ny) (times (var az) (var ny))))
        (times (var nz) (times (var az) (var nz)))) (omega arith)
        ∙ ap₂ (λ s t. ((nx *ℤ s) +ℤ (ny *ℤ t)) +ℤ (nz *ℤ (az *ℤ nz))) zx (sym yz)
        ∙ equal
        (plus (plus (times (var nx) (times (var ax) (var nz))) (times (var ny) (times (var ay) (var nz))))
        (times (var nz) (times (var az) (var nz))))
        (times (plus (plus (times (var ax) (var nx)) (times (var ay) (var ny)))
        (times (var az) (var nz))) (var nz)) (omega arith)
