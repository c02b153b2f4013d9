-- Signs of products, and how an inequality is scaled by a factor and freed of one.
-- In a name `weak` stands for "at least 0" and "at most 0".
use Rattle.std.proofs.Common.{◌≡◌, ◌⊎◌, inl, inr, ap, ◌∙◌, arith, mul-pos, ◌<◌}
use Rattle.std.proofs.Common.{ℤ, pos, negsuc, ◌<ℤ◌, ◌≤ℤ◌, ◌-ℤ◌, ◌*ℤ◌, neg_ℤ}
use Rattle.std.proofs.lemmas.Int.{ints, by_lt_z}
use Rattle.theory_numbers.proofs.Signs.{sign_cases}
use Rattle.theory_numbers.proofs.Ring.{mul-neg, neg-mul, neg-mul-neg, zero-mul, mul-sub}

-- ---- the sign of a product, from the signs of its factors

-- above 0 times above 0
pub positive_product : (a b : ℤ) → pos 0 <ℤ a → pos 0 <ℤ b → pos 0 <ℤ (a *ℤ b)
positive_product (pos a) (pos b) sign_a sign_b =
    let up_a : 0 < a = omega (arith, ints) in
    let up_b : 0 < b = omega (arith, ints) in
    omega (arith, ints, mul-pos up_a up_b)
positive_product (pos a) (negsuc b) sign_a sign_b = absurd (omega (arith, ints))
positive_product (negsuc a) b sign_a sign_b = absurd (omega (arith, ints))

-- above 0 times below 0
pub negative_product : (a b : ℤ) → pos 0 <ℤ a → b <ℤ pos 0 → (a *ℤ b) <ℤ pos 0
negative_product a b sign_a sign_b =
    let turned : pos 0 <ℤ (neg_ℤ b) = omega (arith, ints) in
    let above = positive_product a (neg_ℤ b) sign_a turned in
    let same = mul-neg a b in
    omega (arith, ints)

-- below 0 times below 0
pub product_of_negatives : (a b : ℤ) → a <ℤ pos 0 → b <ℤ pos 0 → pos 0 <ℤ (a *ℤ b)
product_of_negatives a b sign_a sign_b =
    let turned_a : pos 0 <ℤ (neg_ℤ a) = omega (arith, ints) in
    let turned_b : pos 0 <ℤ (neg_ℤ b) = omega (arith, ints) in
    let above = positive_product (neg_ℤ a) (neg_ℤ b) turned_a turned_b in
    let same = neg-mul-neg a b in
    omega (arith, ints)

-- at least 0 times at least 0
pub weak_product : (a b : ℤ) → pos 0 ≤ℤ a → pos 0 ≤ℤ b → pos 0 ≤ℤ (a *ℤ b)
weak_product (pos a) (pos b) sign_a sign_b = omega (arith, ints)
weak_product (pos a) (negsuc b) sign_a sign_b = absurd (omega (arith, ints))
weak_product (negsuc a) b sign_a sign_b = absurd (omega (arith, ints))

-- at least 0 times at most 0
pub weak_negative_product : (a b : ℤ) → pos 0 ≤ℤ a → b ≤ℤ pos 0 → (a *ℤ b) ≤ℤ pos 0
weak_negative_product a b sign_a sign_b =
    let turned : pos 0 ≤ℤ (neg_ℤ b) = omega (arith, ints) in
    let above = weak_product a (neg_ℤ b) sign_a turned in
    let same = mul-neg a b in
    omega (arith, ints)

-- at most 0 times at most 0
pub weak_product_of_negatives : (a b : ℤ) → a ≤ℤ pos 0 → b ≤ℤ pos 0 → pos 0 ≤ℤ (a *ℤ b)
weak_product_of_negatives a b sign_a sign_b =
    let turned_a : pos 0 ≤ℤ (neg_ℤ a) = omega (arith, ints) in
    let turned_b : pos 0 ≤ℤ (neg_ℤ b) = omega (arith, ints) in
    let above = weak_product (neg_ℤ a) (neg_ℤ b) turned_a turned_b in
    let same = neg-mul-neg a b in
    omega (arith, ints)

-- a square is at least 0
pub weak_square : (a : ℤ) → pos 0 ≤ℤ (a *ℤ a)
weak_square a =
    by_lt_z a (pos 0)
    (λ low. weak_product_of_negatives a a (omega (arith, ints)) (omega (arith, ints)))
    (λ high. weak_product a a high high)

-- the square of a number that is not 0 is above 0
pub positive_square : (a : ℤ) → (a ≡ pos 0 → ⊥) → pos 0 <ℤ (a *ℤ a)
positive_square a apart =
    by_lt_z a (pos 0) (λ low. product_of_negatives a a low low)
    (λ high.
    let above : pos 0 <ℤ a = omega (arith, ints) in
    positive_product a a above above)

-- ---- a factor of known sign is taken away

-- above 0, of a product above 0
pub positive_factor : (a b : ℤ) → pos 0 <ℤ a → pos 0 <ℤ (a *ℤ b) → pos 0 <ℤ b
positive_factor a b sign_a product =
    by_lt_z (pos 0) b (λ above. above)
    (λ low.
    let below = weak_negative_product a b (omega (arith, ints)) low in
    absurd (omega (arith, ints)))

-- above 0, of a product below 0
pub negative_factor : (a b : ℤ) → pos 0 <ℤ a → (a *ℤ b) <ℤ pos 0 → b <ℤ pos 0
negative_factor a b sign_a product =
    by_lt_z b (pos 0) (λ below. below)
    (λ high.
    let above = weak_product a b (omega (arith, ints)) high in
    absurd (omega (arith, ints)))

-- above 0, of a product that is at least 0
pub weak_factor : (a b : ℤ) → pos 0 <ℤ a → pos 0 ≤ℤ (a *ℤ b) → pos 0 ≤ℤ b
weak_factor a b sign_a product =
    by_lt_z b (pos 0)
    (λ low.
    let below = negative_product a b sign_a low in
    absurd (omega (arith, ints)))
    (λ high. high)

-- above 0, of a product that is at most 0
pub weak_negative_factor : (a b : ℤ) → pos 0 <ℤ a → (a *ℤ b) ≤ℤ pos 0 → b ≤ℤ pos 0
weak_negative_factor a b sign_a product =
    by_lt_z (pos 0) b
    (λ high.
    let above = positive_product a b sign_a high in
    absurd (omega (arith, ints)))
    (λ low. low)

-- above 0, of a product that is 0
pub zero_of_positive : (a b : ℤ) → pos 0 <ℤ a → a *ℤ b ≡ pos 0 → b ≡ pos 0
zero_of_positive a b sign_a product =
    let high = weak_factor a b sign_a (omega (arith, ints)) in
    let low = weak_negative_factor a b sign_a (omega (arith, ints)) in
    omega (arith, ints)

-- of a product that is 0 one factor is 0
pub zero_product : (a b : ℤ) → a *ℤ b ≡ pos 0 → (a ≡ pos 0) ⊎ (b ≡ pos 0)
zero_product a b product = from (sign_cases a)
  where
    from : ((pos 0 <ℤ a) ⊎ (a ≡ pos 0)) ⊎ (a <ℤ pos 0) → (a ≡ pos 0) ⊎ (b ≡ pos 0)
    from (inl (inl above)) = inr (zero_of_positive a b above product)
    from (inl (inr zero)) = inl zero
    from (inr below) =
        let turned : pos 0 <ℤ (neg_ℤ a) = omega (arith, ints) in
        let turned_product = neg-mul a b in
        inr (zero_of_positive (neg_ℤ a) b turned (omega (arith, ints)))

-- a factor that is not 0 is taken away from a product that is 0
pub zero_factor : (a b : ℤ) → (a ≡ pos 0 → ⊥) → a *ℤ b ≡ pos 0 → b ≡ pos 0
zero_factor a b apart product = from (zero_product a b product)
  where
    from : (a ≡ pos 0) ⊎ (b ≡ pos 0) → b ≡ pos 0
    from (inl zero) = absurd (apart zero)
    from (inr zero) = zero

-- a square at most 0 is that of 0
pub square_of_zero : (a : ℤ) → (a *ℤ a) ≤ℤ pos 0 → a ≡ pos 0
square_of_zero a low =
    let weak = weak_square a in from (zero_product a a (omega (arith, ints)))
  where
    from : (a ≡ pos 0) ⊎ (a ≡ pos 0) → a ≡ pos 0
    from (inl zero) = zero
    from (inr zero) = zero

-- ---- an inequality is multiplied by a factor, and freed of one

-- a strict inequality, by a factor above 0
pub scale_less : (k a b : ℤ) → pos 0 <ℤ k → a <ℤ b → (k *ℤ a) <ℤ (k *ℤ b)
scale_less k a b sign_k order =
    let above = positive_product k (b -ℤ a) sign_k (omega (arith, ints)) in
    let spread = mul-sub k b a in
    omega (arith, ints)

-- a weak inequality, by a factor that is at least 0
pub scale_at_most : (k a b : ℤ) → pos 0 ≤ℤ k → a ≤ℤ b → (k *ℤ a) ≤ℤ (k *ℤ b)
scale_at_most k a b sign_k order =
    let above = weak_product k (b -ℤ a) sign_k (omega (arith, ints)) in
    let spread = mul-sub k b a in
    omega (arith, ints)

-- a strict inequality loses a factor that is at least 0
pub unscale_less : (k a b : ℤ) → pos 0 ≤ℤ k → (k *ℤ a) <ℤ (k *ℤ b) → a <ℤ b
unscale_less k a b sign_k order =
    by_lt_z a b (λ less. less)
    (λ more.
    let turned = scale_at_most k b a sign_k more in
    absurd (omega (arith, ints)))

-- a weak inequality loses a factor above 0
pub unscale_at_most : (k a b : ℤ) → pos 0 <ℤ k → (k *ℤ a) ≤ℤ (k *ℤ b) → a ≤ℤ b
unscale_at_most k a b sign_k order =
    by_lt_z b a
    (λ more.
    let turned = scale_less k b a sign_k more in
    absurd (omega (arith, ints)))
    (λ less. less)

-- an equation loses a factor that is not 0
pub unscale_equal : (k a b : ℤ) → (k ≡ pos 0 → ⊥) → k *ℤ a ≡ k *ℤ b → a ≡ b
unscale_equal k a b apart equation =
    let spread = mul-sub k a b in
    let zero = zero_factor k (a -ℤ b) apart (omega (arith, ints)) in
    omega (arith, ints)

-- ---- two signs, from a product and one of them

-- factors whose product is above 0 have one sign
pub same_signs : (a b : ℤ) → pos 0 <ℤ (a *ℤ b)
    → ((pos 0 <ℤ a) × (pos 0 <ℤ b)) ⊎ ((a <ℤ pos 0) × (b <ℤ pos 0))
same_signs a b product = from (sign_cases a)
  where
    from : ((pos 0 <ℤ a) ⊎ (a ≡ pos 0)) ⊎ (a <ℤ pos 0)
        → ((pos 0 <ℤ a) × (pos 0 <ℤ b)) ⊎ ((a <ℤ pos 0) × (b <ℤ pos 0))
    from (inl (inl above)) = inl (above, positive_factor a b above product)
    from (inl (inr zero)) =
        let none : a *ℤ b ≡ pos 0 = ap (λ n. n *ℤ b) zero ∙ zero-mul b in
        absurd (omega (arith, ints))
    from (inr below) =
        let turned : pos 0 <ℤ (neg_ℤ a) = omega (arith, ints) in
        let turned_product = neg-mul a b in
        inr (below, negative_factor (neg_ℤ a) b turned (omega (arith, ints)))
