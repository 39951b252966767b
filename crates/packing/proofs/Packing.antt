-- Bits packed into a number, lowest first: by induction on their count a packing is below the power of 2, its bits are the ones packed, and turning every bit over takes it from the highest number.
use mathlib.Core.Path.{◌≡◌, refl, sym, ap, ◌∙◌}
use Prim.Native.Nat.{ℕ, zero, suc, ◌+◌, ◌-◌, ◌*◌, ◌/◌, ◌%◌, ◌^◌, ◌<◌}
use native.Mathlib.Nat.{not-suc-le-zero, le_of_suc-le-suc, div-one, div-div-eq-div-mul, mul_comm, pow-suc}
use native.Mathlib.Numerals.{add-one}
use native.Mathlib.Omega.{arith}
use Rattle.packing.specs.Planes.{packed}

-- every bit is 0 or 1
abbrev pub Bits : (ℕ → ℕ) → Type 0
Bits f = (i : ℕ) → f i < 2

pub packed_none : (f : ℕ → ℕ) → packed 0 f ≡ 0
unfolding packed
packed_none f = refl

pub packed_more : (n : ℕ) (f : ℕ → ℕ) → packed (n + 1) f ≡ f 0 + 2 * packed n (λ i. f (suc i))
unfolding packed
packed_more n f = rw (add-one n)

-- the bits above the lowest
pub bits_above : (x j : ℕ) → x / 2 / 2 ^ j ≡ x / 2 ^ suc j
bits_above x j = div-div-eq-div-mul x 2 (2 ^ j) ∙ ap (λ (w : ℕ). x / w) (mul_comm 2 (2 ^ j) ∙ sym (pow-suc 2 j))

-- packings of the same bits
pub packed-same : (n : ℕ) (f g : ℕ → ℕ) → ((i : ℕ) → i < n → f i ≡ g i) → packed n f ≡ packed n g
unfolding packed
packed-same zero f g h = refl
packed-same (suc n) f g h = omega (arith, h 0 (omega arith), packed-same n (λ i. f (suc i)) (λ i. g (suc i)) (λ i l. h (suc i) (omega arith)))

pub packed_lt : (n : ℕ) (f : ℕ → ℕ) → Bits f → packed n f < 2 ^ n
unfolding packed
packed_lt zero f b = omega arith
packed_lt (suc n) f b = omega (arith, packed_lt n (λ i. f (suc i)) (λ i. b (suc i)), b 0)

-- the bits come back
pub packed-bit : (n : ℕ) (f : ℕ → ℕ) → Bits f → (j : ℕ) → j < n → packed n f / 2 ^ j % 2 ≡ f j
unfolding packed
packed-bit zero f b j h = absurd (not-suc-le-zero h)
packed-bit (suc n) f b zero h = ap (λ (x : ℕ). x % 2) (div-one (f 0 + 2 * packed n (λ i. f (suc i)))) ∙ omega (arith, b 0)
packed-bit (suc n) f b (suc j) h =
    let x = f 0 + 2 * packed n (λ i. f (suc i)) in
    let half : x / 2 ≡ packed n (λ i. f (suc i)) = omega (arith, b 0) in
    let down : x / 2 ^ suc j ≡ packed n (λ i. f (suc i)) / 2 ^ j = sym (bits_above x j) ∙ ap (λ (y : ℕ). y / 2 ^ j) half in
    ap (λ (y : ℕ). y % 2) down ∙ packed-bit n (λ i. f (suc i)) (λ i. b (suc i)) j (le_of_suc-le-suc h)

-- every bit turned over
pub packed-turned : (n : ℕ) (f g : ℕ → ℕ) → Bits f → ((i : ℕ) → g i ≡ 1 - f i) → packed n g + packed n f + 1 ≡ 2 ^ n
unfolding packed
packed-turned zero f g b h = refl
packed-turned (suc n) f g b h =
    omega (arith, packed-turned n (λ i. f (suc i)) (λ i. g (suc i)) (λ i. b (suc i)) (λ i. h (suc i)), h 0, b 0, pow-suc 2 n)

-- one bit more below m bits, of 8 from `first` on
pub packed-down : (f : ℕ → ℕ) (first m byte place : ℕ) → m < 8 → byte ≡ packed m (λ i. f (first + 8 - m + i)) → place ≡ first + 7 - m
    → 2 * byte + f place ≡ packed (m + 1) (λ i. f (first + 8 - (m + 1) + i))
packed-down f first m byte place h e k =
    let low : place ≡ first + 8 - (m + 1) + 0 = omega arith in
    let rest : packed m (λ i. f (first + 8 - (m + 1) + suc i)) ≡ packed m (λ i. f (first + 8 - m + i)) =
    packed-same m _ _ (λ i l. let s : first + 8 - (m + 1) + suc i ≡ first + 8 - m + i = omega arith in ap f s) in
    omega (arith, packed_more m (λ i. f (first + 8 - (m + 1) + i)), ap f low)

-- and all 8 of them
pub packed_all : (f : ℕ → ℕ) (first m byte : ℕ) → m ≡ 8 → byte ≡ packed m (λ i. f (first + 8 - m + i)) → byte ≡ packed 8 (λ i. f (first + i))
packed_all f first m byte h e =
    e ∙ ap (λ (m : ℕ). packed m (λ i. f (first + 8 - m + i))) h
    ∙ packed-same 8 _ _ (λ i l. let s : first + 8 - 8 + i ≡ first + i = omega arith in ap f s)
