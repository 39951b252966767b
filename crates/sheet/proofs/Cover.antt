-- Every point stands in some layer, in none before its own, and looks only at points of layers before its own, for every number of levels and
-- of directions: after m levels the points at multiples of 2^(L - m) are known, by induction on m, and inside a level by induction on the
-- directions done. A sheet has no direction between, and needs none: its depth index is 0.
use mathlib.Core.Path.{◌≡◌, refl, sym, ap, subst, ◌∙◌}
use mathlib.Core.Bool.{Bool, true, false, ◌&&◌, ◌||◌, false≢true}
use Prim.Native.Nat.{ℕ, zero, suc, ◌+◌, ◌-◌, ◌*◌, ◌/◌, ◌%◌, ◌^◌, ◌<◌, ◌≤◌}
use native.Mathlib.Nat.{le_refl, mod-one, zero-mod, pow-succ', div-add-mod', mod-lt, div-lt_iff_lt-mul}
use native.Mathlib.Omega.{arith}
use lib.Arith.{digits_div, digits_mod}
use lib.Dec.{ltb}
use lib.Pow.{pow_pos}
use borrow.Author.Tests.{eq-eqb, ne_eqb, ltb-false}
use Rattle.integers.specs.Floor.{ceil_div}
use Rattle.sheet.specs.declared.Shape.{Shape}
use Rattle.sheet.specs.Sheet.{directions, layers, turn, member, direction, spacing, has}
use Rattle.integers.proofs.Bools.{and_both, by}
use Rattle.sheet.proofs.Accepting.{two-three}
use Rattle.sheet.proofs.Earlier.{mult, coarse, before, before-none, Looks, looks-before, next}

-- does the point at sheet z, row r and column c stand in one of the first k layers?
unfoldable pub known : Shape → ℕ → ℕ → ℕ → ℕ → Bool
known sh zero z r c = false
known sh (suc k) z r c = known sh k z r c || has sh k z r c

module _ (sh : Shape) where
  abbrev N : ℕ
  N = directions sh

  -- layer k is direction i of a level that m levels stand before and j after
  pub record Turn (k m i j : ℕ) : Type 0 where
    pub number : k ≡ suc (m * N + i)
    pub among : i < N
    pub levels : sh.levels ≡ m + suc j

  module _ {k m i j : ℕ} (t : Turn k m i j) where
    pub turn-direction : direction sh k ≡ turn i
    turn-direction =
        let one : k - 1 ≡ m * N + i = omega (arith, t.number) in
        let rest : (k - 1) % N ≡ i = ap (λ (x : ℕ). x % N) one ∙ digits_mod m t.among in
        let some : k ≡ 0 → ⊥ = λ e. omega (arith, t.number) in
        simp (ne_eqb k 0 some, rest)

    pub turn-spacing : spacing sh k ≡ 2 ^ j
    unfolding spacing ceil_div
    turn-spacing =
        let up : k + (N - 1) ≡ suc m * N + i = omega (arith, t.number, t.among) in
        let level : (k + (N - 1)) / N ≡ suc m = ap (λ (x : ℕ). x / N) up ∙ digits_div (suc m) t.among in
        ap (λ (x : ℕ). 2 ^ x) (omega (arith, level, t.levels))

    turn-has : (z r c : ℕ) → has sh k z r c ≡ member (turn i) (2 ^ j) z r c
    turn-has z r c = rw (turn-direction, turn-spacing)

    few : i < 3
    few = omega (arith, t.among, two-three sh)

  -- a layer is the anchors' or such a one
  pub data View (k : ℕ) : Type 0 where
    anchors : k ≡ 0 → View k
    turned : (m i j : ℕ) → Turn k m i j → View k

  pub view : (k : ℕ) → k < layers sh → View k
  view zero h = anchors refl
  view (suc k) h =
      let some : 0 < N = omega (arith, two-three sh) in
      let in-level : k / N < sh.levels = (div-lt_iff_lt-mul some).1 (omega arith) in
      turned (k / N) (k % N) (sh.levels - suc (k / N)) (record { number = omega (arith, div-add-mod' k N); among = mod-lt k some; levels = omega arith })

  anchor-spacing : spacing sh 0 ≡ 2 ^ sh.levels
  unfolding spacing ceil_div
  anchor-spacing =
      let last : 0 + (N - 1) ≡ 0 * N + (N - 1) = omega arith in
      let none : (0 + (N - 1)) / N ≡ 0 = ap (λ (x : ℕ). x / N) last ∙ digits_div 0 (omega (arith, two-three sh)) in
      ap (λ (x : ℕ). 2 ^ x) (omega (arith, none))

  module _ (z r c : ℕ) where
    known-first : known sh 1 z r c ≡ has sh 0 z r c
    unfolding known
    known-first = refl

    known_more : (k : ℕ) → known sh (suc k) z r c ≡ known sh k z r c || has sh k z r c
    unfolding known
    known_more k = refl

    none-known : known sh 0 z r c ≡ true → ⊥
    unfolding known
    none-known e = false≢true e

    -- inside a level, with i directions done
    in-level : (m j : ℕ) → sh.levels ≡ m + suc j → known sh (suc (m * N)) z r c ≡ coarse (2 ^ suc j) z r c → (i : ℕ) → i ≤ N
        → known sh (suc (m * N + i)) z r c ≡ before i (2 ^ j) z r c
    in-level m j e start zero h =
        let z0 : m * N + 0 ≡ m * N = omega arith in
        rw (z0, start, pow-succ' 2 j)
    in-level m j e start (suc i) h =
        let up : m * N + suc i ≡ suc (m * N + i) = omega arith in
        let t : Turn (suc (m * N + i)) m i j = record { number = refl; among = h; levels = e } in
        ap (λ (k : ℕ). known sh (suc k) z r c) up
        ∙ known_more (suc (m * N + i)) ∙ rw (in-level m j e start i (omega arith), turn-has t z r c) (next i (2 ^ j) z r c (few t) (pow_pos j))

    module _ (hz : z < sh.depth) where
      -- all directions of a level done: the depth index of a sheet is 0, a multiple of anything
      level-done : (s : ℕ) → before N s z r c ≡ coarse s z r c
      unfolding directions
      level-done s =
          by (ltb 1 sh.depth) (λ y. rw y)
          (λ n. let flat : z ≡ 0 = omega (arith, ltb-false 1 sh.depth n) in rw (n, flat, zero-mod s, zero-mod (2 * s)))

      -- after m levels, with j to come, the points at multiples of 2^j are known
      pub passes : (m j : ℕ) → sh.levels ≡ m + j → known sh (suc (m * N)) z r c ≡ coarse (2 ^ j) z r c
      passes zero j e =
          let z0 : 0 * N ≡ 0 = omega arith in
          let e' : sh.levels ≡ j = omega arith in
          ap (λ (k : ℕ). known sh (suc k) z r c) z0 ∙ known-first ∙ rw (anchor-spacing, e')
      passes (suc m) j e =
          let e' : sh.levels ≡ m + suc j = omega arith in
          let up : suc m * N ≡ m * N + N = omega arith in
          ap (λ (k : ℕ). known sh (suc k) z r c) up ∙ in-level m j e' (passes m (suc j) e') N (le_refl N) ∙ level-done (2 ^ j)

      -- every point is in one of the layers
      pub all_known : known sh (layers sh) z r c ≡ true
      all_known =
          let up : layers sh ≡ suc (sh.levels * N) = omega arith in
          ap (λ (k : ℕ). known sh k z r c) up ∙ passes sh.levels 0 (omega arith)
          ∙ and_both (mult 1 z && mult 1 r) (mult 1 c) (and_both (mult 1 z) (mult 1 r) (eq-eqb _ _ (mod-one z)) (eq-eqb _ _ (mod-one r))) (eq-eqb _ _ (mod-one c))

      -- what is known before a layer
      turn-known : {k m i j : ℕ} → Turn k m i j → known sh k z r c ≡ before i (2 ^ j) z r c
      turn-known {k} {m} {i} {j} t =
          ap (λ (x : ℕ). known sh x z r c) t.number ∙ in-level m j t.levels (passes m (suc j) t.levels) i (omega (arith, t.among))

      -- a point of layer k stands in no layer before it
      pub fresh : (k : ℕ) → k < layers sh → known sh k z r c ≡ true → has sh k z r c ≡ false
      fresh k h e = go (view k h)
        where
          go : View k → has sh k z r c ≡ false
          go (anchors f) = absurd (none-known (subst (λ (x : ℕ). known sh x z r c ≡ true) f e))
          go (turned m i j t) = turn-has t z r c ∙ before-none i (2 ^ j) z r c (few t) (pow_pos j) (sym (turn-known t) ∙ e)

  -- and what it looks at stands in a layer before it
  pub looks-known : (k z r c z' r' c' : ℕ) → k < layers sh → z' < sh.depth → has sh k z r c ≡ true → Looks (direction sh k) (spacing sh k) z r c z' r' c'
      → known sh k z' r' c' ≡ true
  looks-known k z r c z' r' c' h hz m lo = go (view k h)
    where
      go : View k → known sh k z' r' c' ≡ true
      go (anchors f) = absurd (subst (λ (x : ℕ). Looks (direction sh x) (spacing sh x) z r c z' r' c') f lo)
      go (turned n i j t) =
          turn-known z' r' c' hz t
          ∙ looks-before i (2 ^ j) z r c z' r' c' (few t) (sym (turn-has t z r c) ∙ m) (rw (turn-direction t, turn-spacing t) at lo)
