-- Words with a plane's bits added: by place. Inside the run a word has its bit more, elsewhere it is as it was; two runs that adjoin are one, and one bit more is one word set.
use mathlib.Core.Path.{◌≡◌, refl, sym, ap, ◌∙◌}
use mathlib.Core.Bool.{cond, ◌&&◌}
use mathlib.Core.List.{List}
use Prim.Native.Nat.{ℕ, ◌+◌, ◌*◌, ◌-◌, ◌^◌, ◌<◌, ◌≤◌}
use native.Mathlib.Nat.{le_refl, pow-le-pow_right, mul-le-mul_right, zero-mul}
use native.Mathlib.Decide.{dec_lt, ℕ_discrete}
use native.Mathlib.Omega.{arith}
use borrow.Author.Tests.{lt-ltb, le-ltb, le-leb, lt-leb}
use lib.Dec.{ltb, leb}
use lib.ListN.{length, get_or, set, length-set, get_or-eq_default}
use lib.Seq.{ext_get_or, get_or-set_same, get_or-set_other}
use Rattle.sheet.proofs.Lists.{length-tabulate, get_or-tabulate}
use Rattle.loading.specs.Workings.Words.{words_with}

-- a bit at place p
pub at_most : (b p m : ℕ) → b ≤ 1 → p ≤ m → b * 2 ^ p ≤ 2 ^ m
at_most b p m l k = omega (arith, mul-le-mul_right (2 ^ p) l, pow-le-pow_right {n = 2} (omega arith) k)

module _ (ws : List ℕ) (start n p : ℕ) (bit : ℕ → ℕ) where
  abbrev term : ℕ → ℕ
  term j = get_or ws j 0 + cond (leb start j && ltb j (start + n)) (bit (j - start) * 2 ^ p) 0

  pub with-length : length (words_with ws start n p bit) ≡ length ws
  unfolding words_with
  with-length = length-tabulate (length ws) term

  with_at : (j : ℕ) → j < length ws → get_or (words_with ws start n p bit) j 0 ≡ term j
  unfolding words_with
  with_at j l = get_or-tabulate (length ws) term j 0 l

  pub with_in : (j : ℕ) → start ≤ j → j < start + n → j < length ws → get_or (words_with ws start n p bit) j 0 ≡ get_or ws j 0 + bit (j - start) * 2 ^ p
  with_in j a b l = with_at j l ∙ rw (le-leb start j a, lt-ltb j (start + n) b)

  with-past : (j : ℕ) → length ws ≤ j → get_or (words_with ws start n p bit) j 0 ≡ get_or ws j 0
  with-past j l =
      get_or-eq_default (words_with ws start n p bit) 0 (omega (arith, with-length))
      ∙ sym (get_or-eq_default ws 0 l)

  pub with-before : (j : ℕ) → j < start → get_or (words_with ws start n p bit) j 0 ≡ get_or ws j 0
  with-before j a =
      elim (dec_lt j (length ws)) [
        | yes l ↦ with_at j l ∙ rw (lt-leb start j a) (omega arith)
        | no l ↦ with-past j (omega arith)
      ]

  pub with-after : (j : ℕ) → start + n ≤ j → get_or (words_with ws start n p bit) j 0 ≡ get_or ws j 0
  with-after j a =
      elim (dec_lt j (length ws)) [
        | yes l ↦ let k : start ≤ j = omega arith in with_at j l ∙ rw (le-leb start j k, le-ltb j (start + n) a) (omega arith)
        | no l ↦ with-past j (omega arith)
      ]

  -- words that are so by place
  pub with-by : (vs : List ℕ) → length vs ≡ length ws
      → ((j : ℕ) → j < start → get_or vs j 0 ≡ get_or ws j 0)
      → ((j : ℕ) → start ≤ j → j < start + n → j < length ws → get_or vs j 0 ≡ get_or ws j 0 + bit (j - start) * 2 ^ p)
      → ((j : ℕ) → start + n ≤ j → get_or vs j 0 ≡ get_or ws j 0)
      → vs ≡ words_with ws start n p bit
  with-by vs same before inside after =
      ext_get_or 0 vs (words_with ws start n p bit) (same ∙ sym with-length)
      (λ j l.
      elim (dec_lt j start) [
        | yes a ↦ before j a ∙ sym (with-before j a)
        | no a ↦
            elim (dec_lt j (start + n)) [
              | yes b ↦ inside j (omega arith) b (omega arith) ∙ sym (with_in j (omega arith) b (omega arith))
              | no b ↦ after j (omega arith) ∙ sym (with-after j (omega arith))
            ]
      ])

-- no bits
pub with_none : (ws : List ℕ) (start p : ℕ) (bit : ℕ → ℕ) → ws ≡ words_with ws start 0 p bit
with_none ws start p bit =
    with-by ws start 0 p bit ws refl (λ j _. refl) (λ j a b l. absurd (let z : ⊥ = omega arith in z)) (λ j _. refl)

-- one bit more
pub with-next : (ws : List ℕ) (start n p : ℕ) (bit : ℕ → ℕ) (v : ℕ) → start + n < length ws
    → v ≡ get_or (words_with ws start n p bit) (start + n) 0 + bit n * 2 ^ p
    → set (words_with ws start n p bit) (start + n) v ≡ words_with ws start (n + 1) p bit
with-next ws start n p bit v l e =
    let vs = words_with ws start n p bit in
    let other : (j : ℕ) → (j ≡ start + n → ⊥) → get_or (set vs (start + n) v) j 0 ≡ get_or vs j 0 = λ j h. get_or-set_other vs (start + n) j v 0 h in
    with-by ws start (n + 1) p bit (set vs (start + n) v) (length-set vs (start + n) v ∙ with-length ws start n p bit)
    (λ j a. other j (λ q. let z : ⊥ = omega arith in z) ∙ with-before ws start n p bit j a)
    (λ j a b m.
    elim (ℕ_discrete j (start + n)) [
      | yes q ↦
          let d : n ≡ j - start = omega arith in
          ap (λ (x : ℕ). get_or (set vs (start + n) v) x 0) q
          ∙ get_or-set_same vs (start + n) v 0 (omega (arith, with-length ws start n p bit))
          ∙ e
          ∙ ap (λ (x : ℕ). x + bit n * 2 ^ p) (with-after ws start n p bit (start + n) (le_refl (start + n)) ∙ ap (λ (x : ℕ). get_or ws x 0) (sym q))
          ∙ ap (λ (x : ℕ). get_or ws j 0 + bit x * 2 ^ p) d
      | no q ↦ other j q ∙ with_in ws start n p bit j a (omega arith) m
    ])
    (λ j a. other j (λ q. let z : ⊥ = omega arith in z) ∙ with-after ws start n p bit j (omega arith))

-- a run behind a run
pub with-run : (ws : List ℕ) (start n m p : ℕ) (f g : ℕ → ℕ) → ((i : ℕ) → i < m → g i ≡ f (n + i))
    → words_with (words_with ws start n p f) (start + n) m p g ≡ words_with ws start (n + m) p f
with-run ws start n m p f g h =
    let vs = words_with ws start n p f in
    with-by ws start (n + m) p f (words_with vs (start + n) m p g) (with-length vs (start + n) m p g ∙ with-length ws start n p f)
    (λ j a. with-before vs (start + n) m p g j (omega arith) ∙ with-before ws start n p f j a)
    (λ j a b l.
    elim (dec_lt j (start + n)) [
      | yes k ↦ with-before vs (start + n) m p g j k ∙ with_in ws start n p f j a k l
      | no k ↦
          let d : n + (j - (start + n)) ≡ j - start = omega arith in
          with_in vs (start + n) m p g j (omega arith) (omega arith) (omega (arith, with-length ws start n p f))
          ∙ ap (λ (x : ℕ). x + g (j - (start + n)) * 2 ^ p) (with-after ws start n p f j (omega arith))
          ∙ ap (λ (x : ℕ). get_or ws j 0 + x * 2 ^ p) (h (j - (start + n)) (omega arith) ∙ ap f d)
    ])
    (λ j a. with-after vs (start + n) m p g j (omega arith) ∙ with-after ws start n p f j (omega arith))

-- the same numbers, given at another place
pub with-same : (ws : List ℕ) (start n p q : ℕ) (f g : ℕ → ℕ) → ((i : ℕ) → i < n → f i * 2 ^ p ≡ g i * 2 ^ q)
    → words_with ws start n p f ≡ words_with ws start n q g
with-same ws start n p q f g h =
    with-by ws start n q g (words_with ws start n p f) (with-length ws start n p f)
    (λ j a. with-before ws start n p f j a)
    (λ j a b l. with_in ws start n p f j a b l ∙ ap (λ (x : ℕ). get_or ws j 0 + x) (h (j - start) (omega arith)))
    (λ j a. with-after ws start n p f j a)

-- no bits behind the first m
pub with-zeros : (ws : List ℕ) (start m n p : ℕ) (f : ℕ → ℕ) → m ≤ n → ((i : ℕ) → m ≤ i → i < n → f i ≡ 0)
    → words_with ws start m p f ≡ words_with ws start n p f
with-zeros ws start m n p f k h =
    with-by ws start n p f (words_with ws start m p f) (with-length ws start m p f)
    (λ j a. with-before ws start m p f j a)
    (λ j a b l.
    elim (dec_lt j (start + m)) [
      | yes c ↦ with_in ws start m p f j a c l
      | no c ↦
          let none : f (j - start) * 2 ^ p ≡ 0 = ap (λ (x : ℕ). x * 2 ^ p) (h (j - start) (omega arith) (omega arith)) ∙ zero-mul (2 ^ p) in
          with-after ws start m p f j (omega arith) ∙ (let e : get_or ws j 0 ≡ get_or ws j 0 + f (j - start) * 2 ^ p = omega (arith, none) in e)
    ])
    (λ j a. with-after ws start m p f j (omega arith))
