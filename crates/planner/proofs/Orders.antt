-- Which of two plans is better is a strict order that tells any two plans apart: to compare by a key and on a tie by such an order is such an order again, and the tie rule and the two measures are made so.
use mathlib.Core.Bool.{Bool, true, false, ◌&&◌, ◌||◌, true≢false}
use mathlib.Core.List.{List}
use mathlib.Core.Path.{◌≡◌, refl, sym, subst, ◌∙◌}
use Prim.Native.Nat.{ℕ, zero, suc, ◌<◌, ◌≤◌}
use native.Mathlib.Nat.{not-suc-le-zero}
use native.Mathlib.Decide.{dec_lt}
use native.Mathlib.Omega.{arith}
use borrow.Author.Tests.{ltb-true, ltb-false, lt-ltb, le-ltb, eqb-true, eq-eqb}
use lib.Dec.{ltb, eqb}
use lib.ListN.{length}
use lib.Seq.{ext_get_or}
use Rattle.header.specs.Plan.{layers_most}
use Rattle.header.proofs.Bools.{or_left, or_right, or_cases, and_both, and_left, and_right, not_yes}
use Rattle.planner.specs.Planning.{counts, prefers, wins_tie, better}

-- ---- strict orders
module _ {A : Type 0} where
  pub record Strict (less : A → A → Bool) : Type 0 where
    pub self : (a : A) → less a a ≡ false
    pub trans : (a b c : A) → less a b ≡ true → less b c ≡ true → less a c ≡ true

-- of any two different numbers one goes first
abbrev pub Apart : (ℕ → ℕ → Bool) → Type 0
Apart less = (a b : ℕ) → less a b ≡ false → less b a ≡ false → a ≡ b

-- by a key, then by the rest
module _ {A : Type 0} (less : ℕ → ℕ → Bool) (key : A → ℕ) (rest : A → A → Bool) where
  abbrev pub by_then : A → A → Bool
  by_then a b = less (key a) (key b) || (eqb (key a) (key b) && rest a b)

  module _ (a b : A) where
    by_key : less (key a) (key b) ≡ true → by_then a b ≡ true
    by_key p = or_left (less (key a) (key b)) (eqb (key a) (key b) && rest a b) p

    by-rest : key a ≡ key b → rest a b ≡ true → by_then a b ≡ true
    by-rest e p =
        or_right (less (key a) (key b)) (eqb (key a) (key b) && rest a b)
        (and_both (eqb (key a) (key b)) (rest a b) (eq-eqb (key a) (key b) e) p)

    pub by_cases : {P : Type 0} → by_then a b ≡ true → (less (key a) (key b) ≡ true → P) → (key a ≡ key b → rest a b ≡ true → P) → P
    by_cases p f g =
        or_cases (less (key a) (key b)) (eqb (key a) (key b) && rest a b) p f
        (λ q. g (eqb-true (key a) (key b) (and_left (eqb (key a) (key b)) (rest a b) q)) (and_right (eqb (key a) (key b)) (rest a b) q))

  pub then-strict : Strict less → Strict rest → Strict by_then
  then-strict s t =
      record {
        self = λ a. not_yes (by_then a a) (λ p. by_cases a a p (λ q. true≢false (sym q ∙ s.self (key a))) (λ _ q. true≢false (sym q ∙ t.self a)));
        trans = λ a b c p q.
            by_cases a b p
            (λ x. by_cases b c q
            (λ y. by_key a c (s.trans (key a) (key b) (key c) x y))
            (λ e _. by_key a c (subst (λ (n : ℕ). less (key a) n ≡ true) e x)))
            (λ d x. by_cases b c q
            (λ y. by_key a c (subst (λ (n : ℕ). less n (key c) ≡ true) (sym d) y))
            (λ e y. by-rest a c (d ∙ e) (t.trans a b c x y)));
      }

  -- two that neither goes before the other have one key, and so it is in the rest
  pub then-apart : Apart less → (a b : A) → by_then a b ≡ false → by_then b a ≡ false
      → (key a ≡ key b) × (rest a b ≡ false) × (rest b a ≡ false)
  then-apart apart a b p q =
      let e : key a ≡ key b = apart (key a) (key b) (no_key a b p) (no_key b a q) in
      (e, no-rest a b p e, no-rest b a q (sym e))
    where
      no_key : (x y : A) → by_then x y ≡ false → less (key x) (key y) ≡ false
      no_key x y f = not_yes (less (key x) (key y)) (λ t. true≢false (sym (by_key x y t) ∙ f))

      no-rest : (x y : A) → by_then x y ≡ false → key x ≡ key y → rest x y ≡ false
      no-rest x y f e = not_yes (rest x y) (λ t. true≢false (sym (by-rest x y e t) ∙ f))

-- ---- the keys
pub ltb-strict : Strict ltb
ltb-strict =
    record {
      self = λ a. le-ltb a a (omega arith);
      trans = λ a b c p q. lt-ltb a c (omega (arith, ltb-true a b p, ltb-true b c q));
    }

pub ltb-apart : Apart ltb
ltb-apart a b p q = omega (arith, ltb-false a b p, ltb-false b a q)

-- whichever of two counts is preferred
pub prefers-strict : Strict prefers
prefers-strict =
    record {
      self = λ a. omega (arith, le-ltb);
      trans = λ a b c p q. omega (arith, ltb-true, lt-ltb);
    }

pub prefers-apart : Apart prefers
prefers-apart a b p q = omega (arith, ltb-false)

-- ---- the tie rule
pub before-strict : (k : ℕ) → Strict (wins_tie k)
unfolding wins_tie
before-strict zero = record { self = λ _. refl; trans = λ _ _ _ p _. p }
before-strict (suc k) = then-strict prefers (λ (m : ℕ → ℕ). m k) (wins_tie k) prefers-strict (before-strict k)

pub before-apart : (k : ℕ) (m n : ℕ → ℕ) → wins_tie k m n ≡ false → wins_tie k n m ≡ false → (j : ℕ) → j < k → m j ≡ n j
unfolding wins_tie
before-apart zero m n p q j l = absurd (not-suc-le-zero l)
before-apart (suc k) m n p q j l =
    let r = then-apart prefers (λ (x : ℕ → ℕ). x k) (wins_tie k) prefers-apart m n p q in
    elim (dec_lt j k) [
      | yes i ↦ before-apart k m n r.1 r.2 j i
      | no i ↦ let e : k ≡ j = omega arith in subst (λ (x : ℕ). m x ≡ n x) e r.0
    ]

-- ---- two measures and the tie rule
module _ (first second : List ℕ → ℕ) where
  abbrev tie : List ℕ → List ℕ → Bool
  tie ms ns = wins_tie layers_most (counts ms) (counts ns)

  pub better-strict : Strict (better first second)
  unfolding better
  better-strict =
      then-strict ltb first (by_then ltb second tie) ltb-strict (then-strict ltb second tie ltb-strict tie-strict)
    where
      tie-strict : Strict tie
      tie-strict =
          let s = before-strict layers_most in
          record {
            self = λ ms. s.self (counts ms);
            trans = λ ms ns os. s.trans (counts ms) (counts ns) (counts os);
          }

  pub better-apart : (ms ns : List ℕ) → length ms ≡ layers_most → length ns ≡ layers_most
      → better first second ms ns ≡ false → better first second ns ms ≡ false → ms ≡ ns
  unfolding better
  better-apart ms ns l m p q =
      let r = then-apart ltb first (by_then ltb second tie) ltb-apart ms ns p q in
      let s = then-apart ltb second tie ltb-apart ms ns r.1 r.2 in
      ext_get_or 0 ms ns (l ∙ sym m) (λ i h. before-apart layers_most (counts ms) (counts ns) s.1 s.2 i (omega arith))

  -- one that is no less by the first measure, on a tie no less by the second, and on a tie there not before, is not better
  pub not-better : (ms ns : List ℕ) → first ns ≤ first ms → (first ms ≡ first ns → second ns ≤ second ms)
      → (first ms ≡ first ns → second ms ≡ second ns → wins_tie layers_most (counts ms) (counts ns) ≡ false)
      → better first second ms ns ≡ false
  unfolding better
  not-better ms ns f s t =
      not_yes (better first second ms ns) (λ p.
      by_cases ltb first (by_then ltb second tie) ms ns p
      (λ l. absurd (let z : ⊥ = omega (arith, ltb-true (first ms) (first ns) l) in z))
      (λ e q. by_cases ltb second tie ms ns q
      (λ l. absurd (let z : ⊥ = omega (arith, s e, ltb-true (second ms) (second ns) l) in z))
      (λ d b. true≢false (sym b ∙ t e d))))
