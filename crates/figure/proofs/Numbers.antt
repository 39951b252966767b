-- The card's numbers: what d missing planes lose is the number listed for them, and where none is listed the closed loss. So it is a u32 where the numbers are.
use mathlib.Core.List.{List}
use mathlib.Core.Path.{◌≡◌, refl, sym, ap, ◌∙◌}
use Prim.Native.Nat.{ℕ, zero, suc, ◌+◌, ◌-◌, ◌^◌, ◌<◌, ◌≤◌}
use native.Mathlib.Decide.{dec_lt}
use native.Mathlib.Omega.{arith}
use lib.ListN.{length, get_or, get_or-eq_default}
use lib.Seq.{set-get_or, get_or-set_same}
use Rattle.digits.specs.Digits.{loss}
use Rattle.digits.proofs.Losses.{loss-rises, loss-none}
use Rattle.header.specs.Header.{places_most}
use Rattle.figure.specs.Figure.{loss_from}

-- each number is a u32
abbrev pub Small : List ℕ → Type 0
Small ls = (i : ℕ) → get_or ls i 0 < 2 ^ 32

-- within a list it does not matter what stands past its end
listed : (l : List ℕ) (i a b : ℕ) → i < length l → get_or l i a ≡ get_or l i b
listed l i a b h = sym (get_or-set_same l i (get_or l i a) b h) ∙ ap (λ (m : List ℕ). get_or m i b) (set-get_or l i a)

module _ (ls : List ℕ) (first : ℕ) where
  -- where no plane is missing nothing is lost
  pub none-lost : loss_from ls first 0 ≡ 0
  unfolding loss_from
  none-lost = refl

  pub loss-past : (d : ℕ) → length ls ≤ first + (d - 1) → loss d ≡ loss_from ls first d
  unfolding loss_from
  loss-past zero h = loss-none
  loss-past (suc j) h = sym (get_or-eq_default ls (loss (suc j)) {n = first + j} (omega arith))

  pub loss-listed : (i d : ℕ) → 0 < d → i ≡ first + d - 1 → i < length ls → get_or ls i 0 ≡ loss_from ls first d
  unfolding loss_from
  loss-listed i zero p e h = absurd (let z : ⊥ = omega arith in z)
  loss-listed i (suc j) p e h = let at : i ≡ first + j = omega arith in listed ls i 0 (loss (suc j)) h ∙ ap (λ (k : ℕ). get_or ls k (loss (suc j))) at

  pub loss-small : Small ls → (d : ℕ) → d ≤ places_most → loss_from ls first d < 2 ^ 32
  loss-small small zero few = omega (arith, none-lost)
  loss-small small (suc j) few =
      elim (dec_lt (first + j) (length ls)) [
        | yes l ↦ omega (arith, loss-listed (first + j) (suc j) (omega arith) (omega arith) l, small (first + j))
        | no l ↦ omega (arith, loss-past (suc j) (omega arith), loss-rises (suc j) places_most few, closed)
      ]
    where
      closed : loss places_most ≡ 2 ^ 22
      closed = unfold loss in refl
