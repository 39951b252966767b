-- THE LAW: a plan that is read off the table is the best, for any number of layers, any charges and any carry that rises. No plan stands below the
-- entry for its cells, and this one stands at it; one that goes before it on a tie would give a layer's least with a preferred count.
use mathlib.Core.Bool.{true, false, true≢false}
use mathlib.Core.Path.{◌≡◌, sym, ap, subst, ◌∙◌}
use Prim.Native.Nat.{ℕ, zero, suc, ◌+◌, ◌-◌, ◌*◌, ◌≤◌, ◌<◌}
use native.Mathlib.Nat.{le_refl, not-suc-le-zero}
use native.Mathlib.Decide.{dec_lt}
use native.Mathlib.Omega.{arith}
use Rattle.header.proofs.Bools.{not_yes}
use Rattle.planner.specs.Planning.{prefers, wins_tie}
use Rattle.planner.specs.Workings.Table.{Layers, cells, choice, best, Traced}
use Rattle.planner.proofs.Bridge.{standing}
use Rattle.planner.proofs.RisingCarry.{Rising, carry-mono, carry-one}
use Rattle.planner.proofs.Entries.{choice-fits, best-first, best-le}
use Rattle.planner.proofs.Orders.{by_cases}

-- a plan of the first k layers
abbrev pub IsPlan : Layers → ℕ → (ℕ → ℕ) → Type 0
IsPlan L k n = (j : ℕ) → j < k → n j ≤ L.planes j

-- n is no worse than m: less or the same by the first measure, on a tie by the second, and then m does not go before it
pub record NoWorse (first second : (ℕ → ℕ) → ℕ) (k : ℕ) (n m : ℕ → ℕ) : Type 0 where
  pub one : first n ≤ first m
  pub two : first m ≡ first n → second n ≤ second m
  pub tie : first m ≡ first n → second m ≡ second n → wins_tie k m n ≡ false

module _ (L : Layers) (rising : Rising L) where
  -- what a plan's own count of layer k gives, where the layers before it stand at their entry
  own-choice : (m : ℕ → ℕ) (k : ℕ) → choice L k (best L k) (cells L m (suc k)) (m k) ≡ L.carry k (best L k (cells L m k)) + L.charge k (m k)
  unfolding cells
  own-choice m k =
      choice-fits L k (best L k) (cells L m k + m k * L.span k) (m k) (omega arith)
      ∙ ap (λ (c : ℕ). L.carry k (best L k c) + L.charge k (m k)) (omega arith)

  -- no plan stands below the entry for its cells
  pub lower : (m : ℕ → ℕ) (k : ℕ) → IsPlan L k m → best L k (cells L m k) ≤ standing L m k
  unfolding cells standing
  lower m zero p = omega (arith, best-first L)
  lower m (suc k) p =
      omega (
        arith,
        best-le L k (cells L m (suc k)) (m k) (p k (le_refl (suc k))),
        own-choice m k,
        carry-mono L rising k (best L k (cells L m k)) (standing L m k) (lower m k (λ j l. p j (omega arith))),
      )

  -- ---- a plan that is read off
  pub traced-plan : (n : ℕ → ℕ) (k c : ℕ) → Traced L k c n → IsPlan L k n
  unfolding Traced
  traced-plan n zero c t j l = absurd (not-suc-le-zero l)
  traced-plan n (suc k) c t j l =
      elim (dec_lt j k) [
        | yes i ↦ traced-plan n k (c - n k * L.span k) t.1 j i
        | no i ↦ let e : k ≡ j = omega arith in subst (λ (x : ℕ). n x ≤ L.planes x) e t.0.few
      ]

  pub traced-cells : (n : ℕ → ℕ) (k c : ℕ) → Traced L k c n → cells L n k ≡ c
  unfolding Traced cells
  traced-cells n zero c t = sym t
  traced-cells n (suc k) c t = omega (arith, traced-cells n k (c - n k * L.span k) t.1, t.0.fits)

  pub traced-standing : (n : ℕ → ℕ) (k c : ℕ) → Traced L k c n → standing L n k ≡ best L k c
  unfolding Traced standing
  traced-standing n zero c t = rw t (sym (best-first L))
  traced-standing n (suc k) c t =
      ap (λ (x : ℕ). L.carry k x + L.charge k (n k)) (traced-standing n k (c - n k * L.span k) t.1)
      ∙ sym (choice-fits L k (best L k) c (n k) t.0.fits)
      ∙ t.0.gives

  -- of the plans in c cells that stand at the entry none goes before it
  traced-first : (m n : ℕ → ℕ) (k c : ℕ) → Traced L k c n → IsPlan L k m → cells L m k ≡ c → standing L m k ≡ best L k c → wins_tie k m n ≡ true → ⊥
  unfolding Traced wins_tie
  traced-first m n zero c t p ec es b = true≢false (sym b)
  traced-first m n (suc k) c t p ec es b =
      by_cases prefers (λ (x : ℕ → ℕ). x k) (wins_tie k) m n b
      (λ l. t.0.first (m k) (p k (le_refl (suc k))) l gives)
      (λ e r.
      traced-first m n k (c - n k * L.span k) t.1 below (rest e)
      (sym entry ∙ ap (best L k) (rest e))
      r)
    where
      below : IsPlan L k m
      below j l = p j (omega arith)

      stands : L.carry k (standing L m k) + L.charge k (m k) ≡ best L (suc k) c
      stands = unfold standing in es

      reads : choice L k (best L k) c (m k) ≡ L.carry k (best L k (cells L m k)) + L.charge k (m k)
      reads = ap (λ (x : ℕ). choice L k (best L k) x (m k)) (sym ec) ∙ own-choice m k

      under : L.carry k (best L k (cells L m k)) ≤ L.carry k (standing L m k)
      under = carry-mono L rising k (best L k (cells L m k)) (standing L m k) (lower m k below)

      over : best L (suc k) c ≤ choice L k (best L k) c (m k)
      over = best-le L k c (m k) (p k (le_refl (suc k)))

      gives : choice L k (best L k) c (m k) ≡ best L (suc k) c
      gives = omega (arith, stands, reads, under, over)

      entry : best L k (cells L m k) ≡ standing L m k
      entry = carry-one L rising k (best L k (cells L m k)) (standing L m k) (omega (arith, stands, reads, gives))

      rest : m k ≡ n k → cells L m k ≡ c - n k * L.span k
      rest e = unfold cells in (omega (arith, ec, ap (λ (x : ℕ). x * L.span k) e))

  module _ (k c : ℕ) (n : ℕ → ℕ) (t : Traced L k c n) where
    tied : (m : ℕ → ℕ) → IsPlan L k m → cells L m k ≡ cells L n k → standing L m k ≡ standing L n k → wins_tie k m n ≡ false
    tied m p ec es =
        not_yes (wins_tie k m n)
        (traced-first m n k c t p (ec ∙ traced-cells n k c t) (es ∙ traced-standing n k c t))

    -- from the first entry within a limit on what stands: fewest cells, then least standing
    pub least-cells : (room : ℕ) → ((b : ℕ) → b < c → room < best L k b)
        → (m : ℕ → ℕ) → IsPlan L k m → standing L m k ≤ room → NoWorse (λ x. cells L x k) (λ x. standing L x k) k n m
    least-cells room above m p l =
        record {
          one = elim (dec_lt (cells L m k) c) [
            | yes i ↦ omega (arith, above (cells L m k) i, lower m k p)
            | no i ↦ omega (arith, traced-cells n k c t)
          ];
          two = λ e. omega (arith, lower m k p, ap (best L k) (e ∙ traced-cells n k c t), traced-standing n k c t);
          tie = tied m p;
        }

    -- from the first of the least entries for at most so many cells: least standing, then fewest cells
    pub least-standing : (top : ℕ) → ((b : ℕ) → b < c → best L k c < best L k b) → ((b : ℕ) → b ≤ top → best L k c ≤ best L k b)
        → (m : ℕ → ℕ) → IsPlan L k m → cells L m k ≤ top → NoWorse (λ x. standing L x k) (λ x. cells L x k) k n m
    least-standing top first least m p l =
        record {
          one = omega (arith, least (cells L m k) l, lower m k p, traced-standing n k c t);
          two = λ e. elim (dec_lt (cells L m k) c) [
            | yes i ↦ omega (arith, first (cells L m k) i, lower m k p, traced-standing n k c t)
            | no i ↦ omega (arith, traced-cells n k c t)
          ];
          tie = λ es ec. tied m p ec es;
        }
