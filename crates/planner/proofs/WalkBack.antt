-- The walk back through the rows, from the last layer: each layer takes the preferred count among those that give its entry, and the rest of the cells goes to the layers before it. Whatever those come to, the counts from k on stand.
use mathlib.Core.Bool.{cond}
use mathlib.Core.List.{List}
use mathlib.Core.Path.{◌≡◌, refl, sym, ap, subst, ◌∙◌}
use Prim.Native.Nat.{ℕ, suc, ◌+◌, ◌-◌, ◌*◌, ◌≤◌, ◌<◌}
use native.Mathlib.Nat.{le_refl}
use native.Mathlib.Decide.{dec_le, dec_lt}
use native.Mathlib.Omega.{arith}
use borrow.Author.Tests.{ltb-true, le-leb, lt-leb}
use lib.Dec.{leb}
use lib.ListN.{length, get_or, set, length-set}
use lib.Seq.{get_or-set_same, get_or-set_other}
use Rattle.header.specs.Plan.{layers_most}
use Rattle.planner.specs.Planning.{counts}
use Rattle.planner.specs.Workings.Table.{Layers, Preferred, Traced, none, choice, best}
use Rattle.planner.proofs.RisingCarry.{Rising}
use Rattle.planner.proofs.Entries.{least_at, choice-fits, choice-over, choice-within, choice-down, best-suc, best-start}

-- ---- a choice, from what the entry that it reads is carried to
pub choice-told :
    (L : Layers) (k c n used v own : ℕ) → used ≡ n * L.span k → (used ≤ c → v ≡ L.carry k (best L k (c - used))) → own ≡ L.charge k n
    → cond (leb used c) (v + own) none ≡ choice L k (best L k) c n
choice-told L k c n used v own eu ev eo =
    elim (dec_le used c) [
      | yes h ↦
          rw (le-leb used c h)
          (omega (arith, ev h, choice-fits L k (best L k) c n (omega arith), ap (λ (u : ℕ). L.carry k (best L k (c - u))) eu))
      | no h ↦ rw (lt-leb used c (omega arith)) (omega (arith, choice-over L k (best L k) c n (omega arith)))
    ]

-- ---- the preferred count: none before n gives the entry
module _ (L : Layers) (k c n : ℕ) (low : best L (suc k) c < none)
    (none_before : (i : ℕ) → i < n → choice L k (best L k) c i ≡ best L (suc k) c → ⊥) where
  pub preferred-here : n ≤ L.planes k → choice L k (best L k) c n ≡ best L (suc k) c → Preferred L k c n
  preferred-here h e =
      record {
        few = h;
        fits = choice-within L k (best L k) c n (omega arith);
        gives = e;
        first = λ i hi l g. none_before i (omega (arith, ltb-true)) g;
      }

  -- the last count does, where none before it does
  pub preferred-last : n ≡ L.planes k → Preferred L k c n
  preferred-last h =
      let r = least_at (choice L k (best L k) c) (suc (L.planes k)) (omega (arith, best-suc L k c)) in
      let g : choice L k (best L k) c r.0 ≡ best L (suc k) c = r.2 ∙ sym (best-suc L k c) in
      let e : r.0 ≡ n = elim (dec_lt r.0 n) [
        | yes l ↦ absurd (none_before r.0 l g)
        | no l ↦ omega (arith, r.1)
      ] in
      preferred-here (omega arith) (ap (choice L k (best L k) c) (sym e) ∙ g)

-- ---- how far the walk has come: c cells are left for the layers before k, which can reach them, and the counts from k on stand
abbrev Rest : Layers → List ℕ → ℕ → ℕ → ℕ → Type 0
Rest L plan size k c =
    (n : ℕ → ℕ) → ((j : ℕ) → k ≤ j → j < layers_most → n j ≡ get_or plan j 0) → Traced L k c n → Traced L layers_most size n

pub record Walked (L : Layers) (size : ℕ) (plan : List ℕ) (k c : ℕ) : Type 0 where
  pub layer : k ≤ layers_most
  pub inside : c ≤ size
  pub long : length plan ≡ layers_most
  pub low : best L k c < none
  pub rest : Rest L plan size k c

module _ (L : Layers) (size : ℕ) (plan : List ℕ) where
  pub walk_start : length plan ≡ layers_most → best L layers_most size < none → Walked L size plan layers_most size
  walk_start long low =
      record { layer = le_refl layers_most; inside = le_refl size; long = long; low = low; rest = λ n agree t. t }

  module _ (rising : Rising L) (k c r : ℕ) (w : Walked L size plan (suc k) c) (p : Preferred L k c r) where
    rest_more : Rest L (set plan k r) size k (c - r * L.span k)
    unfolding Traced
    rest_more n agree t =
        let e : r ≡ n k = sym (agree k (le_refl k) w.layer ∙ get_or-set_same plan k r 0 (omega (arith, w.layer, w.long))) in
        w.rest n (λ j l h. agree j (omega arith) h ∙ get_or-set_other plan k j r 0 (omega arith))
        (subst (λ (x : ℕ). Preferred L k c x × Traced L k (c - x * L.span k) n) e (p, t))

    pub walk_more : Walked L size (set plan k r) k (c - r * L.span k)
    walk_more =
        record {
          layer = omega (arith, w.layer);
          inside = omega (arith, w.inside);
          long = length-set plan k r ∙ w.long;
          low = choice-down L rising k c r p.fits (omega (arith, p.gives, w.low));
          rest = rest_more;
        }

  pub walk-done : (c : ℕ) → Walked L size plan 0 c → Traced L layers_most size (counts plan)
  unfolding Traced
  walk-done c w = w.rest (counts plan) (λ j p q. refl) (best-start L c w.low)
