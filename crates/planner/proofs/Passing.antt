-- One pass over a row: each entry becomes the lesser of itself and of what an entry of the row before is carried to with the planes' charge, and no other entry changes. So one more count of planes is tried: below its cells no choice fits, and above what the row before reaches nothing stands.
use mathlib.Core.Bool.{true}
use mathlib.Core.List.{List}
use mathlib.Core.Path.{◌≡◌, ap, ◌∙◌}
use Prim.Native.Nat.{ℕ, suc, ◌+◌, ◌-◌, ◌*◌, ◌≤◌, ◌<◌, min}
use native.Mathlib.Nat.{mul-le-mul_right}
use native.Mathlib.Decide.{dec_lt}
use native.Mathlib.Omega.{arith}
use Rattle.std.proofs.Common.{zero-add}
use lib.ListN.{length, get_or, take, drop, length-take, length-drop}
use borrow.Rule.Slice.PartMut.{put_mid}
use borrow.Author.Rules.{rules}
use Rattle.std.proofs.lemmas.List.{places}
use Rattle.header.specs.declared.Header.{Header}
use Rattle.header.specs.Header.{planes_of}
use Rattle.header.specs.Workings.{cells_most, cells_at}
use Rattle.header.specs.Plan.{layers_most}
use Rattle.header.specs.Opening.{well_formed}
use Rattle.planner.specs.Workings.Table.{Layers, layers_of, Tried, Passed, cells, reach, row_length, least_of, choice, best}
use Rattle.planner.proofs.RisingCarry.{Rising, carry-up}
use Rattle.planner.proofs.Entries.{least-suc, least-most, choice-fits, choice-over, best_none, reach-most}

-- a pass over a part of a table, which has m entries, is one over the table
pub pass-part : (f : ℕ → ℕ) (to n m : ℕ) (t₀ part : List ℕ) → m ≡ n → to + n ≤ length t₀ → Passed f 0 (take m (drop to t₀)) part (length (take m (drop to t₀))) → Passed f to t₀ (put_mid to m t₀ part) n
pass-part f to n m t₀ part e h p =
    let all : length (take m (drop to t₀)) ≡ n = omega (arith, length-take m (drop to t₀), length-drop to t₀) in
    let many : length part ≡ n = omega (arith, p.long) in
    record {
      long = search (rules, places);
      done = λ b l.
          let new : get_or (put_mid to m t₀ part) (to + b) 0 ≡ get_or part b 0 = search (rules, places) in
          let old : get_or (take m (drop to t₀)) b 0 ≡ get_or t₀ (to + b) 0 = search (rules, places) in
          new ∙ (rw zero-add at (p.done b (omega arith))) ∙ ap (λ (x : ℕ). min x (f b)) old;
      below = λ i l. search (rules, places);
      above = λ i l. search (rules, places);
    }

-- the same places by other names
pub pass-as : (f : ℕ → ℕ) (to to' : ℕ) (t₀ t : List ℕ) (c c' : ℕ) → to ≡ to' → c ≡ c' → Passed f to t₀ t c → Passed f to' t₀ t c'
pass-as f to to' t₀ t c c' et ec p = rw (← et, ← ec) p

-- ---- a count of planes is tried by a pass from row k to row k + 1, as far on as its planes have cells
module _ (L : Layers) (rising : Rising L) (k n : ℕ) (f : ℕ → ℕ) (is : (b : ℕ) → b ≤ reach L k → f b ≡ L.carry k (best L k b) + L.charge k n) where
  abbrev used : ℕ
  used = n * L.span k

  abbrev least : ℕ → ℕ → ℕ
  least c = least_of (choice L k (best L k) c)

  module _ (t₀ t : List ℕ) (tried : Tried L t₀ k n) (p : Passed f (suc k * row_length + used) t₀ t (reach L k + 1)) where
    -- fewer cells than the planes have
    under : (c : ℕ) → c < row_length → c < used → get_or t (suc k * row_length + c) 0 ≡ least c (suc n)
    under c l u =
        omega (
          arith,
          p.below (suc k * row_length + c) (omega arith),
          tried.next c l,
          least-suc (choice L k (best L k) c) n,
          least-most (choice L k (best L k) c) n,
          choice-over L k (best L k) c n u,
        )

    -- what the row before reaches
    within : (c : ℕ) → c < row_length → used ≤ c → c - used ≤ reach L k → get_or t (suc k * row_length + c) 0 ≡ least c (suc n)
    within c l u m =
        let b = c - used in
        let e : suc k * row_length + c ≡ suc k * row_length + used + b = omega arith in
        omega (
          arith,
          ap (λ (i : ℕ). get_or t i 0) e,
          ap (λ (i : ℕ). get_or t₀ i 0) e,
          p.done b (omega arith),
          tried.next c l,
          is b m,
          choice-fits L k (best L k) c n u,
          least-suc (choice L k (best L k) c) n,
        )

    -- more than that
    over : (c : ℕ) → c < row_length → used ≤ c → reach L k < c - used → get_or t (suc k * row_length + c) 0 ≡ least c (suc n)
    over c l u m =
        let b = c - used in
        omega (
          arith,
          p.above (suc k * row_length + c) (omega arith),
          tried.next c l,
          best_none L rising k b m,
          carry-up L rising k (best L k b),
          choice-fits L k (best L k) c n u,
          least-suc (choice L k (best L k) c) n,
          least-most (choice L k (best L k) c) n,
        )

    pub tried-more : used + reach L k < row_length → Tried L t k (suc n)
    tried-more fits =
        record {
          long = p.long ∙ tried.long;
          held = λ j c lj lc. p.below (j * row_length + c) (omega arith) ∙ tried.held j c lj lc;
          next = λ c l.
              elim (dec_lt c used) [
                | yes u ↦ under c l u
                | no u ↦ elim (dec_lt (reach L k) (c - used)) [
                  | yes m ↦ over c l (omega arith) m
                  | no m ↦ within c l (omega arith) (omega arith)
                ]
              ];
          rest = λ i l u. p.above i (omega arith) ∙ tried.rest i l u;
        }

-- ---- of a header: these planes and all of the layers before have no more cells than a row has entries
pub used-fits : (h : Header) (ls : List ℕ) → well_formed h ≡ true → (k n : ℕ) → k < layers_most → n ≤ planes_of h k → n * cells_at h.shape k + reach (layers_of h ls) k ≤ cells_most
used-fits h ls ok k n l few =
    let all : reach (layers_of h ls) k + planes_of h k * cells_at h.shape k ≤ cells_most = unfold cells in (reach-most h ls ok (suc k) l) in
    omega (arith, mul-le-mul_right (cells_at h.shape k) few)
