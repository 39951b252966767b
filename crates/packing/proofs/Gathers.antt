-- The words of all layers, gathered one layer after another: a layer's words are stored in its block, and blocks lie apart, so the words of earlier layers stay and those past the block are still the word of 0.
use mathlib.Core.Path.{◌≡◌, sym, ap, ◌∙◌, subst}
use mathlib.Core.Bool.{true, cond}
use mathlib.Core.List.{List}
use mathlib.Core.Logic.{◌⊎◌, inl, inr}
use Prim.Native.Nat.{ℕ, ◌+◌, ◌*◌, ◌<◌, ◌≤◌}
use native.Mathlib.Decide.{dec_lt}
use native.Mathlib.Omega.{arith}
use borrow.Author.Tests.{lt-ltb, le-ltb}
use lib.Dec.{ltb}
use lib.IntN.{ℤ}
use lib.ListN.{length, get_or, replicate, length-replicate, get_or-replicate}
use lib.Seq.{sets, length-sets}
use Rattle.sheet.specs.declared.Shape.{Shape}
use Rattle.sheet.specs.Lists.{at, tabulate}
use Rattle.sheet.specs.Sheet.{accepted, layers, layer_size, point_of}
use Rattle.header.specs.Header.{cell_points, plane_cells}
use Rattle.header.proofs.Total.{plane-room}
use Rattle.packing.specs.Workings.Words.{offset, word_of, block_start, words_most, Gathered}
use Rattle.packing.proofs.Blocks.{block-next, blocks-apart, layer-room, block_room}
use Rattle.packing.proofs.Runs.{sets-in, sets-out}

-- the words of the first k layers stand in ws
pub record GatheredTo (sh : Shape) (qs : List ℤ) (k : ℕ) (ws : List ℕ) : Type 0 where
  pub long : length ws ≡ words_most
  pub word : (j i : ℕ) → j < k → i < cell_points * plane_cells sh j
      → get_or ws (block_start sh j + i) 0 ≡ cond (ltb i (layer_size sh j)) (word_of (at qs (point_of sh j i))) offset
  pub left : (j : ℕ) → block_start sh k ≤ j → j < words_most → get_or ws j 0 ≡ offset

filled : (n a : ℕ) (ws : List ℕ) → ws ≡ replicate n a → (length ws ≡ n) × ((j : ℕ) → j < n → get_or ws j 0 ≡ a)
filled n a ws e = (ap length e ∙ length-replicate n a, λ j h. ap (λ (l : List ℕ). get_or l j 0) e ∙ get_or-replicate n j a 0 h)

module _ (sh : Shape) (qs : List ℤ) where
  pub gathered_none : (ws : List ℕ) → ws ≡ replicate words_most offset → GatheredTo sh qs 0 ws
  gathered_none ws e =
      let f = filled words_most offset ws e in
      record {
        long = f.0;
        word = λ j i h _. absurd (let z : ⊥ = omega arith in z);
        left = λ j _ h. f.1 j h;
      }

  module _ (ok : accepted sh ≡ true) where
    pub gathered-more : (k : ℕ) (ws ws' : List ℕ) → k < layers sh → GatheredTo sh qs k ws
        → ws' ≡ sets ws (block_start sh k) (tabulate (layer_size sh k) (λ i. word_of (at qs (point_of sh k i)))) → GatheredTo sh qs (k + 1) ws'
    gathered-more k ws ws' hk g e =
        let n = layer_size sh k in
        let s = block_start sh k in
        let room : s + n ≤ length ws = omega (arith, g.long, layer-room sh ok k hk) in
        let out : (j : ℕ) → (j < s) ⊎ (s + n ≤ j) → get_or ws' j 0 ≡ get_or ws j 0 = λ j h. ap (λ (l : List ℕ). get_or l j 0) e ∙ sets-out n ws s f 0 j h in
        record {
          long = ap length e ∙ length-sets ws s (tabulate n f) ∙ g.long;
          word = λ j i hj hi.
              elim (dec_lt j k) [
                | yes lt ↦ out (block_start sh j + i) (inl (omega (arith, blocks-apart sh j k lt))) ∙ g.word j i lt hi
                | no ge ↦
                    let q : j ≡ k = omega arith in
                    let hi' : i < cell_points * plane_cells sh k = subst (λ (x : ℕ). i < cell_points * plane_cells sh x) q hi in
                    subst (λ (x : ℕ). get_or ws' (block_start sh x + i) 0 ≡ cond (ltb i (layer_size sh x)) (word_of (at qs (point_of sh x i))) offset) (sym q)
                    (elim (dec_lt i n) [
                      | yes l ↦ ap (λ (l : List ℕ). get_or l (s + i) 0) e ∙ sets-in n ws s f 0 i l room ∙ rw (lt-ltb i n l)
                      | no l ↦ out (s + i) (inr (omega arith)) ∙ g.left (s + i) (omega arith) (omega (arith, block_room sh ok k hk)) ∙ rw (le-ltb i n (omega arith))
                    ])
              ];
          left = λ j h l. out j (inr (omega (arith, block-next sh k, plane-room sh k))) ∙ g.left j (omega (arith, block-next sh k)) l;
        }
      where
        f : ℕ → ℕ
        f i = word_of (at qs (point_of sh k i))

  pub gathered-all : (k : ℕ) (ws : List ℕ) → k ≡ layers sh → GatheredTo sh qs k ws → Gathered sh qs ws
  gathered-all k ws e g =
      record {
        long = g.long;
        word = λ j i hj hi. g.word j i (omega arith) hi;
        rest = λ i h l. g.left i (rw e h) l;
      }
