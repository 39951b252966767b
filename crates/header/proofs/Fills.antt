-- An array filled place by place: the places passed hold what they should, and at the end all do.
use mathlib.Core.List.{List}
use mathlib.Core.Path.{◌≡◌, sym, ◌∙◌}
use Prim.Native.Nat.{ℕ, ◌+◌, ◌<◌, ◌≤◌}
use native.Mathlib.Omega.{arith}
use borrow.Author.Count.{below_none, below_more}
use lib.ListN.{length, get_or, set, length-set}
use lib.Seq.{ext_get_or, get_or-set_same, get_or-set_other}
use Rattle.sheet.specs.Lists.{tabulate}
use Rattle.sheet.proofs.Lists.{length-tabulate, get_or-tabulate}

pub record Filled {A : Type 0} (d : A) (f : ℕ → A) (n k : ℕ) (l : List A) : Type 0 where
  pub long : length l ≡ n
  pub done : (i : ℕ) → i < k → get_or l i d ≡ f i

module _ {A : Type 0} {d : A} (f : ℕ → A) (n : ℕ) where
  pub filled_none : (l : List A) → length l ≡ n → Filled d f n 0 l
  filled_none l e = record { long = e; done = below_none _ }

  pub filled_more : {l : List A} {k : ℕ} (v : A) → v ≡ f k → k < n → Filled d f n k l → Filled d f n (k + 1) (set l k v)
  filled_more {l} {k} v e h w =
      record {
        long = length-set l k v ∙ w.long;
        done = below_more (λ (i : ℕ). get_or (set l k v) i d ≡ f i) k
            (λ i m. get_or-set_other l k i v d (omega arith) ∙ w.done i m)
            (get_or-set_same l k v d (omega (arith, w.long)) ∙ e);
      }

  pub filled-all : {l : List A} {k : ℕ} → n ≤ k → Filled d f n k l → l ≡ tabulate n f
  filled-all {l} {k} h w =
      ext_get_or d l (tabulate n f) (w.long ∙ sym (length-tabulate n f))
      (λ i m. w.done i (omega (arith, w.long)) ∙ sym (get_or-tabulate n f i d (omega (arith, w.long))))
