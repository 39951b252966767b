-- Right-aligned texts: on a field of spaces a text takes the place of the last ones (`sets_over`).
use mathlib.Core.List.{List, ◌++◌, append_assoc}
use mathlib.Core.Path.{◌≡◌, ap, sym, ◌∙◌}
use Prim.Native.Nat.{ℕ, ◌+◌, ◌-◌, ◌≤◌}
use native.Mathlib.Omega.{arith}
use lib.ListN.{length, replicate, length-append, length-replicate, replicate-append-replicate}
use lib.Seq.{sets}
use Rattle.text.specs.Text.{space, right_aligned}
use Rattle.text.proofs.Stores.{sets_over}

pub length-aligned : (n : ℕ) (t : List ℕ) → length t ≤ n → length (right_aligned n t) ≡ n
unfolding right_aligned
length-aligned n t h = omega (arith, length-append (replicate (n - length t) space) t, length-replicate (n - length t) space)

-- a text put so that it ends where a field of n spaces ends; a stands before the field and b behind it. In the next field the text has a and this one before it, so a line is
-- filled field by field, the first with nothing before it
module _ (d : List ℕ) (at n end : ℕ) (a t b : List ℕ) (short : length t ≤ n) (ends : end ≡ at + length a + n) {out : List ℕ} (blank : out ≡ sets d at (a ++ (replicate n space ++ b))) where
  pub aligned-put : {out' : List ℕ} → out' ≡ sets out (end - length t) t → out' ≡ sets d at (a ++ right_aligned n t ++ b)
  unfolding right_aligned
  aligned-put put =
      let k = n - length t in
      let e : n ≡ k + length t = omega arith in
      let front = a ++ replicate k space in
      let place : end - length t ≡ at + length front = omega (arith, length-append a (replicate k space), length-replicate k space) in
      let spaces : replicate n space ≡ replicate k space ++ replicate (length t) space = ap (λ (m : ℕ). replicate m space) e ∙ sym (replicate-append-replicate k (length t) space) in
      let line : a ++ (replicate n space ++ b) ≡ front ++ (replicate (length t) space ++ b) = rw spaces (simp append_assoc) in
      put ∙ rw (blank, place, line) (sets_over d at front (replicate (length t) space) t b (length-replicate (length t) space) ∙ simp append_assoc)
