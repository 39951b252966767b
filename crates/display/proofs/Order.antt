-- Pieces in order: some and then the others, and the same pieces under other numbers. Induction on how many there are.
use mathlib.Core.List.{List, ◌++◌, append_assoc, []}
use mathlib.Core.Path.{◌≡◌, refl, ap, ap₂, sym, ◌∙◌}
use Prim.Native.Nat.{ℕ, zero, suc, ◌+◌, ◌<◌}
use native.Mathlib.Nat.{add-zero, zero-add}
use native.Mathlib.Omega.{arith}

-- n pieces in order, from piece i on
unfoldable pub in_order : (ℕ → List ℕ) → ℕ → ℕ → List ℕ
in_order piece zero i = []
in_order piece (suc n) i = piece i ++ in_order piece n (suc i)

pub order-split : (f : ℕ → List ℕ) (n m i : ℕ) → in_order f (n + m) i ≡ in_order f n i ++ in_order f m (i + n)
unfolding in_order
order-split f zero m i = simp (zero-add, add-zero)
order-split f (suc n) m i =
    let e : suc n + m ≡ suc (n + m) = omega arith in
    let g : suc i + n ≡ i + suc n = omega arith in
    rw e (ap (λ (l : List ℕ). f i ++ l) (order-split f n m (suc i)) ∙ sym (append_assoc (f i) (in_order f n (suc i)) (in_order f m (suc i + n))) ∙ ap (λ (k : ℕ). f i ++ in_order f n (suc i) ++ in_order f m k) g)

pub order_same : (f g : ℕ → List ℕ) (n i j : ℕ) → ((k : ℕ) → k < n → f (i + k) ≡ g (j + k)) → in_order f n i ≡ in_order g n j
unfolding in_order
order_same f g zero i j h = refl
order_same f g (suc n) i j h =
    ap₂ (λ (a b : List ℕ). a ++ b) (simp add-zero at (h 0 (omega arith)))
    (order_same f g n (suc i) (suc j) (λ k l.
    let a : suc i + k ≡ i + suc k = omega arith in
    let b : suc j + k ≡ j + suc k = omega arith in
    rw (a, b) (h (suc k) (omega arith))))
