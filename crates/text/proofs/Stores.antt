-- Runs stored in a list: a run stored behind another is one longer run, by induction on the first; so a run grows by one element. An element outside of a run may be stored
-- first or last, so a run stored over a part of another takes its place. A text that is put somewhere is such a run, with its end.
use mathlib.Core.List.{List, [], ◌∷◌, ◌++◌}
use mathlib.Core.Logic.{◌≢◌}
use mathlib.Core.Path.{◌≡◌, refl, ap, sym, ◌∙◌}
use Prim.Native.Nat.{ℕ, suc, ◌+◌, ◌<◌, ◌≤◌}
use native.Mathlib.Nat.{add-zero}
use native.Mathlib.Numerals.{add-one}
use native.Mathlib.Omega.{arith}
use lib.ListN.{length, take, get_or, set, length-append}
use lib.Seq.{sets, set-set, set_comm, take-suc, take-length, length-take-le}
use Rattle.text.specs.Workings.{putting, after}
use Rattle.text.proofs.Fitting.{put-fits}

-- ---- runs
module _ {A : Type 0} where
  pub sets-sets : (d : List A) (at : ℕ) (a b : List A) → sets (sets d at a) (at + length a) b ≡ sets d at (a ++ b)
  sets-sets d at [] b = ap (λ (n : ℕ). sets d n b) (add-zero at)
  sets-sets d at (x ∷ a) b =
      let e : at + suc (length a) ≡ suc at + length a = omega arith in
      ap (λ (n : ℕ). sets (sets (set d at x) (suc at) a) n b) e ∙ sets-sets (set d at x) (suc at) a b

  -- the next element
  pub sets-next : (d : List A) (at : ℕ) (xs : List A) (b : ℕ) (z : A) → b < length xs
      → set (sets d at (take b xs)) (at + b) (get_or xs b z) ≡ sets d at (take (b + 1) xs)
  sets-next d at xs b z h =
      let e : at + length (take b xs) ≡ at + b = ap (λ (n : ℕ). at + n) (length-take-le b xs (omega arith)) in
      rw (add-one b, take-suc xs b z h) (ap (λ (n : ℕ). set (sets d at (take b xs)) n (get_or xs b z)) (sym e) ∙ sets-sets d at (take b xs) (get_or xs b z ∷ []))

  -- the whole run
  pub sets-whole : (d : List A) (at : ℕ) (xs : List A) (n : ℕ) → n ≡ length xs → sets d at (take n xs) ≡ sets d at xs
  sets-whole d at xs n e = ap (λ (x : List A). sets d at x) (ap (λ (n : ℕ). take n xs) e ∙ take-length xs)

  -- an element outside of a run
  pub set-sets : (d : List A) (at : ℕ) (xs : List A) (j : ℕ) (x : A) → ((i : ℕ) → i < length xs → at + i ≢ j) → set (sets d at xs) j x ≡ sets (set d j x) at xs
  set-sets d at [] j x h = refl
  set-sets d at (y ∷ xs) j x h =
      set-sets (set d at y) (suc at) xs j x (λ i l e. h (suc i) (omega arith) (omega arith))
      ∙ ap (λ (l : List A). sets l (suc at) xs) (set_comm d at j y x (λ e. h 0 (omega arith) (omega arith)))

  -- the element before it
  pub sets-front : (d : List A) (at : ℕ) (x : A) (xs : List A) → set (sets d (suc at) xs) at x ≡ sets d at (x ∷ xs)
  sets-front d at x xs = set-sets d (suc at) xs at x (λ i l e. omega arith)

  -- a run over a part of another
  over-front : (d : List A) (at : ℕ) (b b' c : List A) → length b ≡ length b' → sets (sets d at (b ++ c)) at b' ≡ sets d at (b' ++ c)
  over-front d at [] [] c e = refl
  over-front d at [] (y ∷ b') c e = absurd (let z : ⊥ = omega arith in z)
  over-front d at (x ∷ b) [] c e = absurd (let z : ⊥ = omega arith in z)
  over-front d at (x ∷ b) (y ∷ b') c e =
      ap (λ (l : List A). sets l (suc at) b') (sets-front (set d at x) at y (b ++ c) ∙ ap (λ (l : List A). sets l (suc at) (b ++ c)) (set-set d at x y))
      ∙ over-front (set d at y) (suc at) b b' c (omega arith)

  pub sets_over : (d : List A) (at : ℕ) (a b b' c : List A) → length b ≡ length b' → sets (sets d at (a ++ (b ++ c))) (at + length a) b' ≡ sets d at (a ++ (b' ++ c))
  sets_over d at [] b b' c e = ap (λ (n : ℕ). sets (sets d at (b ++ c)) n b') (add-zero at) ∙ over-front d at b b' c e
  sets_over d at (x ∷ a) b b' c e =
      let s : at + suc (length a) ≡ suc at + length a = omega arith in
      ap (λ (n : ℕ). sets (sets (set d at x) (suc at) (a ++ (b ++ c))) n b') s ∙ sets_over (set d at x) (suc at) a b b' c e

-- ---- a text that was put at `at` of d, with its end
pub record Put (d : List ℕ) (at : ℕ) (text out : List ℕ) (end : ℕ) : Type 0 where
  pub ends : end ≡ at + length text
  pub stands : out ≡ sets d at text

pub put-more : {d : List ℕ} {at : ℕ} {a out : List ℕ} {end : ℕ} (b out' : List ℕ) (end' : ℕ) → Put d at a out end → end' ≡ end + length b → out' ≡ sets out end b → Put d at (a ++ b) out' end'
put-more {d} {at} {a} {out} {end} b out' end' p e s =
    record {
      ends = omega (arith, p.ends, length-append a b);
      stands = s ∙ rw (p.stands, p.ends) (sets-sets d at a b);
    }

pub put_byte : {d : List ℕ} {at : ℕ} {a out : List ℕ} {end : ℕ} (x : ℕ) → Put d at a out end → Put d at (a ++ x ∷ []) (set out end x) (end + 1)
put_byte {d} {at} {a} {out} {end} x p = put-more (x ∷ []) (set out end x) (end + 1) p refl refl

pub put-run : {d : List ℕ} {at : ℕ} {a b out out' : List ℕ} {end end' : ℕ} → Put d at a out end → Put out end b out' end' → Put d at (a ++ b) out' end'
put-run {b = b} {out' = out'} {end' = end'} p q = put-more b out' end' p q.ends q.stands

-- a text that was put by the test whether it fits, and fits
pub put-text : {d : List ℕ} {at : ℕ} {a out : List ℕ} {end : ℕ} (b out' : List ℕ) (end' : ℕ) → Put d at a out end → end + length b ≤ length out → end' ≡ after out end b → out' ≡ putting out end b
    → Put d at (a ++ b) out' end'
put-text {out = out} {end = end} b out' end' p h e s = let f = put-fits out end b h in put-more b out' end' p (e ∙ f.0) (s ∙ f.1)

pub put-none : (d : List ℕ) (at : ℕ) → Put d at [] d at
put-none d at = record { ends = omega arith; stands = refl }

-- at the front
pub put_all : {d text out : List ℕ} {end : ℕ} (text' : List ℕ) → Put d 0 text out end → text ≡ text' → (end ≡ length text') × (out ≡ sets d 0 text')
put_all {d} text' p e = rw (← e) (omega (arith, p.ends), p.stands)
