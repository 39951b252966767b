-- Runs of values given by place and stored in a list: one value more is one store at the end, so each element afterwards follows by induction on their number.
use mathlib.Core.Path.{◌≡◌, refl, sym, ap, subst, ◌∙◌}
use mathlib.Core.List.{List, ◌++◌}
use mathlib.Core.Logic.{◌⊎◌, inl, inr, ⊎_elim}
use Prim.Native.Nat.{ℕ, zero, suc, ◌+◌, ◌<◌, ◌≤◌}
use native.Mathlib.Decide.{ℕ_discrete}
use native.Mathlib.Omega.{arith}
use lib.ListN.{length, get_or, set, take, drop, replicate}
use borrow.Rule.Slice.PartMut.{put_mid}
use Rattle.std.proofs.lemmas.List.Edits.{sets-eq}
use denote.Param.Members.{Mut}
use Rattle.std.proofs.Common.{append_assoc}
use Rattle.std.specs.Fn.{Called}
use Rattle.std.specs.Array.{IsFromFnResult, IsFromFnResultFrom}
use Rattle.std.proofs.lemmas.List.{drop-drop}
use lib.Seq.{sets, length-sets, get_or-set_same, get_or-set_other, ext_get_or}
use Rattle.text.proofs.Padding.{padded-put, padded-take}
use Rattle.sheet.specs.Lists.{tabulate}
use Rattle.sheet.proofs.Lists.{tabulate-same, length-tabulate, get_or-tabulate}

-- ---- values given by place
module _ {A : Type 0} where
  pub sets_more : (n : ℕ) (l : List A) (s : ℕ) (f : ℕ → A) → sets l s (tabulate (suc n) f) ≡ set (sets l s (tabulate n f)) (s + n) (f n)
  unfolding tabulate
  sets_more zero l s f = let e : s ≡ s + 0 = omega arith in ap (λ (i : ℕ). set l i (f 0)) e
  sets_more (suc n) l s f =
      let e : suc s + n ≡ s + suc n = omega arith in
      sets_more n (set l s (f 0)) (suc s) (λ i. f (suc i))
      ∙ ap (λ (i : ℕ). set (sets (set l s (f 0)) (suc s) (tabulate n (λ j. f (suc j)))) i (f (suc n))) e

  pub sets-none : (l : List A) (s : ℕ) (f : ℕ → A) → sets l s (tabulate 0 f) ≡ l
  unfolding tabulate
  sets-none l s f = refl

  -- a run behind another
  sets-join : (m n : ℕ) (l : List A) (s : ℕ) (f : ℕ → A) → sets (sets l s (tabulate m f)) (s + m) (tabulate n (λ j. f (m + j))) ≡ sets l s (tabulate (m + n) f)
  sets-join m zero l s f = let e : m ≡ m + 0 = omega arith in sets-none (sets l s (tabulate m f)) (s + m) (λ j. f (m + j)) ∙ ap (λ (x : ℕ). sets l s (tabulate x f)) e
  sets-join m (suc n) l s f =
      let e : s + m + n ≡ s + (m + n) = omega arith in
      let e' : suc (m + n) ≡ m + suc n = omega arith in
      sets_more n (sets l s (tabulate m f)) (s + m) (λ j. f (m + j))
      ∙ ap (λ (x : List A). set x (s + m + n) (f (m + n))) (sets-join m n l s f)
      ∙ ap (λ (x : ℕ). set (sets l s (tabulate (m + n) f)) x (f (m + n))) e
      ∙ sym (sets_more (m + n) l s f)
      ∙ ap (λ (x : ℕ). sets l s (tabulate x f)) e'

  pub sets_then : (m n : ℕ) (l : List A) (s : ℕ) (f g : ℕ → A) {l' l'' : List A} → ((j : ℕ) → j < n → g j ≡ f (m + j))
      → l' ≡ sets l s (tabulate m f) → l'' ≡ sets l' (s + m) (tabulate n g) → l'' ≡ sets l s (tabulate (m + n) f)
  sets_then m n l s f g what e e' = e' ∙ (λ t. sets (e t) (s + m) (tabulate-same n g (λ j. f (m + j)) what t)) ∙ sets-join m n l s f

  -- a list by what stands at its places
  pub tabulated : (n : ℕ) (l : List A) (f : ℕ → A) (d : A) → length l ≡ n → ((k : ℕ) → k < n → get_or l k d ≡ f k) → l ≡ tabulate n f
  tabulated n l f d e h =
      ext_get_or d l (tabulate n f) (e ∙ sym (length-tabulate n f)) (λ k m. h k (omega arith) ∙ sym (get_or-tabulate n f k d (omega arith)))

  -- what was stored, and what stands around it
  pub sets-in : (n : ℕ) (l : List A) (s : ℕ) (f : ℕ → A) (d : A) (i : ℕ) → i < n → s + n ≤ length l → get_or (sets l s (tabulate n f)) (s + i) d ≡ f i
  sets-in zero l s f d i h k = absurd (let e : ⊥ = omega arith in e)
  sets-in (suc n) l s f d i h k =
      ap (λ (x : List A). get_or x (s + i) d) (sets_more n l s f)
      ∙ elim (ℕ_discrete i n) [
        | yes e ↦ rw e (get_or-set_same (sets l s (tabulate n f)) (s + n) (f n) d (omega (arith, length-sets l s (tabulate n f))))
        | no e ↦ get_or-set_other (sets l s (tabulate n f)) (s + n) (s + i) (f n) d (λ q. e (omega arith)) ∙ sets-in n l s f d i (omega arith) (omega arith)
      ]

  pub sets-fill : (n : ℕ) (l : List A) (f : ℕ → A) (d : A) → length l ≡ n → sets l 0 (tabulate n f) ≡ tabulate n f
  sets-fill n l f d e =
      tabulated n (sets l 0 (tabulate n f)) f d (length-sets l 0 (tabulate n f) ∙ e)
      (λ k h. let z : k ≡ 0 + k = omega arith in ap (λ (j : ℕ). get_or (sets l 0 (tabulate n f)) j d) z ∙ sets-in n l 0 f d k h (omega arith))

  pub sets-out : (n : ℕ) (l : List A) (s : ℕ) (f : ℕ → A) (d : A) (j : ℕ) → (j < s) ⊎ (s + n ≤ j) → get_or (sets l s (tabulate n f)) j d ≡ get_or l j d
  sets-out zero l s f d j h = ap (λ (x : List A). get_or x j d) (sets-none l s f)
  sets-out (suc n) l s f d j h =
      ap (λ (x : List A). get_or x j d) (sets_more n l s f)
      ∙ get_or-set_other (sets l s (tabulate n f)) (s + n) j (f n) d (λ e. ⊎_elim (λ (a : j < s). let z : ⊥ = omega arith in z) (λ (b : s + suc n ≤ j). let z : ⊥ = omega arith in z) h)
      ∙ sets-out n l s f d j (⊎_elim (λ (a : j < s). inl a) (λ (b : s + suc n ≤ j). inr (omega arith)) h)

-- what `from_fn` makes with a closure that answers by the place alone and stays as it was
module _ {F A : Type 0} (g : Mut F (ℕ × Unit {0}) A) (h : ℕ → A) (f : F) (answers : (i : ℕ) (y : A) (q : F) → Called g f (i, tt) y q → (q ≡ f) × (y ≡ h i)) where
  made-from : (d : A) (ys : List A) (n i : ℕ) → IsFromFnResultFrom g f ys i n → (k : ℕ) → k < n → get_or ys (i + k) d ≡ h (i + k)
  made-from d ys zero i m k l = absurd (let z : ⊥ = omega arith in z)
  made-from d ys (suc n) i (q, y, at, call, rest) zero l = let e : i + 0 ≡ i = omega arith in rw e (at.1 d ∙ (answers i y q call).1)
  made-from d ys (suc n) i (q, y, at, call, rest) (suc k) l =
      let e : i + 1 + k ≡ i + suc k = omega arith in
      rw e at (made-from d ys n (i + 1) (subst (λ (p : F). IsFromFnResultFrom g p ys (i + 1) n) ((answers i y q call).0) rest) k (omega arith))

  pub made : (d : A) (ys : List A) (n : ℕ) → IsFromFnResult g f ys n → ys ≡ tabulate n h
  made d ys n m = tabulated n ys h d m.long (λ k l. let z : 0 + k ≡ k = omega arith in rw z at (made-from d ys n 0 m.each k l))

-- a part that was written
pub part-sets : {A : Type 0} (a k : ℕ) (l vs : List A) → length vs ≡ k → a + k ≤ length l → put_mid a k l vs ≡ sets l a vs
part-sets a k l vs e h =
    let n : a + length vs ≡ a + k = omega arith in
    sym (sets-eq vs l a (omega arith) ∙ append_assoc (take a l) vs _ ∙ ap (λ (i : ℕ). take a l ++ (vs ++ drop i l)) n ∙ ap (λ x. take a l ++ (vs ++ x)) (sym (drop-drop k a l)))

-- what was stored at the front of zeros is read there
pub zeros-read : (n : ℕ) (vs : List ℕ) → length vs ≤ n → take (length vs) (sets (replicate n 0) 0 vs) ≡ vs
zeros-read n vs h = ap (take (length vs)) (padded-put n vs h) ∙ padded-take n vs
