-- Arrays that a closure makes: `from_fn` by place, where calls leave the closure as it was, and `map` from the elements of another. And part of a slice, filled.
use mathlib.Core.List.{List, ◌++◌}
use mathlib.Core.Path.{◌≡◌, refl, sym, ap, subst, ◌∙◌}
use Prim.Native.Nat.{ℕ, zero, suc, ◌+◌, ◌<◌, ◌≤◌}
use native.Mathlib.Nat.{not-suc-le-zero}
use native.Mathlib.Omega.{arith}
use denote.Param.Members.{Mut}
use borrow.Rule.Slice.PartMut.{put_mid}
use lib.ListN.{length, take, drop, get_or}
use lib.Seq.{ext_get_or}
use Rattle.std.proofs.Common.{append_assoc}
use Rattle.std.proofs.lemmas.List.Edits.{sets, sets-eq, paste_all}
use Rattle.std.proofs.lemmas.Slice.{put_mid-paste}
use Rattle.std.specs.Fn.{Called}
use Rattle.std.specs.Array.{IsFromFnResult, IsFromFnResultFrom, IsMapOf}
use Rattle.sheet.specs.Lists.{tabulate}
use Rattle.sheet.proofs.Lists.{length-tabulate, get_or-tabulate}

module _ {F A : Type 0} (g : Mut F (ℕ × Unit {0}) A) (h : ℕ → A) (f : F) (answers : (i : ℕ) (y : A) (q : F) → Called g f (i, tt) y q → (q ≡ f) × (y ≡ h i)) where
  made-from : (d : A) (ys : List A) (n i : ℕ) → IsFromFnResultFrom g f ys i n → (k : ℕ) → k < n → get_or ys (i + k) d ≡ h (i + k)
  made-from d ys zero i m k l = absurd (not-suc-le-zero l)
  made-from d ys (suc n) i (q, y, at, call, rest) zero l = let e : i + 0 ≡ i = omega arith in rw e (at.1 d ∙ (answers i y q call).1)
  made-from d ys (suc n) i (q, y, at, call, rest) (suc k) l =
      let e : i + 1 + k ≡ i + suc k = omega arith in
      let m : get_or ys (i + 1 + k) d ≡ h (i + 1 + k) = made-from d ys n (i + 1) (subst (λ (p : F). IsFromFnResultFrom g p ys (i + 1) n) ((answers i y q call).0) rest) k (omega arith) in
      rw e at m

  pub made : (d : A) (ys : List A) (n : ℕ) → IsFromFnResult g f ys n → ys ≡ tabulate n h
  made d ys n m =
      ext_get_or d ys (tabulate n h) (omega (arith, m.long, length-tabulate n h))
      (λ k l.
      let from : 0 + k ≡ k = omega arith in
      (rw from at (made-from d ys n 0 m.each k (omega (arith, m.long)))) ∙ sym (get_or-tabulate n h k d (omega (arith, m.long))))

module _ {F A B : Type 0} (g : Mut F (A × Unit {0}) B) (h : A → B) (answers : (p : F) (x : A) (y : B) (q : F) → Called g p (x, tt) y q → y ≡ h x) where
  pub mapped : (d : A) (e : B) (f : F) (xs : List A) (ys : List B) (n : ℕ) → IsMapOf g f xs ys n → ys ≡ tabulate n (λ k. h (get_or xs k d))
  mapped d e f xs ys n m =
      ext_get_or e ys (tabulate n (λ k. h (get_or xs k d))) (omega (arith, m.long, length-tabulate n (λ k. h (get_or xs k d))))
      (λ k l.
      let there : k < n = omega (arith, m.long) in
      let call = m.at k d e there in
      answers call.0 (get_or xs k d) (get_or ys k e) call.1 call.2 ∙ sym (get_or-tabulate n (λ k. h (get_or xs k d)) k e there))

-- a list of these elements, place by place
pub tabulated : {A : Type 0} (d : A) (f : ℕ → A) (xs : List A) (n : ℕ) → length xs ≡ n → ((k : ℕ) → k < n → get_or xs k d ≡ f k) → xs ≡ tabulate n f
tabulated d f xs n long at =
    ext_get_or d xs (tabulate n f) (omega (arith, length-tabulate n f)) (λ k l. at k (omega arith) ∙ sym (get_or-tabulate n f k d (omega arith)))

-- part of a slice, filled: the same as these elements put at the part's start
pub put_part : {A : Type 0} (at n : ℕ) (d part vs : List A) → part ≡ vs → length vs ≡ n → at + n ≤ length d → put_mid at n d part ≡ sets d at vs
put_part at n d part vs e long fits =
    let room : at + length vs ≤ length d = omega arith in
    put_mid-paste at n d part vs n e refl (sym long) ∙ paste_all d at vs n (sym long) ∙ ap (λ (m : ℕ). take at d ++ (vs ++ drop (at + m) d)) (sym long)
    ∙ (rw (← append_assoc (take at d) vs (drop (at + length vs) d)) (sym (sets-eq vs d at room)))
