-- One plane more of a layer, where it is whole and fine. The plan's number there goes up by one and the others stay, so it is still a plan that reading takes; and the points of the layer read one more digit, those of every other layer the same as before.
use mathlib.Core.Bool.{true, cond, true≢false}
use mathlib.Core.List.{List}
use mathlib.Core.Path.{◌≡◌, sym, ap, ◌∙◌}
use Prim.Native.Nat.{ℕ, suc, ◌+◌, ◌-◌, ◌<◌, ◌≤◌}
use native.Mathlib.Decide.{dec_lt, ℕ_discrete}
use native.Mathlib.Numerals.{add-one}
use native.Mathlib.Omega.{arith}
use lib.IntN.{ℤ, pos, ◌+ℤ◌, ◌*ℤ◌}
use lib.ListN.{length, length-set}
use lib.Seq.{ext_get_or, get_or-set_same}
use Rattle.integers.proofs.Bools.{by}
use Rattle.digits.specs.Digits.{weight}
use Rattle.sheet.specs.declared.Curve.TheVariants.{Linear}
use Rattle.sheet.specs.Limits.{layers_most}
use Rattle.sheet.specs.Lists.{at, tabulate}
use Rattle.sheet.specs.Sheet.{points, layers, in_layer, place_in}
use Rattle.sheet.proofs.Lists.{length-tabulate, get_or-tabulate}
use Rattle.layers.proofs.Members.{in-own, own_below}
use Rattle.layers.proofs.SheetLaw.{sheet-proper}
use Rattle.layers.specs.Layering.{own_layer}
use Rattle.header.specs.declared.Header.{Header}
use Rattle.header.specs.declared.Plan.{Plan}
use Rattle.header.specs.Header.{planes_of}
use Rattle.header.specs.Plan.{loads, with_plane}
use Rattle.order.specs.CardOrder.{whole}
use Rattle.header.proofs.WellFormed.{WellFormed, right_by, layers-few}
use Rattle.order.proofs.Whole.{whole-most}
use Rattle.loading.specs.InBytes.{bit_of, fine, coef_read, coefs_read, coefs_plus, coefs_with}
use Rattle.loading.proofs.Loads.{coefs-long}
use Rattle.card.proofs.RefineCall.{with-is, with-other}
use Rattle.guarantee.proofs.Coefficients.{coef-next, coef-at}
use Rattle.guarantee.proofs.Taken.{Taken}

-- what is read of a layer hangs on the planes loaded of it alone
coef-same : (h : Header) (long : ℕ) (bs : List ℕ) (plan more : ℕ → ℕ) (k i : ℕ) → more k ≡ plan k → coef_read h long bs more k i ≡ coef_read h long bs plan k i
unfolding coef_read
coef-same h long bs plan more k i e = rw e

module _ {h : Header} (r : WellFormed h) {long : ℕ} {bs : List ℕ} {plan : Plan} (places : length plan.planes ≡ layers_most) (t : Taken h long bs plan)
    (k : ℕ) (hk : k < layers h.shape) (room : loads plan k < whole h (length bs - long) k) where
  abbrev next : ℕ
  next = planes_of h k - suc (loads plan k)

  abbrev more : Plan
  more = with_plane plan k

  inside : k < layers_most
  inside = omega (arith, layers-few r)

  named : loads plan k < planes_of h k
  named = omega (arith, whole-most h (length bs - long) k)

  -- ---- the plan
  pub more-places : length more.planes ≡ layers_most
  more-places = ap (λ (p : Plan). length p.planes) (with-is h (right_by h r) plan k hk named) ∙ length-set plan.planes k (loads plan k + 1) ∙ places

  here : loads more k ≡ suc (loads plan k)
  here = ap (λ (p : Plan). loads p k) (with-is h (right_by h r) plan k hk named) ∙ get_or-set_same plan.planes k (loads plan k + 1) 0 (omega (arith, inside)) ∙ add-one (loads plan k)

  elsewhere : (j : ℕ) → (j ≡ k → ⊥) → loads more j ≡ loads plan j
  elsewhere = with-other h (right_by h r) plan k hk named

  module _ (ok : fine h long bs k next ≡ true) where
    own-fine : (p : ℕ) → p < planes_of h k → planes_of h k ≤ p + loads more k → fine h long bs k p ≡ true
    own-fine p l asked =
        elim (dec_lt (p + loads plan k) (planes_of h k)) [
          | yes new ↦ let e : p ≡ next = omega (arith, here) in rw e ok
          | no old ↦ t.fine k p hk l (omega arith)
        ]

    pub more-taken : Taken h long bs more
    more-taken =
        record {
          asks = λ j l. elim (ℕ_discrete j k) [
            | yes e ↦ rw e (omega (arith, here))
            | no n ↦ omega (arith, elsewhere j n, t.asks j l)
          ];
          fine = λ j p l named asked. elim (ℕ_discrete j k) [
            | yes e ↦ rw e (own-fine p (rw e at named) (rw e at asked))
            | no n ↦ t.fine j p l named (omega (arith, elsewhere j n))
          ];
        }

  -- ---- the coefficients
  pub coefs-more : coefs_with h long bs k next (coefs_read h long bs (loads plan)) ≡ coefs_read h long bs (loads more)
  unfolding coefs_plus
  coefs-more =
      let sh = h.shape in
      let qs = coefs_read h long bs (loads plan) in
      let proper = sheet-proper sh r.shape Linear in
      let f : ℕ → ℤ = λ p. cond (in_layer sh k p) (at qs p +ℤ pos (bit_of h long bs k next (place_in sh k p)) *ℤ weight next) (at qs p) in
      ext_get_or (pos 0) (tabulate (length qs) f) (coefs_read h long bs (loads more))
      (length-tabulate _ f ∙ coefs-long h long bs (loads plan) ∙ sym (coefs-long h long bs (loads more)))
      (λ p l.
      let lt : p < length qs = omega (arith, length-tabulate (length qs) f) in
      let hp : p < points sh = omega (arith, coefs-long h long bs (loads plan)) in
      let read : (plan : ℕ → ℕ) (j : ℕ) → j < layers sh → in_layer sh j p ≡ true → at (coefs_read h long bs plan) p ≡ coef_read h long bs plan j (place_in sh j p) =
      λ plan j hj m. coef-at h long bs r.shape j hj plan p hp m in
      get_or-tabulate _ f p (pos 0) lt
      ∙ by (in_layer sh k p)
      (λ m. rw (m, read (loads plan) k hk m, read (loads more) k hk m) (sym (coef-next h long bs k (place_in sh k p) (loads plan) (loads more) here named)))
      (λ m.
      let j = own_layer sh p in
      let own = in-own proper p hp in
      let hj = own_below proper p hp in
      let apart : j ≡ k → ⊥ = λ e. true≢false (sym own ∙ ap (λ (i : ℕ). in_layer sh i p) e ∙ m) in
      rw (m, read (loads plan) j hj own, read (loads more) j hj own) (sym (coef-same h long bs (loads plan) (loads more) j (place_in sh j p) (elsewhere j apart)))))
