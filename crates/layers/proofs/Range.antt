-- The ranges of values, predictions and coefficients, stage by stage: a value written is near its sample, a layer carries a size to at most
-- five quarters of it, and so the sizes rise by a fixed recursion (`limit`) where the coefficients are any.
use mathlib.Core.Path.{◌≡◌, sym, subst, ◌∙◌}
use mathlib.Core.Bool.{true}
use mathlib.Core.List.{List}
use Prim.Native.Nat.{ℕ, zero, suc, ◌+◌, ◌*◌, ◌-◌, ◌/◌, ◌%◌, ◌^◌, ◌<◌, ◌≤◌}
use native.Mathlib.Decide.{dec_lt}
use native.Mathlib.Nat.{le_refl, le_trans, mul-le-mul_left}
use native.Mathlib.Omega.{arith}
use lib.Arith.{digits_div, digits_mod}
use lib.IntN.{ℤ, pos}
use lib.ListN.{length, get_or-eq_default}
use Rattle.integers.specs.Distance.{up, down, Within, Near}
use Rattle.integers.specs.Floor.{ceil_div}
use Rattle.integers.proofs.Diff.{#, lit, ◌⊞◌, ◌⊠◌}
use Rattle.integers.proofs.Order.{eq-by}
use Rattle.integers.proofs.Near.{within_by, within-near, near_within}
use Rattle.sheet.specs.declared.Shape.{Shape}
use Rattle.sheet.specs.declared.Curve.{Curve}
use Rattle.sheet.specs.declared.Curve.TheVariants.{Linear, Cubic}
use Rattle.sheet.specs.Limits.{layers_most, step_most}
use Rattle.sheet.specs.Lists.{at}
use Rattle.sheet.specs.Sheet.{accepted, points, place, layers, in_layer, direction, spacing}
use Rattle.layers.specs.Prediction.{width, rebuilt_from, predicted, predicted_at}
use Rattle.layers.specs.Layering.{layering, values_by, blank, reads, writes, rebuilt, coefs}
use Rattle.layers.specs.Carry.{carried, curve_of, carry}
use Rattle.layers.specs.Workings.Loops.{written_most, predicted_most, counted_most, value_most, Below, Samples}
use Rattle.sheet.proofs.Rises.{rises}
use Rattle.sheet.proofs.Accepting.{accepted-yes, layers-few}
use Rattle.sheet.proofs.Fits.{place-in, place-has}
use Rattle.layers.proofs.Spots.{Spot}
use Rattle.layers.proofs.Point.{within_more, rebuilt-carry, coefficient-range}
use Rattle.layers.proofs.Members.{layer-of}
use Rattle.layers.proofs.Law.{length-blank, length-rebuilt, coef-at, stage-near, stage-rel}
use Rattle.layers.proofs.SheetLaw.{Rule, sheet-carries, sheet-proper}
use Rattle.layers.proofs.Carry.{carried-up, carried-cubic, within-rule, sheet-within}

pub written-carried : (c : Curve) → carried c written_most ≤ predicted_most
unfolding carried ceil_div
written-carried Linear = omega arith
written-carried Cubic = omega arith

pub value-carried : (c : Curve) → carried c value_most ≤ 2 * value_most
unfolding carried ceil_div
value-carried Linear = omega arith
value-carried Cubic = omega arith

-- ---- predictions from values of at most m
module _ {sh : Shape} {k z r c : ℕ} (here : Spot sh k z r c) (curve : Curve) (vs : List ℤ) where
  pub predicted-within : (m : ℕ) → Below m sh curve k vs → Within (carry sh curve k m) (predicted sh curve (direction sh k) (spacing sh k) vs z r c)
  predicted-within m low =
      let y = z * sh.rows + r in
      let hc = here.col in
      let hr = here.row in
      rw (digits_div y hc, digits_mod y hc, digits_div z hr, digits_mod z hr) at
      (go (place sh z r c) (place-in sh here.sheet hr hc) (place-has sh k z hr hc ∙ here.here))
    where
      go : (p : ℕ) → p < points sh → in_layer sh k p ≡ true
          → Within (carry sh curve k m) (predicted sh curve (direction sh k) (spacing sh k) vs (p / sh.cols / sh.rows) (p / sh.cols % sh.rows) (p % sh.cols))
      go p hp i = unfold predicted_at in (sheet-within sh here.shape curve k here.layer m vs vs low p hp i)

-- ---- samples that are accepted
module _ {sh : Shape} {e : ℕ} {xs : List ℤ} (ok : Samples sh e xs) (curve : Curve) where
  -- at every stage a value written is within the step of its sample
  pub stage-small : (vs : List ℤ) → length vs ≡ points sh → (k : ℕ) → k ≤ layers sh → Below written_most sh curve k (values_by (layering sh curve) (writes e xs) vs k)
  stage-small vs l k hk p hp y =
      let n = stage-near (layering sh curve) (sheet-proper sh ok.shape curve) e xs vs l k hk p hp y in
      let x = ok.small p hp in
      let s = ok.step in
      within_by (# (at (values_by (layering sh curve) (writes e xs) vs k) p)) (omega arith)

  pub predicted-small : (vs : List ℤ) → length vs ≡ points sh → (k : ℕ) → k < layers sh → (p : ℕ) → p < points sh → in_layer sh k p ≡ true
      → Within predicted_most (predicted_at sh curve k (values_by (layering sh curve) (writes e xs) vs k) p)
  predicted-small vs l k hk p hp m =
      let w = values_by (layering sh curve) (writes e xs) vs k in
      within_more (written-carried (curve_of sh curve k)) (sheet-within sh ok.shape curve k hk written_most w w (stage-small vs l k (omega arith)) p hp m)

  -- a coefficient is no larger than the distance from the prediction to the sample
  pub coefs-small : (p : ℕ) → p < points sh → Within 2441215 (at (coefs (layering sh curve) e xs) p)
  coefs-small p hp =
      let Y = layering sh curve in
      let proper = sheet-proper sh ok.shape curve in
      let j = layer-of proper p hp in
      subst (Within 2441215) (sym (coef-at Y proper e xs j.0 p j.1 hp j.2))
      (coefficient-range (at xs p) (Y.predict j.0 (values_by Y (writes e xs) (blank Y) j.0) p) e (ok.small p hp)
      (predicted-small (blank Y) (length-blank Y) j.0 j.1 p hp j.2))

  -- 23 digits, from -2,796,202 to 5,592,405, are enough for every sheet that is accepted
  pub coefs-reach : (p : ℕ) → p < points sh → (down (at (coefs (layering sh curve) e xs) p) ≤ 2796202) × (up (at (coefs (layering sh curve) e xs) p) ≤ 5592405)
  coefs-reach p hp = let w = coefs-small p hp in (omega arith, omega arith)

-- ---- any coefficients of at most B
-- the values after k layers, at the widest step
unfoldable pub limit : ℕ → ℕ → ℕ
limit B zero = 0
limit B (suc k) = carried Cubic (limit B k) + B * (2 * step_most + 1)

limit-rises : (B k : ℕ) → limit B k ≤ limit B (suc k)
unfolding limit
limit-rises B k = omega (arith, carried-up Cubic (limit B k))

pub limit-all : (B k n : ℕ) → k ≤ n → limit B k ≤ limit B n
limit-all B = rises (limit B) (limit-rises B)

pub limit-most : limit counted_most layers_most ≤ value_most
unfolding limit carried ceil_div
limit-most = omega arith

-- no number of 23 digits to the base -2 is larger than 5,592,405 (`digits`, proofs/Range, `range-23`), so neither a coefficient that is read nor the middle that is added to it;
-- and no value that such coefficients give has more than 15 decimal digits
abbrev pub read_most : ℕ
read_most = 2 * 5592405

abbrev pub value_limit : ℕ
value_limit = 10 ^ 15 - 1

pub limit-read : limit read_most layers_most ≤ value_limit
unfolding limit carried ceil_div
limit-read = omega arith

size-rule : (c : Curve) (m : ℕ) → Rule c (λ a _. Within m a) (λ a _. Within (carried Cubic m) a)
size-rule c m =
    let r = within-rule c m in
    let w = carried-cubic c m in
    record {
      one = λ b b' x. within_more w (r.one b b' x);
      two = λ b d b' d' x y. within_more w (r.two b d b' d' x y);
      four = λ t a b d f a' b' d' f' x y u v. within_more w (r.four t a b d f a' b' d' f' x y u v);
    }

product : (B e : ℕ) → e ≤ step_most → B * width e ≤ B * (2 * step_most + 1)
unfolding width
product B e h = mul-le-mul_left B (omega arith)

zero-rebuilt : (e : ℕ) → rebuilt_from (pos 0) (pos 0) e ≡ pos 0
unfolding rebuilt_from
zero-rebuilt e = eq-by (lit 0 ⊞ lit 0 ⊠ width e) (lit 0) (omega arith)

module _ (sh : Shape) (ok : accepted sh ≡ true) (curve : Curve) (e : ℕ) (step : e ≤ step_most) (qs : List ℤ) where
  -- after k layers every value that a prediction may take is at most limit B k
  pub stage-limit : (B : ℕ) → ((p : ℕ) → p < points sh → Within B (at qs p)) → (vs : List ℤ) → length vs ≡ points sh → (k : ℕ) → k ≤ layers sh
      → Below (limit B k) sh curve k (values_by (layering sh curve) (reads e qs) vs k)
  stage-limit B small vs l =
      stage-rel (layering sh curve) (sheet-proper sh ok curve) e (λ k a b. Within (limit B k) a) (λ k a b. Within (carried Cubic (limit B k)) a) (λ k a b. Within B a)
      qs qs
      (λ k hk. sheet-carries sh ok curve (λ a _. Within (limit B k) a) (λ a _. Within (carried Cubic (limit B k)) a) k (size-rule (curve_of sh curve k) (limit B k)) (λ z. record { size = omega arith }) hk)
      (λ k a b hk r. within_more (limit-rises B k) r)
      (λ k p y y' q q' hk hp m a b. within_more (sum B k) (near_within (subst (Near _ (rebuilt_from y q e)) (zero-rebuilt e) (rebuilt-carry e (within-near a) (within-near b)))))
      (λ k p hk hp m. small p hp)
      vs vs l l
    where
      sum : (B k : ℕ) → carried Cubic (limit B k) + B * width e ≤ limit B (suc k)
      sum B k = unfold limit in (omega (arith, product B e step))

  few : (B k : ℕ) → k ≤ layers sh → limit B k ≤ limit B layers_most
  few B k hk = limit-all B k layers_most (omega (arith, layers-few sh (accepted-yes sh ok)))

  pub any-limit : ((p : ℕ) → p < points sh → Within counted_most (at qs p)) → (vs : List ℤ) → length vs ≡ points sh → (k : ℕ) → k ≤ layers sh
      → Below value_most sh curve k (values_by (layering sh curve) (reads e qs) vs k)
  any-limit small vs l k hk p hp y = within_more (le_trans (few counted_most k hk) limit-most) (stage-limit counted_most small vs l k hk p hp y)

  -- after all layers, at every place: past the end stands 0
  pub rebuilt-limit : ((p : ℕ) → p < points sh → Within read_most (at qs p)) → (p : ℕ) → Within value_limit (at (rebuilt (layering sh curve) e qs) p)
  unfolding rebuilt
  rebuilt-limit small p =
      let Y = layering sh curve in
      elim (dec_lt p (points sh)) [
        | yes hp ↦
            within_more (le_trans (few read_most (layers sh) (le_refl _)) limit-read)
            (stage-limit read_most small (blank Y) (length-blank Y) (layers sh) (le_refl _) p hp ((sheet-proper sh ok curve).all p hp))
        | no past ↦
            rw (get_or-eq_default (rebuilt Y e qs) (pos 0) (let l : length (rebuilt Y e qs) ≤ p = omega (arith, length-rebuilt Y e qs) in l))
            (record { size = omega arith })
      ]
