-- What the prediction rule makes of an error, of two bounds that hold it, and of a size: the floors are bounded from both sides, and the
-- rest is linear.
use mathlib.Core.Path.{◌≡◌, refl}
use mathlib.Core.Bool.{true}
use Prim.Native.Nat.{ℕ, ◌+◌, ◌*◌, ◌/◌, ◌<◌, ◌≤◌}
use native.Mathlib.Omega.{arith}
use lib.IntN.{ℤ, pos, neg_ℤ, ◌-ℤ◌, ◌*ℤ◌}
use Rattle.integers.specs.Distance.{Within, Near}
use Rattle.integers.specs.Floor.{floor_div, ceil_div}
use Rattle.integers.proofs.Diff.{#, lit, ◌⊞◌, ◌⊖◌, ⊟, ◌⊡◌}
use Rattle.integers.proofs.Order.{eq-by}
use Rattle.integers.proofs.Near.{near_le, near-refl, within-near, near_within}
use Rattle.integers.proofs.Floor.{floor-at}
use Rattle.sheet.specs.declared.Shape.{Shape}
use Rattle.sheet.specs.declared.Curve.{Curve}
use Rattle.sheet.specs.declared.Curve.TheVariants.{Linear, Cubic}
use Rattle.sheet.specs.Sheet.{accepted, layers}
use Rattle.layers.specs.Prediction.{linear, cubic}
use Rattle.layers.specs.Layering.{layering}
use Rattle.layers.proofs.Proper.{Carries}
use Rattle.layers.specs.Carry.{carried, curve_of, carry}
use Rattle.layers.proofs.Ends.{Between, low_carried, high_carried}
use Rattle.layers.proofs.Point.{linear-near, cubic-near}
use Rattle.layers.proofs.SheetLaw.{Rule, sheet-carries}

pub carried-up : (c : Curve) (m : ℕ) → m ≤ carried c m
unfolding carried ceil_div
carried-up Cubic m = omega arith
carried-up Linear m = omega arith

pub carried_none : (c : Curve) → carried c 0 ≡ 0
unfolding carried ceil_div
carried_none Cubic = omega arith
carried_none Linear = refl

pub carried-mono : (c : Curve) (m n : ℕ) → m ≤ n → carried c m ≤ carried c n
unfolding carried ceil_div
carried-mono Cubic m n h = omega arith
carried-mono Linear m n h = h

-- strictly
pub carried-rising : (c : Curve) (m n : ℕ) → m < n → carried c m < carried c n
unfolding carried ceil_div
carried-rising Cubic m n h = omega arith
carried-rising Linear m n h = h

-- no curve carries further than the cubic one
pub carried-cubic : (c : Curve) (m : ℕ) → carried c m ≤ carried Cubic m
unfolding carried ceil_div
carried-cubic Cubic m = omega arith
carried-cubic Linear m = omega arith

-- a curve that takes four values carries as the cubic one does
five : (c : Curve) (m : ℕ) → c ≡ Cubic → ceil_div (5 * m) 4 ≤ carried c m
unfolding carried
five c m t = rw t (omega arith)

-- ---- an error
pub near-rule : (c : Curve) (m : ℕ) → Rule c (Near m) (Near (carried c m))
near-rule c m =
    record {
      one = λ b b' r. near_le (carried-up c m) r;
      two = λ b d b' d' r s. near_le (carried-up c m) (linear-near r s);
      four = λ t a b d f a' b' d' f' r s u v. near_le (five c m t) (cubic-near r s u v);
    }

-- ---- a size: a value's distance from 0
pub within-rule : (c : Curve) (m : ℕ) → Rule c (λ a _. Within m a) (λ a _. Within (carried c m) a)
unfolding linear cubic floor_div
within-rule c m =
    let rule = near-rule c m in
    record {
      one = λ b b' r. near_within (rule.one b (pos 0) (within-near r));
      two = λ b d b' d' r s. near_within (rule.two b d (pos 0) (pos 0) (within-near r) (within-near s));
      four = λ t a b d f a' b' d' f' r s u v. near_within (rule.four t a b d f (pos 0) (pos 0) (pos 0) (pos 0) (within-near r) (within-near s) (within-near u) (within-near v));
    }

-- ---- two bounds
linear-between : {l h b c b' c' : ℤ} → Between l h b b' → Between l h c c' → Between l h (linear b c) (linear b' c')
unfolding linear
linear-between {l} {h} {b} {c} {b'} {c'} r s =
    let f = floor-at (# b ⊞ # c) 2 (omega arith) in
    let g = floor-at (# b' ⊞ # c') 2 (omega arith) in
    record { low = omega arith; high = omega arith }

cubic-between : {l h a b c d a' b' c' d' : ℤ} → Between l h a a' → Between l h b b' → Between l h c c' → Between l h d d'
    → Between (low_carried Cubic l h) (high_carried Cubic l h) (cubic a b c d) (cubic a' b' c' d')
unfolding cubic low_carried high_carried
cubic-between {l} {h} {a} {b} {c} {d} {a'} {b'} {c'} {d'} ra rb rc rd =
    let f = floor-at (⊟ (# a) ⊞ 9 ⊡ # b ⊞ 9 ⊡ # c ⊖ # d) 16 (omega arith) in
    let g = floor-at (⊟ (# a') ⊞ 9 ⊡ # b' ⊞ 9 ⊡ # c' ⊖ # d') 16 (omega arith) in
    let x = floor-at (18 ⊡ # l ⊖ 2 ⊡ # h) 16 (omega arith) in
    let y = floor-at (2 ⊡ # l ⊖ 18 ⊡ # h) 16 (omega arith) in
    let z = (⊟ (# (floor_div (pos 2 *ℤ l -ℤ pos 18 *ℤ h) 16))).is in
    record { low = omega arith; high = omega arith }

low-wider : (c : Curve) {l h a b : ℤ} → Between l h a b → Between (low_carried c l h) (high_carried c l h) a b
unfolding low_carried high_carried
low-wider Linear r = r
low-wider Cubic {l} {h} {a} {b} r =
    let x = floor-at (18 ⊡ # l ⊖ 2 ⊡ # h) 16 (omega arith) in
    let y = floor-at (2 ⊡ # l ⊖ 18 ⊡ # h) 16 (omega arith) in
    let z = (⊟ (# (floor_div (pos 2 *ℤ l -ℤ pos 18 *ℤ h) 16))).is in
    record { low = omega arith; high = omega arith }

pub between-rule : (c : Curve) (l h : ℤ) → Rule c (Between l h) (Between (low_carried c l h) (high_carried c l h))
between-rule c l h =
    record {
      one = λ b b' r. low-wider c r;
      two = λ b d b' d' r s. low-wider c (linear-between r s);
      four = λ t a b d f a' b' d' f' r s u v. four c t r s u v;
    }
  where
    four : (c : Curve) → c ≡ Cubic → {a b d f a' b' d' f' : ℤ} → Between l h a a' → Between l h b b' → Between l h d d' → Between l h f f'
        → Between (low_carried c l h) (high_carried c l h) (cubic a b d f) (cubic a' b' d' f')
    four c t r s u v = rw t (cubic-between r s u v)

-- the symmetric bounds are carried as the error is
pub symmetric : (c : Curve) (m : ℕ) → (low_carried c (neg_ℤ (pos m)) (pos m) ≡ neg_ℤ (pos (carried c m))) × (high_carried c (neg_ℤ (pos m)) (pos m) ≡ pos (carried c m))
unfolding low_carried high_carried carried ceil_div
symmetric Linear m = (refl, refl)
symmetric Cubic m =
    let x = floor-at (18 ⊡ ⊟ (lit m) ⊖ 2 ⊡ lit m) 16 (omega arith) in
    let y = floor-at (2 ⊡ ⊟ (lit m) ⊖ 18 ⊡ lit m) 16 (omega arith) in (
      eq-by (# (floor_div (pos 18 *ℤ neg_ℤ (pos m) -ℤ pos 2 *ℤ pos m) 16)) (⊟ (lit ((5 * m + 3) / 4))) (omega arith),
      eq-by (⊟ (# (floor_div (pos 2 *ℤ neg_ℤ (pos m) -ℤ pos 18 *ℤ pos m) 16))) (lit ((5 * m + 3) / 4)) (omega arith),
    )

-- ---- so a sheet's layers carry an error, and two bounds that hold it
module _ (sh : Shape) (ok : accepted sh ≡ true) (curve : Curve) (k : ℕ) (hk : k < layers sh) where
  abbrev layer_curve : Curve
  layer_curve = curve_of sh curve k

  pub sheet-near : (m : ℕ) → Carries (layering sh curve) k (Near m) (Near (carry sh curve k m))
  sheet-near m = sheet-carries sh ok curve (Near m) (Near (carried layer_curve m)) k (near-rule layer_curve m) (λ z. near-refl _ _) hk

  -- at the anchors, where nothing stands before, the bounds have to hold 0
  pub sheet-between : (l h : ℤ) → (k ≡ 0 → Between (low_carried layer_curve l h) (high_carried layer_curve l h) (pos 0) (pos 0))
      → Carries (layering sh curve) k (Between l h) (Between (low_carried layer_curve l h) (high_carried layer_curve l h))
  sheet-between l h none = sheet-carries sh ok curve (Between l h) (Between (low_carried layer_curve l h) (high_carried layer_curve l h)) k (between-rule layer_curve l h) none hk

  pub sheet-within : (m : ℕ) → Carries (layering sh curve) k (λ a _. Within m a) (λ a _. Within (carry sh curve k m) a)
  sheet-within m = sheet-carries sh ok curve (λ a _. Within m a) (λ a _. Within (carried layer_curve m) a) k (within-rule layer_curve m) (λ z. record { size = omega arith }) hk
