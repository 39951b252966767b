-- The error law of a sheet: coefficients that differ by at most off k in layer k give values that differ by at most what stands after all
-- layers. It is the error law with the sheet's carry; a layer with a point is not empty.
use mathlib.Core.Path.{◌≡◌, sym, ◌∙◌}
use mathlib.Core.Bool.{true, true≢false}
use mathlib.Core.List.{List}
use Prim.Native.Nat.{ℕ, suc, ◌+◌, ◌*◌, ◌<◌, ◌≤◌}
use native.Mathlib.Nat.{le_refl, zero-div, zero-mod}
use native.Mathlib.Omega.{arith}
use lib.Dec.{eqb}
use lib.IntN.{ℤ}
use borrow.Author.Tests.{eqb-true, eqb-false, ne_eqb}
use Rattle.integers.specs.Distance.{Near}
use Rattle.integers.proofs.Near.{near-trans}
use Rattle.sheet.specs.declared.Shape.{Shape}
use Rattle.sheet.specs.declared.Curve.{Curve}
use Rattle.sheet.specs.Lists.{at}
use Rattle.sheet.specs.Sheet.{accepted, points, place, layers, spacing, in_layer, layer_size}
use Rattle.layers.specs.Prediction.{width}
use Rattle.layers.specs.Layering.{layering, rebuilt, coefs}
use Rattle.layers.specs.Carry.{curve_of, carry, standing}
use Rattle.integers.proofs.Bools.{by}
use Rattle.sheet.proofs.Accepting.{accepted-yes}
use Rattle.sheet.proofs.Fits.{place-in}
use Rattle.sheet.proofs.Places.{size_none}
use Rattle.layers.proofs.SheetLaw.{sheet-proper}
use Rattle.layers.proofs.Carry.{carried_none, carried-up, sheet-near}
use Rattle.layers.proofs.Law.{read_back, written-near}
use Rattle.layers.proofs.Error.{error}

module _ (sh : Shape) (curve : Curve) (own : ℕ → ℕ) where
  -- an empty layer changes nothing
  pub standing-empty : (k : ℕ) → layer_size sh k ≡ 0 → standing sh curve own (suc k) ≡ standing sh curve own k
  unfolding standing
  standing-empty k e = rw e

  -- any other carries and adds
  pub standing-more : (k : ℕ) → (layer_size sh k ≡ 0 → ⊥) → standing sh curve own (suc k) ≡ carry sh curve k (standing sh curve own k) + own k
  unfolding standing
  standing-more k n = rw (ne_eqb (layer_size sh k) 0 n)

  pub standing-rises : (k : ℕ) → standing sh curve own k ≤ standing sh curve own (suc k)
  standing-rises k =
      by (eqb (layer_size sh k) 0)
      (λ e. rw (standing-empty k (eqb-true (layer_size sh k) 0 e)) (le_refl _))
      (λ e. rw (standing-more k (eqb-false (layer_size sh k) 0 e)) (omega (arith, carried-up (curve_of sh curve k) (standing sh curve own k))))

-- after layer 0 its own loss × w stands
first_some : (sh : Shape) → accepted sh ≡ true → layer_size sh 0 ≡ 0 → ⊥
first_some sh ok z =
    let s = accepted-yes sh ok in
    let corner : place sh 0 0 0 < points sh = place-in sh s.thick s.tall s.wide in
    let h : 0 < points sh = omega arith in
    true≢false (sym origin ∙ size_none sh 0 z 0 h)
  where
    origin : in_layer sh 0 0 ≡ true
    origin = unfold in_layer in (rw (zero-div sh.cols, zero-mod sh.cols, zero-div sh.rows, zero-mod sh.rows, zero-mod (spacing sh 0)))

pub standing-first : (sh : Shape) → accepted sh ≡ true → (curve : Curve) (own : ℕ → ℕ) → standing sh curve own 1 ≡ own 0
unfolding standing
standing-first sh ok curve own = standing-more sh curve own 0 (first_some sh ok) ∙ rw (carried_none (curve_of sh curve 0)) (omega arith)

module _ (sh : Shape) (ok : accepted sh ≡ true) (curve : Curve) (e : ℕ) (off : ℕ → ℕ) where
  pub sheet-error : (qs qs' : List ℤ)
      → ((k p : ℕ) → k < layers sh → p < points sh → in_layer sh k p ≡ true → Near (off k) (at qs p) (at qs' p))
      → (p : ℕ) → p < points sh
      → Near (standing sh curve (λ k. off k * width e) (layers sh)) (at (rebuilt (layering sh curve) e qs) p) (at (rebuilt (layering sh curve) e qs') p)
  sheet-error =
      error (layering sh curve) (sheet-proper sh ok curve) e (standing sh curve own) off (carry sh curve)
      (λ k m hk. sheet-near sh ok curve k hk m)
      (λ k hk. standing-rises sh curve own k)
      (λ k p hk hp m. rw (standing-more sh curve own k (some k p hp m)) (le_refl _))
    where
      own : ℕ → ℕ
      own k = off k * width e

      some : (k p : ℕ) → p < points sh → in_layer sh k p ≡ true → layer_size sh k ≡ 0 → ⊥
      some k p hp m z = true≢false (sym m ∙ size_none sh k z p hp)

  -- so values rebuilt from coefficients that are off by so much stand within the step and what stands of the samples
  pub sheet-samples : (xs qs : List ℤ)
      → ((k p : ℕ) → k < layers sh → p < points sh → in_layer sh k p ≡ true → Near (off k) (at (coefs (layering sh curve) e xs) p) (at qs p))
      → (p : ℕ) → p < points sh
      → Near (e + standing sh curve (λ k. off k * width e) (layers sh)) (at xs p) (at (rebuilt (layering sh curve) e qs) p)
  sheet-samples xs qs apart p hp =
      near-trans (rw (← read_back (layering sh curve) (sheet-proper sh ok curve) e xs) at (written-near (layering sh curve) (sheet-proper sh ok curve) e xs p hp))
      (sheet-error (coefs (layering sh curve) e xs) qs apart p hp)
