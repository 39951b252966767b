-- The losses of coefficients: those that their words measure are the same, since the words have the same numbers; and none is above the closed loss.
use mathlib.Core.List.{List}
use mathlib.Core.Path.{◌≡◌, ap}
use mathlib.Core.Bool.{true}
use Prim.Native.Nat.{ℕ, suc, ◌<◌, ◌≤◌}
use native.Mathlib.Omega.{arith}
use lib.IntN.{ℤ}
use Rattle.digits.specs.Digits.{holds, loss, away}
use Rattle.digits.proofs.Expansion.{away-loss}
use Rattle.sheet.specs.declared.Shape.{Shape}
use Rattle.sheet.specs.Lists.{at}
use Rattle.sheet.specs.Sheet.{accepted, layers, layer_size, point_of}
use Rattle.sheet.proofs.Largest.{largest-same, largest-most}
use Rattle.header.specs.Header.{places_most}
use Rattle.header.specs.Losses.{laid}
use Rattle.header.proofs.Laid.{laid_same}
use Rattle.packing.specs.Planes.{planes_for, measured_loss, losses_for}
use Rattle.packing.specs.Workings.Words.{layer_words, Gathered, Small, measured, measured_at}
use Rattle.packing.proofs.Blocks.{layer-long}
use Rattle.packing.proofs.Needed.{word_small, word_at, number_at}

-- THE LOSSES OF THE WORDS are those of the coefficients
module _ (sh : Shape) (ok : accepted sh ≡ true) (qs : List ℤ) (ws : List ℕ) (g : Gathered sh qs ws) (held : (p : ℕ) → holds places_most (at qs p) ≡ true) where
  -- they are small
  pub block_held : (k : ℕ) → k < layers sh → Small (layer_words sh ws k)
  block_held k l =
      record {
        below = λ i m.
            let h : i < layer_size sh k = omega (arith, layer-long sh ok ws k g.long l) in
            rw (word_at sh qs ws g k i l h) (word_small (at qs (point_of sh k i)) (held (point_of sh k i)));
      }

  measured-is : (k d : ℕ) → k < layers sh → measured_at sh ws k d ≡ measured_loss sh qs k d
  unfolding measured measured_loss
  measured-is k d l = rw (layer-long sh ok ws k g.long l) (largest-same _ _ (layer_size sh k) (λ i m. ap (away d) (number_at sh ok qs ws g held k i l m)))

  pub losses-same : (count : ℕ → ℕ) → ((k : ℕ) → k < layers sh → count k ≡ planes_for sh qs k) → laid (measured_at sh ws) count (layers sh) ≡ losses_for sh qs
  unfolding losses_for
  losses-same count e = laid_same (measured_at sh ws) (measured_loss sh qs) count (planes_for sh qs) (layers sh) e (λ k j l _. measured-is k (suc j) l)

-- ---- none is above the closed loss
pub measured-most : (sh : Shape) (qs : List ℤ) (k d : ℕ) → measured_loss sh qs k d ≤ loss d
unfolding measured_loss
measured-most sh qs k d = largest-most _ (loss d) (layer_size sh k) (λ i _. away-loss d (at qs (point_of sh k i)))
