-- Bytes that carry coefficients: the planes that a plan loads have the bits made for them, so a point's bit is its coefficient's digit.
use mathlib.Core.List.{List}
use mathlib.Core.Path.{◌≡◌, ◌∙◌}
use Prim.Native.Nat.{ℕ, ◌+◌, ◌*◌, ◌<◌, ◌≤◌}
use native.Mathlib.Omega.{arith}
use borrow.Author.Tests.{lt-ltb}
use lib.IntN.{ℤ}
use Rattle.digits.specs.Digits.{digit_at}
use Rattle.sheet.specs.Lists.{at}
use Rattle.sheet.specs.Sheet.{layers, layer_size, point_of}
use Rattle.header.specs.declared.Header.{Header}
use Rattle.header.specs.declared.Plan.{Plan}
use Rattle.header.specs.Header.{cell_points, planes_of, plane_cells}
use Rattle.header.specs.Plan.{loads}
use Rattle.header.proofs.Total.{plane-room}
use Rattle.packing.specs.Planes.{plane_bit}
use Rattle.loading.specs.InBytes.{bit_of}

pub record Carries (h : Header) (long : ℕ) (bs : List ℕ) (qs : List ℤ) (plan : Plan) : Type 0 where
  pub bit : (k p : ℕ) → k < layers h.shape → p < planes_of h k → planes_of h k ≤ p + loads plan k
      → (i : ℕ) → i < cell_points * plane_cells h.shape k → bit_of h long bs k p i ≡ plane_bit h.shape qs k p i

pub carried-digit : {h : Header} {long : ℕ} {bs : List ℕ} {qs : List ℤ} {plan : Plan} → Carries h long bs qs plan
    → (k p : ℕ) → k < layers h.shape → p < planes_of h k → planes_of h k ≤ p + loads plan k
    → (i : ℕ) → i < layer_size h.shape k → bit_of h long bs k p i ≡ digit_at (at qs (point_of h.shape k i)) p
unfolding plane_bit
carried-digit {h} c k p hk named asked i l =
    c.bit k p hk named asked i (omega (arith, plane-room h.shape k)) ∙ rw (lt-ltb i (layer_size h.shape k) l)
