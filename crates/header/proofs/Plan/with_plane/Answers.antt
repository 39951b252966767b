-- By cases on the two tests of the definition: the place is one that a plan has, and the number has a next one or stays.
use Rattle.std.proofs.Common.{arith, ◌≡◌, ℕ, ◌+◌, ◌^◌, ◌<◌, ◌≤◌, min, set}
use Rattle.std.proofs.lemmas.List.{set-get_or}
use native.Mathlib.Decide.{dec_lt}
use borrow.Author.Tests.{lt-ltb, le-ltb}
use Rattle.sheet.specs.Limits.{layers_most}
use Rattle.header.specs.declared.Plan.{Plan}
use Rattle.header.specs.Plan.{loads, with_plane}
use Rattle.header.proofs.Plan.with_plane.Goals as goal

past : (plan : Plan) (k : ℕ) → layers_most ≤ k → plan ≡ with_plane plan k
unfolding with_plane
past plan k h = simp (le-ltb k layers_most h)

grown : (plan : Plan) (k : ℕ) → k < layers_most → loads plan k < 2 ^ 64 → record { planes = set plan.planes k (min (loads plan k + 1) 18446744073709551615) } ≡ with_plane plan k
unfolding with_plane
grown plan k h f =
    elim (dec_lt (loads plan k + 1) (2 ^ 64)) [
      | yes l ↦ let n : min (loads plan k + 1) 18446744073709551615 ≡ loads plan k + 1 = omega arith in rw n (simp (lt-ltb k layers_most h, lt-ltb (loads plan k + 1) (2 ^ 64) l))
      | no l ↦ let n : min (loads plan k + 1) 18446744073709551615 ≡ loads plan k = omega arith in rw (n, set-get_or) (simp (lt-ltb k layers_most h, le-ltb (loads plan k + 1) (2 ^ 64) (omega arith)))
    ]

pub returns-then-layer-ge-MOST_LAYERS : goal.returns-then-layer-ge-MOST_LAYERS
returns-then-layer-ge-MOST_LAYERS c = past c.args.self c.args.layer (omega arith)

pub returns : goal.returns
returns c = rw c.saturating_add.ensures (grown c.args.self c.args.layer (omega arith) (omega arith))
