-- A text of no bytes has zeros behind it alone.
use mathlib.Core.Path.{◌≡◌, ap}
use mathlib.Core.List.{List, []}
use Prim.Native.Nat.{ℕ}
use native.Mathlib.Omega.{arith}
use lib.ListN.{replicate}
use Rattle.text.proofs.Padding.{padded-none}
use Rattle.display.specs.Workings.{piece_most, piece_of}
use Rattle.display.proofs.Behind.{piece}
use Rattle.display.proofs.pieces.nothing.Statement.{statement}
use Rattle.display.proofs.pieces.nothing.Tie as tie

none : (z n : ℕ) → z ≡ 0 → n ≡ 0 → piece (replicate piece_most z) n ≡ piece_of []
none z n e f = rw (e, f) (ap (λ (l : List ℕ). piece l 0) (padded-none piece_most))

returns : tie.Need-returns
returns c = none _ _ (omega arith) (omega arith)

pub nothing_spec : {M : Type 1} → statement M
nothing_spec =
    tie.close (tie.spec returns)
