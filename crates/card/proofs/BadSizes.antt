-- A size is refused just where no sheet has it: each test of `bad_sizes` is one of those of `sized` at depth 1, turned over.
use mathlib.Core.Path.{◌≡◌, refl, sym, ap, ◌∙◌}
use mathlib.Core.Bool.{Bool, true, false, not, ◌&&◌, ◌||◌}
use Prim.Native.Nat.{ℕ, ◌*◌}
use native.Mathlib.Omega.{arith}
use lib.Dec.{ltb, leb, eqb}
use borrow.Author.Tests.{leb-true, leb-false, lt-ltb, le-ltb, eq-eqb, ne_eqb}
use Rattle.integers.proofs.Bools.{by}
use Rattle.sheet.specs.Limits.{points_most}
use Rattle.sheet.specs.Sheet.{sized}
use Rattle.card.specs.Writing.{bad_sizes}

none : (n : ℕ) → eqb n 0 ≡ not (leb 1 n)
none n =
    by (leb 1 n)
    (λ y. ne_eqb n 0 (λ z. omega (arith, leb-true 1 n y)) ∙ ap not (sym y))
    (λ f. eq-eqb n 0 (omega (arith, leb-false 1 n f)) ∙ ap not (sym f))

above : (m n : ℕ) → ltb m n ≡ not (leb n m)
above m n =
    by (leb n m)
    (λ y. le-ltb m n (leb-true n m y) ∙ ap not (sym y))
    (λ f. lt-ltb m n (leb-false n m f) ∙ ap not (sym f))

not-all : (a b c : Bool) → not a || (not b || not c) ≡ not ((a && b) && c)
not-all true true c = refl
not-all true false c = refl
not-all false b c = refl

pub bad-sizes : (rows cols : ℕ) → bad_sizes rows cols ≡ not (sized 1 rows cols)
unfolding bad_sizes sized
bad-sizes rows cols =
    let one : 1 * rows * cols ≡ rows * cols = omega arith in
    rw one
    ((λ i. none rows i || (none cols i || above points_most (rows * cols) i))
    ∙ not-all (leb 1 rows) (leb 1 cols) (leb (rows * cols) points_most))
