-- The loop puts the rows of each eight words in turn: after g turns those of the first g eights stand at the front (`turn_more`), and the words behind them are as they were.
use mathlib.Core.Path.{◌≡◌, sym, ap, ◌∙◌}
use Prim.Native.Nat.{ℕ, ◌+◌, ◌-◌, ◌*◌, ◌≤◌}
use native.Mathlib.Omega.{arith}
use lib.ListN.{length}
use lib.Seq.{sets, length-sets}
use Rattle.sheet.specs.Lists.{tabulate}
use Rattle.packing.proofs.RowBytes.{row_at, turn_more, turn-all}
use Rattle.packing.proofs.Runs.{sets-none}
use Rattle.packing.proofs.rows.turn.Statement.{statement}
use Rattle.packing.proofs.rows.turn.Tie as tie

abbrev invariant-loop : tie.invariant-loop-g
invariant-loop words₀ n eights g₀ words g = (8 * g ≤ n) × (words ≡ sets words₀ 0 (tabulate (8 * g) (row_at words₀)))

abbrev decreases-loop : tie.decreases-loop-g
decreases-loop words₀ n eights g₀ words g = eights - g

abbrev L : Type 0
L = tie.At-loop-g invariant-loop decreases-loop

abbrev S : L → tie.Start invariant-loop decreases-loop
S l = l.before.before

same : (l : L) → length l.loop-g.words ≡ length (S l).args.words.now
same l = ap length l.loop-g.invariant.1 ∙ length-sets (S l).args.words.now 0 (tabulate (8 * l.loop-g.g) (row_at (S l).args.words.now))

loop-holds : tie.Need-loop-g-init invariant-loop decreases-loop
loop-holds c = (omega arith, sym (sets-none c.before.args.words.now 0 (row_at c.before.args.words.now)))

mul-turn-eight : tie.Need-overflow_mul-g invariant-loop decreases-loop
mul-turn-eight c = omega (arith, c.before.before.loop-g.invariant.0)

turn-eight-requires : tie.Need-turn_eight-requires invariant-loop decreases-loop
turn-eight-requires c κs = let l = c.before.before in omega (arith, c.before.loop-g-test.true, same l, (S l).requires.1)

-- a turn
abbrev C : Type 0
C = tie.After-slice_known-in-loop-g-1 invariant-loop decreases-loop

abbrev I : C → tie.In-loop-g invariant-loop decreases-loop
I c = c.before.before.before.before

add-g : tie.Need-overflow_step-g invariant-loop decreases-loop
add-g c = omega (arith, (I c).loop-g-test.true)

loop-less : tie.Need-loop-g-smaller invariant-loop decreases-loop
loop-less c = omega (arith, (I c).loop-g-test.true)

loop-again : tie.Need-loop-g-preserved invariant-loop decreases-loop
loop-again c =
    let l = (I c).before in
    let g = l.loop-g.g in
    let ws = (S l).args.words.now in
    let e : 8 * g + 8 ≡ 8 * (g + 1) = omega arith in (
      omega (arith, (I c).loop-g-test.true),
      turn_more ws g l.loop-g.words _ l.loop-g.invariant.1 c.before.before.turn_eight.ensures ∙ ap (λ (n : ℕ). sets ws 0 (tabulate n (row_at ws))) e,
    )

same_length : tie.Need-shape_of-words invariant-loop decreases-loop
same_length c = same c.before

returns : tie.Need-returns invariant-loop decreases-loop
returns c =
    let l = c.before in
    let s = S l in
    l.loop-g.invariant.1 ∙ turn-all s.args.words.now (8 * l.loop-g.g) s.args.n (omega (arith, c.loop-g-test.false, l.loop-g.invariant.0, s.requires.0))

pub turn_spec : {M : Type 1} → statement M
turn_spec =
    tie.close (tie.spec invariant-loop decreases-loop loop-holds mul-turn-eight turn-eight-requires add-g loop-less loop-again same_length returns)
