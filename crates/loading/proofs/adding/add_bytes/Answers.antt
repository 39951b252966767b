-- Each half byte adds its four numbers behind those of the halves before it. The words that a turn changes are still as at entry, so that they stay below 2 ^ 32.
use Rattle.std.proofs.Common.{◌≡◌, ℕ, ◌+◌, ◌*◌, get_or, ap, ◌∙◌, arith}
use Rattle.loading.specs.Workings.Words.{words_with, added}
use Rattle.loading.proofs.PlaneSums.{with_none, with-after}
use Rattle.loading.proofs.HalfBytes.{half-low, half_high, half-more}
use Rattle.loading.proofs.Parts.{part-at, part-long}
use Rattle.loading.proofs.adding.add_bytes.Goals as goal

pub loop-b-init : goal.loop-b-init
loop-b-init c = with_none c.args.words.now c.args.start 0 _

pub add_half-requires : goal.add_half-requires
add_half-requires c =
    let bs = c.args.bytes.now in
    let number = added c.args.table.now bs c.args.from in
    let long = part-long bs c.args.from (c.args.from + c.args.n) c.requires.2 in (
      omega arith,
      omega (arith, long),
      c.requires.3,
      λ j h. omega (arith, ap (λ ws. get_or ws j 0) c.loop-b.invariant, with-after c.args.words.now c.args.start (8 * c.loop-b.b) 0 number j h, c.requires.4 j),
    )

pub add_half-requires-in-loop-b : goal.add_half-requires-in-loop-b
add_half-requires-in-loop-b c =
    let bs = c.args.bytes.now in
    let from = c.args.from in
    let b = c.loop-b.b in
    let number = added c.args.table.now bs from in
    let long = part-long bs from (from + c.args.n) c.requires.2 in
    let here = part-at bs from (from + c.args.n) b (omega (arith, long)) in
    let lower = half-more c.args.table.now bs c.args.words.now from c.args.start (8 * b) (2 * b) c.loop-b.invariant c.add_half.ensures (omega arith) (omega arith) (omega (arith, here, half-low bs from b)) in (
      omega (arith, here, c.type_inv.bytes (from + b)),
      omega (arith, long),
      c.requires.3,
      λ j h. omega (arith, ap (λ ws. get_or ws j 0) lower, with-after c.args.words.now c.args.start (8 * b + 4) 0 number j (omega arith), c.requires.4 j),
    )

pub loop-b-preserved : goal.loop-b-preserved
loop-b-preserved c =
    let bs = c.args.bytes.now in
    let from = c.args.from in
    let b = c.loop-b.b in
    let number = added c.args.table.now bs from in
    let long = part-long bs from (from + c.args.n) c.requires.2 in
    let here = part-at bs from (from + c.args.n) b (omega (arith, long)) in
    let lower = half-more c.args.table.now bs c.args.words.now from c.args.start (8 * b) (2 * b) c.loop-b.invariant c.add_half.ensures (omega arith) (omega arith) (omega (arith, here, half-low bs from b)) in
    let all : 8 * b + 4 + 4 ≡ 8 * (b + 1) = omega arith in
    half-more c.args.table.now bs c.args.words.now from c.args.start (8 * b + 4) (2 * b + 1) lower c.add_half-in-loop-b.ensures (omega arith) (omega arith) (omega (arith, here, half_high bs from b (omega (arith, c.type_inv.bytes (from + b)))))
    ∙ ap (λ (n : ℕ). words_with c.args.words.now c.args.start n 0 number) all
