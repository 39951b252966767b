-- A turn puts one number more, and no place of a line comes twice.
use Rattle.std.proofs.Common.{◌+◌, ◌*◌, ◌-◌, ◌<◌, get_or, take, drop, ap, ◌∙◌, arith}
use mir.Facts.{to_z-of_z}
use mir.Syntax.{w32}
use Rattle.integers.proofs.Diff.{#, via}
use Rattle.integers.proofs.Machine.{sfits-by}
use Rattle.digits.specs.Digits.{value}
use Rattle.digits.specs.Groups.{bits_of, by_groups, group_values}
use Rattle.digits.proofs.Words.{bits-within}
use Rattle.digits.proofs.Groups.{by-groups}
use Rattle.layers.proofs.Results.{result-is}
use Rattle.loading.proofs.Scatters.{scattered-more, line-new}
use Rattle.loading.proofs.Parts.{part-at, part-long}
use Rattle.loading.proofs.spreading.spread_line.Goals as goal

pub overflow_cast-coefficients : goal.overflow_cast-coefficients
overflow_cast-coefficients c =
    let at = c.args.start + c.loop-j.j in
    let w = get_or c.args.words.now at 0 in
    let long = part-long c.args.words.now c.args.start (c.args.start + c.args.n) c.requires.table_value.1 in
    let here = part-at c.args.words.now c.args.start (c.args.start + c.args.n) c.loop-j.j (omega (arith, long)) in
    let found = get_or (take (c.args.start + c.args.n - c.args.start) (drop c.args.start c.args.words.now)) c.loop-j.j 0 in
    let number = c.by_groups.ensures ∙ ap (λ table. by_groups table found) c.requires.table_value.0 ∙ ap (by_groups group_values) here ∙ by-groups w (omega (arith, c.requires.table_value.2 at)) in
    sfits-by (via (result-is c.by_groups.type_inv number) (# (value (bits_of 32 w)))) (omega (arith, bits-within 32 w, c.requires.table_value.2 at))

pub loop-j-preserved : goal.loop-j-preserved
loop-j-preserved c =
    let at = c.args.start + c.loop-j.j in
    let w = get_or c.args.words.now at 0 in
    let long = part-long c.args.words.now c.args.start (c.args.start + c.args.n) c.requires.table_value.1 in
    let low : c.loop-j.j < c.args.n = omega (arith, long) in
    let here = part-at c.args.words.now c.args.start (c.args.start + c.args.n) c.loop-j.j (omega (arith, long)) in
    let found = get_or (take (c.args.start + c.args.n - c.args.start) (drop c.args.start c.args.words.now)) c.loop-j.j 0 in
    let number = c.by_groups.ensures ∙ ap (λ table. by_groups table found) c.requires.table_value.0 ∙ ap (by_groups group_values) here ∙ by-groups w (omega (arith, c.requires.table_value.2 at)) in
    scattered-more (λ j. c.args.first + j * c.args.stride) (λ j. value (bits_of 32 (get_or c.args.words.now (c.args.start + j) 0))) _
    (λ k h. line-new c.args.first c.args.stride (c.requires.stride_nonzero.0 (omega arith)) k c.loop-j.j h)
    (c.requires.stride_nonzero.1 c.loop-j.j low)
    (to_z-of_z {w = w32} (sfits-by (via (result-is c.by_groups.type_inv number) (# (value (bits_of 32 w)))) (omega (arith, bits-within 32 w, c.requires.table_value.2 at))) ∙ result-is c.by_groups.type_inv number)
    c.loop-j.invariant
