-- A turn finds its word as it was at entry, so that it stays below 2 ^ 32, and sets it.
use Rattle.std.proofs.Common.{◌≡◌, ℕ, ◌+◌, ◌*◌, ◌-◌, ◌^◌, get_or, set, take, drop, ap, ◌∙◌, arith}
use Rattle.loading.specs.Workings.Words.{words_with}
use Rattle.loading.proofs.PlaneSums.{with_none, with-after, with-next}
use Rattle.loading.proofs.Parts.{part-at, part-long}
use Rattle.loading.proofs.adding.add_half.Goals as goal

pub loop-j-init : goal.loop-j-init
loop-j-init c = with_none c.args.words.now c.args.first 0 _

pub overflow_add-words-in-loop-j : goal.overflow_add-words-in-loop-j
overflow_add-words-in-loop-j c =
    let from = 4 * c.args.half in
    let at = c.args.first + c.loop-j.j in
    let number : ℕ → ℕ = λ i. get_or c.args.table.now (from + i) 0 in
    let long = part-long c.args.table.now from (from + 4) (omega (arith, c.told-table)) in
    let here = part-at c.args.table.now from (from + 4) c.loop-j.j (omega (arith, long)) in
    omega (
      arith,
      here,
      ap (λ ws. get_or ws at 0) c.loop-j.invariant,
      with-after c.args.words.now c.args.first c.loop-j.j 0 number at (omega arith),
      c.requires.2 (from + c.loop-j.j),
      c.requires.3 at (omega arith),
    )

pub loop-j-preserved : goal.loop-j-preserved
loop-j-preserved c =
    let from = 4 * c.args.half in
    let at = c.args.first + c.loop-j.j in
    let number : ℕ → ℕ = λ i. get_or c.args.table.now (from + i) 0 in
    let long = part-long c.args.table.now from (from + 4) (omega (arith, c.told-table)) in
    let more = get_or (take (from + 4 - from) (drop from c.args.table.now)) c.loop-j.j 0 in
    let here : more ≡ number c.loop-j.j * 2 ^ 0 = omega (arith, part-at c.args.table.now from (from + 4) c.loop-j.j (omega (arith, long))) in
    ap (λ vs. set vs at (get_or vs at 0 + more)) c.loop-j.invariant
    ∙ with-next c.args.words.now c.args.first c.loop-j.j 0 number _ (omega (arith, long)) (ap (λ (x : ℕ). get_or (words_with c.args.words.now c.args.first c.loop-j.j 0 number) at 0 + x) here)

pub returns : goal.returns
returns c =
    let from = 4 * c.args.half in
    let long = part-long c.args.table.now from (from + 4) (omega (arith, c.told-table)) in
    let all : c.loop-j.j ≡ 4 = omega (arith, long) in
    c.loop-j.invariant ∙ ap (λ (n : ℕ). words_with c.args.words.now c.args.first n 0 (λ i. get_or c.args.table.now (from + i) 0)) all
