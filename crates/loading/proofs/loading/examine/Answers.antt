-- By the tests in turn: what the planes' loading comes to, as far as it is refused.
use Rattle.std.proofs.Common.{◌≡◌, sym, ap, ◌∙◌, arith, Ok, Err}
use Rattle.header.specs.Plan.{loads}
use Rattle.order.specs.CardOrder.{whole_of}
use Rattle.loading.specs.Workings.Words.{loaded_as}
use Rattle.loading.specs.Workings.Calls.{Loading}
use Rattle.loading.proofs.Loads.{loadable-right, loadable-here, not-loadable, whole-there, whole-loading, load-bad, load-fine}
use Rattle.loading.proofs.loading.examine.Goals as goal

pub returns-then-not-is_loadable : goal.returns-then-not-is_loadable
returns-then-not-is_loadable c =
    ap (λ (l : Loading). l.refused) (not-loadable c.args.coefficients.now c.args.bytes.now c.args.header c.args.at (sym c.if-not-is_loadable.ensures) (whole_of c.args.bytes.now c.args.header c.args.at))

pub overflow_sub-bytes : goal.overflow_sub-bytes
overflow_sub-bytes c = omega (arith, loadable-here c.args.coefficients.now c.args.bytes.now c.args.header c.args.at (sym c.if-not-is_loadable.ensures))

pub new-requires : goal.new-requires
new-requires c =
    let y = sym c.if-not-is_loadable.ensures in (
      loadable-right c.args.coefficients.now c.args.bytes.now c.args.header c.args.at y,
      loadable-here c.args.coefficients.now c.args.bytes.now c.args.header c.args.at y,
      whole-there c.args.coefficients.now c.args.bytes.now c.args.header c.args.at y c.whole_planes-all.result _ c.whole_planes-all.ensures (omega arith),
    )

pub returns-in-Err : goal.returns-in-Err
returns-in-Err c =
    let e = c.new.ensures in
    let answer : Err c.in-Err.field-0 ≡ loaded_as c.args.header c.args.at c.args.bytes.now (loads c.whole_planes-all.result) = rw (← e.2, ← e.1, ← e.0, ← e.3) c.in-Err.ensures.answer in
    ap (λ (l : Loading). l.refused)
    (load-bad c.args.header c.args.at c.args.bytes.now c.whole_planes-all.result c.args.coefficients.now c.in-Err.field-0 answer
    ∙ whole-loading c.args.coefficients.now c.args.bytes.now c.args.header c.args.at (sym c.if-not-is_loadable.ensures) c.whole_planes-all.result _ c.whole_planes-all.ensures (omega arith))

pub returns-in-Ok : goal.returns-in-Ok
returns-in-Ok c =
    let e = c.new.ensures in
    let answer : Ok c.in-Ok.field-0 ≡ loaded_as c.args.header c.args.at c.args.bytes.now (loads c.whole_planes-all.result) = rw (← e.2, ← e.1, ← e.0, ← e.3) c.in-Ok.ensures.answer in
    ap (λ (l : Loading). l.refused)
    (load-fine c.args.header c.args.at c.args.bytes.now c.whole_planes-all.result c.args.coefficients.now c.in-Ok.field-0 answer
    ∙ whole-loading c.args.coefficients.now c.args.bytes.now c.args.header c.args.at (sym c.if-not-is_loadable.ensures) c.whole_planes-all.result _ c.whole_planes-all.ensures (omega arith))
