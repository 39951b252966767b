-- A plane that is not fine is refused, and otherwise the words give the coefficients.
use Rattle.std.proofs.Common.{◌≡◌, ap, ◌∙◌, arith}
use Rattle.header.specs.Plan.{loads}
use Rattle.header.proofs.WellFormed.{right-yes}
use Rattle.layers.proofs.Answers.{full-long}
use Rattle.loading.specs.Workings.Calls.{done}
use Rattle.loading.specs.Workings.Words.{halves, Read}
use Rattle.loading.proofs.Loads.{load-bad, load-fine}
use Rattle.loading.proofs.ReadWords.{read_right}
use Rattle.loading.proofs.loading.load_planes.Goals as goal

pub all-requires : goal.all-requires
all-requires c = (c.new-adding.ensures.0, λ p e. let top : 22 ≡ p = omega arith in c.new-adding.ensures.1 ∙ ap halves top)

pub spread-requires-clause-shape_value : goal.spread-requires-clause-shape_value
spread-requires-clause-shape_value c = (right-yes c.args.header c.requires.header_value.0).shape

pub spread-requires-clause-coefficients_len : goal.spread-requires-clause-coefficients_len
spread-requires-clause-coefficients_len c =
    let kept = c.in-Ok.ensures.kept in
    (full-long c.args.header.shape c.args.coefficients.now c.requires.coefficients_value, rw kept.1.0.0 kept.1.1.long_is)

pub spread-requires-clause-by_index : goal.spread-requires-clause-by_index
spread-requires-clause-by_index c i = let kept = c.in-Ok.ensures.kept in rw kept.1.0.0 (kept.1.1.small i)

pub returns-in-Err : goal.returns-in-Err
returns-in-Err c =
    let e = c.new.ensures in
    load-bad c.args.header c.args.at c.args.bytes.now c.args.plan c.args.coefficients.now c.in-Err.field-0 (rw (← e.2, ← e.1, ← e.0, ← e.3) c.in-Err.ensures.answer)

pub returns-in-Ok : goal.returns-in-Ok
returns-in-Ok c =
    let e = c.new.ensures in
    let kept = c.in-Ok.ensures.kept in
    let read : Read c.args.header c.args.at c.args.bytes.now (loads c.args.plan) c.all.new.taking.words.now = rw (← e.2, ← e.1, ← e.0, ← e.3, kept.1.0.0) kept.1.1 in
    ap done (c.spread.ensures ∙ read_right c.args.header c.args.at c.args.bytes.now (loads c.args.plan) _ c.requires.header_value.0 read)
    ∙ load-fine c.args.header c.args.at c.args.bytes.now c.args.plan c.args.coefficients.now c.in-Ok.field-0 (rw (← e.2, ← e.1, ← e.0, ← e.3) c.in-Ok.ensures.answer)
