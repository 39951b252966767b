-- The runs are the words cut in pieces, so a run and what comes behind it measure what both do together (`measured-append`). None measures more than the loss, so once that is reached it is what all measure.
use Rattle.std.proofs.Common.{◌≡◌, ℕ, List, ◌++◌, arith, ap, ◌∙◌}
use Rattle.std.specs.Slice.Iter.{chunks_rest}
use Rattle.packing.specs.Workings.Words.{measured}
use Rattle.packing.proofs.Measured.{told, small-append, measured-none, measured-append, measured-loss}
use Rattle.packing.proofs.measuring.measure.Goals as goal

pub overflow_cast-loss : goal.overflow_cast-loss
overflow_cast-loss c = let t = told _ _ c.loss-loss.ensures c.requires.d_nonzero.0 c.requires.d_nonzero.1 in omega (arith, t.few)

pub loop-run-init : goal.loop-run-init
loop-run-init c =
    let d = c.args.d in
    let t = told d _ c.loss-loss.ensures c.requires.d_nonzero.0 c.requires.d_nonzero.1 in
    let parts = c.split_at.ensures.by_index.0 in
    let rest : chunks_rest c.into_iter-run-iterator.result ≡ c.split_at.result.1.now = cc in
    rw rest (
      omega (arith, ap (λ (x : List ℕ). measured x d) parts, measured-append d c.split_at.result.0.now c.split_at.result.1.now, c.measure_run-most.ensures),
      omega (arith, c.measure_run-most.ensures, measured-loss d c.split_at.result.0.now),
      cc,
      (small-append _ _ parts c.requires.small).1,
    )

pub returns-then-most-loss : goal.returns-then-most-loss
returns-then-most-loss c =
    let t = told _ _ c.loss-loss.ensures c.requires.d_nonzero.0 c.requires.d_nonzero.1 in
    omega (arith, c.loop-run.invariant.0, measured-loss c.args.d (chunks_rest c.loop-run.run-iterator), t.is, c.if-most-loss.true)

pub loop-run-preserved : goal.loop-run-preserved
loop-run-preserved c =
    let d = c.args.d in
    let run = c.in-Some.run'.now in
    let rest = chunks_rest c.next.new.self in
    let parts : chunks_rest c.loop-run.run-iterator ≡ run ++ rest = c.in-Some.ensures.steps.1.0 in (
      omega (arith, c.loop-run.invariant.0, ap (λ (x : List ℕ). measured x d) parts, measured-append d run rest, c.measure_more-most.ensures),
      omega (arith, c.loop-run.invariant.1, c.measure_more-most.ensures, measured-loss d run),
      c.in-Some.ensures.steps.0 ∙ c.loop-run.invariant.2,
      (small-append run rest parts c.loop-run.invariant.3).1,
    )

pub returns : goal.returns
returns c = omega (arith, c.loop-run.invariant.0, measured-none c.args.d (chunks_rest c.loop-run.run-iterator) c.in-None.ensures.steps.1.0)
