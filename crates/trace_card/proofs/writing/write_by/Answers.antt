-- By the curve's number; any other is refused behind a wrong size.
use Rattle.std.proofs.Common.{arith}
use borrow.Author.Tests.{eq-eqb, ne_eqb}
use Rattle.trace_card.specs.Boundary.{writing_by}
use Rattle.trace_card.proofs.writing.write_by.Goals as goal

pub returns-then-curve-eq0 : goal.returns-then-curve-eq0
unfolding writing_by
returns-then-curve-eq0 c = rw (eq-eqb c.args.curve 0 (omega arith)) c.write.ensures

pub returns-then-curve-eq1 : goal.returns-then-curve-eq1
unfolding writing_by
returns-then-curve-eq1 c = rw (ne_eqb c.args.curve 0 (λ e. let z : ⊥ = omega arith in z), eq-eqb c.args.curve 1 (omega arith)) c.write-then-curve-eq1.ensures

pub returns : goal.returns
unfolding writing_by
returns c = rw (ne_eqb c.args.curve 0 (λ e. let z : ⊥ = omega arith in z), ne_eqb c.args.curve 1 (λ e. let z : ⊥ = omega arith in z), c.no_curve.ensures)
