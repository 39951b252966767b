-- The word is one of two, compared byte by byte.
use Rattle.header.specs.Header.{ascii_from}
use Rattle.header.proofs.Taking.{curve_linear, curve_cubic}
use Rattle.header.proofs.opening.curve_of.Goals as goal

pub returns-then-eq : goal.returns-then-eq
unfolding ascii_from
returns-then-eq c = curve_linear c.args.word.now (rw c.as_slice.ensures at c.if-eq.ensures)

pub returns : goal.returns
unfolding ascii_from
returns c = rw (c.then_some.ensures, c.eq-2.ensures, c.as_slice-2.ensures) (curve_cubic c.args.word.now (rw c.as_slice.ensures at c.if-eq.ensures))
