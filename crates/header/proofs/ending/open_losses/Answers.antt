-- By the key of line 7: the code looks at all the bytes from there on, as the definition does.
use Rattle.std.proofs.Common.{arith, sym, ap, ◌∙◌}
use Rattle.text.specs.Line.{starts}
use Rattle.text.proofs.Lines.{tail}
use Rattle.header.specs.Header.{ascii, ascii_from}
use Rattle.header.specs.Opening.{opening_losses}
use Rattle.header.proofs.WellFormed.{right-yes}
use Rattle.header.proofs.Total.{right-cells}
use Rattle.header.proofs.Telling.{answers-none}
use Rattle.header.proofs.ending.open_losses.Goals as goal

pub returns-then-starts_with : goal.returns-then-starts_with
unfolding opening_losses ascii_from
returns-then-starts_with c =
    rw (ap (starts (ascii "loss=")) (sym (tail c.args.at c.args.bytes.now)) ∙ sym c.starts_with.ensures ∙ c.if-starts_with.true) c.open_told.ensures

pub open_cells-requires : goal.open_cells-requires
open_cells-requires c = omega (arith, right-cells (right-yes c.args.header c.requires.0))

pub returns : goal.returns
unfolding opening_losses ascii_from
returns c =
    rw (ap (starts (ascii "loss=")) (sym (tail c.args.at c.args.bytes.now)) ∙ sym c.starts_with.ensures ∙ c.if-starts_with.false)
    (answers-none c.args.losses.now c.open_cells.result _ c.open_cells.ensures.0 c.open_cells.ensures.1)
