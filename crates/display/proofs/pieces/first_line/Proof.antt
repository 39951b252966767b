-- The key, the row, a comma, the column and the line's end, each behind what stands.
use mathlib.Core.List.{[], ◌∷◌, ◌++◌, append_assoc}
use mathlib.Core.Path.{◌≡◌, ap, ◌∙◌}
use Prim.Native.Nat.{◌≤◌}
use native.Mathlib.Omega.{arith}
use borrow.Author.Rules.{rules}
use Rattle.text.specs.Decimal.{decimal}
use Rattle.text.specs.Line.{newline}
use Rattle.text.specs.Joined.{comma}
use Rattle.text.proofs.Digits.{length_most}
use Rattle.header.specs.Header.{ascii, ascii_from}
use Rattle.display.specs.Workings.{piece_of}
use Rattle.display.specs.Compared.{first_text}
use Rattle.display.proofs.Behind.{long, extended-more, holds}
use Rattle.display.proofs.pieces.first_line.Statement.{statement}
use Rattle.display.proofs.pieces.first_line.Tie as tie

nothing-requires : tie.Need-nothing-requires
nothing-requires c κs = search rules

with-text-requires : tie.Need-with_text-requires
with-text-requires c κs = omega (arith, long c.nothing.ensures)

-- how far each number goes
key-long : (c : tie.After-with_text) → c.with_text.result.length ≡ 6
key-long c = omega (arith, long c.with_text.ensures, long c.nothing.ensures)

row_ends : (c : tie.After-with_number) → c.with_number.result.length ≤ 26
row_ends c =
    omega (arith, long c.with_number.ensures, key-long c.before, length_most c.args.row (omega arith))

column-ends : (c : tie.After-with_number-2) → c.with_number-2.result.length ≤ 47
column-ends c =
    omega (arith, long c.with_number-2.ensures, long c.with_text-first.ensures, row_ends c.before.before.before.before, length_most c.args.column (omega arith))

with-number-requires : tie.Need-with_number-requires
with-number-requires c κs = omega (arith, key-long c)

with-text-requires-2 : tie.Need-with_text-first-requires
with-text-requires-2 c κs = omega (arith, row_ends c.before.before)

with-number-requires-2 : tie.Need-with_number-requires-2
with-number-requires-2 c κs = omega (arith, long c.with_text-first.ensures, row_ends c.before.before.before)

with-text-requires-3 : tie.Need-with_text-requires-2
with-text-requires-3 c κs = omega (arith, column-ends c.before.before)

returns : tie.Need-returns
unfolding first_text ascii_from
returns c =
    let start = c.nothing.result in
    let key = ascii "first=" in
    let row = decimal c.args.row in
    let column = decimal c.args.column in
    let two = extended-more start key row c.with_text.ensures c.with_number.ensures in
    let three = extended-more start (key ++ row) (comma ∷ []) two c.with_text-first.ensures in
    let four = extended-more start (key ++ row ++ (comma ∷ [])) column three c.with_number-2.ensures in
    let five = extended-more start (key ++ row ++ (comma ∷ []) ++ column) (newline ∷ []) four c.with_text-2.ensures in
    holds (key ++ row ++ (comma ∷ []) ++ column ++ newline ∷ []) c.nothing.ensures five (omega (arith, long c.with_text-2.ensures, column-ends c.before.before.before))
    ∙ ap piece_of (append_assoc (key ++ row ++ (comma ∷ [])) column (newline ∷ []) ∙ append_assoc (key ++ row) (comma ∷ []) (column ++ newline ∷ []))

pub first_line_spec : {M : Type 1} → statement M
first_line_spec =
    tie.close
    (tie.spec
    nothing-requires
    with-text-requires
    with-number-requires
    with-text-requires-2
    with-number-requires-2
    with-text-requires-3
    returns)
