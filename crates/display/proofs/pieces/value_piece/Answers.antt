-- By the tests; then what stands before the value, the value, and what stands behind it.
use Rattle.std.proofs.Common.{◌≡◌, ℕ, ◌+◌, ◌≤◌, ◌%◌, ◌++◌, List, Bool, true, false, length, get_or, eqb, ltb, ℤ, pos, SFits, w64, refl, sym, ◌∙◌, arith, rules}
use borrow.Author.Tests.{ltb-true, eq-eqb, ne_eqb}
use Rattle.std.proofs.lemmas.List.{get_or_default}
use mir.Facts.{to_z-of_z}
use mir.Val.{to_z, of_z}
use Rattle.integers.proofs.Bools.{by}
use Rattle.text.specs.Decimal.{signed}
use Rattle.text.specs.Workings.{characters_most}
use Rattle.text.proofs.Signs.{signed-most}
use Rattle.header.specs.Header.{ascii_from}
use Rattle.display.specs.declared.Piece.{Piece}
use Rattle.display.specs.Workings.{extended, row_start, row_end, value_piece}
use Rattle.display.proofs.Behind.{long, holds_more}
use Rattle.display.proofs.pieces.value_piece.Goals as goal

pub returns-in_default : goal.returns-in_default
unfolding value_piece
returns-in_default c = let e = c.in_default.ensures.lookup.0 in rw (← e) c.nothing.ensures

pub returns-then-cols-eq0 : goal.returns-then-cols-eq0
unfolding value_piece
returns-then-cols-eq0 c = rw (← c.in-Some.ensures.lookup.0, eq-eqb c.args.cols 0 c.if-cols-eq0.true) c.nothing-then-cols-eq0.ensures

start-short : (column : ℕ) → length (row_start column) ≤ 4
unfolding ascii_from
start-short column = by (eqb column 0) (λ t. rw t (omega arith)) (λ t. rw t (omega arith))

end-one : (last : Bool) → length (row_end last) ≡ 1
end-one true = refl
end-one false = refl

pub with_value-piece-requires : goal.with_value-piece-requires
with_value-piece-requires c = omega (arith, long c.row_start.ensures, start-short (c.args.i % c.args.cols))

-- the value that was read, behind a piece
put : (vs : List ℤ) (i : ℕ) (v : ℤ) (p q : Piece) → true ≡ ltb i (length vs) → v ≡ get_or vs i v → SFits w64 v → q ≡ extended p (signed (to_z w64 (of_z w64 v))) → q ≡ extended p (signed (get_or vs i (pos 0)))
put vs i v p q inside there f e =
    let same : v ≡ get_or vs i (pos 0) = there ∙ get_or_default vs i v (pos 0) (ltb-true _ _ (sym inside)) in
    rw same at (rw (to_z-of_z f) at e)

put-short : (v : ℤ) (p q : Piece) → SFits w64 v → q ≡ extended p (signed (to_z w64 (of_z w64 v))) → q.length ≤ p.length + (characters_most + 1)
put-short v p q f e = let s = rw (to_z-of_z f) at e in omega (arith, long s, signed-most v f.sfits)

pub with_end-requires : goal.with_end-requires
with_end-requires c =
    omega (arith, long c.row_start.ensures, start-short (c.args.i % c.args.cols), put-short c.in-Some.value.now c.row_start.result c.with_value-piece.result (search rules) c.with_value-piece.ensures)

pub returns : goal.returns
unfolding value_piece
returns c =
    let start = row_start (c.args.i % c.args.cols) in
    let value = signed (get_or c.args.values.now c.args.i (pos 0)) in
    let last = eqb (c.args.i % c.args.cols + 1) c.args.cols in
    let short : c.with_value-piece.result.length ≤ 4 + (characters_most + 1) =
    omega (arith, long c.row_start.ensures, start-short (c.args.i % c.args.cols), put-short c.in-Some.value.now c.row_start.result c.with_value-piece.result (search rules) c.with_value-piece.ensures) in
    let placed = put c.args.values.now c.args.i c.in-Some.value.now c.row_start.result c.with_value-piece.result c.in-Some.ensures.lookup.0 c.in-Some.ensures.lookup.1 (search rules) c.with_value-piece.ensures in
    rw (← c.in-Some.ensures.lookup.0, ne_eqb c.args.cols 0 c.if-cols-eq0.false)
    (holds_more (start ++ value) (row_end last) (holds_more start value c.row_start.ensures placed (omega arith)) c.with_end.ensures (omega (arith, long c.with_end.ensures, end-one last)))
