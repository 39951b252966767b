-- The tests in turn.
use native.Mathlib.Omega.{arith}
use borrow.Author.Tests.{lt-ltb, le-ltb, le-leb, lt-leb}
use Rattle.sheet.specs.Workings.Lines.{near}
use Rattle.sheet.proofs.sizes.is_near.Statement.{statement}
use Rattle.sheet.proofs.sizes.is_near.Tie as tie

returns : tie.Need-returns-then-lines-lt1
unfolding near
returns c = rw (le-ltb 0 c.before.args.l.lines (omega arith))

returns-2 : tie.Need-returns-then-t-gt-MOST_LINES
unfolding near
returns-2 c = let e = c.before in rw (lt-ltb 0 _ e.if-lines-lt1.false, lt-leb _ _ c.if-t-gt-MOST_LINES.true)

returns-3 : tie.Need-returns-then-first-gt-FAR
unfolding near
returns-3 c = let f = c.before in rw (lt-ltb 0 _ f.before.if-lines-lt1.false, le-leb _ _ f.if-t-gt-MOST_LINES.false, lt-leb _ _ c.if-first-gt-FAR.true)

returns-4 : tie.Need-returns-then-beyond-gt-FAR
unfolding near
returns-4 c =
    let g = c.before in
    let f = g.before in
    rw (lt-ltb 0 _ f.before.if-lines-lt1.false, le-leb _ _ f.if-t-gt-MOST_LINES.false, le-leb _ _ g.if-first-gt-FAR.false, lt-leb _ _ c.if-beyond-gt-FAR.true)

returns-5 : tie.Need-returns
unfolding near
returns-5 c =
    let g = c.before in
    let f = g.before in
    rw (lt-ltb 0 _ f.before.if-lines-lt1.false, le-leb _ _ f.if-t-gt-MOST_LINES.false, le-leb _ _ g.if-first-gt-FAR.false, le-leb _ _ c.if-beyond-gt-FAR.false)

pub is_near_spec : {M : Type 1} → statement M
is_near_spec =
    tie.close (tie.spec returns returns-2 returns-3 returns-4 returns-5)
