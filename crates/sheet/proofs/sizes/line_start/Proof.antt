-- Past the test all numbers are small. In the first sheet a line's number is its place there.
use mathlib.Core.Path.{◌≡◌, sym, ◌∙◌}
use Prim.Native.Nat.{ℕ, ◌+◌, ◌*◌, ◌<◌}
use native.Mathlib.Nat.{div-eq_of_lt, mod-eq_of_lt}
use native.Mathlib.Omega.{arith}
use borrow.Author.Rules.{rules}
use Rattle.sheet.specs.declared.Lines.{Lines}
use Rattle.sheet.specs.Workings.Lines.{line_start, start_in}
use Rattle.sheet.proofs.Starts.{Near, near-yes, start_is, along-most, beyond-most, within-most}
use Rattle.sheet.proofs.sizes.line_start.Statement.{statement}
use Rattle.sheet.proofs.sizes.line_start.Tie as tie

first-sheet : (l : Lines) (t : ℕ) → t < l.lines → l.first + t * l.apart ≡ line_start l t
unfolding line_start
first-sheet l t h = rw (div-eq_of_lt h, mod-eq_of_lt h) (omega arith)

is-near-requires : tie.Need-is_near-requires
is-near-requires c κs = search rules

returns : tie.Need-returns-then-not-is_near
unfolding start_in
returns c = rw (sym c.before.is_near.ensures ∙ c.if-not-is_near.true)

small : (e : tie.Else-not-is_near) → Near e.before.before.args.l e.before.before.args.t
small e = near-yes _ _ (sym e.before.is_near.ensures ∙ e.if-not-is_near.false)

mul-result : tie.Need-overflow_mul-result
mul-result c = omega (arith, along-most _ _ (small c.before))

add-result : tie.Need-overflow_add-result
add-result c = let n = small c.before in omega (arith, along-most _ _ n, n.close.first)

returns-2 : tie.Need-returns-then-t-lines
returns-2 c =
    let a = c.before.before.before.args in
    first-sheet a.l a.t c.if-t-lines.true ∙ sym (start_is a.l a.t (small c.before))

div-result : tie.Need-nonzero_div-result
div-result c = (small c.before).some

mul-result-2 : tie.Need-overflow_mul-result-2
mul-result-2 c = omega (arith, beyond-most _ _ (small c.before.before))

add-result-2 : tie.Need-overflow_add-result-2
add-result-2 c = let n = small c.before.before in omega (arith, beyond-most _ _ n, n.close.first)

rem-result : tie.Need-nonzero_rem-result
rem-result c = (small c.before.before).some

mul-result-3 : tie.Need-overflow_mul-result-3
mul-result-3 c = omega (arith, within-most _ _ (small c.before.before))

add-result-3 : tie.Need-overflow_add-result-3
add-result-3 c = let n = small c.before.before in omega (arith, beyond-most _ _ n, within-most _ _ n, n.close.first)

returns-3 : tie.Need-returns
unfolding line_start
returns-3 c = let a = c.before.before.before.before.args in sym (start_is a.l a.t (small c.before.before))

pub line_start_spec : {M : Type 1} → statement M
line_start_spec =
    tie.close
    (tie.spec
    is-near-requires
    returns
    mul-result
    add-result
    returns-2
    div-result
    mul-result-2
    add-result-2
    rem-result
    mul-result-3
    add-result-3
    returns-3)
