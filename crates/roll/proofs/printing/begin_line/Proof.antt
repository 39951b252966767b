-- The invariant: so many of the line's bytes are put.
use mathlib.Core.List.{List}
use mathlib.Core.Path.{◌≡◌, refl, ap, ◌∙◌}
use Prim.Native.Nat.{ℕ, ◌+◌, ◌-◌, ◌≤◌}
use native.Mathlib.Omega.{arith}
use lib.ListN.{length, take, get_or, set, length-set}
use lib.Seq.{sets}
use Rattle.text.proofs.Stores.{sets-next, sets-whole}
use Rattle.roll.specs.Page.{line_places}
use Rattle.roll.proofs.printing.begin_line.Statement.{statement}
use Rattle.roll.proofs.printing.begin_line.Tie as tie

abbrev invariant-loop : tie.invariant-loop-i
invariant-loop page₀ at line i₀ page i = (i ≤ line_places + 1) × (length page ≡ length page₀) × (page ≡ sets page₀ at (take i line))

abbrev decreases-loop : tie.decreases-loop-i
decreases-loop page₀ at line i₀ page i = line_places + 1 - i

loop-holds : tie.Need-loop-i-init invariant-loop decreases-loop
loop-holds c = (omega arith, refl, refl)

shared-slice-read-page : tie.Need-bounds-line-i invariant-loop decreases-loop
shared-slice-read-page c = omega arith

add-page : tie.Need-overflow_add-page invariant-loop decreases-loop
add-page c = omega arith

slice-write-page : tie.Need-bounds-page-at invariant-loop decreases-loop
slice-write-page c = omega arith

add-i : tie.Need-overflow_step-i invariant-loop decreases-loop
add-i c = omega arith

loop-less : tie.Need-loop-i-smaller invariant-loop decreases-loop
loop-less c = omega arith

loop-again : tie.Need-loop-i-preserved invariant-loop decreases-loop
loop-again c =
    let h = c.before.before.loop-i in
    let s = c.before.before.before in
    let line = s.args.line.now in (
      omega arith,
      length-set h.page (s.args.at + h.i) (get_or line h.i 0) ∙ h.invariant.1,
      ap (λ (p : List ℕ). set p (s.args.at + h.i) (get_or line h.i 0)) h.invariant.2 ∙ sets-next s.args.page.now s.args.at line h.i 0 (omega arith),
    )

same_length : tie.Need-shape_of-page invariant-loop decreases-loop
same_length c = c.before.loop-i.invariant.1

returns : tie.Need-returns invariant-loop decreases-loop
returns c =
    let h = c.before.loop-i in
    let s = c.before.before in
    h.invariant.2 ∙ sets-whole s.args.page.now s.args.at s.args.line.now h.i (omega (arith, h.invariant.0, s.requires.1))

pub begin_line_spec : {M : Type 1} → statement M
begin_line_spec =
    tie.close
    (tie.spec
    invariant-loop
    decreases-loop
    loop-holds
    shared-slice-read-page
    add-page
    slice-write-page
    add-i
    loop-less
    loop-again
    same_length
    returns)
