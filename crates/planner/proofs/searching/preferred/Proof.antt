-- The invariant: no count passed gives the entry. So the first that does is preferred, and where none before the last does, the last must.
use mathlib.Core.Path.{◌≡◌, refl, ap, ◌∙◌}
use Prim.Native.Nat.{ℕ, suc, ◌+◌, ◌-◌, ◌*◌, ◌≤◌, ◌<◌}
use native.Mathlib.Numerals.{add-one}
use native.Mathlib.Omega.{arith}
use borrow.Author.Count.{below_none, below_more}
use borrow.Author.Rules.{rules}
use lib.ListN.{get_or}
use Rattle.header.specs.Header.{places_most, planes_of}
use Rattle.header.proofs.WellFormed.{right-yes, counts-few}
use Rattle.figure.specs.Workings.{carry_of}
use Rattle.figure.proofs.Numbers.{Small}
use Rattle.figure.proofs.LayerRules.{carried-told, charge-told, charge-most}
use Rattle.planner.specs.Workings.Table.{Layers, layers_of, row_length, none, choice, best}
use Rattle.planner.proofs.Entries.{best-most}
use Rattle.planner.proofs.Passing.{used-fits}
use Rattle.planner.proofs.WalkBack.{choice-told, preferred-here, preferred-last}
use Rattle.planner.proofs.searching.preferred.Statement.{statement}
use Rattle.planner.proofs.searching.preferred.Tie as tie

abbrev invariant-loop : tie.invariant-loop-n
invariant-loop t header losses k first span c top rule least n₀ n =
    (n ≤ top) × ((i : ℕ) → i < n → choice (layers_of header losses) k (best (layers_of header losses) k) c i ≡ best (layers_of header losses) (suc k) c → ⊥)

abbrev decreases-loop : tie.decreases-loop-n
decreases-loop t header losses k first span c top rule least n₀ n = top - n

few : (s : tie.Start invariant-loop decreases-loop) → planes_of s.args.header s.args.k ≤ places_most
few s = counts-few (right-yes s.args.header s.requires.0.0) s.args.k s.requires.0.1

-- what is looked for
least-is : (s : tie.Start invariant-loop decreases-loop) → get_or s.args.t.now ((s.args.k + 1) * row_length + s.args.c) 0 ≡ best (layers_of s.args.header s.args.losses.now) (suc s.args.k) s.args.c
least-is s = rw (add-one s.args.k) (s.requires.1.0.held (suc s.args.k) s.args.c s.requires.0.1 s.requires.0.4)

mul-top : tie.Need-offset_bounds-counts-k invariant-loop decreases-loop
mul-top c = omega (arith, c.requires.0.1)

array-read-top : tie.Need-bounds-counts-k invariant-loop decreases-loop
array-read-top c = c.requires.0.1

rule-of-requires : tie.Need-rule_of-rule-requires invariant-loop decreases-loop
rule-of-requires c κs = search rules

abbrev Q : tie.After-rule_of-rule invariant-loop decreases-loop → tie.Start invariant-loop decreases-loop
Q c = c.before.before.before.before

add-least : tie.Need-overflow_add-least invariant-loop decreases-loop
add-least c = omega (arith, (Q c).requires.0.1)

mul-least : tie.Need-overflow_mul-least invariant-loop decreases-loop
mul-least c = omega (arith, (Q c).requires.0.1)

add-least-2 : tie.Need-overflow_add-least-2 invariant-loop decreases-loop
add-least-2 c = omega (arith, (Q c).requires.0.1, (Q c).requires.0.4)

mul-least-2 : tie.Need-offset_bounds-t-k invariant-loop decreases-loop
mul-least-2 c = omega (arith, (Q c).requires.0.1, (Q c).requires.0.4)

shared-slice-read-least : tie.Need-bounds-t-k invariant-loop decreases-loop
shared-slice-read-least c = let s = Q c.before in omega (arith, s.requires.0.1, s.requires.0.4, s.requires.1.0.long)

loop-holds : tie.Need-loop-n-init invariant-loop decreases-loop
loop-holds c = (omega arith, below_none _)

abbrev T : tie.At-loop-n invariant-loop decreases-loop → tie.Start invariant-loop decreases-loop
T l = Q l.before.before

-- what a turn's count adds, and the cells of these planes
abbrev J : tie.After-charge-own invariant-loop decreases-loop → tie.At-loop-n invariant-loop decreases-loop
J c = c.before.before

abbrev L : tie.At-loop-n invariant-loop decreases-loop → Layers
L l = layers_of (T l).args.header (T l).args.losses.now

known : (l : tie.At-loop-n invariant-loop decreases-loop) → Small (T l).args.losses.now
known l i = omega (arith, l.before.before.before.before.shared_slice_known-2-1.given i)

adds : (c : tie.After-charge-own invariant-loop decreases-loop) → c.charge-own.result ≡ (L (J c)).charge (T (J c)).args.k (J c).loop-n.n
adds c =
    let l = J c in
    let s = T l in
    c.charge-own.ensures
    ∙ charge-told (right-yes s.args.header s.requires.0.0) s.args.losses.now s.args.k l.loop-n.n s.requires.0.1 s.args.first s.requires.0.2 (omega (arith, c.before.loop-n-test.true))

adds-small : (c : tie.After-charge-own invariant-loop decreases-loop) → c.charge-own.result ≤ none
adds-small c =
    let l = J c in
    let s = T l in
    omega (arith, adds c, charge-most (right-yes s.args.header s.requires.0.0) s.args.losses.now s.args.k l.loop-n.n s.requires.0.1 (known l))

used-is : (l : tie.At-loop-n invariant-loop decreases-loop) → l.loop-n.n * (T l).args.span ≡ l.loop-n.n * (L l).span (T l).args.k
used-is l = ap (λ (w : ℕ). l.loop-n.n * w) (T l).requires.0.3

entry : (s : tie.Start invariant-loop decreases-loop) (b : ℕ) → b ≤ s.args.c → get_or s.args.t.now (s.args.k * row_length + b) 0 ≡ best (layers_of s.args.header s.args.losses.now) s.args.k b
entry s b l = s.requires.1.0.held s.args.k b (omega (arith, s.requires.0.1)) (omega (arith, s.requires.0.4))

entry-most : (s : tie.Start invariant-loop decreases-loop) (b : ℕ) → b ≤ s.args.c → get_or s.args.t.now (s.args.k * row_length + b) 0 ≤ none
entry-most s b l = omega (arith, entry s b l, best-most (layers_of s.args.header s.args.losses.now) s.args.k b)

charge-requires : tie.Need-charge-own-requires invariant-loop decreases-loop
charge-requires c κs = search rules

mul-choice-at : tie.Need-overflow_mul-n invariant-loop decreases-loop
mul-choice-at c =
    let l = J c in
    let s = T l in
    omega (arith, used-is l, used-fits s.args.header s.args.losses.now s.requires.0.0 s.args.k l.loop-n.n s.requires.0.1 (omega (arith, c.before.loop-n-test.true)))

choice-at-requires : tie.Need-choice_at-requires invariant-loop decreases-loop
choice-at-requires c κs = let s = T (J c) in (s.requires.0.1, s.requires.0.4, s.requires.1.0.long, adds-small c, entry-most s)

-- so it gives the choice
given : (c : tie.After-choice_at invariant-loop decreases-loop)
    → c.choice_at.result ≡ choice (L (J c.before)) (T (J c.before)).args.k (best (L (J c.before)) (T (J c.before)).args.k) (T (J c.before)).args.c (J c.before).loop-n.n
given c =
    let l = J c.before in
    let s = T l in
    let rule = l.before.before.rule_of-rule in
    let b = s.args.c - l.loop-n.n * s.args.span in
    c.choice_at.ensures
    ∙ choice-told (L l) s.args.k s.args.c l.loop-n.n _ _ _ (used-is l)
    (λ h.
    carried-told s.args.header s.args.k rule.result _ rule.ensures (omega (arith, entry-most s b (omega arith)))
    ∙ ap (carry_of s.args.header s.args.k) (entry s b (omega arith)))
    (adds c.before)

returns : tie.Need-returns-then-choice_at-least invariant-loop decreases-loop
returns c =
    let l = J c.before.before in
    let s = T l in
    preferred-here (L l) s.args.k s.args.c l.loop-n.n s.requires.1.1 l.loop-n.invariant.1
    l.loop-n.invariant.0 (omega (arith, given c.before, c.if-choice_at-least.true, least-is s))

add-n : tie.Need-overflow_step-n invariant-loop decreases-loop
add-n c = omega (arith, c.before.before.before.loop-n-test.true, few (T (J c.before.before)))

loop-less : tie.Need-loop-n-smaller invariant-loop decreases-loop
loop-less c = omega (arith, c.before.before.before.loop-n-test.true)

loop-again : tie.Need-loop-n-preserved invariant-loop decreases-loop
loop-again c =
    let l = J c.before.before in (
      omega (arith, c.before.before.before.loop-n-test.true),
      below_more _ _ l.loop-n.invariant.1 (λ g. omega (arith, c.if-choice_at-least.false, given c.before, least-is (T l))),
    )

returns-2 : tie.Need-returns invariant-loop decreases-loop
returns-2 c =
    let l = c.before in
    let s = T l in
    preferred-last (layers_of s.args.header s.args.losses.now) s.args.k s.args.c _ s.requires.1.1
    (λ i m. l.loop-n.invariant.1 i (omega (arith, c.loop-n-test.false))) refl

pub preferred_spec : {M : Type 1} → statement M
preferred_spec =
    tie.close
    (tie.spec
    invariant-loop
    decreases-loop
    mul-top
    array-read-top
    rule-of-requires
    add-least
    mul-least
    add-least-2
    mul-least-2
    shared-slice-read-least
    loop-holds
    charge-requires
    mul-choice-at
    choice-at-requires
    returns
    add-n
    loop-less
    loop-again
    returns-2)
