-- The invariant: what is left of the number, put before the place reached, gives what the whole number gives before the end. Each turn puts its last pair.
use mathlib.Core.Path.{◌≡◌, refl, sym, ap, ◌∙◌}
use Prim.Native.Nat.{◌+◌, ◌-◌, ◌/◌, ◌≤◌}
use native.Mathlib.Omega.{arith}
use lib.ListN.{length}
use lib.Seq.{sets, length-sets}
use Rattle.text.specs.Decimal.{decimal}
use Rattle.roll.proofs.TwoDigits.{two-more, pair_keeps, pair_left}
use Rattle.roll.proofs.pairs.put_pairs.Statement.{statement}
use Rattle.roll.proofs.pairs.put_pairs.Tie as tie

abbrev invariant-loop : tie.invariant-loop-rest
invariant-loop page₀ end n pairs place₀ rest₀ page place rest =
    (length page ≡ length page₀) × (place ≤ end) × (length (decimal rest) ≤ place)
    × (end - length (decimal n) ≡ place - length (decimal rest))
    × (sets page₀ (end - length (decimal n)) (decimal n) ≡ sets page (place - length (decimal rest)) (decimal rest))

abbrev decreases-loop : tie.decreases-loop-rest
decreases-loop page₀ end n pairs place₀ rest₀ page place rest = rest

-- the characters that are left before a pair is put
longer : (l : tie.In-loop-rest invariant-loop decreases-loop) → length (decimal l.before.loop-rest.rest) ≡ length (decimal (l.before.loop-rest.rest / 100)) + 2
longer l = let h = l.before.loop-rest in two-more h.page h.place h.rest (omega arith) h.invariant.2

loop-holds : tie.Need-loop-rest-init invariant-loop decreases-loop
loop-holds c = (refl, omega arith, c.before.requires.0, refl, refl)

sub-place : tie.Need-overflow_sub-place invariant-loop decreases-loop
sub-place c = omega (arith, longer c, c.before.loop-rest.invariant.2)

put-pair-requires : tie.Need-put_pair-requires invariant-loop decreases-loop
put-pair-requires c κs = (omega (arith, sub-place c.before), omega arith, c.before.before.before.before.requires.2)

loop-less : tie.Need-loop-rest-smaller invariant-loop decreases-loop
loop-less c = omega arith

loop-again : tie.Need-loop-rest-preserved invariant-loop decreases-loop
loop-again c =
    let l = c.before.before.before.before in
    let h = l.before.loop-rest in
    let v = h.invariant in
    let put = c.before.before in (
      pair_keeps h.page h.place h.rest (omega arith) v.2 put.put_pair.new.page put.put_pair.ensures ∙ v.0,
      omega arith,
      omega (arith, longer l, v.2),
      omega (arith, longer l, v.2, v.3),
      v.4 ∙ pair_left h.page h.place h.rest (omega arith) v.2 put.put_pair.new.page put.put_pair.ensures,
    )

put-top-requires : tie.Need-put_top-requires invariant-loop decreases-loop
put-top-requires c κs = let v = c.before.before.loop-rest.invariant in (v.2, omega arith, omega arith, c.before.before.before.before.requires.2)

same_length : tie.Need-shape_of-page invariant-loop decreases-loop
same_length c =
    let h = c.before.before.before.before.before.loop-rest in
    ap length c.before.before.put_top.ensures.1 ∙ length-sets h.page (h.place - length (decimal h.rest)) (decimal h.rest) ∙ h.invariant.0

returns : tie.Need-returns invariant-loop decreases-loop
returns c =
    let v = c.before.before.before.before.before.loop-rest.invariant in
    let top = c.before.before.put_top in
    (top.ensures.0 ∙ sym v.3, top.ensures.1 ∙ sym v.4)

pub put_pairs_spec : {M : Type 1} → statement M
put_pairs_spec =
    tie.close
    (tie.spec
    invariant-loop
    decreases-loop
    loop-holds
    sub-place
    put-pair-requires
    loop-less
    loop-again
    put-top-requires
    same_length
    returns)
