-- A bad slot is the first of all; where none is bad, the words are those of the reading.
use Rattle.std.proofs.Common.{◌≡◌, suc, ◌*◌, ◌-◌, sym, ◌∙◌, arith}
use Rattle.std.proofs.lemmas.Result.{err_from_is_err_and}
use Rattle.sheet.specs.Sheet.{layers}
use Rattle.header.specs.Header.{places_most}
use Rattle.header.specs.Plan.{loads}
use Rattle.header.proofs.WellFormed.{right-yes, few-planes}
use Rattle.order.proofs.CardOrder.{first-place}
use Rattle.order.specs.Workings.{slot_no}
use Rattle.loading.proofs.WordSums.{none_is, partly_none, partly-all}
use Rattle.loading.proofs.Turns.{slot-behind, slots-on, cells-down, fine-on, bad-first}
use Rattle.loading.proofs.walking.Walk.all.Goals as goal

pub loop-p-init : goal.loop-p-init
loop-p-init g c =
    let w = c.args.self.now in
    let no : (places_most - places_most) * layers w.header.shape ≡ 0 = omega arith in (
      λ _. sym (first-place w.header (few-planes (right-yes w.header w.formed)) (places_most - 1) (omega arith)),
      λ u m. absurd (let z : ⊥ = omega arith in z),
      record { words = _; kept = c.requires; partly = partly_none w.header w.at w.bytes.now (loads w.plan) _ no },
    )

pub place-requires-clause-place : goal.place-requires-clause-place
place-requires-clause-place g c = (omega arith, c.loop-p.invariant.0 c.loop-p-test.true)

pub place-requires-clause-kept : goal.place-requires-clause-kept
place-requires-clause-kept g c =
    let w = c.args.self.now in
    let held = c.loop-p.invariant.2 in
    let next : suc (c.loop-p.p - 1) ≡ c.loop-p.p = omega arith in
    let behind : slot_no w.header 0 (c.loop-p.p - 1) ≡ (places_most - c.loop-p.p) * layers w.header.shape = omega (arith, slot-behind w.header c.loop-p.p c.loop-p-test.true c.loop-p.auto.p 0) in
    record { words = held.words; kept = rw next held.kept; partly = rw behind held.partly }

pub returns-in_err-cells-clause-answer : goal.returns-in_err-cells-clause-answer
returns-in_err-cells-clause-answer g c =
    let w = c.args.self.now in
    let checked = c.in_err-cells.ensures.checked in
    let p = err_from_is_err_and c.from_residual.result c.from_residual.ensures.1 in
    rw (p.1, p.2) (sym (bad-first w.header w.at w.bytes.now (loads w.plan) c.loop-p.p c.loop-p-test.true c.loop-p.auto.p c.loop-p.invariant.1 c.in_err-cells.field-0.0 checked.0 checked.1 checked.2))

pub loop-p-preserved : goal.loop-p-preserved
loop-p-preserved g c =
    let w = c.args.self.now in
    let m = c.loop-p-test.true in
    let l = c.loop-p.auto.p in
    let checked = c.in_ok-cells.ensures.checked in
    let held = c.in_ok-cells.ensures.kept in (
      λ n. checked.0 ∙ cells-down w.header c.loop-p.p m n,
      fine-on w.header w.at w.bytes.now (loads w.plan) c.loop-p.p m l c.loop-p.invariant.1 checked.1,
      record {
        words = held.words;
        kept = c.descend.ensures held.words (c.loop-p.p - 1) held.kept;
        partly = rw (← slots-on w.header c.loop-p.p m l) held.partly;
      },
    )

pub returns-clause-answer : goal.returns-clause-answer
returns-clause-answer g c =
    let w = c.args.self.now in
    let e : c.loop-p.p ≡ 0 = omega arith in
    sym (none_is w.header w.at w.bytes.now (loads w.plan) (λ u m. c.loop-p.invariant.1 u (rw e m)))

pub returns-clause-kept : goal.returns-clause-kept
returns-clause-kept g c =
    let w = c.args.self.now in
    let e : c.loop-p.p ≡ 0 = omega arith in
    let held = rw e at c.loop-p.invariant.2 in
    (held.words, (held.kept, partly-all w.header w.at w.bytes.now (loads w.plan) held.words held.partly))
