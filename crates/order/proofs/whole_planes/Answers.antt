-- Where all cells are there, so are all planes. Otherwise nothing is passed before the first place, and behind the last the planes found are all that end within the room, which are the whole ones.
use Rattle.std.proofs.Common.{◌≡◌, ℕ, suc, ◌-◌, ◌/◌, ◌<◌, true, false, List, length, get_or, refl, sym, ◌∙◌, arith, rules, le_refl}
use Rattle.sheet.specs.Limits.{layers_most}
use Rattle.sheet.specs.Lists.{count}
use Rattle.header.specs.declared.Header.{Header}
use Rattle.header.specs.Header.{cell_bytes, planes_of}
use Rattle.header.specs.Workings.{spans_of}
use Rattle.header.specs.Opening.{well_formed}
use Rattle.header.proofs.Fills.{filled-all}
use Rattle.header.proofs.WellFormed.{right-yes}
use Rattle.order.specs.CardOrder.{whole}
use Rattle.order.specs.Workings.{whole_in, within}
use Rattle.order.proofs.Through.{header-small, within-whole}
use Rattle.order.proofs.Whole.{whole-right}
use Rattle.order.proofs.Walk.{walk_first, walk-down, walk-last, walk-over}
use Rattle.order.proofs.whole_planes.Goals as goal
use Rattle.order.proofs.whole_planes.Goals.{else-loop-p-test, then-loop-p-test+then-room-found}

-- a plan of as many planes of each layer as are whole
module _ (h : Header) (n : ℕ) (is-so : well_formed h ≡ true) {ps : List ℕ} (many : length ps ≡ layers_most) where
  whole-plan : ((j : ℕ) → j < layers_most → get_or ps j 0 ≡ whole h n j) → record { planes = ps } ≡ whole_in h n
  unfolding whole_in
  whole-plan each = rw (is-so, filled-all {d = 0} _ _ (le_refl layers_most) (record { long = many; done = each })) refl

  -- so the planes found are, where they are all that end within the room
  found-whole : {ws : List ℕ} → ws ≡ spans_of h.shape → ((j : ℕ) → j < layers_most → get_or ps j 0 ≡ count (within ws h.planes (n / cell_bytes) j) (planes_of h j)) → record { planes = ps } ≡ whole_in h n
  found-whole is each = whole-plan (λ j l. rw is at (each j l) ∙ within-whole n refl h (right-yes h is-so) j l)

pub returns-then-not-is_well_formed : goal.returns-then-not-is_well_formed
unfolding whole_in
returns-then-not-is_well_formed c = let no : well_formed c.args.header ≡ false = sym c.is_well_formed.ensures ∙ c.if-not-is_well_formed.true in rw no

pub returns-then-header-room : goal.returns-then-header-room
returns-then-header-room c =
    let so : well_formed c.args.header ≡ true = sym c.is_well_formed.ensures ∙ c.if-not-is_well_formed.false in
    whole-plan c.args.header c.args.n so (search rules) (λ j l. sym (whole-right c.args.header (right-yes c.args.header so) c.args.n (omega (arith, c.if-header-room.true)) j l))

pub loop-p-init : goal.loop-p-init
loop-p-init c = walk_first c.top_of-p.ensures

pub whole_at-found-requires-clause-by_index : goal.whole_at-found-requires-clause-by_index
whole_at-found-requires-clause-by_index c =
    let so : well_formed c.args.header ≡ true = sym c.is_well_formed.ensures ∙ c.if-not-is_well_formed.false in
    rw c.spans-spans.ensures (header-small c.args.header (right-yes c.args.header so) (search rules))

pub whole_at-found-requires-clause-walked : goal.whole_at-found-requires-clause-walked
whole_at-found-requires-clause-walked c =
    let e : c.loop-p.p ≡ suc (c.loop-p.p - 1) = omega arith in
    walk-down (rw e at c.loop-p.invariant)

pub returns : goal.returns
returns c =
    let so : well_formed c.args.header ≡ true = sym c.is_well_formed.ensures ∙ c.if-not-is_well_formed.false in
    found-whole c.args.header c.args.n so c.loop-p.invariant.long c.spans-spans.ensures (elim c.loop-p-test.branch [
      | else-loop-p-test w ↦ let e : c.loop-p.p ≡ 0 = omega (arith, w.loop-p-test.false) in walk-last (rw e at c.loop-p.invariant)
      | then-loop-p-test+then-room-found w ↦ walk-over c.loop-p.invariant w.if-room-found.true
    ])
