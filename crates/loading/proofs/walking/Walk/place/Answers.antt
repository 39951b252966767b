-- At each layer `here` has its numbers; what is kept goes on by the slot, taken or passed over.
use Rattle.std.proofs.Common.{◌≡◌, ℕ, ◌+◌, ◌*◌, ◌/◌, false, sym, ap, ap₂, ◌∙◌, arith, get_or}
use borrow.Author.Count.{below_more}
use Rattle.sheet.specs.Sheet.{layers}
use Rattle.sheet.proofs.Accepting.{count-is}
use Rattle.header.specs.Header.{cell_bytes, cell_points}
use Rattle.header.specs.Plan.{loads}
use Rattle.order.specs.CardOrder.{cells_before}
use Rattle.order.specs.Workings.{slot_no}
use Rattle.header.proofs.WellFormed.{right-yes}
use Rattle.packing.proofs.Blocks.{block_none, block-next}
use Rattle.loading.specs.InBytes.{bit_at, bad_slot}
use Rattle.loading.specs.Workings.Words.{words_with}
use Rattle.loading.proofs.WordSums.{slot_passed, partly-small, partly-same, partly_taken}
use Rattle.loading.proofs.Turns.{here, from_is, cells-on, slot-fine}
use Rattle.loading.proofs.walking.Walk.place.Goals as goal
use Rattle.loading.proofs.walking.Walk.place.Goals.{then-is_among_top+else-not-is_fine, else-is_among_top}

pub loop-k-init : goal.loop-k-init
loop-k-init g c = (c.requires.place.1, sym (block_none c.args.self.now.header.shape), λ j m. absurd (let z : ⊥ = omega arith in z), c.requires.kept)

pub offset_bounds-self-k : goal.offset_bounds-self-k
offset_bounds-self-k g c = let t = here c.args.self.now c.layer_count-k-end.ensures c.loop-k-test.true c.loop-k.invariant.0 in omega arith

pub bounds-self-k : goal.bounds-self-k
bounds-self-k g c = let t = here c.args.self.now c.layer_count-k-end.ensures c.loop-k-test.true c.loop-k.invariant.0 in omega arith

pub offset_bounds-self-k-in-loop-k : goal.offset_bounds-self-k-in-loop-k
offset_bounds-self-k-in-loop-k g c = let t = here c.args.self.now c.layer_count-k-end.ensures c.loop-k-test.true c.loop-k.invariant.0 in omega arith

pub bounds-self-k-in-loop-k : goal.bounds-self-k-in-loop-k
bounds-self-k-in-loop-k g c = let t = here c.args.self.now c.layer_count-k-end.ensures c.loop-k-test.true c.loop-k.invariant.0 in omega arith

pub offset_bounds-self-k-in-loop-k-2 : goal.offset_bounds-self-k-in-loop-k-2
offset_bounds-self-k-in-loop-k-2 g c = let t = here c.args.self.now c.layer_count-k-end.ensures c.loop-k-test.true c.loop-k.invariant.0 in omega arith

pub bounds-self-k-in-loop-k-2 : goal.bounds-self-k-in-loop-k-2
bounds-self-k-in-loop-k-2 g c = let t = here c.args.self.now c.layer_count-k-end.ensures c.loop-k-test.true c.loop-k.invariant.0 in omega arith

pub overflow_mul-from : goal.overflow_mul-from
overflow_mul-from g c = let t = here c.args.self.now c.layer_count-k-end.ensures c.loop-k-test.true c.loop-k.invariant.0 in omega arith

pub overflow_add-from : goal.overflow_add-from
overflow_add-from g c =
    let t = here c.args.self.now c.layer_count-k-end.ensures c.loop-k-test.true c.loop-k.invariant.0 in
    omega (arith, c.well_formed)

pub is_fine-requires : goal.is_fine-requires
is_fine-requires g c =
    let t = here c.args.self.now c.layer_count-k-end.ensures c.loop-k-test.true c.loop-k.invariant.0 in
    (t.room, omega arith, omega (arith, c.args.self.now.all_there _ c.args.p t.below (sym c.if-is_among_top.ensures)))

pub returns-then-not-is_fine-clause-checked : goal.returns-then-not-is_fine-clause-checked
returns-then-not-is_fine-clause-checked g c =
    let w = c.args.self.now in
    let t = here w c.layer_count-k-end.ensures c.loop-k-test.true c.loop-k.invariant.0 in
    (t.below, (slot-fine t w.at w.bytes.now (loads w.plan) c.requires.place.0 (sym c.if-is_among_top.ensures) _ c.if-not-is_fine.ensures).1, c.loop-k.invariant.2)

pub take-requires : goal.take-requires
take-requires g c =
    let w = c.args.self.now in
    let t = here w c.layer_count-k-end.ensures c.loop-k-test.true c.loop-k.invariant.0 in
    let held = c.loop-k.invariant.3 in
    record {
      words = held.words;
      place = c.args.p;
      kept = held.kept;
      low = c.requires.place.0;
      there = omega (arith, w.all_there _ c.args.p t.below (sym c.if-is_among_top.ensures));
      room = omega (arith, held.partly.long_is);
      few = omega arith;
      small = λ i. omega (arith, partly-small w.header w.at w.bytes.now (loads w.plan) _ held.words held.partly i);
    }

pub overflow_add-cells : goal.overflow_add-cells
overflow_add-cells g c =
    let w = c.args.self.now in
    let t = here w c.layer_count-k-end.ensures c.loop-k-test.true c.loop-k.invariant.0 in
    omega (arith, cells-on t c.span_at.result c.span_at.ensures)

pub overflow_mul-start : goal.overflow_mul-start
overflow_mul-start g c =
    let w = c.args.self.now in
    let t = here w c.layer_count-k-end.ensures c.loop-k-test.true c.loop-k.invariant.0 in
    omega arith

pub overflow_add-start : goal.overflow_add-start
overflow_add-start g c =
    let w = c.args.self.now in
    let t = here w c.layer_count-k-end.ensures c.loop-k-test.true c.loop-k.invariant.0 in
    omega arith

pub loop-k-preserved : goal.loop-k-preserved
loop-k-preserved g c =
    let w = c.args.self.now in
    let t = here w c.layer_count-k-end.ensures c.loop-k-test.true c.loop-k.invariant.0 in
    let cells = cells-on t c.span_at.result c.span_at.ensures in
    let start : _ = ap₂ (λ (x y : ℕ). x + cell_points * y) c.loop-k.invariant.1 t.span ∙ sym (block-next w.header.shape c.loop-k.k) in
    let ok = (right-yes w.header w.formed).shape in
    let low = c.requires.place.0 in
    let held = c.loop-k.invariant.3 in
    let taken = words_with held.words c.loop-k.start (8 * ((get_or w.sizes c.loop-k.k 0 + 7) / 8)) c.args.p (bit_at w.bytes.now (w.at + cell_bytes * c.loop-k.cells)) in
    let fine : (k : ℕ) → Type 0 = λ k. bad_slot w.header w.at w.bytes.now (loads w.plan) (slot_no w.header k c.args.p) ≡ false in
    elim c.if-is_among_top.branch [
      | then-is_among_top+else-not-is_fine x ↦
          let asked = sym x.if-is_among_top.ensures in
          let f = slot-fine t w.at w.bytes.now (loads w.plan) low asked _ x.if-not-is_fine.ensures in (
            cells,
            start,
            below_more fine _ c.loop-k.invariant.2 f.1,
            record {
              words = taken;
              kept = rw x.taking-is (x.take.ensures held.words c.args.p held.kept);
              partly = rw (t.size, from_is t w.at, c.loop-k.invariant.1) (partly_taken w.header w.at w.bytes.now (loads w.plan) ok c.loop-k.k c.args.p t.below low held.words held.partly asked f.0);
            },
          )
      | else-is_among_top x ↦
          let out = sym x.if-is_among_top.ensures in (
            cells,
            start,
            below_more fine _ c.loop-k.invariant.2 (slot_passed w.header w.at w.bytes.now (loads w.plan) c.loop-k.k c.args.p t.below low out),
            record {
              words = held.words;
              kept = rw x.taking-is held.kept;
              partly = partly-same w.header w.at w.bytes.now (loads w.plan) ok c.loop-k.k c.args.p t.below low held.words held.partly out;
            },
          )
    ]

pub returns-clause-checked : goal.returns-clause-checked
returns-clause-checked g c =
    let w = c.args.self.now in
    let end : c.loop-k.k ≡ layers w.header.shape = omega (arith, count-is w.header.shape (right-yes w.header w.formed).shape) in
    (c.loop-k.invariant.0 ∙ ap (λ (k : ℕ). cells_before w.header k c.args.p) end, rw end at c.loop-k.invariant.2)

pub returns-clause-kept : goal.returns-clause-kept
returns-clause-kept g c =
    let w = c.args.self.now in
    let end : c.loop-k.k ≡ layers w.header.shape = omega (arith, count-is w.header.shape (right-yes w.header w.formed).shape) in
    rw end at c.loop-k.invariant.3
