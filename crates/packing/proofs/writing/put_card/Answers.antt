-- The counts of the words gathered tell whether 23 digits hold the coefficients (`held`); where they do, the header made is that of the coefficients, the numbers measured are its losses (`told`), and its text and the planes from the rows of the words are the card.
use Rattle.std.proofs.Common.{◌≡◌, ◌≤◌, ◌<◌, true, ℕ, ℤ, List, refl, arith, sym, ap, ap₂, ◌∙◌, length, take, get_or, replicate}
use mathlib.Core.Bool.{true≢false}
use Rattle.std.specs.Prelude.{Option, is_some, false}
use borrow.Author.Tests.{ltb-true, ltb-false}
use lib.Dec.{ltb}
use Rattle.integers.proofs.Bools.{by}
use Rattle.header.specs.Workings.{place_in}
use lib.ListN.{length-replicate, get_or-replicate}
use lib.Seq.{length-sets}
use Rattle.std.proofs.lemmas.List.Edits.{sets}
use Rattle.text.specs.Workings.{after, putting}
use Rattle.digits.specs.Digits.{holds}
use Rattle.sheet.specs.declared.Shape.{Shape}
use Rattle.sheet.specs.Limits.{layers_most}
use Rattle.sheet.specs.Lists.{at, tabulate, total}
use Rattle.sheet.specs.Sheet.{accepted, points, layers}
use Rattle.sheet.proofs.Accepting.{accepted-yes, layers-few}
use Rattle.layers.proofs.Answers.{settled-yes, full-long}
use Rattle.header.specs.Header.{places_most}
use Rattle.header.specs.Losses.{laid, losses_most}
use Rattle.header.specs.Plan.{first_over}
use Rattle.header.proofs.Over.{over-le, over_none}
use Rattle.header.proofs.Laid.{laid-length}
use Rattle.header.proofs.Totals.{total-most}
use Rattle.packing.specs.Planes.{all_held}
use Rattle.packing.specs.Workings.Words.{Gathered, count_at, measured_at, flat_card}
use Rattle.packing.proofs.Blocks.{blocks-most}
use Rattle.packing.proofs.Cards.{card-unheld, made-right, made-fits, card-is}
use Rattle.packing.proofs.Losses.{block_held}
use Rattle.packing.proofs.Runs.{zeros-read}
use Rattle.packing.proofs.HeldWords.{held-each, held_none, held_all}
use Rattle.packing.proofs.writing.put_card.Goals as goal

abbrev limit : ℕ → ℕ
limit k = get_or (replicate layers_most places_most) k 0

-- as the code is told whether there is a layer that is over
past : (n : ℕ) (o : Option ℕ) → o ≡ place_in layers_most n → is_some o ≡ false → layers_most ≤ n
past n o e f =
    by (ltb n layers_most)
    (λ t. absurd (true≢false (rw (e, t) at f)))
    (λ t. ltb-false n layers_most t)

inside : (n : ℕ) (o : Option ℕ) → o ≡ place_in layers_most n → is_some o ≡ true → n < layers_most
inside n o e f =
    by (ltb n layers_most)
    (λ t. ltb-true n layers_most t)
    (λ t. absurd (true≢false (sym (rw (e, t) at f))))

-- where no layer is over, 23 digits hold all coefficients
record Held (qs : List ℤ) (planes : List ℕ) : Type 0 where
  each : (p : ℕ) → holds places_most (at qs p) ≡ true
  all : all_held qs ≡ true
  few : (k : ℕ) → k < layers_most → get_or planes k 0 ≤ places_most

held : (sh : Shape) → accepted sh ≡ true → (qs : List ℤ) → length qs ≡ points sh → (ws : List ℕ) → Gathered sh qs ws → (planes : List ℕ) → planes ≡ tabulate layers_most (count_at sh ws)
    → (n : ℕ) → n ≡ first_over limit (λ k. get_or planes k 0) → layers_most ≤ n → Held qs planes
held sh ok qs long ws g planes counted n e past =
    let count : ℕ → ℕ = λ k. get_or planes k 0 in
    let none : first_over limit count ≡ layers_most = omega (arith, e, past, over-le limit count) in
    record {
      each = held-each sh ok qs long ws g planes counted none;
      all = held_all sh ok qs long ws g planes counted none;
      few = λ k l. omega (arith, over_none limit count none k l, get_or-replicate layers_most k places_most 0 l);
    }

-- the losses, of which there are as many as planes
record Told (ls : List ℕ) (n : ℕ) (table : List ℕ) : Type 0 where
  many : n ≡ length ls
  is : take n table ≡ ls
  within : n ≤ length table

told : (sh : Shape) → accepted sh ≡ true → (own : ℕ → ℕ → ℕ) (count : ℕ → ℕ) → ((k : ℕ) → k < layers_most → count k ≤ places_most) → (n : ℕ) (table : List ℕ)
    → n ≡ total count (layers sh) → table ≡ sets (replicate losses_most 0) 0 (laid own count (layers sh)) → Told (laid own count (layers sh)) n table
told sh ok own count few n table e f =
    let ls = laid own count (layers sh) in
    let most = layers-few sh (accepted-yes sh ok) in
    let many : n ≡ length ls = e ∙ sym (laid-length count own (layers sh)) in
    let room : length ls ≤ losses_most = omega (arith, laid-length count own (layers sh), most, total-most count places_most (layers sh) (λ k l. few k (omega (arith, most)))) in
    record {
      many = many;
      is = ap₂ (λ (n : ℕ) (l : List ℕ). take n l) many f ∙ zeros-read losses_most ls room;
      within = omega (arith, many, room, ap length f, length-sets (replicate losses_most 0) 0 ls, length-replicate {A = ℕ} losses_most 0);
    }

pub block_starts-starts-requires : goal.block_starts-starts-requires
block_starts-starts-requires c = (settled-yes c.args.shape c.args.step c.requires.0).0

pub gather-requires-clause-shape_value : goal.gather-requires-clause-shape_value
gather-requires-clause-shape_value c =
    ((settled-yes c.args.shape c.args.step c.requires.0).0, c.block_starts-starts.ensures, full-long c.args.shape c.args.coefficients.now c.requires.1)

pub counts-planes-requires : goal.counts-planes-requires
counts-planes-requires c = ((settled-yes c.args.shape c.args.step c.requires.0).0, c.block_starts-starts.ensures, c.gather.ensures.long)

pub returns-then-is_some : goal.returns-then-is_some
returns-then-is_some c =
    let ok = (settled-yes c.args.shape c.args.step c.requires.0).0 in
    let long = full-long c.args.shape c.args.coefficients.now c.requires.1 in
    card-unheld c.args.shape c.args.step c.requires.0 c.args.curve c.args.coefficients.now c.requires.1 c.args.output.now
    (held_none c.args.shape ok c.args.coefficients.now long _ c.gather.ensures c.counts-planes.result c.counts-planes.ensures (inside _ _ c.first_over.ensures (sym c.if-is_some.ensures)))

pub measure_layers-told-requires-clause-shape_value : goal.measure_layers-told-requires-clause-shape_value
measure_layers-told-requires-clause-shape_value c = ((settled-yes c.args.shape c.args.step c.requires.0).0, c.block_starts-starts.ensures, c.gather.ensures.long, refl)

pub measure_layers-told-requires-clause-by_index : goal.measure_layers-told-requires-clause-by_index
measure_layers-told-requires-clause-by_index c =
    let ok = (settled-yes c.args.shape c.args.step c.requires.0).0 in
    let h = held c.args.shape ok c.args.coefficients.now (full-long c.args.shape c.args.coefficients.now c.requires.1) _ c.gather.ensures c.counts-planes.result c.counts-planes.ensures _ refl (past _ _ c.first_over.ensures (sym c.if-is_some.ensures)) in
    (h.few, block_held c.args.shape ok c.args.coefficients.now _ c.gather.ensures h.each)

pub rows_end-requires : goal.rows_end-requires
rows_end-requires c = ((settled-yes c.args.shape c.args.step c.requires.0).0, c.block_starts-starts.ensures)

pub turn-requires : goal.turn-requires
turn-requires c =
    let rows = c.rows_end.ensures in
    (rows.whole, omega (arith, rows.inside, c.gather.ensures.long, blocks-most c.args.shape ((settled-yes c.args.shape c.args.step c.requires.0).0)))

pub slice_bounds-losses-end : goal.slice_bounds-losses-end
slice_bounds-losses-end c =
    let ok = (settled-yes c.args.shape c.args.step c.requires.0).0 in
    let h = held c.args.shape ok c.args.coefficients.now (full-long c.args.shape c.args.coefficients.now c.requires.1) _ c.gather.ensures c.counts-planes.result c.counts-planes.ensures _ refl (past _ _ c.first_over.ensures (sym c.if-is_some.ensures)) in
    (told c.args.shape ok (measured_at c.args.shape c.gather.new.words) (λ k. get_or c.counts-planes.result k 0) h.few _ _ c.measure_layers-told.ensures.0 c.measure_layers-told.ensures.1).within

pub slice_bounds-put_rows-end : goal.slice_bounds-put_rows-end
slice_bounds-put_rows-end c =
    let ok = (settled-yes c.args.shape c.args.step c.requires.0).0 in
    let h = held c.args.shape ok c.args.coefficients.now (full-long c.args.shape c.args.coefficients.now c.requires.1) _ c.gather.ensures c.counts-planes.result c.counts-planes.ensures _ refl (past _ _ c.first_over.ensures (sym c.if-is_some.ensures)) in
    let t = told c.args.shape ok (measured_at c.args.shape c.gather.new.words) (λ k. get_or c.counts-planes.result k 0) h.few _ _ c.measure_layers-told.ensures.0 c.measure_layers-told.ensures.1 in
    t.many ∙ sym (ap length t.is)

pub put_rows-requires : goal.put_rows-requires
put_rows-requires c =
    let sh = c.args.shape in
    let ok = (settled-yes sh c.args.step c.requires.0).0 in
    let qs = c.args.coefficients.now in
    let h = held sh ok qs (full-long sh qs c.requires.1) _ c.gather.ensures c.counts-planes.result c.counts-planes.ensures _ refl (past _ _ c.first_over.ensures (sym c.if-is_some.ensures)) in
    let t = told sh ok (measured_at sh c.gather.new.words) (λ k. get_or c.counts-planes.result k 0) h.few _ _ c.measure_layers-told.ensures.0 c.measure_layers-told.ensures.1 in (
      made-right sh c.args.step c.requires.0 c.args.curve qs c.requires.1 h.all h.each _ c.gather.ensures _ c.counts-planes.ensures _ c.total_cells-cells.ensures,
      c.block_starts-starts.ensures,
      c.turn.auto.words ∙ c.gather.ensures.long,
      made-fits sh c.args.step c.requires.0 c.args.curve qs c.requires.1 h.all h.each _ c.gather.ensures _ c.counts-planes.ensures _ c.total_cells-cells.ensures _ t.is,
    )

pub returns : goal.returns
returns c =
    let sh = c.args.shape in
    let ok = (settled-yes sh c.args.step c.requires.0).0 in
    let qs = c.args.coefficients.now in
    let h = held sh ok qs (full-long sh qs c.requires.1) _ c.gather.ensures c.counts-planes.result c.counts-planes.ensures _ refl (past _ _ c.first_over.ensures (sym c.if-is_some.ensures)) in
    let t = told sh ok (measured_at sh c.gather.new.words) (λ k. get_or c.counts-planes.result k 0) h.few _ _ c.measure_layers-told.ensures.0 c.measure_layers-told.ensures.1 in
    let out = c.args.output.now in
    let card = ap (flat_card _ _) c.turn.ensures ∙ card-is sh c.args.step c.requires.0 c.args.curve qs c.requires.1 h.all h.each _ c.gather.ensures _ c.counts-planes.ensures _ c.total_cells-cells.ensures _ t.is _ c.rows_end.ensures in
    (c.put_rows.ensures.0 ∙ ap (after out 0) card, c.put_rows.ensures.1 ∙ ap (putting out 0) card)
