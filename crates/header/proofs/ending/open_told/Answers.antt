-- The table's front holds the closed losses, which are the limits of the numbers that are read there.
use Rattle.std.proofs.Common.{ap, arith, rules, length, length-take, drop, sym, refl, ◌∙◌}
use Rattle.std.proofs.lemmas.Result.{err_from_is_err_and}
use Rattle.sheet.proofs.Accepting.{count-is}
use Rattle.text.specs.Workings.{putting}
use Rattle.header.specs.Header.{ascii_from}
use Rattle.header.proofs.WellFormed.{WellFormed, right-yes, layers-few, all-few}
use Rattle.header.proofs.Total.{right-cells}
use Rattle.header.proofs.Taking.{keyed-ends, turn_read}
use Rattle.header.proofs.Telling.{front_room, none_told, some_told, all_told, told_first, told_within, told_small, told_refused, told_wrong, told_cells_refused, told_opened, answers-none, answers-some}
use Rattle.header.proofs.ending.open_told.Goals as goal

pub returns-in_err-line : goal.returns-in_err-line
unfolding ascii_from
returns-in_err-line c =
    let p = err_from_is_err_and c.from_residual.result c.from_residual.ensures.1 in
    rw (p.1, p.2) (answers-none _ _ _ (told_refused c.args.bytes.now c.args.header c.args.at _ c.in_err-line.ensures) tt)

pub close_table-count-requires : goal.close_table-count-requires
close_table-count-requires c =
    let r : WellFormed c.args.header = right-yes c.args.header c.requires.0 in
    (omega (arith, c.layer_count-layers.ensures ∙ count-is c.args.header.shape r.shape, layers-few r), all-few c.args.header.shape c.args.header.planes (search rules) r.counts, omega arith)

pub slice_bounds-numbers-end : goal.slice_bounds-numbers-end
slice_bounds-numbers-end c =
    let r : WellFormed c.args.header = right-yes c.args.header c.requires.0 in
    front_room r _ _ _ c.in_ok-line.line.value.now (c.layer_count-layers.ensures ∙ count-is c.args.header.shape r.shape) c.close_table-count.ensures.0 c.close_table-count.ensures.1

pub slice_bounds-read_joined-end : goal.slice_bounds-read_joined-end
slice_bounds-read_joined-end c =
    let r : WellFormed c.args.header = right-yes c.args.header c.requires.0 in
    omega (arith, length-take c.close_table-count.result c.close_table-count.new.table, front_room r _ _ _ c.in_ok-line.line.value.now (c.layer_count-layers.ensures ∙ count-is c.args.header.shape r.shape) c.close_table-count.ensures.0 c.close_table-count.ensures.1)

pub returns-then-not-read_joined : goal.returns-then-not-read_joined
unfolding ascii_from
returns-then-not-read_joined c =
    let r : WellFormed c.args.header = right-yes c.args.header c.requires.0 in
    let none = none_told r _ _ _ _ (c.layer_count-layers.ensures ∙ count-is c.args.header.shape r.shape) c.close_table-count.ensures.0 c.close_table-count.ensures.1 (sym c.if-not-read_joined.true ∙ c.read_joined.ensures.0) in
    answers-none _ _ _ (told_wrong c.args.bytes.now c.args.header c.args.at _ _ c.in_ok-line.ensures none) tt

pub overflow_add-at : goal.overflow_add-at
overflow_add-at c = omega (arith, keyed-ends c.args.bytes.now c.args.at _ _ _ (turn_read 7 _ _ c.in_ok-line.ensures))

pub end_cells-requires : goal.end_cells-requires
end_cells-requires c = omega (arith, right-cells (right-yes c.args.header c.requires.0))

pub returns-in_err-length : goal.returns-in_err-length
unfolding ascii_from
returns-in_err-length c =
    let p = err_from_is_err_and c.from_residual-in_err-length.result c.from_residual-in_err-length.ensures.1 in
    let r : WellFormed c.args.header = right-yes c.args.header c.requires.0 in
    let some = some_told r _ _ _ _ (c.layer_count-layers.ensures ∙ count-is c.args.header.shape r.shape) c.close_table-count.ensures.0 c.close_table-count.ensures.1 _ c.read_joined.ensures.1 (sym c.if-not-read_joined.false ∙ c.read_joined.ensures.0) in
    rw (p.1, p.2) (answers-none _ _ _ (told_cells_refused c.args.bytes.now c.args.header c.args.at _ _ c.in_ok-line.ensures _ some _ (c.in_err-length.ensures c.args.header refl)) tt)

pub slice_bounds-numbers-end-2 : goal.slice_bounds-numbers-end-2
slice_bounds-numbers-end-2 c =
    let r : WellFormed c.args.header = right-yes c.args.header c.requires.0 in
    told_within r _ _ _ c.in_ok-line.line.value.now (c.layer_count-layers.ensures ∙ count-is c.args.header.shape r.shape) c.close_table-count.ensures.0 c.close_table-count.ensures.1 _ c.read_joined.ensures.1 (sym c.if-not-read_joined.false ∙ c.read_joined.ensures.0) _

pub slice_bounds-keep-end : goal.slice_bounds-keep-end
slice_bounds-keep-end c =
    let r : WellFormed c.args.header = right-yes c.args.header c.requires.0 in
    let long = all_told r _ _ _ c.in_ok-line.line.value.now (c.layer_count-layers.ensures ∙ count-is c.args.header.shape r.shape) c.close_table-count.ensures.0 c.close_table-count.ensures.1 _ c.read_joined.ensures.1 (sym c.if-not-read_joined.false ∙ c.read_joined.ensures.0) in
    let first = told_first r _ _ _ c.in_ok-line.line.value.now (c.layer_count-layers.ensures ∙ count-is c.args.header.shape r.shape) c.close_table-count.ensures.0 c.close_table-count.ensures.1 _ c.read_joined.ensures.1 (sym c.if-not-read_joined.false ∙ c.read_joined.ensures.0) (drop c.close_table-count.result c.close_table-count.new.table) in
    sym (ap length first ∙ long)

pub keep-requires : goal.keep-requires
keep-requires c =
    let r : WellFormed c.args.header = right-yes c.args.header c.requires.0 in
    let small = told_small r _ _ _ c.in_ok-line.line.value.now (c.layer_count-layers.ensures ∙ count-is c.args.header.shape r.shape) c.close_table-count.ensures.0 c.close_table-count.ensures.1 _ c.read_joined.ensures.1 (sym c.if-not-read_joined.false ∙ c.read_joined.ensures.0) in
    let first = told_first r _ _ _ c.in_ok-line.line.value.now (c.layer_count-layers.ensures ∙ count-is c.args.header.shape r.shape) c.close_table-count.ensures.0 c.close_table-count.ensures.1 _ c.read_joined.ensures.1 (sym c.if-not-read_joined.false ∙ c.read_joined.ensures.0) (drop c.close_table-count.result c.close_table-count.new.table) in
    λ i. rw first (small i)

pub returns : goal.returns
unfolding ascii_from
returns c =
    let r : WellFormed c.args.header = right-yes c.args.header c.requires.0 in
    let some = some_told r _ _ _ c.in_ok-line.line.value.now (c.layer_count-layers.ensures ∙ count-is c.args.header.shape r.shape) c.close_table-count.ensures.0 c.close_table-count.ensures.1 _ c.read_joined.ensures.1 (sym c.if-not-read_joined.false ∙ c.read_joined.ensures.0) in
    let long = all_told r _ _ _ c.in_ok-line.line.value.now (c.layer_count-layers.ensures ∙ count-is c.args.header.shape r.shape) c.close_table-count.ensures.0 c.close_table-count.ensures.1 _ c.read_joined.ensures.1 (sym c.if-not-read_joined.false ∙ c.read_joined.ensures.0) in
    let first = told_first r _ _ _ c.in_ok-line.line.value.now (c.layer_count-layers.ensures ∙ count-is c.args.header.shape r.shape) c.close_table-count.ensures.0 c.close_table-count.ensures.1 _ c.read_joined.ensures.1 (sym c.if-not-read_joined.false ∙ c.read_joined.ensures.0) (drop c.close_table-count.result c.close_table-count.new.table) in
    let opens = told_opened c.args.bytes.now c.args.header c.args.at _ _ c.in_ok-line.ensures _ some _ (c.in_ok-length.ensures c.args.header refl) in
    answers-some c.args.losses.now _ c.read_joined.new.numbers _ opens (sym long) _ (c.keep.ensures ∙ ap (putting c.args.losses.now 0) first)
