-- A layer's plane is put behind those of the layers before it (`laid-yes`), from the rows of its block; a layer that has none there puts none (`laid-no`).
use Rattle.std.proofs.Common.{◌≡◌, ◌+◌, ◌-◌, ◌*◌, ◌/◌, ◌%◌, ◌≤◌, ◌<◌, ℕ, List, true, refl, arith, ap, sym, ◌∙◌, length, get_or}
use borrow.Rule.Slice.PartMut.{put_mid}
use Rattle.std.specs.List.{between}
use Rattle.std.proofs.lemmas.List.Edits.{sets, length-between}
use Rattle.sheet.specs.declared.Shape.{Shape}
use Rattle.sheet.specs.Lists.{tabulate}
use Rattle.sheet.specs.Sheet.{accepted, layers}
use Rattle.sheet.proofs.Accepting.{count-is}
use Rattle.sheet.proofs.Lists.{length-tabulate}
use Rattle.header.specs.declared.Header.{Header}
use Rattle.header.specs.Header.{cell_bytes, planes_of, plane_cells}
use Rattle.packing.specs.Workings.Words.{Starts, words_most, byte_at, flat_plane, row_plane}
use Rattle.order.specs.CardOrder.{at_place}
use Rattle.packing.proofs.Blocks.{block-next, block_room, layer-below}
use Rattle.packing.proofs.FlatPlanes.{rows-room, laid_none, laid-yes, laid-no, laid-all}
use Rattle.packing.proofs.Runs.{part-sets}
use Rattle.packing.proofs.putting.put_place.Goals as goal
use Rattle.packing.proofs.putting.put_place.Goals.{then-p-header, else-p-header}

-- where a layer's block begins and ends: its rows are eight to a byte of a plane
record Ends (sh : Shape) (k start end : ℕ) : Type 0 where
  rises : start ≤ end
  bytes : (end - start) / 8 ≡ cell_bytes * plane_cells sh k
  rows : start + 8 * (cell_bytes * plane_cells sh k) ≤ words_most

ends : (sh : Shape) (ss : List ℕ) (k : ℕ) → accepted sh ≡ true → Starts sh ss → k < layers sh → Ends sh k (get_or ss k 0) (get_or ss (k + 1) 0)
ends sh ss k ok s l =
    let a = s.at k (omega arith) in
    let b = s.at (k + 1) (omega arith) in
    let n = block-next sh k in
    record { rises = omega (arith, a, b, n); bytes = omega (arith, a, b, n); rows = omega (arith, a, block_room sh ok k l) }

pub loop-k-init : goal.loop-k-init
loop-k-init c = laid_none c.args.header c.args.rows.now c.args.p c.args.out.now c.args.at

pub offset_bounds-header-k : goal.offset_bounds-header-k
offset_bounds-header-k c = omega (arith, layer-below c.args.header.shape c.requires.shape_value.0 c.layer_count-k-end.ensures c.loop-k-test.true)

pub bounds-header-k : goal.bounds-header-k
bounds-header-k c = (layer-below c.args.header.shape c.requires.shape_value.0 c.layer_count-k-end.ensures c.loop-k-test.true).1

pub overflow_sub-end : goal.overflow_sub-end
overflow_sub-end c =
    let k = layer-below c.args.header.shape c.requires.shape_value.0 c.layer_count-k-end.ensures c.loop-k-test.true in
    (ends c.args.header.shape c.args.starts _ c.requires.shape_value.0 c.requires.shape_value.1 k.0).rises

-- the bytes after a plane's are within the output
room : (h : Header) (rows : List ℕ) (p at k to all : ℕ) → k < layers h.shape → p < planes_of h k → to ≡ at + length (at_place h (row_plane h.shape rows) p k)
    → at + length (at_place h (row_plane h.shape rows) p (layers h.shape)) ≤ all → to + cell_bytes * plane_cells h.shape k ≤ all
room h rows p at k to all l m e fits = omega (arith, e, fits, rows-room h rows p k l m)

pub overflow_add-end-then-p-header : goal.overflow_add-end-then-p-header
overflow_add-end-then-p-header c =
    let k = layer-below c.args.header.shape c.requires.shape_value.0 c.layer_count-k-end.ensures c.loop-k-test.true in
    let e = ends c.args.header.shape c.args.starts _ c.requires.shape_value.0 c.requires.shape_value.1 k.0 in
    omega (arith, e.bytes, room c.args.header c.args.rows.now c.args.p c.args.at _ _ _ k.0 c.if-p-header.true c.loop-k.invariant.ends c.requires.shape_in_bounds)

pub slice_bounds-put_plane-end : goal.slice_bounds-put_plane-end
slice_bounds-put_plane-end c =
    let k = layer-below c.args.header.shape c.requires.shape_value.0 c.layer_count-k-end.ensures c.loop-k-test.true in
    let e = ends c.args.header.shape c.args.starts _ c.requires.shape_value.0 c.requires.shape_value.1 k.0 in
    omega (arith, e.bytes, c.loop-k.auto.out, room c.args.header c.args.rows.now c.args.p c.args.at _ _ _ k.0 c.if-p-header.true c.loop-k.invariant.ends c.requires.shape_in_bounds)

-- a part as long as a plane
part-long : (out : List ℕ) (to n m : ℕ) → n ≡ m → to + m ≤ length out → length (between to (to + n) out) ≡ m
part-long out to n m e fits = length-between out to (to + n) (omega arith) ∙ omega arith

pub put_plane-requires : goal.put_plane-requires
put_plane-requires c =
    let k = layer-below c.args.header.shape c.requires.shape_value.0 c.layer_count-k-end.ensures c.loop-k-test.true in
    let e = ends c.args.header.shape c.args.starts _ c.requires.shape_value.0 c.requires.shape_value.1 k.0 in
    let fits = room c.args.header c.args.rows.now c.args.p c.args.at _ _ _ k.0 c.if-p-header.true c.loop-k.invariant.ends c.requires.shape_in_bounds in
    (c.requires.shape_value.2, omega (arith, e.rows, c.requires.shape_value.3, part-long c.loop-k.out c.loop-k.to _ _ e.bytes (omega (arith, fits, c.loop-k.auto.out))))

-- what was put there is the plane
plane-put : (rows out plane : List ℕ) (start c p to n m : ℕ) → n ≡ cell_bytes * c → m ≡ n → to + n ≤ length out
    → plane ≡ tabulate m (λ b. byte_at p (get_or rows (start + 8 * b + p % 8) 0)) → put_mid to (to + n - to) out plane ≡ sets out to (flat_plane rows start c p)
unfolding flat_plane
plane-put rows out plane start c p to n m e f fits is =
    let bytes : ℕ → ℕ = λ b. byte_at p (get_or rows (start + 8 * b + p % 8) 0) in
    let whole : plane ≡ tabulate (cell_bytes * c) bytes = is ∙ ap (λ (n : ℕ). tabulate n bytes) (f ∙ e) in
    part-sets to (to + n - to) out plane (omega (arith, ap length whole, length-tabulate (cell_bytes * c) bytes)) (omega arith) ∙ ap (sets out to) whole

pub loop-k-preserved : goal.loop-k-preserved
loop-k-preserved c =
    let h = c.args.header in
    let rows = c.args.rows.now in
    let p = c.args.p in
    let k = layer-below h.shape c.requires.shape_value.0 c.layer_count-k-end.ensures c.loop-k-test.true in
    let start = get_or c.args.starts c.loop-k.k 0 in
    let e = ends h.shape c.args.starts c.loop-k.k c.requires.shape_value.0 c.requires.shape_value.1 k.0 in
    elim c.if-p-header.branch [
      | then-p-header w ↦
          let fits : c.loop-k.to + cell_bytes * plane_cells h.shape c.loop-k.k ≤ length c.loop-k.out =
          omega (arith, c.loop-k.auto.out, room h rows p c.args.at c.loop-k.k c.loop-k.to (length c.args.out.now) k.0 w.if-p-header.true c.loop-k.invariant.ends c.requires.shape_in_bounds) in
          laid-yes h rows p c.args.out.now c.args.at c.loop-k.k start (plane_cells h.shape c.loop-k.k) c.loop-k.to c.if-p-header.to c.loop-k.out c.if-p-header.out
          w.if-p-header.true (c.requires.shape_value.1.at c.loop-k.k (omega (arith, k.0))) refl c.loop-k.invariant (omega (arith, w.to-is, e.bytes))
          (w.out-is ∙ plane-put rows c.loop-k.out _ start (plane_cells h.shape c.loop-k.k) p c.loop-k.to _ _ e.bytes (part-long c.loop-k.out c.loop-k.to _ _ e.bytes fits ∙ sym e.bytes) (omega (arith, fits, e.bytes)) w.put_plane.ensures)
      | else-p-header w ↦ laid-no h rows p c.args.out.now c.args.at c.loop-k.k c.loop-k.to c.if-p-header.to c.loop-k.out c.if-p-header.out w.if-p-header.false c.loop-k.invariant w.to-is w.out-is
    ]

pub returns : goal.returns
returns c =
    let all = laid-all c.args.header c.args.rows.now c.args.p c.args.out.now c.args.at c.loop-k.k c.loop-k.to c.loop-k.out (omega (arith, c.layer_count-k-end.ensures, count-is c.args.header.shape c.requires.shape_value.0)) c.loop-k.invariant in
    (all.ends, all.stands)
