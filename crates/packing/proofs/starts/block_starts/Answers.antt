-- One block more begins where the one before it ends, and all of them have room (`block_room`).
use Rattle.std.proofs.Common.{◌≡◌, ◌+◌, ◌*◌, arith, refl, sym, ◌∙◌, length-set, get_or-set_other, get_or-set_same}
use native.Mathlib.Decide.{ℕ_discrete}
use Rattle.sheet.specs.Sheet.{layers}
use Rattle.sheet.proofs.Accepting.{count-is}
use Rattle.header.specs.Header.{cell_points}
use Rattle.header.proofs.Cells.{cells-there}
use Rattle.packing.specs.Workings.Words.{block_start}
use Rattle.packing.proofs.Blocks.{block_none, block-next, block_room, layer-below}
use Rattle.packing.proofs.starts.block_starts.Goals as goal

pub loop-k-init : goal.loop-k-init
loop-k-init c =
    (sym (block_none c.args.shape), refl, λ j h. let e : j ≡ 0 = omega arith in rw e (sym (block_none c.args.shape)))

pub overflow_mul-end : goal.overflow_mul-end
overflow_mul-end c =
    let k = layer-below c.args.shape c.requires c.layer_count-k-end.ensures c.loop-k-test.true in
    omega (arith, c.plane_cells.ensures, cells-there c.args.shape c.requires _ k.0, block_room c.args.shape c.requires _ k.0)

pub overflow_add-end : goal.overflow_add-end
overflow_add-end c =
    let k = layer-below c.args.shape c.requires c.layer_count-k-end.ensures c.loop-k-test.true in
    omega (arith, c.loop-k.invariant.0, c.plane_cells.ensures, cells-there c.args.shape c.requires _ k.0, block_room c.args.shape c.requires _ k.0)

pub offset_bounds-starts-k : goal.offset_bounds-starts-k
offset_bounds-starts-k c =
    let k = layer-below c.args.shape c.requires c.layer_count-k-end.ensures c.loop-k-test.true in omega (arith, k.1)

pub bounds-starts-k : goal.bounds-starts-k
bounds-starts-k c =
    let k = layer-below c.args.shape c.requires c.layer_count-k-end.ensures c.loop-k-test.true in omega (arith, k.1)

pub loop-k-preserved : goal.loop-k-preserved
loop-k-preserved c =
    let sh = c.args.shape in
    let k = c.loop-k.k in
    let l = layer-below sh c.requires c.layer_count-k-end.ensures c.loop-k-test.true in
    let here : c.loop-k.end + cell_points * c.plane_cells.result ≡ block_start sh (k + 1) =
    omega (arith, c.loop-k.invariant.0, c.plane_cells.ensures, cells-there sh c.requires k l.0, block-next sh k) in (
      here,
      length-set c.loop-k.starts (k + 1) _ ∙ c.loop-k.invariant.1,
      λ j h.
          elim (ℕ_discrete j (k + 1)) [
            | yes e ↦ rw e (get_or-set_same c.loop-k.starts (k + 1) _ 0 (omega (arith, l.1, c.loop-k.invariant.1)) ∙ here)
            | no e ↦ get_or-set_other c.loop-k.starts (k + 1) j _ 0 e ∙ c.loop-k.invariant.2 j (omega arith)
          ],
    )

pub returns : goal.returns
returns c =
    let e : c.loop-k.k ≡ layers c.args.shape = omega (arith, c.layer_count-k-end.ensures, count-is c.args.shape c.requires) in
    record { at = λ j h. c.loop-k.invariant.2 j (omega arith) }
