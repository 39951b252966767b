-- A turn takes the preferred count of the layer that the walk has come to.
use Rattle.std.proofs.Common.{◌≡◌, ◌-◌, ◌*◌, ◌≤◌, ℕ, suc, List, get_or, refl, ap, ◌∙◌, arith}
use Rattle.header.specs.Workings.{cells_at}
use Rattle.header.proofs.Cells.{span-listed}
use Rattle.planner.specs.Workings.Table.{layers_of}
use Rattle.planner.proofs.RisingCarry.{header-rising}
use Rattle.planner.proofs.WalkBack.{Walked, walk_start, walk_more, walk-done}
use Rattle.planner.proofs.searching.trace.Goals as goal
use Rattle.planner.proofs.searching.trace.Goals.{In-loop-k, After-preferred-n}

module _ (c : In-loop-k) where
  stands : Walked (layers_of c.args.header c.args.losses.now) c.args.size c.loop-k.planes (suc (c.loop-k.k - 1)) c.loop-k.c
  stands = let e : c.loop-k.k ≡ suc (c.loop-k.k - 1) = omega arith in rw e at c.loop-k.invariant

  span-is : get_or c.spans-spans.result (c.loop-k.k - 1) 0 ≡ cells_at c.args.header.shape (c.loop-k.k - 1)
  span-is = ap (λ (ns : List ℕ). get_or ns (c.loop-k.k - 1) 0) c.spans-spans.ensures ∙ span-listed c.args.header.shape (c.loop-k.k - 1) stands.layer

  -- the cells of its planes are not more than are left
  fits : (n : ℕ) → n * cells_at c.args.header.shape (c.loop-k.k - 1) ≤ c.loop-k.c → n * get_or c.spans-spans.result (c.loop-k.k - 1) 0 ≤ c.loop-k.c
  fits n h = rw span-is h

pub loop-k-init : goal.loop-k-init
loop-k-init c = walk_start _ _ _ refl c.requires.size_bound

pub preferred-n-requires-clause-header_value : goal.preferred-n-requires-clause-header_value
preferred-n-requires-clause-header_value c =
    let i = (goal.at.preferred-n-requires-clause-header_value c).In-loop-k in
    let w = stands i in
    (c.requires.header_value.0, w.layer, c.firsts_of-firsts.ensures (c.loop-k.k - 1) w.layer, span-is i, omega (arith, w.inside))

pub preferred-n-requires-clause-c_bound : goal.preferred-n-requires-clause-c_bound
preferred-n-requires-clause-c_bound c = (stands (goal.at.preferred-n-requires-clause-c_bound c).In-loop-k).low

pub overflow_mul-c : goal.overflow_mul-c
overflow_mul-c c = let i = (goal.at.overflow_mul-c c).In-loop-k in omega (arith, fits i c.preferred-n.result c.preferred-n.ensures.fits, (stands i).inside)

pub overflow_sub-c : goal.overflow_sub-c
overflow_sub-c c = fits (goal.at.overflow_sub-c c).In-loop-k c.preferred-n.result c.preferred-n.ensures.fits

pub loop-k-preserved : goal.loop-k-preserved
loop-k-preserved c =
    let i = (goal.at.loop-k-preserved c).In-loop-k in
    rw (span-is i)
    (walk_more (layers_of c.args.header c.args.losses.now) c.args.size c.loop-k.planes (header-rising c.args.header c.args.losses.now) (c.loop-k.k - 1) c.loop-k.c c.preferred-n.result (stands i) c.preferred-n.ensures)

pub returns : goal.returns
returns c =
    let e : c.loop-k.k ≡ 0 = omega arith in
    walk-done _ _ c.loop-k.planes c.loop-k.c (rw e at c.loop-k.invariant)
