-- Each test is one of `cells_before_in`; then the cells up to the plane's end, less its own, are those before it (`cells-through`).
use Prim.Native.Nat.{ℕ, ◌+◌, ◌<◌}
use mathlib.Core.Bool.{true, false}
use mathlib.Core.List.{List}
use mathlib.Core.Path.{◌≡◌, sym, ap, ◌∙◌}
use native.Mathlib.Decide.{dec_lt}
use native.Mathlib.Omega.{arith}
use lib.ListN.{length, get_or}
use borrow.Author.Rules.{rules}
use borrow.Author.Tests.{lt-ltb, le-ltb}
use Rattle.sheet.specs.Limits.{layers_most}
use Rattle.sheet.specs.Sheet.{layers}
use Rattle.header.specs.Header.{plane_cells}
use Rattle.header.specs.Opening.{well_formed}
use Rattle.order.specs.CardOrder.{cells_before}
use Rattle.order.specs.Workings.{cells_through, cells_before_in}
use Rattle.header.proofs.WellFormed.{WellFormed, right-yes, counts_past}
use Rattle.header.proofs.Cells.{cells-there, span-listed}
use Rattle.order.proofs.CardOrder.{cells-through}
use Rattle.order.proofs.Through.{Small, header-small}
use Rattle.order.proofs.cells_before.Statement.{statement}
use Rattle.order.proofs.cells_before.Tie as tie

abbrev S : tie.Else-not-is_well_formed → tie.Start
S e = e.before.before

is-so : (e : tie.Else-not-is_well_formed) → well_formed (S e).args.header ≡ true
is-so e = sym e.before.is_well_formed.ensures ∙ e.if-not-is_well_formed.false

rightly : (e : tie.Else-not-is_well_formed) → WellFormed (S e).args.header
rightly e = right-yes (S e).args.header (is-so e)

long : (s : tie.Start) → length s.args.header.planes ≡ layers_most
long s = search rules

-- a layer that has the plane is one of the sheet's
abbrev E : tie.Else-counts-layer → tie.Else-not-is_well_formed
E c = c.before.before.before

inside : (c : tie.Else-counts-layer) → (S (E c)).args.layer < layers (S (E c)).args.header.shape
inside c =
    let h = (S (E c)).args.header in
    let k = (S (E c)).args.layer in
    elim (dec_lt k (layers h.shape)) [
      | yes l ↦ l
      | no l ↦ absurd (let e : ⊥ = omega (arith, counts_past (rightly (E c)) k (omega arith) c.before.if-layer-ge-MOST_LAYERS.false, c.if-counts-layer.false) in e)
    ]

-- the cells up to the plane's end are its own and those before it
through-is : (c : tie.After-cells_through) → (let e = E c.before.before in c.cells_through.result ≡ cells_before (S e).args.header (S e).args.layer (S e).args.p + plane_cells (S e).args.header.shape (S e).args.layer)
through-is c =
    let e = E c.before.before in
    let h = (S e).args.header in
    c.cells_through.ensures
    ∙ ap (λ (ws : List ℕ). cells_through ws h.planes (S e).args.layer (S e).args.p) c.before.spans-spans.ensures
    ∙ cells-through h (rightly e) (S e).args.layer (S e).args.p (inside c.before.before)

own_is : (c : tie.After-cells_through) → (let e = E c.before.before in get_or c.before.spans-spans.result (S e).args.layer 0 ≡ plane_cells (S e).args.header.shape (S e).args.layer)
own_is c =
    let e = E c.before.before in
    let h = (S e).args.header in
    let k = (S e).args.layer in
    ap (λ (ws : List ℕ). get_or ws k 0) c.before.spans-spans.ensures
    ∙ span-listed h.shape k c.before.before.before.if-layer-ge-MOST_LAYERS.false
    ∙ cells-there h.shape (rightly e).shape k (inside c.before.before)

is-well-formed-requires : tie.Need-is_well_formed-requires
is-well-formed-requires c κs = search rules

returns : tie.Need-returns-then-not-is_well_formed
unfolding cells_before_in
returns c = let none : well_formed c.before.before.args.header ≡ false = sym c.before.is_well_formed.ensures ∙ c.if-not-is_well_formed.true in rw none

returns-2 : tie.Need-returns-then-layer-ge-MOST_LAYERS
unfolding cells_before_in
returns-2 c = rw (is-so c.before.before, le-ltb _ _ c.if-layer-ge-MOST_LAYERS.true)

mul-if3 : tie.Need-offset_bounds-counts-layer
mul-if3 c = search rules

array-read-if3 : tie.Need-bounds-counts-layer
array-read-if3 c = search rules

returns-3 : tie.Need-returns-then-counts-layer
unfolding cells_before_in
returns-3 c = rw (is-so c.before.before.before, lt-ltb _ _ c.before.if-layer-ge-MOST_LAYERS.false, le-ltb _ _ c.if-counts-layer.true)

spans-requires : tie.Need-spans-spans-requires
spans-requires c κs = search rules

cells-through-requires : tie.Need-cells_through-requires
cells-through-requires c κs =
    let e = E c.before in
    let s = S e in
    let small : Small c.spans-spans.result s.args.header.planes = rw c.spans-spans.ensures (header-small s.args.header (rightly e) (long s)) in
    (c.before.before.if-layer-ge-MOST_LAYERS.false, small, omega (arith, c.before.if-counts-layer.false, (small s.args.layer).1))

mul-result : tie.Need-offset_bounds-spans-layer
mul-result c = search rules

array-read-result : tie.Need-bounds-spans-layer
array-read-result c = search rules

sub-result : tie.Need-overflow_sub-result
sub-result c = omega (arith, through-is c, own_is c)

returns-4 : tie.Need-returns
unfolding cells_before_in
returns-4 c =
    let e = E c.before.before in
    rw (is-so e, lt-ltb _ _ c.before.before.before.if-layer-ge-MOST_LAYERS.false, lt-ltb _ _ c.before.before.if-counts-layer.false) (omega (arith, through-is c, own_is c))

pub cells_before_spec : {M : Type 1} → statement M
cells_before_spec =
    tie.close
    (tie.spec
    is-well-formed-requires
    returns
    returns-2
    mul-if3
    array-read-if3
    returns-3
    spans-requires
    cells-through-requires
    mul-result
    array-read-result
    sub-result
    returns-4)
