-- The tests in turn are the definition's own; past them the header names the plane.
use mathlib.Core.Bool.{true}
use mathlib.Core.List.{List}
use mathlib.Core.Path.{◌≡◌, sym, ◌∙◌}
use Prim.Native.Nat.{ℕ, ◌<◌}
use native.Mathlib.Omega.{arith}
use borrow.Author.Rules.{rules}
use lib.IntN.{ℤ}
use Rattle.sheet.specs.Limits.{layers_most}
use Rattle.sheet.specs.Sheet.{layers}
use Rattle.sheet.proofs.Accepting.{count-is}
use Rattle.header.proofs.WellFormed.{right-yes, layers-few}
use Rattle.loading.specs.Workings.Calls.{loadable}
use Rattle.loading.proofs.Loads.{loadable-right, add-not-loadable, add-past, add-unnamed}
use Rattle.loading.proofs.refining.add_plane.Statement.{statement}
use Rattle.loading.proofs.refining.add_plane.Tie as tie

abbrev S : tie.Else-not-is_loadable → tie.Start
S c = c.before.before.before

abbrev Qs : tie.Start → List ℤ
Qs s = s.args.coefficients.now

abbrev Bs : tie.Start → List ℕ
Bs s = s.args.bytes.now

can : (c : tie.Else-not-is_loadable) → (let s = S c in loadable (Qs s) (Bs s) s.args.header s.args.at ≡ true)
can c = sym c.before.is_loadable.ensures ∙ c.if-not-is_loadable.false

count : (c : tie.After-layer_count) → c.layer_count.result ≡ layers (S c.before.before.before).args.header.shape
count c =
    let e = c.before.before.before in
    let s = S e in
    c.layer_count.ensures
    ∙ count-is s.args.header.shape (right-yes s.args.header (loadable-right (Qs s) (Bs s) s.args.header s.args.at (can e))).shape

layer-low : (c : tie.After-layer_count) → (let s = S c.before.before.before in s.args.layer < c.layer_count.result → s.args.layer < layers s.args.header.shape)
layer-low c h = omega (arith, h, count c)

layer-few : (c : tie.After-layer_count) → (let s = S c.before.before.before in s.args.layer < c.layer_count.result → s.args.layer < layers_most)
layer-few c h =
    let e = c.before.before.before in
    let s = S e in
    omega (arith, layer-low c h, layers-few (right-yes s.args.header (loadable-right (Qs s) (Bs s) s.args.header s.args.at (can e))))

is-loadable-requires : tie.Need-is_loadable-requires
is-loadable-requires c κs = search rules

same_length : tie.Need-shape_of-coefficients-then-not-is_loadable
same_length c = search rules

returns : tie.Need-returns-then-not-is_loadable
returns c =
    let l = c.before in
    let s = l.before.before in
    add-not-loadable (Qs s) (Bs s) s.args.header s.args.at s.args.layer s.args.p
    (sym l.is_loadable.ensures ∙ c.if-not-is_loadable.true)

layer-count-requires : tie.Need-layer_count-requires
layer-count-requires c κs = search rules

same-length-2 : tie.Need-shape_of-coefficients-then-layer_count-layer
same-length-2 c = search rules

returns-2 : tie.Need-returns-then-layer_count-layer
returns-2 c =
    let n = c.before in
    let e = n.before.before.before in
    let s = S e in
    add-past (Qs s) (Bs s) s.args.header s.args.at s.args.layer s.args.p (can e) (omega (arith, c.if-layer_count-layer.true, count n))

mul-if3 : tie.Need-offset_bounds-counts-layer
mul-if3 c = omega (arith, layer-few c.before c.if-layer_count-layer.false)

array-read-if3 : tie.Need-bounds-counts-layer
array-read-if3 c = layer-few c.before c.if-layer_count-layer.false

same-length-3 : tie.Need-shape_of-coefficients-then-counts-layer
same-length-3 c = search rules

returns-3 : tie.Need-returns-then-counts-layer
returns-3 c =
    let d = c.before in
    let e = d.before.before.before.before in
    let s = S e in
    add-unnamed (Qs s) (Bs s) s.args.header s.args.at s.args.layer s.args.p (can e) (layer-low d.before d.if-layer_count-layer.false) (omega (arith, c.if-counts-layer.true))

add-named-requires : tie.Need-add_named-requires
add-named-requires c κs =
    let t = c.before in
    let d = t.before in
    (can d.before.before.before.before, layer-low d.before d.if-layer_count-layer.false, omega (arith, t.if-counts-layer.false))

same-length-4 : tie.Need-shape_of-coefficients
same-length-4 c = search rules

returns-4 : tie.Need-returns
returns-4 c = search rules

pub add_plane_spec : {M : Type 1} → statement M
add_plane_spec =
    tie.close
    (tie.spec
    is-loadable-requires
    same_length
    returns
    layer-count-requires
    same-length-2
    returns-2
    mul-if3
    array-read-if3
    same-length-3
    returns-3
    add-named-requires
    same-length-4
    returns-4)
