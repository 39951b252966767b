-- The plane stands where card order says; past the tests it is inside the bytes, and its digits are added to its layer's coefficients.
use mathlib.Core.Bool.{true}
use mathlib.Core.List.{List}
use mathlib.Core.Path.{◌≡◌, sym, ap, ◌∙◌}
use Prim.Native.Nat.{ℕ, ◌+◌, ◌*◌, ◌-◌, ◌<◌, ◌≤◌}
use native.Mathlib.Omega.{arith}
use borrow.Author.Rules.{rules}
use lib.IntN.{ℤ}
use lib.ListN.{length}
use Rattle.sheet.specs.Limits.{layers_most}
use Rattle.sheet.specs.Sheet.{points, layer_size}
use Rattle.sheet.proofs.Accepting.{accepted-yes}
use Rattle.header.specs.Header.{places_most, cell_bytes, plane_cells}
use Rattle.header.specs.Workings.{cells_most, plane_cells_most}
use Rattle.order.specs.CardOrder.{cells_before}
use Rattle.header.proofs.Cells.{size-there, cells-there}
use Rattle.header.proofs.WellFormed.{WellFormed, right-yes, layers-few, few-planes}
use Rattle.header.proofs.Total.{plane-room, plane-most}
use Rattle.packing.specs.Planes.{all_held}
use Rattle.loading.specs.InBytes.{bit_at, fine, coefs_plus}
use Rattle.loading.specs.Workings.Calls.{done}
use Rattle.loading.proofs.WordSums.{fine-is}
use Rattle.loading.proofs.Loads.{loadable-right, loadable-here, loadable-full, before-is, add-cut, add-unheld, add-bad, add-fine}
use Rattle.layers.proofs.Answers.{full-long}
use Rattle.order.proofs.Slots.{cells-few}
use Rattle.loading.proofs.refining.add_named.Statement.{statement}
use Rattle.loading.proofs.refining.add_named.Tie as tie

abbrev S : tie.After-cells_before → tie.Start
S c = c.before.before.before.before.before

abbrev Qs : tie.Start → List ℤ
Qs s = s.args.coefficients.now

abbrev Bs : tie.Start → List ℕ
Bs s = s.args.bytes.now

right : (s : tie.Start) → WellFormed s.args.header
right s = right-yes s.args.header (loadable-right (Qs s) (Bs s) s.args.header s.args.at s.requires.0)

here : (s : tie.Start) → s.args.at ≤ length (Bs s)
here s = loadable-here (Qs s) (Bs s) s.args.header s.args.at s.requires.0

long : (s : tie.Start) → length (Qs s) ≡ points s.args.header.shape
long s = full-long s.args.header.shape (Qs s) (loadable-full (Qs s) (Bs s) s.args.header s.args.at s.requires.0)

layer-low : (s : tie.Start) → s.args.layer < layers_most
layer-low s = omega (arith, s.requires.1, layers-few (right s))

place-low : (s : tie.Start) → s.args.p < places_most
place-low s = omega (arith, s.requires.2, few-planes (right s) s.args.layer s.requires.1)

-- what the calls answer: where the plane stands, and its cells
before_at : (c : tie.After-cells_before) → (let s = S c in c.cells_before.result ≡ cells_before s.args.header s.args.layer s.args.p)
before_at c =
    let s = S c in
    let r = loadable-right (Qs s) (Bs s) s.args.header s.args.at s.requires.0 in
    c.cells_before.ensures ∙ before-is s.args.header s.args.layer s.args.p r s.requires.1 s.requires.2

before-few : (c : tie.After-cells_before) → c.cells_before.result ≤ cells_most
before-few c = let s = S c in omega (arith, before_at c, cells-few s.args.header (few-planes (right s)) (right s).shape s.args.layer s.args.p)

from_is : (c : tie.After-cells_before) → (let s = S c in s.args.at + cell_bytes * c.cells_before.result ≡ s.args.at + cell_bytes * cells_before s.args.header s.args.layer s.args.p)
from_is c = let s = S c in ap (λ (n : ℕ). s.args.at + cell_bytes * n) (before_at c)

cells : (c : tie.After-cells_before) → (let s = S c in c.before.plane_cells-cells.result ≡ plane_cells s.args.header.shape s.args.layer)
cells c =
    let s = S c in
    c.before.plane_cells-cells.ensures ∙ cells-there s.args.header.shape (right s).shape s.args.layer s.requires.1

cells-most : (c : tie.After-cells_before) → c.before.plane_cells-cells.result ≤ plane_cells_most
cells-most c = let s = S c in omega (arith, cells c, plane-most s.args.header.shape (right s).shape s.args.layer)

-- past the first test it is whole, past the second the coefficients are held
whole : (e : tie.Else-bytes-from) → (let s = S e.before in cell_bytes * (cells_before s.args.header s.args.layer s.args.p + plane_cells s.args.header.shape s.args.layer) ≤ length (Bs s) - s.args.at)
whole e = let z = e.before in omega (arith, e.if-bytes-from.false, before_at z, cells z, here (S z))

abbrev E : tie.Else-not-all_held → tie.Else-bytes-from
E d = d.before.before

held : (d : tie.Else-not-all_held) → all_held (Qs (S (E d).before)) ≡ true
held d = sym d.before.all_held.ensures ∙ d.if-not-all_held.false

abbrev Z : tie.After-layer_size-n → tie.After-cells_before
Z c = (E c.before).before

size : (c : tie.After-layer_size-n) → (let s = S (Z c) in c.layer_size-n.result ≡ layer_size s.args.header.shape s.args.layer)
size c =
    let s = S (Z c) in
    c.layer_size-n.ensures ∙ size-there s.args.header.shape (right s).shape s.args.layer s.requires.1

fine-here : (f : tie.After-is_fine) → (let s = S (Z f.before) in fine s.args.header s.args.at (Bs s) s.args.layer s.args.p ≡ f.is_fine.result)
fine-here f =
    let z = Z f.before in
    let s = S z in
    fine-is s.args.header s.args.at (Bs s) (λ _. 0) s.args.layer s.args.p f.is_fine.result
    (s.args.at + cell_bytes * z.cells_before.result)
    f.before.layer_size-n.result
    z.before.plane_cells-cells.result
    (from_is z)
    (size f.before)
    (cells z)
    f.is_fine.ensures

plane-cells-requires : tie.Need-plane_cells-cells-requires
plane-cells-requires c κs = search rules

cells-before-requires : tie.Need-cells_before-requires
cells-before-requires c κs = search rules

mul-from : tie.Need-overflow_mul-from
mul-from c = omega (arith, before-few c)

add-from : tie.Need-overflow_add-from
add-from c = omega (arith, before-few c, here (S c), (S c).well_formed)

mul-if1 : tie.Need-overflow_mul-cells
mul-if1 c = omega (arith, cells-most c)

add-if1 : tie.Need-overflow_add-from-2
add-if1 c = omega (arith, before-few c, cells-most c, here (S c), (S c).well_formed)

returns : tie.Need-returns-then-bytes-from
returns c =
    let z = c.before in
    let s = S z in
    add-cut (Qs s) (Bs s) s.args.header s.args.at s.args.layer s.args.p s.requires.0 s.requires.1 s.requires.2
    (omega (arith, c.if-bytes-from.true, before_at z, cells z, here s))

all-held-requires : tie.Need-all_held-requires
all-held-requires c κs =
    let s = S c.before in
    omega (arith, long s, (accepted-yes s.args.header.shape (right s).shape).small)

same_length : tie.Need-shape_of-coefficients-then-not-all_held
same_length c = search rules

returns-2 : tie.Need-returns-then-not-all_held
returns-2 c =
    let e = c.before.before in
    let s = S e.before in
    add-unheld (Qs s) (Bs s) s.args.header s.args.at s.args.layer s.args.p s.requires.0 s.requires.1 s.requires.2 (whole e)
    (sym c.before.all_held.ensures ∙ c.if-not-all_held.true)

layer-size-requires : tie.Need-layer_size-n-requires
layer-size-requires c κs = search rules

add-is-fine : tie.Need-overflow_add-p
add-is-fine c = omega (arith, place-low (S (Z c)))

mul-is-fine : tie.Need-offset_bounds-counts-layer
mul-is-fine c = omega (arith, layer-low (S (Z c)))

array-read-is-fine : tie.Need-bounds-counts-layer
array-read-is-fine c = layer-low (S (Z c))

is-fine-requires : tie.Need-is_fine-requires
is-fine-requires c κs =
    let z = Z c in
    let s = S z in (
      omega (arith, size c, cells z, plane-room s.args.header.shape s.args.layer),
      omega (arith, cells-most z),
      omega (arith, (E c.before).if-bytes-from.false),
    )

same-length-2 : tie.Need-shape_of-coefficients-then-not-is_fine
same-length-2 c = search rules

returns-3 : tie.Need-returns-then-not-is_fine
returns-3 c =
    let f = c.before in
    let d = f.before.before in
    let s = S (Z f.before) in
    add-bad (Qs s) (Bs s) s.args.header s.args.at s.args.layer s.args.p s.requires.0 s.requires.1 s.requires.2 (whole (E d)) (held d)
    (fine-here f ∙ c.if-not-is_fine.true)

add-digits-requires : tie.Need-add_digits-requires
add-digits-requires c κs =
    let f = c.before.before in
    let d = f.before.before in
    let z = Z f.before in
    let s = S z in (
      ((right s).shape, s.requires.1, place-low s),
      (
        long s,
        held d,
        omega (arith, (E d).if-bytes-from.false, cells z),
      ),
    )

same-length-3 : tie.Need-shape_of-coefficients
same-length-3 c = search rules

returns-4 : tie.Need-returns
returns-4 c =
    let a = c.before in
    let g = a.before.before in
    let f = g.before in
    let d = f.before.before in
    let z = Z f.before in
    let s = S z in
    let sh = s.args.header.shape in
    ap done (a.add_digits.ensures ∙ ap (λ (x : ℕ). coefs_plus sh s.args.layer s.args.p (bit_at (Bs s) x) (Qs s)) (from_is z))
    ∙ add-fine (Qs s) (Bs s) s.args.header s.args.at s.args.layer s.args.p s.requires.0 s.requires.1 s.requires.2 (whole (E d)) (held d)
    (fine-here f ∙ g.if-not-is_fine.false)

pub add_named_spec : {M : Type 1} → statement M
add_named_spec =
    tie.close
    (tie.spec
    plane-cells-requires
    cells-before-requires
    mul-from
    add-from
    mul-if1
    add-if1
    returns
    all-held-requires
    same_length
    returns-2
    layer-size-requires
    add-is-fine
    mul-is-fine
    array-read-is-fine
    is-fine-requires
    same-length-2
    returns-3
    add-digits-requires
    same-length-3
    returns-4)
