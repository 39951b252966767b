-- A turn adds the next layer's product, and each product is at most so many cells that all of them fit.
use Rattle.std.proofs.Common.{rules, ◌≡◌, ℕ, ◌+◌, ◌*◌, ◌^◌, ◌<◌, ◌≤◌, ◌∷◌, [], List, length, get_or, refl, ap, ◌∙◌, arith, add-one, length-append}
use native.Mathlib.Nat.{mul-le-mul}
use Rattle.std.proofs.lemmas.Slice.Zip.{zip_turn, zip_end}
use Rattle.sheet.specs.Limits.{layers_most}
use Rattle.sheet.specs.Lists.{total}
use Rattle.header.specs.Header.{places_most}
use Rattle.header.specs.Workings.{plane_cells_most, cells_by}
use Rattle.header.proofs.Totals.{total-suc, total-most}
use Rattle.header.proofs.planes.cells_of.Goals as goal

abbrev product : List ℕ → List ℕ → ℕ → ℕ
product spans planes k = get_or spans k 0 * get_or planes k 0

more : (spans planes : List ℕ) (n m sum span count : ℕ) → m ≡ n + 1 → sum ≡ total (product spans planes) n → span ≡ get_or spans n 0 → count ≡ get_or planes n 0
    → sum + span * count ≡ total (product spans planes) m
more spans planes n m sum span count one s e f = rw (one, add-one n, e, f) (omega (arith, total-suc (product spans planes) n))

fits : (spans planes : List ℕ) (n sum span count : ℕ) → ((k : ℕ) → (get_or spans k 0 ≤ plane_cells_most) × (get_or planes k 0 ≤ places_most)) → n < layers_most
    → sum ≡ total (product spans planes) n → span ≡ get_or spans n 0 → count ≡ get_or planes n 0 → sum + span * count < 2 ^ 64
fits spans planes n sum span count few l s e f =
    let small : (k : ℕ) → product spans planes k ≤ plane_cells_most * places_most = λ k. mul-le-mul (few k).0 (few k).1 in
    rw (e, f) (omega (arith, small n, total-most (product spans planes) (plane_cells_most * places_most) n (λ k _. small k)))

pub loop-span-init : goal.loop-span-init
unfolding total
loop-span-init c = refl

pub overflow_add-cells : goal.overflow_add-cells
overflow_add-cells c =
    let t = zip_turn c.args.spans c.args.planes c.loop-span.yielded c.into_iter-span-iterator.result c.loop-span.span-iterator c.next.new.self c.next.result (search rules) (search rules) c.loop-span.yielded_by _ c.in-Some.is c.next.ensures.steps in
    let long : length c.args.spans ≡ layers_most = search rules in
    omega (arith, fits c.args.spans c.args.planes (length c.loop-span.yielded) c.loop-span.cells c.in-Some.span.now c.in-Some.count.now c.requires (omega (arith, t.0)) c.loop-span.invariant (t.2 0) (t.3 0))

pub loop-span-preserved : goal.loop-span-preserved
loop-span-preserved c =
    let t = zip_turn c.args.spans c.args.planes c.loop-span.yielded c.into_iter-span-iterator.result c.loop-span.span-iterator c.next.new.self c.next.result (search rules) (search rules) c.loop-span.yielded_by _ c.in-Some.is c.next.ensures.steps in
    more c.args.spans c.args.planes (length c.loop-span.yielded) _ _ _ _ (length-append c.loop-span.yielded ((c.in-Some.span, c.in-Some.count) ∷ [])) c.loop-span.invariant (t.2 0) (t.3 0)

pub returns : goal.returns
unfolding cells_by
returns c =
    let t = zip_end c.args.spans c.args.planes c.loop-span.yielded c.into_iter-span-iterator.result c.loop-span.span-iterator c.next.new.self c.next.result (search rules) (search rules) c.loop-span.yielded_by c.in-None.is c.next.ensures.steps in
    let long : length c.args.spans ≡ layers_most = search rules in
    let as_long : length c.args.planes ≡ layers_most = search rules in
    c.loop-span.invariant ∙ ap (total (product c.args.spans c.args.planes)) (t ∙ omega arith)
