-- What `well_formed` says of a header, as facts on naturals: its tests one by one, both ways.
use mathlib.Core.Bool.{Bool, true, not, ◌&&◌}
use mathlib.Core.List.{List}
use mathlib.Core.Path.{◌≡◌}
use Prim.Native.Nat.{ℕ, ◌<◌, ◌≤◌}
use native.Mathlib.Decide.{dec_lt}
use native.Mathlib.Omega.{arith}
use borrow.Author.Tests.{leb-true, le-leb, eqb-true, eqb-false, eq-eqb, ne_eqb, ltb-true, ltb-false, lt-ltb, le-ltb}
use lib.Dec.{ltb, leb, eqb}
use lib.ListN.{length, get_or, get_or-eq_default}
use Rattle.sheet.specs.declared.Shape.{Shape}
use Rattle.sheet.specs.Limits.{layers_most, step_most}
use Rattle.sheet.specs.Sheet.{accepted, layers, layer_size}
use Rattle.integers.specs.Floor.{ceil_div}
use Rattle.sheet.specs.Lists.{tabulate}
use Rattle.sheet.proofs.Accepting as A
use Rattle.sheet.proofs.Accepting.{accepted-yes}
use Rattle.sheet.proofs.Lists.{tabulate-same}
use Rattle.integers.proofs.Bools.{and_left, and_right, and_both, by, choice}
use Rattle.header.specs.declared.Header.{Header}
use Rattle.header.specs.Header.{places_most, planes_of, plane_cells, cells_of}
use Rattle.std.specs.Prelude.{is_none}
use Rattle.header.specs.Workings.{cells_at, spans_of, most_by, limits_by, place_in}
use Rattle.header.specs.Plan.{first_over}
use Rattle.header.specs.Opening.{counts_fit, well_formed, planes_most}
use Rattle.header.proofs.Cells.{cells-there, cells-past, span-listed}
use Rattle.header.proofs.Over.{none_over, over_none, over-le, over-listed}

-- ---- the most planes of a layer
module _ (sh : Shape) (k : ℕ) where
  pub most-le : planes_most sh k ≤ places_most
  unfolding planes_most
  most-le = choice (λ (n : ℕ). n ≤ places_most) (ltb k (layers sh) && not (eqb (layer_size sh k) 0)) (λ t. omega arith) (λ t. omega arith)

  pub most-past : layers sh ≤ k → planes_most sh k ≡ 0
  unfolding planes_most
  most-past h = rw (le-ltb k (layers sh) h)

  pub most-empty : layer_size sh k ≡ 0 → planes_most sh k ≡ 0
  unfolding planes_most
  most-empty e = by (ltb k (layers sh)) (λ t. rw (t, e)) (λ t. rw t)

  pub most-some : k < layers sh → (layer_size sh k ≡ 0 → ⊥) → planes_most sh k ≡ places_most
  unfolding planes_most
  most-some h n = rw (lt-ltb k (layers sh) h, ne_eqb (layer_size sh k) 0 n)

  -- by the cells of a plane, which has none where the layer is empty or not there
  pub most-by : accepted sh ≡ true → planes_most sh k ≡ most_by (cells_at sh k)
  unfolding planes_most most_by
  most-by ok =
      by (ltb k (layers sh))
      (λ t.
      let there = cells-there sh ok k (ltb-true k (layers sh) t) in
      by (eqb (layer_size sh k) 0)
      (λ e. let z : cells_at sh k ≡ 0 = unfold plane_cells ceil_div in (omega (arith, there, eqb-true (layer_size sh k) 0 e)) in rw (t, e, z))
      (λ n. rw (t, n, ne_eqb (cells_at sh k) 0 (λ z. eqb-false (layer_size sh k) 0 n (unfold plane_cells ceil_div in (omega (arith, there)))))))
      (λ t. rw (t, cells-past sh ok k (ltb-false k (layers sh) t)))

pub limits-by : (sh : Shape) → accepted sh ≡ true → limits_by (spans_of sh) ≡ tabulate layers_most (planes_most sh)
unfolding limits_by
limits-by sh ok = tabulate-same layers_most _ _ (λ k l. rw (span-listed sh k l, most-by sh k ok))

-- the counts that are over no limit, as the code finds them
module _ (sh : Shape) (planes : List ℕ) (ok : accepted sh ≡ true) where
  pub fits_by : is_none (place_in layers_most (first_over (λ k. get_or (limits_by (spans_of sh)) k 0) (λ k. get_or planes k 0))) ≡ counts_fit sh planes
  unfolding counts_fit
  fits_by =
      let n : ℕ = first_over (planes_most sh) (λ k. get_or planes k 0) in
      rw (ok, limits-by sh ok, over-listed (planes_most sh) (λ k. get_or planes k 0))
      (by (ltb n layers_most)
      (λ t. rw (t, ne_eqb n layers_most (λ e. omega (arith, ltb-true n layers_most t))))
      (λ t. rw (t, eq-eqb n layers_most (omega (arith, ltb-false n layers_most t, over-le (planes_most sh) (λ k. get_or planes k 0))))))

-- ---- right counts
pub record CountsFit (sh : Shape) (planes : List ℕ) : Type 0 where
  pub shape : accepted sh ≡ true
  pub counts : (k : ℕ) → k < layers_most → get_or planes k 0 ≤ planes_most sh k

module _ (sh : Shape) (planes : List ℕ) where
  abbrev none : Bool
  none = eqb (first_over (planes_most sh) (λ k. get_or planes k 0)) layers_most

  pub counts-yes : counts_fit sh planes ≡ true → CountsFit sh planes
  unfolding counts_fit
  counts-yes e =
      record { shape = and_left (accepted sh) none e; counts = over_none (planes_most sh) (λ k. get_or planes k 0) (eqb-true _ _ (and_right (accepted sh) none e)) }

  pub counts-by : CountsFit sh planes → counts_fit sh planes ≡ true
  unfolding counts_fit
  counts-by r = and_both (accepted sh) none r.shape (eq-eqb _ _ (none_over (planes_most sh) (λ k. get_or planes k 0) r.counts))

  -- where there is a count for each layer there may be and no more, so at every place
  pub all-few : length planes ≡ layers_most → ((k : ℕ) → k < layers_most → get_or planes k 0 ≤ planes_most sh k) → (k : ℕ) → get_or planes k 0 ≤ places_most
  all-few long few k =
      elim (dec_lt k layers_most) [
        | yes l ↦ omega (arith, few k l, most-le sh k)
        | no l ↦ omega (arith, get_or-eq_default planes 0 {n = k} (omega arith))
      ]

-- ---- a right header
pub record WellFormed (h : Header) : Type 0 where
  pub shape : accepted h.shape ≡ true
  pub step : h.step ≤ step_most
  pub counts : (k : ℕ) → k < layers_most → planes_of h k ≤ planes_most h.shape k
  pub cells : h.cells ≡ cells_of h.shape h.planes

module _ (h : Header) where
  abbrev small : Bool
  small = leb h.step step_most

  abbrev counted : Bool
  counted = counts_fit h.shape h.planes

  abbrev total : Bool
  total = eqb h.cells (cells_of h.shape h.planes)

  pub right-yes : well_formed h ≡ true → WellFormed h
  unfolding well_formed
  right-yes e =
      let rest = and_right small (counted && total) e in
      let c = counts-yes h.shape h.planes (and_left counted total rest) in
      record {
        shape = c.shape;
        step = leb-true h.step step_most (and_left small (counted && total) e);
        counts = c.counts;
        cells = eqb-true _ _ (and_right counted total rest);
      }

  pub right_by : WellFormed h → well_formed h ≡ true
  unfolding well_formed
  right_by r =
      and_both small (counted && total) (le-leb h.step step_most r.step)
      (and_both counted total (counts-by h.shape h.planes (record { shape = r.shape; counts = r.counts })) (eq-eqb _ _ r.cells))

-- ---- what follows
module _ {h : Header} (r : WellFormed h) where
  -- there is no line for a depth before stacks come, and no shape of another depth is accepted
  pub one-sheet : h.shape.depth ≡ 1
  one-sheet = let s = accepted-yes h.shape r.shape in omega (arith, s.thick, s.flat)

  pub layers-few : layers h.shape ≤ layers_most
  layers-few = A.layers-few h.shape (accepted-yes h.shape r.shape)

  pub counts-few : (k : ℕ) → k < layers_most → planes_of h k ≤ places_most
  counts-few k l = omega (arith, r.counts k l, most-le h.shape k)

  pub few-planes : (k : ℕ) → k < layers h.shape → planes_of h k ≤ places_most
  few-planes k l = counts-few k (omega (arith, layers-few))

  -- 0 past the last
  pub counts_past : (k : ℕ) → layers h.shape ≤ k → k < layers_most → planes_of h k ≡ 0
  counts_past k p l = omega (arith, r.counts k l, most-past h.shape k p)

  -- an empty layer has no planes
  pub counts-empty : (k : ℕ) → k < layers_most → layer_size h.shape k ≡ 0 → planes_of h k ≡ 0
  counts-empty k l e = omega (arith, r.counts k l, most-empty h.shape k e)
