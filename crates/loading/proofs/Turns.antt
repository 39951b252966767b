-- A walk in card order. At layer k of a place: its numbers by the lists, the cells up to the end of its plane, and whether the plane is fine. At a place: its slots come behind those of the places before.
use mathlib.Core.Path.{◌≡◌, sym, ap, ap₂, ◌∙◌}
use mathlib.Core.Bool.{Bool, true, false, cond, not}
use mathlib.Core.List.{List}
use Prim.Native.Nat.{ℕ, suc, ◌+◌, ◌-◌, ◌*◌, ◌<◌, ◌≤◌}
use native.Mathlib.Decide.{dec_lt}
use native.Mathlib.Omega.{arith}
use lib.Dec.{ltb, eqb}
use Rattle.std.specs.Prelude.{Err}
use lib.ListN.{get_or}
use Rattle.sheet.specs.declared.Shape.{Shape}
use Rattle.sheet.specs.Limits.{layers_most}
use Rattle.sheet.specs.Lists.{tabulate}
use Rattle.sheet.specs.Sheet.{layers, layer_size}
use Rattle.sheet.specs.Workings.Shapes.{size_at}
use Rattle.sheet.proofs.Lists.{get_or-tabulate}
use Rattle.header.specs.declared.Header.{Header}
use Rattle.header.specs.Header.{places_most, cell_bytes, cell_points, planes_of, plane_cells}
use Rattle.header.specs.Workings.{cells_most, cells_at, plane_cells_most, spans_of}
use Rattle.header.proofs.Total.{plane-room, plane-most}
use Rattle.header.proofs.Cells.{size-there, cells-there}
use Rattle.header.proofs.WellFormed.{WellFormed, right-yes, layers-few, few-planes}
use Rattle.order.specs.CardOrder.{cells_before}
use Rattle.order.specs.Workings.{slot_no}
use Rattle.order.proofs.CardOrder.{next_place}
use Rattle.order.proofs.Slots.{cells-next, cells-few}
use Rattle.loading.specs.InBytes.{bit_at, fine_bits, fine, loaded, bad_slot}
use Rattle.packing.specs.Workings.Words.{block_start, words_most}
use Rattle.packing.proofs.Blocks.{block_room}
use Rattle.header.specs.Opening.{well_formed}
use Rattle.sheet.specs.Workings.Shapes.{layer_count}
use Rattle.sheet.proofs.Accepting.{count-is}
use Rattle.loading.specs.Workings.Words.{loaded_as, FineBefore}
use Rattle.loading.specs.declared.BadLayer.{BadLayer}
use Rattle.loading.specs.declared.walking.Walk.{Walk}
use Rattle.loading.proofs.WordSums.{slot_asked, bad-is, fine-is}

-- ---- at layer k of place p, with n points in c cells, where `cells` cells stand before its plane
pub record Turn (h : Header) (k p cells n c : ℕ) : Type 0 where
  pub below : k < layers h.shape
  pub layer : k < layers_most
  pub size : n ≡ layer_size h.shape k
  pub span : c ≡ plane_cells h.shape k
  pub room : n ≤ cell_points * c
  pub narrow : c ≤ plane_cells_most
  pub before : cells ≡ cells_before h k p
  pub few : cells ≤ cells_most
  pub few-next : cells_before h (k + 1) p ≤ cells_most
  pub block : block_start h.shape k + cell_points * c ≤ words_most

turn : {h : Header} {sizes spans : List ℕ} {k p cells n : ℕ} → well_formed h ≡ true → sizes ≡ tabulate layers_most (size_at h.shape) → spans ≡ spans_of h.shape
    → n ≡ layer_count h.shape → k < n → cells ≡ cells_before h k p → Turn h k p cells (get_or sizes k 0) (get_or spans k 0)
turn {h} {sizes} {spans} {k} {p} {cells} w es ec en lt e =
    record {
      below = hk;
      layer = a-layer;
      size = size_is;
      span = span-is;
      room = omega (arith, size_is, span-is, plane-room sh k);
      narrow = omega (arith, span-is, plane-most sh r.shape k);
      before = e;
      few = omega (arith, cells-few h (few-planes r) r.shape k p);
      few-next = cells-few h (few-planes r) r.shape (k + 1) p;
      block = omega (arith, span-is, block_room sh r.shape k hk);
    }
  where
    sh : Shape
    sh = h.shape

    r : WellFormed h
    r = right-yes h w

    hk : k < layers sh
    hk = omega (arith, count-is sh r.shape)

    a-layer : k < layers_most
    a-layer = omega (arith, hk, layers-few r)

    size_is : get_or sizes k 0 ≡ layer_size sh k
    size_is = ap (λ (ns : List ℕ). get_or ns k 0) es ∙ get_or-tabulate layers_most (size_at sh) k 0 a-layer ∙ size-there sh r.shape k hk

    span-is : get_or spans k 0 ≡ plane_cells sh k
    span-is = ap (λ (ns : List ℕ). get_or ns k 0) ec ∙ get_or-tabulate layers_most (cells_at sh) k 0 a-layer ∙ cells-there sh r.shape k hk

-- where a walk comes to layer k of place p
pub here : (w : Walk) {k p cells n : ℕ} → n ≡ layer_count w.header.shape → k < n → cells ≡ cells_before w.header k p → Turn w.header k p cells (get_or w.sizes k 0) (get_or w.spans k 0)
here w en lt e = turn w.formed w.sizes_are w.spans_are en lt e

module _ {h : Header} {k p cells n c : ℕ} (t : Turn h k p cells n c) where
  -- where its plane stands
  pub from_is : (long : ℕ) → long + cell_bytes * cells ≡ long + cell_bytes * cells_before h k p
  from_is long = ap (λ (x : ℕ). long + cell_bytes * x) t.before

  -- the cells up to its end
  pub cells-on : (own : ℕ) → own ≡ cond (ltb p (planes_of h k)) c 0 → cells + own ≡ cells_before h (k + 1) p
  cells-on own e =
      ap₂ (λ (x y : ℕ). x + y) t.before (e ∙ ap (λ (x : ℕ). cond (ltb p (planes_of h k)) x 0) t.span) ∙ sym (cells-next h k p t.below)

  -- whether it is fine, where it is loaded
  pub slot-fine : (long : ℕ) (bs : List ℕ) (plan : ℕ → ℕ) → p < places_most → loaded h plan k p ≡ true → (b : Bool)
      → b ≡ fine_bits (bit_at bs (long + cell_bytes * cells)) n c (eqb (p + 1) (planes_of h k))
      → (fine h long bs k p ≡ b) × (bad_slot h long bs plan (slot_no h k p) ≡ not b)
  slot-fine long bs plan hp a b e =
      let f = fine-is h long bs plan k p b (long + cell_bytes * cells) n c (from_is long) t.size t.span e in
      (f, slot_asked h long bs plan k p t.below hp a ∙ ap not f)

-- ---- with n places to come, the next of them n - 1
module _ (h : Header) (n : ℕ) (m : 0 < n) where
  -- its slots come behind those passed
  pub slot-behind : n ≤ places_most → (k : ℕ) → slot_no h k (n - 1) ≡ (places_most - n) * layers h.shape + k
  slot-behind l k = let e : places_most - 1 - (n - 1) ≡ places_most - n = omega arith in ap (λ (x : ℕ). x * layers h.shape + k) e

  -- they end where the slots of the place after it begin
  pub slots-on : n ≤ places_most → slot_no h (layers h.shape) (n - 1) ≡ (places_most - (n - 1)) * layers h.shape
  slots-on l = let e : places_most - (n - 1) ≡ places_most - n + 1 = omega arith in slot-behind l (layers h.shape) ∙ rw e (omega arith)

  -- and the cells up to its end are those before that place
  pub cells-down : 0 < n - 1 → cells_before h (layers h.shape) (n - 1) ≡ cells_before h 0 (n - 1 - 1)
  cells-down l =
      let down : n - 1 ≡ suc (n - 1 - 1) = omega arith in
      ap (cells_before h (layers h.shape)) down ∙ sym (next_place h (n - 1 - 1))

module _ (h : Header) (long : ℕ) (bs : List ℕ) (plan : ℕ → ℕ) where
  -- no slot before slot t is bad
  abbrev pub FineUpTo : ℕ → Type 0
  FineUpTo t = (u : ℕ) → u < t → bad_slot h long bs plan u ≡ false

  module _ (n : ℕ) (m : 0 < n) (l : n ≤ places_most) (f : FineUpTo ((places_most - n) * layers h.shape)) where
    -- up to the plane of layer k no slot is bad, where no layer before it has a bad one
    fine-up-to : (k : ℕ) → FineBefore h long bs plan k (n - 1) → FineUpTo ((places_most - n) * layers h.shape + k)
    fine-up-to k g u a =
        elim (dec_lt u ((places_most - n) * layers h.shape)) [
          | yes b ↦ f u b
          | no b ↦
              let j = u - (places_most - n) * layers h.shape in
              let e : (places_most - n) * layers h.shape + j ≡ u = omega arith in
              ap (bad_slot h long bs plan) (sym e ∙ sym (slot-behind h n m l j)) ∙ g j (omega arith)
        ]

    pub fine-on : FineBefore h long bs plan (layers h.shape) (n - 1) → FineUpTo ((places_most - (n - 1)) * layers h.shape)
    fine-on g u a = fine-up-to (layers h.shape) g u (omega (arith, slot-behind h n m l (layers h.shape), slots-on h n m l))

    -- the first bad plane of the next place is the first of all
    pub bad-first : (b : BadLayer) → b.0 < layers h.shape → bad_slot h long bs plan (slot_no h b.0 (n - 1)) ≡ true → FineBefore h long bs plan b.0 (n - 1)
        → loaded_as h long bs plan ≡ Err b
    bad-first b lt e g = bad-is h long bs plan b (n - 1) lt (omega arith) e (λ u a. fine-up-to b.0 g u (omega (arith, slot-behind h n m l b.0)))
