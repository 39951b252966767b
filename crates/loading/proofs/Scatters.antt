-- Numbers put at given places of a list, one after another: a put keeps the others where no place comes twice, so a run behind another is one longer run. Lines of a layer are such runs, and at the end the list is the one made at once.
use mathlib.Core.Path.{◌≡◌, refl, sym, ap, ◌∙◌, subst}
use mathlib.Core.Bool.{true, cond, true≢false}
use mathlib.Core.List.{List}
use Prim.Native.Nat.{ℕ, ◌+◌, ◌-◌, ◌*◌, ◌<◌, ◌≤◌}
use native.Mathlib.Nat.{mul-le-mul_right}
use native.Mathlib.Decide.{dec_lt}
use native.Mathlib.Omega.{arith}
use borrow.Author.Count.{below_none, below_more}
use lib.IntN.{ℤ, pos}
use lib.ListN.{length, set, length-set}
use lib.Seq.{ext_get_or, get_or-set_same, get_or-set_other}
use Rattle.integers.proofs.Bools.{by}
use Rattle.sheet.specs.declared.Shape.{Shape}
use Rattle.sheet.specs.declared.Lines.{Lines}
use Rattle.sheet.specs.Lists.{at, tabulate}
use Rattle.sheet.specs.Sheet.{points, in_layer, layer_size, point_of, place_in}
use Rattle.sheet.specs.Workings.Lines.{start_in, Lined}
use Rattle.sheet.proofs.Lists.{length-tabulate, get_or-tabulate}
use Rattle.sheet.proofs.Places.{point-in, place-point, place-in, point-place}
use Rattle.sheet.proofs.LinePoints.{line-room}
use Rattle.loading.specs.Workings.Words.{Scattered}

module _ (place : ℕ → ℕ) (f : ℕ → ℤ) {l : List ℤ} where
  pub scattered-none : Scattered place 0 f l l
  scattered-none = record { same = refl; done = below_none _; kept = λ p no. refl }

  -- one more
  pub scattered-more : {m : ℕ} {l' : List ℤ} (v : ℤ) → ((j : ℕ) → j < m → place j ≡ place m → ⊥) → place m < length l → v ≡ f m
      → Scattered place m f l l' → Scattered place (m + 1) f l (set l' (place m) v)
  scattered-more {m} {l'} v new h e s =
      record {
        same = length-set l' (place m) v ∙ s.same;
        done = below_more (λ (j : ℕ). at (set l' (place m) v) (place j) ≡ f j) m
            (λ j k. get_or-set_other l' (place m) (place j) v (pos 0) (new j k) ∙ s.done j k)
            (get_or-set_same l' (place m) v (pos 0) (omega (arith, s.same)) ∙ e);
        kept = λ p no. get_or-set_other l' (place m) p v (pos 0) (λ q. no m (omega arith) (sym q)) ∙ s.kept p (λ j k. no j (omega arith));
      }

  -- a run behind another
  pub scattered-then : {m n : ℕ} {l' l'' : List ℤ} {place' : ℕ → ℕ} {f' : ℕ → ℤ} → ((i j : ℕ) → i < m → j < n → place i ≡ place (m + j) → ⊥)
      → ((j : ℕ) → j < n → place (m + j) ≡ place' j) → ((j : ℕ) → j < n → f' j ≡ f (m + j))
      → Scattered place m f l l' → Scattered place' n f' l' l'' → Scattered place (m + n) f l l''
  scattered-then {m} {n} {l'} {l''} {place'} {f'} new where_to what s t =
      record {
        same = t.same ∙ s.same;
        done = λ i h.
            elim (dec_lt i m) [
              | yes lt ↦ t.kept (place i) (λ j k e. new i j lt k (sym e ∙ sym (where_to j k))) ∙ s.done i lt
              | no ge ↦
                  let j = i - m in
                  let k : j < n = omega arith in
                  let e : m + j ≡ i = omega arith in
                  subst (λ (x : ℕ). at l'' (place x) ≡ f x) e (ap (at l'') (where_to j k) ∙ t.done j k ∙ what j k)
            ];
        kept = λ p no. t.kept p (λ j k e. no (m + j) (omega arith) (where_to j k ∙ e)) ∙ s.kept p (λ j k. no j (omega arith));
      }

-- no place comes twice: on a line, and among a layer's points
pub line-new : (first stride : ℕ) → 0 < stride → (i j : ℕ) → i < j → first + i * stride ≡ first + j * stride → ⊥
line-new first stride h i j k e = omega (arith, mul-le-mul_right stride k)

module _ (sh : Shape) (k : ℕ) where
  point-new : (i j : ℕ) → i < layer_size sh k → j < layer_size sh k → point_of sh k i ≡ point_of sh k j → i ≡ j
  point-new i j h h' e = sym (place-point sh k i h) ∙ ap (place_in sh k) e ∙ place-point sh k j h'

  -- so the points of a line stand apart
  pub line-apart : {n : Lines} → Lined sh k n → (t : ℕ) → t < n.sheets * n.lines → 1 < n.points → 0 < n.stride
  line-apart {n} d t ht h =
      let m = t * n.points in
      let room = line-room d t ht in
      elim (dec_lt 0 n.stride) [
        | yes lt ↦ lt
        | no ge ↦
            let e : point_of sh k (m + 0) ≡ point_of sh k (m + 1) = omega (arith, d.point t 0 ht (omega arith), d.point t 1 ht h) in
            absurd (let z : ⊥ = omega (arith, point-new (m + 0) (m + 1) (omega arith) (omega arith) e) in z)
      ]

  module _ (f : ℕ → ℤ) {l l' : List ℤ} where
    -- a point whose turn has not come
    pub scattered-ahead : {m : ℕ} → Scattered (point_of sh k) m f l l' → (i : ℕ) → m ≤ i → i < layer_size sh k → at l' (point_of sh k i) ≡ at l (point_of sh k i)
    scattered-ahead s i h h' = s.kept (point_of sh k i) (λ j lt e. omega (arith, point-new j i (omega arith) h' e))

    -- a line more
    pub scattered-line : {n : Lines} → Lined sh k n → {l'' : List ℤ} {f' : ℕ → ℤ} (t : ℕ) → t < n.sheets * n.lines → {first : ℕ} → first ≡ start_in n t → ((j : ℕ) → j < n.points → f' j ≡ f (t * n.points + j))
        → Scattered (point_of sh k) (t * n.points) f l l' → Scattered (λ j. first + j * n.stride) n.points f' l' l''
        → Scattered (point_of sh k) ((t + 1) * n.points) f l l''
    scattered-line {n} d {l''} t ht starts what s s' =
        let m = t * n.points in
        let room = line-room d t ht in
        let e : m + n.points ≡ (t + 1) * n.points = omega arith in
        subst (λ (x : ℕ). Scattered (point_of sh k) x f l l'') e
        (scattered-then (point_of sh k) f (λ i j h h' q. omega (arith, point-new i (m + j) (omega arith) (omega arith) q)) (λ j h. d.point t j ht h ∙ ap (λ (x : ℕ). x + j * n.stride) (sym starts)) what s s')

    -- all of the layer
    pub scattered-all : {m : ℕ} (g : ℕ → ℤ) → m ≡ layer_size sh k → length l ≡ points sh → ((p : ℕ) → p < points sh → in_layer sh k p ≡ true → f (place_in sh k p) ≡ g p)
        → Scattered (point_of sh k) m f l l' → l' ≡ tabulate (length l) (λ p. cond (in_layer sh k p) (g p) (at l p))
    scattered-all {m} g e long is s =
        ext_get_or (pos 0) l' (tabulate (length l) new) (s.same ∙ sym (length-tabulate (length l) new))
        (λ p h.
        let hp : p < points sh = omega (arith, s.same, long) in
        by (in_layer sh k p)
        (λ y.
        let i = place_in sh k p in
        ap (at l') (sym (point-place sh k p hp y)) ∙ s.done i (omega (arith, place-in sh k p hp y)) ∙ is p hp y ∙ sym (get_or-tabulate (length l) new p (pos 0) (omega (arith, s.same)) ∙ rw y))
        (λ y.
        s.kept p (λ j lt q. true≢false (sym (point-in sh k j (omega arith)) ∙ ap (in_layer sh k) q ∙ y)) ∙ sym (get_or-tabulate (length l) new p (pos 0) (omega (arith, s.same)) ∙ rw y)))
      where
        new : ℕ → ℤ
        new p = cond (in_layer sh k p) (g p) (at l p)
