-- Loading, by what each test answers: behind the tests a plan within the whole planes loads planes that are in the bytes; planes that are not fine are refused, and fine ones give the coefficients of the words.
use mathlib.Core.Bool.{Bool, true, false, ◌&&◌}
use mathlib.Core.List.{List}
use mathlib.Core.Path.{◌≡◌, sym, ap, subst, ◌∙◌}
use Prim.Native.Nat.{ℕ, ◌+◌, ◌*◌, ◌-◌, ◌<◌, ◌≤◌}
use native.Mathlib.Omega.{arith}
use borrow.Author.Tests.{lt-ltb, le-ltb, ltb-true, ltb-false, le-leb, lt-leb, leb-true}
use lib.Dec.{ltb, leb}
use Rattle.std.specs.Prelude.{Some, None, Result, Ok, Err}
use Rattle.header.specs.Workings.{place_in}
use lib.IntN.{ℤ}
use lib.ListN.{length}
use Rattle.integers.proofs.Bools.{by, and_left, and_right, and-no-left, and-no-right}
use Rattle.sheet.specs.declared.Shape.{Shape}
use Rattle.layers.specs.Samples.{full}
use Rattle.sheet.specs.Limits.{layers_most}
use Rattle.sheet.specs.Sheet.{points, layers}
use Rattle.sheet.proofs.Lists.{length-tabulate}
use Rattle.header.specs.declared.Header.{Header}
use Rattle.header.specs.declared.Plan.{Plan}
use Rattle.header.specs.Refusals.{refusal}
use Rattle.header.specs.Header.{cell_bytes, planes_of, plane_cells}
use Rattle.header.specs.Plan.{loads, first_over}
use Rattle.header.specs.Opening.{well_formed}
use Rattle.order.specs.CardOrder.{slots, cells_before, is_whole, whole, whole_plan}
use Rattle.order.specs.Workings.{cells_before_in, whole_in}
use Rattle.header.proofs.Over.{over_none, none_over, over-le}
use Rattle.header.proofs.WellFormed.{right-yes, layers-few}
use Rattle.order.proofs.Whole.{whole-fits, fits_whole, whole-most, counted-whole}
use Rattle.packing.specs.Planes.{all_held}
use Rattle.loading.specs.InBytes.{fine, first_bad, coefs_read, coefs_plus, coefs_with}
use Rattle.loading.specs.declared.BadLayer.{BadLayer}
use Rattle.loading.specs.Workings.Words.{AllThere, loaded_as}
use Rattle.loading.specs.Workings.Calls.{Loading, not_loaded, done, loadable, loading_whole, loading, all_whole, whole_loaded, there, adding}
use Rattle.loading.proofs.LayerPlanes.{whole-at, loaded-yes}

pub coefs-long : (h : Header) (long : ℕ) (bs : List ℕ) (plan : ℕ → ℕ) → length (coefs_read h long bs plan) ≡ points h.shape
unfolding coefs_read
coefs-long h long bs plan = length-tabulate (points h.shape) _

-- adding digits keeps the length
pub plus-long : (sh : Shape) (k p : ℕ) (digit : ℕ → ℕ) (qs : List ℤ) → length (coefs_plus sh k p digit qs) ≡ length qs
unfolding coefs_plus
plus-long sh k p digit qs = length-tabulate _ _

-- ---- the tests of a call
module _ (qs : List ℤ) (bs : List ℕ) (h : Header) (long : ℕ) where
  abbrev room : Bool
  room = leb long (length bs)

  abbrev filled : Bool
  filled = full h.shape qs

  pub loadable-right : loadable qs bs h long ≡ true → well_formed h ≡ true
  unfolding loadable
  loadable-right y = and_left (well_formed h) (room && filled) y

  pub loadable-here : loadable qs bs h long ≡ true → long ≤ length bs
  unfolding loadable
  loadable-here y = leb-true long (length bs) (and_left room filled (and_right (well_formed h) (room && filled) y))

  pub loadable-full : loadable qs bs h long ≡ true → full h.shape qs ≡ true
  unfolding loadable
  loadable-full y = and_right room filled (and_right (well_formed h) (room && filled) y)

  pub loadable-wrong : well_formed h ≡ false → loadable qs bs h long ≡ false
  unfolding loadable
  loadable-wrong n = and-no-left (well_formed h) (room && filled) n

  pub loadable-short : length bs < long → loadable qs bs h long ≡ false
  unfolding loadable
  loadable-short l = and-no-right (well_formed h) (room && filled) (and-no-left room filled (lt-leb long (length bs) l))

  pub loadable-by : well_formed h ≡ true → long ≤ length bs → loadable qs bs h long ≡ full h.shape qs
  unfolding loadable
  loadable-by r l = rw (r, le-leb long (length bs) l)

pub whole_is : (h : Header) → well_formed h ≡ true → (n : ℕ) → whole_in h n ≡ whole_plan h n
unfolding whole_in
whole_is h r n = rw r

-- ---- the planes of a plan
module _ (h : Header) (long : ℕ) (bs : List ℕ) (plan : Plan) (qs : List ℤ) where
  abbrev slot : ℕ
  slot = first_bad h long bs (loads plan)

  abbrev all : ℕ
  all = slots h

  -- what a walk's answer is told as
  told : Result (Unit {0}) BadLayer → Loading
  told (Ok u) = done (coefs_read h long bs (loads plan))
  told (Err b) = not_loaded qs (refusal 8 b.0 0)

  told-is : told (loaded_as h long bs (loads plan)) ≡ loading_whole qs bs h long plan slot
  unfolding told
  told-is = by (ltb slot all) (λ t. rw t) (λ t. rw t)

  pub load-bad : (b : BadLayer) → Err b ≡ loaded_as h long bs (loads plan) → not_loaded qs (refusal 8 b.0 0) ≡ loading_whole qs bs h long plan slot
  unfolding told
  load-bad b e = ap told e ∙ told-is

  pub load-fine : (u : Unit {0}) → Ok u ≡ loaded_as h long bs (loads plan) → done (coefs_read h long bs (loads plan)) ≡ loading_whole qs bs h long plan slot
  unfolding told
  load-fine u e = ap told e ∙ told-is

-- ---- a plan within the whole planes
module _ (h : Header) (long : ℕ) (bs : List ℕ) (plan : Plan) (e : first_over (loads (whole_plan h (length bs - long))) (loads plan) ≡ layers_most) where
  pub within : (k : ℕ) → k < layers_most → loads plan k ≤ whole h (length bs - long) k
  within k l = omega (arith, over_none (loads (whole_plan h (length bs - long))) (loads plan) e k l, whole-at h (length bs - long) k l)

module _ (h : Header) (r : well_formed h ≡ true) (long : ℕ) (bs : List ℕ) (plan : Plan) (here : long ≤ length bs)
    (e : first_over (loads (whole_plan h (length bs - long))) (loads plan) ≡ layers_most) where
  pub plan-within : first_over (planes_of h) (loads plan) ≡ layers_most
  plan-within = none_over (planes_of h) (loads plan) (λ k l. omega (arith, within h long bs plan e k l, whole-most h (length bs - long) k))

  pub all_there : AllThere h long bs (loads plan)
  all_there k p hk t =
      let l = loaded-yes h (loads plan) k p t in
      let few = layers-few (right-yes h r) in
      let n = length bs - long in
      let w = counted-whole h n k hk p l.0 (omega (arith, l.1, within h long bs plan e k (omega arith))) in
      omega (arith, whole-fits h n k p w)

-- ---- one plane: where it stands
module _ (h : Header) (k p : ℕ) where
  pub before-is : well_formed h ≡ true → k < layers h.shape → p < planes_of h k → cells_before_in h k p ≡ cells_before h k p
  unfolding cells_before_in
  before-is r hk hp =
      let few : k < layers_most = omega (arith, layers-few (right-yes h r)) in
      rw (r, lt-ltb k layers_most few, lt-ltb p (planes_of h k) hp)

-- ---- what the calls answer
module _ (qs : List ℤ) (bs : List ℕ) (h : Header) (long : ℕ) where
  pub not-loadable : loadable qs bs h long ≡ false → (plan : Plan) → not_loaded qs (refusal 3 0 0) ≡ loading qs bs h long plan
  unfolding loading
  not-loadable n plan = rw n

  module _ (y : loadable qs bs h long ≡ true) (plan : Plan) where
    abbrev over : ℕ
    over = first_over (loads (whole_plan h (length bs - long))) (loads plan)

    pub over-most : over ≤ layers_most
    over-most = over-le (loads (whole_plan h (length bs - long))) (loads plan)

    -- as the code finds it
    over_is : {w : Plan} {n : ℕ} → w ≡ whole_in h n → n ≡ length bs - long → first_over (loads w) (loads plan) ≡ over
    over_is {w} {n} e left =
        let same : w ≡ whole_plan h (length bs - long) = e ∙ whole_is h (loadable-right qs bs h long y) n ∙ ap (whole_plan h) left in
        ap (λ (p : Plan). first_over (loads p) (loads plan)) same

    pub plan-over : over < layers_most → not_loaded qs (refusal 9 over 0) ≡ loading qs bs h long plan
    unfolding loading
    plan-over l = rw (y, lt-ltb over layers_most l)

    -- as the code is told the first such place
    module _ {w : Plan} {n : ℕ} (e : w ≡ whole_in h n) (left : n ≡ length bs - long) where
      pub told-over : {p : ℕ} → Some p ≡ place_in layers_most (first_over (loads w) (loads plan)) → not_loaded qs (refusal 9 p 0) ≡ loading qs bs h long plan
      told-over {p} found =
          let is : Some p ≡ place_in layers_most over = found ∙ ap (place_in layers_most) (over_is e left) in
          by (ltb over layers_most)
          (λ t. let f : Some p ≡ Some over = rw t at is in let q : p ≡ over = cc in ap (λ (m : ℕ). not_loaded qs (refusal 9 m 0)) q ∙ plan-over (ltb-true _ _ t))
          (λ t. let f : Some p ≡ None = rw t at is in absurd (let z : ⊥ = cc in z))

      pub told-within : None ≡ place_in layers_most (first_over (loads w) (loads plan)) → over ≡ layers_most
      told-within found =
          let is : None ≡ place_in layers_most over = found ∙ ap (place_in layers_most) (over_is e left) in
          by (ltb over layers_most)
          (λ t. let f : None ≡ Some over = rw t at is in absurd (let z : ⊥ = cc in z))
          (λ t. omega (arith, ltb-false over layers_most t, over-most))

    pub plan-good : over ≡ layers_most → loading_whole qs bs h long plan (first_bad h long bs (loads plan)) ≡ loading qs bs h long plan
    unfolding loading
    plan-good e = rw (y, le-ltb over layers_most (omega arith))

  pub whole-good : first_over (loads (whole_plan h (length bs - long))) (loads (whole_plan h (length bs - long))) ≡ layers_most
  whole-good = none_over (loads (whole_plan h (length bs - long))) (loads (whole_plan h (length bs - long))) (λ k l. omega arith)

  -- the plan of all whole planes, as it is told
  module _ (y : loadable qs bs h long ≡ true) (plan : Plan) (n : ℕ) (e : plan ≡ whole_in h n) (left : n ≡ length bs - long) where
    pub told-whole : plan ≡ whole_plan h (length bs - long)
    told-whole = e ∙ whole_is h (loadable-right qs bs h long y) n ∙ ap (whole_plan h) left

    pub whole-there : AllThere h long bs (loads plan)
    whole-there = subst (λ (p : Plan). AllThere h long bs (loads p)) (sym told-whole) (all_there h (loadable-right qs bs h long y) long bs (whole_plan h (length bs - long)) (loadable-here qs bs h long y) whole-good)

    pub whole-loading : loading_whole qs bs h long plan (first_bad h long bs (loads plan)) ≡ all_whole qs bs h long
    whole-loading = ap (λ (p : Plan). loading_whole qs bs h long p (first_bad h long bs (loads p))) told-whole ∙ plan-good y (whole_plan h (length bs - long)) whole-good

  -- it is told where nothing is refused
  pub plan-whole : (q : List ℤ) → done q ≡ all_whole qs bs h long → whole_plan h (length bs - long) ≡ whole_loaded qs bs h long
  unfolding whole_loaded
  plan-whole q e = rw (ap (λ (x : Loading). x.refused.number) (sym e))

  -- ---- one plane more
  module _ (k p : ℕ) where
    pub add-not-loadable : loadable qs bs h long ≡ false → not_loaded qs (refusal 3 0 0) ≡ adding qs bs h long k p
    unfolding adding
    add-not-loadable n = rw n

    module _ (y : loadable qs bs h long ≡ true) where
      add-not-there : there bs h long k p ≡ false → not_loaded qs (refusal 3 0 0) ≡ adding qs bs h long k p
      unfolding adding
      add-not-there n = rw (y, n)

      pub add-past : layers h.shape ≤ k → not_loaded qs (refusal 3 0 0) ≡ adding qs bs h long k p
      add-past l = add-not-there (unfold there in (rw (le-ltb k (layers h.shape) l)))

      module _ (hk : k < layers h.shape) where
        pub add-unnamed : planes_of h k ≤ p → not_loaded qs (refusal 3 0 0) ≡ adding qs bs h long k p
        add-unnamed l = add-not-there (unfold there in (rw (lt-ltb k (layers h.shape) hk, le-ltb p (planes_of h k) l)))

        module _ (hp : p < planes_of h k) where
          abbrev end : ℕ
          end = cell_bytes * (cells_before h k p + plane_cells h.shape k)

          pub add-cut : length bs - long < end → not_loaded qs (refusal 3 0 0) ≡ adding qs bs h long k p
          add-cut l = add-not-there (unfold there is_whole in (rw (lt-ltb k (layers h.shape) hk, lt-ltb p (planes_of h k) hp, lt-leb end (length bs - long) l)))

          module _ (l : end ≤ length bs - long) where
            there-yes : there bs h long k p ≡ true
            unfolding there
            there-yes = rw (lt-ltb k (layers h.shape) hk, lt-ltb p (planes_of h k) hp, fits_whole h (length bs - long) k p l)

            pub add-unheld : all_held qs ≡ false → not_loaded qs (refusal 11 0 0) ≡ adding qs bs h long k p
            unfolding adding
            add-unheld n = rw (y, there-yes, n)

            module _ (held : all_held qs ≡ true) where
              pub add-bad : fine h long bs k p ≡ false → not_loaded qs (refusal 8 k 0) ≡ adding qs bs h long k p
              unfolding adding
              add-bad n = rw (y, there-yes, held, n)

              pub add-fine : fine h long bs k p ≡ true → done (coefs_with h long bs k p qs) ≡ adding qs bs h long k p
              unfolding adding
              add-fine f = rw (y, there-yes, held, f)
