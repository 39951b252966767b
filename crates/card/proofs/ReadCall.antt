-- Reading, by what each step answers: the lengths are checked first; what loading the planes answers is the reading once the values are rebuilt and the figure stands beside them, unless it is a refusal.
use mathlib.Core.Bool.{Bool, true, false}
use mathlib.Core.List.{List, ◌++◌}
use mathlib.Core.Path.{◌≡◌, refl, sym, ap, ◌∙◌}
use Prim.Native.Nat.{ℕ, ◌-◌, ◌<◌, ◌≤◌}
use native.Mathlib.Omega.{arith}
use borrow.Author.Tests.{ltb-false, lt-ltb, le-ltb, le-leb, eq-eqb, ne_eqb}
use lib.Dec.{ltb, eqb}
use lib.IntN.{ℤ, pos}
use lib.ListN.{length, drop, length-append}
use Rattle.integers.proofs.Bools.{by, and_left, and_right, and_both}
use Rattle.digits.specs.Digits.{middle}
use Rattle.layers.specs.Samples.{full}
use Rattle.layers.specs.Workings.Calls.{settled, rebuildable, rebuilding}
use Rattle.layers.specs.Layering.{layering, rebuilt}
use Rattle.sheet.specs.Limits.{layers_most, step_most}
use Rattle.sheet.specs.Lists.{at}
use Rattle.sheet.specs.Sheet.{points, layers}
use Rattle.sheet.proofs.Lists.{get_or-tabulate}
use Rattle.layers.proofs.Counted.{counted_same}
use Rattle.layers.proofs.Answers.{full-yes, full-long}
use Rattle.header.specs.declared.Header.{Header}
use Rattle.header.specs.declared.Details.{Details}
use Rattle.header.specs.declared.Opened.{Opened}
use Rattle.header.specs.declared.Plan.{Plan}
use Rattle.header.specs.declared.Refusal.{Refusal}
use Rattle.std.specs.Prelude.{Option, Some, None}
use Rattle.header.specs.Workings.{place_in}
use Rattle.header.specs.Refusals.{refusal, details_of}
use Rattle.header.specs.Header.{planes_of, header_text}
use Rattle.header.specs.Plan.{loads, missing, first_over}
use Rattle.header.specs.Losses.{told}
use Rattle.header.specs.Opening.{Opening, opening, well_formed}
use Rattle.header.specs.Opening as O
use Rattle.order.specs.CardOrder.{slots, whole_of}
use Rattle.order.specs.Workings.{whole_in}
use Rattle.figure.specs.Figure.{figure_of}
use Rattle.figure.specs.Workings.{bound_of}
use Rattle.figure.proofs.FigureCall.{bound-right}
use Rattle.header.proofs.Over.{over-le}
use Rattle.header.proofs.WellFormed.{right-yes, layers-few, few-planes}
use Rattle.header.proofs.Opens.{Opens, opened-right}
use Rattle.header.proofs.Refusing.{opened-accepts, refusing}
use Rattle.loading.specs.InBytes.{first_bad, coefs_read}
use Rattle.loading.specs.Workings.Calls.{Loading, done, loadable, loading, all_whole, whole_loaded}
use Rattle.loading.proofs.Loads.{coefs-long, loadable-by, whole_is, plan-within}
use Rattle.card.specs.Reading.{Reading, values_with, not_read, unless, good_lengths, first_refusal, read_opened, after_opening, showing}
use Rattle.card.specs.Workings.{middles_of, finished}

-- ---- what a reading that is not refused answers
abbrev pub read_as : Header → List ℕ → ℕ → List ℕ → Plan → Reading
read_as h ls long bs plan =
    record {
      refused = refusal 0 0 0;
      plan = plan;
      figure = figure_of h ls (loads plan);
      coefficients = coefs_read h long bs (loads plan);
      values = values_with h plan (coefs_read h long bs (loads plan));
    }

-- ---- the calls that reading makes, behind a right header
module _ (h : Header) (r : well_formed h ≡ true) (plan : Plan) where
  -- as many digits are counted as are missing
  middle-at : (k : ℕ) → k < layers h.shape → at (middles_of h plan) k ≡ middle (missing h (loads plan) k)
  unfolding middles_of
  middle-at k hk =
      let s = right-yes h r in
      get_or-tabulate layers_most _ k (pos 0) (omega (arith, layers-few s)) ∙ ap middle (omega (arith, few-planes s k hk))

  values-are : (qs vs : List ℤ) → length qs ≡ points h.shape → length vs ≡ points h.shape
      → rebuilding h.shape h.curve h.step (middles_of h plan) qs vs ≡ values_with h plan qs
  unfolding rebuilding rebuildable settled full values_with
  values-are qs vs q v =
      let s = right-yes h r in
      rw (s.shape, le-leb h.step step_most s.step, eq-eqb (length qs) (points h.shape) q, eq-eqb (length vs) (points h.shape) v)
      (ap (rebuilt (layering h.shape h.curve) h.step) (counted_same h.shape s.shape qs q (at (middles_of h plan)) _ middle-at))

-- ---- the lengths of the slices
module _ (qs vs : List ℤ) (h : Header) where
  abbrev fills : List ℤ → Bool
  fills l = full h.shape l

  pub lengths-good : length qs ≡ points h.shape → length vs ≡ points h.shape → good_lengths qs vs h ≡ true
  lengths-good q v = and_both (fills qs) (fills vs) (full-yes h.shape qs q) (full-yes h.shape vs v)

  pub good-lengths : good_lengths qs vs h ≡ true → (length qs ≡ points h.shape) × (length vs ≡ points h.shape)
  good-lengths g = (full-long h.shape qs (and_left (fills qs) (fills vs) g), full-long h.shape vs (and_right (fills qs) (fills vs) g))

  -- as the code asks it, of n points
  module _ (n : ℕ) (e : n ≡ points h.shape) where
    pub lengths-by : length qs ≡ n → eqb (length vs) n ≡ good_lengths qs vs h
    unfolding full
    lengths-by q = rw (e, eq-eqb (length qs) (points h.shape) (q ∙ e))

    pub lengths_differ : (length qs ≡ n → ⊥) → eqb (length qs) n ≡ good_lengths qs vs h
    unfolding full
    lengths_differ d = rw (e, ne_eqb (length qs) (points h.shape) (λ q. d (q ∙ sym e)))

-- ---- what a call does with a refusal: it goes on where there is none, and else answers it
module _ (qs vs : List ℤ) (d : Details) (go : Reading) where
  pub goes_on : refusal 0 0 0 ≡ d → go ≡ unless qs vs d go
  goes_on e = rw (← e)

  pub stops : (r : Refusal) → details_of r ≡ d → not_read qs vs (details_of r) ≡ unless qs vs d go
  stops r e = rw (← e, ne_eqb (details_of r).number 0 (refusing r))

-- ---- what follows the planes
pub finished-yes : (h : Header) (ls : List ℕ) (plan : Plan) (qs vs v : List ℤ) (n : ℕ) → v ≡ rebuilding h.shape h.curve h.step (middles_of h plan) qs vs → n ≡ (bound_of h ls plan).figure
    → record { refused = refusal 0 0 0; plan = plan; figure = n; coefficients = qs; values = v } ≡ finished (refusal 0 0 0) h ls plan qs vs
unfolding finished
finished-yes h ls plan qs vs v n a b = (λ i. record { refused = refusal 0 0 0; plan = plan; figure = b i; coefficients = qs; values = a i })

pub finished-no : (w : Refusal) (h : Header) (ls : List ℕ) (plan : Plan) (qs vs : List ℤ) → not_read qs vs (details_of w) ≡ finished (details_of w) h ls plan qs vs
unfolding finished
finished-no w h ls plan qs vs = stops qs vs (details_of w) _ w refl

module _ (h : Header) (r : well_formed h ≡ true) (ls : List ℕ) (plan : Plan) (e : first_over (planes_of h) (loads plan) ≡ layers_most)
    (qs vs : List ℤ) (q : length qs ≡ points h.shape) (v : length vs ≡ points h.shape) where
  pub finished-is : finished (refusal 0 0 0) h ls plan qs vs
      ≡ record { refused = refusal 0 0 0; plan = plan; figure = figure_of h ls (loads plan); coefficients = qs; values = values_with h plan qs }
  unfolding finished
  finished-is i = record { refused = refusal 0 0 0; plan = plan; figure = bound-right h ls plan r e i; coefficients = qs; values = values-are h r plan qs vs q v i }

-- ---- loaded planes, finished, are the reading
module _ (h : Header) (r : well_formed h ≡ true) (ls : List ℕ) (long : ℕ) (bs : List ℕ) (here : long ≤ length bs) (qs vs : List ℤ) where
  pub read_short : good_lengths qs vs h ≡ false → (plan : Plan) → not_read qs vs (refusal 3 0 0) ≡ read_opened qs vs bs h ls long plan
  unfolding read_opened first_refusal
  read_short n plan = rw n

  module _ (good : good_lengths qs vs h ≡ true) where
    pub can-load : loadable qs bs h long ≡ true
    can-load = loadable-by qs bs h long r here ∙ and_left (full h.shape qs) (full h.shape vs) good

    module _ (plan : Plan) where
      abbrev asked : ℕ
      asked = first_over (loads (whole_of bs h long)) (loads plan)

      abbrev bad : ℕ
      bad = first_bad h long bs (loads plan)

      finished-read : finished (loading qs bs h long plan).refused h ls plan (loading qs bs h long plan).coefficients vs ≡ read_opened qs vs bs h ls long plan
      unfolding read_opened first_refusal loading
      finished-read =
          by (ltb asked layers_most)
          (λ t. rw (good, can-load, t) (unfold finished in refl))
          (λ t. by (ltb bad (slots h))
          (λ u. rw (good, can-load, t, u) (unfold finished in refl))
          (λ u. rw (good, can-load, t, u)
          (let within : asked ≡ layers_most = omega (arith, ltb-false asked layers_most t, over-le (loads (whole_of bs h long)) (loads plan)) in
          finished-is h r ls plan (plan-within h r long bs plan here within) (coefs_read h long bs (loads plan)) vs (coefs-long h long bs (loads plan)) (good-lengths qs vs h good).1)))

      -- what loading is refused for, reading is
      pub loaded-refused : (loading qs bs h long plan).refused ≡ (read_opened qs vs bs h ls long plan).refused
      unfolding read_opened first_refusal loading
      loaded-refused =
          by (ltb asked layers_most)
          (λ t. rw (good, can-load, t))
          (λ t. by (ltb bad (slots h))
          (λ u. rw (good, can-load, t, u))
          (λ u. rw (good, can-load, t, u)))

      pub loaded-read : (l : Loading) → l ≡ loading qs bs h long plan → finished l.refused h ls plan l.coefficients vs ≡ read_opened qs vs bs h ls long plan
      loaded-read l x = ap (λ (l : Loading). finished l.refused h ls plan l.coefficients vs) x ∙ finished-read

    -- with all whole planes
    plan-read : eqb (all_whole qs bs h long).refused.number 0 ≡ true → whole_loaded qs bs h long ≡ whole_of bs h long
    unfolding whole_loaded
    plan-read z = rw z

    pub whole-read : (plan : Plan) (q : List ℤ) → done q ≡ all_whole qs bs h long → plan ≡ whole_loaded qs bs h long
        → finished (refusal 0 0 0) h ls plan q vs ≡ read_opened qs vs bs h ls long (whole_of bs h long)
    whole-read plan q x y =
        let accepted : eqb (all_whole qs bs h long).refused.number 0 ≡ true = rw (ap (λ (l : Loading). l.refused.number) (sym x)) in
        ap (λ (p : Plan). finished (refusal 0 0 0) h ls p q vs) (y ∙ plan-read accepted) ∙ loaded-read (whole_of bs h long) (done q) x

-- ---- what is checked: the lengths, then the plan
module _ (qs vs : List ℤ) (h : Header) (whole plan : Plan) where
  abbrev over : ℕ
  over = first_over (loads whole) (loads plan)

  pub checked-lengths : good_lengths qs vs h ≡ false → refusal 3 0 0 ≡ first_refusal qs vs h whole plan
  unfolding first_refusal
  checked-lengths n = rw n

  module _ (good : good_lengths qs vs h ≡ true) where
    pub checked-over : over < layers_most → refusal 9 over 0 ≡ first_refusal qs vs h whole plan
    unfolding first_refusal
    checked-over l = rw (good, lt-ltb over layers_most l)

    pub checked-none : over ≡ layers_most → first_refusal qs vs h whole plan ≡ refusal 0 0 0
    unfolding first_refusal
    checked-none e = rw (good, le-ltb over layers_most (omega arith))

    -- as the code is told the first such place
    abbrev place_refusal : Option ℕ → Details
    place_refusal (Some place) = refusal 9 place 0
    place_refusal None = refusal 0 0 0

    pub checked-at : (o : Option ℕ) → o ≡ place_in layers_most over → place_refusal o ≡ first_refusal qs vs h whole plan
    unfolding first_refusal
    checked-at o e = rw (good, e) (by (ltb over layers_most) (λ y. rw y) (λ n. rw n))

  pub checked-passes : (first_refusal qs vs h whole plan).number ≡ 0 → (good_lengths qs vs h ≡ true) × (over ≡ layers_most)
  unfolding first_refusal
  checked-passes e =
      by (good_lengths qs vs h)
      (λ good. by (ltb over layers_most)
      (λ y. absurd (let z : 9 ≡ 0 = rw (good, y) at e in omega arith))
      (λ n. (good, omega (arith, ltb-false over layers_most n, over-le (loads whole) (loads plan)))))
      (λ n. absurd (let z : 3 ≡ 0 = rw n at e in omega arith))

-- as the code asks it, of the planes that are whole in the bytes
module _ (qs vs : List ℤ) (bs : List ℕ) (h : Header) (long : ℕ) (plan : Plan) (right-header : well_formed h ≡ true)
    (w : Plan) (ew : w ≡ whole_in h (length bs - long)) (d : Details) (er : d ≡ first_refusal qs vs h w plan) where
  pub whole_here : w ≡ whole_of bs h long
  whole_here = ew ∙ whole_is h right-header (length bs - long)

  pub checked-is : d ≡ first_refusal qs vs h (whole_of bs h long) plan
  checked-is = er ∙ ap (λ (x : Plan). first_refusal qs vs h x plan) whole_here

  pub checked-yes : d.number ≡ 0 → (good_lengths qs vs h ≡ true) × (first_over (loads (whole_of bs h long)) (loads plan) ≡ layers_most)
  checked-yes y = checked-passes qs vs h (whole_of bs h long) plan (ap (λ (x : Details). x.number) (sym checked-is) ∙ y)

-- ---- what opening answers
pub opened-no : (bs : List ℕ) (w : Refusal) → O.not_opened (details_of w) ≡ opening bs → (qs vs : List ℤ) (go : Header → List ℕ → ℕ → Reading) → not_read qs vs (details_of w) ≡ after_opening qs vs (opening bs) go
opened-no bs w e qs vs go = stops qs vs (opening bs).refused _ w (ap (λ (x : Opening). x.refused) e)

module _ (bs : List ℕ) (o : Opened) (e : O.opened o.header (opening bs).losses o.length ≡ opening bs) where
  pub opened-yes : (qs vs : List ℤ) (go : Header → List ℕ → ℕ → Reading) (ls : List ℕ) → ls ≡ told (opening bs).losses → go o.header ls o.length ≡ after_opening qs vs (opening bs) go
  opened-yes qs vs go ls is = ap (λ (ms : List ℕ). go o.header ms o.length) is ∙ rw (← e)

  opens : Opens bs (opening bs).header (opening bs).losses (opening bs).long
  opens = opened-right bs (opened-accepts bs o _ e)

  pub header-here : o.length ≤ length bs
  header-here =
      let a : o.length ≡ (opening bs).long = ap (λ (x : Opening). x.long) e in
      let t = header_text (opening bs).header (opening bs).losses in
      let b : length bs ≡ length (t ++ drop (opening bs).long bs) = ap length opens.text-is in
      omega (arith, opens.length-is, length-append t (drop (opening bs).long bs))

-- a card that does not open is not shown
pub showing-no : (bs : List ℕ) (w : Refusal) → O.not_opened (details_of w) ≡ opening bs → (qs vs : List ℤ) → not_read qs vs (details_of w) ≡ showing qs vs bs
unfolding showing
showing-no bs w e qs vs = opened-no bs w e qs vs (λ h ls long. read_opened qs vs bs h ls long (whole_of bs h long))
