-- Refining, by what each step answers: the next plane of a layer is there where it is whole; what adding it answers is the refinement once the values are rebuilt and the figure of the plan with it, which is still one of the header's, stands beside them, unless it is a refusal.
use mathlib.Core.Bool.{true, false, ◌&&◌}
use mathlib.Core.List.{List}
use mathlib.Core.Path.{◌≡◌, refl, ap, ap₂, ◌∙◌}
use Prim.Native.Nat.{ℕ, suc, ◌+◌, ◌-◌, ◌^◌, ◌<◌, ◌≤◌}
use native.Mathlib.Decide.{ℕ_discrete, dec_lt}
use native.Mathlib.Omega.{arith}
use Rattle.integers.proofs.Bools.{by, cond-rel}
use borrow.Author.Tests.{lt-ltb, le-ltb}
use lib.Dec.{ltb, eqb}
use lib.IntN.{ℤ}
use lib.ListN.{length, set, length-set, get_or-eq_default}
use lib.Seq.{get_or-set_same, get_or-set_other}
use Rattle.sheet.specs.Limits.{layers_most}
use Rattle.sheet.specs.Sheet.{layers}
use Rattle.header.specs.declared.Header.{Header}
use Rattle.header.specs.declared.Plan.{Plan}
use Rattle.header.specs.Refusals.{refusal}
use Rattle.header.specs.Header.{planes_of}
use Rattle.header.specs.Plan.{loads, first_over, with_plane}
use Rattle.header.specs.Opening.{well_formed}
use Rattle.order.specs.CardOrder.{is_whole, whole, whole_plan, whole_of}
use Rattle.figure.specs.Figure.{figure_of}
use Rattle.header.proofs.Over.{over_none, none_over}
use Rattle.header.proofs.WellFormed.{right-yes, layers-few, few-planes}
use Rattle.order.proofs.Whole.{whole-most, counted-whole}
use Rattle.packing.specs.Planes.{all_held}
use Rattle.loading.specs.InBytes.{fine, coefs_with}
use Rattle.loading.specs.Workings.Calls.{Loading, there, adding}
use Rattle.loading.proofs.LayerPlanes.{whole-at}
use Rattle.loading.proofs.Loads.{plus-long}
use Rattle.card.specs.Reading.{Reading, values_with, good_lengths}
use Rattle.card.specs.Workings.{finished}
use Rattle.card.specs.Reading as R
use Rattle.card.specs.Refining.{refine_layer, refine_opened}
use Rattle.card.proofs.ReadCall.{good-lengths, can-load, finished-is}

-- ---- what a refinement that is not refused answers
abbrev pub refined_as : Header → List ℕ → ℕ → List ℕ → Plan → ℕ → ℕ → List ℤ → Reading
refined_as h ls long bs plan k p qs =
    record {
      refused = refusal 0 0 0;
      plan = with_plane plan k;
      figure = figure_of h ls (loads (with_plane plan k));
      coefficients = coefs_with h long bs k p qs;
      values = values_with h (with_plane plan k) (coefs_with h long bs k p qs);
    }

-- ---- one more plane of a layer that has one
module _ (h : Header) (r : well_formed h ≡ true) (plan : Plan) (k : ℕ) (hk : k < layers h.shape) (more : loads plan k < planes_of h k) where
  layer-few : k < layers_most
  layer-few = omega (arith, layers-few (right-yes h r))

  -- the plan with it
  pub with-is : with_plane plan k ≡ record { planes = set plan.planes k (loads plan k + 1) }
  unfolding with_plane
  with-is =
      let l : loads plan k + 1 < 2 ^ 64 = omega (arith, few-planes (right-yes h r) k hk) in
      rw (lt-ltb k layers_most layer-few, lt-ltb (loads plan k + 1) (2 ^ 64) l)

  -- has at most one plane more there
  with-most : loads (with_plane plan k) k ≤ loads plan k + 1
  with-most =
      let more = set plan.planes k (loads plan k + 1) in
      elim (dec_lt k (length plan.planes)) [
        | yes l ↦ omega (arith, ap (λ (p : Plan). loads p k) with-is, get_or-set_same plan.planes k (loads plan k + 1) 0 l)
        | no l ↦
            let out : length more ≤ k = omega (arith, length-set plan.planes k (loads plan k + 1)) in
            omega (arith, ap (λ (p : Plan). loads p k) with-is, get_or-eq_default more 0 out)
      ]

  -- and the same elsewhere
  pub with-other : (j : ℕ) → (j ≡ k → ⊥) → loads (with_plane plan k) j ≡ loads plan j
  with-other j n = ap (λ (p : Plan). loads p j) with-is ∙ get_or-set_other plan.planes k j (loads plan k + 1) 0 n

  module _ (in-plan : first_over (planes_of h) (loads plan) ≡ layers_most) where
    with-within : first_over (planes_of h) (loads (with_plane plan k)) ≡ layers_most
    with-within =
        none_over (planes_of h) (loads (with_plane plan k)) (λ j l.
        elim (ℕ_discrete j k) [
          | yes q ↦ rw q (omega (arith, with-most))
          | no n ↦ omega (arith, with-other j n, over_none (planes_of h) (loads plan) in-plan j l)
        ])

-- ---- the tests of a layer
module _ (qs vs : List ℤ) (bs : List ℕ) (h : Header) (ls : List ℕ) (long : ℕ) (plan : Plan) (k : ℕ) where
  abbrev limit : ℕ
  limit = loads (whole_plan h (length bs - long)) k

  pub refine-past : layers h.shape ≤ k → R.not_read qs vs (refusal 9 k 0) ≡ refine_layer qs vs bs h ls long plan k
  refine-past l = rw (le-ltb k (layers h.shape) l)

  module _ (hk : k < layers h.shape) where
    pub refine-none : limit ≤ loads plan k → R.not_read qs vs (refusal 9 k 0) ≡ refine_layer qs vs bs h ls long plan k
    refine-none l = rw (lt-ltb k (layers h.shape) hk, le-ltb (loads plan k) limit l)

-- a layer with a further whole plane: it is one of the header's, and in the bytes
module _ (h : Header) (r : well_formed h ≡ true) (ls : List ℕ) (long : ℕ) (bs : List ℕ) (plan : Plan) (k : ℕ) (here : long ≤ length bs)
    (hk : k < layers h.shape) (more : loads plan k < loads (whole_plan h (length bs - long)) k) where
  further : loads plan k < whole h (length bs - long) k
  further = omega (arith, whole-at h (length bs - long) k (omega (arith, layers-few (right-yes h r))))

  pub next-named : loads plan k < planes_of h k
  next-named = omega (arith, further, whole-most h (length bs - long) k)

  next-whole : is_whole h (length bs - long) k (planes_of h k - suc (loads plan k)) ≡ true
  next-whole =
      counted-whole h (length bs - long) k hk (planes_of h k - suc (loads plan k)) (omega (arith, next-named)) (omega (arith, further, next-named))

  -- ---- the plane added, finished, is the refinement
  module _ (qs vs : List ℤ) (good : good_lengths qs vs h ≡ true) (in-plan : first_over (planes_of h) (loads plan) ≡ layers_most) where
    abbrev at_next : ℕ
    at_next = planes_of h k - suc (loads plan k)

    next-there : there bs h long k at_next ≡ true
    unfolding there
    next-there =
        let named : at_next < planes_of h k = omega (arith, next-named) in
        rw (lt-ltb k (layers h.shape) hk, lt-ltb at_next (planes_of h k) named, next-whole)

    finished-added : finished (adding qs bs h long k at_next).refused h ls (with_plane plan k) (adding qs bs h long k at_next).coefficients vs ≡ refine_layer qs vs bs h ls long plan k
    unfolding adding
    finished-added =
        let full = good-lengths qs vs h good in
        let can = can-load h r ls long bs here qs vs good in
        let low = lt-ltb k (layers h.shape) hk in
        let further = lt-ltb (loads plan k) (loads (whole_plan h (length bs - long)) k) more in
        by (all_held qs)
        (λ t. by (fine h long bs k at_next)
        (λ u. rw (can, next-there, low, further, t, u)
        (finished-is h r ls (with_plane plan k) (with-within h r plan k hk next-named in-plan) (coefs_with h long bs k at_next qs) vs (plus-long h.shape k at_next _ qs ∙ full.0) full.1))
        (λ u. rw (can, next-there, low, further, t, u) (unfold finished in refl)))
        (λ t. rw (can, next-there, low, further, t) (unfold finished in refl))

    pub added-refine : (l : Loading) (p : ℕ) (pl : Plan) → p ≡ at_next → l ≡ adding qs bs h long k p → pl ≡ with_plane plan k
        → finished l.refused h ls pl l.coefficients vs ≡ refine_layer qs vs bs h ls long plan k
    added-refine l p pl e x y =
        ap₂ (λ (l : Loading) (p : Plan). finished l.refused h ls p l.coefficients vs) (x ∙ ap (adding qs bs h long k) e) y
        ∙ finished-added

-- ---- the old values: refining asks for their length alone, so that into another slice of values it answers the same
module _ (qs : List ℤ) (bs : List ℕ) (h : Header) (ls : List ℕ) (long : ℕ) (plan : Plan) (k : ℕ) where
  pub refine-short : (vs : List ℤ) → good_lengths qs vs h ≡ false → refine_opened qs vs bs h ls long plan k ≡ R.not_read qs vs (refusal 3 0 0)
  unfolding refine_opened R.first_refusal
  refine-short vs n = rw n

  module _ (vs vs' : List ℤ) (same : good_lengths qs vs' h ≡ good_lengths qs vs h) where
    abbrev Alike : Reading → Reading → Type 0
    Alike r' r = r' ≡ R.unless qs vs' r.refused r

    pub refine-unread : Alike (refine_opened qs vs' bs h ls long plan k) (refine_opened qs vs bs h ls long plan k)
    unfolding refine_opened R.first_refusal
    refine-unread =
        let check = R.first_refusal qs vs h (whole_of bs h long) plan in
        rw same
        (cond-rel Alike (eqb check.number 0)
        (λ _. cond-rel Alike (ltb k (layers h.shape) && ltb (loads plan k) (loads (whole_of bs h long) k))
        (λ _. cond-rel Alike (all_held qs)
        (λ _. cond-rel Alike (fine h long bs k (planes_of h k - suc (loads plan k))) (λ _. refl) (λ _. refl))
        (λ _. refl))
        (λ _. refl))
        (λ n. rw n))
