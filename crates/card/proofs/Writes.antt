-- What writing comes to, by the outcome of its tests one after the other. After them quantizing is not refused; where it finds a sample out of range so does writing, and else its coefficients are within 23 digits and their card is written.
use mathlib.Core.Path.{◌≡◌, refl, sym, ap, ◌∙◌}
use mathlib.Core.Bool.{Bool, true, false, ◌&&◌}
use mathlib.Core.Option.{some}
use mathlib.Core.List.{List, ◌++◌}
use Prim.Native.Nat.{ℕ, ◌+◌, ◌<◌, ◌≤◌}
use native.Mathlib.Decide.{dec_lt}
use native.Mathlib.Omega.{arith}
use lib.Dec.{ltb, leb}
use lib.IntN.{ℤ, pos}
use lib.ListN.{length, drop, get_or-eq_default}
use lib.Seq.{sets, sets-eq}
use Rattle.text.specs.Workings.{after, putting}
use Rattle.text.proofs.Fitting.{put-fits}
use borrow.Author.Tests.{not-false, lt-ltb, le-ltb, le-leb, lt-leb}
use Rattle.integers.proofs.Bools.{and_both, and-no-left, and-no-right, or_left, or_right}
use Rattle.digits.specs.Digits.{holds}
use Rattle.digits.proofs.Range.{holds_by, range-23}
use Rattle.sheet.specs.declared.Shape.{Shape}
use Rattle.sheet.specs.declared.Curve.{Curve}
use Rattle.std.specs.Prelude.{Option, None, Some, Result, Ok, Err}
use Rattle.layers.specs.declared.Place.{Place}
use Rattle.layers.specs.declared.QuantizeError.{QuantizeError}
use Rattle.layers.specs.declared.QuantizeError.TheVariants.{BadLengths, OutOfRange}
use Rattle.sheet.specs.Limits.{levels_most, step_most}
use Rattle.sheet.specs.Lists.{at}
use Rattle.sheet.specs.Sheet.{sized, accepted, points}
use Rattle.layers.specs.Layering.{layering, coefs}
use Rattle.layers.specs.Workings.Loops.{Samples}
use Rattle.layers.specs.Samples as C
use Rattle.layers.specs.Workings.Calls as W
use Rattle.layers.specs.Samples.{full}
use Rattle.layers.proofs.Answers.{samples-by, full-yes, full-no, right, after-scan}
use Rattle.layers.proofs.Law.{length-coefs}
use Rattle.layers.proofs.Range.{coefs-reach}
use Rattle.header.specs.declared.Refusal.TheVariants as R
use Rattle.header.specs.declared.Details.{Details}
use Rattle.header.specs.Refusals.{refusal}
use Rattle.header.specs.Header.{places_most}
use Rattle.header.proofs.TextLength.{card-fits}
use Rattle.packing.specs.Planes.{header_for, losses_for, card_of, all_held}
use Rattle.packing.specs.Workings.Calls.{card_for}
use Rattle.packing.proofs.All.{all-by}
use Rattle.packing.proofs.BodyOrder.{body-length}
use Rattle.packing.proofs.Cards.{header-right, card-length, measured-fit}
use Rattle.packing.proofs.FlatPlanes.{zero-holds}
use Rattle.header.proofs.WellFormed.{few-planes}
use Rattle.card.specs.Writing.{output_least, bad_sizes, Writing, after_scan, bad_settings, room_to_write, writing, as_writing}
use Rattle.card.proofs.BadSizes.{bad-sizes}

abbrev made : Details → ℕ → List ℤ → List ℤ → List ℕ → Writing
made d n q v o = record { refused = d; long = n; coefficients = q; values = v; output = o }

made-same : (d d' : Details) (n n' : ℕ) (q q' v v' : List ℤ) (o o' : List ℕ) → d ≡ d' → n ≡ n' → q ≡ q' → v ≡ v' → o ≡ o' → made d n q v o ≡ made d' n' q' v' o'
made-same d d' n n' q q' v v' o o' a b c e f =
    ap (λ (x : Details). made x n q v o) a
    ∙ ap (λ (x : ℕ). made d' x q v o) b
    ∙ ap (λ (x : List ℤ). made d' n' x v o) c
    ∙ ap (λ (x : List ℤ). made d' n' q' x o) e
    ∙ ap (λ (x : List ℕ). made d' n' q' v' x) f

-- THE CARD FITS
card-most : (sh : Shape) → accepted sh ≡ true → (qs : List ℤ) (curve : Curve) (e : ℕ) → e ≤ step_most → length (card_of sh curve e qs) ≤ output_least
card-most sh ok qs curve e step =
    let h = header-right sh ok qs curve e step in
    omega (arith, card-length sh ok qs curve e step, card-fits h (some (losses_for sh qs)) (measured-fit sh ok qs curve e step), body-length (header_for sh curve e qs) qs (few-planes h))

-- a run at the front
sets-front : (d a : List ℕ) → length a ≤ length d → sets d 0 a ≡ a ++ drop (length a) d
sets-front d a h = let z : 0 + length a ≡ length a = omega arith in sets-eq a d 0 (omega arith) ∙ ap (λ (n : ℕ). a ++ drop n d) z

-- 23 digits are enough for every sheet that is accepted
pub coefs-hold : {sh : Shape} {e : ℕ} {xs : List ℤ} → Samples sh e xs → (curve : Curve) (p : ℕ) → p < points sh → holds places_most (at (coefs (layering sh curve) e xs) p) ≡ true
coefs-hold s curve p h =
    let reach = coefs-reach s curve p h in
    holds_by places_most _ (record { low = omega (arith, reach.0, range-23); high = omega (arith, reach.1, range-23) })

module _ (xs : List ℤ) (sh : Shape) (curve : Curve) (e : ℕ) (qs vs : List ℤ) (out : List ℕ) where
  pub bad-size : bad_sizes sh.rows sh.cols ≡ true → as_writing (Err R.BadSize) qs vs out ≡ writing xs sh curve e qs vs out
  unfolding writing
  bad-size y = rw y

  module _ (n : bad_sizes sh.rows sh.cols ≡ false) where
    pub bad-settings : bad_settings xs sh curve e qs vs out ≡ true → as_writing (Err R.BadSettings) qs vs out ≡ writing xs sh curve e qs vs out
    unfolding writing
    bad-settings y = rw (n, y)

    pub many-levels : levels_most < sh.levels → bad_settings xs sh curve e qs vs out ≡ true
    many-levels h = or_left (ltb levels_most sh.levels) (ltb step_most e) (lt-ltb levels_most sh.levels h)

    pub wide_step : step_most < e → bad_settings xs sh curve e qs vs out ≡ true
    wide_step h = or_right (ltb levels_most sh.levels) (ltb step_most e) (lt-ltb step_most e h)

    module _ (l : sh.levels ≤ levels_most) (s : e ≤ step_most) where
      pub good-settings : bad_settings xs sh curve e qs vs out ≡ false
      good-settings = rw (le-ltb levels_most sh.levels l, le-ltb step_most e s)

      pub bad-lengths : room_to_write xs sh curve e qs vs out ≡ false → as_writing (Err R.BadLengths) qs vs out ≡ writing xs sh curve e qs vs out
      unfolding writing
      bad-lengths y = rw (n, good-settings, y)

      abbrev pts : ℕ
      pts = points sh

      abbrev front : Bool
      front = full sh xs && full sh qs

      abbrev back : Bool
      back = full sh vs && leb output_least (length out)

      pub short-samples : (length xs ≡ pts → ⊥) → room_to_write xs sh curve e qs vs out ≡ false
      short-samples h = and-no-left front back (and-no-left (full sh xs) (full sh qs) (full-no sh xs h))

      pub short-coefficients : (length qs ≡ pts → ⊥) → room_to_write xs sh curve e qs vs out ≡ false
      short-coefficients h = and-no-left front back (and-no-right (full sh xs) (full sh qs) (full-no sh qs h))

      pub short-values : (length vs ≡ pts → ⊥) → room_to_write xs sh curve e qs vs out ≡ false
      short-values h = and-no-right front back (and-no-left (full sh vs) (leb output_least (length out)) (full-no sh vs h))

      pub short-output : length out < output_least → room_to_write xs sh curve e qs vs out ≡ false
      short-output h = and-no-right front back (and-no-right (full sh vs) (leb output_least (length out)) (lt-leb _ _ h))

      -- a sheet by itself has then passed every test of its shape
      pub shape-accepted : sh.depth ≡ 1 → accepted sh ≡ true
      unfolding accepted
      shape-accepted flat =
          let r = sh.rows in
          let c = sh.cols in
          and_both (sized sh.depth r c) (leb sh.levels levels_most) (rw flat (not-false _ (sym (bad-sizes r c) ∙ n))) (le-leb sh.levels levels_most l)

      -- the shape is accepted, and every length is right
      module _ (ok : accepted sh ≡ true) (hx : length xs ≡ pts) (hq : length qs ≡ pts) (hv : length vs ≡ pts) (ho : output_least ≤ length out) where
        pub good-lengths : room_to_write xs sh curve e qs vs out ≡ true
        good-lengths =
            and_both front back
            (and_both (full sh xs) (full sh qs) (full-yes sh xs hx) (full-yes sh qs hq))
            (and_both (full sh vs) (leb output_least (length out)) (full-yes sh vs hv) (le-leb _ _ ho))

        writes : writing xs sh curve e qs vs out ≡ after_scan xs sh curve e qs vs out (C.scanned sh.cols xs)
        unfolding writing
        writes = rw (n, good-settings, good-lengths)

        is-settled : W.settled sh e ≡ true
        is-settled = unfold W.settled in (and_both (accepted sh) (leb e step_most) ok (le-leb e step_most s))

        abbrev Q : W.Quantizing
        Q = W.quantizing sh curve e xs qs vs

        quantizes : Q ≡ W.after_scan sh curve e xs qs vs (C.scanned sh.cols xs)
        quantizes = after-scan sh curve e xs qs vs (right sh curve e xs qs vs is-settled hx hq hv) (C.scanned sh.cols xs) refl

        answered : (a : Result (Unit {0}) QuantizeError) → a ≡ Q.answer → a ≡ (W.after_scan sh curve e xs qs vs (C.scanned sh.cols xs)).answer
        answered a x = x ∙ ap (λ (z : W.Quantizing). z.answer) quantizes

        left-coefs : (q : List ℤ) → q ≡ Q.coefficients → q ≡ (W.after_scan sh curve e xs qs vs (C.scanned sh.cols xs)).coefficients
        left-coefs q x = x ∙ ap (λ (z : W.Quantizing). z.coefficients) quantizes

        left-values : (v : List ℤ) → v ≡ Q.values → v ≡ (W.after_scan sh curve e xs qs vs (C.scanned sh.cols xs)).values
        left-values v x = x ∙ ap (λ (z : W.Quantizing). z.values) quantizes

        -- it is not refused
        pub not-refused : Err BadLengths ≡ Q.answer → ⊥
        not-refused x = go (C.scanned sh.cols xs) (answered (Err BadLengths) x) where
          go : (s : Option Place) → Err BadLengths ≡ (W.after_scan sh curve e xs qs vs s).answer → ⊥
          go None y = cc
          go (Some place) y = cc

        -- a sample is out of range
        abbrev out_details : Result (Unit {0}) QuantizeError → Details
        out_details (Ok done) = refusal 0 0 0
        out_details (Err BadLengths) = refusal 3 0 0
        out_details (Err (OutOfRange place)) = refusal 4 place.row place.col

        pub out_at : (place : Place) (q v : List ℤ) → Err (OutOfRange place) ≡ Q.answer → q ≡ Q.coefficients → v ≡ Q.values
            → as_writing (Err (R.BadSample place.row place.col)) q v out ≡ writing xs sh curve e qs vs out
        out_at place q v x y z = go (C.scanned sh.cols xs) (answered _ x) (left-coefs q y) (left-values v z) ∙ sym writes where
          go : (s : Option Place) → Err (OutOfRange place) ≡ (W.after_scan sh curve e xs qs vs s).answer → q ≡ (W.after_scan sh curve e xs qs vs s).coefficients → v ≡ (W.after_scan sh curve e xs qs vs s).values
              → as_writing (Err (R.BadSample place.row place.col)) q v out ≡ after_scan xs sh curve e qs vs out s
          go None f g h = absurd cc
          go (Some s) f g h =
              made-same (refusal 4 place.row place.col) (refusal 4 s.row s.col) 0 0 q qs v vs out out (ap out_details f) refl g h refl

        -- all are in range
        coefs-held : (q : List ℤ) → Ok tt ≡ Q.answer → q ≡ Q.coefficients → (length q ≡ points sh) × ((p : ℕ) → holds places_most (at q p) ≡ true)
        coefs-held q x y = go (C.scanned sh.cols xs) refl (answered _ x) (left-coefs q y) where
          go : (s : Option Place) → C.scanned sh.cols xs ≡ s → Ok tt ≡ (W.after_scan sh curve e xs qs vs s).answer → q ≡ (W.after_scan sh curve e xs qs vs s).coefficients
              → (length q ≡ points sh) × ((p : ℕ) → holds places_most (at q p) ≡ true)
          go (Some place) k f g = absurd cc
          go None k f g = rw g (
            long,
            λ p. elim (dec_lt p (points sh)) [
              | yes h ↦ coefs-hold (samples-by sh e xs is-settled hx k) curve p h
              | no h ↦
                  let past : length (coefs (layering sh curve) e xs) ≤ p = omega (arith, long) in
                  rw (get_or-eq_default (coefs (layering sh curve) e xs) (pos 0) past) zero-holds
            ],
          )
            where
              long : length (coefs (layering sh curve) e xs) ≡ points sh
              long = length-coefs (layering sh curve) e xs

        -- the coefficients make a card, and it fits
        is-card : (q : List ℤ) → length q ≡ points sh → ((p : ℕ) → holds places_most (at q p) ≡ true) → card_for sh curve e q ≡ card_of sh curve e q
        unfolding card_for all_held
        is-card q long held = rw (is-settled, full-yes sh q long, all-by (λ j. holds places_most (at q j)) (length q) (λ j _. held j))

        card-put : (q : List ℤ) → Ok tt ≡ Q.answer → q ≡ Q.coefficients → (r : ℕ) (o : List ℕ) → r ≡ after out 0 (card_for sh curve e q) → o ≡ putting out 0 (card_for sh curve e q)
            → (r ≡ length (card_of sh curve e q)) × (o ≡ card_of sh curve e q ++ drop (length (card_of sh curve e q)) out)
        card-put q x y r o a b =
            let held = coefs-held q x y in
            let card : card_for sh curve e q ≡ card_of sh curve e q = is-card q held.0 held.1 in
            let short : length (card_of sh curve e q) ≤ length out = omega (arith, card-most sh ok q curve e s) in
            let fits = put-fits out 0 (card_of sh curve e q) (omega arith) in
            (omega (arith, a, ap (after out 0) card, fits.0), b ∙ ap (putting out 0) card ∙ fits.1 ∙ sets-front out (card_of sh curve e q) short)

        pub card-told : (q v : List ℤ) (r : ℕ) (o : List ℕ) → Ok tt ≡ Q.answer → q ≡ Q.coefficients → v ≡ Q.values → r ≡ after out 0 (card_for sh curve e q)
            → o ≡ putting out 0 (card_for sh curve e q) → as_writing (Ok r) q v o ≡ writing xs sh curve e qs vs out
        card-told q v r o x y z a b = go (C.scanned sh.cols xs) (answered _ x) (left-coefs q y) (left-values v z) ∙ sym writes where
          put : (r ≡ length (card_of sh curve e q)) × (o ≡ card_of sh curve e q ++ drop (length (card_of sh curve e q)) out)
          put = card-put q x y r o a b

          go : (s : Option Place) → Ok tt ≡ (W.after_scan sh curve e xs qs vs s).answer → q ≡ (W.after_scan sh curve e xs qs vs s).coefficients → v ≡ (W.after_scan sh curve e xs qs vs s).values
              → as_writing (Ok r) q v o ≡ after_scan xs sh curve e qs vs out s
          go (Some place) f g h = absurd cc
          go None f g h =
              made-same (refusal 0 0 0) (refusal 0 0 0) r _ q _ v _ o _ refl (put.0 ∙ ap (λ (x : List ℤ). length (card_of sh curve e x)) g) g h
              (put.1 ∙ ap (λ (x : List ℤ). card_of sh curve e x ++ drop (length (card_of sh curve e x)) out) g)
