-- The card that is written: the counts of coefficients are right ones, since a layer's count is at most 23, and 0 where it has no point or is not there; so the header is right and its cells are those of the planes. Where the text and these cells fit, the text put at the front and the planes behind it are the card put there.
use mathlib.Core.Path.{◌≡◌, refl, sym, ap, ap₂, ◌∙◌}
use mathlib.Core.Bool.{true, false, true≢false, ◌&&◌}
use mathlib.Core.List.{List, [], ◌++◌}
use mathlib.Core.Option.{some}
use Prim.Native.Nat.{ℕ, suc, ◌+◌, ◌*◌, ◌<◌, ◌≤◌}
use native.Mathlib.Omega.{arith}
use borrow.Author.Tests.{eq-eqb, lt-leb, ltb-true, eqb-true}
use lib.Dec.{ltb, leb, eqb}
use lib.IntN.{ℤ}
use lib.ListN.{length, get_or, length-append}
use lib.Seq.{sets}
use Rattle.integers.proofs.Bools.{by, and-no-left, and-no-right}
use Rattle.digits.specs.Digits.{holds, loss}
use Rattle.digits.proofs.Firsts.{first-le, first-now}
use Rattle.sheet.specs.declared.Shape.{Shape}
use Rattle.sheet.specs.declared.Curve.{Curve}
use Rattle.sheet.specs.Limits.{layers_most, step_most}
use Rattle.sheet.specs.Lists.{at, tabulate}
use Rattle.sheet.specs.Sheet.{accepted, layers, layer_size}
use Rattle.layers.specs.Samples.{full}
use Rattle.layers.specs.Workings.Calls.{settled}
use Rattle.layers.proofs.Answers.{settled-yes}
use Rattle.sheet.proofs.Lists.{get_or-tabulate}
use Rattle.sheet.proofs.Places.{place-in}
use Rattle.header.specs.declared.Header.{Header}
use Rattle.header.specs.Header.{places_most, cell_bytes, planes_of, cells_of, header_text}
use Rattle.header.specs.Losses.{laid, closed}
use Rattle.header.specs.Workings.{cells_most, cells_named}
use Rattle.header.specs.Opening.{planes_most, well_formed}
use Rattle.header.proofs.WellFormed.{WellFormed, counts-by, right-yes, right_by, most-some, layers-few, few-planes}
use Rattle.header.proofs.Laid.{laid_same, laid-within, LossesFit}
use Rattle.text.proofs.Stores.{sets-sets}
use Rattle.order.specs.CardOrder.{in_order}
use Rattle.header.proofs.TextLength.{losses-fit, right-fits}
use Rattle.header.proofs.Total.{right-cells}
use Rattle.text.specs.Workings.{after, putting}
use Rattle.text.proofs.Fitting.{put-fits, put-over}
use Rattle.packing.specs.Planes.{enough, planes_for, counts_for, header_for, measured_loss, losses_for, body, card_of, all_held}
use Rattle.packing.specs.Workings.Words.{Gathered, count_at, measured_at, rows_of, RowsEnd, row_plane, text_room, TextFits, flat_card}
use Rattle.packing.specs.Workings.Calls.{card_for}
use Rattle.packing.proofs.FlatPlanes.{rows-length, flat-body}
use Rattle.packing.proofs.HeldLayers.{enough-by}
use Rattle.packing.proofs.Losses.{losses-same, measured-most}
use Rattle.packing.proofs.Needed.{counts_same}

-- ---- the counts are right
module _ (sh : Shape) (qs : List ℤ) (k : ℕ) where
  -- an empty layer needs no digits
  empty-enough : layer_size sh k ≡ 0 → enough sh qs k 0 ≡ true
  empty-enough e = enough-by sh qs k 0 (λ p hp m. absurd (let z : ⊥ = omega (arith, place-in sh k p hp m) in z))

  planes-most : planes_for sh qs k ≤ planes_most sh k
  unfolding planes_for
  planes-most =
      by (ltb k (layers sh))
      (λ t. rw t
      (by (eqb (layer_size sh k) 0)
      (λ z. rw (first-now (enough sh qs k) places_most 0 (empty-enough (eqb-true _ _ z))) (omega arith))
      (λ n. let some : planes_most sh k ≡ places_most = most-some sh k (ltb-true _ _ t) (λ z. true≢false (sym (eq-eqb _ _ z) ∙ n)) in omega (arith, first-le (enough sh qs k) places_most 0))))
      (λ t. rw t (omega arith))

-- as the header has them
pub counts-at : (sh : Shape) (qs : List ℤ) (k : ℕ) → k < layers_most → get_or (counts_for sh qs) k 0 ≡ planes_for sh qs k
unfolding counts_for
counts-at sh qs k h = get_or-tabulate layers_most (planes_for sh qs) k 0 h

counts-most : (sh : Shape) (qs : List ℤ) (k : ℕ) → k < layers_most → get_or (counts_for sh qs) k 0 ≤ planes_most sh k
counts-most sh qs k h = rw (counts-at sh qs k h) (planes-most sh qs k)

module _ (sh : Shape) (ok : accepted sh ≡ true) (qs : List ℤ) where
  -- so their cells are named
  pub cells-named : cells_named sh (counts_for sh qs) ≡ cells_of sh (counts_for sh qs)
  unfolding cells_named
  cells-named = rw (counts-by sh (counts_for sh qs) (record { shape = ok; counts = counts-most sh qs }))

  module _ (curve : Curve) (e : ℕ) (step : e ≤ step_most) where
    -- and the header is right
    pub header-right : WellFormed (header_for sh curve e qs)
    header-right = record { shape = ok; step = step; counts = counts-most sh qs; cells = refl }

    -- the losses measured are none above the closed ones, so it takes them
    pub measured-fit : LossesFit (header_for sh curve e qs) (some (losses_for sh qs))
    unfolding losses_for
    measured-fit =
        let h = header_for sh curve e qs in
        let counted : closed (planes_for sh qs) (layers sh) ≡ closed (planes_of h) (layers sh) =
        laid_same (λ k d. loss d) (λ k d. loss d) (planes_for sh qs) (planes_of h) (layers sh) (λ k l. sym (counts-at sh qs k (omega (arith, layers-few header-right)))) (λ k j _ _. refl) in
        rw (← counted) (laid-within (planes_for sh qs) (measured_loss sh qs) (λ k d. loss d) (layers sh) (λ k j _ _. measured-most sh qs k (suc j)))

    pub card-length : length (card_of sh curve e qs) ≡ length (header_text (header_for sh curve e qs) (some (losses_for sh qs))) + length (body (header_for sh curve e qs) qs)
    unfolding card_of
    card-length = length-append (header_text (header_for sh curve e qs) (some (losses_for sh qs))) (body (header_for sh curve e qs) qs)

-- ---- what is put: a header's text with its losses and the planes from rows, where both fit; else nothing
module _ (h : Header) (r : well_formed h ≡ true) (ls : List ℕ) (fits : TextFits h ls) (rows : List ℕ) where
  abbrev text : List ℕ
  text = header_text h (some ls)

  abbrev planes : List ℕ
  planes = in_order h (row_plane h.shape rows)

  pub planes-long : length planes ≡ cell_bytes * h.cells
  planes-long = let ok = right-yes h r in rows-length h rows (few-planes ok) ∙ ap (λ (n : ℕ). cell_bytes * n) (sym ok.cells)

  flat-length : length (flat_card h ls rows) ≡ length text + cell_bytes * h.cells
  unfolding flat_card
  flat-length = length-append text planes ∙ ap (λ (n : ℕ). length text + n) planes-long

  pub flat-few : length text + cell_bytes * h.cells ≤ text_room + cell_bytes * cells_most
  flat-few = omega (arith, fits.text, right-cells (right-yes h r))

  pub flat-none : (out : List ℕ) → length out < length text + cell_bytes * h.cells → (0 ≡ after out 0 (flat_card h ls rows)) × (out ≡ putting out 0 (flat_card h ls rows))
  flat-none out l = let over = put-over out 0 (flat_card h ls rows) (omega (arith, flat-length)) in (sym over.0, sym over.1)

  pub flat-all : (out : List ℕ) → length text + cell_bytes * h.cells ≤ length out → (n : ℕ) (mid end : List ℕ) → mid ≡ putting out 0 text
      → n ≡ length text + length planes → end ≡ sets mid (length text) planes → (n ≡ after out 0 (flat_card h ls rows)) × (end ≡ putting out 0 (flat_card h ls rows))
  flat-all out l n mid end a x b =
      let whole : sets (sets out 0 text) (0 + length text) planes ≡ sets out 0 (flat_card h ls rows) =
      unfold flat_card in (sets-sets out 0 text planes) in
      let from : length text ≡ 0 + length text = omega arith in
      let put = put-fits out 0 text (omega arith) in
      let all = put-fits out 0 (flat_card h ls rows) (omega (arith, flat-length)) in (
        omega (arith, x, planes-long, flat-length, all.0),
        b ∙ ap₂ (λ (x : List ℕ) (m : ℕ). sets x m planes) (a ∙ put.1) from
            ∙ whole ∙ sym all.1,
      )

none-put : (out : List ℕ) → (0 ≡ after out 0 []) × (out ≡ putting out 0 [])
none-put out = let none = put-fits out 0 [] (omega arith) in (sym none.0, sym none.1)

-- ---- no card of a shape, a step or a length that is not right
module _ (sh : Shape) (e : ℕ) (curve : Curve) (qs : List ℤ) (out : List ℕ) where
  abbrev NonePut : Type 0
  NonePut = (0 ≡ after out 0 (card_for sh curve e qs)) × (out ≡ putting out 0 (card_for sh curve e qs))

  card-unsettled : settled sh e ≡ false → NonePut
  unfolding card_for
  card-unsettled n = rw n (none-put out)

  pub card-unshaped : accepted sh ≡ false → NonePut
  card-unshaped n = card-unsettled (unfold settled in (and-no-left (accepted sh) (leb e step_most) n))

  pub card-unstepped : step_most < e → NonePut
  card-unstepped l = card-unsettled (unfold settled in (and-no-right (accepted sh) (leb e step_most) (lt-leb e step_most l)))

  pub card-unfilled : full sh qs ≡ false → NonePut
  unfolding card_for
  card-unfilled n = rw (and-no-right (settled sh e) (full sh qs && all_held qs) (and-no-left (full sh qs) (all_held qs) n)) (none-put out)

-- ---- the card of coefficients, by way of the words
module _ (sh : Shape) (e : ℕ) (settles : settled sh e ≡ true) (curve : Curve) (qs : List ℤ) (filled : full sh qs ≡ true) where
  pub card-unheld : (out : List ℕ) → all_held qs ≡ false → (0 ≡ after out 0 (card_for sh curve e qs)) × (out ≡ putting out 0 (card_for sh curve e qs))
  unfolding card_for
  card-unheld out n = rw (settles, filled, n) (none-put out)

  module _ (held : all_held qs ≡ true) (each : (p : ℕ) → holds places_most (at qs p) ≡ true) (ws : List ℕ) (all : Gathered sh qs ws)
      (planes : List ℕ) (counted : planes ≡ tabulate layers_most (count_at sh ws)) (cells : ℕ) (named : cells ≡ cells_named sh planes) where
    abbrev H : Header
    H = header_for sh curve e qs

    abbrev made : Header
    made = record { shape = sh; curve = curve; step = e; planes = planes; cells = cells }

    ok : accepted sh ≡ true
    ok = (settled-yes sh e settles).0

    step : e ≤ step_most
    step = (settled-yes sh e settles).1

    planes-are : planes ≡ counts_for sh qs
    planes-are = counted ∙ counts_same sh ok qs ws all each

    -- the header made is the one of the coefficients
    made-is : made ≡ H
    made-is =
        ap₂ (λ (a : List ℕ) (b : ℕ). record { shape = sh; curve = curve; step = e; planes = a; cells = b }) planes-are
        (named ∙ ap (cells_named sh) planes-are ∙ cells-named sh ok qs)

    right : WellFormed H
    right = header-right sh ok qs curve e step

    pub made-right : well_formed made ≡ true
    made-right = ap well_formed made-is ∙ right_by H right

    -- and with the losses measured of the words
    module _ (ls : List ℕ) (told : ls ≡ laid (measured_at sh ws) (λ k. get_or planes k 0) (layers sh)) where
      losses-are : ls ≡ losses_for sh qs
      losses-are =
          told
          ∙ losses-same sh ok qs ws all each (λ k. get_or planes k 0) (λ k l. ap (λ (x : List ℕ). get_or x k 0) planes-are ∙ counts-at sh qs k (omega (arith, layers-few right)))

      pub made-fits : TextFits made ls
      made-fits =
          let fit = measured-fit sh ok qs curve e step in
          rw (losses-are, made-is) (record { losses = omega (arith, losses-fit right (losses_for sh qs) fit); text = omega (arith, right-fits right (some (losses_for sh qs)) fit) })

      pub card-is : (n : ℕ) → RowsEnd sh planes n → flat_card made ls (rows_of ws n) ≡ card_for sh curve e qs
      unfolding flat_card card_for card_of
      card-is n rows =
          rw (settles, filled, held, losses-are)
          (ap (λ (h : Header). header_text h (some (losses_for sh qs)) ++ in_order h (row_plane h.shape (rows_of ws n))) made-is
          ∙ ap (λ (x : List ℕ). header_text H (some (losses_for sh qs)) ++ x) (flat-body H ok (few-planes right) qs ws all (λ j _. each j) n (rw planes-are at rows)))
