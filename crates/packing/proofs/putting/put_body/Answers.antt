-- The planes from place p - 1 down are those of that place and those below it (`down-more`), so storing them one behind the other stores them all (`sets-sets`).
use Rattle.std.proofs.Common.{◌≡◌, ◌+◌, ◌-◌, ◌<◌, ℕ, List, [], ◌++◌, suc, refl, arith, sym, ap, ap₂, ◌∙◌, length, length-append}
use Rattle.std.proofs.lemmas.List.Edits.{sets}
use Rattle.sheet.specs.Sheet.{layers}
use Rattle.header.specs.declared.Header.{Header}
use Rattle.order.specs.CardOrder.{at_place, down_from}
use Rattle.order.proofs.Listed.{down-more}
use Rattle.text.proofs.Stores.{sets-sets}
use Rattle.packing.specs.Workings.Words.{row_plane}
use Rattle.packing.proofs.putting.put_body.Goals as goal

module _ (h : Header) (rows : List ℕ) where
  abbrev places : ℕ → List ℕ
  places = down_from h (row_plane h.shape rows)

  -- the planes of the next place
  abbrev next : ℕ → List ℕ
  next p = at_place h (row_plane h.shape rows) (p - 1) (layers h.shape)

  split : (p : ℕ) → 0 < p → places p ≡ next p ++ places (p - 1)
  split p l = let e : p ≡ suc (p - 1) = omega arith in ap places e ∙ down-more h (row_plane h.shape rows) (p - 1)

  split-length : (p : ℕ) → 0 < p → length (places p) ≡ length (next p) + length (places (p - 1))
  split-length p l = ap length (split p l) ∙ length-append (next p) (places (p - 1))

pub loop-p-init : goal.loop-p-init
loop-p-init c = (refl, refl)

pub put_place-to-requires-clause-shape_in_bounds : goal.put_place-to-requires-clause-shape_in_bounds
put_place-to-requires-clause-shape_in_bounds c =
    omega (arith, c.requires.rows_in_bounds, c.loop-p.invariant.0, c.loop-p.auto.out, split-length c.args.header c.args.rows.now c.loop-p.p c.loop-p-test.true)

pub loop-p-preserved : goal.loop-p-preserved
loop-p-preserved c =
    let h = c.args.header in
    let rows = c.args.rows.now in
    let p = c.loop-p.p in
    let l : 0 < p = c.loop-p-test.true in (
      omega (arith, c.put_place-to.ensures.0, c.loop-p.invariant.0, split-length h rows p l),
      ap₂ (λ (o : List ℕ) (n : ℕ). sets o n (places h rows (p - 1))) c.put_place-to.ensures.1 c.put_place-to.ensures.0
          ∙ sets-sets c.loop-p.out c.loop-p.to (next h rows p) (places h rows (p - 1))
          ∙ ap (sets c.loop-p.out c.loop-p.to) (sym (split h rows p l))
          ∙ c.loop-p.invariant.1,
    )

pub returns : goal.returns
unfolding down_from
returns c =
    let none : c.loop-p.p ≡ 0 = omega arith in
    let e : places c.args.header c.args.rows.now c.loop-p.p ≡ [] = ap (places c.args.header c.args.rows.now) none in
    (omega (arith, c.loop-p.invariant.0, ap length e), sym (ap (sets c.loop-p.out c.loop-p.to) e) ∙ c.loop-p.invariant.1)
