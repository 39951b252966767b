-- Before any count the row holds nothing, a pass tries one more, and after the last it is filled. No pass goes past the row, since no plan has more cells than a row has entries.
use Rattle.std.proofs.Common.{◌≡◌, ◌+◌, ◌-◌, ◌*◌, ◌≤◌, ℕ, suc, List, length, get_or, take, drop, ap, subst, ◌∙◌, add-one, arith, rules, length-take}
use borrow.Rule.Slice.PartMut.{put_mid}
use Rattle.header.specs.Header.{planes_of}
use Rattle.header.specs.Workings.{cells_most}
use Rattle.header.proofs.WellFormed.{right-yes}
use Rattle.figure.specs.Workings.{charge_in}
use Rattle.figure.proofs.LayerRules.{carry-double, charge-told, charge-most}
use Rattle.planner.specs.Workings.Table.{Layers, layers_of, Tried, Passed, none, best, row_length}
use Rattle.planner.proofs.RisingCarry.{header-rising}
use Rattle.planner.proofs.Entries.{best-most}
use Rattle.planner.proofs.Passing.{pass-as, pass-part, tried-more, used-fits}
use Rattle.planner.proofs.Filling.{tried-none, tried-all}
use Rattle.planner.proofs.table.fill_row.Goals as goal
use Rattle.planner.proofs.table.fill_row.Goals.{In-loop-n}

module _ (c : In-loop-n) where
  abbrev L : Layers
  L = layers_of c.args.header c.args.losses.now

  within : c.loop-n.n ≤ planes_of c.args.header c.args.k
  within = omega arith

  used-is : c.loop-n.n * c.args.span ≡ c.loop-n.n * L.span c.args.k
  used-is = ap (λ (w : ℕ). c.loop-n.n * w) c.requires.header_value.3

  room : c.loop-n.n * c.args.span + c.args.reach ≤ cells_most
  room = omega (arith, used-is, used-fits c.args.header c.args.losses.now c.requires.header_value.0 c.args.k c.loop-n.n c.requires.header_value.1 within, c.requires.header_value.4)

  abbrev to : ℕ
  to = (c.args.k + 1) * row_length + c.loop-n.n * c.args.span

  abbrev many : ℕ
  many = to + c.args.reach + 1 - to

  module _ {own : ℕ} (told : own ≡ charge_in c.args.losses.now c.args.first (planes_of c.args.header c.args.k) c.loop-n.n c.args.header.step) where
    own_is : own ≡ L.charge c.args.k c.loop-n.n
    own_is = told ∙ charge-told (right-yes c.args.header c.requires.header_value.0) c.args.losses.now c.args.k c.loop-n.n c.requires.header_value.1 c.args.first c.requires.header_value.2 within

    own-small : own ≤ none
    own-small = omega (arith, own_is, charge-most (right-yes c.args.header c.requires.header_value.0) c.args.losses.now c.args.k c.loop-n.n c.requires.header_value.1 (λ i. omega (arith, c.type_inv.losses i)))

    -- one count more is tried
    turn : {part : List ℕ} → (let row = take many (drop to c.loop-n.t) in Passed (λ b. get_or c.args.held.now b 0 + own) 0 row part (length row)) → Tried L (put_mid to many c.loop-n.t part) c.args.k (suc c.loop-n.n)
    turn {part} p =
        let h = room in
        tried-more L (header-rising c.args.header c.args.losses.now) c.args.k c.loop-n.n _
        (λ b m. omega (arith, c.requires.held.is b (omega (arith, c.requires.header_value.4)), own_is))
        c.loop-n.t _ c.loop-n.invariant
        (pass-as _ _ _ _ _ _ _ (omega (arith, used-is)) (omega (arith, c.requires.header_value.4)) (pass-part _ to (c.args.reach + 1) many c.loop-n.t part (omega arith) (omega arith) p))
        (omega (arith, h, used-is, c.requires.header_value.4))

pub loop-n-init : goal.loop-n-init
loop-n-init c = tried-none (layers_of c.args.header c.args.losses.now) c.args.t.now c.args.k c.requires.header_value.1 c.requires.rows

pub overflow_mul-to-in-loop-n : goal.overflow_mul-to-in-loop-n
overflow_mul-to-in-loop-n c = let h = room (goal.at.overflow_mul-to-in-loop-n c).In-loop-n in omega arith

pub overflow_add-to-in-loop-n : goal.overflow_add-to-in-loop-n
overflow_add-to-in-loop-n c = let h = room (goal.at.overflow_add-to-in-loop-n c).In-loop-n in omega arith

pub overflow_add-to-in-loop-n-2 : goal.overflow_add-to-in-loop-n-2
overflow_add-to-in-loop-n-2 c = let h = room (goal.at.overflow_add-to-in-loop-n-2 c).In-loop-n in omega arith

pub overflow_add-to-in-loop-n-3 : goal.overflow_add-to-in-loop-n-3
overflow_add-to-in-loop-n-3 c = let h = room (goal.at.overflow_add-to-in-loop-n-3 c).In-loop-n in omega arith

pub offset_bounds-t-to : goal.offset_bounds-t-to
offset_bounds-t-to c = let h = room (goal.at.offset_bounds-t-to c).In-loop-n in omega arith

pub slice_bounds-pass-end : goal.slice_bounds-pass-end
slice_bounds-pass-end c = let h = room (goal.at.slice_bounds-pass-end c).In-loop-n in search rules

pub pass-requires : goal.pass-requires
pass-requires c =
    let i = (goal.at.pass-requires c).In-loop-n in
    let h = room i in
    let few = length-take (many i) (drop (to i) c.loop-n.t) in
    let L = layers_of c.args.header c.args.losses.now in (
      omega (arith, few, c.requires.held.long),
      own-small i c.charge-own.ensures,
      λ b l. omega (arith, few, c.requires.held.is b (omega (arith, few)), carry-double c.args.header c.args.k (best L c.args.k b), best-most L c.args.k b),
    )

pub loop-n-preserved : goal.loop-n-preserved
loop-n-preserved c = rw (add-one c.loop-n.n) (turn (goal.at.loop-n-preserved c).In-loop-n c.charge-own.ensures c.pass.ensures)

pub returns-2 : goal.returns-2
returns-2 c =
    let all : c.loop-n.n ≡ planes_of c.args.header c.args.k = omega arith in
    let i = (goal.at.returns-2 c).In-loop-n in
    let tried : Tried (layers_of c.args.header c.args.losses.now) (put_mid (to i) (many i) c.loop-n.t c.pass.new.entries) c.args.k (suc c.loop-n.n) = turn i c.charge-own.ensures c.pass.ensures in
    tried-all (layers_of c.args.header c.args.losses.now) _ c.args.k (subst (λ (n : ℕ). Tried (layers_of c.args.header c.args.losses.now) (put_mid (to i) (many i) c.loop-n.t c.pass.new.entries) c.args.k (suc n)) all tried)
