-- Where the table is filled its entries are at most `none`, so that what they are carried to fits.
use Rattle.std.proofs.Common.{◌≡◌, ◌+◌, ◌-◌, ◌*◌, length, take, drop, ap, ◌∙◌, le_refl, arith}
use Rattle.std.proofs.lemmas.List.{places}
use Rattle.figure.specs.Workings.{carry_of}
use Rattle.figure.proofs.LayerRules.{carried-told}
use Rattle.planner.specs.Workings.Table.{layers_of, row_length}
use Rattle.planner.proofs.Entries.{best-most}
use Rattle.planner.proofs.table.carry_row.Goals as goal

pub returns : goal.returns
returns c =
    let h = c.args.header in
    let k = c.args.k in
    λ ls rows. record {
      long = omega arith;
      is = λ b m.
          let all : length (take (c.args.reach + 1) (take ((c.args.k + 1) * row_length - c.args.k * row_length) (drop (c.args.k * row_length) c.args.t.now))) ≡ c.args.reach + 1 = grind (arith, places) in
          let held = rows.held k b (le_refl k) (omega arith) in
          c.loop-c.invariant b (omega arith)
          ∙ carried-told h k c.rule_of-rule.result _ c.rule_of-rule.ensures (omega (arith, held, best-most (layers_of h ls) k b))
          ∙ ap (carry_of h k) held;
    }
