-- A row more is stored behind those before it (`sets-next`).
use Rattle.std.proofs.Common.{◌≡◌, ◌+◌, ℕ, List, refl, arith, length, get_or, set, ap, ◌∙◌}
use Rattle.std.proofs.lemmas.List.Edits.{sets}
use Rattle.sheet.specs.Lists.{tabulate}
use Rattle.sheet.proofs.Lists.{length-tabulate}
use Rattle.text.proofs.Stores.{sets-next, sets-whole}
use Rattle.packing.specs.Workings.Words.{row_of}
use Rattle.packing.proofs.rows.turn_eight.Goals as goal

pub loop-r-init : goal.loop-r-init
loop-r-init c = refl

pub overflow_add-words : goal.overflow_add-words
overflow_add-words c = omega (arith, c.requires, c.well_formed)

-- there are eight
eight : (ws rows : List ℕ) (first : ℕ) → rows ≡ tabulate 8 (row_of ws first) → length rows ≡ 8
eight ws rows first e = ap length e ∙ length-tabulate 8 (row_of ws first)

pub loop-r-preserved : goal.loop-r-preserved
loop-r-preserved c =
    let rows = c.rows_of-rows.result in
    ap (λ (o : List ℕ). set o (c.args.first + c.loop-r.r) (get_or rows c.loop-r.r 0)) c.loop-r.invariant
    ∙ sets-next c.args.words.now c.args.first rows c.loop-r.r 0 (omega (arith, eight c.args.words.now rows c.args.first c.rows_of-rows.ensures))

pub returns : goal.returns
returns c =
    let rows = c.rows_of-rows.result in
    c.loop-r.invariant ∙ sets-whole c.args.words.now c.args.first rows c.loop-r.r (omega (arith, eight c.args.words.now rows c.args.first c.rows_of-rows.ensures))
    ∙ ap (sets c.args.words.now c.args.first) c.rows_of-rows.ensures
