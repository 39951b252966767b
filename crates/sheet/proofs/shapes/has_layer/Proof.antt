-- The call decides the first half of the condition; an accepted shape has as many layers as are counted.
use mathlib.Core.Path.{◌≡◌, sym, ◌∙◌}
use mathlib.Core.Bool.{true}
use borrow.Author.Rules.{rules}
use Rattle.sheet.specs.Sheet.{accepted, layers}
use Rattle.sheet.proofs.Accepting.{count-is}
use Rattle.sheet.proofs.shapes.has_layer.Statement.{statement}
use Rattle.sheet.proofs.shapes.has_layer.Tie as tie

accepted-requires : tie.Need-accepted-requires
accepted-requires c κs = search rules

layer-count-requires : tie.Need-layer_count-requires
layer-count-requires c κs = search rules

returns : tie.Need-returns-then-accepted
returns c =
    let i = c.before in
    let sh = i.before.before.args.shape in
    let yes : accepted sh ≡ true = sym i.before.accepted.ensures ∙ i.if-accepted.true in
    let all : c.layer_count.result ≡ layers sh = c.layer_count.ensures ∙ count-is sh yes in
    simp (yes, all)

returns-2 : tie.Need-returns
returns-2 c = simp (sym c.before.accepted.ensures ∙ c.if-accepted.false)

pub has_layer_spec : {M : Type 1} → statement M
has_layer_spec =
    tie.close (tie.spec accepted-requires layer-count-requires returns returns-2)
