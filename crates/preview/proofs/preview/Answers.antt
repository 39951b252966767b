-- By the lengths of coefficients and values: where they cannot both be right that is refused, behind opening; and else a copy, for which there is room, is refined into the third slice.
use Rattle.std.proofs.Common.{◌≡◌, refl, ap, ◌∙◌, List, ℤ, arith}
use Rattle.std.specs.Prelude.{Result, Ok, Err}
use Rattle.header.specs.declared.Refusal.{Refusal}
use Rattle.card.specs.declared.Reached.{Reached}
use Rattle.card.specs.Reading.{as_reading}
use Rattle.preview.specs.Previewing.{not_previewed, seen, as_previewing}
use Rattle.preview.proofs.PreviewCall.{copy_seen, lengths-refused}
use Rattle.preview.proofs.preview.Goals as goal
use Rattle.preview.proofs.preview.Goals.{then-n-gt-MOST_POINTS-via-then-n-gt-MOST_POINTS, then-n-gt-MOST_POINTS-via-else-n-gt-MOST_POINTS+then-values-n}

pub returns-then-n-gt-MOST_POINTS : goal.returns-then-n-gt-MOST_POINTS
returns-then-n-gt-MOST_POINTS c =
    let qs = c.args.coefficients.now in
    let vs = c.args.values.now in
    let ns = c.args.next.now in
    ap (not_previewed qs vs ns) c.length_refusal.ensures
    ∙ lengths-refused qs vs ns c.args.bytes.now c.args.plan c.args.layer (λ few same.
    elim c.then-n-gt-MOST_POINTS.branch [
      | then-n-gt-MOST_POINTS-via-then-n-gt-MOST_POINTS w ↦ omega arith
      | then-n-gt-MOST_POINTS-via-else-n-gt-MOST_POINTS+then-values-n w ↦ omega arith
    ])

-- what a copy answers is what is seen of it
as_seen : (r : Result Reached Refusal) (qs vs ns cs next : List ℤ) → as_previewing r qs vs next ≡ seen qs vs ns (as_reading r cs next)
as_seen (Ok r) qs vs ns cs next = refl
as_seen (Err r) qs vs ns cs next = refl

pub returns : goal.returns
returns c =
    let qs = c.args.coefficients.now in
    let vs = c.args.values.now in
    let ns = c.args.next.now in
    as_seen c.refine_copy.result qs vs ns _ c.refine_copy.new.next
    ∙ ap (seen qs vs ns) c.refine_copy.ensures
    ∙ copy_seen qs vs ns c.args.bytes.now c.args.plan c.args.layer c.if-values-n.false
