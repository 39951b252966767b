-- Values and figure are those of the calls that give them.
use Rattle.std.proofs.Common.{◌≡◌, refl, ap, ◌∙◌, List, ℤ}
use Rattle.std.specs.Prelude.{Result, Ok, Err, ℕ}
use Rattle.std.specs.Result.{result_unwrap_or}
use Rattle.layers.specs.Workings.Calls.{rebuilding}
use Rattle.header.specs.declared.Refusal.{Refusal}
use Rattle.figure.specs.Bounding.{Bounding, as_bounding}
use Rattle.card.proofs.ReadCall.{finished-yes}
use Rattle.card.proofs.reading.finish.Goals as goal

figure-or : (r : Result ℕ Refusal) → result_unwrap_or r 0 ≡ (as_bounding r).figure
figure-or (Ok n) = refl
figure-or (Err w) = refl

pub returns : goal.returns
returns c =
    let a = c.args in
    let h = a.header in
    let qs = a.coefficients.now in
    let vs = a.values.now in
    finished-yes h a.losses.now a.plan qs vs _ _
    (c.rebuild.ensures.1 ∙ ap (λ (more : List ℤ). rebuilding h.shape h.curve h.step more qs vs) c.middles-more.ensures)
    (c.unwrap_or.ensures ∙ figure-or c.error_bound.result ∙ ap (λ (x : Bounding). x.figure) c.error_bound.ensures)
