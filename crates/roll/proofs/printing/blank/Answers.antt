-- The part has spaces, and byte 10 stands behind them.
use Rattle.std.proofs.Common.{rules, ◌≡◌, ℕ, ◌+◌, ◌-◌, List, ◌∷◌, [], length, set, take, drop, ap, ◌∙◌, arith, length-take, length-drop}
use Rattle.std.proofs.Math.ListN.{replicate, length-replicate}
use Rattle.std.proofs.lemmas.List.Edits.{sets}
use Rattle.sheet.proofs.Arrays.{put_part}
use Rattle.text.specs.Line.{newline}
use Rattle.text.specs.Text.{space}
use Rattle.text.proofs.Stores.{sets-sets}
use Rattle.roll.specs.Page.{line_places}
use Rattle.roll.specs.Workings.{blank_line}
use Rattle.roll.proofs.printing.blank.Goals as goal

pub returns : goal.returns
unfolding blank_line
returns c =
    let a = c.args in
    let page = a.page.now in
    let long : length (take (a.at + 24 - a.at) (drop a.at page)) ≡ line_places = omega (arith, length-take {A = ℕ}, length-drop {A = ℕ}) in
    let spaces = c.fill.ensures.after (λ y k. search rules) ∙ ap (λ (n : ℕ). replicate n space) long in
    let part = put_part a.at (a.at + 24 - a.at) page c.fill.new.self (replicate line_places space) spaces (omega (arith, length-replicate {A = ℕ} line_places space)) (omega arith) in
    let behind : a.at + 24 ≡ a.at + length (replicate line_places space) = omega (arith, length-replicate {A = ℕ} line_places space) in
    ap (λ (p : List ℕ). set p (a.at + 24) newline) part ∙ ap (λ (n : ℕ). set (sets page a.at (replicate line_places space)) n newline) behind ∙ sets-sets page a.at (replicate line_places space) (newline ∷ [])
