-- The first six lines, the losses and the cells, each put behind what stands (`put-more`). There is room for all: a line of losses has 6 bytes beside its numbers, and a line of cells at most 27.
use mathlib.Core.List.{List}
use mathlib.Core.Option.{some}
use mathlib.Core.Path.{refl}
use Prim.Native.Nat.{ℕ, ◌+◌, ◌<◌, ◌≤◌, ◌^◌}
use native.Mathlib.Omega.{arith}
use lib.ListN.{length, get_or}
use mir.Syntax.{w64}
use mir.Val.{Fits}
use borrow.Author.Rules.{rules}
use Rattle.text.specs.Decimal.{decimal}
use Rattle.text.specs.Line.{line_text}
use Rattle.text.proofs.Digits.{length_most}
use Rattle.text.proofs.Lines.{line-length}
use Rattle.text.proofs.Stores.{Put, put-more, put_all}
use Rattle.header.specs.declared.Header.{Header}
use Rattle.header.specs.Header.{ascii_from, planes_of, first_lines, loss_text, header_text}
use Rattle.header.proofs.TextLength.{loss-length, first_fits}
use Rattle.header.proofs.printing.put_lines.Statement.{statement}
use Rattle.header.proofs.printing.put_lines.Tie as tie

abbrev S : tie.After-put_first-first → tie.Start
S c = c.before.before.before.before

abbrev F : tie.After-put_losses-end → tie.After-put_first-first
F c = c.before.before.before.before

abbrev H : tie.Start → Header
H s = s.args.header

abbrev lost : tie.Start → List ℕ
lost s = loss_text (some s.args.losses.now)

number : (s : tie.Start) (k : ℕ) → planes_of (H s) k < 2 ^ 64
number s k = let f : Fits w64 (get_or (H s).planes k 0) = search rules in f.fits

room : (s : tie.Start) → length (first_lines (H s)) + length (lost s) + (7 + length (decimal (H s).cells)) ≤ length s.args.out.now
room s =
    omega (
      arith,
      s.requires,
      loss-length s.args.losses.now,
      length_most (H s).cells (search rules),
      first_fits (H s) (search rules) (search rules) (search rules) (search rules) (search rules) (λ k _. number s k),
    )

put-first-requires : tie.Need-put_first-first-requires
put-first-requires c κs = search rules

put-losses-requires : tie.Need-put_losses-end-requires
put-losses-requires c κs = let f = c.before.before.before in omega (arith, room (S f), f.put_first-first.ensures.0, f.put_first-first.auto.out)

put-line-requires : tie.Need-put_line-requires
put-line-requires c κs =
    let l = c.before.before.before.before.before in
    let f = F l in
    simp line-length (omega (arith, room (S f), f.put_first-first.ensures.0, f.put_first-first.auto.out, l.put_losses-end.ensures.0, l.put_losses-end.auto.out))

same_length : tie.Need-shape_of-out
same_length c = search rules

returns : tie.Need-returns
unfolding header_text ascii_from
returns c =
    let e = c.before.before in
    let l = e.before.before.before.before.before.before in
    let f = F l in
    let s = S f in
    let p1 : Put s.args.out.now 0 (first_lines (H s)) f.put_first-first.new.out f.put_first-first.result = record { ends = omega (arith, f.put_first-first.ensures.0); stands = f.put_first-first.ensures.1 } in
    let p2 = put-more (lost s) _ _ p1 l.put_losses-end.ensures.0 l.put_losses-end.ensures.1 in
    let p3 = put-more (line_text _ (H s).cells) _ _ p2 e.put_line.ensures.0 e.put_line.ensures.1 in
    put_all (header_text (H s) (some s.args.losses.now)) p3 refl

pub put_lines_spec : {M : Type 1} → statement M
put_lines_spec =
    tie.close (tie.spec put-first-requires put-losses-requires put-line-requires same_length returns)
