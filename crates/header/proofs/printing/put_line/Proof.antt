-- The key, the number and byte 10, each put behind what stands (`put-text`); the line's length is that of its parts, so each fits.
use mathlib.Core.List.{◌++◌}
use mathlib.Core.Path.{◌∙◌}
use native.Mathlib.Omega.{arith}
use lib.ListN.{length-set, length-append}
use borrow.Author.Rules.{rules}
use Rattle.text.specs.Line.{line_text}
use Rattle.text.specs.Decimal.{decimal}
use Rattle.text.proofs.Lines.{line-length}
use Rattle.text.proofs.Stores.{Put, put-none, put-text, put_byte}
use Rattle.header.proofs.printing.put_line.Statement.{statement}
use Rattle.header.proofs.printing.put_line.Tie as tie

abbrev S : tie.After-put-from → tie.Start
S c = c.before.before.before.before

abbrev B : tie.After-put_number-end → tie.After-put-from
B c = c.before.before.before.before

key : (b : tie.After-put-from) → Put (S b).args.out.now (S b).args.at (S b).args.key.now b.put-from.new.out b.put-from.result
key b =
    let s = S b in
    put-text s.args.key.now _ _ (put-none s.args.out.now s.args.at) (omega (arith, s.requires, line-length s.args.key.now s.args.n)) b.put-from.ensures.0 b.put-from.ensures.1

number : (n : tie.After-put_number-end) → (let s = S (B n) in Put s.args.out.now s.args.at (s.args.key.now ++ decimal s.args.n) n.put_number-end.new.out n.put_number-end.result)
number n =
    let b = B n in
    let s = S b in
    put-text (decimal s.args.n) _ _ (key b) (omega (arith, s.requires, (key b).ends, b.put-from.auto.out, line-length s.args.key.now s.args.n)) n.put_number-end.ensures.0 n.put_number-end.ensures.1

put-requires : tie.Need-put-from-requires
put-requires c κs = search rules

put-number-requires : tie.Need-put_number-end-requires
put-number-requires c κs = search rules

slice-write-out : tie.Need-bounds-out-end
slice-write-out c =
    let n = c.before.before in
    let s = S (B n) in
    omega (arith, s.requires, (B n).put-from.auto.out, n.put_number-end.auto.out, (number n).ends, length-append s.args.key.now (decimal s.args.n), line-length s.args.key.now s.args.n)

add-result : tie.Need-overflow_add-result
add-result c =
    let n = c.before.before in
    let s = S (B n) in
    omega (arith, s.requires, s.well_formed.0.0, (number n).ends, length-append s.args.key.now (decimal s.args.n), line-length s.args.key.now s.args.n)

same_length : tie.Need-shape_of-out
same_length c = simp length-set (c.before.before.put_number-end.auto.out ∙ (B c.before.before).put-from.auto.out)

returns : tie.Need-returns
unfolding line_text
returns c = let all = put_byte _ (number c.before.before) in (all.ends, all.stands)

pub put_line_spec : {M : Type 1} → statement M
put_line_spec =
    tie.close (tie.spec put-requires put-number-requires slice-write-out add-result same_length returns)
