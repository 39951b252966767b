-- The key, the numbers and byte 10, each put behind what stands (`put-text`); the line's length is that of its parts, so each fits.
use mathlib.Core.List.{◌++◌}
use mathlib.Core.Path.{◌≡◌, ◌∙◌}
use Prim.Native.Nat.{◌+◌, ◌≤◌}
use native.Mathlib.Omega.{arith}
use lib.ListN.{length, length-set, length-append}
use borrow.Author.Rules.{rules}
use Rattle.text.specs.Joined.{joined}
use Rattle.text.proofs.Stores.{Put, put-none, put-text, put_byte}
use Rattle.header.specs.Header.{ascii_from, ascii, loss_text}
use Rattle.header.proofs.TextLength.{loss-length}
use Rattle.header.proofs.printing.put_losses.Statement.{statement}
use Rattle.header.proofs.printing.put_losses.Tie as tie

abbrev S : tie.After-put-from → tie.Start
S c = c.before.before.before.before.before.before

abbrev B : tie.After-put_joined-end → tie.After-put-from
B c = c.before.before.before.before

room : (s : tie.Start) → s.args.at + 6 + length (joined s.args.losses.now) ≤ length s.args.out.now
room s = omega (arith, s.requires, loss-length s.args.losses.now)

key : (b : tie.After-put-from) → Put (S b).args.out.now (S b).args.at (ascii "loss=") b.put-from.new.out b.put-from.result
unfolding ascii_from
key b =
    let s = S b in
    put-text (ascii "loss=") _ _ (put-none s.args.out.now s.args.at) (omega (arith, room s)) b.put-from.ensures.0 b.put-from.ensures.1

numbers : (n : tie.After-put_joined-end) → (let s = S (B n) in Put s.args.out.now s.args.at (ascii "loss=" ++ joined s.args.losses.now) n.put_joined-end.new.out n.put_joined-end.result)
numbers n =
    let b = B n in
    let s = S b in
    put-text (joined s.args.losses.now) _ _ (key b) (unfold ascii_from in (omega (arith, room s, (key b).ends, b.put-from.auto.out))) n.put_joined-end.ensures.0 n.put_joined-end.ensures.1

ends : (n : tie.After-put_joined-end) → (let s = S (B n) in n.put_joined-end.result ≡ s.args.at + 5 + length (joined s.args.losses.now))
unfolding ascii_from
ends n = let s = S (B n) in omega (arith, (numbers n).ends, length-append (ascii "loss=") (joined s.args.losses.now))

put-requires : tie.Need-put-from-requires
put-requires c κs = search rules

put-joined-requires : tie.Need-put_joined-end-requires
put-joined-requires c κs = search rules

slice-write-out : tie.Need-bounds-out-end
slice-write-out c = let n = c.before.before in omega (arith, room (S (B n)), ends n, (B n).put-from.auto.out, n.put_joined-end.auto.out)

add-result : tie.Need-overflow_add-result
add-result c = let n = c.before.before in let s = S (B n) in omega (arith, room s, ends n, s.well_formed.0.0)

same_length : tie.Need-shape_of-out
same_length c = let n = c.before.before in simp length-set (n.put_joined-end.auto.out ∙ (B n).put-from.auto.out)

returns : tie.Need-returns
unfolding loss_text ascii_from
returns c = let all = put_byte _ (numbers c.before.before) in (all.ends, all.stands)

pub put_losses_spec : {M : Type 1} → statement M
put_losses_spec =
    tie.close (tie.spec put-requires put-joined-requires slice-write-out add-result same_length returns)
