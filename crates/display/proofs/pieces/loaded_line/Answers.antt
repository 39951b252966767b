-- The key, a count for each layer, and the line's end: all of it fits, since a u64 has at most `characters_most` characters (`most`).
use Rattle.std.proofs.Common.{◌≡◌, [], ◌∷◌, ◌++◌, ℕ, ◌+◌, ◌*◌, ◌≤◌, List, length, take, get_or, Fits, w64, arith, rules}
use Rattle.std.proofs.Math.ListN.{length-take}
use Rattle.std.proofs.Math.Seq.{get_or-take}
use Rattle.sheet.specs.Limits.{layers_most}
use Rattle.sheet.specs.declared.Shape.{Shape}
use Rattle.sheet.specs.Workings.Shapes.{layer_count}
use Rattle.sheet.proofs.LayerCounts.{count-few, count-take}
use Rattle.text.specs.Workings.{characters_most}
use Rattle.text.specs.Line.{newline}
use Rattle.text.specs.Joined.{joined}
use Rattle.text.proofs.Digits.{length_most}
use Rattle.text.proofs.Joins.{joined_length}
use Rattle.header.specs.Header.{ascii_from, ascii}
use Rattle.display.specs.Shown.{loaded_text}
use Rattle.display.proofs.Behind.{long, extended-more, holds}
use Rattle.display.proofs.pieces.loaded_line.Goals as goal

-- the counts of a sheet's layers, commas between
most : (sh : Shape) (counts : List ℕ) {n : ℕ} → n ≡ layer_count sh → ((k : ℕ) → Fits w64 (get_or counts k 0)) → length (joined (take n counts)) ≤ (characters_most + 1) * layers_most
most sh counts {n} e small =
    omega (
      arith,
      count-few sh,
      length-take n counts,
      joined_length characters_most (take n counts) (λ i l. rw (get_or-take n counts i 0 (omega (arith, length-take n counts))) (length_most (get_or counts i 0) (small i).fits)),
    )

pub shared_ref_as_front-planes : goal.shared_ref_as_front-planes
shared_ref_as_front-planes c = omega (arith, count-few c.args.shape)

pub with_list-requires : goal.with_list-requires
with_list-requires c =
    omega (arith, long c.with_text.ensures, long c.nothing.ensures, most c.args.shape c.args.plan.planes c.layer_count.ensures (λ k. search rules))

pub with_text-requires-2 : goal.with_text-requires-2
with_text-requires-2 c =
    omega (arith, long c.with_list.ensures, long c.with_text.ensures, long c.nothing.ensures, most c.args.shape c.args.plan.planes c.layer_count.ensures (λ k. search rules))

pub returns : goal.returns
unfolding loaded_text ascii_from
returns c =
    let planes = c.args.plan.planes in
    let key = ascii "loaded=" in
    let counts = joined (take c.layer_count.result planes) in
    let empty = c.nothing.result in
    let full : length planes ≡ layers_most = search rules in
    rw (← count-take c.args.shape planes full, ← c.layer_count.ensures)
    (holds (key ++ counts ++ newline ∷ []) c.nothing.ensures
    (extended-more empty (key ++ counts) (newline ∷ []) (extended-more empty key counts c.with_text.ensures c.with_list.ensures) c.with_text-2.ensures)
    (omega (arith, long c.with_text-2.ensures, long c.with_list.ensures, long c.with_text.ensures, long c.nothing.ensures, most c.args.shape planes c.layer_count.ensures (λ k. search rules))))
