-- The words that are kept are the words, and the table is that of their place.
use Rattle.std.proofs.Common.{refl, ◌∙◌}
use Rattle.loading.proofs.HalfBytes.{half-small, with-added}
use Rattle.loading.proofs.adding.AddingTaking.take.Goals as goal

pub add_bytes-requires : goal.add_bytes-requires
add_bytes-requires c =
    let t = c.requires in
    let words = t.kept.0 in
    let table = t.kept.1 t.place refl in (
      t.few,
      rw words t.room,
      t.there,
      λ i. rw table (half-small t.place t.low i),
      λ j. rw words (t.small j),
    )

pub returns : goal.returns
returns c ws p k = (c.add_bytes.ensures ∙ rw (k.0, k.1 p refl) (with-added p ws c.args.start _ c.args.bytes.now c.args.from), k.1)
