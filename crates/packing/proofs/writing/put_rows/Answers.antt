-- There is room for the text in the array that it is put into first, so its first `length` bytes are the text (`told`); the length and the cells are what is measured, and where they fit the text is put and the planes behind it.
use Rattle.std.proofs.Common.{◌≡◌, ◌≤◌, ℕ, List, arith, sym, ap, ap₂, ◌∙◌, length, take, replicate}
use mathlib.Core.Option.{some}
use lib.ListN.{length-replicate}
use Rattle.std.proofs.lemmas.List.Edits.{sets}
use lib.Seq.{length-sets}
use Rattle.header.specs.declared.Header.{Header}
use Rattle.header.specs.Header.{header_text}
use Rattle.header.specs.Workings.{header_end, putting_header}
use Rattle.header.proofs.HeaderRoom.{header-fits}
use Rattle.header.proofs.WellFormed.{right-yes}
use Rattle.packing.specs.Workings.Words.{text_room, TextFits}
use Rattle.packing.proofs.Runs.{zeros-read}
use Rattle.packing.proofs.Cards.{planes-long, flat-few, flat-none, flat-all}
use Rattle.packing.proofs.writing.put_rows.Goals as goal

-- the text in its room
record Told (text : List ℕ) (n : ℕ) (room : List ℕ) : Type 0 where
  long : n ≡ length text
  is : take n room ≡ text
  within : n ≤ length room

told : (h : Header) (ls : List ℕ) (n : ℕ) (room : List ℕ) → TextFits h ls → n ≡ header_end (replicate text_room 0) h ls → room ≡ putting_header (replicate text_room 0) h ls → Told (header_text h (some ls)) n room
told h ls n room fits e f =
    let text = header_text h (some ls) in
    let zeros : List ℕ = replicate text_room 0 in
    let put = header-fits zeros ls h (omega (arith, fits.losses, length-replicate {A = ℕ} text_room 0)) in
    let long : n ≡ length text = e ∙ put.0 in
    let stands : room ≡ sets zeros 0 text = f ∙ put.1 in
    record {
      long = long;
      is = ap₂ (λ (n : ℕ) (l : List ℕ). take n l) long stands ∙ zeros-read text_room text fits.text;
      within = omega (arith, long, ap length stands, length-sets zeros 0 text, length-replicate {A = ℕ} text_room 0, fits.text);
    }

pub overflow_mul-header : goal.overflow_mul-header
overflow_mul-header c = omega (arith, flat-few c.args.header c.requires.0 c.args.losses.now c.requires.3 c.args.rows.now)

pub overflow_add-length : goal.overflow_add-length
overflow_add-length c =
    let t = told c.args.header c.args.losses.now _ _ c.requires.3 c.put_header-length.ensures.0 c.put_header-length.ensures.1 in
    omega (arith, t.long, flat-few c.args.header c.requires.0 c.args.losses.now c.requires.3 c.args.rows.now)

pub returns-then-output-length : goal.returns-then-output-length
returns-then-output-length c =
    let t = told c.args.header c.args.losses.now _ _ c.requires.3 c.put_header-length.ensures.0 c.put_header-length.ensures.1 in
    flat-none c.args.header c.requires.0 c.args.losses.now c.requires.3 c.args.rows.now c.args.output.now (omega (arith, c.if-output-length.true, t.long))

pub slice_bounds-bytes-end : goal.slice_bounds-bytes-end
slice_bounds-bytes-end c = (told c.args.header c.args.losses.now _ _ c.requires.3 c.put_header-length.ensures.0 c.put_header-length.ensures.1).within

pub slice_bounds-put-end : goal.slice_bounds-put-end
slice_bounds-put-end c =
    let t = told c.args.header c.args.losses.now _ _ c.requires.3 c.put_header-length.ensures.0 c.put_header-length.ensures.1 in
    t.long ∙ sym (ap length t.is)

pub put_body-requires-clause-shape_value : goal.put_body-requires-clause-shape_value
put_body-requires-clause-shape_value c = ((right-yes c.args.header c.requires.0).shape, c.requires.1, c.requires.2)

pub put_body-requires-clause-rows_in_bounds : goal.put_body-requires-clause-rows_in_bounds
put_body-requires-clause-rows_in_bounds c =
    let t = told c.args.header c.args.losses.now _ _ c.requires.3 c.put_header-length.ensures.0 c.put_header-length.ensures.1 in
    omega (arith, c.if-output-length.false, t.long, planes-long c.args.header c.requires.0 c.args.losses.now c.requires.3 c.args.rows.now, c.put.auto.out)

pub returns : goal.returns
returns c =
    let t = told c.args.header c.args.losses.now _ _ c.requires.3 c.put_header-length.ensures.0 c.put_header-length.ensures.1 in
    flat-all c.args.header c.requires.0 c.args.losses.now c.requires.3 c.args.rows.now c.args.output.now (omega (arith, c.if-output-length.false, t.long)) _ _ _
    (rw t.is at c.put.ensures.1)
    (rw t.long at c.put_body.ensures.0)
    (rw t.long at c.put_body.ensures.1)
