-- Demand 1, its second sentence: each call is a choice of answers, and every one of them either hands back the slices that it was given or has the number 0.
use mathlib.Core.Bool.{false, cond, ◌&&◌}
use mathlib.Core.List.{List}
use mathlib.Core.Path.{◌≡◌, refl}
use Prim.Native.Nat.{ℕ, suc, ◌-◌}
use borrow.Author.Tests.{eqb-true}
use lib.Dec.{ltb, eqb}
use lib.IntN.{ℤ}
use lib.ListN.{length}
use Rattle.integers.proofs.Bools.{choice, not_yes}
use Rattle.sheet.specs.declared.Shape.{Shape}
use Rattle.sheet.specs.declared.Curve.{Curve}
use Rattle.sheet.specs.declared.Curve.TheVariants.{Linear, Cubic}
use Rattle.sheet.specs.Limits.{layers_most}
use Rattle.sheet.specs.Sheet.{sheet_of, layers}
use Rattle.std.specs.Prelude.{Option, None, Some}
use Rattle.layers.specs.declared.Place.{Place}
use Rattle.layers.specs.Samples.{scanned}
use Rattle.header.specs.declared.Header.{Header}
use Rattle.header.specs.declared.Plan.{Plan}
use Rattle.header.specs.declared.Details.{Details}
use Rattle.header.specs.Header.{planes_of}
use Rattle.header.specs.Plan.{loads}
use Rattle.header.specs.Opening.{opening}
use Rattle.order.specs.CardOrder.{slots, whole_of}
use Rattle.packing.specs.Planes.{all_held}
use Rattle.loading.specs.InBytes.{first_bad, fine}
use Rattle.card.specs.Writing.{not_written, bad_sizes, bad_settings, room_to_write, after_scan, writing}
use Rattle.card.specs.Reading.{Reading, not_read, unless, first_refusal, read_opened, reading, showing}
use Rattle.card.specs.Refining.{refine_opened, refining}
use Rattle.preview.specs.Previewing.{Previewing, previewing}
use Rattle.preview.proofs.Previewed.{either}
use Rattle.roll.specs.Page.{page_length}
use Rattle.roll.specs.Rolling.{Rolling, not_rolled, rolled, rolling}
use Rattle.compare.specs.Comparing.{Lent, Comparing, size_refusal, not_compared, comparing}
use Rattle.compare.specs.Comparing as N
use Rattle.trace_card.specs.Boundary.{answer_length, AfterReading, AfterPreviewing, AfterAsking, answerable, is_plan, plan_of, read_as, rolled_as, compared_as, left, saw, printed_on, marked, asked, unread, writing_by, write_call, read_call, show_call, refine_call, preview_call, roll_call, compare_call, figure_call, limit_call, cells_call}
use Rattle.guarantee.specs.Unchanged.{Refused, KeptByWriting, KeptByReading, KeptByRolling, KeptByComparing, KeptByWrite, KeptByRead, KeptByRoll, KeptByCompare, UnchangedThroughC, Unchanged}

-- ---- writing
module _ (xs : List ℤ) (sh : Shape) (curve : Curve) (e : ℕ) (qs vs : List ℤ) (out : List ℕ) where
  not_written_lem : (d : Details) → KeptByWriting qs vs out (not_written xs sh curve e qs vs out d)
  not_written_lem d = record { coefficients = λ _. refl; values = λ _. refl; output = λ _. refl }

  scanned-kept : (s : Option Place) → KeptByWriting qs vs out (after_scan xs sh curve e qs vs out s)
  scanned-kept None = record { coefficients = λ no. absurd (no refl); values = λ no. absurd (no refl); output = λ no. absurd (no refl) }
  scanned-kept (Some place) = not_written_lem _

  writing-kept : KeptByWriting qs vs out (writing xs sh curve e qs vs out)
  unfolding writing
  writing-kept =
      choice (KeptByWriting qs vs out) (bad_sizes sh.rows sh.cols) (λ _. not_written_lem _)
      (λ _. choice (KeptByWriting qs vs out) (bad_settings xs sh curve e qs vs out) (λ _. not_written_lem _)
      (λ _. choice (KeptByWriting qs vs out) (room_to_write xs sh curve e qs vs out) (λ _. scanned-kept (scanned sh.cols xs))
      (λ _. not_written_lem _)))

-- ---- reading, showing and refining
module _ (qs vs : List ℤ) where
  not-read : (d : Details) → KeptByReading qs vs (not_read qs vs d)
  not-read d = record { coefficients = λ _. refl; values = λ _. refl }

  accepted : {r : Reading} → r.refused.number ≡ 0 → KeptByReading qs vs r
  accepted zero = record { coefficients = λ no. absurd (no zero); values = λ no. absurd (no zero) }

  unless-kept : (d : Details) {go : Reading} → KeptByReading qs vs go → KeptByReading qs vs (unless qs vs d go)
  unless-kept d kept = choice (KeptByReading qs vs) (eqb d.number 0) (λ _. kept) (λ _. not-read d)

  opened-kept : (bs : List ℕ) (h : Header) (ls : List ℕ) (long : ℕ) (plan : Plan) → KeptByReading qs vs (read_opened qs vs bs h ls long plan)
  unfolding read_opened
  opened-kept bs h ls long plan =
      unless-kept (first_refusal qs vs h (whole_of bs h long) plan)
      (choice (KeptByReading qs vs) (ltb (first_bad h long bs (loads plan)) (slots h)) (λ _. not-read _) (λ _. accepted refl))

  reading-kept : (bs : List ℕ) (plan : Plan) → KeptByReading qs vs (reading qs vs bs plan)
  unfolding reading
  reading-kept bs plan = unless-kept (opening bs).refused (opened-kept bs _ _ _ plan)

  showing-kept : (bs : List ℕ) → KeptByReading qs vs (showing qs vs bs)
  unfolding showing
  showing-kept bs = unless-kept (opening bs).refused (opened-kept bs _ _ _ (whole_of bs _ _))

  refining-kept : (bs : List ℕ) (plan : Plan) (k : ℕ) → KeptByReading qs vs (refining qs vs bs plan k)
  unfolding refining refine_opened
  refining-kept bs plan k =
      let h = (opening bs).header in
      let long = (opening bs).long in
      unless-kept (opening bs).refused
      (unless-kept (first_refusal qs vs h (whole_of bs h long) plan)
      (choice (KeptByReading qs vs) (ltb k (layers h.shape) && ltb (loads plan k) (loads (whole_of bs h long) k))
      (λ _. choice (KeptByReading qs vs) (all_held qs)
      (λ _. choice (KeptByReading qs vs) (fine h long bs k (planes_of h k - suc (loads plan k))) (λ _. accepted refl) (λ _. not-read _))
      (λ _. not-read _))
      (λ _. not-read _)))

-- ---- previewing
previewing-kept : (qs vs ns : List ℤ) (bs : List ℕ) (plan : Plan) (k : ℕ) → (let p = previewing qs vs ns bs plan k in Refused p.refused.number → p.next ≡ ns)
previewing-kept qs vs ns bs plan k =
    either qs vs ns bs plan k (λ (p : Previewing). Refused p.refused.number → p.next ≡ ns) (λ _ _ _. refl) (λ zero no. absurd (no zero))

-- ---- rolling
module _ (qs vs : List ℤ) (page : List ℕ) where
  not-rolled : (d : Details) → KeptByRolling qs vs page (not_rolled qs vs page d)
  not-rolled d = record { slices = not-read qs vs d; page = λ _. refl }

  rolling-kept : (bs : List ℕ) → KeptByRolling qs vs page (rolling qs vs page bs)
  unfolding rolling rolled
  rolling-kept bs =
      let shown = showing qs vs bs in
      choice (KeptByRolling qs vs page) (eqb shown.refused.number 0)
      (λ y. choice (KeptByRolling qs vs page) (ltb (length page) (page_length (opening bs).header.shape)) (λ _. not-rolled _)
      (λ _. record { slices = showing-kept qs vs bs; page = λ no. absurd (no (eqb-true shown.refused.number 0 y)) }))
      (λ _. not-rolled _)

-- ---- comparing
module _ (one two : Lent) (bytes : List ℕ) where
  not-compared : (d : Details) → KeptByComparing one two bytes (not_compared one two bytes d)
  not-compared d = record { first = λ _. refl; second = λ _. refl; apart = λ _. refl }

  unless-compared : (d : Details) {go : Comparing} → KeptByComparing one two bytes go → KeptByComparing one two bytes (N.unless one two bytes d go)
  unless-compared d kept = choice (KeptByComparing one two bytes) (eqb d.number 0) (λ _. kept) (λ _. not-compared d)

  comparing-kept : (first second : List ℕ) → KeptByComparing one two bytes (comparing one two bytes first second)
  unfolding comparing
  comparing-kept first second =
      unless-compared (showing one.coefficients one.values first).refused
      (unless-compared (showing two.coefficients two.values second).refused
      (unless-compared (size_refusal (opening first).header.shape (opening second).header.shape bytes)
      (record { first = λ no. absurd (no refl); second = λ no. absurd (no refl); apart = λ no. absurd (no refl) })))

-- ---- through C: what the call below leaves, or everything where a length is wrong
module _ (xs : List ℤ) (rows cols levels curve step : ℕ) (qs vs : List ℤ) (out : List ℕ) where
  abbrev sh : Shape
  sh = sheet_of rows cols levels

  by-kept : KeptByWriting qs vs out (writing_by xs rows cols levels curve step qs vs out)
  unfolding writing_by
  by-kept =
      choice (KeptByWriting qs vs out) (eqb curve 0) (λ _. writing-kept xs sh Linear step qs vs out)
      (λ _. choice (KeptByWriting qs vs out) (eqb curve 1) (λ _. writing-kept xs sh Cubic step qs vs out)
      (λ _. not_written_lem xs sh Linear step qs vs out _))

  write_kept : (answer : List ℕ) → KeptByWrite qs vs out (write_call xs rows cols levels curve step qs vs out answer)
  unfolding write_call
  write_kept answer =
      choice (KeptByWrite qs vs out) (answerable answer)
      (λ _. record { coefficients = by-kept.coefficients; values = by-kept.values; output = by-kept.output })
      (λ _. record { coefficients = λ _. refl; values = λ _. refl; output = λ _. refl })

module _ (qs vs : List ℤ) where
  read_as_lem : {r : Reading} → KeptByReading qs vs r → KeptByRead qs vs (read_as r)
  read_as_lem kept = record { coefficients = kept.coefficients; values = kept.values }

  nothing_read : (answer : List ℕ) → KeptByRead qs vs (unread qs vs answer)
  nothing_read answer = record { coefficients = λ _. refl; values = λ _. refl }

module _ (qs vs : List ℤ) (page : List ℕ) where
  rolled-as : {r : Rolling} → KeptByRolling qs vs page r → KeptByRoll qs vs page (rolled_as r)
  rolled-as kept = record { slices = read_as_lem qs vs kept.slices; page = kept.page }

  nothing-rolled : (answer : List ℕ) → KeptByRoll qs vs page (printed_on 3 answer qs vs page)
  nothing-rolled answer = record { slices = nothing_read qs vs answer; page = λ _. refl }

module _ (one two : Lent) (bytes : List ℕ) where
  compared-as : {c : Comparing} → KeptByComparing one two bytes c → KeptByCompare one two bytes (compared_as c)
  compared-as kept = record { first = kept.first; second = kept.second; apart = kept.apart }

  nothing-compared : (answer : List ℕ) → KeptByCompare one two bytes (marked 3 answer one two bytes)
  nothing-compared answer = record { first = λ _. refl; second = λ _. refl; apart = λ _. refl }

wrong_answer : (answer : List ℕ) → (length answer ≡ answer_length → ⊥) → answerable answer ≡ false
wrong_answer answer wrong = not_yes (answerable answer) (λ y. wrong (eqb-true (length answer) answer_length y))

-- of a function that takes a plan too
by_lengths : {A : Type 0} (P : A → Type 0) {go no : A} (answer plan : List ℕ) → ((length answer ≡ answer_length) × (length plan ≡ layers_most) → P go) → P no
    → P (cond (answerable answer) (cond (is_plan plan) go no) no)
by_lengths P answer plan good bad =
    choice P (answerable answer)
    (λ a. choice P (is_plan plan) (λ p. good (eqb-true (length answer) answer_length a, eqb-true (length plan) layers_most p)) (λ _. bad))
    (λ _. bad)

through_c : UnchangedThroughC
unfolding write_call read_call show_call refine_call preview_call roll_call compare_call figure_call limit_call cells_call
through_c =
    record {
      write = write_kept;
      read = λ qs vs answer card plan.
          by_lengths (KeptByRead qs vs) answer plan (λ _. read_as_lem qs vs (reading-kept qs vs card (plan_of plan))) (nothing_read qs vs answer);
      show = λ qs vs answer card.
          choice (KeptByRead qs vs) (answerable answer) (λ _. read_as_lem qs vs (showing-kept qs vs card)) (λ _. nothing_read qs vs answer);
      refine = λ qs vs answer card plan layer.
          by_lengths (KeptByRead qs vs) answer plan (λ _. read_as_lem qs vs (refining-kept qs vs card (plan_of plan) layer)) (nothing_read qs vs answer);
      preview = λ qs vs ns answer card plan layer.
          by_lengths (λ (a : AfterPreviewing). Refused a.returned → a.next ≡ ns) answer plan (λ _. previewing-kept qs vs ns card (plan_of plan) layer) (λ _. refl);
      roll = λ qs vs page answer card.
          choice (KeptByRoll qs vs page) (answerable answer) (λ _. rolled-as qs vs page (rolling-kept qs vs page card)) (λ _. nothing-rolled qs vs page answer);
      compare = λ one two apart answer first second.
          choice (KeptByCompare one two apart) (answerable answer) (λ _. compared-as one two apart (comparing-kept one two apart first second)) (λ _. nothing-compared one two apart answer);
      unwritten = λ xs rows cols levels curve step qs vs out answer wrong. rw (wrong_answer answer wrong);
      unread = λ qs vs answer card plan wrong. by_lengths (λ (a : AfterReading). a ≡ left 3 answer qs vs) answer plan (λ good. absurd (wrong good)) refl;
      unshown = λ qs vs answer card wrong. rw (wrong_answer answer wrong);
      unrefined = λ qs vs answer card plan layer wrong.
          by_lengths (λ (a : AfterReading). a ≡ left 3 answer qs vs) answer plan (λ good. absurd (wrong good)) refl;
      unpreviewed = λ qs vs ns answer card plan layer wrong.
          by_lengths (λ (a : AfterPreviewing). a ≡ saw 3 answer qs vs ns) answer plan (λ good. absurd (wrong good)) refl;
      unrolled = λ qs vs page answer card wrong. rw (wrong_answer answer wrong);
      uncompared = λ one two apart answer first second wrong. rw (wrong_answer answer wrong);
      unbounded = λ card plan answer wrong. by_lengths (λ (a : AfterAsking). a ≡ asked 3 answer) answer plan (λ good. absurd (wrong good)) refl;
      unplanned_limit = λ card limit answer wrong. rw (wrong_answer answer wrong);
      unplanned_cells = λ card cells answer wrong. rw (wrong_answer answer wrong);
    }

pub unchanged : Unchanged
unchanged = record { write = writing-kept; read = reading-kept; show = showing-kept; refine = refining-kept; preview = previewing-kept; roll = rolling-kept; compare = comparing-kept; through_c = through_c }
