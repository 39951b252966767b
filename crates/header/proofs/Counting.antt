-- Line 6 as the code reads it: the limits of all layers that there may be end in zeros, so the counts that are read in front of them stand as a header keeps them. A count is
-- at most its layer's limit, so at most `places_most`.
use mathlib.Core.Bool.{true, false, true≢false, false≢true}
use mathlib.Core.List.{List, ◌++◌}
use mathlib.Core.Option.{Option, none, some}
use mathlib.Core.Path.{◌≡◌, refl, sym, ap, ◌∙◌}
use Prim.Native.Nat.{ℕ, ◌+◌, ◌-◌, ◌<◌, ◌≤◌}
use native.Mathlib.Omega.{arith}
use lib.Dec.{ltb}
use lib.ListN.{length, take, drop, get_or, replicate, length-drop, length-take, length-replicate, get_or-replicate}
use lib.Seq.{ext_get_or, get_or-take, get_or-drop}
use borrow.Author.Tests.{ltb-true, ltb-false}
use Rattle.sheet.specs.declared.Shape.{Shape}
use Rattle.sheet.specs.Limits.{layers_most}
use Rattle.sheet.specs.Lists.{tabulate}
use Rattle.sheet.specs.Sheet.{layers}
use Rattle.sheet.proofs.Lists.{length-tabulate, get_or-tabulate}
use Rattle.integers.proofs.Bools.{by}
use Rattle.text.specs.Text.{padded}
use Rattle.text.specs.Joined.{numbers_in}
use Rattle.text.specs.Workings.{is_some, or_zeros}
use Rattle.std.specs.Prelude.{Ok, Err}
use Rattle.sheet.specs.declared.Curve.{Curve}
use Rattle.header.specs.declared.Refusal.{Refusal}
use Rattle.header.specs.declared.Refusal.TheVariants.{BadLine}
use Rattle.header.specs.Refusals.{details_of}
use Rattle.header.specs.Workings.{refusing, keyed_at, PlanesRead}
use Rattle.header.proofs.HeaderLines.{headed}
use Rattle.header.proofs.Taking.{turn_refused, turn_read, numbers_turn, keyed-ends}
use Rattle.header.specs.Header.{ascii, places_most}
use Rattle.header.specs.Opening.{not_opened, opened, listed, planes_most, limits, opening_planes}
use Rattle.header.proofs.WellFormed.{most-le, most-past}
use Rattle.header.proofs.Counts.{Counted, counts-read}
use Rattle.header.proofs.Opens.{padded-in, padded-past}

-- ---- the limits as the code has them: a front of a list, and the zeros behind it
module _ (n a : ℕ) (f : ℕ → ℕ) (few : a ≤ n) where
  long : length (tabulate n f) ≡ n
  long = length-tabulate n f

  list-front : take a (tabulate n f) ≡ tabulate a f
  list-front =
      let front : length (take a (tabulate n f)) ≡ a = omega (arith, length-take a (tabulate n f), long) in
      ext_get_or 0 (take a (tabulate n f)) (tabulate a f) (front ∙ sym (length-tabulate a f))
      (λ i l.
      let inside : i < a = omega (arith, front) in
      get_or-take a (tabulate n f) i 0 inside ∙ get_or-tabulate n f i 0 (omega arith) ∙ sym (get_or-tabulate a f i 0 inside))

  module _ (none-past : (k : ℕ) → a ≤ k → f k ≡ 0) where
    rest_at : (i : ℕ) → i < n - a → get_or (drop a (tabulate n f)) i 0 ≡ get_or (replicate (n - a) 0) i 0
    rest_at i h = get_or-drop a (tabulate n f) i 0 ∙ get_or-tabulate n f (a + i) 0 (omega arith) ∙ none-past (a + i) (omega arith) ∙ sym (get_or-replicate (n - a) i 0 0 h)

    list-rest : drop a (tabulate n f) ≡ replicate (n - a) 0
    list-rest =
        let rest : length (drop a (tabulate n f)) ≡ n - a = omega (arith, length-drop a (tabulate n f), long) in
        ext_get_or 0 (drop a (tabulate n f)) (replicate (n - a) 0) (rest ∙ sym (length-replicate {A = ℕ} (n - a) 0)) (λ i l. rest_at i (omega (arith, rest)))

-- ---- what the code reads: whether there are numbers, and the numbers
pub none_read : (o : Option (List ℕ)) → false ≡ is_some o → o ≡ none
none_read none e = refl
none_read (some ns) e = absurd (false≢true e)

pub some_read : (n : ℕ) (o : Option (List ℕ)) (front : List ℕ) → front ≡ or_zeros n o → true ≡ is_some o → o ≡ some front
some_read n none front e t = absurd (true≢false t)
some_read n (some ns) front e t = ap some (sym e)

-- ---- the counts that are read in front of them
pub record Kept (sh : Shape) (text planes : List ℕ) : Type 0 where
  pub counts : List ℕ
  pub read_is : numbers_in (limits sh) text ≡ some counts
  pub planes-are : planes ≡ padded layers_most counts

module _ (sh : Shape) (few : layers sh ≤ layers_most) (n : ℕ) (all_are : n ≡ layers sh) (most : List ℕ) (most-are : most ≡ tabulate layers_most (planes_most sh)) (text : List ℕ) where
  same : numbers_in (take n most) text ≡ numbers_in (limits sh) text
  unfolding limits
  same = rw (all_are, most-are, list-front layers_most (layers sh) (planes_most sh) few)

  padded-kept : (counts : List ℕ) → length counts ≡ layers sh → counts ++ drop n most ≡ padded layers_most counts
  unfolding padded
  padded-kept counts long =
      rw (long, all_are, most-are) (ap (λ (l : List ℕ). counts ++ l) (list-rest layers_most (layers sh) (planes_most sh) few (λ k h. most-past sh k h)))

  pub not-read : false ≡ is_some (numbers_in (take n most) text) → numbers_in (limits sh) text ≡ none
  not-read e = sym same ∙ none_read _ e

  pub kept : (front : List ℕ) → front ≡ or_zeros (length (take n most)) (numbers_in (take n most) text) → true ≡ is_some (numbers_in (take n most) text) → Kept sh text (front ++ drop n most)
  kept front e t =
      let q : numbers_in (limits sh) text ≡ some front = sym same ∙ some_read _ _ front e t in
      record { counts = front; read_is = q; planes-are = padded-kept front (counts-read sh text front q).long }

-- how large they are
pub kept-few : {sh : Shape} {text planes : List ℕ} → layers sh ≤ layers_most → Kept sh text planes → (i : ℕ) → get_or planes i 0 ≤ places_most
kept-few {sh} {text} few k i =
    let counts = k.counts in
    let c : Counted sh text counts = counts-read sh text counts k.read_is in
    rw k.planes-are
    (by (ltb i (length counts))
    (λ t. rw (padded-in counts (omega (arith, c.long)) i (ltb-true i (length counts) t)) (omega (arith, c.most i (omega (arith, c.long, ltb-true i (length counts) t)), most-le sh i)))
    (λ t. omega (arith, padded-past counts i (ltb-false i (length counts) t))))

-- ---- line 6, by what stands behind its key
module _ (bs : List ℕ) (sh : Shape) (at : ℕ) where
  pub planes_refused : (r : Refusal) → Err r ≡ refusing 6 (keyed_at (ascii "planes=") (drop at bs)) → (curve : Curve) (step : ℕ) → opening_planes bs sh curve step at ≡ not_opened (details_of r)
  unfolding opening_planes
  planes_refused r e curve step =
      numbers_turn 6 (ascii "planes=") (limits sh) (drop at bs) (λ counts n. opened (headed sh curve step (padded layers_most counts)) none (at + n))
      ∙ turn_refused 6 (keyed_at (ascii "planes=") (drop at bs)) r _ e

  module _ (text : List ℕ) (len : ℕ) (e : Ok (record { value = text; length = len }) ≡ refusing 6 (keyed_at (ascii "planes=") (drop at bs))) where
    line_is : (curve : Curve) (step : ℕ)
        → opening_planes bs sh curve step at ≡ listed 6 (numbers_in (limits sh) text) (λ counts. opened (headed sh curve step (padded layers_most counts)) none (at + len))
    unfolding opening_planes
    line_is curve step =
        numbers_turn 6 (ascii "planes=") (limits sh) (drop at bs) (λ counts n. opened (headed sh curve step (padded layers_most counts)) none (at + n))
        ∙ rw (turn_read 6 (keyed_at (ascii "planes=") (drop at bs)) _ e) refl

    pub planes_wrong : numbers_in (limits sh) text ≡ none → (curve : Curve) (step : ℕ) → opening_planes bs sh curve step at ≡ not_opened (details_of (BadLine 6))
    planes_wrong q curve step = line_is curve step ∙ rw q refl

    pub planes_right : layers sh ≤ layers_most → (planes : List ℕ) → Kept sh text planes → PlanesRead (record { value = planes; length = len }) bs sh at
    planes_right few planes k =
        record {
          told = λ curve step. line_is curve step ∙ rw (k.read_is, k.planes-are) refl;
          few = kept-few few k;
          inside = keyed-ends bs at len (ascii "planes=") text (turn_read 6 (keyed_at (ascii "planes=") (drop at bs)) _ e);
        }
