-- Demand 2, its second sentence: what is read with all planes are coefficients whose counts and planes are the card's own, with no digit missing, and writing the values rebuilt from them makes these coefficients again; so the header is the same, and so are the bytes behind it. The line of losses is the measured one: what is written is the card itself where it has that line, and the card with that line where it has none.
use mathlib.Core.List.{List, ◌++◌, append_assoc, append-nil}
use mathlib.Core.Option.{Option, none, some}
use mathlib.Core.Path.{◌≡◌, sym, ap, ◌∙◌, subst}
use Prim.Native.Nat.{ℕ, ◌<◌}
use native.Mathlib.Omega.{arith}
use lib.IntN.{ℤ, pos}
use lib.ListN.{length, take, drop}
use lib.Seq.{take-append_seam, drop-append_seam}
use Rattle.integers.specs.Distance.{Within}
use Rattle.digits.specs.Digits.{middle}
use Rattle.digits.proofs.Losses.{middle-none}
use Rattle.sheet.specs.Limits.{sample_most}
use Rattle.sheet.specs.Lists.{at}
use Rattle.sheet.specs.Sheet.{points, layers}
use Rattle.layers.specs.Layering.{Layering, layering, rebuilt, written, coefs}
use Rattle.layers.proofs.Counted.{counted_none}
use Rattle.layers.proofs.Proper.{Proper}
use Rattle.layers.specs.Workings.Loops.{Samples}
use Rattle.layers.proofs.Law.{length-rebuilt, write-back, coefs-back}
use Rattle.layers.proofs.SheetLaw.{sheet-proper}
use Rattle.header.specs.declared.Header.{Header}
use Rattle.header.specs.declared.Plan.{Plan}
use Rattle.text.specs.Line.{line_text}
use Rattle.header.specs.Header.{planes_of, ascii, first_lines, loss_text, header_text}
use Rattle.header.specs.Plan.{missing}
use Rattle.header.specs.Losses.{told}
use Rattle.header.specs.Opening.{opening}
use Rattle.header.specs.Refusals.{refusal}
use Rattle.header.proofs.Opens.{Opens}
use Rattle.header.proofs.WellFormed.{WellFormed}
use Rattle.packing.specs.Planes.{body, losses_for, card_of}
use Rattle.loading.specs.InBytes.{coefs_read}
use Rattle.figure.specs.Figure.{figure_of}
use Rattle.card.specs.Reading.{Reading, values_with}
use Rattle.loading.proofs.Loads.{coefs-long}
use Rattle.guarantee.specs.WrittenBack.{header_in, read_all, Readable, Room, measured_of, WritesBack, with_line, WrittenBack}
use Rattle.guarantee.proofs.AllPlanes.{header-again, read-carries}
use Rattle.guarantee.proofs.Bytes.{carried-body}
use Rattle.guarantee.proofs.Taken.{opens-right, right-header, Passed, passed_reads, reading-passed}
use Rattle.guarantee.proofs.Written.{passes-written, samples-pass}

module _ (bs : List ℕ) (qs vs : List ℤ) (card : Readable bs qs vs) where
  abbrev h : Header
  h = header_in bs

  abbrev long : ℕ
  long = (opening bs).long

  -- all its planes
  abbrev plan : Plan
  plan = record { planes = h.planes }

  abbrev sheet : Layering
  sheet = layering h.shape h.curve

  -- what was read
  abbrev coefficients : List ℤ
  coefficients = coefs_read h long bs (planes_of h)

  abbrev values : List ℤ
  values = rebuilt sheet h.step coefficients

  abbrev losses : Option (List ℕ)
  losses = (opening bs).losses

  passed : Passed h losses long bs plan qs vs
  passed = reading-passed qs vs bs plan card.taken

  opens : Opens bs h losses long
  opens = opens-right bs passed.opens

  is-well-formed : WellFormed h
  is-well-formed = right-header bs passed.opens

  -- no digit is missing, so the coefficients count as they are
  none-missing : (k : ℕ) → k < layers h.shape → middle (missing h (planes_of h) k) ≡ pos 0
  none-missing k hk = let none : missing h (planes_of h) k ≡ 0 = omega arith in ap middle none ∙ middle-none

  values-are : values_with h plan coefficients ≡ values
  unfolding values_with
  values-are = ap (rebuilt sheet h.step) (counted_none h.shape is-well-formed.shape coefficients (coefs-long h long bs (planes_of h)) _ none-missing)

  -- what reading gives
  abbrev read : Reading
  read = record { refused = refusal 0 0 0; plan = plan; figure = figure_of h (told losses) (planes_of h); coefficients = coefficients; values = values }

  gives : read_all qs vs bs ≡ read
  gives = passed_reads passed ∙ (λ i. record { refused = refusal 0 0 0; plan = plan; figure = figure_of h (told losses) (planes_of h); coefficients = coefficients; values = values-are i })

  -- the losses that are measured of them
  abbrev measured : List ℕ
  measured = losses_for h.shape coefficients

  -- the card of the coefficients read has the card's planes behind the header with these losses
  card-again : card_of h.shape h.curve h.step coefficients ≡ header_text h (some measured) ++ drop long bs
  unfolding card_of
  card-again =
      ap (λ (g : Header). header_text g (some measured) ++ body g coefficients) (header-again is-well-formed passed.taken opens.counts-long)
      ∙ ap (λ (l : List ℕ). header_text h (some measured) ++ l) (carried-body is-well-formed (read-carries is-well-formed passed.taken) card.bytes card.whole)

  proper : Proper sheet
  proper = sheet-proper h.shape is-well-formed.shape h.curve

  -- writing the values makes the coefficients and the values again
  coefficients-again : coefs sheet h.step values ≡ coefficients
  coefficients-again = coefs-back sheet proper h.step coefficients (coefs-long h long bs (planes_of h))

  values-again : written sheet h.step values ≡ values
  values-again = write-back sheet proper h.step coefficients

  samples : Samples h.shape h.step values
  samples =
      record {
        shape = is-well-formed.shape;
        step = is-well-formed.step;
        long = length-rebuilt sheet h.step coefficients;
        small = λ p _. subst (λ (r : Reading). Within sample_most (at r.values p)) gives (card.range p);
      }

  -- and so the card
  made : (again : List ℕ) → header_text h (some measured) ++ drop long bs ≡ again
      → (qs' vs' : List ℤ) (out : List ℕ) → Room (points h.shape) qs' vs' out → WritesBack bs read again qs' vs' out
  made again is qs' vs' out room =
      let text : card_of h.shape h.curve h.step (coefs sheet h.step values) ≡ again =
      ap (card_of h.shape h.curve h.step) coefficients-again ∙ card-again ∙ is in
      passes-written values h.shape h.curve h.step qs' vs' out
      (samples-pass values h.shape h.curve h.step qs' vs' out samples room)
      ∙ (λ i. record {
        refused = refusal 0 0 0;
        long = length (text i);
        coefficients = coefficients-again i;
        values = values-again i;
        output = text i ++ drop (length (text i)) out;
      })

  -- a card whose line is the measured one
  same_line : losses ≡ some measured → header_text h (some measured) ++ drop long bs ≡ bs
  same_line e = rw (← e) (sym opens.text-is)

  -- an old card: its first lines, and behind them its line of cells and its planes
  abbrev first : List ℕ
  first = first_lines h

  abbrev rest : List ℕ
  rest = line_text (ascii "cells=") h.cells ++ drop long bs

  old-is : losses ≡ none → bs ≡ first ++ rest
  unfolding header_text loss_text
  old-is e = (rw e at opens.text-is) ∙ simp (append-nil, append_assoc)

  with-line : losses ≡ none → header_text h (some measured) ++ drop long bs ≡ with_line bs measured
  unfolding header_text
  with-line e =
      let n = length first in
      let front : take n bs ≡ first = ap (take n) (old-is e) ∙ take-append_seam first rest in
      let behind : drop n bs ≡ rest = ap (drop n) (old-is e) ∙ drop-append_seam first rest in
      rw (front, behind) (simp append_assoc)

  module _ (qs' vs' : List ℤ) (out : List ℕ) (room : Room (points h.shape) qs' vs' out) where
    back : losses ≡ some (measured_of bs (read_all qs vs bs)) → WritesBack bs (read_all qs vs bs) bs qs' vs' out
    back e = subst (λ (r : Reading). WritesBack bs r bs qs' vs' out) (sym gives) (made bs (same_line (e ∙ ap (λ (r : Reading). some (measured_of bs r)) gives)) qs' vs' out room)

    gained : losses ≡ none → WritesBack bs (read_all qs vs bs) (with_line bs (measured_of bs (read_all qs vs bs))) qs' vs' out
    gained e = subst (λ (r : Reading). WritesBack bs r (with_line bs (measured_of bs r)) qs' vs' out) (sym gives) (made (with_line bs measured) (with-line e) qs' vs' out room)

pub written_back : WrittenBack
written_back =
    record {
      same = λ bs qs vs card e qs' vs' out room. back bs qs vs card qs' vs' out room e;
      gains = λ bs qs vs card e qs' vs' out room. gained bs qs vs card qs' vs' out room e;
    }
