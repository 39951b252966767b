-- Text put behind text: a run put behind a run is one run (`sets-sets`), and what is put behind a text takes the place of zeros (`padded-more`).
use mathlib.Core.List.{List, [], ◌++◌}
use mathlib.Core.Path.{◌≡◌, sym, ap, ap₂, ◌∙◌}
use Prim.Native.Nat.{ℕ, ◌≤◌}
use native.Mathlib.Omega.{arith}
use lib.ListN.{length, length-append}
use Rattle.text.proofs.Padding.{padded-room, padded-more}
use Rattle.text.proofs.Stores.{sets-sets}
use Rattle.display.specs.declared.Piece.{Piece}
use Rattle.display.specs.Workings.{piece_most, piece_of, extended}

abbrev pub piece : List ℕ → ℕ → Piece
piece bytes length = record { bytes = bytes; length = length }

pub long : {p q : Piece} → p ≡ q → p.length ≡ q.length
long e = ap (λ (p : Piece). p.length) e

-- ---- behind any piece
pub extended-more : (p : Piece) (a b : List ℕ) {q r : Piece} → q ≡ extended p a → r ≡ extended q b → r ≡ extended p (a ++ b)
extended-more p a b e f = f ∙ rw e (ap₂ piece (sets-sets p.bytes p.length a b) (omega (arith, length-append a b)))

-- ---- behind a piece that holds a text
pub holds_more : (a b : List ℕ) {p q : Piece} → p ≡ piece_of a → q ≡ extended p b → q.length ≤ piece_most → q ≡ piece_of (a ++ b)
holds_more a b e f fits = f ∙ rw e (ap₂ piece (padded-more piece_most a b (omega (arith, long e, long f))) (sym (length-append a b)))

-- behind one that holds nothing
pub holds : (text : List ℕ) {p q : Piece} → p ≡ piece_of [] → q ≡ extended p text → q.length ≤ piece_most → q ≡ piece_of text
holds text e f fits = holds_more [] text e f fits

pub holds-within : (text : List ℕ) {p : Piece} → p ≡ piece_of text → p.length ≤ length p.bytes
holds-within text e = rw e (padded-room piece_most text)
