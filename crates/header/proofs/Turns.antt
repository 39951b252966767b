-- The lines of a header, one after the other: what holds of the refusals of a line, and of what follows it wherever it is read, holds of the answer.
use mathlib.Core.Bool.{Bool, true, false, cond}
use mathlib.Core.List.{List}
use mathlib.Core.Option.{Option, none, some}
use mathlib.Core.Path.{◌≡◌, refl}
use Prim.Native.Nat.{ℕ, ◌+◌, ◌<◌}
use lib.ListN.{length, take, drop}
use Rattle.std.specs.Prelude as R
use Rattle.text.specs.declared.Line.{Line}
use Rattle.text.specs.declared.LineError.{LineError}
use Rattle.text.specs.declared.LineError.TheVariants.{Short, Wrong}
use Rattle.text.specs.Line.{newline, index_of, starts, has_end, line_of}
use Rattle.text.specs.Joined.{numbers_in}
use Rattle.text.proofs.Search.{end-inside}
use Rattle.header.specs.Refusals.{refusal}
use Rattle.header.specs.Opening.{Opening, not_opened, taking, listed, taking_numbers}

-- a line of a key and numbers as it is read: its end, its key, and its numbers
pub record NumbersLine (key most l ns : List ℕ) : Type 0 where
  pub inside : index_of newline l < length l
  pub key-is : starts key (take (index_of newline l) l) ≡ true
  pub numbers-are : numbers_in most (drop (length key) (take (index_of newline l) l)) ≡ some ns

module _ (P : Opening → Type 0) where
  pub turn : {A : Type 0} (n : ℕ) (line : R.Result (Line A) LineError) (go : A → ℕ → Opening) → P (not_opened (refusal 5 0 0)) → P (not_opened (refusal 6 n 0)) → ((v : A) (len : ℕ) → line ≡ line_of v len → P (go v len)) → P (taking n line go)
  turn n (R.Err Short) go short wrong rest = short
  turn n (R.Err Wrong) go short wrong rest = wrong
  turn n (R.Ok l) go short wrong rest = rest l.value l.length refl

  pub turn-numbers : (n : ℕ) (key most l : List ℕ) (go : List ℕ → ℕ → Opening) → P (not_opened (refusal 5 0 0)) → P (not_opened (refusal 6 n 0))
      → ((ns : List ℕ) → NumbersLine key most l ns → P (go ns (index_of newline l + 1))) → P (taking_numbers n key most l go)
  turn-numbers n key most l go short wrong rest =
      by (has_end l) (starts key (take (index_of newline l) l)) (numbers_in most (drop (length key) (take (index_of newline l) l))) refl refl refl
    where
      by : (t u : Bool) (o : Option (List ℕ)) → has_end l ≡ t → starts key (take (index_of newline l) l) ≡ u → numbers_in most (drop (length key) (take (index_of newline l) l)) ≡ o
          → P (cond t (cond u (listed n o (λ ns. go ns (index_of newline l + 1))) (not_opened (refusal 6 n 0))) (not_opened (refusal 5 0 0)))
      by false u o e f g = short
      by true false o e f g = wrong
      by true true none e f g = wrong
      by true true (some ns) e f g = rest ns (record { inside = end-inside l e; key-is = f; numbers-are = g })
