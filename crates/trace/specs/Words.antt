-- The words of the program `trace` and its exit status (docs/CARD.md, "The calls", the program `trace`).
use Rattle.std.specs.Prelude.{Bool, cond, ◌&&◌, List, ℕ, eqb, length, Option, Some, None}
use Rattle.std.specs.Option.{option_and_then}
use Rattle.text.specs.Line.{starts}
use Rattle.header.specs.Header.{ascii}
use Rattle.trace.specs.declared.Ending.{Ending}
use Rattle.trace.specs.declared.Ending.TheVariants.{Taken, Refused, NoWord, NoFile}
use Rattle.trace.specs.declared.Word.{Word}
use Rattle.trace.specs.declared.Word.TheVariants.{Show, Roll, Compare}

abbrev pub is : List ℕ → List ℕ → Bool
is text word = eqb (length text) (length word) && starts word text

unfoldable pub word_of : List ℕ → Option Word
word_of text = cond (is text (ascii "show")) (Some Show) (cond (is text (ascii "roll")) (Some Roll) (cond (is text (ascii "compare")) (Some Compare) None))

-- how many names of files follow a word; the others take their card from standard input
abbrev pub names_of : Word → ℕ
names_of Show = 0
names_of Roll = 0
names_of Compare = 2

-- what is asked for by a text and so many names behind it: with another number of names it is as if the word were not known
abbrev pub asked : List ℕ → ℕ → Option Word
asked text names = option_and_then (λ word. cond (eqb names (names_of word)) (Some word) None) (word_of text)

-- how a run ends by the number of a refusal, 0 where a card is taken
abbrev pub ending_of : ℕ → Ending
ending_of number = cond (eqb number 0) Taken Refused

-- its exit status: 0, or 1 where a card is refused, or both together
abbrev pub status_of : Ending → ℕ
status_of Taken = 0
status_of Refused = 1
-- and where the word is missing or unknown, or followed by another number of names than its own
status_of NoWord = 2
-- and where a file that is named cannot be read
status_of NoFile = 2
