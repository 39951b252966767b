-- What the private functions work with: a table of the least that the first k layers can stand at in exactly c cells, and the walk back through it.
use Rattle.std.specs.Prelude.{true, cond, List, ◌≡◌, ℕ, zero, suc, ◌+◌, ◌-◌, ◌*◌, ◌^◌, ◌≤◌, ◌<◌, min, leb, eqb, length, get_or}
use Rattle.header.specs.declared.Header.{Header}
use Rattle.header.specs.Header.{planes_of}
use Rattle.header.specs.Workings.{cells_most, cells_at}
use Rattle.header.specs.Plan.{layers_most}
use Rattle.figure.specs.Workings.{carry_of, charge_of}
use Rattle.planner.specs.Planning.{prefers}

-- What planning asks of the layers: layer k has planes k planes, and one of them spans span k cells. Where m stands before layer k, carry k m + charge k n
-- stands after it, n of its planes being loaded.
pub record Layers : Type 0 where
  pub planes : ℕ → ℕ
  pub span : ℕ → ℕ
  pub carry : ℕ → ℕ → ℕ
  pub charge : ℕ → ℕ → ℕ

-- those of a header and its card's numbers, with layers past the last that have nothing and change nothing
abbrev pub layers_of : Header → List ℕ → Layers
layers_of h ls = record { planes = planes_of h; span = cells_at h.shape; carry = carry_of h; charge = charge_of h ls }

-- the cells of the first k layers' planes that a plan loads
unfoldable pub cells : Layers → (ℕ → ℕ) → ℕ → ℕ
cells L n zero = 0
cells L n (suc k) = cells L n k + n k * L.span k

-- the cells of all planes of the first k layers
abbrev pub reach : Layers → ℕ → ℕ
reach L k = cells L L.planes k

-- ---- the table
-- no plan of a card stands this high
abbrev pub none : ℕ
none = 2 ^ 60

-- the least of none and f 0, .., f (j - 1)
unfoldable pub least_of : (ℕ → ℕ) → ℕ → ℕ
least_of f zero = none
least_of f (suc j) = min (least_of f j) (f j)

-- where it stands when layer k is loaded with n planes and the layers before it take the rest of c cells as well as they can: prev
unfoldable pub choice : Layers → ℕ → (ℕ → ℕ) → ℕ → ℕ → ℕ
choice L k prev c n = cond (leb (n * L.span k) c) (L.carry k (prev (c - n * L.span k)) + L.charge k n) none

-- the least that the first k layers can stand at in exactly c cells, or none
unfoldable pub best : Layers → ℕ → ℕ → ℕ
best L zero c = cond (eqb c 0) 0 none
best L (suc k) c = least_of (choice L k (best L k) c) (suc (L.planes k))

-- a row for each number of layers, an entry for each number of cells
abbrev pub row_length : ℕ
row_length = cells_most + 1

abbrev pub table_length : ℕ
table_length = (layers_most + 1) * row_length

-- rows 0 to k are filled, and the others hold nothing yet
pub record Rows (L : Layers) (t : List ℕ) (k : ℕ) : Type 0 where
  pub long : length t ≡ table_length
  pub held : (j c : ℕ) → j ≤ k → c < row_length → get_or t (j * row_length + c) 0 ≡ best L j c
  pub rest : (i : ℕ) → suc k * row_length ≤ i → i < table_length → get_or t i 0 ≡ none

-- and row k + 1 holds the least with fewer than n planes of layer k
pub record Tried (L : Layers) (t : List ℕ) (k n : ℕ) : Type 0 where
  pub long : length t ≡ table_length
  pub held : (j c : ℕ) → j ≤ k → c < row_length → get_or t (j * row_length + c) 0 ≡ best L j c
  pub next : (c : ℕ) → c < row_length → get_or t (suc k * row_length + c) 0 ≡ least_of (choice L k (best L k) c) n
  pub rest : (i : ℕ) → suc (suc k) * row_length ≤ i → i < table_length → get_or t i 0 ≡ none

-- what row k is carried to by layer k, as far as it is reached
pub record Held (L : Layers) (k : ℕ) (held : List ℕ) (reached : ℕ) : Type 0 where
  pub long : length held ≡ row_length
  pub is : (c : ℕ) → c ≤ reached → get_or held c 0 ≡ L.carry k (best L k c)

-- the first c entries of the pass are done: those at `to` on, f b being offered to the one at place b
pub record Passed (f : ℕ → ℕ) (to : ℕ) (t₀ t : List ℕ) (c : ℕ) : Type 0 where
  pub long : length t ≡ length t₀
  pub done : (b : ℕ) → b < c → get_or t (to + b) 0 ≡ min (get_or t₀ (to + b) 0) (f b)
  pub below : (i : ℕ) → i < to → get_or t i 0 ≡ get_or t₀ i 0
  pub above : (i : ℕ) → to + c ≤ i → get_or t i 0 ≡ get_or t₀ i 0

-- ---- the last row
-- r is the first of a row's places at which f is within the limit, if there is one
pub record FirstWithin (f : ℕ → ℕ) (limit r : ℕ) : Type 0 where
  pub inside : r < row_length
  pub above : (b : ℕ) → b < r → limit < f b
  pub within : (b : ℕ) → b < row_length → f b ≤ limit → f r ≤ limit

-- r is the first of the places 0 to top at which f is least
pub record LeastWithin (f : ℕ → ℕ) (top r : ℕ) : Type 0 where
  pub inside : r ≤ top
  pub before : (b : ℕ) → b < r → f r < f b
  pub least : (b : ℕ) → b ≤ top → f r ≤ f b

-- room is the most that a plan may stand at by the limit, below none
pub record Room (step limit room : ℕ) : Type 0 where
  pub meets : step + room ≤ limit
  pub below : room < none
  pub most : (x : ℕ) → step + x ≤ limit → x < none → x ≤ room

-- top is the last of a row's places that is for at most `most` cells
pub record RowEnd (most top : ℕ) : Type 0 where
  pub meets : top ≤ most
  pub inside : top < row_length
  pub last : (x : ℕ) → x ≤ most → x < row_length → x ≤ top

-- ---- the walk back
-- n is the preferred count of layer k's planes among those that give the least in c cells
pub record Preferred (L : Layers) (k c n : ℕ) : Type 0 where
  pub few : n ≤ L.planes k
  pub fits : n * L.span k ≤ c
  pub gives : choice L k (best L k) c n ≡ best L (suc k) c
  pub first : (i : ℕ) → i ≤ L.planes k → prefers i n ≡ true → choice L k (best L k) c i ≡ best L (suc k) c → ⊥

-- the plan n is read off the table from c cells of the first k layers: in each layer the preferred count
unfoldable pub Traced : Layers → ℕ → ℕ → (ℕ → ℕ) → Type 0
Traced L zero c n = c ≡ 0
Traced L (suc k) c n = Preferred L k c (n k) × Traced L k (c - n k * L.span k) n

-- ---- what was found
