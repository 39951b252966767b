-- What is predicted at a point, and its coefficient (docs/CARD.md, "Prediction" and "Coefficients").
use Rattle.std.specs.Prelude.{Bool, false, cond, ◌&&◌, List, ℕ, ◌+◌, ◌-◌, ◌*◌, ◌/◌, ◌%◌, leb, ltb, ℤ, pos, neg_ℤ, ◌+ℤ◌, ◌-ℤ◌, ◌*ℤ◌}
use Rattle.integers.specs.Floor.{floor_div}
use Rattle.sheet.specs.declared.Shape.{Shape}
use Rattle.sheet.specs.declared.Curve.{Curve}
use Rattle.sheet.specs.declared.Curve.TheVariants.{Linear, Cubic}
use Rattle.sheet.specs.declared.Direction.{Direction}
use Rattle.sheet.specs.declared.Direction.TheVariants.{Anchor, Across, Down, Between}
use Rattle.sheet.specs.Lists.{at}
use Rattle.sheet.specs.Sheet.{place, direction, spacing, along}

-- (-a + 9b + 9c - d) / 16 rounded down
unfoldable pub cubic : ℤ → ℤ → ℤ → ℤ → ℤ
cubic a b c d = floor_div (neg_ℤ a +ℤ pos 9 *ℤ b +ℤ pos 9 *ℤ c -ℤ d) 16

-- (b + c) / 2 rounded down
unfoldable pub linear : ℤ → ℤ → ℤ
linear b c = floor_div (b +ℤ c) 2

-- place t of the line that starts at index `start`, with `stride` between its points
abbrev pub on : List ℤ → ℕ → ℕ → ℕ → ℤ
on vs start stride t = at vs (start + t * stride)

-- are all four neighbours in the sheet? Those 3s before and 3s after place t of a line of n points are the outermost
abbrev pub all_four : ℕ → ℕ → ℕ → Bool
all_four n t s = leb (3 * s) t && ltb (t + 3 * s) n

abbrev pub uses_four : Curve → ℕ → ℕ → ℕ → Bool
uses_four Linear n t s = false
uses_four Cubic n t s = all_four n t s

-- one rule for every direction: what is predicted at place t of a line of n points, from those 3s before, s before, s after and 3s after it;
-- otherwise from b and c, otherwise b alone
unfoldable pub line : Curve → List ℤ → ℕ → ℕ → ℕ → ℕ → ℕ → ℤ
line curve vs start stride n t s =
    cond (uses_four curve n t s)
    (cubic (on vs start stride (t - 3 * s)) (on vs start stride (t - s)) (on vs start stride (t + s)) (on vs start stride (t + 3 * s)))
    (cond (ltb (t + s) n) (linear (on vs start stride (t - s)) (on vs start stride (t + s))) (on vs start stride (t - s)))

-- an anchor is predicted as 0; any other point looks along its line: its row for a layer across, its column for a layer down, and from sheet to sheet
-- for a layer between (of a stack)
abbrev pub predicted : Shape → Curve → Direction → ℕ → List ℤ → ℕ → ℕ → ℕ → ℤ
predicted sh curve Anchor s vs z r c = pos 0
predicted sh curve Across s vs z r c = line curve vs (place sh z r 0) 1 (along sh Across) c s
predicted sh curve Down s vs z r c = line curve vs (place sh z 0 c) sh.cols (along sh Down) r s
predicted sh curve Between s vs z r c = line curve vs (place sh 0 r c) (sh.rows * sh.cols) (along sh Between) z s

-- what is predicted at the point p of layer k
unfoldable pub predicted_at : Shape → Curve → ℕ → List ℤ → ℕ → ℤ
predicted_at sh curve k vs p =
    predicted sh curve (direction sh k) (spacing sh k) vs (p / sh.cols / sh.rows) (p / sh.cols % sh.rows) (p % sh.cols)

-- w = 2e + 1
unfoldable pub width : ℕ → ℕ
width e = 2 * e + 1

-- the coefficient of a sample: (x - y + e) / w rounded down
unfoldable pub coefficient_of : ℤ → ℤ → ℕ → ℤ
coefficient_of x y e = floor_div (x -ℤ y +ℤ pos e) (width e)

-- the rebuilt value: y + q × w
unfoldable pub rebuilt_from : ℤ → ℤ → ℕ → ℤ
rebuilt_from y q e = y +ℤ q *ℤ pos (width e)
