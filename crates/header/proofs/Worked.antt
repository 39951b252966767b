-- The header of the bench card, for the bench rows, which guarantee proves: a definition alone.
use mathlib.Core.List.{◌∷◌}
use Prim.Native.Nat.{◌-◌}
use lib.ListN.{replicate}
use Rattle.sheet.specs.declared.Curve.TheVariants.{Linear}
use Rattle.sheet.specs.Limits.{layers_most}
use Rattle.sheet.specs.Sheet.{sheet_of}
use Rattle.header.specs.declared.Header.{Header}

-- 1 by 5, one level, linear, step 1, counts 5,1,0, 6 cells
abbrev pub bench_header : Header
bench_header =
    record {
      shape = sheet_of 1 5 1;
      curve = Linear;
      step = 1;
      planes = 5 ∷ 1 ∷ replicate (layers_most - 2) 0;
      cells = 6;
    }
