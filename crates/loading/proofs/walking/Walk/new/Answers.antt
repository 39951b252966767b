-- The layers' sizes are made by place: the closure answers by its place alone.
use Rattle.std.proofs.Common.{◌≡◌, ◌<◌, sym, ◌∙◌, arith, rules, get_or}
use lib.Seq.{ext_get_or}
use Rattle.sheet.specs.Limits.{layers_most}
use Rattle.sheet.specs.Workings.Shapes.{size_at}
use Rattle.sheet.proofs.Lists.{length-tabulate, get_or-tabulate}
use Rattle.loading.proofs.walking.Walk.new.Goals as goal

pub invariant_of-result : goal.invariant_of-result
invariant_of-result c =
    let items = c.from_fn.ensures.items in record {
      formed = c.requires.0;
      room = c.requires.1;
      sizes_are =
          ext_get_or 0 _ _ (items.long ∙ sym (length-tabulate layers_most (size_at c.args.header.shape)))
          (λ i l.
          let h : i < layers_most = omega (arith, items.long) in
          let a = items.at i 0 h in
          let e : get_or c.from_fn.result i 0 ≡ size_at c.args.header.shape i = search rules in
          e ∙ sym (get_or-tabulate layers_most (size_at c.args.header.shape) i 0 h));
      spans_are = c.spans.ensures;
      all_there = c.requires.2;
    }
