-- `split::ranges::retain_range` meets its contract: what is written of the bodies is the chunk of the range.
use mathlib.Core.Path.{◌∙◌, ap}
use mathlib.Core.List.{List}
use Prim.Native.Nat.{ℕ}
use Rattle.chunk.specs.Words.{over}
use Rattle.split.proofs.Sliced.{its_layers, times-within, vals-within, its_range}
use Rattle.split.proofs.ranges.retain_range.Goals as goal

pub span_of-vals_in-requires : goal.span_of-vals_in-requires
span_of-vals_in-requires c =
    let w = c.args.chunk.words.now in
    let f = c.requires.words_value in
    rw c.time_ends.ensures (record { ends_value = (its_layers w f.0 f.1).over_times.rises.rise; lower_lt_upper = (c.requires.lower_lt_upper.0, times-within w f.0 f.1 c.args.range c.requires.lower_lt_upper.1.0) })

pub span_of-keys_in-requires : goal.span_of-keys_in-requires
span_of-keys_in-requires c =
    let w = c.args.chunk.words.now in
    let f = c.requires.words_value in
    let v = rw c.time_ends.ensures at c.span_of-vals_in.ensures in
    rw c.val_ends.ensures (record { ends_value = (its_layers w f.0 f.1).over_vals.rises.rise; lower_lt_upper = (v.some, vals-within w f.0 f.1 c.args.range c.span_of-vals_in.result v) })

pub returns : goal.returns
returns c =
    let w = c.args.chunk.words.now in
    let f = c.requires.words_value in
    let ks = rw c.val_ends.ensures at c.span_of-keys_in.ensures in
    let vs = rw c.time_ends.ensures at c.span_of-vals_in.ensures in
    c.write_ranges.ensures
    ∙ ap (λ (l : List ℕ). over l c.args.out.now) (its_range w f.0 f.1 _ _ c.args.range ks vs c.requires.lower_lt_upper.1.0)
