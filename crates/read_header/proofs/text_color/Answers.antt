-- What is left of the text before a comma. Assumes nothing.
use Prim.Native.Nat.{◌-◌}
use mathlib.Core.Path.{sym, ap, ◌∙◌}
use native.Mathlib.Omega.{arith}
use lib.ListN.{length}
use lib.Seq.{length-take-le}
use Rattle.rules.specs.Dst.{six_digits, drop_hashes}
use Rattle.rules.specs.Text.{trimmed}
use Rattle.read_header.proofs.Texts.{take_rest}
use Rattle.read_header.proofs.text_color.Goals as goal

pub slice_bounds-trimmed-end : goal.slice_bounds-trimmed-end
slice_bounds-trimmed-end c = let a = c.args in
    sym (length-take-le c.comma_of-e.result a.s.now c.comma_of-e.ensures.0)

pub returns : goal.returns
returns c = let t = c.trimmed-t.result.now in
    let a = c.hashes_of-a.result in
    c.six_digits.ensures
    ∙ ap six_digits
    (take_rest (length t - a) a t (omega arith)
    ∙ c.hashes_of-a.ensures.1
    ∙ ap drop_hashes (c.trimmed-t.ensures ∙ ap trimmed c.comma_of-e.ensures.1))
