-- Sixteen bytes from the fourth on, as far as the file goes, without their blanks. Assumes nothing.
use Prim.Native.Nat.{◌+◌}
use mathlib.Core.Path.{ap, ◌∙◌}
use native.Mathlib.Omega.{arith}
use Rattle.rules.specs.Text.{trimmed}
use Rattle.read_header.proofs.Spans.{cut}
use Rattle.read_header.proofs.pec_label_at.Goals as goal

pub returns : goal.returns
returns c = let ahead = c.ahead-a in
    let a = c.args in
    record {
      inside = c.trimmed_at.ensures.inside;
      text =
          c.trimmed_at.ensures.text
          ∙ ap trimmed (cut a.file.now (a.start + 3) 16 ahead.result c.ahead-e.result ahead.ensures (omega arith));
    }
