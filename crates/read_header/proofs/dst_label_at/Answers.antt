-- The last label of the first 512 bytes stands in the file where it stands in them. Assumes nothing.
use mathlib.Core.Path.{ap, ◌∙◌}
use mathlib.Core.List.{[], List}
use native.Mathlib.Omega.{arith}
use lib.ListN.{length, length-take}
use Prim.Native.Nat.{ℕ}
use Rattle.rules.specs.Text.{lines_of, trimmed}
use Rattle.rules.specs.Dst.{last_label}
use Rattle.read_header.proofs.Spans.{held-in-front}
use Rattle.read_header.proofs.dst_label_at.Goals as goal

pub last_label_at-p-requires : goal.last_label_at-p-requires
last_label_at-p-requires c = omega (arith, length-take 512 c.args.file.now, ap length c.part.ensures)

pub trimmed_at-requires : goal.trimmed_at-requires
trimmed_at-requires c = (held-in-front c.args.file.now 512 c.part.ensures c.last_label_at-p.ensures).inside

pub returns : goal.returns
returns c = let w = held-in-front c.args.file.now 512 c.part.ensures c.last_label_at-p.ensures in
    record {
      inside = c.trimmed_at.ensures.inside;
      text = c.trimmed_at.ensures.text ∙ ap trimmed (w.text ∙ ap (λ (t : List ℕ). last_label [] (lines_of t)) c.part.ensures);
    }
