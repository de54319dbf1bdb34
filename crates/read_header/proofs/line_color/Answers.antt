-- A line that begins `TC:`, and another. Assumes nothing.
use native.Mathlib.Omega.{arith}
use lib.ListN.{length}
use Rattle.rules.specs.Dst.{line_color}
use Rattle.laws.specs.Prefixes.{begins-starts}
use Rattle.read_header.proofs.Texts.{take_rest}
use Rattle.read_header.proofs.line_color.Goals as goal

pub returns-then-starts_with : goal.returns-then-starts_with
unfolding line_color
returns-then-starts_with c = let l = c.args.line.now in
    rw (
      ← begins-starts l _,
      ← c.starts_with.ensures.value,
      c.if-starts_with.true,
      ← take_rest (length l) 3 l (omega arith),
      ← c.part.ensures,
    ) c.text_color.ensures

pub returns : goal.returns
unfolding line_color
returns c = rw (← begins-starts c.args.line.now _, ← c.starts_with.ensures.value, c.if-starts_with.false)
