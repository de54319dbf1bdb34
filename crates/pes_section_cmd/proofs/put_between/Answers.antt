-- Nothing before the first section, two bytes before another.
use native.Mathlib.Omega.{arith}
use borrow.Author.Tests.{eq-eqb, ne_eqb}
use Rattle.laws.specs.Buffers.{put-nothing}
use Rattle.laws.specs.Little.{length-little}
use Rattle.pes_section_cmd.proofs.put_between.Goals as goal

pub returns-then-sections-eq0 : goal.returns-then-sections-eq0
returns-then-sections-eq0 c = let a = c.args in rw (eq-eqb _ _ c.if-sections-eq0.true) (put-nothing a.out.now a.at)

pub put_short-requires : goal.put_short-requires
put_short-requires c = omega (arith, length-little 2 0x8003, rw (ne_eqb _ _ c.if-sections-eq0.false) at c.requires)

pub returns : goal.returns
returns c = rw (ne_eqb _ _ c.if-sections-eq0.false) c.put_short.ensures
