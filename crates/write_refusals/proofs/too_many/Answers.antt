-- The answer is that of the three conditions of refusal 8, asked in their order.
use borrow.Author.Tests.{lt-ltb, le-ltb}
use Rattle.rules.specs.Refusals.{too_many}
use Rattle.write_refusals.proofs.too_many.Goals as goal

pub returns-then-color_changes-gt-MOST_CHANGES : goal.returns-then-color_changes-gt-MOST_CHANGES
unfolding too_many
returns-then-color_changes-gt-MOST_CHANGES c = rw (← c.color_changes.ensures, lt-ltb _ _ c.if-color_changes-gt-MOST_CHANGES.true)

pub returns-then-threads-gt-MOST_THREADS : goal.returns-then-threads-gt-MOST_THREADS
unfolding too_many
returns-then-threads-gt-MOST_THREADS c = rw (← c.color_changes.ensures, le-ltb _ _ c.if-color_changes-gt-MOST_CHANGES.false, lt-ltb _ _ c.if-threads-gt-MOST_THREADS.true)

pub returns : goal.returns
unfolding too_many
returns c = rw (← c.color_changes.ensures, le-ltb _ _ c.if-color_changes-gt-MOST_CHANGES.false, le-ltb _ _ c.if-threads-gt-MOST_THREADS.false)
