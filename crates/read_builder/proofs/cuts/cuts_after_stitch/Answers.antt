-- By the jumps since the last stitch.
use Rattle.read_builder.proofs.Rows.{kept-alone, kept-cut}
use borrow.Author.Rules.{rules}
use Rattle.read_builder.proofs.cuts.cuts_after_stitch.Goals as goal

pub returns-then-since-lt4-clause-kept : goal.returns-then-since-lt4-clause-kept
returns-then-since-lt4-clause-kept c = λ dx dy. kept-alone _ _ dx dy c.if-since-lt4.true

pub returns-clause-kept : goal.returns-clause-kept
returns-clause-kept c = λ dx dy. kept-cut _ _ dx dy c.if-since-lt4.false
