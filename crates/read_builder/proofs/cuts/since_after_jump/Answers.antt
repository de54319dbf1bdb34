-- Before the block's first stitch nothing is counted.
use Rattle.read_builder.proofs.Rows.{kept-early, kept_on}
use borrow.Author.Rules.{rules}
use Rattle.read_builder.proofs.cuts.since_after_jump.Goals as goal

pub returns-then-since-eq0-clause-kept : goal.returns-then-since-eq0-clause-kept
returns-then-since-eq0-clause-kept c = λ dx dy cuts. kept-early _ cuts dx dy c.if-since-eq0.true

pub returns-clause-kept : goal.returns-clause-kept
returns-clause-kept c = λ dx dy cuts. kept_on _ cuts dx dy c.if-since-eq0.false
