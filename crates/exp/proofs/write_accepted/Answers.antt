-- By the length of the stream.
use mathlib.Core.Path.{sym, refl}
use Rattle.rules.specs.Exp.{exp_file}
use Rattle.emit.proofs.Writes.{written, unwritten}
use borrow.Author.Rules.{rules}
use Rattle.exp.proofs.write_accepted.Goals as goal

pub returns-then-out-n : goal.returns-then-out-n
unfolding exp_file
returns-then-out-n c = unwritten 0 c.if-out-n.true (sym c.stream_len-n.ensures)

pub returns : goal.returns
unfolding exp_file
returns c = let if1 = c.if-out-n in let stream-len = c.stream_len-n in
    written if1.false (sym stream-len.ensures) c.put_stream.ensures refl
