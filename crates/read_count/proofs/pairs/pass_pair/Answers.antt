-- Each case by its law.
use mathlib.Core.Path.{refl}
use native.Mathlib.Omega.{arith}
use Rattle.read_passes.proofs.Found.{pair-first, pair-second}
use Rattle.read_count.proofs.Laws.{tallying-small, passed, passed-two}
use Rattle.read_count.proofs.pairs.pass_pair.Goals as goal

pub tally_one-requires : goal.tally_one-requires
tally_one-requires c = record { small_tally = tallying-small c.requires.tallying; s_bound = omega arith }

pub returns-then-bytes-at-2-clause-tallying_2 : goal.returns-then-bytes-at-2-clause-tallying_2
returns-then-bytes-at-2-clause-tallying_2 c =
    let a = c.args in
    (passed c.requires.tallying (omega arith) (pair-first a.jef a.bytes.now a.at c.requires.at_in_bounds c.if-bytes-at.false)
    c.tally_one.ensures refl).0

pub tally_many-requires : goal.tally_many-requires
tally_many-requires c = record { small_tally = tallying-small c.requires.tallying; n_bound = omega arith }

pub returns-clause-tallying_2 : goal.returns-clause-tallying_2
returns-clause-tallying_2 c =
    let a = c.args in
    let e = pair-first a.jef a.bytes.now a.at c.requires.at_in_bounds c.if-bytes-at.false in
    let f = pair-second a.jef a.bytes.now a.at c.requires.at_in_bounds c.if-bytes-at-2.false in
    (passed-two c.requires.tallying (omega arith) e f c.tally_many.ensures (omega arith)).0
