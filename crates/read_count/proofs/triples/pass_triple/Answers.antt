-- Each case by its law.
use Prim.Native.Nat.{◌+◌}
use mathlib.Core.Path.{refl}
use lib.ListN.{get_or}
use Rattle.rules.specs.Dst.{under}
use native.Mathlib.Omega.{arith}
use Rattle.read_passes.proofs.Found.{has, lacks, triple-end, triple-change}
use Rattle.read_count.proofs.Laws.{bit_le, tallying-small, passed}
use Rattle.read_count.proofs.Dsts.{here, triple-four, triple-other}
use Rattle.read_count.proofs.triples.pass_triple.Goals as goal

pub tally_many-requires : goal.tally_many-requires
tally_many-requires c = record { small_tally = tallying-small c.requires.tallying; n_bound = omega arith }

pub returns-then-c-bytes-lt128 : goal.returns-then-c-bytes-lt128
returns-then-c-bytes-lt128 c = record { tallying_2 = rw c.tally_many.ensures (triple-four c.requires.tallying c.requires.at_in_bounds c.if-c-bytes-lt128.true); at_lt_at = omega arith }

pub returns-then-c-clause-tallying_2 : goal.returns-then-c-clause-tallying_2
returns-then-c-clause-tallying_2 c =
    let g = here c.requires.tallying c.requires.at_in_bounds in
    (passed c.requires.tallying (omega arith) (triple-end g (has _ _ c.if-c.true)) refl refl).0

pub tally_change-requires : goal.tally_change-requires
tally_change-requires c = tallying-small c.requires.tallying

pub returns-then-c-2-clause-tallying_2 : goal.returns-then-c-2-clause-tallying_2
returns-then-c-2-clause-tallying_2 c =
    let g = here c.requires.tallying c.requires.at_in_bounds in
    let e = triple-change g (lacks _ _ c.if-c.false) (has _ _ c.if-c-2.true) in
    (passed c.requires.tallying (omega arith) e c.tally_change.ensures refl).0

pub tally_one-requires : goal.tally_one-requires
tally_one-requires c = record { small_tally = tallying-small c.requires.tallying; s_bound = rw c.sews.ensures (bit_le (under 0x83 (get_or c.args.bytes.now (c.args.at + 2) 0))) }

pub returns : goal.returns
returns c = let t = triple-other c.requires.tallying c.requires.at_in_bounds (lacks _ _ c.if-c.false) (lacks _ _ c.if-c-2.false) in
    record { tallying_2 = rw (c.tally_one.ensures, c.sews.ensures) t; at_lt_at = omega arith }
