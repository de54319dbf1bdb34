-- Each case by its law.
use mathlib.Core.Path.{sym, ◌∙◌}
use Prim.Native.Nat.{◌+◌, ◌≤◌}
use lib.ListN.{length}
use native.Mathlib.Omega.{arith}
use Rattle.read_passes.proofs.Found.{below, low_word, here-short, here-long, here-short-long}
use Rattle.read_count.proofs.Laws.{tallying-small, passed-two}
use Rattle.read_count.proofs.steps.pass_steps.Goals as goal

pub eight-v-requires : goal.eight-v-requires
eight-v-requires c =
    let room : c.args.at + 8 ≤ length c.args.bytes.now = c.requires.by_index c.args.at c.requires.at_lt_end in
    room

pub tally_many-requires : goal.tally_many-requires
tally_many-requires c = record { small_tally = tallying-small c.requires.tallying; n_bound = omega arith }

pub returns-then-two_short-clause-tallying_2 : goal.returns-then-two_short-clause-tallying_2
returns-then-two_short-clause-tallying_2 c =
    let room : c.args.at + 8 ≤ length c.args.bytes.now = c.requires.by_index c.args.at c.requires.at_lt_end in
    let h = room in
    let e = rw c.eight-v.ensures at (sym c.two_short.ensures ∙ c.if-two_short.true) in
    let t = here-short _ _ c.shared_slice_known-1.given h e in
    (passed-two c.requires.tallying (omega arith) t.one t.two c.tally_many.ensures (omega arith)).0

pub tally_many-requires-then-two_long : goal.tally_many-requires-then-two_long
tally_many-requires-then-two_long c = record { small_tally = tallying-small c.requires.tallying; n_bound = omega arith }

pub returns-then-two_long-clause-tallying_2 : goal.returns-then-two_long-clause-tallying_2
returns-then-two_long-clause-tallying_2 c =
    let room : c.args.at + 8 ≤ length c.args.bytes.now = c.requires.by_index c.args.at c.requires.at_lt_end in
    let h = room in
    let v = c.eight-v.ensures in
    let e = rw v at (sym c.two_long.ensures ∙ c.if-two_long.true) in
    let t = here-long _ _ c.shared_slice_known-1.given h e in
    (passed-two c.requires.tallying (omega arith) t.one t.two c.tally_many-then-two_long.ensures (omega arith)).0

pub tally_many-requires-then-short_long : goal.tally_many-requires-then-short_long
tally_many-requires-then-short_long c = record { small_tally = tallying-small c.requires.tallying; n_bound = omega arith }

pub returns-then-short_long-clause-tallying_2 : goal.returns-then-short_long-clause-tallying_2
returns-then-short_long-clause-tallying_2 c =
    let room : c.args.at + 8 ≤ length c.args.bytes.now = c.requires.by_index c.args.at c.requires.at_lt_end in
    let h = room in
    let v = c.eight-v.ensures in
    let e = rw v at (sym c.short_long.ensures ∙ c.if-short_long.true) in
    let t = here-short-long _ _ c.shared_slice_known-1.given h e in
    (passed-two c.requires.tallying (omega arith) t.one t.two c.tally_many-then-short_long.ensures (omega arith)).0

pub pass_word-requires : goal.pass_word-requires
pass_word-requires c = let low = below c.args.bytes.now c.shared_slice_known-1.given in
    let v = c.eight-v.ensures in
    record { at_lt_end = c.requires.at_lt_end; by_index = c.requires.by_index; w_value = rw v (low_word c.args.bytes.now c.args.at low); tallying = c.requires.tallying }
