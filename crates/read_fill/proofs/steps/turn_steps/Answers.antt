-- By the masks of the eight bytes.
use Prim.Native.Nat.{ℕ, ◌+◌, ◌≤◌, ◌%◌}
use mathlib.Core.Path.{sym, ap, ◌∙◌}
use lib.ListN.{length}
use Rattle.read_passes.proofs.Found.{below, low_word}
use Rattle.read_fill.proofs.Hops.{room-here}
use Rattle.read_fill.proofs.steps.turn_steps.Goals as goal

pub eight-v-requires : goal.eight-v-requires
eight-v-requires c =
    let room : c.args.at + 8 ≤ length c.args.bytes.now = c.requires.by_index c.args.at c.requires.at_lt_end in
    room

pub sew_short-requires : goal.sew_short-requires
sew_short-requires c =
    let room : c.args.at + 8 ≤ length c.args.bytes.now = c.requires.by_index c.args.at c.requires.at_lt_end in
    let e = rw c.eight-v.ensures at (sym c.two_short.ensures ∙ c.if-two_short.true) in
    record { pec_steps = c.requires.pec_steps; at_in_bounds = room; at_value = e; room_here = room-here c.requires.room }

pub returns-then-two_short : goal.returns-then-two_short
returns-then-two_short c = c.sew_short.ensures _ _ _

pub sew_long-requires : goal.sew_long-requires
sew_long-requires c =
    let room : c.args.at + 8 ≤ length c.args.bytes.now = c.requires.by_index c.args.at c.requires.at_lt_end in
    let e = rw c.eight-v.ensures at (sym c.two_long.ensures ∙ c.if-two_long.true) in
    record { pec_steps = c.requires.pec_steps; at_in_bounds = room; at_value = e; room_here = room-here c.requires.room }

pub returns-then-two_long : goal.returns-then-two_long
returns-then-two_long c = c.sew_long.ensures _ _ _

pub sew_short_long-requires : goal.sew_short_long-requires
sew_short_long-requires c =
    let room : c.args.at + 8 ≤ length c.args.bytes.now = c.requires.by_index c.args.at c.requires.at_lt_end in
    let e = rw c.eight-v.ensures at (sym c.short_long.ensures ∙ c.if-short_long.true) in
    record { pec_steps = c.requires.pec_steps; at_in_bounds = room; at_value = e; room_here = room-here c.requires.room }

pub returns-then-short_long : goal.returns-then-short_long
returns-then-short_long c = c.sew_short_long.ensures _ _ _

pub turn_word-requires : goal.turn_word-requires
turn_word-requires c =
    let room : c.args.at + 8 ≤ length c.args.bytes.now = c.requires.by_index c.args.at c.requires.at_lt_end in
    let a = c.args in
    let w = low_word a.bytes.now a.at (below a.bytes.now c.shared_slice_known-1.given) in
    record { pec_steps = c.requires.pec_steps; at_lt_end = c.requires.at_lt_end; by_index = c.requires.by_index; w_value = ap (λ (v : ℕ). v % 4294967296) c.eight-v.ensures ∙ w; room = c.requires.room }
