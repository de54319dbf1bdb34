-- By the masks of the eight bytes.
use Prim.Native.Nat.{ℕ, ◌%◌}
use mathlib.Core.Path.{sym, ap, ◌∙◌}
use Rattle.read_passes.proofs.Found.{below, low_word}
use Rattle.hoop_records.proofs.steps.look_steps.Goals as goal

pub look_short-requires : goal.look_short-requires
look_short-requires c = let e = rw c.eight-v.ensures at (sym c.two_short.ensures ∙ c.if-two_short.true) in
    record { pec_steps = c.requires.pec_steps; at_in_bounds = c.requires.at_in_bounds; at_value = e; looking = c.requires.looking }

pub look_long-requires : goal.look_long-requires
look_long-requires c = let e = rw c.eight-v.ensures at (sym c.two_long.ensures ∙ c.if-two_long.true) in
    record { pec_steps = c.requires.pec_steps; at_in_bounds = c.requires.at_in_bounds; at_value = e; looking = c.requires.looking }

pub look_short_long-requires : goal.look_short_long-requires
look_short_long-requires c = let e = rw c.eight-v.ensures at (sym c.short_long.ensures ∙ c.if-short_long.true) in
    record { pec_steps = c.requires.pec_steps; at_in_bounds = c.requires.at_in_bounds; at_value = e; looking = c.requires.looking }

pub look_word-requires : goal.look_word-requires
look_word-requires c = let a = c.args in
    let w = low_word a.bytes.now a.w.at (below a.bytes.now c.shared_slice_known-1.given) in
    record { pec_steps = c.requires.pec_steps; at_in_bounds = c.requires.at_in_bounds; v_value = ap (λ (v : ℕ). v % 4294967296) c.eight-v.ensures ∙ w; looking = c.requires.looking }
