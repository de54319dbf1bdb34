-- A short step is its low seven bits, another two bytes.
use mathlib.Core.Path.{◌≡◌, sym, ◌∙◌}
use mathlib.Core.Bool.{true, false}
use mir.Facts.{to_z-of_z}
use Rattle.rules.specs.Pec.{wide}
use Rattle.laws.specs.Buffers.{put_as}
use Rattle.pec_cmd.proofs.Values.{short, one_byte, two_bytes, short-abs}
use Rattle.pec_cmd.proofs.pec_value.Goals as goal

pub low7-requires : goal.low7-requires
low7-requires c =
    let is : short c.args.z ≡ true = rw (to_z-of_z c.ranges.z) at (sym c.is_short.ensures ∙ c.if-is_short.true) in
    rw (to_z-of_z c.ranges.z) (short-abs c.args.z is)

pub put-requires : goal.put-requires
put-requires c =
    let is : short c.args.z ≡ true = rw (to_z-of_z c.ranges.z) at (sym c.is_short.ensures ∙ c.if-is_short.true) in
    rw (one_byte c.args.z is) at c.requires.z_in_bounds

pub returns-then-is_short : goal.returns-then-is_short
returns-then-is_short c =
    let is : short c.args.z ≡ true = rw (to_z-of_z c.ranges.z) at (sym c.is_short.ensures ∙ c.if-is_short.true) in
    put_as c.put.ensures (rw (c.low7.ensures, to_z-of_z c.ranges.z, one_byte c.args.z is))

pub returns : goal.returns
returns c =
    let isnt : short c.args.z ≡ false = rw (to_z-of_z c.ranges.z) at (sym c.is_short.ensures ∙ c.if-is_short.false) in
    put_as c.put_wide.ensures (rw (to_z-of_z c.ranges.z, two_bytes c.args.z isnt))

pub put_wide-requires-clause-at_in_bounds : goal.put_wide-requires-clause-at_in_bounds
unfolding wide
put_wide-requires-clause-at_in_bounds c =
    let isnt : short c.args.z ≡ false = rw (to_z-of_z c.ranges.z) at (sym c.is_short.ensures ∙ c.if-is_short.false) in
    rw (two_bytes c.args.z isnt) at c.requires.z_in_bounds
