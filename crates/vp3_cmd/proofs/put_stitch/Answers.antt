-- A short stitch is a byte for each step, another eight bytes.
use mathlib.Core.Path.{◌≡◌, sym, ◌∙◌}
use mathlib.Core.Bool.{true, false, ◌&&◌}
use mir.Facts.{to_z-of_z}
use Rattle.rules.specs.Vp3.{big}
use Rattle.laws.specs.Buffers.{put_as}
use Rattle.vp3_cmd.proofs.Steps.{short, both-short, two_bytes, eight-bytes}
use Rattle.vp3_cmd.proofs.put_stitch.Goals as goal

pub low_byte-requires : goal.low_byte-requires
low_byte-requires c =
    let is : (let a = c.args in short a.dx && short a.dy ≡ true) = let f = c.ranges in
    rw (to_z-of_z f.dx, to_z-of_z f.dy) at (sym c.is_short.ensures ∙ c.if-is_short.true) in
    rw (to_z-of_z c.ranges.dx) (both-short c.args.dx c.args.dy is).0

pub low_byte-requires-then-is_short : goal.low_byte-requires-then-is_short
low_byte-requires-then-is_short c =
    let is : (let a = c.args in short a.dx && short a.dy ≡ true) = let f = c.ranges in
    rw (to_z-of_z f.dx, to_z-of_z f.dy) at (sym c.is_short.ensures ∙ c.if-is_short.true) in
    rw (to_z-of_z c.ranges.dy) (both-short c.args.dx c.args.dy is).1

pub put2-requires : goal.put2-requires
put2-requires c =
    let is : (let a = c.args in short a.dx && short a.dy ≡ true) = let f = c.ranges in
    rw (to_z-of_z f.dx, to_z-of_z f.dy) at (sym c.is_short.ensures ∙ c.if-is_short.true) in
    rw (two_bytes c.args.dx c.args.dy is) at c.requires.1.1

pub returns-then-is_short : goal.returns-then-is_short
returns-then-is_short c =
    let is : (let a = c.args in short a.dx && short a.dy ≡ true) = let f = c.ranges in
    rw (to_z-of_z f.dx, to_z-of_z f.dy) at (sym c.is_short.ensures ∙ c.if-is_short.true) in
    put_as c.put2.ensures
    (rw (c.low_byte.ensures, c.low_byte-then-is_short.ensures, to_z-of_z c.ranges.dx, to_z-of_z c.ranges.dy, two_bytes c.args.dx c.args.dy is))

pub put_long-requires : goal.put_long-requires
unfolding big
put_long-requires c =
    let isnt : (let a = c.args in short a.dx && short a.dy ≡ false) = let f = c.ranges in
    rw (to_z-of_z f.dx, to_z-of_z f.dy) at (sym c.is_short.ensures ∙ c.if-is_short.false) in
    rw (to_z-of_z c.ranges.dx, to_z-of_z c.ranges.dy)
    (c.requires.0, (c.requires.1.0, rw (eight-bytes c.args.dx c.args.dy isnt) at c.requires.1.1))

pub returns : goal.returns
returns c =
    let isnt : (let a = c.args in short a.dx && short a.dy ≡ false) = let f = c.ranges in
    rw (to_z-of_z f.dx, to_z-of_z f.dy) at (sym c.is_short.ensures ∙ c.if-is_short.false) in
    put_as c.put_long.ensures (rw (to_z-of_z c.ranges.dx, to_z-of_z c.ranges.dy, eight-bytes c.args.dx c.args.dy isnt))
