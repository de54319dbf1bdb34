-- Five parts, one after the other.
use mathlib.Core.Path.{◌∙◌}
use Prim.Native.Nat.{◌≤◌}
use native.Mathlib.Omega.{arith}
use lib.ListN.{length}
use mir.Syntax.{w32}
use Rattle.rules.specs.Vocabulary.{count}
use Rattle.rules.specs.Lists.{commands}
use Rattle.rules.specs.Refusals.{changes}
use Rattle.laws.specs.Buffers.{put-put, put_as}
use Rattle.laws.specs.Ints.{ints, ret}
use Rattle.laws.specs.Listing.{count-le, length-commands}
use Rattle.dst.proofs.Text.{label-ends, counts-ends, bounds-ends, last-ends, last-x, last-y, text-is}
use Rattle.dst.proofs.put_text_of.Goals as goal

pub overflow_add-records : goal.overflow_add-records
overflow_add-records c =
    let few : (let a = c.args in let n = c.list_len-n.result in
    ((n ≤ length a.xs.now) × (n ≤ length a.ys.now))
    × ((n ≤ 65535) × ((length a.kinds.now ≤ 65535) × (count changes (commands a.xs.now a.ys.now a.kinds.now) ≤ 65535)))) = let a = c.args in
    let l = length-commands a.xs.now a.ys.now a.kinds.now in
    omega (arith, c.list_len-n.ensures, count-le changes (commands a.xs.now a.ys.now a.kinds.now), c.requires.0) in
    omega (arith, few, c.trims.ensures.1)

pub overflow_cast-records : goal.overflow_cast-records
overflow_cast-records c =
    let few : (let a = c.args in let n = c.list_len-n.result in
    ((n ≤ length a.xs.now) × (n ≤ length a.ys.now))
    × ((n ≤ 65535) × ((length a.kinds.now ≤ 65535) × (count changes (commands a.xs.now a.ys.now a.kinds.now) ≤ 65535)))) = let a = c.args in
    let l = length-commands a.xs.now a.ys.now a.kinds.now in
    omega (arith, c.list_len-n.ensures, count-le changes (commands a.xs.now a.ys.now a.kinds.now), c.requires.0) in
    omega (ints, few, c.trims.ensures.1)

pub overflow_cast-colors : goal.overflow_cast-colors
overflow_cast-colors c =
    let few : (let a = c.args in let n = c.list_len-n.result in
    ((n ≤ length a.xs.now) × (n ≤ length a.ys.now))
    × ((n ≤ 65535) × ((length a.kinds.now ≤ 65535) × (count changes (commands a.xs.now a.ys.now a.kinds.now) ≤ 65535)))) = let a = c.args in
    let l = length-commands a.xs.now a.ys.now a.kinds.now in
    omega (arith, c.list_len-n.ensures, count-le changes (commands a.xs.now a.ys.now a.kinds.now), c.requires.0) in
    omega (ints, few, c.color_changes-colors.ensures)

pub put_counts-third-requires : goal.put_counts-third-requires
put_counts-third-requires c = omega (arith, label-ends)

pub put_bounds-fourth-requires : goal.put_bounds-fourth-requires
put_bounds-fourth-requires c = let early = c.before.before.before.before.before.before.before.before in
    omega (arith, label-ends, counts-ends, early)

pub last-requires : goal.last-requires
last-requires c =
    let few : (let a = c.args in let n = c.list_len-n.result in
    ((n ≤ length a.xs.now) × (n ≤ length a.ys.now))
    × ((n ≤ 65535) × ((length a.kinds.now ≤ 65535) × (count changes (commands a.xs.now a.ys.now a.kinds.now) ≤ 65535)))) = let a = c.args in
    let l = length-commands a.xs.now a.ys.now a.kinds.now in
    omega (arith, c.list_len-n.ensures, count-le changes (commands a.xs.now a.ys.now a.kinds.now), c.requires.0) in
    omega (arith, few)

pub last-requires-2 : goal.last-requires-2
last-requires-2 c =
    let few : (let a = c.args in let n = c.list_len-n.result in
    ((n ≤ length a.xs.now) × (n ≤ length a.ys.now))
    × ((n ≤ 65535) × ((length a.kinds.now ≤ 65535) × (count changes (commands a.xs.now a.ys.now a.kinds.now) ≤ 65535)))) = let a = c.args in
    let l = length-commands a.xs.now a.ys.now a.kinds.now in
    omega (arith, c.list_len-n.ensures, count-le changes (commands a.xs.now a.ys.now a.kinds.now), c.requires.0) in
    omega (
      arith,
      few,
    )

pub put_last-fifth-requires : goal.put_last-fifth-requires
put_last-fifth-requires c = let early = c.before.before.before.before.before.before.before.before.before.before.before.before.before.before in
    omega (arith, label-ends, counts-ends, bounds-ends, early)

pub put_end-requires : goal.put_end-requires
put_end-requires c = let middle = c.before.before.before.before.before.before.before.before.before in
    let early = middle.before.before.before.before.before.before.before.before.before in
    omega (arith, label-ends, counts-ends, bounds-ends, last-ends, middle, early)

pub returns : goal.returns
returns c = let put_last = c.put_last-fifth in
    let last2 = c.last-2 in
    let last = c.last in
    let put-bounds = c.put_bounds-fourth in let stream-bounds = c.stream_bounds in
    let put-counts = c.put_counts-third in
    let put-label = c.put_label-second in
    let color-changes = c.color_changes-colors in let trims = c.trims in
    let list-len = c.list_len-n in
    let a = c.args in
    let cs = commands a.xs.now a.ys.now a.kinds.now in
    put_as (put-put put-label.ensures (put-put put-counts.ensures (put-put put-bounds.ensures (put-put put_last.ensures c.put_end.ensures))))
    (text-is a.name.now cs list-len.ensures trims.ensures.0 color-changes.ensures stream-bounds.ensures
    (ret w32 last.result last.type_inv ∙ last.ensures ∙ last-x a.xs.now a.ys.now a.kinds.now list-len.result list-len.ensures)
    (ret w32 last2.result last2.type_inv ∙ last2.ensures ∙ last-y a.xs.now a.ys.now a.kinds.now list-len.result list-len.ensures))
