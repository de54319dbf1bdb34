-- The parts of the header in a row.
use Prim.Native.Nat.{◌+◌, ◌*◌, ◌≤◌}
use native.Mathlib.Omega.{arith}
use lib.ListN.{length}
use mir.Syntax.{w32}
use mir.Val.{SFits}
use Rattle.rules.specs.Jef.{jef_table}
use Rattle.rules.specs.Lists.{commands, threads_of}
use Rattle.laws.specs.Buffers.{put_as, put-put}
use Rattle.geom.proofs.Sizes.{width_is, height-is}
use Rattle.jef.proofs.Words.{table-short, length-words}
use Rattle.jef.proofs.Parts.{start-ends, sizes-ends, words-ends, header-as, length-header}
use borrow.Author.Rules.{rules}
use Rattle.jef.proofs.put_header.Goals as goal

pub point_count-requires : goal.point_count-requires
point_count-requires c = c.requires.kinds_len_bound.0

pub put_start-sizes-requires : goal.put_start-sizes-requires
put_start-sizes-requires c =
    let room : (let a = c.args in 116 + 8 * length (jef_table (threads_of a.threads.now)) ≤ length a.out.now) = let a = c.args in
    rw (length-header (commands a.xs.now a.ys.now a.kinds.now) (threads_of a.threads.now)) at c.requires.threads_in_bounds in
    let len = c.table_len-n in
    (table-short c.args.threads.now c.requires.kinds_len_bound.1 len.ensures, omega (arith, room))

pub put_sizes-table-requires : goal.put_sizes-table-requires
put_sizes-table-requires c =
    let room : (let a = c.args in 116 + 8 * length (jef_table (threads_of a.threads.now)) ≤ length a.out.now) = let a = c.args in
    rw (length-header (commands a.xs.now a.ys.now a.kinds.now) (threads_of a.threads.now)) at c.requires.threads_in_bounds in
    omega (arith, start-ends, room)

pub jef_palette-second-requires : goal.jef_palette-second-requires
jef_palette-second-requires c =
    let room : (let a = c.args in 116 + 8 * length (jef_table (threads_of a.threads.now)) ≤ length a.out.now) = let a = c.args in
    rw (length-header (commands a.xs.now a.ys.now a.kinds.now) (threads_of a.threads.now)) at c.requires.threads_in_bounds in
    omega (
      arith,
      start-ends,
      sizes-ends,
      c.before.before.before.before.before.before,
      room,
      length-words (jef_table (threads_of c.args.threads.now)),
    )

pub put_kinds-requires : goal.put_kinds-requires
put_kinds-requires c =
    let room : (let a = c.args in 116 + 8 * length (jef_table (threads_of a.threads.now)) ≤ length a.out.now) = let a = c.args in
    rw (length-header (commands a.xs.now a.ys.now a.kinds.now) (threads_of a.threads.now)) at c.requires.threads_in_bounds in
    omega (
      arith,
      start-ends,
      sizes-ends,
      words-ends,
      c.put_start-sizes.ensures,
      c.put_sizes-table.ensures,
      c.jef_palette-second.ensures.0,
      room,
      c.table_len-n.ensures,
    )

pub returns : goal.returns
returns c =
    let across : (let r = c.near_bounds-b.result in SFits w32 r.min.x × SFits w32 r.max.x) = (search (rules, c.struct_told-1.given), search (rules, c.struct_told-2-1.given)) in
    let down : (let r = c.near_bounds-b.result in SFits w32 r.min.y × SFits w32 r.max.y) = (search (rules, c.struct_told-3-1.given), search (rules, c.struct_told-4-1.given)) in
    let at-put-kinds = c.before.before in let at-jef-palette = at-put-kinds.before.before.before.before in
    let at-put-sizes = at-jef-palette.before.before.before.before in
    let a = c.args in
    let cs = commands a.xs.now a.ys.now a.kinds.now in
    let w = width_is cs c.near_bounds-b.ensures across.0 across.1 c.spread-w.ensures in
    let h = height-is cs c.near_bounds-b.ensures down.0 down.1 c.spread-h.ensures in
    let table = c.jef_palette-second.ensures in (
      put_as (put-put c.put_start-sizes.ensures
          (put-put c.put_sizes-table.ensures (put-put table.0 c.put_kinds.ensures)))
          (header-as cs (threads_of a.threads.now) c.table_len-n.ensures c.point_count.ensures
          c.jef_hoop.ensures w h),
      table.1,
    )
