-- The blocks are counted, and the file is as long as they say.
use mathlib.Core.Path.{refl}
use Prim.Native.Nat.{◌+◌, ◌*◌, ◌≤◌}
use native.Mathlib.Omega.{arith}
use Rattle.rules.specs.Lists.{commands, threads_of}
use Rattle.laws.specs.Listing.{length-commands}
use Rattle.laws.specs.Buffers.{put_as, put-put}
use Rattle.emit.proofs.Writes.{written, unwritten}
use Rattle.vp3.specs.Heads.{Near}
use Rattle.vp3.proofs.Texts.{length-head}
use Rattle.vp3.proofs.Files.{bounds-near, parts-long, file-long, file-as}
use Rattle.vp3.proofs.write_accepted.Goals as goal

pub overflow_add-n-2 : goal.overflow_add-n-2
overflow_add-n-2 c =
    let short : (let r = c.scan_list-s.result in (226 + 57 * r.blocks + r.len ≤ 539041) × (r.blocks ≤ 255)) = let a = c.args in
    let told = c.scan_list-s.ensures in
    (omega (arith, told.few, told.short, length-commands a.xs.now a.ys.now a.kinds.now, c.requires.0.short), told.few) in
    omega (arith, short.0)

pub returns-then-out-n : goal.returns-then-out-n
returns-then-out-n c =
    let a = c.args in
    unwritten 0 c.if-out-n.true
    (file-long (commands a.xs.now a.ys.now a.kinds.now) (threads_of a.threads.now) c.scan_list-s.ensures)

pub put_head-at-requires : goal.put_head-at-requires
put_head-at-requires c =
    let short : (let r = c.scan_list-s.result in (226 + 57 * r.blocks + r.len ≤ 539041) × (r.blocks ≤ 255)) = let a = c.args in
    let told = c.scan_list-s.ensures in
    (omega (arith, told.few, told.short, length-commands a.xs.now a.ys.now a.kinds.now, c.requires.0.short), told.few) in
    let near : Near c.near_bounds-b.result = let a = c.args in
    bounds-near (commands a.xs.now a.ys.now a.kinds.now) c.requires.0.placed c.near_bounds-b.ensures in
    let a = c.args in
    let long = length-commands a.xs.now a.ys.now a.kinds.now in
    let n = c.list_len.ensures in
    let known = c.requires.0 in record { near = (near, (omega (arith, n, long, known.same_xs, known.same_ys, c.requires.1), (omega (arith, n, long, known.short), short.1))); le_n = (omega arith, (omega (arith, short.0), c.if-out-n.false)) }

pub middle-requires : goal.middle-requires
middle-requires c =
    let near : Near c.near_bounds-b.result = let a = c.args in
    bounds-near (commands a.xs.now a.ys.now a.kinds.now) c.requires.0.placed c.near_bounds-b.ensures in
    near

pub put_blocks-end-requires : goal.put_blocks-end-requires
put_blocks-end-requires c = let a = c.args in
    let r = c.scan_list-s.result in
    let told = c.scan_list-s.ensures in
    let put = c.put_head-at.ensures in
    let parts = parts-long (commands a.xs.now a.ys.now a.kinds.now) (threads_of a.threads.now) told c.middle.result.x c.middle.result.y in
    let front = length-head c.near_bounds-b.result (226 + 57 * r.blocks + r.len) c.list_len.result r.blocks in
    record { known = (c.requires.0, c.middle.ensures.1.1); listed = told.listed; kinds_in_bounds = omega (arith, put.ends, put.same, front, parts, c.if-out-n.false) }

pub returns : goal.returns
returns c =
    let a = c.args in
    let cs = commands a.xs.now a.ys.now a.kinds.now in
    let ts = threads_of a.threads.now in
    let told = c.scan_list-s.ensures in
    let mid = c.middle.ensures in
    let whole = file-as cs ts told c.near_bounds-b.ensures mid.0 mid.1.0 c.list_len.ensures in
    written c.if-out-n.false (file-long cs ts told)
    (put_as (put-put c.put_head-at.ensures c.put_blocks-end.ensures) whole) refl
