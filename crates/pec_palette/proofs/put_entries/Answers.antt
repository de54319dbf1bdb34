-- One thread less is left.
use Prim.Native.Nat.{◌+◌}
use mathlib.Core.Path.{◌≡◌}
use mathlib.Core.List.{[], ◌∷◌}
use native.Mathlib.Omega.{arith}
use lib.ListN.{drop, length-map}
use Rattle.rules.specs.Lists.{threads_of}
use Rattle.rules.specs.declared.Color.{Color}
use Rattle.laws.specs.Buffers.{writing_start, writing-room, writing_more, writing-done}
use Rattle.laws.specs.Threads.{length-threads}
use Rattle.pec_palette.specs.Entries.{entry_in, entries_in}
use Rattle.pec_palette.proofs.Giving.{entries-more, entries-end, off-start, off-more, off-end}
use Rattle.pec_palette.proofs.put_entries.Goals as goal

pub loop-i-init : goal.loop-i-init
loop-i-init c =
    let a = c.args in
    let ts = threads_of a.threads.now in (
      writing_start a.out.now a.at (entries_in a.chart ts)
          (omega (arith, length-map ts (λ (t : Color). entry_in a.chart t), c.requires)),
      off-start _ a.chart ts,
    )

pub thread_at-t-requires : goal.thread_at-t-requires
thread_at-t-requires c = omega (arith, length-threads c.args.threads.now)

pub overflow_cast-e : goal.overflow_cast-e
overflow_cast-e c = omega arith

pub offset_bounds-own-e : goal.offset_bounds-own-e
offset_bounds-own-e c = omega arith

pub bounds-own-e : goal.bounds-own-e
bounds-own-e c = omega (arith, c.entry_in-e.ensures.1)

pub put-to-requires : goal.put-to-requires
put-to-requires c =
    let turn : (let a = c.args in
    let ts = threads_of a.threads.now in
    let i = c.loop-i.i in
    entries_in a.chart (drop i ts) ≡ c.entry_in-e.result ∷ entries_in a.chart (drop (i + 1) ts)) = let a = c.args in
    let s = a.threads.now in
    entries-more a.chart (threads_of s) c.loop-i.i (omega (arith, length-threads s)) c.thread_at-t.ensures
    c.entry_in-e.ensures.0 in
    writing-room (c.entry_in-e.result ∷ []) _ c.loop-i.invariant.0 turn

pub loop-i-preserved : goal.loop-i-preserved
loop-i-preserved c =
    let turn : (let a = c.args in
    let ts = threads_of a.threads.now in
    let i = c.loop-i.i in
    entries_in a.chart (drop i ts) ≡ c.entry_in-e.result ∷ entries_in a.chart (drop (i + 1) ts)) = let a = c.args in
    let s = a.threads.now in
    entries-more a.chart (threads_of s) c.loop-i.i (omega (arith, length-threads s)) c.thread_at-t.ensures
    c.entry_in-e.ensures.0 in
    let a = c.args in
    let s = a.threads.now in
    let l = c.loop-i in (
      writing_more l.invariant.0 turn c.put-to.ensures,
      off-more _ a.chart (threads_of s) l.i l.far (omega (arith, length-threads s)) c.thread_at-t.ensures
          c.entry_in-e.ensures.0 c.away.ensures (omega arith) l.invariant.1,
    )

pub shape_of-out : goal.shape_of-out
shape_of-out c = c.loop-i.invariant.0.same

pub returns : goal.returns
returns c = let l = c.loop-i in
    let a = c.args in
    let s = a.threads.now in (
      writing-done l.invariant.0 (entries-end a.chart (threads_of s) l.i (omega (arith, length-threads s))),
      off-end _ a.chart (threads_of s) l.i l.far (omega (arith, length-threads s)) l.invariant.1,
    )
