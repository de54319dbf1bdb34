-- One thread less is left.
use Rattle.std.specs.Prelude.{None}
use Prim.Native.Nat.{ℕ, ◌+◌, ◌<◌}
use mathlib.Core.Path.{◌≡◌, ap, ◌∙◌}
use mathlib.Core.List.{List, ◌∷◌, ◌++◌}
use native.Mathlib.Omega.{arith}
use lib.ListN.{length}
use Rattle.rules.specs.Vocabulary.{little}
use Rattle.rules.specs.Choices.{jef_entries}
use Rattle.rules.specs.Jef.{words}
use Rattle.rules.specs.Lists.{threads_of}
use Rattle.laws.specs.Buffers.{writing_start, writing-room, writing_more, writing-done}
use Rattle.laws.specs.Little.{length-little}
use Rattle.laws.specs.Neighbours.{jef-choice-in}
use Rattle.laws.specs.Threads.{thread_at}
use Rattle.jef.proofs.Words.{chunk-more, entries-more, entries_none}
use Rattle.jef.proofs.Offs.{off-start, entry-told, off-more, off-end}
use Rattle.jef.proofs.put_entries.Goals as goal

pub loop-thread-init : goal.loop-thread-init
loop-thread-init c =
    let s = c.args.threads.now in
    let e = c.into_iter-thread-iterator.ensures.into_iter_gives in
    let made = c.chunks_exact-thread-items.ensures in
    let all = ap (λ i. i.rest.now) e ∙ made.rest in (
      ap (λ i. i.size) e ∙ made.size,
      rw all (writing_start c.args.out.now c.args.at (words (jef_entries None (threads_of s))) c.requires, off-start s),
    )

pub choice_in-chosen-requires : goal.choice_in-chosen-requires
choice_in-chosen-requires c = c.jef_threads-chart.ensures

pub overflow_cast-e : goal.overflow_cast-e
overflow_cast-e c =
    let l = c.loop-thread in
    let t = thread_at c.in-Some.thread.now 0 in
    omega (arith, entry-told l.last t c.choice_in-chosen.ensures c.entry_of-e.ensures, (jef-choice-in l.last t).1)

pub put_word-to-requires : goal.put_word-to-requires
put_word-to-requires c =
    let s = c.args.threads.now in
    let l = c.loop-thread in
    let step = c.in-Some.ensures.steps in
    let thread = c.in-Some.thread.now in
    let more = c.next.new.self.rest.now in
    let t = thread_at thread 0 in
    let one : threads_of l.thread-iterator.rest.now ≡ t ∷ threads_of more = chunk-more _ thread more step.1.0 (step.1.1 ∙ l.invariant.0) in
    let turn = entries-more l.last _ more t one (entry-told l.last t c.choice_in-chosen.ensures c.entry_of-e.ensures) in
    omega (arith, writing-room (little 4 c.entry_of-e.result) _ l.invariant.1.0 turn, length-little 4 c.entry_of-e.result)

pub loop-thread-preserved : goal.loop-thread-preserved
loop-thread-preserved c =
    let s = c.args.threads.now in
    let l = c.loop-thread in
    let step = c.in-Some.ensures.steps in
    let thread = c.in-Some.thread.now in
    let more = c.next.new.self.rest.now in
    let t = thread_at thread 0 in
    let one : threads_of l.thread-iterator.rest.now ≡ t ∷ threads_of more = chunk-more _ thread more step.1.0 (step.1.1 ∙ l.invariant.0) in
    let turn = entries-more l.last _ more t one (entry-told l.last t c.choice_in-chosen.ensures c.entry_of-e.ensures) in (
      step.0 ∙ l.invariant.0,
      (
        writing_more {vs = little 4 c.entry_of-e.result} l.invariant.1.0 turn c.put_word-to.ensures,
        off-more l.last s l.thread-iterator.rest.now more t l.far one c.choice_in-chosen.ensures
            c.entry_of-e.ensures c.distance_of.ensures (omega arith) l.invariant.1.1,
      ),
    )

pub shape_of-out : goal.shape_of-out
shape_of-out c = c.loop-thread.invariant.1.0.same

pub returns : goal.returns
returns c =
    let l = c.loop-thread in
    let s = c.args.threads.now in
    let rest = l.thread-iterator.rest.now in
    let end : length rest < 3 = omega (arith, c.in-None.ensures.steps.1.0, l.invariant.0) in
    (writing-done l.invariant.1.0 (entries_none l.last rest end), off-end l.last s rest l.far end l.invariant.1.1)
