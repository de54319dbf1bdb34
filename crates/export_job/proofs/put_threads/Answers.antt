-- What comes is the fields of the threads that are left.
use mathlib.Core.Path.{ap, ◌∙◌}
use Rattle.export_job.proofs.Fields.{thread-start, thread-room, thread-on, thread-done}
use Rattle.export_job.proofs.put_threads.Goals as goal

pub loop-thread-init : goal.loop-thread-init
loop-thread-init c =
    let e = c.into_iter-thread-iterator.ensures.into_iter_gives in
    let made = c.chunks_exact-thread-items.ensures in
    thread-start _ _ _ c.requires (ap (λ i. i.size) e ∙ made.size) (ap (λ i. i.rest.now) e ∙ made.rest)

pub put_field-to-requires : goal.put_field-to-requires
put_field-to-requires c = let step = c.in-Some.ensures.steps in thread-room c.loop-thread.invariant _ _ step.1.0 step.1.1

pub loop-thread-preserved : goal.loop-thread-preserved
loop-thread-preserved c = let step = c.in-Some.ensures.steps in
    thread-on c.loop-thread.invariant _ _ step.1.0 step.1.1 c.put_field-to.ensures step.0

pub returns : goal.returns
returns c = thread-done c.loop-thread.invariant c.in-None.ensures.steps.1.0
