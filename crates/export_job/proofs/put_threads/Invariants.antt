-- What comes is the fields of the threads that are left.
use Rattle.export_job.proofs.Fields.{ThreadLoop}
use Rattle.export_job.proofs.put_threads.Given as goal

abbrev pub invariant-loop-thread : goal.invariant-loop-thread
invariant-loop-thread l = ThreadLoop l.threads l.initial.out l.at l.out l.to l.thread-iterator.size l.thread-iterator.rest.now
