-- The threads before i have their entries; the places behind have black's.
use Prim.Native.Nat.{◌≤◌}
use Rattle.rules.specs.Lists.{threads_of}
use Rattle.pec_threads.proofs.Codes.{Coding}
use Rattle.pec_threads.proofs.thread_codes.Given as goal

abbrev pub invariant-loop-i : goal.invariant-loop-i
invariant-loop-i l = (l.i ≤ 256) × Coding (threads_of l.threads) l.codes l.i
