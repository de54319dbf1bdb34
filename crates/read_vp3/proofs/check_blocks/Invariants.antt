-- One block after the other, by `Going`.
use lib.IntN.{pos}
use Rattle.rules.specs.Vp3.{blocks_from}
use Rattle.read_vp3_fields.specs.Fields.{within}
use Rattle.read_vp3.proofs.Walked.{Going}
use Rattle.read_vp3.proofs.check_blocks.Given as goal

abbrev pub invariant-loop-n : goal.invariant-loop-n
invariant-loop-n l = Going l.file l.end (blocks_from l.count (pos 0) (pos 0) (within l.file l.from l.end)) l.n l.w
