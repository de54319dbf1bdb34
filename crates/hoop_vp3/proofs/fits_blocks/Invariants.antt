-- One block after the other, by `Going`.
use lib.IntN.{pos}
use Rattle.rules.specs.Answers.{places}
use Rattle.rules.specs.Hoop.{all_in_hoop}
use Rattle.rules.specs.Vp3.{blocks_from, events_in}
use Rattle.read_vp3_fields.specs.Fields.{within}
use Rattle.hoop_vp3.proofs.Blockwise.{Going}
use Rattle.hoop_vp3.proofs.fits_blocks.Given as goal

abbrev pub invariant-loop-n : goal.invariant-loop-n
invariant-loop-n l =
    Going l.h l.file l.end (all_in_hoop l.h (places (pos 0) (pos 0) 0 (events_in (blocks_from l.count (pos 0) (pos 0) (within l.file l.from l.end))))) l.n l.s
