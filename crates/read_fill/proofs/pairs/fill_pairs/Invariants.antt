-- Turn by turn, by `Going`.
use Prim.Native.Nat.{◌-◌}
use lib.ListN.{length}
use Rattle.read_builder.specs.Builders.{origin}
use Rattle.read_builder.specs.Colour.{colour_in}
use Rattle.rules.specs.Vocabulary.{pick}
use Rattle.read_records.specs.declared.Row.TheVariants.{Exp, Jef}
use Rattle.read_passes.proofs.Loops.{Going}
use Rattle.read_fill.proofs.pairs.fill_pairs.Given as goal

abbrev pub invariant-loop-at : goal.invariant-loop-at
invariant-loop-at l =
    Going (pick l.jef Jef Exp) l.bytes (colour_in l.colors) origin 0 l.initial.places l.initial.runs l.initial.blocks l.b l.at l.places l.runs l.blocks

abbrev pub decreases-loop-at : goal.decreases-loop-at
decreases-loop-at l = length l.bytes - l.at
