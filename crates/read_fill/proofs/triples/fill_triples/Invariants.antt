-- Turn by turn, by `Going` and `Cutting`.
use Prim.Native.Nat.{◌-◌}
use lib.ListN.{length}
use Rattle.read_builder.specs.Builders.{origin}
use Rattle.read_builder.specs.Colour.{colour_in}
use Rattle.read_records.specs.declared.Row.TheVariants.{Dst}
use Rattle.read_passes.proofs.Loops.{Going}
use Rattle.read_fill.specs.Cutting.{Cutting}
use Rattle.read_fill.proofs.triples.fill_triples.Given as goal

abbrev pub invariant-loop-at : goal.invariant-loop-at
invariant-loop-at l =
    Going Dst l.bytes (colour_in l.colors) origin 0 l.initial.places l.initial.runs l.initial.blocks l.b l.at l.places l.runs l.blocks × Cutting l.bytes l.b l.since l.cuts l.at

abbrev pub decreases-loop-at : goal.decreases-loop-at
decreases-loop-at l = length l.bytes - l.at
