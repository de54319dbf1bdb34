-- A new run of stitches or of jumps.
use mathlib.Core.Path.{◌≡◌, refl}
use mathlib.Core.Bool.{false}
use Rattle.rules.specs.Pes.{opens_section}
use Rattle.pes_section_cmd.proofs.Ops.{either, neither}
use Rattle.pes_section_cmd.proofs.opens_section.Goals as goal

pub returns-in-Stitch : goal.returns-in-Stitch
unfolding opens_section
returns-in-Stitch c = let new = c.args.new in
    rw (← c.op_of.ensures) (either (λ op. new ≡ opens_section new op) c.op_of.result refl refl c.in-Stitch.is)

pub returns-in-Trim : goal.returns-in-Trim
unfolding opens_section
returns-in-Trim c = let new = c.args.new in
    rw (← c.op_of.ensures) (neither (λ op. false ≡ opens_section new op) c.op_of.result refl refl refl c.in-Trim.is)
