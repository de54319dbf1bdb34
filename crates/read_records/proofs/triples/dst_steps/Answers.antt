-- The three entries of each four bits passed are right.
use mathlib.Core.Path.{◌∙◌}
use native.Mathlib.Omega.{arith}
use lib.ListN.{length-set}
use mir.Syntax.{w32}
use Rattle.laws.specs.Ints.{ret}
use Rattle.read_records.proofs.DstTables.{entries-more}
use Rattle.read_records.proofs.triples.dst_steps.Goals as goal

pub loop-n-preserved : goal.loop-n-preserved
loop-n-preserved c = let u = c.dst_step in
    let v = c.dst_step-in-loop-n in
    let w = c.dst_step-in-loop-n-2 in
    let e = c.axis_bits-bits.ensures in
    let l = c.loop-n in (
      simp length-set l.invariant.0,
      entries-more c.args.y l.steps l.n l.invariant.0 (omega arith)
          (ret w32 u.result u.type_inv ∙ u.ensures ∙ rw e) (ret w32 v.result v.type_inv ∙ v.ensures ∙ rw e)
          (ret w32 w.result w.type_inv ∙ w.ensures ∙ rw e) l.invariant.1,
    )
