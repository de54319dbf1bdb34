-- What comes is the fields of the commands that are left.
use native.Mathlib.Omega.{arith}
use Rattle.export_job.proofs.Fields.{field-start, field-ends, field_room, field-on, field-done}
use Rattle.export_job.proofs.put_list.Goals as goal

pub loop-i-init : goal.loop-i-init
loop-i-init c = field-start _ _ _ _ _ c.list_len-n.ensures c.requires.kinds_in_bounds

pub field_end-e-requires : goal.field_end-e-requires
field_end-e-requires c = omega arith

pub put_commands-to-requires : goal.put_commands-to-requires
put_commands-to-requires c = let inv = c.loop-i.invariant in let more = c.loop-i-test.true in let e = c.field_end-e.ensures in
    record { known = c.requires.known; i_le_e = field-ends inv more e; i_in_bounds = field_room inv more e }

pub loop-i-smaller : goal.loop-i-smaller
loop-i-smaller c = omega (arith, c.field_end-e.ensures, c.loop-i-test.true)

pub loop-i-preserved : goal.loop-i-preserved
loop-i-preserved c =
    field-on c.loop-i.invariant c.loop-i-test.true c.field_end-e.ensures c.put_commands-to.ensures

pub shape_of-out : goal.shape_of-out
shape_of-out c = c.loop-i.invariant.writing.same

pub returns : goal.returns
returns c = field-done c.loop-i.invariant c.loop-i-test.false
