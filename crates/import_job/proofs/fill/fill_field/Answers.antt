-- By the tag of the field.
use Rattle.std.proofs.Common.{arith}
use Rattle.import_job.proofs.Filled.{found, row_room, thread-room, fills-rows, fills-thread, fills-name}
use Rattle.import_job.proofs.fill.fill_field.Goals as goal

pub unwrap-field-requires : goal.unwrap-field-requires
unwrap-field-requires c = found c.requires c.field_at.result c.field_at.ensures

pub fill_rows-requires : goal.fill_rows-requires
fill_rows-requires c = row_room c.requires (rw c.unwrap-field.ensures at c.field_at.ensures) c.in-3.is

pub put_text-requires : goal.put_text-requires
put_text-requires c = thread-room c.requires (rw c.unwrap-field.ensures at c.field_at.ensures) c.in-2.is

pub returns-in-3 : goal.returns-in-3
returns-in-3 c = fills-rows c.requires (rw c.unwrap-field.ensures at c.field_at.ensures) c.in-3.is c.fill_rows.ensures

pub returns-in-2 : goal.returns-in-2
returns-in-2 c = fills-thread c.requires (rw c.unwrap-field.ensures at c.field_at.ensures) (omega arith) c.in-2.is c.put_text.ensures

pub returns-in_default : goal.returns-in_default
returns-in_default c = fills-name c.requires (rw c.unwrap-field.ensures at c.field_at.ensures) (omega arith) (omega arith)
