-- The content of the first field.
use Rattle.import_job.proofs.Imported.{found, some-field, name-there}
use Rattle.import_job.proofs.name_at.Goals as goal

pub field_at-requires : goal.field_at-requires
field_at-requires c = some-field c.args.job.now c.requires

pub unwrap-f-requires : goal.unwrap-f-requires
unwrap-f-requires c = found c.args.job.now c.requires c.field_at.result c.field_at.ensures

pub returns : goal.returns
returns c = name-there c.args.job.now c.requires (rw c.unwrap-f.ensures at c.field_at.ensures)
