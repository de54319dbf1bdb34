-- Four bytes.
use Rattle.std.proofs.Common.{sym}
use Rattle.read_vp3_fields.proofs.Within.{four}
use Rattle.read_vp3_fields.proofs.be32.Goals as goal

pub returns : goal.returns
returns c = sym (four c.args.file.now c.args.at c.requires)
