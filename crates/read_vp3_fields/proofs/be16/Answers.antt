-- Two bytes.
use Rattle.std.proofs.Common.{◌+◌, arith, sym}
use Rattle.read_vp3_fields.proofs.Within.{two}
use Rattle.read_vp3_fields.proofs.be16.Goals as goal

pub returns : goal.returns
returns c = let a = c.args in (sym (two a.file.now a.at c.requires), omega (arith, c.type_inv.file a.at, c.type_inv.file (a.at + 1)))
