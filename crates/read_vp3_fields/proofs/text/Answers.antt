-- A length, and so many bytes.
use Rattle.laws.specs.Exits.{exit}
use Rattle.read_vp3_fields.proofs.Within.{text-short, text-on}
use Rattle.read_vp3_fields.proofs.text.Goals as goal

pub returns-in_err-start : goal.returns-in_err-start
returns-in_err-start c = rw (exit c.from_residual.ensures.1) (text-short _ _ _ c.requires.1 c.requires.0 c.in_err-start.ensures)

pub returns : goal.returns
returns c = text-on _ _ _ c.requires.1 c.requires.0 c.in_ok-start.ensures c.be16.ensures.0 _ c.inside.ensures
