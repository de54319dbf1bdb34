-- A length, and so many bytes.
use Rattle.laws.specs.Exits.{exit}
use Rattle.read_vp3_fields.proofs.Within.{part-short, part-past, part-on}
use Rattle.read_vp3_fields.proofs.part_at.Goals as goal

pub returns-in_err-start : goal.returns-in_err-start
returns-in_err-start c = rw (exit c.from_residual.ensures.1) (part-short _ _ _ c.requires.1 c.requires.0 c.in_err-start.ensures)

pub returns-in_err-stop : goal.returns-in_err-stop
returns-in_err-stop c =
    rw (exit c.from_residual-in_err-stop.ensures.1)
    (part-past _ _ _ c.requires.1 c.requires.0 c.in_ok-start.ensures c.be32.ensures c.in_err-stop.ensures)

pub returns : goal.returns
returns c = part-on _ _ _ c.requires.1 c.requires.0 c.in_ok-start.ensures c.be32.ensures c.in_ok-stop.ensures
