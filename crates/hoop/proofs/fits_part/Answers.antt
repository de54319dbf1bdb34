-- Each format by its own look.
use mathlib.Core.Path.{sym, ap, ◌∙◌}
use native.Mathlib.Omega.{arith}
use lib.ListN.{length}
use mir.Syntax.{w32}
use Rattle.laws.specs.Ints.{ret}
use Rattle.read.proofs.Stitches.{jef-shorter}
use Rattle.read.proofs.Vp3Files.{sound, long}
use Rattle.hoop.proofs.fits_part.Goals as goal

-- a part's start is in the file
pub overflow_add-start : goal.overflow_add-start
overflow_add-start c = let o = rw c.in-Pec.is at c.requires in
    omega (arith, o.short, o.told.0)

pub jef_stitches-requires : goal.jef_stitches-requires
jef_stitches-requires c = let o = rw c.in-Jef.is at c.requires in
    o.told ∙ sym (ret w32 c.in-Jef.offset c.in-Jef.known_told-in-Jef-1-own.given.0.1)

pub fits_records-requires-in-Jef : goal.fits_records-requires-in-Jef
fits_records-requires-in-Jef c =
    omega (arith, ap length c.jef_stitches.ensures, jef-shorter c.args.file.now, c.requires.short)

pub fits-requires : goal.fits-requires
fits-requires c = let o = rw c.in-Vp3.is at c.requires in record { in_bounds = (long o, o.short); file_value = sound o }

pub returns-in-Pec : goal.returns-in-Pec
returns-in-Pec c = rw c.in-Pec.is (rw c.rest.ensures.result_value at c.fits_records.ensures)

pub returns-in-Dst : goal.returns-in-Dst
returns-in-Dst c = rw c.in-Dst.is (rw c.rest-in-Dst.ensures.result_value at c.fits_records-in-Dst.ensures)

pub returns-in-Exp : goal.returns-in-Exp
returns-in-Exp c = rw c.in-Exp.is c.fits_records-in-Exp.ensures

pub returns-in-Jef : goal.returns-in-Jef
returns-in-Jef c = rw c.in-Jef.is (rw c.jef_stitches.ensures at c.fits_records-in-Jef.ensures)

pub returns-in-Vp3 : goal.returns-in-Vp3
returns-in-Vp3 c = rw c.in-Vp3.is c.fits.ensures
