-- Each row by its own loop.
use Rattle.hoop_records.proofs.fits_records.Goals as goal

pub returns-in-Pec : goal.returns-in-Pec
returns-in-Pec c = rw c.in-Pec.is c.fits_steps.ensures

pub returns-in-Dst : goal.returns-in-Dst
returns-in-Dst c = rw c.in-Dst.is c.fits_triples.ensures

pub returns-in-Exp : goal.returns-in-Exp
returns-in-Exp c = rw c.in-Exp.is c.fits_pairs.ensures

pub returns-in-Jef : goal.returns-in-Jef
returns-in-Jef c = rw c.in-Jef.is c.fits_pairs-in-Jef.ensures
