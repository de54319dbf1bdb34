-- By the format.
use Rattle.rules.specs.Promises.{bound_of}
use Rattle.stitch_box.proofs.bound_of.Goals as goal

pub returns-in-Pes : goal.returns-in-Pes
unfolding bound_of
returns-in-Pes c = rw (c.in-Pes.is, c.at_most-pictures.ensures)

pub returns-in-Pec : goal.returns-in-Pec
unfolding bound_of
returns-in-Pec c = rw (c.in-Pec.is, c.at_most-pictures.ensures)

pub returns-in-Dst : goal.returns-in-Dst
unfolding bound_of
returns-in-Dst c = rw c.in-Dst.is

pub returns-in-Exp : goal.returns-in-Exp
unfolding bound_of
returns-in-Exp c = rw c.in-Exp.is

pub returns-in-Jef : goal.returns-in-Jef
unfolding bound_of
returns-in-Jef c = rw c.in-Jef.is

pub returns-in-Vp3 : goal.returns-in-Vp3
unfolding bound_of
returns-in-Vp3 c = rw (c.in-Vp3.is, c.at_most.ensures)
