-- The label that the format has. Assumes nothing.
use mathlib.Core.Path.{refl}
use native.Mathlib.Omega.{arith}
use Rattle.rules.specs.Pec.{pec_label}
use Rattle.read_refusals.proofs.label_of_at.Goals as goal

pub returns-in-Pec : goal.returns-in-Pec
unfolding pec_label
returns-in-Pec c = rw c.in-Pec.is c.pec_label_at.ensures

pub returns-in-Dst : goal.returns-in-Dst
unfolding pec_label
returns-in-Dst c = rw c.in-Dst.is c.dst_label_at.ensures

pub returns-in-Exp : goal.returns-in-Exp
unfolding pec_label
returns-in-Exp c = rw c.in-Exp.is (record { inside = omega arith; text = refl })

pub returns-in-Jef : goal.returns-in-Jef
unfolding pec_label
returns-in-Jef c = rw c.in-Jef.is (record { inside = omega arith; text = refl })

pub returns-in-Vp3 : goal.returns-in-Vp3
unfolding pec_label
returns-in-Vp3 c = rw c.in-Vp3.is (record { inside = omega arith; text = refl })
