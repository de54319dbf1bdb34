-- The checks of the file's format, after that of its length. Assumes nothing.
use mathlib.Core.Path.{◌∙◌}
use Rattle.read_refusals.proofs.Checked.{too_long, of-pes, of-pec, of-dst, of-exp, of-jef, of-vp3}
use Rattle.read_refusals.proofs.front.Goals as goal

pub returns-then-file-gt-LONGEST_FILE : goal.returns-then-file-gt-LONGEST_FILE
returns-then-file-gt-LONGEST_FILE c = too_long _ _ c.if-file-gt-LONGEST_FILE.true

pub vp3_front-requires : goal.vp3_front-requires
vp3_front-requires c = c.if-file-gt-LONGEST_FILE.false

pub returns-in-Pes : goal.returns-in-Pes
returns-in-Pes c = rw c.in-Pes.is (c.pes_front.ensures ∙ of-pes _ c.if-file-gt-LONGEST_FILE.false)

pub returns-in-Pec : goal.returns-in-Pec
returns-in-Pec c = rw c.in-Pec.is (c.pec_front.ensures ∙ of-pec _ c.if-file-gt-LONGEST_FILE.false)

pub returns-in-Dst : goal.returns-in-Dst
returns-in-Dst c = rw c.in-Dst.is (c.dst_front.ensures ∙ of-dst _ c.if-file-gt-LONGEST_FILE.false)

pub returns-in-Exp : goal.returns-in-Exp
returns-in-Exp c = rw c.in-Exp.is (of-exp _ c.if-file-gt-LONGEST_FILE.false)

pub returns-in-Jef : goal.returns-in-Jef
returns-in-Jef c = rw c.in-Jef.is (c.jef_front.ensures ∙ of-jef _ c.if-file-gt-LONGEST_FILE.false)

pub returns-in-Vp3 : goal.returns-in-Vp3
returns-in-Vp3 c = rw c.in-Vp3.is (c.vp3_front.ensures ∙ of-vp3 _ c.if-file-gt-LONGEST_FILE.false)
