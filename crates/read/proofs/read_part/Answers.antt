-- Each format by its own reader.
use mathlib.Core.Path.{sym, ◌∙◌}
use mir.Syntax.{w32}
use Rattle.laws.specs.Ints.{ret}
use Rattle.read.proofs.read_part.Goals as goal

pub read_pec-requires : goal.read_pec-requires
read_pec-requires c = let o = rw c.in-Pec.is at c.requires in
    record { file_len_bound = (o.short, o.told.0); count_value = o.told.1 }

pub read_dst-requires : goal.read_dst-requires
read_dst-requires c = c.requires.short

pub read_exp-requires : goal.read_exp-requires
read_exp-requires c = c.requires.short

pub read_jef-requires : goal.read_jef-requires
read_jef-requires c = let o = rw c.in-Jef.is at c.requires in
    let r = ret w32 c.in-Jef.offset c.in-Jef.known_told-in-Jef-1-own.given.0.1 in
    record { file_len_bound = o.short; file_value = o.told ∙ sym r }

pub read_vp3-requires : goal.read_vp3-requires
read_vp3-requires c = rw c.in-Vp3.is at c.requires

pub returns-in-Pec : goal.returns-in-Pec
returns-in-Pec c =
    rw c.in-Pec.is c.read_pec.ensures

pub returns-in-Dst : goal.returns-in-Dst
returns-in-Dst c =
    rw c.in-Dst.is c.read_dst.ensures

pub returns-in-Exp : goal.returns-in-Exp
returns-in-Exp c =
    rw c.in-Exp.is c.read_exp.ensures

pub returns-in-Jef : goal.returns-in-Jef
returns-in-Jef c =
    rw c.in-Jef.is c.read_jef.ensures

pub returns-in-Vp3 : goal.returns-in-Vp3
returns-in-Vp3 c =
    rw c.in-Vp3.is c.read_vp3.ensures
