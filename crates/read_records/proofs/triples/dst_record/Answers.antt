-- Too few bytes, or the record of three.
use native.Mathlib.Omega.{arith}
use mathlib.Core.Path.{sym}
use mir.Syntax.{w32}
use Rattle.laws.specs.Ints.{ret}
use Rattle.read_records.proofs.Dsts.{dst-short, dst-whole}
use Rattle.read_records.proofs.triples.dst_record.Goals as goal

pub returns-then-file-lt3 : goal.returns-then-file-lt3
returns-then-file-lt3 c = let a = c.args in sym (dst-short a.file.now a.at (omega arith))

pub returns-then-file-at : goal.returns-then-file-at
returns-then-file-at c = let a = c.args in sym (dst-short a.file.now a.at (omega arith))

pub returns : goal.returns
returns c = let a = c.args in
    let x = c.x_step in let y = c.y_step in
    rw (c.kind.ensures, ret w32 x.result x.type_inv, x.ensures, ret w32 y.result y.type_inv, y.ensures)
    (sym (dst-whole a.file.now a.at (omega arith)))
