-- The record by the tests that the code makes.
use native.Mathlib.Omega.{arith}
use mathlib.Core.Path.{sym}
use mir.Syntax.{w32}
use Rattle.laws.specs.Ints.{ret}
use Rattle.read_records.proofs.Pairs.{pair-short, pair-stitch, pair-cut, pair_end, pair-control}
use Rattle.read_records.proofs.pair.exp_record.Goals as goal

pub returns-then-file-lt2 : goal.returns-then-file-lt2
returns-then-file-lt2 c = let a = c.args in sym (pair-short a.jef a.file.now a.at (omega arith))

pub returns-then-file-at : goal.returns-then-file-at
returns-then-file-at c = let a = c.args in sym (pair-short a.jef a.file.now a.at (omega arith))

pub returns-then-a : goal.returns-then-a
returns-then-a c = let a = c.args in
    rw (ret w32 c.s8.result c.s8.type_inv, c.s8.ensures, ret w32 c.minus8.result c.minus8.type_inv, c.minus8.ensures)
    (sym (pair-stitch a.jef a.file.now a.at (omega arith) c.if-a.true))

pub returns-then-file-at-lt4 : goal.returns-then-file-at-lt4
returns-then-file-at-lt4 c = let a = c.args in
    sym (pair-cut a.jef a.file.now a.at (omega arith) c.if-a.false (omega arith))

pub returns-then-b-eq16 : goal.returns-then-b-eq16
returns-then-b-eq16 c = let a = c.args in
    sym (pair_end a.jef a.file.now a.at (omega arith) c.if-a.false c.if-b-eq16.true)

pub returns : goal.returns
returns c = let a = c.args in
    let x = c.s8-2 in let y = c.minus8-2 in
    rw (c.controlled.ensures, ret w32 x.result x.type_inv, x.ensures, ret w32 y.result y.type_inv, y.ensures)
    (sym (pair-control a.jef a.file.now a.at (omega arith)
    c.if-a.false c.if-b-eq16.false))
