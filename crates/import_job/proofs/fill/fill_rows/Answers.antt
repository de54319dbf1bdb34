-- One row after the other.
use Rattle.std.proofs.Common.{◌≡◌, ◌+◌, ◌*◌, ◌/◌, ◌∙◌, length, add-zero, arith}
use mir.Syntax.{w32}
use Rattle.laws.specs.Ints.{ret}
use Rattle.import_job.proofs.Rows.{rowing_start, room-x, room-y, room-kind, rowing_more, rowing-done}
use Rattle.import_job.proofs.fill.fill_rows.Goals as goal

pub loop-i-init : goal.loop-i-init
loop-i-init c = rw (add-zero c.args.from) (rowing_start _ _ _ _ _ c.requires)

pub bounds-kinds-from : goal.bounds-kinds-from
bounds-kinds-from c = room-kind c.loop-i.invariant (omega arith)

pub bounds-xs-from : goal.bounds-xs-from
bounds-xs-from c = room-x c.loop-i.invariant (omega arith)

pub bounds-ys-from : goal.bounds-ys-from
bounds-ys-from c = room-y c.loop-i.invariant (omega arith)

pub loop-i-preserved : goal.loop-i-preserved
loop-i-preserved c =
    let x = c.i16le-x in let y = c.i16le-y in let i = c.loop-i.i in
    let a : c.args.from + (i + 1) ≡ c.args.from + i + 1 = omega arith in
    let b : 5 * (i + 1) ≡ 5 * i + 5 = omega arith in
    rw (a, b) (rowing_more c.loop-i.invariant (omega arith) (ret w32 x.result x.type_inv ∙ x.ensures) (ret w32 y.result y.type_inv ∙ y.ensures))

pub returns : goal.returns
returns c =
    let e : length c.args.bytes.now / 5 ≡ c.loop-i.i = omega arith in
    rw e (rowing-done c.loop-i.invariant (omega arith))
