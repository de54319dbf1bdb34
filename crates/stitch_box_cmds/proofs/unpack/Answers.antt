-- One more command is stored.
use Rattle.std.proofs.Common.{◌<◌, length, get_or, arith, pos}
use borrow.Author.Rules.{rules}
use mir.Facts.{to_z-of_z}
use mir.Syntax.{w32}
use mir.Val.{SFits}
use Rattle.rules.specs.declared.Cmd.{Cmd}
use Rattle.stitch_box_cmds.proofs.Turns.{next_field, one_on}
use Rattle.stitch_box_cmds.proofs.unpack.Goals as goal

pub loop-i-preserved : goal.loop-i-preserved
loop-i-preserved c =
    let a = c.args in
    let i = c.loop-i.i in
    let d : Cmd = record { x = pos 0; y = pos 0; kind = 0 } in
    let inside : i < length a.cmds.now = omega arith in
    let across : SFits w32 (get_or a.cmds.now i d).x = search rules in
    let down : SFits w32 (get_or a.cmds.now i d).y = search rules in
    record {
      across = rw (to_z-of_z across, c.loop-i.invariant.across, one_on i) (next_field (λ (k : Cmd). k.x) d a.xs.now i a.cmds.now inside);
      down = rw (to_z-of_z down, c.loop-i.invariant.down, one_on i) (next_field (λ (k : Cmd). k.y) d a.ys.now i a.cmds.now inside);
      kinds_are = rw (c.loop-i.invariant.kinds_are, one_on i) (next_field (λ (k : Cmd). k.kind) d a.kinds.now i a.cmds.now inside);
    }
