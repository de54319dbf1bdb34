-- The count for the whole list is what was found and the count for the commands that are left.
use mathlib.Core.Path.{◌≡◌, refl, sym, ap, ◌∙◌}
use mathlib.Core.Bool.{Bool, true, false}
use mathlib.Core.List.{List}
use Prim.Native.Nat.{◌+◌, ◌<◌}
use native.Mathlib.Omega.{arith}
use lib.ListN.{length, drop}
use mir.Val.{bool_byte}
use Rattle.rules.specs.Vocabulary.{count, pick}
use Rattle.rules.specs.Lists.{commands}
use Rattle.rules.specs.Refusals.{changes}
use Rattle.rules.specs.declared.Cmd.{Cmd}
use Rattle.laws.specs.Listing.{count-more, count-end, count-le, no_cmd, commands-at}
use Rattle.write_refusals.proofs.Walk.{Held, held}
use Rattle.write_refusals.proofs.color_changes.Goals as goal

-- a bool as a number
byte-is : (t : Bool) → pick t 1 0 ≡ bool_byte t
byte-is true = refl
byte-is false = refl

pub loop-i-init : goal.loop-i-init
loop-i-init c =
    let cmds : List Cmd = commands c.args.xs.now c.args.ys.now c.args.kinds.now in
    let h : Held _ _ _ c.list_len-n.result = held c.list_len-n.ensures in
    (h, (omega (arith, count-le changes cmds), omega arith))

pub bounds-kinds-i : goal.bounds-kinds-i
bounds-kinds-i c = omega arith

pub overflow_add-found : goal.overflow_add-found
unfolding changes
overflow_add-found c =
    let cmds : List Cmd = commands c.args.xs.now c.args.ys.now c.args.kinds.now in
    let turn : (let cs = cmds in
    count changes cs ≡ c.loop-i.found + bool_byte c.is_change.result + count changes (drop (c.loop-i.i + 1) cs)) = let i = c.loop-i.i in
    let cs = cmds in
    let l : i < length cs = omega arith in
    rw byte-is at
    (count-more changes cs no_cmd i c.loop-i.found c.loop-i.invariant.1.1 c.is_change.result l
    (ap changes (commands-at _ _ _ i l) ∙ sym c.is_change.ensures)) in
    omega (arith, turn)

pub loop-i-preserved : goal.loop-i-preserved
unfolding changes
loop-i-preserved c =
    let cmds : List Cmd = commands c.args.xs.now c.args.ys.now c.args.kinds.now in
    let turn : (let cs = cmds in
    count changes cs ≡ c.loop-i.found + bool_byte c.is_change.result + count changes (drop (c.loop-i.i + 1) cs)) = let i = c.loop-i.i in
    let cs = cmds in
    let l : i < length cs = omega arith in
    rw byte-is at
    (count-more changes cs no_cmd i c.loop-i.found c.loop-i.invariant.1.1 c.is_change.result l
    (ap changes (commands-at _ _ _ i l) ∙ sym c.is_change.ensures)) in
    let inv = c.loop-i.invariant in (inv.0, (inv.1.0, turn))

pub overflow_cast-result : goal.overflow_cast-result
overflow_cast-result c = omega arith

pub returns : goal.returns
returns c =
    let cmds : List Cmd = commands c.args.xs.now c.args.ys.now c.args.kinds.now in
    count-end changes cmds no_cmd c.loop-i.i c.loop-i.found c.loop-i.invariant.1.1 (omega arith)
