-- No command is left, or it is a colour change, or one that the block ends with.
use native.Mathlib.Omega.{arith}
use mathlib.Core.Path.{refl}
use mir.Facts.{to_z-of_z}
use Rattle.laws.specs.Listing.{Listed, listed}
use Rattle.vp3.proofs.Numbers.{read}
use Rattle.vp3.proofs.Stitches.{Scanning, Here, read_at, here, near-across, near_down, step-fits, moves, scan-start, scan-done, scan-change, scan-on}
use Rattle.vp3.proofs.Pairs.{any-turn, rest-is}
use Rattle.vp3.proofs.blocks.scan_last.Goals as goal

pub returns-then-n-i : goal.returns-then-n-i
returns-then-n-i c =
    let start : (
    let a = c.args in
    Scanning a.xs.now a.ys.now a.kinds.now a.i (read a.px) (read a.py) c.list_len-n.result a.i (read a.px) (read a.py) 0) = let a = c.args in
    scan-start a.xs.now a.ys.now a.kinds.now a.i (read a.px) (read a.py) c.list_len-n.ensures c.requires.inside
    (rw (to_z-of_z c.ranges.px) c.requires.close.0) (rw (to_z-of_z c.ranges.py) c.requires.close.1) in
    let fits = c.ranges in
    rest-is (rw (to_z-of_z fits.px, to_z-of_z fits.py) at (scan-done start c.if-n-i.true)) refl (omega arith)

pub bounds-kinds-i : goal.bounds-kinds-i
bounds-kinds-i c =
    let inside : (let a = c.args in Listed a.xs.now a.ys.now a.kinds.now a.i) = listed c.list_len-n.ensures c.if-n-i.false in
    inside.kind

pub returns-then-kinds-i-eq3 : goal.returns-then-kinds-i-eq3
returns-then-kinds-i-eq3 c =
    let start : (
    let a = c.args in
    Scanning a.xs.now a.ys.now a.kinds.now a.i (read a.px) (read a.py) c.list_len-n.result a.i (read a.px) (read a.py) 0) = let a = c.args in
    scan-start a.xs.now a.ys.now a.kinds.now a.i (read a.px) (read a.py) c.list_len-n.ensures c.requires.inside
    (rw (to_z-of_z c.ranges.px) c.requires.close.0) (rw (to_z-of_z c.ranges.py) c.requires.close.1) in
    let fits = c.ranges in
    rest-is (rw (to_z-of_z fits.px, to_z-of_z fits.py) at (scan-change start c.if-n-i.false c.if-kinds-i-eq3.true)) refl (omega arith)

pub bounds-kinds-i-2 : goal.bounds-kinds-i-2
bounds-kinds-i-2 c =
    let inside : (let a = c.args in Listed a.xs.now a.ys.now a.kinds.now a.i) = listed c.list_len-n.ensures c.if-n-i.false in
    inside.kind

pub offset_bounds-xs-i : goal.offset_bounds-xs-i
offset_bounds-xs-i c =
    let inside : (let a = c.args in Listed a.xs.now a.ys.now a.kinds.now a.i) = listed c.list_len-n.ensures c.if-n-i.false in
    omega (arith, inside)

pub bounds-xs-i : goal.bounds-xs-i
bounds-xs-i c =
    let inside : (let a = c.args in Listed a.xs.now a.ys.now a.kinds.now a.i) = listed c.list_len-n.ensures c.if-n-i.false in
    inside.across

pub step-requires : goal.step-requires
step-requires c =
    let start : (
    let a = c.args in
    Scanning a.xs.now a.ys.now a.kinds.now a.i (read a.px) (read a.py) c.list_len-n.result a.i (read a.px) (read a.py) 0) = let a = c.args in
    scan-start a.xs.now a.ys.now a.kinds.now a.i (read a.px) (read a.py) c.list_len-n.ensures c.requires.inside
    (rw (to_z-of_z c.ranges.px) c.requires.close.0) (rw (to_z-of_z c.ranges.py) c.requires.close.1) in
    let place : (let a = c.args in Here a.xs.now a.ys.now a.i) = let a = c.args in
    here a.xs.now a.ys.now a.kinds.now a.i c.requires.placed (omega (arith, c.list_len-n.ensures, c.if-n-i.false)) in
    step-fits (read c.args.px) (read_at c.args.xs.now c.args.i) start.across (near-across place)

pub offset_bounds-ys-i : goal.offset_bounds-ys-i
offset_bounds-ys-i c =
    let inside : (let a = c.args in Listed a.xs.now a.ys.now a.kinds.now a.i) = listed c.list_len-n.ensures c.if-n-i.false in
    omega (arith, inside)

pub bounds-ys-i : goal.bounds-ys-i
bounds-ys-i c =
    let inside : (let a = c.args in Listed a.xs.now a.ys.now a.kinds.now a.i) = listed c.list_len-n.ensures c.if-n-i.false in
    inside.down

pub step-requires-2 : goal.step-requires-2
step-requires-2 c =
    let start : (
    let a = c.args in
    Scanning a.xs.now a.ys.now a.kinds.now a.i (read a.px) (read a.py) c.list_len-n.result a.i (read a.px) (read a.py) 0) = let a = c.args in
    scan-start a.xs.now a.ys.now a.kinds.now a.i (read a.px) (read a.py) c.list_len-n.ensures c.requires.inside
    (rw (to_z-of_z c.ranges.px) c.requires.close.0) (rw (to_z-of_z c.ranges.py) c.requires.close.1) in
    let place : (let a = c.args in Here a.xs.now a.ys.now a.i) = let a = c.args in
    here a.xs.now a.ys.now a.kinds.now a.i c.requires.placed (omega (arith, c.list_len-n.ensures, c.if-n-i.false)) in
    step-fits (read c.args.py) (read_at c.args.ys.now c.args.i) start.down (near_down place)

pub returns : goal.returns
returns c =
    let start : (
    let a = c.args in
    Scanning a.xs.now a.ys.now a.kinds.now a.i (read a.px) (read a.py) c.list_len-n.result a.i (read a.px) (read a.py) 0) = let a = c.args in
    scan-start a.xs.now a.ys.now a.kinds.now a.i (read a.px) (read a.py) c.list_len-n.ensures c.requires.inside
    (rw (to_z-of_z c.ranges.px) c.requires.close.0) (rw (to_z-of_z c.ranges.py) c.requires.close.1) in
    let place : (let a = c.args in Here a.xs.now a.ys.now a.i) = let a = c.args in
    here a.xs.now a.ys.now a.kinds.now a.i c.requires.placed (omega (arith, c.list_len-n.ensures, c.if-n-i.false)) in
    let h = place in
    let known = start in
    let d = moves h known.across known.down c.step.ensures c.step-2.ensures in
    let turn = any-turn c.args.kinds.now h d known.across known.down c.op_of.ensures refl refl in
    let done = scan-done (scan-on known c.if-n-i.false turn c.if-kinds-i-eq3.false c.cmd_len-more.ensures.0)
    (omega (arith, c.requires.last, c.list_len-n.ensures)) in
    rest-is (rw (to_z-of_z c.ranges.px, to_z-of_z c.ranges.py) at done) refl (omega arith)
