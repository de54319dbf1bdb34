-- By the third byte.
use Prim.Native.Nat.{◌+◌, ◌≤◌}
use mathlib.Core.Path.{◌≡◌, refl}
use native.Mathlib.Omega.{arith}
use lib.ListN.{drop}
use Rattle.read_records.specs.declared.Row.TheVariants.{Dst}
use Rattle.rules.specs.declared.Record.TheVariants.{StitchBy, JumpBy}
use Rattle.read_records.specs.Firsts.{first_record_of}
use Rattle.read_builder.proofs.Rows.{kept-sewing}
use Rattle.read_passes.proofs.Turns.{reads, read}
use Rattle.read_fill.proofs.Laws.{can-sew, can-hop, can-change, turn_end, turn-sewn, turn-hopped, turn-changed}
use Rattle.read_fill.proofs.Rows.{cutting-stitch, cutting-jump, cutting-change, cutting-end}
use Rattle.read_passes.proofs.Found.{has, lacks, Triple, triple-stitch, triple-end, triple-change, triple-jump}
use Rattle.read_fill.proofs.triples.turn_triple.Goals as goal

pub sew-requires : goal.sew-requires
sew-requires c =
    let triple : let a = c.args in let u = c.dst_dx-dx.result in
    Triple a.bytes.now a.at (read u) (read c.dst_dy-dy.result) = let u = c.dst_dx-dx in
    record { room = omega (arith, c.requires.at_in_bounds); dx = reads u.type_inv u.ensures; dy = reads c.dst_dy-dy.type_inv c.dst_dy-dy.ensures } in
    let sews : let a = c.args in
    first_record_of Dst (drop a.at a.bytes.now) ≡ StitchBy (read c.dst_dx-dx.result) (read c.dst_dy-dy.result) 3 = triple-stitch triple (lacks 0x83 _ c.if-c.true) in
    let pp = can-sew c.requires.room sews in
    record { small = pp.0; reach = pp.1.0; y_in_bounds = pp.1.1 }

pub cuts_after_stitch-requires : goal.cuts_after_stitch-requires
cuts_after_stitch-requires c = omega (arith, c.requires.at_in_bounds, c.requires.room.short, c.requires.cutting.cuts)

pub overflow_add-at-then-b-eq0 : goal.overflow_add-at-then-b-eq0
overflow_add-at-then-b-eq0 c =
    let inside : c.args.at + 3 ≤ 2097152 = omega (arith, c.requires.at_in_bounds, c.requires.room.short) in
    omega (arith, inside)

pub returns-then-b-eq0 : goal.returns-then-b-eq0
returns-then-b-eq0 c =
    let triple : let a = c.args in let u = c.dst_dx-dx.result in
    Triple a.bytes.now a.at (read u) (read c.dst_dy-dy.result) = let u = c.dst_dx-dx in
    record { room = omega (arith, c.requires.at_in_bounds); dx = reads u.type_inv u.ensures; dy = reads c.dst_dy-dy.type_inv c.dst_dy-dy.ensures } in
    let sews : let a = c.args in
    first_record_of Dst (drop a.at a.bytes.now) ≡ StitchBy (read c.dst_dx-dx.result) (read c.dst_dy-dy.result) 3 = triple-stitch triple (lacks 0x83 _ c.if-c.true) in
    let e = sews in rw c.turned.ensures (record { turns = turn-sewn (omega (arith, c.requires.at_in_bounds)) e (c.sew.ensures.value, c.sew.ensures.places_value); cutting_2 = cutting-stitch c.requires.cutting e (c.cuts_after_stitch.ensures.kept _ _) refl c.cuts_after_stitch.ensures.upper_bound })

pub sew-requires-then-c : goal.sew-requires-then-c
sew-requires-then-c c =
    let triple : let a = c.args in let u = c.dst_dx-dx.result in
    Triple a.bytes.now a.at (read u) (read c.dst_dy-dy.result) = let u = c.dst_dx-dx in
    record { room = omega (arith, c.requires.at_in_bounds); dx = reads u.type_inv u.ensures; dy = reads c.dst_dy-dy.type_inv c.dst_dy-dy.ensures } in
    let sews : let a = c.args in
    first_record_of Dst (drop a.at a.bytes.now) ≡ StitchBy (read c.dst_dx-dx.result) (read c.dst_dy-dy.result) 3 = triple-stitch triple (lacks 0x83 _ c.if-c.true) in
    let pp = can-sew c.requires.room sews in
    record { small = pp.0; reach = pp.1.0; y_in_bounds = pp.1.1 }

pub overflow_add-at-then-c : goal.overflow_add-at-then-c
overflow_add-at-then-c c =
    let inside : c.args.at + 3 ≤ 2097152 = omega (arith, c.requires.at_in_bounds, c.requires.room.short) in
    omega (arith, inside)

pub returns-then-c : goal.returns-then-c
returns-then-c c =
    let triple : let a = c.args in let u = c.dst_dx-dx.result in
    Triple a.bytes.now a.at (read u) (read c.dst_dy-dy.result) = let u = c.dst_dx-dx in
    record { room = omega (arith, c.requires.at_in_bounds); dx = reads u.type_inv u.ensures; dy = reads c.dst_dy-dy.type_inv c.dst_dy-dy.ensures } in
    let sews : let a = c.args in
    first_record_of Dst (drop a.at a.bytes.now) ≡ StitchBy (read c.dst_dx-dx.result) (read c.dst_dy-dy.result) 3 = triple-stitch triple (lacks 0x83 _ c.if-c.true) in
    let e = sews in
    let one = c.requires.cutting.sewing c.if-b-eq0.false in rw c.turned-then-c.ensures (record { turns = turn-sewn (omega (arith, c.requires.at_in_bounds)) e (c.sew-then-c.ensures.value, c.sew-then-c.ensures.places_value); cutting_2 = cutting-stitch c.requires.cutting e (kept-sewing _ _ _ _ one) one (omega arith) })

pub returns-then-c-2 : goal.returns-then-c-2
returns-then-c-2 c =
    let triple : let a = c.args in let u = c.dst_dx-dx.result in
    Triple a.bytes.now a.at (read u) (read c.dst_dy-dy.result) = let u = c.dst_dx-dx in
    record { room = omega (arith, c.requires.at_in_bounds); dx = reads u.type_inv u.ensures; dy = reads c.dst_dy-dy.type_inv c.dst_dy-dy.ensures } in
    let e = triple-end triple (has 0xF3 _ c.if-c-2.true) in rw c.turned-then-c-2.ensures (record { turns = turn_end (omega (arith, c.requires.at_in_bounds)) e; cutting_2 = cutting-end c.requires.cutting e (omega (arith, c.requires.at_in_bounds)) })

pub change-requires : goal.change-requires
change-requires c =
    let triple : let a = c.args in let u = c.dst_dx-dx.result in
    Triple a.bytes.now a.at (read u) (read c.dst_dy-dy.result) = let u = c.dst_dx-dx in
    record { room = omega (arith, c.requires.at_in_bounds); dx = reads u.type_inv u.ensures; dy = reads c.dst_dy-dy.type_inv c.dst_dy-dy.ensures } in
    let pp = can-change c.requires.room
    (triple-change triple (lacks 0xF3 _ c.if-c-2.false) (has 0xC3 _ c.if-c-3.true)) in
    record { small = pp.0; reach = pp.1.0; run_in_bounds = pp.1.1.0; begun_in_bounds = pp.1.1.1 }

pub overflow_add-at-then-c-3 : goal.overflow_add-at-then-c-3
overflow_add-at-then-c-3 c =
    let inside : c.args.at + 3 ≤ 2097152 = omega (arith, c.requires.at_in_bounds, c.requires.room.short) in
    omega (arith, inside)

pub returns-then-c-3 : goal.returns-then-c-3
returns-then-c-3 c =
    let triple : let a = c.args in let u = c.dst_dx-dx.result in
    Triple a.bytes.now a.at (read u) (read c.dst_dy-dy.result) = let u = c.dst_dx-dx in
    record { room = omega (arith, c.requires.at_in_bounds); dx = reads u.type_inv u.ensures; dy = reads c.dst_dy-dy.type_inv c.dst_dy-dy.ensures } in
    let e = triple-change triple (lacks 0xF3 _ c.if-c-2.false) (has 0xC3 _ c.if-c-3.true) in rw c.turned-then-c-3.ensures (record { turns = turn-changed (omega (arith, c.requires.at_in_bounds)) e (c.change.ensures.value, (c.change.ensures.runs_value, c.change.ensures.blocks_value)); cutting_2 = cutting-change c.requires.cutting e c.change.ensures.value })

pub hop-requires : goal.hop-requires
hop-requires c =
    let triple : let a = c.args in let u = c.dst_dx-dx.result in
    Triple a.bytes.now a.at (read u) (read c.dst_dy-dy.result) = let u = c.dst_dx-dx in
    record { room = omega (arith, c.requires.at_in_bounds); dx = reads u.type_inv u.ensures; dy = reads c.dst_dy-dy.type_inv c.dst_dy-dy.ensures } in
    let jumps : let a = c.args in
    first_record_of Dst (drop a.at a.bytes.now) ≡ JumpBy (read c.dst_dx-dx.result) (read c.dst_dy-dy.result) 3 = triple-jump triple (lacks 0xF3 _ c.if-c-2.false) (lacks 0xC3 _ c.if-c-3.false)
    (has 0x83 _ c.if-c.false) in
    let pp = can-hop c.requires.room jumps in
    record { small = pp.0; reach = pp.1.0; run_in_bounds = pp.1.1 }

pub since_after_jump-requires : goal.since_after_jump-requires
since_after_jump-requires c = omega (arith, c.requires.at_in_bounds, c.requires.room.short, c.requires.cutting.since)

pub overflow_add-at-3 : goal.overflow_add-at-3
overflow_add-at-3 c =
    let inside : c.args.at + 3 ≤ 2097152 = omega (arith, c.requires.at_in_bounds, c.requires.room.short) in
    omega (arith, inside)

pub returns : goal.returns
returns c =
    let triple : let a = c.args in let u = c.dst_dx-dx.result in
    Triple a.bytes.now a.at (read u) (read c.dst_dy-dy.result) = let u = c.dst_dx-dx in
    record { room = omega (arith, c.requires.at_in_bounds); dx = reads u.type_inv u.ensures; dy = reads c.dst_dy-dy.type_inv c.dst_dy-dy.ensures } in
    let jumps : let a = c.args in
    first_record_of Dst (drop a.at a.bytes.now) ≡ JumpBy (read c.dst_dx-dx.result) (read c.dst_dy-dy.result) 3 = triple-jump triple (lacks 0xF3 _ c.if-c-2.false) (lacks 0xC3 _ c.if-c-3.false)
    (has 0x83 _ c.if-c.false) in
    let e = jumps in rw c.turned-2.ensures (record { turns = turn-hopped (omega (arith, c.requires.at_in_bounds)) e (c.hop.ensures.value, c.hop.ensures.runs_value); cutting_2 = cutting-jump c.requires.cutting e (c.since_after_jump.ensures.kept _ _ _) c.since_after_jump.ensures.upper_bound c.hop.ensures.value })
