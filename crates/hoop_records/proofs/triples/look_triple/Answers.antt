-- By the third byte.
use Rattle.std.specs.Prelude.{Some}
use Prim.Native.Nat.{◌+◌}
use mathlib.Core.Bool.{false}
use native.Mathlib.Omega.{arith}
use lib.ListN.{get_or}
use Rattle.rules.specs.Dst.{under}
use Rattle.laws.specs.Tests.{by-test}
use Rattle.read_records.specs.declared.Row.TheVariants.{Dst}
use Rattle.read_passes.proofs.Found.{has, lacks, Triple, triple-stitch, triple-end, triple-change, triple-jump}
use Rattle.read_passes.proofs.Turns.{read, reads}
use Rattle.hoop_records.specs.Looks.{stepped, Leads}
use Rattle.hoop_records.specs.Rows.{Looks}
use Rattle.hoop_records.proofs.Turns.{can-step, looks-sewn, looks-jump, looks-change, looks-end}
use Rattle.hoop_records.proofs.triples.look_triple.Goals as goal

pub sew-requires : goal.sew-requires
sew-requires c =
    let triple : let a = c.args in
    Triple a.bytes.now a.w.at (read c.dst_dx-dx.result) (read c.dst_dy-dy.result) = let u = c.dst_dx-dx in
    record { room = omega (arith, c.requires.at_in_bounds); dx = reads u.type_inv u.ensures; dy = reads c.dst_dy-dy.type_inv c.dst_dy-dy.ensures } in
    can-step Dst c.requires.looking (triple-stitch triple (lacks 0x83 _ c.if-c.true))

pub returns-then-c : goal.returns-then-c
returns-then-c c =
    let triple : let a = c.args in
    Triple a.bytes.now a.w.at (read c.dst_dx-dx.result) (read c.dst_dy-dy.result) = let u = c.dst_dx-dx in
    record { room = omega (arith, c.requires.at_in_bounds); dx = reads u.type_inv u.ensures; dy = reads c.dst_dy-dy.type_inv c.dst_dy-dy.ensures } in
    rw c.sew.ensures (looks-sewn Dst c.requires.looking (triple-stitch triple (lacks 0x83 _ c.if-c.true)))

pub returns-then-c-2 : goal.returns-then-c-2
returns-then-c-2 c =
    let triple : let a = c.args in
    Triple a.bytes.now a.w.at (read c.dst_dx-dx.result) (read c.dst_dy-dy.result) = let u = c.dst_dx-dx in
    record { room = omega (arith, c.requires.at_in_bounds); dx = reads u.type_inv u.ensures; dy = reads c.dst_dy-dy.type_inv c.dst_dy-dy.ensures } in
    let e = triple-end triple (has 0xF3 _ c.if-c-2.true) in
    rw c.pass_to.ensures (looks-end Dst c.requires.looking (omega (arith, c.requires.at_in_bounds)) e)

pub hop-requires : goal.hop-requires
hop-requires c =
    let triple : let a = c.args in
    Triple a.bytes.now a.w.at (read c.dst_dx-dx.result) (read c.dst_dy-dy.result) = let u = c.dst_dx-dx in
    record { room = omega (arith, c.requires.at_in_bounds); dx = reads u.type_inv u.ensures; dy = reads c.dst_dy-dy.type_inv c.dst_dy-dy.ensures } in
    let hops : let a = c.args in
    let x = read c.dst_dx-dx.result in let y = read c.dst_dy-dy.result in
    Leads a.w x y 3 × Looks Dst a.h a.bytes.now a.w (Some (stepped false a.w x y 3)) = let t = triple in
    let l = c.requires.looking in
    let n = lacks 0xF3 _ c.if-c-2.false in
    by-test (under 0xC3 (get_or c.args.bytes.now (c.args.w.at + 2) 0))
    (λ e. let k = triple-change t n e in (can-step Dst l k, looks-change Dst l k))
    (λ e. let k = triple-jump t n e (has 0x83 _ c.if-c.false) in (can-step Dst l k, looks-jump Dst l k)) in
    hops.0

pub returns : goal.returns
returns c =
    let triple : let a = c.args in
    Triple a.bytes.now a.w.at (read c.dst_dx-dx.result) (read c.dst_dy-dy.result) = let u = c.dst_dx-dx in
    record { room = omega (arith, c.requires.at_in_bounds); dx = reads u.type_inv u.ensures; dy = reads c.dst_dy-dy.type_inv c.dst_dy-dy.ensures } in
    let hops : let a = c.args in
    let x = read c.dst_dx-dx.result in let y = read c.dst_dy-dy.result in
    Leads a.w x y 3 × Looks Dst a.h a.bytes.now a.w (Some (stepped false a.w x y 3)) = let t = triple in
    let l = c.requires.looking in
    let n = lacks 0xF3 _ c.if-c-2.false in
    by-test (under 0xC3 (get_or c.args.bytes.now (c.args.w.at + 2) 0))
    (λ e. let k = triple-change t n e in (can-step Dst l k, looks-change Dst l k))
    (λ e. let k = triple-jump t n e (has 0x83 _ c.if-c.false) in (can-step Dst l k, looks-jump Dst l k)) in
    rw c.hop.ensures hops.1
