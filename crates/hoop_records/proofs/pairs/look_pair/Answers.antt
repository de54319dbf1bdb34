-- A control, one stitch or two.
use Prim.Native.Nat.{◌+◌}
use mathlib.Core.Path.{◌≡◌}
use lib.ListN.{drop}
use Rattle.rules.specs.declared.Record.TheVariants.{StitchBy}
use Rattle.read_records.specs.Firsts.{first_record_of, pair_row}
use Rattle.read_passes.proofs.Found.{pair-first, pair-second}
use Rattle.read_passes.proofs.Turns.{read, reads}
use Rattle.hoop_records.proofs.Turns.{can-step, can-two, looks-sewn, looks-two}
use Rattle.hoop_records.proofs.pairs.look_pair.Goals as goal

pub sew-requires : goal.sew-requires
sew-requires c =
    let one : let a = c.args in
    first_record_of (pair_row a.jef) (drop a.w.at a.bytes.now) ≡ StitchBy (read c.s8-dx.result) (read c.minus8-dy.result) 2 = let u = c.s8-dx in
    let v = c.minus8-dy in
    rw (reads u.type_inv u.ensures, reads v.type_inv v.ensures)
    (pair-first c.args.jef c.args.bytes.now c.args.w.at c.requires.at_in_bounds c.if-bytes-at.false) in
    can-step (pair_row c.args.jef) c.requires.looking one

pub returns-then-bytes-at-2 : goal.returns-then-bytes-at-2
returns-then-bytes-at-2 c =
    let one : let a = c.args in
    first_record_of (pair_row a.jef) (drop a.w.at a.bytes.now) ≡ StitchBy (read c.s8-dx.result) (read c.minus8-dy.result) 2 = let u = c.s8-dx in
    let v = c.minus8-dy in
    rw (reads u.type_inv u.ensures, reads v.type_inv v.ensures)
    (pair-first c.args.jef c.args.bytes.now c.args.w.at c.requires.at_in_bounds c.if-bytes-at.false) in
    rw c.sew.ensures (looks-sewn (pair_row c.args.jef) c.requires.looking one)

pub sew_two-requires : goal.sew_two-requires
sew_two-requires c =
    let one : let a = c.args in
    first_record_of (pair_row a.jef) (drop a.w.at a.bytes.now) ≡ StitchBy (read c.s8-dx.result) (read c.minus8-dy.result) 2 = let u = c.s8-dx in
    let v = c.minus8-dy in
    rw (reads u.type_inv u.ensures, reads v.type_inv v.ensures)
    (pair-first c.args.jef c.args.bytes.now c.args.w.at c.requires.at_in_bounds c.if-bytes-at.false) in
    let two : let a = c.args in
    first_record_of (pair_row a.jef) (drop (a.w.at + 2) a.bytes.now) ≡ StitchBy (read c.s8.result) (read c.minus8.result) 2 = let u = c.s8 in
    let v = c.minus8 in
    rw (reads u.type_inv u.ensures, reads v.type_inv v.ensures)
    (pair-second c.args.jef c.args.bytes.now c.args.w.at c.requires.at_in_bounds c.if-bytes-at-2.false) in
    can-two (pair_row c.args.jef) c.requires.looking one two

pub returns : goal.returns
returns c =
    let one : let a = c.args in
    first_record_of (pair_row a.jef) (drop a.w.at a.bytes.now) ≡ StitchBy (read c.s8-dx.result) (read c.minus8-dy.result) 2 = let u = c.s8-dx in
    let v = c.minus8-dy in
    rw (reads u.type_inv u.ensures, reads v.type_inv v.ensures)
    (pair-first c.args.jef c.args.bytes.now c.args.w.at c.requires.at_in_bounds c.if-bytes-at.false) in
    let two : let a = c.args in
    first_record_of (pair_row a.jef) (drop (a.w.at + 2) a.bytes.now) ≡ StitchBy (read c.s8.result) (read c.minus8.result) 2 = let u = c.s8 in
    let v = c.minus8 in
    rw (reads u.type_inv u.ensures, reads v.type_inv v.ensures)
    (pair-second c.args.jef c.args.bytes.now c.args.w.at c.requires.at_in_bounds c.if-bytes-at-2.false) in
    rw c.sew_two.ensures (looks-two (pair_row c.args.jef) c.requires.looking one two)
