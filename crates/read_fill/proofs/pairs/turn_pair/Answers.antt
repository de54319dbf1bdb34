-- A control, one stitch or two.
use Prim.Native.Nat.{◌+◌}
use mathlib.Core.Path.{◌≡◌}
use native.Mathlib.Omega.{arith}
use lib.ListN.{drop}
use Rattle.rules.specs.Vocabulary.{pick}
use Rattle.read_records.specs.declared.Row.TheVariants.{Exp, Jef}
use Rattle.rules.specs.declared.Record.TheVariants.{StitchBy}
use Rattle.read_records.specs.Firsts.{first_record_of}
use Rattle.read_passes.proofs.Found.{pair-first, pair-second}
use Rattle.read_passes.proofs.Turns.{read, reads}
use Rattle.read_fill.proofs.Laws.{can-sew, can-again, turn-sewn, turn_twice}
use Rattle.read_fill.proofs.pairs.turn_pair.Goals as goal

pub turn_control-requires : goal.turn_control-requires
turn_control-requires c = record { kinds = c.requires.kinds; at_in_bounds = c.requires.at_in_bounds; at_value = c.if-bytes-at.true; room = c.requires.room }

pub sew-one-requires : goal.sew-one-requires
sew-one-requires c =
    let one : let u = c.s8 in let a = c.args in
    first_record_of (pick a.jef Jef Exp) (drop a.at a.bytes.now) ≡ StitchBy (read u.result) (read c.minus8.result) 2 = let u = c.s8 in
    let v = c.minus8 in
    let a = c.args in
    rw (reads u.type_inv u.ensures, reads v.type_inv v.ensures)
    (pair-first a.jef a.bytes.now a.at c.requires.at_in_bounds c.if-bytes-at.false) in
    let pp = can-sew c.requires.room one in
    record { small = pp.0; reach = pp.1.0; y_in_bounds = pp.1.1 }

pub returns-then-bytes-at-2 : goal.returns-then-bytes-at-2
returns-then-bytes-at-2 c =
    let one : let u = c.s8 in let a = c.args in
    first_record_of (pick a.jef Jef Exp) (drop a.at a.bytes.now) ≡ StitchBy (read u.result) (read c.minus8.result) 2 = let u = c.s8 in
    let v = c.minus8 in
    let a = c.args in
    rw (reads u.type_inv u.ensures, reads v.type_inv v.ensures)
    (pair-first a.jef a.bytes.now a.at c.requires.at_in_bounds c.if-bytes-at.false) in
    turn-sewn (omega (arith, c.requires.at_in_bounds)) one (c.sew-one.ensures.value, c.sew-one.ensures.places_value)

pub sew-requires : goal.sew-requires
sew-requires c =
    let one : let u = c.s8 in let a = c.args in
    first_record_of (pick a.jef Jef Exp) (drop a.at a.bytes.now) ≡ StitchBy (read u.result) (read c.minus8.result) 2 = let u = c.s8 in
    let v = c.minus8 in
    let a = c.args in
    rw (reads u.type_inv u.ensures, reads v.type_inv v.ensures)
    (pair-first a.jef a.bytes.now a.at c.requires.at_in_bounds c.if-bytes-at.false) in
    let two : let u = c.s8-2 in let a = c.args in
    first_record_of (pick a.jef Jef Exp) (drop (a.at + 2) a.bytes.now) ≡ StitchBy (read u.result) (read c.minus8-2.result) 2 = let u = c.s8-2 in
    let v = c.minus8-2 in
    let a = c.args in
    rw (reads u.type_inv u.ensures, reads v.type_inv v.ensures)
    (pair-second a.jef a.bytes.now a.at c.requires.at_in_bounds c.if-bytes-at-2.false) in
    let pp = can-again one c.args.places.now (c.sew-one.ensures.value, c.sew-one.ensures.places_value) two c.requires.room in
    record { small = pp.0; reach = pp.1.0; y_in_bounds = pp.1.1 }

pub overflow_add-result-2 : goal.overflow_add-result-2
overflow_add-result-2 c = omega (arith, c.requires.room.short, c.requires.at_in_bounds)

pub returns : goal.returns
returns c =
    let one : let u = c.s8 in let a = c.args in
    first_record_of (pick a.jef Jef Exp) (drop a.at a.bytes.now) ≡ StitchBy (read u.result) (read c.minus8.result) 2 = let u = c.s8 in
    let v = c.minus8 in
    let a = c.args in
    rw (reads u.type_inv u.ensures, reads v.type_inv v.ensures)
    (pair-first a.jef a.bytes.now a.at c.requires.at_in_bounds c.if-bytes-at.false) in
    let two : let u = c.s8-2 in let a = c.args in
    first_record_of (pick a.jef Jef Exp) (drop (a.at + 2) a.bytes.now) ≡ StitchBy (read u.result) (read c.minus8-2.result) 2 = let u = c.s8-2 in
    let v = c.minus8-2 in
    let a = c.args in
    rw (reads u.type_inv u.ensures, reads v.type_inv v.ensures)
    (pair-second a.jef a.bytes.now a.at c.requires.at_in_bounds c.if-bytes-at-2.false) in
    let e = two in
    turn_twice one c.args.places.now (c.sew-one.ensures.value, c.sew-one.ensures.places_value) e (omega arith) (c.sew.ensures.value, c.sew.ensures.places_value) (omega arith)
