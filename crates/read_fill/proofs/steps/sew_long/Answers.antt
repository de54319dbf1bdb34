-- Two stitches, by the mask.
use Prim.Native.Nat.{◌+◌}
use mathlib.Core.Path.{◌≡◌}
use native.Mathlib.Omega.{arith}
use lib.ListN.{drop}
use Rattle.rules.specs.declared.Record.TheVariants.{StitchBy}
use Rattle.read_records.specs.declared.Row.TheVariants.{Pec}
use Rattle.read_records.specs.Firsts.{first_record_of}
use Rattle.read_passes.proofs.Turns.{read, reads}
use Rattle.read_fill.proofs.Laws.{can-sew, can-again, turn_twice}
use Rattle.read_passes.proofs.Found.{Long, here-long}
use Rattle.read_fill.proofs.steps.sew_long.Goals as goal

pub sew-one-requires : goal.sew-one-requires
sew-one-requires c =
    let both : Long c.args.bytes.now c.args.at = here-long _ _ c.shared_slice_known-1.given c.requires.at_in_bounds c.requires.at_value in
    let one : let u = c.pec_step-dx.result in
    let a = c.args in
    first_record_of Pec (drop a.at a.bytes.now) ≡ StitchBy (read u) (read c.pec_step-dy.result) 4 = let u = c.pec_step-dx in
    let v = c.pec_step-dy in
    rw (reads u.type_inv u.ensures, reads v.type_inv v.ensures) both.one in
    let pp = can-sew c.requires.room_here.ready one in
    record { small = pp.0; reach = pp.1.0; y_in_bounds = pp.1.1 }

pub sew-requires : goal.sew-requires
sew-requires c =
    let both : Long c.args.bytes.now c.args.at = here-long _ _ c.shared_slice_known-1.given c.requires.at_in_bounds c.requires.at_value in
    let one : let u = c.pec_step-dx.result in
    let a = c.args in
    first_record_of Pec (drop a.at a.bytes.now) ≡ StitchBy (read u) (read c.pec_step-dy.result) 4 = let u = c.pec_step-dx in
    let v = c.pec_step-dy in
    rw (reads u.type_inv u.ensures, reads v.type_inv v.ensures) both.one in
    let two : let u = c.pec_step-ex.result in
    let a = c.args in
    first_record_of Pec (drop (a.at + 4) a.bytes.now) ≡ StitchBy (read u) (read c.pec_step-ey.result) 4 = let u = c.pec_step-ex in
    let v = c.pec_step-ey in
    rw (reads u.type_inv u.ensures, reads v.type_inv v.ensures)
    both.two in
    let pp = can-again one c.args.places.now (c.sew-one.ensures.value, c.sew-one.ensures.places_value) two c.requires.room_here.ready in
    record { small = pp.0; reach = pp.1.0; y_in_bounds = pp.1.1 }

pub overflow_add-result : goal.overflow_add-result
overflow_add-result c = omega (arith, c.requires.at_in_bounds, c.requires.room_here.ready.short)

pub returns : goal.returns
returns c =
    let both : Long c.args.bytes.now c.args.at = here-long _ _ c.shared_slice_known-1.given c.requires.at_in_bounds c.requires.at_value in
    let one : let u = c.pec_step-dx.result in
    let a = c.args in
    first_record_of Pec (drop a.at a.bytes.now) ≡ StitchBy (read u) (read c.pec_step-dy.result) 4 = let u = c.pec_step-dx in
    let v = c.pec_step-dy in
    rw (reads u.type_inv u.ensures, reads v.type_inv v.ensures) both.one in
    let two : let u = c.pec_step-ex.result in
    let a = c.args in
    first_record_of Pec (drop (a.at + 4) a.bytes.now) ≡ StitchBy (read u) (read c.pec_step-ey.result) 4 = let u = c.pec_step-ex in
    let v = c.pec_step-ey in
    rw (reads u.type_inv u.ensures, reads v.type_inv v.ensures)
    both.two in
    let e = two in
    (λ k R B. turn_twice one c.args.places.now (c.sew-one.ensures.value, c.sew-one.ensures.places_value) e (omega arith) (c.sew.ensures.value, c.sew.ensures.places_value) (omega arith))
