-- Two stitches, by the mask.
use Prim.Native.Nat.{◌+◌}
use mathlib.Core.Path.{◌≡◌}
use lib.ListN.{drop}
use Rattle.rules.specs.declared.Record.TheVariants.{StitchBy}
use Rattle.read_records.specs.Firsts.{first_record_of}
use Rattle.read_records.specs.declared.Row.TheVariants.{Pec}
use Rattle.read_passes.proofs.Found.{Long, here-long}
use Rattle.read_passes.proofs.Turns.{read, reads}
use Rattle.hoop_records.proofs.Turns.{can-two, looks-two}
use Rattle.hoop_records.proofs.steps.look_long.Goals as goal

pub sew_two-requires : goal.sew_two-requires
sew_two-requires c =
    let both : Long c.args.bytes.now c.args.w.at = here-long _ _ c.shared_slice_known-1.given c.requires.at_in_bounds c.requires.at_value in
    let one : let a = c.args in
    first_record_of Pec (drop a.w.at a.bytes.now)
    ≡ StitchBy (read c.pec_step-dx.result)
    (read c.pec_step-dy.result) 4 = let u = c.pec_step-dx in
    let v = c.pec_step-dy in
    rw (reads u.type_inv u.ensures, reads v.type_inv v.ensures) both.one in
    let two : let a = c.args in
    first_record_of Pec (drop (a.w.at + 4) a.bytes.now) ≡ StitchBy (read c.pec_step-ex.result) (read c.pec_step-ey.result) 4 = let u = c.pec_step-ex in
    let v = c.pec_step-ey in
    rw (reads u.type_inv u.ensures, reads v.type_inv v.ensures) both.two in
    can-two Pec c.requires.looking one two

pub returns : goal.returns
returns c =
    let both : Long c.args.bytes.now c.args.w.at = here-long _ _ c.shared_slice_known-1.given c.requires.at_in_bounds c.requires.at_value in
    let one : let a = c.args in
    first_record_of Pec (drop a.w.at a.bytes.now)
    ≡ StitchBy (read c.pec_step-dx.result)
    (read c.pec_step-dy.result) 4 = let u = c.pec_step-dx in
    let v = c.pec_step-dy in
    rw (reads u.type_inv u.ensures, reads v.type_inv v.ensures) both.one in
    let two : let a = c.args in
    first_record_of Pec (drop (a.w.at + 4) a.bytes.now) ≡ StitchBy (read c.pec_step-ex.result) (read c.pec_step-ey.result) 4 = let u = c.pec_step-ex in
    let v = c.pec_step-ey in
    rw (reads u.type_inv u.ensures, reads v.type_inv v.ensures) both.two in
    rw c.sew_two.ensures (looks-two Pec c.requires.looking one two)
