-- Each kind of record by its law.
use Prim.Native.Nat.{ℕ, ◌+◌}
use mathlib.Core.Path.{◌≡◌}
use mathlib.Core.Bool.{true, false}
use native.Mathlib.Omega.{arith}
use lib.IntN.{ℤ}
use lib.ListN.{drop}
use Rattle.rules.specs.declared.Record.{Record}
use Rattle.rules.specs.declared.Record.TheVariants.{StitchBy, JumpBy}
use Rattle.read_records.specs.Firsts.{first_record_of}
use Rattle.read_records.specs.declared.Row.TheVariants.{Pec}
use Rattle.read_passes.proofs.Found.{Word, ends-here, changes-here, steps-here}
use Rattle.read_passes.proofs.Turns.{read, reads}
use Rattle.hoop_records.proofs.Turns.{can-step, looks-sewn, looks-jump, looks-change, looks-end}
use Rattle.hoop_records.proofs.steps.look_word.Goals as goal

pub returns-then-v-eq255 : goal.returns-then-v-eq255
returns-then-v-eq255 c =
    let word : let a = c.args in Word a.bytes.now a.w.at a.v = record { low = c.shared_slice_known-1.given; room = c.requires.at_in_bounds; four = c.requires.v_value } in
    rw c.pass_to.ensures (looks-end Pec c.requires.looking (omega (arith, c.requires.at_in_bounds)) (ends-here word c.if-v-eq255.true))

pub hop-requires : goal.hop-requires
hop-requires c =
    let word : let a = c.args in Word a.bytes.now a.w.at a.v = record { low = c.shared_slice_known-1.given; room = c.requires.at_in_bounds; four = c.requires.v_value } in
    can-step Pec c.requires.looking (changes-here word c.if-v-eq45310.true)

pub returns-then-v-eq45310 : goal.returns-then-v-eq45310
returns-then-v-eq45310 c =
    let word : let a = c.args in Word a.bytes.now a.w.at a.v = record { low = c.shared_slice_known-1.given; room = c.requires.at_in_bounds; four = c.requires.v_value } in
    rw c.hop.ensures (looks-change Pec c.requires.looking (changes-here word c.if-v-eq45310.true))

pub sew-requires : goal.sew-requires
sew-requires c =
    let word : let a = c.args in Word a.bytes.now a.w.at a.v = record { low = c.shared_slice_known-1.given; room = c.requires.at_in_bounds; four = c.requires.v_value } in
    let Here : (ℤ → ℤ → ℕ → Record) → Type 0 = λ r. let a = c.args in first_record_of Pec (drop a.w.at a.bytes.now)
    ≡ r (read c.step_of-dx.result) (read c.step_of-dy.result)
    (2 + c.top.result + c.top-2.result) in
    let steps : let p = c.sews_by.result in (p ≡ true → Here StitchBy) × (p ≡ false → Here JumpBy) = let m = c.past-y in
    let u = c.step_of-dx in
    let v = c.step_of-dy in
    rw (reads u.type_inv u.ensures, reads v.type_inv v.ensures, c.top.ensures, c.top-2.ensures)
    (steps-here word m.ensures c.sews_by.ensures c.if-v-eq255.false c.if-v-eq45310.false) in
    can-step Pec c.requires.looking (steps.0 c.if-sews_by.true)

pub returns-then-sews_by : goal.returns-then-sews_by
returns-then-sews_by c =
    let word : let a = c.args in Word a.bytes.now a.w.at a.v = record { low = c.shared_slice_known-1.given; room = c.requires.at_in_bounds; four = c.requires.v_value } in
    let Here : (ℤ → ℤ → ℕ → Record) → Type 0 = λ r. let a = c.args in first_record_of Pec (drop a.w.at a.bytes.now)
    ≡ r (read c.step_of-dx.result) (read c.step_of-dy.result)
    (2 + c.top.result + c.top-2.result) in
    let steps : let p = c.sews_by.result in (p ≡ true → Here StitchBy) × (p ≡ false → Here JumpBy) = let m = c.past-y in
    let u = c.step_of-dx in
    let v = c.step_of-dy in
    rw (reads u.type_inv u.ensures, reads v.type_inv v.ensures, c.top.ensures, c.top-2.ensures)
    (steps-here word m.ensures c.sews_by.ensures c.if-v-eq255.false c.if-v-eq45310.false) in
    rw c.sew.ensures (looks-sewn Pec c.requires.looking (steps.0 c.if-sews_by.true))

pub hop-requires-2 : goal.hop-requires-2
hop-requires-2 c =
    let word : let a = c.args in Word a.bytes.now a.w.at a.v = record { low = c.shared_slice_known-1.given; room = c.requires.at_in_bounds; four = c.requires.v_value } in
    let Here : (ℤ → ℤ → ℕ → Record) → Type 0 = λ r. let a = c.args in first_record_of Pec (drop a.w.at a.bytes.now)
    ≡ r (read c.step_of-dx.result) (read c.step_of-dy.result)
    (2 + c.top.result + c.top-2.result) in
    let steps : let p = c.sews_by.result in (p ≡ true → Here StitchBy) × (p ≡ false → Here JumpBy) = let m = c.past-y in
    let u = c.step_of-dx in
    let v = c.step_of-dy in
    rw (reads u.type_inv u.ensures, reads v.type_inv v.ensures, c.top.ensures, c.top-2.ensures)
    (steps-here word m.ensures c.sews_by.ensures c.if-v-eq255.false c.if-v-eq45310.false) in
    can-step Pec c.requires.looking (steps.1 c.if-sews_by.false)

pub returns : goal.returns
returns c =
    let word : let a = c.args in Word a.bytes.now a.w.at a.v = record { low = c.shared_slice_known-1.given; room = c.requires.at_in_bounds; four = c.requires.v_value } in
    let Here : (ℤ → ℤ → ℕ → Record) → Type 0 = λ r. let a = c.args in first_record_of Pec (drop a.w.at a.bytes.now)
    ≡ r (read c.step_of-dx.result) (read c.step_of-dy.result)
    (2 + c.top.result + c.top-2.result) in
    let steps : let p = c.sews_by.result in (p ≡ true → Here StitchBy) × (p ≡ false → Here JumpBy) = let m = c.past-y in
    let u = c.step_of-dx in
    let v = c.step_of-dy in
    rw (reads u.type_inv u.ensures, reads v.type_inv v.ensures, c.top.ensures, c.top-2.ensures)
    (steps-here word m.ensures c.sews_by.ensures c.if-v-eq255.false c.if-v-eq45310.false) in
    rw c.hop-2.ensures (looks-jump Pec c.requires.looking (steps.1 c.if-sews_by.false))
