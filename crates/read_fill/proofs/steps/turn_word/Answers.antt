-- By the word: the end, a colour change, a stitch, or a row of jumps.
use Prim.Native.Nat.{ℕ, ◌+◌, ◌/◌, ◌%◌}
use mathlib.Core.Path.{◌≡◌}
use native.Mathlib.Omega.{arith}
use lib.ListN.{drop}
use mathlib.Core.Bool.{true, false}
use Rattle.rules.specs.declared.Record.{Record}
use Rattle.rules.specs.declared.Record.TheVariants.{StitchBy, JumpBy}
use Rattle.read_records.specs.declared.Row.TheVariants.{Pec}
use Rattle.read_records.specs.Firsts.{first_record_of}
use Rattle.read_passes.proofs.Turns.{read, reads}
use Rattle.read_fill.proofs.Laws.{can-sew, can-hop, can-change, turn_end, turn-sewn, turn-changed, turned-at}
use Rattle.read_passes.proofs.Found.{Word, stepped, ends-here, changes-here, steps-here}
use Rattle.read_fill.proofs.Hops.{can-row, turn-row}
use Rattle.read_fill.proofs.steps.turn_word.Goals as goal

pub returns-then-w-eq255 : goal.returns-then-w-eq255
returns-then-w-eq255 c =
    let word : Word c.args.bytes.now c.args.at c.args.w = record { low = c.shared_slice_known-1.given; room = c.requires.by_index _ c.requires.at_lt_end; four = c.requires.w_value } in
    let w = word in turn_end (omega arith) (ends-here w c.if-w-eq255.true)

pub change-requires : goal.change-requires
change-requires c =
    let word : Word c.args.bytes.now c.args.at c.args.w = record { low = c.shared_slice_known-1.given; room = c.requires.by_index _ c.requires.at_lt_end; four = c.requires.w_value } in
    let pp = can-change c.requires.room (changes-here word c.if-w-eq45310.true) in
    record { small = pp.0; reach = pp.1.0; run_in_bounds = pp.1.1.0; begun_in_bounds = pp.1.1.1 }

pub returns-then-w-eq45310 : goal.returns-then-w-eq45310
returns-then-w-eq45310 c =
    let word : Word c.args.bytes.now c.args.at c.args.w = record { low = c.shared_slice_known-1.given; room = c.requires.by_index _ c.requires.at_lt_end; four = c.requires.w_value } in
    let w = word in
    turn-changed (omega arith) (changes-here w c.if-w-eq45310.true) (c.change.ensures.value, (c.change.ensures.runs_value, c.change.ensures.blocks_value))

pub sew-requires : goal.sew-requires
sew-requires c =
    let Here : Record → Type 0 = λ r. let a = c.args in first_record_of Pec (drop a.at a.bytes.now) ≡ r in
    let size : ℕ = 2 + c.args.w / 128 % 2 + c.past-y.result / 128 % 2 in
    let word : Word c.args.bytes.now c.args.at c.args.w = record { low = c.shared_slice_known-1.given; room = c.requires.by_index _ c.requires.at_lt_end; four = c.requires.w_value } in
    let steps : let w = c.args.w in let y = c.past-y.result in
    let p = c.sews_by.result in (p ≡ true → Here (stepped StitchBy w y)) × (p ≡ false → Here (stepped JumpBy w y)) = steps-here word c.past-y.ensures c.sews_by.ensures c.if-w-eq255.false c.if-w-eq45310.false in
    let sews : Here (StitchBy (read c.step_of.result) (read c.step_of-then-sews_by.result) size) = let u = c.step_of in
    let v = c.step_of-then-sews_by in
    rw (reads u.type_inv u.ensures, reads v.type_inv v.ensures) (steps.0 c.if-sews_by.true) in
    let pp = can-sew c.requires.room sews in
    record { small = pp.0; reach = pp.1.0; y_in_bounds = pp.1.1 }

pub returns-then-sews_by : goal.returns-then-sews_by
returns-then-sews_by c =
    let word : Word c.args.bytes.now c.args.at c.args.w = record { low = c.shared_slice_known-1.given; room = c.requires.by_index _ c.requires.at_lt_end; four = c.requires.w_value } in
    let Here : Record → Type 0 = λ r. let a = c.args in first_record_of Pec (drop a.at a.bytes.now) ≡ r in
    let size : ℕ = 2 + c.args.w / 128 % 2 + c.past-y.result / 128 % 2 in
    let steps : let w = c.args.w in let y = c.past-y.result in
    let p = c.sews_by.result in (p ≡ true → Here (stepped StitchBy w y)) × (p ≡ false → Here (stepped JumpBy w y)) = steps-here word c.past-y.ensures c.sews_by.ensures c.if-w-eq255.false c.if-w-eq45310.false in
    let sews : Here (StitchBy (read c.step_of.result) (read c.step_of-then-sews_by.result) size) = let u = c.step_of in
    let v = c.step_of-then-sews_by in
    rw (reads u.type_inv u.ensures, reads v.type_inv v.ensures) (steps.0 c.if-sews_by.true) in
    let next : let a = c.args in
    a.at + 2 + c.top.result + c.top-2.result ≡ a.at + size = omega (arith, c.top.ensures, c.top-2.ensures) in
    let w = word in
    turned-at (turn-sewn (omega arith) sews (c.sew.ensures.value, c.sew.ensures.places_value)) next

pub hop-requires : goal.hop-requires
hop-requires c =
    let Here : Record → Type 0 = λ r. let a = c.args in first_record_of Pec (drop a.at a.bytes.now) ≡ r in
    let size : ℕ = 2 + c.args.w / 128 % 2 + c.past-y.result / 128 % 2 in
    let word : Word c.args.bytes.now c.args.at c.args.w = record { low = c.shared_slice_known-1.given; room = c.requires.by_index _ c.requires.at_lt_end; four = c.requires.w_value } in
    let steps : let w = c.args.w in let y = c.past-y.result in
    let p = c.sews_by.result in (p ≡ true → Here (stepped StitchBy w y)) × (p ≡ false → Here (stepped JumpBy w y)) = steps-here word c.past-y.ensures c.sews_by.ensures c.if-w-eq255.false c.if-w-eq45310.false in
    let hops : Here (JumpBy (read c.step_of-2.result) (read c.step_of-3.result) size) = let u = c.step_of-2 in
    let v = c.step_of-3 in
    rw (reads u.type_inv u.ensures, reads v.type_inv v.ensures) (steps.1 c.if-sews_by.false) in
    let pp = can-hop c.requires.room hops in
    record { small = pp.0; reach = pp.1.0; run_in_bounds = pp.1.1 }

pub hop_row-requires : goal.hop_row-requires
hop_row-requires c =
    let Here : Record → Type 0 = λ r. let a = c.args in first_record_of Pec (drop a.at a.bytes.now) ≡ r in
    let size : ℕ = 2 + c.args.w / 128 % 2 + c.past-y.result / 128 % 2 in
    let word : Word c.args.bytes.now c.args.at c.args.w = record { low = c.shared_slice_known-1.given; room = c.requires.by_index _ c.requires.at_lt_end; four = c.requires.w_value } in
    let steps : let w = c.args.w in let y = c.past-y.result in
    let p = c.sews_by.result in (p ≡ true → Here (stepped StitchBy w y)) × (p ≡ false → Here (stepped JumpBy w y)) = steps-here word c.past-y.ensures c.sews_by.ensures c.if-w-eq255.false c.if-w-eq45310.false in
    let hops : Here (JumpBy (read c.step_of-2.result) (read c.step_of-3.result) size) = let u = c.step_of-2 in
    let v = c.step_of-3 in
    rw (reads u.type_inv u.ensures, reads v.type_inv v.ensures) (steps.1 c.if-sews_by.false) in
    let next : let a = c.args in
    a.at + 2 + c.top.result + c.top-2.result ≡ a.at + size = omega (arith, c.top.ensures, c.top-2.ensures) in
    let pp = can-row hops next c.requires.room c.hop.ensures.value in
    record {
      pec_steps = c.requires.pec_steps;
      bytes_len_bound = c.requires.room.short;
      by_index = c.requires.by_index;
      from_in_bounds = pp.0;
      bounded = pp.1.0;
      run_value = pp.1.1;
    }

pub returns : goal.returns
returns c =
    let word : Word c.args.bytes.now c.args.at c.args.w = record { low = c.shared_slice_known-1.given; room = c.requires.by_index _ c.requires.at_lt_end; four = c.requires.w_value } in
    let Here : Record → Type 0 = λ r. let a = c.args in first_record_of Pec (drop a.at a.bytes.now) ≡ r in
    let size : ℕ = 2 + c.args.w / 128 % 2 + c.past-y.result / 128 % 2 in
    let steps : let w = c.args.w in let y = c.past-y.result in
    let p = c.sews_by.result in (p ≡ true → Here (stepped StitchBy w y)) × (p ≡ false → Here (stepped JumpBy w y)) = steps-here word c.past-y.ensures c.sews_by.ensures c.if-w-eq255.false c.if-w-eq45310.false in
    let hops : Here (JumpBy (read c.step_of-2.result) (read c.step_of-3.result) size) = let u = c.step_of-2 in
    let v = c.step_of-3 in
    rw (reads u.type_inv u.ensures, reads v.type_inv v.ensures) (steps.1 c.if-sews_by.false) in
    let next : let a = c.args in
    a.at + 2 + c.top.result + c.top-2.result ≡ a.at + size = omega (arith, c.top.ensures, c.top-2.ensures) in
    let w = word in
    turn-row hops next (omega arith) (c.hop.ensures.value, c.hop.ensures.runs_value) (c.hop_row.ensures.hopped, c.hop_row.ensures.from_le_at)
