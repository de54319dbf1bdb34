-- Each case by its law.
use mathlib.Core.Path.{◌≡◌, refl}
use Prim.Native.Nat.{◌+◌, ◌/◌, ◌%◌}
use mathlib.Core.Bool.{true, false}
use lib.ListN.{drop}
use native.Mathlib.Omega.{arith}
use Rattle.read_records.specs.declared.Row.TheVariants.{Pec}
use Rattle.rules.specs.declared.Record.TheVariants.{StitchBy, JumpBy}
use Rattle.read_records.specs.Firsts.{first_record_of}
use Rattle.read_passes.proofs.Found.{Word, stepped, ends-here, changes-here, steps-here}
use Rattle.read_count.proofs.Laws.{tallying-small, tallying-jumps, passed}
use Rattle.read_count.proofs.steps.pass_word.Goals as goal

pub tally_change-requires : goal.tally_change-requires
tally_change-requires c = tallying-small c.requires.tallying

pub returns-then-w-eq45310-clause-tallying_2 : goal.returns-then-w-eq45310-clause-tallying_2
returns-then-w-eq45310-clause-tallying_2 c =
    let word : Word c.args.bytes.now c.args.at c.args.w = record { low = c.shared_slice_known-1.given; room = c.requires.by_index _ c.requires.at_lt_end; four = c.requires.w_value } in
    let w = word in
    (passed c.requires.tallying (omega arith) (changes-here w c.if-w-eq45310.true) c.tally_change.ensures refl).0

pub returns-then-w-eq255-clause-tallying_2 : goal.returns-then-w-eq255-clause-tallying_2
returns-then-w-eq255-clause-tallying_2 c =
    let word : Word c.args.bytes.now c.args.at c.args.w = record { low = c.shared_slice_known-1.given; room = c.requires.by_index _ c.requires.at_lt_end; four = c.requires.w_value } in
    let w = word in
    (passed c.requires.tallying (omega arith) (ends-here w c.if-w-eq255.true) refl refl).0

pub tally_one-requires : goal.tally_one-requires
tally_one-requires c = record { small_tally = tallying-small c.requires.tallying; s_bound = omega arith }

pub returns-then-sews-clause-tallying_2 : goal.returns-then-sews-clause-tallying_2
returns-then-sews-clause-tallying_2 c =
    let word : Word c.args.bytes.now c.args.at c.args.w = record { low = c.shared_slice_known-1.given; room = c.requires.by_index _ c.requires.at_lt_end; four = c.requires.w_value } in
    let steps : let a = c.args in let y = c.past-y.result in
    let p = c.sews.result in (p ≡ true → first_record_of Pec (drop a.at a.bytes.now) ≡ stepped StitchBy a.w y)
    × (p ≡ false → first_record_of Pec (drop a.at a.bytes.now) ≡ stepped JumpBy a.w y) = steps-here word c.past-y.ensures c.sews.ensures c.if-w-eq255.false c.if-w-eq45310.false in
    let next : let a = c.args in let y = c.past-y.result in
    a.at + 2 + c.top.result + c.top-2.result ≡ a.at + (2 + a.w / 128 % 2 + y / 128 % 2) = omega (arith, c.top.ensures, c.top-2.ensures) in
    (passed c.requires.tallying (omega arith) (steps.0 c.if-sews.true) c.tally_one.ensures next).0

pub tally_one-requires-2 : goal.tally_one-requires-2
tally_one-requires-2 c = record { small_tally = tallying-small c.requires.tallying; s_bound = omega arith }

pub returns-clause-tallying_2 : goal.returns-clause-tallying_2
returns-clause-tallying_2 c =
    let word : Word c.args.bytes.now c.args.at c.args.w = record { low = c.shared_slice_known-1.given; room = c.requires.by_index _ c.requires.at_lt_end; four = c.requires.w_value } in
    let steps : let a = c.args in let y = c.past-y.result in
    let p = c.sews.result in (p ≡ true → first_record_of Pec (drop a.at a.bytes.now) ≡ stepped StitchBy a.w y)
    × (p ≡ false → first_record_of Pec (drop a.at a.bytes.now) ≡ stepped JumpBy a.w y) = steps-here word c.past-y.ensures c.sews.ensures c.if-w-eq255.false c.if-w-eq45310.false in
    let next : let a = c.args in let y = c.past-y.result in
    a.at + 2 + c.top.result + c.top-2.result ≡ a.at + (2 + a.w / 128 % 2 + y / 128 % 2) = omega (arith, c.top.ensures, c.top-2.ensures) in
    let z = c.tally_one-2.ensures in
    let p = passed c.requires.tallying (omega arith) (steps.1 c.if-sews.false) z next in
    tallying-jumps (rw z) p.0 c.pass_jumps.ensures.jumps
