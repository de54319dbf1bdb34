-- Each kind of record by its law.
use Prim.Native.Nat.{ℕ, ◌+◌, ◌≤◌, ◌<◌}
use mathlib.Core.Path.{◌≡◌, refl, sym, ◌∙◌}
use native.Mathlib.Omega.{arith}
use lib.ListN.{length, drop}
use Rattle.rules.specs.declared.Record.{Record}
use Rattle.read_records.specs.declared.Row.{Row}
use mathlib.Core.List.{List}
use Rattle.read_records.specs.Firsts.{first_record_of}
use Rattle.read_records.specs.Fields.{len_of}
use Rattle.read_builder.specs.Builders.{place_after}
use Rattle.read_count.specs.Tallies.{Tallying}
use Rattle.read_count.specs.declared.tally.Tally.{Tally}
use Rattle.read_count.proofs.Laws.{tallied_by, tallying-small, tallying-stays, passed}
use Rattle.read_count.proofs.tally.pass.Goals as goal

module _ {f : Row} {bytes : List ℕ} {t : Tally} {at : ℕ} {w r : Record} (g : Tallying f bytes t at) (e : w ≡ first_record_of f (drop at bytes))
    (is : w ≡ r) where
  -- the record there is r
  here : first_record_of f (drop at bytes) ≡ r
  here = sym e ∙ is

  -- and ends in the bytes
  ends : at + len_of r ≤ 2097152
  ends = omega (arith, tallying-stays g here, g.short)

  -- what a record of kind r makes of the tally
  makes : at < length bytes → {t' : Tally} → t' ≡ tallied_by r t → {j : ℕ} → j ≡ place_after r at (length bytes)
      → Tallying f bytes t' j × (at < j)
  makes l et ej = passed g l here et ej

pub tally_one-requires : goal.tally_one-requires
tally_one-requires c = record { small_tally = tallying-small c.requires.tallying; s_bound = omega arith }

pub overflow_add-result : goal.overflow_add-result
overflow_add-result c = let h = ends c.requires.tallying c.record_at.ensures c.in-StitchBy.is in omega arith

pub tally_one-requires-in-JumpBy : goal.tally_one-requires-in-JumpBy
tally_one-requires-in-JumpBy c = record { small_tally = tallying-small c.requires.tallying; s_bound = omega arith }

pub overflow_add-result-in-JumpBy : goal.overflow_add-result-in-JumpBy
overflow_add-result-in-JumpBy c = let h = ends c.requires.tallying c.record_at.ensures c.in-JumpBy.is in omega arith

pub tally_change-requires : goal.tally_change-requires
tally_change-requires c = tallying-small c.requires.tallying

pub overflow_add-result-in-ChangeBy : goal.overflow_add-result-in-ChangeBy
overflow_add-result-in-ChangeBy c = let h = ends c.requires.tallying c.record_at.ensures c.in-ChangeBy.is in omega arith

pub returns-in-StitchBy : goal.returns-in-StitchBy
returns-in-StitchBy c = let p = makes c.requires.tallying c.record_at.ensures c.in-StitchBy.is c.requires.at_in_bounds c.tally_one.ensures refl in record { tallying_2 = p.0; at_lt_at = p.1 }

pub returns-in-JumpBy : goal.returns-in-JumpBy
returns-in-JumpBy c = let p = makes c.requires.tallying c.record_at.ensures c.in-JumpBy.is c.requires.at_in_bounds c.tally_one-in-JumpBy.ensures refl in record { tallying_2 = p.0; at_lt_at = p.1 }

pub returns-in-ChangeBy : goal.returns-in-ChangeBy
returns-in-ChangeBy c = let p = makes c.requires.tallying c.record_at.ensures c.in-ChangeBy.is c.requires.at_in_bounds c.tally_change.ensures refl in record { tallying_2 = p.0; at_lt_at = p.1 }

pub returns-in-Finish : goal.returns-in-Finish
returns-in-Finish c = let p = makes c.requires.tallying c.record_at.ensures c.in-Finish.is c.requires.at_in_bounds refl refl in record { tallying_2 = p.0; at_lt_at = p.1 }
