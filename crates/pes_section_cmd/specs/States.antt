-- The state as the code has it, the bytes that a command takes, which sections are logged, which places are near.
use Rattle.std.specs.Prelude.{ℕ, ◌+◌, ◌≤◌, Bool, not, ◌&&◌, eqb, ℤ, nat_abs, ◌-ℤ◌}
use Rattle.rules.specs.Vocabulary.{pick}
use Rattle.rules.specs.Pes.{PesState, opens_section}
use Rattle.rules.specs.declared.Op.{Op}
use Rattle.rules.specs.declared.Op.TheVariants.{Stitch, Jump, Trim, ColorChange, End}
use Rattle.pes_section_cmd.specs.declared.State.{State}

abbrev pub state_of : State → PesState
state_of s = record { before = s.before; code = s.code; thread = s.thread; x = s.x; y = s.y; sections = s.sections }

-- at another place
abbrev pub moved_to : PesState → ℤ → ℤ → PesState
moved_to s x y = record { before = s.before; code = s.code; thread = s.thread; x = x; y = y; sections = s.sections }

-- a section's beginning, and all that a command writes
unfoldable pub open_len : ℕ → ℕ
open_len sections = pick (eqb sections 0) 6 8

unfoldable pub cmd_len : ℕ → Bool → Op → ℕ
cmd_len sections new Stitch = pick new (open_len sections + 4) 4
cmd_len sections new Jump = pick new (open_len sections + 8) 0
cmd_len sections new Trim = 0
cmd_len sections new ColorChange = 0
cmd_len sections new End = 0

-- a command that opens a section with another entry than the last one logged
unfoldable pub logs : ℕ → ℕ → Bool → Op → Bool
logs last code new op = opens_section new op && not (eqb last code)

-- a place whose distances from the edges are of 16 bits
pub record Near (left bottom x y : ℤ) : Type 0 where
  pub across : nat_abs (x -ℤ left) ≤ 32767
  pub up : nat_abs (y -ℤ bottom) ≤ 32767
