-- The fields of a record, whatever its kind.
use Rattle.std.specs.Prelude.{ℕ, ℤ, pos}
use Rattle.rules.specs.declared.Record.{Record}
use Rattle.rules.specs.declared.Record.TheVariants.{StitchBy, JumpBy, ChangeBy, Finish}

abbrev pub len_of : Record → ℕ
len_of (StitchBy dx dy n) = n
len_of (JumpBy dx dy n) = n
len_of (ChangeBy dx dy n) = n
len_of Finish = 0

abbrev pub dx_of : Record → ℤ
dx_of (StitchBy dx dy n) = dx
dx_of (JumpBy dx dy n) = dx
dx_of (ChangeBy dx dy n) = dx
dx_of Finish = pos 0

abbrev pub dy_of : Record → ℤ
dy_of (StitchBy dx dy n) = dy
dy_of (JumpBy dx dy n) = dy
dy_of (ChangeBy dx dy n) = dy
dy_of Finish = pos 0
