-- The writer's state as the code has it, and which steps are small enough.
use Rattle.std.specs.Prelude.{◌≤◌, ℤ, nat_abs}
use Rattle.rules.specs.Pec.{PecState}
use Rattle.pec_cmd.specs.declared.State.{State}

abbrev pub state_of : State → PecState
state_of s = record { jumped = s.jumped; two = s.two; opening = s.opening }

pub record Step (dx dy : ℤ) : Type 0 where
  pub x : nat_abs dx ≤ 2048
  pub y : nat_abs dy ≤ 2048
