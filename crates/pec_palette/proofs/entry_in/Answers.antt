-- An entry of the chart fits a byte.
use Rattle.std.specs.Prelude.{Some, None, Option}
use mathlib.Core.Path.{◌≡◌}
use mathlib.Core.List.{List}
use Prim.Native.Nat.{ℕ, ◌≤◌}
use native.Mathlib.Omega.{arith}
use lib.ListN.{length}
use Rattle.rules.specs.Choices.{nearest_answer}
use Rattle.rules.specs.Pec.{found_or}
use Rattle.rules.specs.declared.Color.{Color}
use Rattle.pec_palette.specs.Entries.{entry_in}
use Rattle.pec_palette.proofs.Giving.{found_as, found_inside}
use Rattle.pec_palette.proofs.entry_in.Goals as goal

module _ (t : Color) (chart : List (Option Color)) {f : Option (ℕ × ℕ)} (long : length chart ≡ 65) (e : f ≡ nearest_answer t chart) where
  none : f ≡ None → (0 ≡ entry_in chart t) × (0 ≤ 64)
  unfolding found_or
  none h = (rw (found_as t chart e h), omega arith)

  some : {k d : ℕ} → f ≡ Some (k, d) → (k ≡ entry_in chart t) × (k ≤ 64)
  unfolding found_or
  some h = (rw (found_as t chart e h), omega (arith, found_inside t chart e h, long))

pub returns-in_default : goal.returns-in_default
returns-in_default c =
    none c.args.t c.args.chart (omega arith) c.nearest_index-found.ensures c.in_default.is

pub overflow_cast-result : goal.overflow_cast-result
overflow_cast-result c =
    omega (arith, found_inside c.args.t c.args.chart c.nearest_index-found.ensures c.in-Some.is)

pub returns : goal.returns
returns c =
    some c.args.t c.args.chart (omega arith) c.nearest_index-found.ensures c.in-Some.is
