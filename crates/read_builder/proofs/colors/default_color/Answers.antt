-- Each entry of the table is a default colour as a number.
use Prim.Native.Nat.{ℕ, ◌%◌}
use mathlib.Core.Bool.{Bool}
use mathlib.Core.List.{List, [], ◌∷◌}
use native.Mathlib.Nat.{mod-lt}
use lib.Dec.{eqb, eqb→eq, lit<}
use lib.ListN.{get_or}
use Rattle.laws.specs.Tables.{at}
use Rattle.rules.specs.Charts.{color}
use Rattle.rules.specs.Files.{defaults, color_number, or_default}
use borrow.Author.Rules.{rules}
use Rattle.read_builder.proofs.colors.default_color.Goals as goal

entries : List ℕ
entries = 0x1E1E1E ∷ 0xC82828 ∷ 0x1E5AAA ∷ 0xF0B41E ∷ 0x288C46 ∷ 0x823C96 ∷ 0xE6781E ∷ 0x5A5A5A ∷ []

right : ℕ → ℕ → Bool
right i v = eqb v (color_number (get_or defaults i (color 0 0 0)))

pub returns : goal.returns
unfolding entries right or_default defaults color_number
returns c = let k = c.args.k in
    eqb→eq (get_or entries (k % 8) 0) (color_number (get_or defaults (k % 8) (color 0 0 0))) (at right entries 0 tt (k % 8) (mod-lt k (lit< tt)))
