-- `pec_icon_blank` meets its contract: what the loop and the last stores make of a row of zeros is computed. Assumes nothing.
use Prim.Native.Nat.{ℕ, zero, suc, ◌+◌, ◌-◌, ◌*◌, ◌/◌, ◌≤◌}
use mathlib.Core.Path.{◌≡◌}
use mathlib.Core.List.{List}
use lib.ListN.{replicate, set}
use Rattle.pec_data.specs.Border.{edge_of}
use Rattle.pec_data.proofs.pec_icon_blank.Given as goal

-- the thumbnail with k rows of its border, from row 2 on
unfoldable pub rows : ℕ → List ℕ
rows zero = replicate 228 0
rows (suc k) = set (set (rows k) (6 * (2 + k)) (edge_of (2 + k))) (6 * (2 + k) + 5) (128 / edge_of (2 + k))

abbrev pub invariant-loop-row : goal.invariant-loop-row
invariant-loop-row l = (2 ≤ l.row) × ((l.row ≤ 36) × (l.icon ≡ rows (l.row - 2)))
