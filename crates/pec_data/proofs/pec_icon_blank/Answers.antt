-- `pec_icon_blank` meets its contract: what the loop and the last stores make of a row of zeros is computed. Assumes nothing.
use Prim.Native.Nat.{ℕ, suc, ◌+◌, ◌-◌, ◌*◌, ◌/◌, ◌≤◌}
use mathlib.Core.Path.{◌≡◌, ap, ◌∙◌}
use mathlib.Core.List.{List}
use native.Mathlib.Omega.{arith}
use borrow.Author.Rules.{rules}
use lib.ListN.{set}
use lib.Seq.{sets}
use Rattle.rules.specs.Vocabulary.{joined}
use Rattle.rules.specs.Charts.{blank_icon}
use Rattle.pec_data.specs.Border.{edge_of, border}
use Rattle.pec_data.proofs.pec_icon_blank.Invariants.{rows}
use Rattle.pec_data.proofs.pec_icon_blank.Goals as goal

next : {icon : List ℕ} {left : ℕ} (row : ℕ) → 2 ≤ row → icon ≡ rows (row - 2) → left ≡ edge_of row
    → set (set icon (6 * row) left) (6 * row + 5) (128 / left) ≡ rows (row + 1 - 2)
unfolding rows
next row h e f =
    let g : row + 1 - 2 ≡ suc (row - 2) = omega arith in
    let k : 2 + (row - 2) ≡ row = omega arith in
    rw (g, e, f) (rw k)

pub loop-row-init : goal.loop-row-init
unfolding blank_icon edge_of joined rows
loop-row-init c = search rules

pub loop-row-preserved : goal.loop-row-preserved
loop-row-preserved c = let l = c.loop-row in
    (omega arith, (omega arith, next l.row l.invariant.0 l.invariant.1.1 c.edge-left.ensures.0))

pub returns : goal.returns
unfolding rows edge_of blank_icon joined
returns c = let l = c.loop-row in
    let e : l.row - 2 ≡ 34 = omega arith in
    c.closed.ensures ∙ ap (λ (s : List ℕ). sets (sets s 6 border) 216 border) (l.invariant.1.1 ∙ ap rows e)
