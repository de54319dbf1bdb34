-- What was found and what the commands left have are all.
use Prim.Native.Nat.{◌+◌, ◌<◌}
use mathlib.Core.Path.{◌≡◌, sym, ap, ◌∙◌}
use mathlib.Core.Bool.{Bool, true, false}
use native.Mathlib.Omega.{arith}
use lib.ListN.{length, drop}
use Rattle.rules.specs.Vocabulary.{pick, count}
use Rattle.rules.specs.Lists.{commands, is_trim, op_of}
use Rattle.std.proofs.Common.{Bool, true, false, get_or, sym, ap, ◌∙◌, List, ℤ, ℕ, ◌+◌, ◌<◌, ◌≡◌, length, drop}
use Rattle.laws.specs.Listing.{count-more, count-end, no_cmd, commands-at, length-commands}
use Rattle.dst.specs.Lines.{trimming}
use Rattle.dst.proofs.trims.Goals as goal
use Rattle.dst.proofs.trims.Goals.{then-is_trim, else-is_trim}

-- one turn: whether one more is found
turn : (xs ys : List ℤ) (ks : List ℕ) (i found : ℕ) → i < length (commands xs ys ks)
    → count trimming (commands xs ys ks) ≡ found + count trimming (drop i (commands xs ys ks))
    → (r t : Bool) → r ≡ is_trim (op_of (get_or ks i 0)) → r ≡ t
    → count trimming (commands xs ys ks) ≡ found + pick t 1 0 + count trimming (drop (i + 1) (commands xs ys ks))
unfolding trimming
turn xs ys ks i found h e r t told is =
    count-more trimming (commands xs ys ks) no_cmd i found e t h (ap trimming (commands-at xs ys ks i h) ∙ sym told ∙ is)

pub loop-i-init : goal.loop-i-init
loop-i-init c = (omega arith, (omega arith, omega arith))

pub bounds-kinds-i : goal.bounds-kinds-i
bounds-kinds-i c = let list-len = c.list_len-n in
    let a = c.args in omega (arith, list-len.ensures, length-commands a.xs.now a.ys.now a.kinds.now)

pub overflow_add-found : goal.overflow_add-found
overflow_add-found c = omega arith

pub loop-i-preserved : goal.loop-i-preserved
loop-i-preserved c =
    let a = c.args in
    let l = c.loop-i in
    let h : l.i < length (commands a.xs.now a.ys.now a.kinds.now) = omega (arith, c.list_len-n.ensures) in
    let on = turn a.xs.now a.ys.now a.kinds.now l.i l.found h l.invariant.1.1 c.is_trim.result in
    elim c.if-is_trim.branch [
      | then-is_trim w ↦ (omega arith, (omega arith, omega (arith, on true c.is_trim.ensures w.if-is_trim.true)))
      | else-is_trim w ↦ (omega arith, (omega arith, omega (arith, on false c.is_trim.ensures w.if-is_trim.false)))
    ]

pub returns : goal.returns
returns c = let list-len = c.list_len-n in
    let a = c.args in
    let cs = commands a.xs.now a.ys.now a.kinds.now in (
      count-end trimming cs no_cmd c.loop-i.i c.loop-i.found c.loop-i.invariant.1.1 (omega (arith, list-len.ensures)),
      omega (arith, list-len.ensures, length-commands a.xs.now a.ys.now a.kinds.now),
    )
