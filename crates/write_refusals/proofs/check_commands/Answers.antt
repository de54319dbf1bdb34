-- The answer is the first of refusals 6 to 9 that holds, asked in their order.
use mathlib.Core.Path.{◌≡◌, refl, sym, ◌∙◌}
use mathlib.Core.Bool.{false}
use mathlib.Core.List.{List}
use Prim.Native.Nat.{ℕ, ◌≤◌}
use borrow.Author.Tests.{ltb-false}
use lib.Dec.{eqb}
use lib.IntN.{ℤ}
use lib.ListN.{length, drop}
use Rattle.rules.specs.Refusals.{bad_list, verdict, command_refusals, command_verdict}
use Rattle.laws.specs.Tests.{or-no-left, or-no-right}
use Rattle.write_refusals.proofs.check_commands.Goals as goal

-- a list that passes 6 has 65,535 commands at most
few : (xs ys : List ℤ) (ks : List ℕ) → bad_list xs ys ks ≡ false → length ks ≤ 65535
unfolding bad_list
few xs ys ks e = ltb-false 65535 (length ks) (or-no-left _ _ (or-no-right (eqb (length ks) 0) _ e))

pub returns-then-bad_list : goal.returns-then-bad_list
unfolding verdict
returns-then-bad_list c =
    let Past : ℕ → Type 0 = λ k. let a = c.args in let xs = a.xs.now in let ys = a.ys.now in let ks = a.kinds.now in
    verdict (drop k (command_refusals xs ys ks a.threads.now)) ≡ command_verdict xs ys ks a.threads.now in
    let past0 : Past 0 = unfold command_verdict in refl in
    rw (← c.bad_list.ensures, c.if-bad_list.true) at past0

pub returns-then-place_outside : goal.returns-then-place_outside
unfolding verdict
returns-then-place_outside c =
    let Past : ℕ → Type 0 = λ k. let a = c.args in let xs = a.xs.now in let ys = a.ys.now in let ks = a.kinds.now in
    verdict (drop k (command_refusals xs ys ks a.threads.now)) ≡ command_verdict xs ys ks a.threads.now in
    let past0 : Past 0 = unfold command_verdict in refl in
    let past1 : Past 1 = unfold verdict in rw (← c.bad_list.ensures, c.if-bad_list.false) at past0 in
    rw (← c.place_outside.ensures, c.if-place_outside.true) at past1

pub too_many-requires : goal.too_many-requires
too_many-requires c =
    let a = c.args in
    few a.xs.now a.ys.now a.kinds.now (sym c.bad_list.ensures ∙ c.if-bad_list.false)

pub returns-then-too_many : goal.returns-then-too_many
unfolding verdict
returns-then-too_many c =
    let Past : ℕ → Type 0 = λ k. let a = c.args in let xs = a.xs.now in let ys = a.ys.now in let ks = a.kinds.now in
    verdict (drop k (command_refusals xs ys ks a.threads.now)) ≡ command_verdict xs ys ks a.threads.now in
    let past0 : Past 0 = unfold command_verdict in refl in
    let past1 : Past 1 = unfold verdict in rw (← c.bad_list.ensures, c.if-bad_list.false) at past0 in
    let past2 : Past 2 = unfold verdict in rw (← c.place_outside.ensures, c.if-place_outside.false) at past1 in
    rw (← c.too_many.ensures, c.if-too_many.true) at past2

pub returns-then-moved : goal.returns-then-moved
unfolding verdict
returns-then-moved c =
    let Past : ℕ → Type 0 = λ k. let a = c.args in let xs = a.xs.now in let ys = a.ys.now in let ks = a.kinds.now in
    verdict (drop k (command_refusals xs ys ks a.threads.now)) ≡ command_verdict xs ys ks a.threads.now in
    let past0 : Past 0 = unfold command_verdict in refl in
    let past1 : Past 1 = unfold verdict in rw (← c.bad_list.ensures, c.if-bad_list.false) at past0 in
    let past2 : Past 2 = unfold verdict in rw (← c.place_outside.ensures, c.if-place_outside.false) at past1 in
    let past3 : Past 3 = unfold verdict in rw (← c.too_many.ensures, c.if-too_many.false) at past2 in
    rw (← c.moved.ensures, c.if-moved.true) at past3

pub returns : goal.returns
unfolding verdict
returns c =
    let Past : ℕ → Type 0 = λ k. let a = c.args in let xs = a.xs.now in let ys = a.ys.now in let ks = a.kinds.now in
    verdict (drop k (command_refusals xs ys ks a.threads.now)) ≡ command_verdict xs ys ks a.threads.now in
    let past0 : Past 0 = unfold command_verdict in refl in
    let past1 : Past 1 = unfold verdict in rw (← c.bad_list.ensures, c.if-bad_list.false) at past0 in
    let past2 : Past 2 = unfold verdict in rw (← c.place_outside.ensures, c.if-place_outside.false) at past1 in
    let past3 : Past 3 = unfold verdict in rw (← c.too_many.ensures, c.if-too_many.false) at past2 in
    rw (← c.moved.ensures, c.if-moved.false) at past3
