-- Refusals 6 to 9 decide where they refuse, and else 10.
use Rattle.std.specs.Prelude.{Ok, Err, Result, ⊤}
use mathlib.Core.Path.{◌≡◌, sym, ◌∙◌}
use mathlib.Core.Bool.{Bool, false}
use mathlib.Core.List.{List, [], ◌∷◌}
use Prim.Native.Nat.{ℕ}
use lib.IntN.{ℤ}
use Rattle.rules.specs.Lists.{commands}
use Rattle.rules.specs.Refusals.{bad_list, place_outside, step_too_long, verdict, command_refusals, list_refusals, command_verdict, list_verdict}
use Rattle.rules.specs.declared.Format.{Format}
use Rattle.rules.specs.declared.Refusal.{Refusal}
use Rattle.rules.specs.declared.Refusal.TheVariants.{StepTooLong}
use Rattle.laws.specs.Verdicts.{first-false, verdict-on, verdict-stop}
use borrow.Author.Rules.{rules}
use Rattle.write_refusals.proofs.check_list.Goals as goal

-- v is what was told of 6 to 9
module _ (xs ys : List ℤ) (kinds threads : List ℕ) {v : Result ⊤ Refusal} (t : v ≡ command_verdict xs ys kinds threads) where
  places : v ≡ Ok tt → place_outside (commands xs ys kinds) ≡ false
  unfolding command_verdict verdict
  places e = (first-false (place_outside (commands xs ys kinds)) _ _ (first-false (bad_list xs ys kinds) _ _ (sym t ∙ e)).1).0

  refused : (f : Format) {r : Refusal} → v ≡ Err r → Err r ≡ list_verdict f xs ys kinds threads
  unfolding command_verdict list_verdict list_refusals
  refused f {r} e = sym (verdict-stop (command_refusals xs ys kinds threads) _ r (sym t ∙ e))

  -- b is what was told of 10
  steps : (f : Format) {b : Bool} → v ≡ Ok tt → b ≡ step_too_long f (commands xs ys kinds)
      → verdict ((StepTooLong, b) ∷ []) ≡ list_verdict f xs ys kinds threads
  unfolding command_verdict list_verdict list_refusals
  steps f e w = rw w (sym (verdict-on (command_refusals xs ys kinds threads) _ (sym t ∙ e)))

pub returns-in_err-check_commands : goal.returns-in_err-check_commands
returns-in_err-check_commands c =
    let e : c.from_residual.result ≡ Err c.in_err-check_commands.field-0.0 = search rules in
    e ∙ refused _ _ _ _ c.check_commands.ensures _ c.in_err-check_commands.was

pub step_too_long-requires : goal.step_too_long-requires
step_too_long-requires c = places _ _ _ _ c.check_commands.ensures c.in_ok-check_commands.was

pub returns-then-step_too_long : goal.returns-then-step_too_long
unfolding verdict
returns-then-step_too_long c =
    rw c.if-step_too_long.true at (steps _ _ _ _ c.check_commands.ensures _ c.in_ok-check_commands.was c.step_too_long.ensures)

pub returns : goal.returns
unfolding verdict
returns c =
    rw c.if-step_too_long.false at (steps _ _ _ _ c.check_commands.ensures _ c.in_ok-check_commands.was c.step_too_long.ensures)
