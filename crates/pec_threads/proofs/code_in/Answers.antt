-- The entry found, or 1.
use Rattle.std.specs.Prelude.{Some, None, Option}
use Prim.Native.Nat.{ℕ}
use mathlib.Core.Path.{◌≡◌, sym, ap, ◌∙◌}
use mathlib.Core.List.{List}
use Rattle.rules.specs.Choices.{nearest_index, nearest_answer, pec_palette}
use Rattle.rules.specs.Pec.{found_or}
use Rattle.rules.specs.declared.Color.{Color}
use Rattle.laws.specs.Choosing.{found_in, found_in_lem}
use Rattle.pec_threads.specs.Codes.{code_of}
use Rattle.pec_threads.proofs.code_in.Goals as goal

module _ (t : Color) {chart : List (Option Color)} {f : Option (ℕ × ℕ)} (p : chart ≡ pec_palette) (e : f ≡ nearest_answer t chart) where
  -- what the call found, in the chart of the rules
  told : {g : Option (ℕ × ℕ)} → f ≡ g → nearest_index t pec_palette ≡ found_in g
  told h = sym (found_in_lem t pec_palette) ∙ ap found_in (ap (nearest_answer t) (sym p) ∙ sym e ∙ h)

  some : {k d : ℕ} → f ≡ Some (k, d) → k ≡ code_of t
  unfolding found_or
  some h = rw (told h)

  none : f ≡ None → 1 ≡ code_of t
  unfolding found_or
  none h = rw (told h)

pub returns-in_default : goal.returns-in_default
returns-in_default c = none c.args.t c.requires c.nearest_index-found.ensures c.in_default.is

pub returns : goal.returns
returns c = let nearest-index = c.nearest_index-found in
    some c.args.t c.requires nearest-index.ensures c.in-Some.is
