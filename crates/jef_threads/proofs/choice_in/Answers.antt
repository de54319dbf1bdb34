-- after another thread: its entry is another, or the colours are alike, or they are not
use Rattle.std.specs.Prelude.{Some, None, Option}
use Prim.Native.Nat.{ℕ}
use mathlib.Core.Path.{◌≡◌, refl, sym, ap, ◌∙◌}
use mathlib.Core.Bool.{true, false, and-false}
use mathlib.Core.List.{List}
use borrow.Author.Tests.{eq-eqb, ne_eqb}
use lib.Dec.{eqb}
use lib.ListN.{set}
use Rattle.rules.specs.Charts.{jef_chart}
use Rattle.rules.specs.Choices.{nearest_first_answer, choices, jef_palette, same_color, jef_nearest, jef_choice}
use Rattle.rules.specs.declared.Color.{Color}
use Rattle.laws.specs.Neighbours.{chosen_at, jef-nearest-told, jef-choice-told}
use Rattle.jef_threads.specs.Distances.{entry_in}
use Rattle.jef_threads.proofs.choice_in.Goals as goal

-- the chart's entry 0 is empty as it is
zeroth : jef_palette ≡ set jef_palette 0 None
unfolding jef_palette choices jef_chart
zeroth = refl

module _ (t : Color) {chart : List (Option Color)} (p : chart ≡ jef_palette) where
  plain : {f : Option (ℕ × ℕ)} → f ≡ nearest_first_answer t chart → f ≡ chosen_at t (jef_nearest t 0)
  plain q = q ∙ ap (nearest_first_answer t) (p ∙ zeroth) ∙ jef-nearest-told t 0

  but : (skip : ℕ) {f : Option (ℕ × ℕ)} → f ≡ nearest_first_answer t (set chart skip None) → f ≡ chosen_at t (jef_nearest t skip)
  but skip q = q ∙ ap (λ (ps : List (Option Color)). nearest_first_answer t (set ps skip None)) p ∙ jef-nearest-told t skip

-- the entry that was nearest
entry-is : (t : Color) {f : Option (ℕ × ℕ)} {n : ℕ} → f ≡ chosen_at t (jef_nearest t 0) → n ≡ entry_in f → n ≡ jef_nearest t 0
entry-is t q e = e ∙ ap entry_in q

-- what is chosen, by the thread before
first : (t : Color) {last : Option (ℕ × Color)} → last ≡ None → jef_nearest t 0 ≡ jef_choice last t
unfolding jef_choice
first t e = rw e

module _ (t : Color) {last : Option (ℕ × Color)} {i n : ℕ} {u : Color} (e : last ≡ Some (i, u)) (f : n ≡ jef_nearest t 0) where
  another : (n ≡ i → ⊥) → jef_nearest t 0 ≡ jef_choice last t
  unfolding jef_choice
  another h = rw (e, ← f, ne_eqb n i h)

  alike : same_color u t ≡ true → jef_nearest t 0 ≡ jef_choice last t
  unfolding jef_choice
  alike s = rw (e, s, and-false (eqb (jef_nearest t 0) i))

  unlike : n ≡ i → same_color u t ≡ false → jef_nearest t i ≡ jef_choice last t
  unfolding jef_choice
  unlike h s = rw (e, s, ← f, eq-eqb n i h)

pub returns-in_default : goal.returns-in_default
returns-in_default c =
    let t = c.args.t in
    plain t c.requires c.nearest_first-nearest.ensures ∙ jef-choice-told c.args.last t (first t c.in_default.is)

pub returns-then-entry_of-i : goal.returns-then-entry_of-i
returns-then-entry_of-i c =
    let t = c.args.t in
    let near = plain t c.requires c.nearest_first-nearest.ensures in
    near ∙ jef-choice-told c.args.last t (another t c.in-Some.is (entry-is t near c.entry_of.ensures) c.if-entry_of-i.true)

pub returns-then-eq : goal.returns-then-eq
unfolding same_color
returns-then-eq c =
    let t = c.args.t in
    let near = plain t c.requires c.nearest_first-nearest.ensures in
    near ∙ jef-choice-told c.args.last t
    (alike t c.in-Some.is (entry-is t near c.entry_of.ensures) (sym c.eq.ensures ∙ c.if-eq.true))

pub returns : goal.returns
unfolding same_color
returns c = let t = c.args.t in
    let last' = c.in-Some.is in
    let near = plain t c.requires c.nearest_first-nearest.ensures in
    but t c.requires _ c.nearest_but.ensures ∙ jef-choice-told c.args.last t
    (unlike t last' (entry-is t near c.entry_of.ensures) c.if-entry_of-i.false (sym c.eq.ensures ∙ c.if-eq.false))
