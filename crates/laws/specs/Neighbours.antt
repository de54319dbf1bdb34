-- JEF's thread table: every entry is one of 1 to 78, and two neighbours of different colour are never on one entry. Assumes nothing.
use Rattle.std.specs.Prelude.{ℕ, zero, suc, ◌<◌, ◌≢◌, ◌≡◌, refl, false, ◌&&◌, not, eqb, length, get_or, set, Some, None, Option}
use Rattle.std.proofs.Common.{sym, ◌∙◌, subst, arith, lit<, length-set, get_or-set_same, get_or-set_other}
use Rattle.std.proofs.Math.Decide.{ℕ_discrete}
use Rattle.std.proofs.lemmas.Bool.{eqb-false}
use Rattle.rules.specs.Charts.{color, jef_chart}
use Rattle.rules.specs.Choices.{same_color, nearest_first, away, with_distance, nearest_first_answer}
use Rattle.rules.specs.Choices.{choices, jef_palette, entry_of, jef_nearest, jef_choice, jef_choice_answer}
use Rattle.rules.specs.declared.Color.{Color}
use Rattle.laws.specs.Tests.{by-test}
use Rattle.laws.specs.Choosing.{choice-law, choice-missing}

-- an entry of JEF's table, other than `skip`
pub record JefEntry (skip k : ℕ) : Type 0 where
  pub first : 0 < k
  pub last : k < 79
  pub other : k ≢ skip

no-thread : {t : Color} → ◌≡◌ {A = Option Color} None (Some t) → ⊥
no-thread e = let z : ◌≡◌ {A = ℕ} 0 1 = cc in omega arith

palette-length : length jef_palette ≡ 79
unfolding jef_palette choices jef_chart
palette-length = refl

-- what stands in the palette with one entry left out
left_out : (skip : ℕ) → skip < 79 → get_or (set jef_palette skip None) skip None ≡ None
left_out skip h = get_or-set_same jef_palette skip None None (rw palette-length h)

first-empty : (skip : ℕ) → get_or (set jef_palette skip None) 0 None ≡ None
unfolding jef_palette choices jef_chart
first-empty zero = refl
first-empty (suc skip) = refl

thread-one : (skip : ℕ) → 1 ≢ skip → get_or (set jef_palette skip None) 1 None ≡ Some (color 0 0 0)
unfolding jef_palette choices jef_chart
thread-one skip h = get_or-set_other jef_palette skip 1 None None h

thread-two : get_or (set jef_palette 1 None) 2 None ≡ Some (color 255 255 255)
unfolding jef_palette choices jef_chart
thread-two = refl

entry_found : (t : Color) (skip k : ℕ) → nearest_first t (set jef_palette skip None) ≡ Some k → JefEntry skip k
entry_found t skip k e =
    let w = (choice-law false t (set jef_palette skip None) k e).1 in
    let h : k < 79 = omega (arith, w.inside, length-set jef_palette skip None, palette-length) in
    record {
      first = some k w.there;
      last = h;
      other = apart k h w.there;
    }
  where
    some : (k : ℕ) {u : Color} → get_or (set jef_palette skip None) k None ≡ Some u → 0 < k
    some zero q = absurd (no-thread (sym (first-empty skip) ∙ q))
    some (suc k) q = omega arith

    apart : (k : ℕ) {u : Color} → k < 79 → get_or (set jef_palette skip None) k None ≡ Some u → k ≢ skip
    apart k h q e = no-thread (sym (subst (λ (m : ℕ). get_or (set jef_palette skip None) m None ≡ None) (sym e) (left_out skip (rw (← e) h))) ∙ q)

never-missing : (t : Color) (skip : ℕ) → nearest_first t (set jef_palette skip None) ≡ None → ⊥
never-missing t skip e = go (ℕ_discrete 1 skip)
  where
    all : (j : ℕ) → j < 79 → get_or (set jef_palette skip None) j None ≡ None
    all j h = choice-missing false t (set jef_palette skip None) e j (rw (length-set, palette-length) h)

    go : Dec (1 ≡ skip) → ⊥
    go (yes p) = no-thread (sym (subst (λ (m : ℕ). get_or (set jef_palette m None) 2 None ≡ None) (sym p) (all 2 (lit< tt))) ∙ thread-two)
    go (no q) = no-thread (sym (all 1 (lit< tt)) ∙ thread-one skip q)

found : (t : Color) (skip : ℕ) (f : Option ℕ) → nearest_first t (set jef_palette skip None) ≡ f → JefEntry skip (entry_of f)
unfolding entry_of
found t skip (Some k) e = entry_found t skip k e
found t skip None e = absurd (never-missing t skip e)

pub jef_nearest_lem : (t : Color) (skip : ℕ) → JefEntry skip (jef_nearest t skip)
unfolding jef_nearest
jef_nearest_lem t skip = found t skip (nearest_first t (set jef_palette skip None)) refl

-- every entry of the table is one of 1 to 78
pub jef-choice-in : (p : Option (ℕ × Color)) (t : Color) → (0 < jef_choice p t) × (jef_choice p t < 79)
unfolding jef_choice
jef-choice-in None t = ((jef_nearest_lem t 0).first, (jef_nearest_lem t 0).last)
jef-choice-in (Some (i, u)) t = by-test (eqb (jef_nearest t 0) i && not (same_color u t))
    (λ e. rw e ((jef_nearest_lem t i).first, (jef_nearest_lem t i).last))
    (λ e. rw e ((jef_nearest_lem t 0).first, (jef_nearest_lem t 0).last))

-- two neighbours of different colour are never on one entry
pub jef-apart : (i : ℕ) (u t : Color) → same_color u t ≡ false → jef_choice (Some (i, u)) t ≢ i
unfolding jef_choice
jef-apart i u t d = by-test (eqb (jef_nearest t 0) i)
    (λ e. rw (e, d) (jef_nearest_lem t i).other)
    (λ e. rw e (eqb-false (jef_nearest t 0) i e))

-- ---- the distance of an entry chosen is that of the chart's own colour

abbrev pub chosen_at : Color → ℕ → Option (ℕ × ℕ)
chosen_at t k = Some (k, away t (get_or jef_palette k None))

with-entry : (t : Color) (skip : ℕ) (f : Option ℕ) → nearest_first t (set jef_palette skip None) ≡ f
    → with_distance t (set jef_palette skip None) f ≡ chosen_at t (entry_of f)
unfolding with_distance entry_of
with-entry t skip (Some k) e = rw (get_or-set_other jef_palette skip k None None (entry_found t skip k e).other)
with-entry t skip None e = absurd (never-missing t skip e)

pub jef-nearest-told : (t : Color) (skip : ℕ) → nearest_first_answer t (set jef_palette skip None) ≡ chosen_at t (jef_nearest t skip)
unfolding nearest_first_answer jef_nearest
jef-nearest-told t skip = with-entry t skip (nearest_first t (set jef_palette skip None)) refl

-- JEF's choice, by its entry
pub jef-choice-told : (last : Option (ℕ × Color)) (t : Color) {n : ℕ} → n ≡ jef_choice last t → chosen_at t n ≡ jef_choice_answer last t
unfolding jef_choice_answer
jef-choice-told last t e = rw e
