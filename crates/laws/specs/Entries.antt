-- PEC's part has an entry for every thread: one of 1 to 64. (Of JEF's table `jef-choice-in` says the same, 1 to 78.) Assumes nothing.
use Rattle.std.specs.Prelude.{ℕ, zero, suc, ◌<◌, ◌≢◌, ◌≡◌, refl, true, List, [], ◌∷◌, map, ltb, length, get_or, replicate, Some, None, Option}
use Rattle.std.proofs.Common.{sym, ◌∙◌, le_of_suc-le-suc, not-suc-le-zero, arith, ltb-true, ltb-false, length-set, get_or-set_same, get_or-set_other}
use Rattle.std.proofs.Math.Decide.{ℕ_discrete}
use Rattle.std.proofs.Math.ListN.{get_or-eq_default}
use Rattle.rules.specs.Vocabulary.{any}
use Rattle.rules.specs.Charts.{pec_chart}
use Rattle.rules.specs.Choices.{nearest_index, choices, pec_palette}
use Rattle.rules.specs.Pec.{distinct, Given, give, given_to, found_or, unique_palette}
use Rattle.rules.specs.declared.Color.{Color}
use Rattle.laws.specs.Tests.{by-test}
use Rattle.laws.specs.Choosing.{choice-law, choice-missing}

no-thread : {t : Color} → ◌≡◌ {A = Option Color} None (Some t) → ⊥
no-thread e = let z : ◌≡◌ {A = ℕ} 0 1 = cc in omega arith

-- entry 0 is free for nobody, and nobody has it
record Good (g : Given) : Type 0 where
  free_long : length g.free ≡ 65
  free_none : get_or g.free 0 None ≡ None
  chart_long : length g.chart ≡ 65
  chart_none : get_or g.chart 0 None ≡ None

-- a thread found is not at entry 0
above : (t : Color) (ps : List (Option Color)) (k : ℕ) → nearest_index t ps ≡ Some k → get_or ps 0 None ≡ None → (0 < k) × (k < length ps)
above t ps zero e h = absurd (no-thread (sym h ∙ (choice-law true t ps 0 e).1.there))
above t ps (suc k) e h = (omega arith, (choice-law true t ps (suc k) e).1.inside)

good-give : (t : Color) (g : Given) (f : Option ℕ) → nearest_index t g.free ≡ f → Good g → Good (give f t g)
unfolding give
good-give t g (Some k) e w =
    let n : 0 ≢ k = λ z. absurd (omega (arith, (above t g.free k e w.free_none).0)) in
    record {
      free_long = length-set g.free k None ∙ w.free_long;
      free_none = get_or-set_other g.free k 0 None None n ∙ w.free_none;
      chart_long = length-set g.chart k (Some t) ∙ w.chart_long;
      chart_none = get_or-set_other g.chart k 0 (Some t) None n ∙ w.chart_none;
    }
good-give t g None e w = w

good-all : (g : Given) (ts : List Color) → Good g → Good (given_to g ts)
unfolding given_to
good-all g [] w = w
good-all g (t ∷ ts) w = good-all (give (nearest_index t g.free) t g) ts (good-give t g (nearest_index t g.free) refl w)

-- an entry that has a thread keeps having one
abbrev Has : Given → ℕ → Type 0
Has g k = (u : Color) × (get_or g.chart k None ≡ Some u)

has-give : (t : Color) (g : Given) (f : Option ℕ) (k : ℕ) → nearest_index t g.free ≡ f → Good g → Has g k → Has (give f t g) k
unfolding give
has-give t g (Some i) k e w h = go (ℕ_discrete k i)
  where
    inside : i < length g.chart
    inside = omega (arith, (above t g.free i e w.free_none).1, w.free_long, w.chart_long)

    go : Dec (k ≡ i) → Has (give (Some i) t g) k
    go (yes p) = (t, rw p (get_or-set_same g.chart i (Some t) None inside))
    go (no q) = (h.0, get_or-set_other g.chart i k (Some t) None q ∙ h.1)
has-give t g None k e w h = h

has_all : (g : Given) (ts : List Color) (k : ℕ) → Good g → Has g k → Has (given_to g ts) k
unfolding given_to
has_all g [] k w h = h
has_all g (t ∷ ts) k w h =
    let f = nearest_index t g.free in
    has_all (give f t g) ts k (good-give t g f refl w) (has-give t g f k refl w h)

-- ---- from nothing given on

abbrev fresh : Given
fresh = record { free = pec_palette; chart = replicate 65 None }

good-fresh : Good fresh
unfolding pec_palette choices pec_chart
good-fresh = record { free_long = refl; free_none = refl; chart_long = refl; chart_none = refl }

first-thread : (u : Color) × (get_or pec_palette 1 None ≡ Some u)
unfolding pec_palette choices pec_chart
first-thread = (_, refl)

palette-long : length pec_palette ≡ 65
unfolding pec_palette choices pec_chart
palette-long = refl

first-given : (t : Color) (f : Option ℕ) → nearest_index t pec_palette ≡ f → (k : ℕ) × Has (give f t fresh) k
unfolding give
first-given t (Some k) e =
    (k, (t, get_or-set_same (replicate 65 None) k (Some t) None (omega (arith, (choice-law true t pec_palette k e).1.inside, palette-long))))
first-given t None e =
    absurd (no-thread (sym (choice-missing true t pec_palette e 1 (omega (arith, palette-long))) ∙ first-thread.1))

some-given : (t : Color) (ts : List Color) → (k : ℕ) × Has (given_to fresh (distinct [] (t ∷ ts))) k
unfolding distinct given_to any
some-given t ts =
    let f = nearest_index t pec_palette in
    let h = first-given t f refl in
    (h.0, has_all (give f t fresh) (distinct (t ∷ []) ts) h.0 (good-give t fresh f refl good-fresh) h.1)

entry_in_lem : (u : Color) (chart : List (Option Color)) (k : ℕ) {v : Color} → length chart ≡ 65 → get_or chart 0 None ≡ None → get_or chart k None ≡ Some v
    → (f : Option ℕ) → nearest_index u chart ≡ f → (0 < found_or 0 f) × (found_or 0 f < 65)
unfolding found_or
entry_in_lem u chart k n z h (Some i) e = let a = above u chart i e z in (a.0, omega (arith, a.1, n))
entry_in_lem u chart k n z h None e = absurd (no-thread (sym empty ∙ h))
  where
    empty : get_or chart k None ≡ None
    empty = by-test (ltb k (length chart))
        (λ t. choice-missing true u chart e k (ltb-true k (length chart) t))
        (λ t. get_or-eq_default chart None (ltb-false k (length chart) t))

all_map : (f : Color → ℕ) → ((u : Color) → (0 < f u) × (f u < 65)) → (ts : List Color) (i : ℕ) → i < length ts
    → (0 < get_or (map f ts) i 0) × (get_or (map f ts) i 0 < 65)
all_map f h [] i l = absurd (not-suc-le-zero l)
all_map f h (t ∷ ts) zero l = h t
all_map f h (t ∷ ts) (suc i) l = all_map f h ts i (le_of_suc-le-suc l)

pub pec-entries-in : (ts : List Color) (i : ℕ) → i < length ts → (0 < get_or (unique_palette ts) i 0) × (get_or (unique_palette ts) i 0 < 65)
unfolding unique_palette
pec-entries-in [] i l = absurd (not-suc-le-zero l)
pec-entries-in (t ∷ ts) i l =
    let g = given_to fresh (distinct [] (t ∷ ts)) in
    let w = good-all fresh (distinct [] (t ∷ ts)) good-fresh in
    let h = some-given t ts in
    all_map (λ (u : Color). found_or 0 (nearest_index u g.chart))
    (λ u. entry_in_lem u g.chart h.0 w.chart_long w.chart_none h.1.1 (nearest_index u g.chart) refl) (t ∷ ts) i l
