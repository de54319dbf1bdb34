-- The loop that gives each distinct thread an entry, and the entries of all threads. Assumes nothing.
use Rattle.std.specs.Prelude.{Some, None, Option}
use Prim.Native.Nat.{ℕ, ◌+◌, ◌≤◌, ◌<◌, max}
use mathlib.Core.Path.{◌≡◌, refl, sym, ap, ◌∙◌}
use mathlib.Core.Bool.{Bool, true, false, ◌&&◌, ◌||◌}
use mathlib.Core.List.{List, [], ◌∷◌, ◌++◌}
use native.Mathlib.Numerals.{add-one}
use native.Mathlib.Omega.{arith}
use borrow.Author.Tests.{eqb-true}
use lib.Dec.{eqb}
use lib.ListN.{length, get_or, take, drop, replicate, length-map}
use lib.Seq.{take-suc}
use Rattle.rules.specs.Vocabulary.{pick, any}
use Rattle.rules.specs.Charts.{color}
use Rattle.rules.specs.Choices.{same_color, nearest_index, nearest_answer, away, pec_palette}
use Rattle.rules.specs.Pec.{distinct, Given, give, given_to, found_or, unique_palette, pec_distance}
use Rattle.rules.specs.declared.Color.{Color}
use Rattle.laws.specs.Tests.{by-test, and_left, and_right}
use Rattle.laws.specs.Choosing.{choice-law, found_in, found_in_lem}
use Rattle.laws.specs.Farthest.{far-more, far-end}
use Rattle.laws.specs.Listing.{list-more, list-end}
use Rattle.pec_palette.specs.Entries.{set_at, entries_in, off_in}

-- nothing is given yet
abbrev pub fresh : Given
fresh = record { free = pec_palette; chart = replicate 65 None }

any_last : {A : Type 0} (p : A → Bool) (xs : List A) (x : A) → any p (xs ++ (x ∷ [])) ≡ (p x || any p xs)
unfolding any
any_last p [] x = refl
any_last p (y ∷ xs) x = rw (any_last p xs x) (swap (p y) (p x) (any p xs))
  where
    swap : (a b c : Bool) → (a || (b || c)) ≡ (b || (a || c))
    swap true true c = refl
    swap true false c = refl
    swap false true c = refl
    swap false false c = refl

-- the threads before i + 1
any-take : (p : Color → Bool) (ts : List Color) (i : ℕ) {t : Color} → i < length ts → t ≡ get_or ts i (color 0 0 0) → any p (take (i + 1) ts) ≡ (p t || any p (take i ts))
any-take p ts i h e = rw (add-one, take-suc ts i (color 0 0 0) h, ← e) (any_last p (take i ts) _)

-- threads of one colour are equal
same-is : (a b : Color) → same_color a b ≡ true → a ≡ b
unfolding same_color
same-is a b e =
    let p : Bool = eqb a.0 b.0 in
    let q : Bool = eqb a.1 b.1 in
    let r : Bool = eqb a.2 b.2 in
    let x = eqb-true _ _ (and_left p (q && r) e) in
    let y = eqb-true _ _ (and_left q r (and_right p (q && r) e)) in
    let z = eqb-true _ _ (and_right q r (and_right p (q && r) e)) in
    λ i. color (x i) (y i) (z i)

-- g is given to the threads before i, of which `seen` has one for each colour
pub record Giving (ts : List Color) (i : ℕ) (g : Given) : Type 0 where
  pub seen : List Color
  pub same : (u : Color) → any (same_color u) seen ≡ any (same_color u) (take i ts)
  pub rest : given_to g (distinct seen (drop i ts)) ≡ given_to fresh (distinct [] ts)

pub giving-start : (ts : List Color) → Giving ts 0 fresh
giving-start ts = record { seen = []; same = λ u. refl; rest = refl }

module _ (ts : List Color) (i : ℕ) {t : Color} {g : Given} (h : i < length ts) (e : t ≡ get_or ts i (color 0 0 0)) (w : Giving ts i g) where
  next : drop i ts ≡ t ∷ drop (i + 1) ts
  next = rw e (list-more ts (color 0 0 0) i h)

  -- a thread that was seen changes nothing
  again : any (same_color t) (take i ts) ≡ true → Giving ts (i + 1) g
  unfolding distinct
  again y = record {
    seen = w.seen;
    same = λ u. w.same u ∙ known u ∙ sym (any-take (same_color u) ts i h e);
    rest = rw (next, w.same t, y) at w.rest;
  }
    where
      known : (u : Color) → any (same_color u) (take i ts) ≡ (same_color u t || any (same_color u) (take i ts))
      known u = by-test (same_color u t)
          (λ s. rw (s, same-is u t s, y))
          (λ s. rw s)

  -- a new one is given the nearest entry
  anew : any (same_color t) (take i ts) ≡ false → Giving ts (i + 1) (give (nearest_index t g.free) t g)
  unfolding distinct any given_to
  anew y = record {
    seen = t ∷ w.seen;
    same = λ u. rw (w.same u) (sym (any-take (same_color u) ts i h e));
    rest = rw (next, w.same t, y) at w.rest;
  }

  pub giving-more : {found : Option (ℕ × ℕ)} → found ≡ pick (any (same_color t) (take i ts)) None (nearest_answer t g.free)
      → Giving ts (i + 1) (give (found_in found) t g)
  unfolding give
  giving-more f = by-test (any (same_color t) (take i ts))
      (λ y. rw (f, y) (again y))
      (λ y. rw (f, y, found_in_lem t g.free) (anew y))

-- an entry given is one filled in both
pub given_is : (found : Option (ℕ × ℕ)) (t : Color) (free chart : List (Option Color))
    → ◌≡◌ {A = Given} (record { free = set_at found None free; chart = set_at found (Some t) chart })
    (give (found_in found) t (record { free = free; chart = chart }))
unfolding set_at give
given_is (Some (i, d)) t free chart = refl
given_is None t free chart = refl

pub giving-end : (ts : List Color) (i : ℕ) {g : Given} → length ts ≤ i → Giving ts i g → g ≡ given_to fresh (distinct [] ts)
unfolding distinct given_to
giving-end ts i h w = rw (list-end ts i h) at w.rest

-- ---- the entries of all threads, by the chart

pub palette-is : (ts : List Color) {chart : List (Option Color)} → chart ≡ (given_to fresh (distinct [] ts)).chart → entries_in chart ts ≡ unique_palette ts
unfolding unique_palette
palette-is ts e = rw e

pub length-palette : (ts : List Color) → length (unique_palette ts) ≡ length ts
unfolding unique_palette
length-palette ts = length-map ts _

pub entries-more : (chart : List (Option Color)) (ts : List Color) (i : ℕ) {t : Color} {e : ℕ} → i < length ts → t ≡ get_or ts i (color 0 0 0) → e ≡ found_or 0 (nearest_index t chart)
    → entries_in chart (drop i ts) ≡ e ∷ entries_in chart (drop (i + 1) ts)
entries-more chart ts i h e f = rw (list-more ts (color 0 0 0) i h, f, e)

pub entries-end : (chart : List (Option Color)) (ts : List Color) (i : ℕ) → length ts ≤ i → entries_in chart (drop i ts) ≡ []
entries-end chart ts i h = rw (list-end ts i h)

-- ---- an entry found is one of the chart

module _ (t : Color) (palette : List (Option Color)) {found : Option (ℕ × ℕ)} (e : found ≡ nearest_answer t palette) where
  pub found_as : {g : Option (ℕ × ℕ)} → found ≡ g → nearest_index t palette ≡ found_in g
  found_as h = sym (found_in_lem t palette) ∙ ap found_in (sym e ∙ h)

  pub found_inside : {k d : ℕ} → found ≡ Some (k, d) → k < length palette
  found_inside {k} h = (choice-law true t palette k (found_as h)).1.inside

-- ---- how far off the threads before i are, with the threads to come

module _ (own chart : List (Option Color)) (ts : List Color) where
  abbrev pub Off : ℕ → ℕ → Type 0
  Off i far = max far (off_in own chart (drop i ts)) ≡ off_in own chart ts

  pub off-start : Off 0 0
  off-start = omega arith

  pub off-more : (i : ℕ) {t : Color} {e d far' : ℕ} (far : ℕ) → i < length ts → t ≡ get_or ts i (color 0 0 0) → e ≡ found_or 0 (nearest_index t chart)
      → d ≡ away t (get_or own e None) → far' ≡ max far d → Off i far → Off (i + 1) far'
  off-more i {t} {e} far h at found off larger w =
      rw (larger, off)
      (sym (far-more own far t (drop (i + 1) ts) e (entries_in chart (drop (i + 1) ts))) ∙ rw (list-more ts (color 0 0 0) i h, ← at, ← found) at w)

  pub off-end : (i far : ℕ) → length ts ≤ i → Off i far → far ≡ off_in own chart ts
  off-end i far h w = sym (far-end own far []) ∙ rw (list-end ts i h) at w

-- by the chart in which each distinct thread has its own entry
pub off-all : (ts : List Color) {own chart : List (Option Color)} → own ≡ pec_palette → chart ≡ (given_to fresh
    (distinct [] ts)).chart → off_in own chart ts ≡ pec_distance ts
unfolding pec_distance
off-all ts p e = rw (p, palette-is ts e)
