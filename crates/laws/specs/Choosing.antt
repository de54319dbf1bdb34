-- The choice of a palette's entry: `nearest_index` and `nearest_first` are the entry at the least distance, of equals the later and the
-- first.
-- The same facts of the entries seen so far are the invariant of the loop that chooses. Assumes nothing.
use Rattle.std.specs.Prelude.{ℕ, zero, suc, ◌+◌, ◌<◌, ◌≤◌, ◌≡◌, Bool, false, List, [], ◌∷◌, map, ltb, length, get_or, drop, Some, None, Option}
use Rattle.std.proofs.Math.Path.{refl}
use Rattle.std.proofs.Common.{sym, ap, ◌∙◌, subst, le_refl, le_trans, lt_of_lt_of_le, le_of_suc-le-suc, not-suc-le-zero, add-one, arith, below_none, below_more, leb-true, leb-false, ltb-true, ltb-false, le-leb}
use Rattle.std.proofs.Math.Bool.{true}
use Rattle.std.proofs.Math.Dec.{leb}
use Rattle.std.proofs.lemmas.List.{length-map}
use Rattle.rules.specs.Vocabulary.{pick}
use Rattle.rules.specs.Choices.{distance, no_nearer, nearest, nearest_index, nearest_first, away, with_distance, nearest_answer, choices}
use Rattle.rules.specs.declared.Color.{Color}
use Rattle.laws.specs.Tests.{by-test}
use Rattle.laws.specs.Listing.{list-more}
use Rattle.laws.specs.Searches.{Where, before, after, Nowhere, all_from, all-at, first-is, first-none, last-is, last_none}

-- an entry at distance d or more, and at more than d, or none
abbrev pub NoNearer : Color → ℕ → Option Color → Type 0
NoNearer c d None = Unit {0}
NoNearer c d (Some t) = d ≤ distance c t

abbrev pub Farther : Color → ℕ → Option Color → Type 0
Farther c d None = Unit {0}
Farther c d (Some t) = d < distance c t

-- of equals the later one wins (true), or the first (false)
abbrev pub beats : Bool → ℕ → ℕ → Type 0
beats true = after
beats false = before

-- of the first n entries, entry k is the thread t: none is nearer, and one that would win among equals is farther
pub record Chosen (later : Bool) (c : Color) (ps : List (Option Color)) (n k : ℕ) (t : Color) : Type 0 where
  pub inside : k < n
  pub there : get_or ps k None ≡ Some t
  pub least : (j : ℕ) → j < n → NoNearer c (distance c t) (get_or ps j None)
  pub wins : (j : ℕ) → j < n → beats later j k → Farther c (distance c t) (get_or ps j None)

-- what leads among the first n entries, and its distance
pub data Leading (later : Bool) (c : Color) (ps : List (Option Color)) (n : ℕ) : Option ℕ → ℕ → Type 0 where
  none : {d : ℕ} → ((j : ℕ) → j < n → get_or ps j None ≡ None) → Leading later c ps n None d
  some : {k : ℕ} {t : Color} → Chosen later c ps n k t → Leading later c ps n (Some k) (distance c t)

-- a thread at distance d takes the lead from one at distance e
abbrev pub takes : Bool → Option ℕ → ℕ → ℕ → Bool
takes later None e d = true
takes true (Some k) e d = leb d e
takes false (Some k) e d = ltb d e

-- what leads after entry i
abbrev pub lead_after : Bool → Color → Option ℕ → ℕ → Option Color → ℕ → Option ℕ
lead_after later c at d None i = at
lead_after later c at d (Some t) i = pick (takes later at d (distance c t)) (Some i) at

abbrev pub distance_after : Bool → Color → Option ℕ → ℕ → Option Color → ℕ
distance_after later c at d None = d
distance_after later c at d (Some t) = pick (takes later at d (distance c t)) (distance c t) d

nearer : (c : Color) {d e : ℕ} (s : Option Color) → d ≤ e → NoNearer c e s → NoNearer c d s
nearer c None h l = tt
nearer c (Some t) h l = le_trans h l

farther : (c : Color) {d e : ℕ} (s : Option Color) → d < e → NoNearer c e s → Farther c d s
farther c None h l = tt
farther c (Some t) h l = lt_of_lt_of_le h l

none-near : (c : Color) (d : ℕ) (s : Option Color) → s ≡ None → NoNearer c d s
none-near c d s e = rw e tt

none-far : (c : Color) (d : ℕ) (s : Option Color) → s ≡ None → Farther c d s
none-far c d s e = rw e tt

not_itself : (later : Bool) (n : ℕ) → beats later n n → ⊥
not_itself true n h = omega arith
not_itself false n h = omega arith

module _ (c : Color) (ps : List (Option Color)) (n : ℕ) where
  -- the entry at n is the first thread
  opens : (later : Bool) (t : Color) → get_or ps n None ≡ Some t → ((j : ℕ) → j < n → get_or ps j None ≡ None) → Chosen later c ps (n + 1) n t
  opens later t e h = record {
    inside = omega arith;
    there = e;
    least = below_more _ n (λ j l. none-near c (distance c t) (get_or ps j None) (h j l)) (rw e (le_refl (distance c t)));
    wins = below_more _ n (λ j l b. none-far c (distance c t) (get_or ps j None) (h j l)) (λ b. absurd (not_itself later n b));
  }

  -- the entry at n takes the lead
  leads : (later : Bool) {k : ℕ} {u : Color} (t : Color) → get_or ps n None ≡ Some t → Chosen later c ps n k u → distance c t ≤ distance c u
      → ((j : ℕ) → j < n → beats later j n → distance c t < distance c u) → Chosen later c ps (n + 1) n t
  leads later t e w h f = record {
    inside = omega arith;
    there = e;
    least = below_more _ n (λ j l. nearer c (get_or ps j None) h (w.least j l)) (rw e (le_refl (distance c t)));
    wins = below_more _ n (λ j l b. farther c (get_or ps j None) (f j l b) (w.least j l)) (λ b. absurd (not_itself later n b));
  }

  -- the lead stays
  stays : (later : Bool) {k : ℕ} {u : Color} → Chosen later c ps n k u → NoNearer c (distance c u) (get_or ps n None)
      → (beats later n k → Farther c (distance c u) (get_or ps n None)) → Chosen later c ps (n + 1) k u
  stays later w h f = record {
    inside = omega (arith, w.inside);
    there = w.there;
    least = below_more _ n w.least h;
    wins = below_more _ n w.wins f;
  }

  turn : (later : Bool) {k : ℕ} {u : Color} (t : Color) → get_or ps n None ≡ Some t → Chosen later c ps n k u
      → Leading later c ps (n + 1) (pick (takes later (Some k) (distance c u) (distance c t)) (Some n) (Some k))
      (pick (takes later (Some k) (distance c u) (distance c t)) (distance c t) (distance c u))
  turn true {k} {u} t e w = by-test (leb (distance c t) (distance c u))
      (λ y. rw y (some (leads true t e w (leb-true _ _ y) (λ j l b. absurd (omega arith)))))
      (λ y. rw y (some (stays true w (rw e (omega (arith, leb-false))) (λ b. rw e (leb-false _ _ y)))))
  turn false {k} {u} t e w = by-test (ltb (distance c t) (distance c u))
      (λ y. rw y (some (leads false t e w (omega (arith, ltb-true)) (λ j l b. ltb-true _ _ y))))
      (λ y. rw y (some (stays false w (rw e (ltb-false _ _ y)) (λ b. absurd (omega (arith, w.inside))))))

  -- one more entry
  pub leading-more : (later : Bool) {at : Option ℕ} {d : ℕ} (s : Option Color) → get_or ps n None ≡ s → Leading later c ps n at d
      → Leading later c ps (n + 1) (lead_after later c at d s n) (distance_after later c at d s)
  leading-more later None e (none h) = none (below_more _ n h e)
  leading-more later None e (some w) = some (stays later w (none-near c _ _ e) (λ b. none-far c _ _ e))
  leading-more later (Some t) e (none h) = some (opens later t e h)
  leading-more later (Some t) e (some w) = turn later t e w

-- no entry yet
pub leading-none : (later : Bool) (c : Color) (ps : List (Option Color)) (d : ℕ) → Leading later c ps 0 None d
leading-none later c ps d = none (below_none _)

-- ---- the definitions choose what leads

abbrev pub choice : Bool → Color → List (Option Color) → Option ℕ
choice true = nearest_index
choice false = nearest_first

no-nearer : (c : Color) (d : ℕ) (s : Option Color) → NoNearer c d s → no_nearer c d s ≡ true
unfolding no_nearer
no-nearer c d None h = refl
no-nearer c d (Some t) h = le-leb d (distance c t) h

module _ (later : Bool) (c : Color) (ps : List (Option Color)) {k : ℕ} {t : Color} (w : Chosen later c ps (length ps) k t) where
  is-nearest : nearest c ps (get_or ps k None) ≡ true
  unfolding nearest
  is-nearest = rw w.there (all_from (no_nearer c (distance c t)) None ps (λ j l. no-nearer c (distance c t) (get_or ps j None) (w.least j l)))

  not-nearest : (s : Option Color) → Farther c (distance c t) s → nearest c ps s ≡ false
  unfolding nearest no_nearer
  not-nearest None h = refl
  not-nearest (Some u) h = by-test (nearest c ps (Some u))
      (λ y. let z : leb (distance c u) (distance c t) ≡ true = rw w.there at (all-at (no_nearer c (distance c u)) None ps y k w.inside) in absurd (omega (arith, leb-true)))
      (λ y. y)

  there-where : Where (beats later) (nearest c ps) None ps k
  there-where = record { inside = w.inside; passes = is-nearest; others = λ j l b. not-nearest (get_or ps j None) (w.wins j l b) }

nowhere : (c : Color) (ps : List (Option Color)) → ((j : ℕ) → j < length ps → get_or ps j None ≡ None) → Nowhere (nearest c ps) None ps
unfolding nearest
nowhere c ps h j l = rw (h j l)

pub choice-is : (later : Bool) (c : Color) (ps : List (Option Color)) {at : Option ℕ} {d : ℕ} → Leading later c ps (length ps) at d → choice later c ps ≡ at
unfolding nearest_index nearest_first
choice-is true c ps (none h) = last_none (nearest c ps) None ps (nowhere c ps h)
choice-is true c ps (some w) = last-is (nearest c ps) None ps (there-where true c ps w)
choice-is false c ps (none h) = first-none (nearest c ps) None ps (nowhere c ps h)
choice-is false c ps (some w) = first-is (nearest c ps) None ps (there-where false c ps w)

-- something leads among any number of entries
pub record Leader (later : Bool) (c : Color) (ps : List (Option Color)) (n : ℕ) : Type 0 where
  pub at : Option ℕ
  pub away : ℕ
  pub leading : Leading later c ps n at away

pub leader : (later : Bool) (c : Color) (ps : List (Option Color)) (n : ℕ) → Leader later c ps n
leader later c ps zero = record { at = None; away = 0; leading = leading-none later c ps 0 }
leader later c ps (suc n) =
    let l = leader later c ps n in
    record { at = _; away = _; leading = rw add-one at (leading-more c ps n later (get_or ps n None) refl l.leading) }

-- What the definitions say: the entry found is a thread, no other is nearer, and of equals it is the later or the first. Nothing is found
-- only where there is no thread.
chosen_of : (later : Bool) (c : Color) (ps : List (Option Color)) (k : ℕ) {at : Option ℕ} {d : ℕ} → at ≡ Some k → Leading later c ps (length ps) at d → (t : Color) × Chosen later c ps (length ps) k t
chosen_of later c ps k e (none h) = let z : ◌≡◌ {A = ℕ} 0 1 = cc in absurd (omega arith)
chosen_of later c ps k e (some {k = i} {t} w) = let z : i ≡ k = cc in (t, subst (λ (j : ℕ). Chosen later c ps (length ps) j t) z w)

pub choice-law : (later : Bool) (c : Color) (ps : List (Option Color)) (k : ℕ) → choice later c ps ≡ Some k → (t : Color) × Chosen later c ps (length ps) k t
choice-law later c ps k e =
    let l = leader later c ps (length ps) in
    chosen_of later c ps k (sym (choice-is later c ps l.leading) ∙ e) l.leading

missing-of : (later : Bool) (c : Color) (ps : List (Option Color)) {at : Option ℕ} {d : ℕ} → at ≡ None → Leading later c ps (length ps) at d → (j : ℕ) → j < length ps → get_or ps j None ≡ None
missing-of later c ps e (none h) = h
missing-of later c ps e (some w) = let z : ◌≡◌ {A = ℕ} 0 1 = cc in absurd (omega arith)

pub choice-missing : (later : Bool) (c : Color) (ps : List (Option Color)) → choice later c ps ≡ None → (j : ℕ) → j < length ps → get_or ps j None ≡ None
choice-missing later c ps e =
    let l = leader later c ps (length ps) in
    missing-of later c ps (sym (choice-is later c ps l.leading) ∙ e) l.leading

-- ---- what a choice answers

-- the answer for what leads: its index and its distance, if there is one
abbrev pub lead_answer : Option ℕ → ℕ → Option (ℕ × ℕ)
lead_answer (Some k) d = Some (k, d)
lead_answer None d = None

pub answer-is : (later : Bool) (c : Color) (ps : List (Option Color)) {at : Option ℕ} {d : ℕ}
    → Leading later c ps (length ps) at d → with_distance c ps (choice later c ps) ≡ lead_answer at d
unfolding with_distance away
answer-is later c ps {d = d} (none h) = rw (choice-is later c ps (none {d = d} h))
answer-is later c ps (some w) = rw (choice-is later c ps (some w), w.there)

-- the place in an answer of `nearest_index`
abbrev pub found_in : Option (ℕ × ℕ) → Option ℕ
found_in (Some (k, d)) = Some k
found_in None = None

found-with : (c : Color) (ps : List (Option Color)) (f : Option ℕ) → found_in (with_distance c ps f) ≡ f
unfolding with_distance
found-with c ps (Some k) = refl
found-with c ps None = refl

pub found_in_lem : (c : Color) (ps : List (Option Color)) → found_in (nearest_answer c ps) ≡ nearest_index c ps
unfolding nearest_answer
found_in_lem c ps = found-with c ps (nearest_index c ps)

-- ---- a chart's entries that may be chosen

pub choices-at : (chart : List Color) (d : Color) (i : ℕ) → 0 < i → i < length chart → get_or (choices chart) i None ≡ Some (get_or chart i d)
unfolding choices
choices-at [] d i h l = absurd (not-suc-le-zero l)
choices-at (c ∷ chart) d zero h l = absurd (not-suc-le-zero h)
choices-at (c ∷ chart) d (suc i) h l = threads chart i (le_of_suc-le-suc l)
  where
    threads : (chart : List Color) (i : ℕ) → i < length chart → get_or (map Some chart) i None ≡ Some (get_or chart i d)
    threads [] i l = absurd (not-suc-le-zero l)
    threads (c ∷ chart) zero l = refl
    threads (c ∷ chart) (suc i) l = threads chart i (le_of_suc-le-suc l)

pub length-choices : (chart : List Color) → length (choices chart) ≡ length chart
unfolding choices
length-choices [] = refl
length-choices (c ∷ chart) = ap suc (length-map chart Some)

-- one more entry
pub choices-more : {t : Color} (chart : List Color) (d : Color) (i : ℕ) → 0 < i → i < length chart → t ≡ get_or chart i d
    → drop i (choices chart) ≡ Some t ∷ drop (i + 1) (choices chart)
choices-more chart d i h l e = list-more (choices chart) None i (rw (length-choices chart) l) ∙ rw (choices-at chart d i h l, e)
