-- Jobs: the fields unfold by one, whatever the fuel, and the rows of a content by one. Assumes nothing.
use Rattle.std.specs.Prelude.{ℕ, suc, ◌+◌, ◌*◌, ◌≤◌, ◌<◌, ◌≡◌, refl, Bool, true, false, ◌||◌, not, List, [], ◌∷◌, ltb, length, take, drop, get_or, Ok}
use Rattle.std.proofs.Common.{ap, arith, ltb-false, length-drop}
use Rattle.rules.specs.Vocabulary.{pick, any, signed, from_little}
use Rattle.rules.specs.Jobs.{Fields, ended, field, bad_tag, bad_length, follows, length_allowed, rows_of, unknown_kind, rows_in, content_then, field_then, fields_from}
use Rattle.rules.specs.declared.Cmd.{Cmd}
use Rattle.laws.specs.Fuel.{fuelled-step}
use Rattle.laws.specs.Listing.{list-more}

-- ---- fields

same-pick : {A : Type 0} (b : Bool) (x : A) {y y' : A} → (b ≡ false → y ≡ y') → pick b x y ≡ pick b x y'
same-pick true x e = refl
same-pick false x e = e refl

content-same : (f g : ℕ → List ℕ → Fields) (tag len : ℕ) (s : List ℕ)
    → ((t : ℕ) (r : List ℕ) → length r ≤ length s → f t r ≡ g t r) → content_then f tag len s ≡ content_then g tag len s
unfolding content_then
content-same f g tag len s e =
    same-pick (ltb (length s) len || not (length_allowed tag len)) bad_length (λ _.
    same-pick (any unknown_kind (rows_in tag (take len s))) bad_tag (λ _.
    ap (field tag (take len s)) (e tag (drop len s) (simp length-drop (omega arith)))))

field-same : (f g : ℕ → List ℕ → Fields) (before : ℕ) (s : List ℕ)
    → ((t : ℕ) (r : List ℕ) → length r < length s → f t r ≡ g t r) → field_then f before s ≡ field_then g before s
unfolding field_then
field-same f g before [] e = refl
field-same f g before (tag ∷ s) e =
    same-pick (not (follows before tag)) bad_tag (λ _.
    same-pick (ltb (length s) 2) bad_length (λ l.
    content-same f g tag (from_little (take 2 s)) (drop 2 s) (λ t r h.
    e t r (omega (arith, length-drop 2 s, ltb-false (length s) 2 l)))))

-- the first field, and those behind it
pub fields-step : (before : ℕ) (s : List ℕ) → fields_from before s ≡ field_then fields_from before s
unfolding fields_from
fields-step before s =
    fuelled-step {X = ℕ × List ℕ} {R = Fields} (λ p. length p.1)
    (λ (go : ℕ × List ℕ → Fields) (p : ℕ × List ℕ). field_then (λ t r. go (t, r)) p.0 p.1) (ended (Ok tt))
    (λ f g p h. field-same (λ t r. f (t, r)) (λ t r. g (t, r)) p.0 p.1 (λ t r l. h (t, r) l))
    (suc (length s)) (before, s) (omega arith)

-- ---- rows

-- the command that stands at a place
abbrev pub row_at : List ℕ → ℕ → Cmd
row_at s i = record {
  x = signed 15 (from_little (take 2 (drop (i + 1) s)));
  y = signed 15 (from_little (take 2 (drop (i + 3) s)));
  kind = get_or s i 0;
}

-- one row more
pub rows_more : (s : List ℕ) (i : ℕ) → i + 5 ≤ length s → rows_of (drop i s) ≡ row_at s i ∷ rows_of (drop (i + 5) s)
unfolding rows_of
rows_more s i h =
    let e₁ : drop i s ≡ get_or s i 0 ∷ drop (i + 1) s = list-more s 0 i (omega arith) in
    let e₂ : drop (i + 1) s ≡ get_or s (i + 1) 0 ∷ drop (i + 2) s = step 1 (omega arith) in
    let e₃ : drop (i + 2) s ≡ get_or s (i + 2) 0 ∷ drop (i + 3) s = step 2 (omega arith) in
    let e₄ : drop (i + 3) s ≡ get_or s (i + 3) 0 ∷ drop (i + 4) s = step 3 (omega arith) in
    let e₅ : drop (i + 4) s ≡ get_or s (i + 4) 0 ∷ drop (i + 5) s = step 4 (omega arith) in
    rw (e₁, e₂, e₃, e₄, e₅)
  where
    one_on : (k : ℕ) → i + k + 1 ≡ i + (k + 1)
    one_on k = omega arith

    step : (k : ℕ) → k < 5 → drop (i + k) s ≡ get_or s (i + k) 0 ∷ drop (i + (k + 1)) s
    step k l = rw (← one_on k) (list-more s 0 (i + k) (omega arith))

pub rows_none : (s : List ℕ) → length s < 5 → rows_of s ≡ []
unfolding rows_of
rows_none [] h = refl
rows_none (k ∷ []) h = refl
rows_none (k ∷ a ∷ []) h = refl
rows_none (k ∷ a ∷ b ∷ []) h = refl
rows_none (k ∷ a ∷ b ∷ c ∷ []) h = refl
rows_none (k ∷ a ∷ b ∷ c ∷ d ∷ s) h = absurd (omega arith)

-- five bytes to a command
pub rows_long : (s : List ℕ) → 5 * length (rows_of s) ≤ length s
unfolding rows_of
rows_long [] = omega arith
rows_long (k ∷ []) = omega arith
rows_long (k ∷ a ∷ []) = omega arith
rows_long (k ∷ a ∷ b ∷ []) = omega arith
rows_long (k ∷ a ∷ b ∷ c ∷ []) = omega arith
rows_long (k ∷ a ∷ b ∷ c ∷ d ∷ s) = omega (arith, rows_long s)

-- ---- numbers of two bytes

pub two_at : (s : List ℕ) (i : ℕ) → i + 2 ≤ length s → from_little (take 2 (drop i s)) ≡ get_or s i 0 + 256 * get_or s (i + 1) 0
unfolding from_little
two_at s i h = rw (list-more s 0 i (omega arith), list-more s 0 (i + 1) (omega arith)) (omega arith)
