-- What acceptance says of the list of commands, one command after the other. Assumes nothing.
use Rattle.std.specs.Prelude.{◌≡◌, Bool, true, ◌&&◌, ℕ, zero, suc, ◌≤◌, ℤ, pos, ◌-ℤ◌, eqb, ltb, length, Ok}
use Rattle.std.proofs.Math.Bool.{false, not}
use mathlib.Core.List.{List, [], ◌∷◌}
use Rattle.std.proofs.Math.Nat.{suc_inj}
use Rattle.std.proofs.Common.{arith}
use borrow.Author.Tests.{eqb-true, eqb-false, ltb-false, not-true, not-false}
use Rattle.rules.specs.Vocabulary.{any}
use Rattle.rules.specs.Lists.{op_of, commands, ends_once, same_place, stands, any_from}
use Rattle.rules.specs.Refusals.{bad_list, place_outside, too_many, moves, moved, steps_past, step_too_long, verdict, list_refusals, list_verdict, step_in}
use Rattle.rules.specs.declared.Cmd.{Cmd}
use Rattle.rules.specs.declared.Format.{Format}
use Rattle.rules.specs.declared.Op.{Op}
use Rattle.rules.specs.declared.Op.TheVariants.{Stitch, Jump, Trim, ColorChange, End}
use Rattle.laws.specs.Verdicts.{first-false}
use Rattle.laws.specs.Tests.{or-no-left, or-no-right, and_left, and_right, true-is}

-- none of 6 to 10 holds
pub record Taken (f : Format) (xs ys : List ℤ) (kinds threads : List ℕ) : Type 0 where
  pub shape : bad_list xs ys kinds ≡ false
  pub place : place_outside (commands xs ys kinds) ≡ false
  pub few : too_many (commands xs ys kinds) threads ≡ false
  pub still : moved (commands xs ys kinds) ≡ false
  pub steps : step_too_long f (commands xs ys kinds) ≡ false

pub taken : (f : Format) (xs ys : List ℤ) (kinds threads : List ℕ) → list_verdict f xs ys kinds threads ≡ Ok tt → Taken f xs ys kinds threads
unfolding list_verdict list_refusals verdict
taken f xs ys kinds threads e =
    let a = first-false (bad_list xs ys kinds) _ _ e in
    let b = first-false (place_outside (commands xs ys kinds)) _ _ a.1 in
    let c = first-false (too_many (commands xs ys kinds) threads) _ _ b.1 in
    let d = first-false (moved (commands xs ys kinds)) _ _ c.1 in
    let s = first-false (step_too_long f (commands xs ys kinds)) _ _ d.1 in
    record { shape = a.0; place = b.0; few = c.0; still = d.0; steps = s.0 }

-- what is known of a command that goes from (x, y) to (x', y')
abbrev pub Goes : (ℤ → ℤ → Bool) → Op → ℤ → ℤ → ℤ → ℤ → Type 0
Goes fits Stitch x y x' y' = fits (x' -ℤ x) (y' -ℤ y) ≡ true
Goes fits Jump x y x' y' = fits (x' -ℤ x) (y' -ℤ y) ≡ true
Goes fits Trim x y x' y' = same_place x y x' y' ≡ true
Goes fits ColorChange x y x' y' = same_place x y x' y' ≡ true
Goes fits End x y x' y' = same_place x y x' y' ≡ true

-- a list from (x, y) that ends with its end, and only there
abbrev pub Good : (ℤ → ℤ → Bool) → ℤ → ℤ → List Cmd → Type 0
Good fits x y [] = ⊥
Good fits x y (c ∷ []) = (op_of c.kind ≡ End) × Goes fits (op_of c.kind) x y c.x c.y
Good fits x y (c ∷ d ∷ cs) = (op_of c.kind ≡ End → ⊥) × (Goes fits (op_of c.kind) x y c.x c.y × Good fits c.x c.y (d ∷ cs))

-- one command
goes : (f : Format) (op : Op) (x y x' y' : ℤ) → (stands op && not (same_place x y x' y')) ≡ false → not (step_in f (x' -ℤ x) (y' -ℤ y)) ≡ false
    → Goes (step_in f) op x y x' y'
unfolding stands
goes f Stitch x y x' y' h l = not-false _ l
goes f Jump x y x' y' h l = not-false _ l
goes f Trim x y x' y' h l = not-false _ h
goes f ColorChange x y x' y' h l = not-false _ h
goes f End x y x' y' h l = not-false _ h

-- a kind up to 4 that is not 4 is no end
no_end : (k : ℕ) → ltb 4 k ≡ false → eqb k 4 ≡ false → op_of k ≡ End → ⊥
unfolding op_of
no_end zero h l e = let z : ◌≡◌ {A = ℕ} 0 1 = cc in omega arith
no_end (suc zero) h l e = let z : ◌≡◌ {A = ℕ} 0 1 = cc in omega arith
no_end (suc (suc zero)) h l e = let z : ◌≡◌ {A = ℕ} 0 1 = cc in omega arith
no_end (suc (suc (suc zero))) h l e = let z : ◌≡◌ {A = ℕ} 0 1 = cc in omega arith
no_end (suc (suc (suc (suc k)))) h l e =
    let a : suc (suc (suc (suc k))) ≤ 4 = ltb-false 4 (suc (suc (suc (suc k)))) h in
    let b : suc (suc (suc (suc k))) ≡ 4 = omega arith in
    eqb-false (suc (suc (suc (suc k)))) 4 l b

an-end : (k : ℕ) → eqb k 4 ≡ true → op_of k ≡ End
unfolding op_of
an-end k e = rw (eqb-true k 4 e)

module _ (f : Format) where
  good : (x y : ℤ) (xs ys : List ℤ) (kinds : List ℕ) → length xs ≡ length kinds → length ys ≡ length kinds
      → any (ltb 4) kinds ≡ false → ends_once kinds ≡ true
      → any_from moves x y (commands xs ys kinds) ≡ false → any_from (steps_past f) x y (commands xs ys kinds) ≡ false
      → Good (step_in f) x y (commands xs ys kinds)
  unfolding commands ends_once any any_from moves steps_past
  good x y [] [] [] p q a e m s = absurd (true-is false e)
  good x y [] [] (k ∷ []) p q a e m s = absurd (omega arith)
  good x y [] [] (k ∷ l ∷ kinds) p q a e m s = absurd (omega arith)
  good x y [] (y' ∷ []) [] p q a e m s = absurd (true-is false e)
  good x y [] (y' ∷ []) (k ∷ []) p q a e m s = absurd (omega arith)
  good x y [] (y' ∷ []) (k ∷ l ∷ kinds) p q a e m s = absurd (omega arith)
  good x y [] (y' ∷ y'' ∷ ys) [] p q a e m s = absurd (true-is false e)
  good x y [] (y' ∷ y'' ∷ ys) (k ∷ []) p q a e m s = absurd (omega arith)
  good x y [] (y' ∷ y'' ∷ ys) (k ∷ l ∷ kinds) p q a e m s = absurd (omega arith)
  good x y (x' ∷ []) [] [] p q a e m s = absurd (true-is false e)
  good x y (x' ∷ []) [] (k ∷ []) p q a e m s = absurd (omega arith)
  good x y (x' ∷ []) [] (k ∷ l ∷ kinds) p q a e m s = absurd (omega arith)
  good x y (x' ∷ []) (y' ∷ []) [] p q a e m s = absurd (true-is false e)
  good x y (x' ∷ []) (y' ∷ []) (k ∷ []) p q a e m s =
      (an-end k e, goes f (op_of k) x y x' y' (or-no-left _ _ m) (or-no-left _ _ s))
  good x y (x' ∷ []) (y' ∷ []) (k ∷ l ∷ kinds) p q a e m s = absurd (omega arith)
  good x y (x' ∷ []) (y' ∷ y'' ∷ ys) [] p q a e m s = absurd (true-is false e)
  good x y (x' ∷ []) (y' ∷ y'' ∷ ys) (k ∷ []) p q a e m s = absurd (omega arith)
  good x y (x' ∷ []) (y' ∷ y'' ∷ ys) (k ∷ l ∷ kinds) p q a e m s = absurd (omega arith)
  good x y (x' ∷ x'' ∷ xs) [] [] p q a e m s = absurd (true-is false e)
  good x y (x' ∷ x'' ∷ xs) [] (k ∷ []) p q a e m s = absurd (omega arith)
  good x y (x' ∷ x'' ∷ xs) [] (k ∷ l ∷ kinds) p q a e m s = absurd (omega arith)
  good x y (x' ∷ x'' ∷ xs) (y' ∷ []) [] p q a e m s = absurd (true-is false e)
  good x y (x' ∷ x'' ∷ xs) (y' ∷ []) (k ∷ []) p q a e m s = absurd (omega arith)
  good x y (x' ∷ x'' ∷ xs) (y' ∷ []) (k ∷ l ∷ kinds) p q a e m s = absurd (omega arith)
  good x y (x' ∷ x'' ∷ xs) (y' ∷ y'' ∷ ys) [] p q a e m s = absurd (true-is false e)
  good x y (x' ∷ x'' ∷ xs) (y' ∷ y'' ∷ ys) (k ∷ []) p q a e m s = absurd (omega arith)
  good x y (x' ∷ x'' ∷ xs) (y' ∷ y'' ∷ ys) (k ∷ l ∷ kinds) p q a e m s = (
    no_end k (or-no-left (ltb 4 k) _ a) (not-true _ (and_left (not (eqb k 4)) _ e)),
    (
      goes f (op_of k) x y x' y' (or-no-left _ _ m) (or-no-left _ _ s),
      good x' y' (x'' ∷ xs) (y'' ∷ ys) (l ∷ kinds) (suc_inj p) (suc_inj q) (or-no-right (ltb 4 k) _ a) (and_right (not (eqb k 4)) _ e)
          (or-no-right (stands (op_of k) && not (same_place x y x' y')) _ m) (or-no-right (not (step_in f (x' -ℤ x) (y' -ℤ y))) _ s),
    ),
  )

  -- the conditions of refusal 6, one by one
  pub record Shape (xs ys : List ℤ) (kinds : List ℕ) : Type 0 where
    pub some : eqb (length kinds) 0 ≡ false
    pub short : ltb 65535 (length kinds) ≡ false
    pub xs_as : length xs ≡ length kinds
    pub ys_as : length ys ≡ length kinds
    pub kinds_in : any (ltb 4) kinds ≡ false
    pub one_end : ends_once kinds ≡ true

  pub shape_of : (xs ys : List ℤ) (kinds : List ℕ) → bad_list xs ys kinds ≡ false → Shape xs ys kinds
  unfolding bad_list
  shape_of xs ys kinds e =
      let a = or-no-right (eqb (length kinds) 0) _ e in
      let b = or-no-right (ltb 65535 (length kinds)) _ a in
      let c = or-no-right (not (eqb (length xs) (length kinds))) _ b in
      let d = or-no-right (not (eqb (length ys) (length kinds))) _ c in
      record {
        some = or-no-left (eqb (length kinds) 0) _ e;
        short = or-no-left (ltb 65535 (length kinds)) _ a;
        xs_as = eqb-true _ _ (not-false _ (or-no-left (not (eqb (length xs) (length kinds))) _ b));
        ys_as = eqb-true _ _ (not-false _ (or-no-left (not (eqb (length ys) (length kinds))) _ c));
        kinds_in = or-no-left (any (ltb 4) kinds) _ d;
        one_end = not-false _ (or-no-right (any (ltb 4) kinds) _ d);
      }

  -- an accepted list, from (0, 0)
  pub accepted-good : (xs ys : List ℤ) (kinds threads : List ℕ) → Taken f xs ys kinds threads → Good (step_in f) (pos 0) (pos 0) (commands xs ys kinds)
  unfolding moved step_too_long
  accepted-good xs ys kinds threads t =
      let s = shape_of xs ys kinds t.shape in
      good (pos 0) (pos 0) xs ys kinds s.xs_as s.ys_as s.kinds_in s.one_end t.still t.steps
