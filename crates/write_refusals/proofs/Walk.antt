-- Laws for loops that gather in a bool whether some element of a list passes a test, over the whole list: of any list, and of the
-- commands that three slices hold.
-- Assumes nothing.
use Prim.Native.Nat.{ℕ, ◌+◌, ◌^◌, ◌≤◌, ◌<◌}
use mathlib.Core.Path.{◌≡◌, sym, ◌∙◌}
use mathlib.Core.Bool.{Bool, false, ◌||◌, or-false, or_assoc}
use mathlib.Core.List.{List, [], ◌∷◌}
use native.Mathlib.Omega.{arith}
use lib.ListN.{length, get_or, drop}
use lib.IntN.{ℤ, pos}
use lib.Signed.{mag}
use mir.Syntax.{w32}
use mir.Val.{hbits, to_z, of_z}
use Rattle.rules.specs.Lists.{commands}
use Rattle.rules.specs.Refusals.{place_outside}
use Rattle.rules.specs.declared.Cmd.{Cmd}
use Rattle.laws.specs.Ints.{ret}
use Rattle.laws.specs.Listing.{list-more, list-end, no_cmd, length-commands, commands-at}
use Rattle.laws.specs.Places.{Within, every}

-- The invariant of each loop: `whole`, what is to be told of the list s, is told by what is gathered or by what is left from i on.
pub record Told {A : Type 0} (whole : Bool) (left : List A → Bool) (s : List A) (bad : Bool) (i : ℕ) : Type 0 where
  pub told : whole ≡ (bad || left (drop i s))

-- one more, told as r, and the end
module _ {A : Type 0} {whole : Bool} {left : List A → Bool} {s : List A} {bad : Bool} {i : ℕ} (t : Told whole left s bad i) where
  pub told_more : {left' : List A → Bool} (d : A) (r : Bool) → i < length s
      → ((rest : List A) → left (get_or s i d ∷ rest) ≡ (r || left' rest)) → Told whole left' s (bad || r) (i + 1)
  told_more d r h e = record { told = t.told ∙ rw (list-more s d i h, e (drop (i + 1) s)) (sym (or_assoc bad r _)) }

  pub told-end : length s ≤ i → left [] ≡ false → bad ≡ whole
  told-end h e = sym (t.told ∙ rw (list-end s i h, e) (or-false bad))

-- n is the number of commands, and no slice has fewer elements
pub record Held (xs ys : List ℤ) (ks : List ℕ) (n : ℕ) : Type 0 where
  pub whole : n ≡ length (commands xs ys ks)
  pub in_xs : n ≤ length xs
  pub in_ys : n ≤ length ys
  pub in_ks : n ≤ length ks

pub held : {xs ys : List ℤ} {ks : List ℕ} {n : ℕ} → n ≡ length (commands xs ys ks) → Held xs ys ks n
held {xs} {ys} {ks} e = omega (arith, length-commands xs ys ks)

-- the command at i, as the code reads it: a number goes through its bits, which hold it
abbrev pub read_at : List ℤ → List ℤ → List ℕ → ℕ → Cmd
read_at xs ys ks i = record {
  x = to_z w32 (of_z w32 (get_or xs i (pos 0)));
  y = to_z w32 (of_z w32 (get_or ys i (pos 0)));
  kind = get_or ks i 0;
}

-- the element at i is of 32 bits
abbrev pub Small : List ℤ → ℕ → Type 0
Small xs i = mag (get_or xs i (pos 0)) < 2 ^ hbits w32

module _ {xs ys : List ℤ} {ks : List ℕ} {n : ℕ} (h : Held xs ys ks n) {i : ℕ} where
  read_at_lem : i < n → Small xs i → Small ys i → get_or (commands xs ys ks) i no_cmd ≡ read_at xs ys ks i
  read_at_lem l p q = rw (ret w32 (get_or xs i (pos 0)) p, ret w32 (get_or ys i (pos 0)) q) (commands-at xs ys ks i (omega arith))

  -- where no place is outside, that of the command at i is not
  pub here : place_outside (commands xs ys ks) ≡ false → i < n → Small xs i → Small ys i → Within (read_at xs ys ks i)
  here e l p q = rw (read_at_lem l p q) at (every (commands xs ys ks) e i (omega arith))

  -- a test of one command, which the code tells as r, and the end
  module _ {whole : Bool} {left : List Cmd → Bool} {bad : Bool} (t : Told whole left (commands xs ys ks) bad i) where
    pub one_more : {left' : List Cmd → Bool} (r : Bool) → i < n → Small xs i → Small ys i
        → ((rest : List Cmd) → left (read_at xs ys ks i ∷ rest) ≡ (r || left' rest)) → Told whole left' (commands xs ys ks) (bad || r) (i + 1)
    one_more r l a b e = told_more t no_cmd r (omega arith) (λ rest. rw (read_at_lem l a b) (e rest))

    pub one_end : n ≤ i → left [] ≡ false → bad ≡ whole
    one_end l e = told-end t (omega arith) e
