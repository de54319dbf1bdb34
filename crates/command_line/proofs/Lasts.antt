-- Laws of the last byte of a kind, and of what follows it. Assumes nothing.
use Rattle.std.specs.Prelude.{Some, None, Option}
use Prim.Native.Nat.{ℕ, ◌+◌, ◌-◌, ◌≤◌, ◌<◌}
use mathlib.Core.Bool.{false}
use mathlib.Core.List.{List, []}
use mathlib.Core.Logic.{⊎_elim}
use mathlib.Core.Path.{◌≡◌, sym, ap, ◌∙◌}
use native.Mathlib.Nat.{eq-or-lt_of_le}
use native.Mathlib.Omega.{arith}
use borrow.Author.Tests.{eq-eqb, ne_eqb}
use lib.Dec.{eqb}
use lib.ListN.{length, get_or, take, drop, length-drop}
use lib.Seq.{take_all}
use Rattle.rules.specs.Vocabulary.{last_where}
use Rattle.laws.specs.Searches.{last_none, last-is}
use Rattle.command_line.specs.Names.{behind}

-- no byte from n on is b
abbrev pub NoneFrom : ℕ → List ℕ → ℕ → Type 0
NoneFrom b s n = (j : ℕ) → j < length s → n ≤ j → eqb b (get_or s j 0) ≡ false

module _ (b : ℕ) (s : List ℕ) where
  pub none-start : NoneFrom b s (length s)
  none-start j l h = absurd (omega arith)

  pub none_more : (n : ℕ) → (get_or s (n - 1) 0 ≡ b → ⊥) → NoneFrom b s n → NoneFrom b s (n - 1)
  none_more n other h j l m =
      ⊎_elim (λ e. ne_eqb b (get_or s j 0) (λ q. other (ap (λ (k : ℕ). get_or s k 0) e ∙ sym q))) (λ k. h j l (omega arith)) (eq-or-lt_of_le m)

  pub last-here : (n : ℕ) → 0 < n → n ≤ length s → get_or s (n - 1) 0 ≡ b → NoneFrom b s n → Some (n - 1) ≡ last_where (eqb b) s
  last-here n z l e h =
      sym
      (last-is (eqb b) 0 s {i = n - 1}
      (record { inside = omega arith; passes = eq-eqb b _ (sym e); others = λ j k a. h j k (omega arith) }))

  pub last-nowhere : (n : ℕ) → n ≤ 0 → NoneFrom b s n → None ≡ last_where (eqb b) s
  last-nowhere n z h = sym (last_none (eqb b) 0 s (λ j l. h j l (omega arith)))

-- what follows a place found
pub behind-is : {f : Option ℕ} (s : List ℕ) {i : ℕ} → f ≡ Some i → take (length s - (i + 1)) (drop (i + 1) s) ≡ behind f s
unfolding behind
behind-is s {i = i} e = rw e (take_all (length s - (i + 1)) (drop (i + 1) s) (simp length-drop (omega arith)))

pub behind-none : {f : Option ℕ} (s : List ℕ) → f ≡ None → [] ≡ behind f s
unfolding behind
behind-none s e = rw e
