-- The induction over the list, once for all formats: a format owes what each kind of command comes to. Assumes nothing.
use Rattle.std.proofs.Math.Path.{◌≡◌, ap, ap₂}
use Rattle.std.specs.Prelude.{refl, Bool, true, ℕ, suc, ℤ, pos, ◌+ℤ◌, ◌-ℤ◌}
use Rattle.std.proofs.Common.{sym, ◌∙◌, arith}
use mathlib.Core.List.{List, [], ◌∷◌, ◌++◌, append_assoc, append-nil}
use Rattle.std.proofs.Math.IntN.{+ℤ_comm, +ℤ_invr, -ℤ-+ℤ_cancel}
use Rattle.rules.specs.Vocabulary.{eq_z}
use Rattle.rules.specs.Lists.{op_of, same_place}
use Rattle.rules.specs.Records.{events}
use Rattle.rules.specs.Sewing.{Entry, entry, block_after, sews_cmd, sews}
use Rattle.rules.specs.declared.Cmd.{Cmd}
use Rattle.rules.specs.declared.Op.{Op}
use Rattle.rules.specs.declared.Op.TheVariants.{Stitch, Jump, Trim, ColorChange, End}
use Rattle.rules.specs.declared.Record.{Record}
use Rattle.laws.specs.Tests.{and_left, and_right}
use Rattle.laws.specs.Ints.{eqz-true}
use Rattle.sewing.specs.EventSewing.{event_sewing}
use Rattle.sewing.specs.Accepting.{Goes, Good}

-- the sewing of bytes, from block k and place (x, y)
abbrev pub sewn : (List ℕ → Record) → List ℕ → ℕ → ℤ → ℤ → List Entry
sewn first b k x y = event_sewing k x y (events first b)

-- What a format owes: for each kind, how its bytes sew, whatever follows them; after the end, `tail` follows.
pub record Owed {S : Type 0} (first : List ℕ → Record) (fits : ℤ → ℤ → Bool) (cmd : S → Op → ℤ → ℤ → List ℕ) (tail : List ℕ) : Type 0 where
  pub stitches : (s : S) (dx dy : ℤ) (rest : List ℕ) → fits dx dy ≡ true → (k : ℕ) (x y : ℤ)
      → sewn first (cmd s Stitch dx dy ++ rest) k x y ≡ entry k x y (x +ℤ dx) (y +ℤ dy) (sewn first rest k (x +ℤ dx) (y +ℤ dy))
  pub jumps : (s : S) (dx dy : ℤ) (rest : List ℕ) → fits dx dy ≡ true → (k : ℕ) (x y : ℤ)
      → sewn first (cmd s Jump dx dy ++ rest) k x y ≡ sewn first rest k (x +ℤ dx) (y +ℤ dy)
  pub trims : (s : S) (rest : List ℕ) (k : ℕ) (x y : ℤ) → sewn first (cmd s Trim (pos 0) (pos 0) ++ rest) k x y ≡ sewn first rest k x y
  pub changes : (s : S) (rest : List ℕ) (k : ℕ) (x y : ℤ) → sewn first (cmd s ColorChange (pos 0) (pos 0) ++ rest) k x y ≡ sewn first rest (suc k) x y
  pub ends : (s : S) (k : ℕ) (x y : ℤ) → sewn first (cmd s End (pos 0) (pos 0) ++ tail) k x y ≡ []

-- adding the difference of two places to the first gives the second
pub arrive : (x x' : ℤ) → x +ℤ (x' -ℤ x) ≡ x'
arrive x x' = +ℤ_comm x (x' -ℤ x) ∙ -ℤ-+ℤ_cancel x' x

same-x : (x y x' y' : ℤ) → same_place x y x' y' ≡ true → x ≡ x'
unfolding same_place
same-x x y x' y' e = eqz-true x x' (and_left (eq_z x x') (eq_z y y') e)

same-y : (x y x' y' : ℤ) → same_place x y x' y' ≡ true → y ≡ y'
unfolding same_place
same-y x y x' y' e = eqz-true y y' (and_right (eq_z x x') (eq_z y y') e)

no_step : (x x' : ℤ) → x ≡ x' → x' -ℤ x ≡ pos 0
no_step x x' e = ap (λ (z : ℤ). z -ℤ x) (sym e) ∙ +ℤ_invr x

-- W is the writer: the bytes of one command after the other
module _ {S : Type 0} (first : List ℕ → Record) (fits : ℤ → ℤ → Bool) (cmd : S → Op → ℤ → ℤ → List ℕ) (next : S → Op → S) (tail : List ℕ)
    (W : S → ℤ → ℤ → List Cmd → List ℕ) (w-nil : (s : S) (x y : ℤ) → W s x y [] ≡ [])
    (w-cons : (s : S) (x y : ℤ) (c : Cmd) (cs : List Cmd)
    → W s x y (c ∷ cs) ≡ cmd s (op_of c.kind) (c.x -ℤ x) (c.y -ℤ y) ++ W (next s (op_of c.kind)) c.x c.y cs)
    (F : Owed first fits cmd tail) where
  -- a command at the place before it
  spot : (s : S) (op : Op) (k k' : ℕ) (x y x' y' : ℤ) (rest : List ℕ) → same_place x y x' y' ≡ true
      → sewn first (cmd s op (pos 0) (pos 0) ++ rest) k x y ≡ sewn first rest k' x y
      → sewn first (cmd s op (x' -ℤ x) (y' -ℤ y) ++ rest) k x y ≡ sewn first rest k' x' y'
  spot s op k k' x y x' y' rest e h =
      let p = same-x x y x' y' e in
      let q = same-y x y x' y' e in
      ap₂ (λ (a b : ℤ). sewn first (cmd s op a b ++ rest) k x y) (no_step x x' p) (no_step y y' q) ∙ h
      ∙ ap₂ (λ (a b : ℤ). sewn first rest k' a b) p q

  -- one command that is no end
  step : (s : S) (op : Op) (k : ℕ) (x y x' y' : ℤ) (rest : List ℕ) → (op ≡ End → ⊥) → Goes fits op x y x' y'
      → sewn first (cmd s op (x' -ℤ x) (y' -ℤ y) ++ rest) k x y ≡ sews_cmd op k x y x' y' (sewn first rest (block_after op k) x' y')
  unfolding sews_cmd block_after
  step s Stitch k x y x' y' rest n g =
      F.stitches s _ _ rest g k x y ∙ ap₂ (λ (a b : ℤ). entry k x y a b (sewn first rest k a b)) (arrive x x') (arrive y y')
  step s Jump k x y x' y' rest n g = F.jumps s _ _ rest g k x y ∙ ap₂ (λ (a b : ℤ). sewn first rest k a b) (arrive x x') (arrive y y')
  step s Trim k x y x' y' rest n g = spot s Trim k k x y x' y' rest g (F.trims s rest k x y)
  step s ColorChange k x y x' y' rest n g = spot s ColorChange k (suc k) x y x' y' rest g (F.changes s rest k x y)
  step s End k x y x' y' rest n g = absurd (n refl)

  -- the end
  last : (s : S) (op : Op) (k : ℕ) (x y x' y' : ℤ) → op ≡ End → Goes fits op x y x' y'
      → sewn first (cmd s op (x' -ℤ x) (y' -ℤ y) ++ tail) k x y ≡ sews_cmd op k x y x' y' []
  unfolding sews_cmd
  last s Stitch k x y x' y' e g = absurd (let z : ◌≡◌ {A = ℕ} 0 1 = cc in omega arith)
  last s Jump k x y x' y' e g = absurd (let z : ◌≡◌ {A = ℕ} 0 1 = cc in omega arith)
  last s Trim k x y x' y' e g = absurd (let z : ◌≡◌ {A = ℕ} 0 1 = cc in omega arith)
  last s ColorChange k x y x' y' e g = absurd (let z : ◌≡◌ {A = ℕ} 0 1 = cc in omega arith)
  last s End k x y x' y' e g =
      ap₂ (λ (a b : ℤ). sewn first (cmd s End a b ++ tail) k x y) (no_step x x' (same-x x y x' y' g)) (no_step y y' (same-y x y x' y' g)) ∙ F.ends s k x y

  -- the list
  pub round : (s : S) (x y : ℤ) (cs : List Cmd) → Good fits x y cs → (k : ℕ) → sewn first (W s x y cs ++ tail) k x y ≡ sews k x y cs
  unfolding sews
  round s x y [] g k = absurd g
  round s x y (c ∷ []) g k =
      ap (λ (b : List ℕ). sewn first (b ++ tail) k x y)
      (w-cons s x y c [] ∙ ap (λ (b : List ℕ). cmd s (op_of c.kind) (c.x -ℤ x) (c.y -ℤ y) ++ b) (w-nil _ c.x c.y) ∙ append-nil
      (cmd s (op_of c.kind) (c.x -ℤ x) (c.y -ℤ y)))
      ∙ last s (op_of c.kind) k x y c.x c.y g.0 g.1
  round s x y (c ∷ d ∷ cs) g k =
      ap (λ (b : List ℕ). sewn first (b ++ tail) k x y) (w-cons s x y c (d ∷ cs))
      ∙ ap (λ (b : List ℕ). sewn first b k x y) (append_assoc (cmd s (op_of c.kind) (c.x -ℤ x) (c.y -ℤ y)) _ tail)
      ∙ step s (op_of c.kind) k x y c.x c.y _ g.0 g.1.0
      ∙ ap (sews_cmd (op_of c.kind) k x y c.x c.y) (round (next s (op_of c.kind)) c.x c.y (d ∷ cs) g.1.1 (block_after (op_of c.kind) k))
