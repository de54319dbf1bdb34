-- A file's events unfold by one record, whatever the fuel. Assumes nothing.
use Prim.Native.Nat.{ℕ, suc, ◌≤◌, ◌<◌}
use Rattle.std.specs.Prelude.{◌≡◌, refl, Bool, true, false, ℤ, drop}
use Rattle.std.proofs.Math.Path.{ap}
use Rattle.std.proofs.Common.{◌∙◌, arith}
use mathlib.Core.List.{List, [], ◌∷◌}
use Rattle.std.proofs.Math.ListN.{length, length-drop}
use Rattle.rules.specs.Vocabulary.{pick}
use Rattle.rules.specs.Records.{Event, stitch, jump, change, record_then, events}
use Rattle.rules.specs.declared.Record.{Record}
use Rattle.rules.specs.declared.Record.TheVariants.{StitchBy, JumpBy, ChangeBy, Finish}
use Rattle.laws.specs.Fuel.{fuelled-step}

-- every record but the end takes from 1 to `len` bytes
abbrev pub Within : ℕ → Record → Type 0
Within len (StitchBy dx dy n) = (0 < n) × (n ≤ len)
Within len (JumpBy dx dy n) = (0 < n) × (n ≤ len)
Within len (ChangeBy dx dy n) = (0 < n) × (n ≤ len)
Within len Finish = Unit {0}

-- the first record of any bytes lies in them
abbrev pub Inside : (List ℕ → Record) → Type 0
Inside first = (s : List ℕ) → Within (length s) (first s)

pub within-pick : (len : ℕ) (b : Bool) (r r' : Record) → Within len r → Within len r' → Within len (pick b r r')
within-pick len true r r' h h' = h
within-pick len false r r' h h' = h'

then_same : (r : Record) (len : ℕ) (go go' : ℕ → List Event) → Within len r
    → ((n : ℕ) → 0 < n → n ≤ len → go n ≡ go' n) → record_then r go ≡ record_then r go'
unfolding record_then
then_same (StitchBy dx dy n) len go go' w e = ap (λ (t : List Event). stitch dx dy ∷ t) (e n w.0 w.1)
then_same (JumpBy dx dy n) len go go' w e = ap (λ (t : List Event). jump dx dy ∷ t) (e n w.0 w.1)
then_same (ChangeBy dx dy n) len go go' w e = ap (λ (t : List Event). change dx dy ∷ t) (e n w.0 w.1)
then_same Finish len go go' w e = refl

module _ (first : List ℕ → Record) (inside : Inside first) where
  -- the events of the first record, and then those of the bytes after it
  pub events-step : (s : List ℕ) → events first s ≡ record_then (first s) (λ n. events first (drop n s))
  unfolding events
  events-step s =
      fuelled-step length (λ (go : List ℕ → List Event) (t : List ℕ). record_then (first t) (λ n. go (drop n t))) []
      (λ f g t h. then_same (first t) (length t) _ _ (inside t) (λ n l m. h (drop n t) (simp length-drop (omega arith))))
      (suc (length s)) s (omega arith)

  -- one law for each kind of first record
  pub read-stitch : (s : List ℕ) {dx dy : ℤ} {n : ℕ} → first s ≡ StitchBy dx dy n → events first s ≡ stitch dx dy ∷ events first (drop n s)
  unfolding record_then
  read-stitch s e = events-step s ∙ ap (λ (r : Record). record_then r (λ n. events first (drop n s))) e

  pub read-jump : (s : List ℕ) {dx dy : ℤ} {n : ℕ} → first s ≡ JumpBy dx dy n → events first s ≡ jump dx dy ∷ events first (drop n s)
  unfolding record_then
  read-jump s e = events-step s ∙ ap (λ (r : Record). record_then r (λ n. events first (drop n s))) e

  pub read-change : (s : List ℕ) {dx dy : ℤ} {n : ℕ} → first s ≡ ChangeBy dx dy n → events first s ≡ change dx dy ∷ events first (drop n s)
  unfolding record_then
  read-change s e = events-step s ∙ ap (λ (r : Record). record_then r (λ n. events first (drop n s))) e

  pub read-finish : (s : List ℕ) → first s ≡ Finish → events first s ≡ []
  unfolding record_then
  read-finish s e = events-step s ∙ ap (λ (r : Record). record_then r (λ n. events first (drop n s))) e
