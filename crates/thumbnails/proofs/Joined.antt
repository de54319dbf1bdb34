-- What the calls of a function ensure, joined to what the function ensures. A call is handed a signed number as it is read back, so each
-- comes with its equation.
use Prim.Native.Nat.{ℕ}
use mathlib.Core.Path.{◌≡◌, sym, ◌∙◌}
use mathlib.Core.Bool.{Bool, true}
use mathlib.Core.List.{List}
use lib.IntN.{ℤ}
use lib.Ieee.{Float}
use Rattle.rules.specs.Thumbnails.{floor_of, within, pixel, painted}
use Rattle.rules.specs.declared.Scale.{Scale}
use Rattle.thumbnail_scale.specs.Places.{scaled_at}
use Rattle.thumbnails.specs.Cells.{is_in, Covers, Seen}
use Rattle.thumbnails.specs.declared.Cell.{Cell}
use Rattle.thumbnails.proofs.Cells.{seen-new}

module _ (s : Scale) (icon : List ℕ) {x y a b : ℤ} (ex : a ≡ x) (ey : b ≡ y) (c : Cell) {p q : Float} (ep : p ≡ scaled_at a s.scale s.tx) (eq : q ≡ scaled_at b s.scale s.ty) where
  -- in the cell painted last
  pub paint-seen : {t : Bool} → t ≡ is_in c p q → t ≡ true → Seen c icon → icon ≡ painted s icon x y
  unfolding painted
  paint-seen et h k = sym (simp (ep, eq, ex, ey) at (k p q (sym et ∙ h)))

  -- anywhere else
  pub paint-joined : {m n : ℕ} {r : List ℕ} → m ≡ within (floor_of p) → n ≡ within (floor_of q) → r ≡ pixel icon m n → Covers c m n → (r ≡ painted s icon x y) × Seen c r
  unfolding painted
  paint-joined {m} {n} em en er k = (simp (er, em, en, ep, eq, ex, ey), rw er (seen-new c icon m n k))
