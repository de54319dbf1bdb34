-- What the calls of a function ensure, joined to what the function ensures. A call is handed a signed number as it is read back, so each
-- comes with its equation.
use Rattle.std.proofs.Common.{◌≡◌, ℤ}
use lib.Ieee.{Float, binary64, sub, div}
use Rattle.rules.specs.Thumbnails.{f19, f24, f38, f48, at_least_one, lesser, span_of, middle, scale_by, offset, scale_of}
use Rattle.rules.specs.declared.Scale.{Scale}

module _ {x y x' y' a b a' b' : ℤ} (ex : a ≡ x) (ey : b ≡ y) (ex' : a' ≡ x') (ey' : b' ≡ y') where
  pub scale-joined : {u v w h r : Float} (buffer : Float) → u ≡ span_of a a' → w ≡ at_least_one u → v ≡ span_of b b' → h ≡ at_least_one v
      → r ≡ lesser (div binary64 (sub binary64 f48 buffer) w) (div binary64 (sub binary64 f38 buffer) h) → r ≡ scale_by x y x' y' buffer
  scale-joined buffer eu ew ev eh er = simp (er, ew, eh, eu, ev, ex, ey, ex', ey')

  pub parts-joined : {s u v p q : Float} (buffer : Float) → s ≡ scale_by a b a' b' buffer → u ≡ middle a a' → p ≡ offset u s f24 → v ≡ middle b b' → q ≡ offset v s f19
      → ◌≡◌ {A = Scale} (record { scale = s; tx = p; ty = q }) (scale_of x y x' y' buffer)
  parts-joined buffer es eu ep ev eq = simp (ep, eq, eu, ev, es, ex, ey, ex', ey')

  pub scale_same : {s : Scale} (buffer : Float) → s ≡ scale_of a b a' b' buffer → s ≡ scale_of x y x' y' buffer
  scale_same buffer es = simp (es, ex, ey, ex', ey')
