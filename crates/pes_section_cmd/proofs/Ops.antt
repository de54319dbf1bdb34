-- What holds of a stitch and of a jump, and what holds of the other operations. Assumes nothing.
use mathlib.Core.Path.{◌≡◌}
use Rattle.std.proofs.Common.{◌⊎◌, inl, inr}
use Rattle.rules.specs.declared.Op.{Op}
use Rattle.rules.specs.declared.Op.TheVariants.{Stitch, Jump, Trim, ColorChange, End}

module _ (P : Op → Type 0) where
  pub either : (op : Op) → P Stitch → P Jump → (op ≡ Stitch) ⊎ (op ≡ Jump) → P op
  either op s j k = elim k [ inl e ↦ rw e s | inr e ↦ rw e j ]

  pub neither : (op : Op) → P Trim → P ColorChange → P End → (op ≡ Trim) ⊎ ((op ≡ ColorChange) ⊎ (op ≡ End)) → P op
  neither op t c e k = elim k [ inl p ↦ rw p t | inr k' ↦ elim k' [ inl p ↦ rw p c | inr p ↦ rw p e ] ]
