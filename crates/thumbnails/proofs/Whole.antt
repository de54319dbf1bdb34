-- The thumbnails of a list in a row: its scales from its bounds, the room for the blocks, and the parts joined.
use Prim.Native.Nat.{ℕ, ◌+◌, ◌≤◌}
use mathlib.Core.Path.{◌≡◌, ap, ◌∙◌}
use mathlib.Core.List.{List}
use native.Mathlib.Omega.{arith}
use lib.Ieee.{Float}
use lib.ListN.{length}
use lib.Seq.{slice, take_all}
use mir.Syntax.{w32}
use mir.Val.{SFits, to_z, of_z}
use mir.Facts.{to_z-of_z}
use Rattle.rules.specs.Charts.{blank_icon}
use Rattle.rules.specs.Lists.{min_x, min_y, max_x, max_y}
use Rattle.rules.specs.Thumbnails.{f4, f5, scale_of, drawn, icons}
use Rattle.rules.specs.declared.Cmd.{Cmd}
use Rattle.rules.specs.declared.Scale.{Scale}
use Rattle.laws.specs.Buffers.{Put, put-put, put_as}
use Rattle.geom.specs.Frames.{bounds_of}
use Rattle.geom.specs.declared.Bounds.{Bounds}
use Rattle.thumbnail_tables.specs.Blocks.{block_icons, icons_by}
use Rattle.thumbnail_scale.proofs.Joined.{scale_same}
use Rattle.laws.specs.Lengths.{length-icons}
use Rattle.thumbnails.proofs.Sizes.{blocks-long}

module _ (cs : List Cmd) where
  abbrev pub scaled : Float → Scale
  scaled = scale_of (min_x cs) (min_y cs) (max_x cs) (max_y cs)

  -- a scale worked out of the bounds as they are read back
  pub scale-is : {b : Bounds} (buffer : Float) {s : Scale} → b ≡ bounds_of cs → SFits w32 b.min.x → SFits w32 b.min.y → SFits w32 b.max.x → SFits w32 b.max.y
      → s ≡ scale_of (to_z w32 (of_z w32 b.min.x)) (to_z w32 (of_z w32 b.min.y)) (to_z w32 (of_z w32 b.max.x)) (to_z w32 (of_z w32 b.max.y)) buffer → s ≡ scaled buffer
  unfolding bounds_of
  scale-is buffer e f g f' g' =
      scale_same
      (to_z-of_z f ∙ ap (λ (b : Bounds). b.min.x) e)
      (to_z-of_z g ∙ ap (λ (b : Bounds). b.min.y) e)
      (to_z-of_z f' ∙ ap (λ (b : Bounds). b.max.x) e)
      (to_z-of_z g' ∙ ap (λ (b : Bounds). b.max.y) e)
      buffer

  -- the two parts are all of them
  pub icons-are : {s t : Scale} → s ≡ scaled f4 → t ≡ scaled f5 → icons_by s t cs ≡ icons cs
  unfolding icons block_icons
  icons-are e f = rw (e, f)

  pub icons-room : (t : Scale) (at n : ℕ) → at + length (icons cs) ≤ n → at + (228 + length (block_icons t cs)) ≤ n
  icons-room t at n h = omega (arith, blocks-long t cs, length-icons cs)

  -- after the picture of the whole there is room for those of the blocks, and the two in a row are all
  module _ {d d' icon : List ℕ} {at m : ℕ} (n : ℕ) (s t : Scale) (e : icon ≡ drawn s blank_icon (slice 0 n cs)) (p : Put d d' at m icon) where
    pub blocks-put : {d'' : List ℕ} {r : ℕ} → n ≡ length cs → Put d' d'' m r (block_icons t cs) → Put d d'' at r (icons_by s t cs)
    blocks-put k q = put_as (put-put p q) (rw (e, take_all n cs (omega arith)))
