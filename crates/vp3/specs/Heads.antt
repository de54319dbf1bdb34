-- What stands before the stitches, as the code has it: lengths are given.
use Rattle.std.specs.Prelude.{ℕ, ◌+◌, ◌-◌, ◌/◌, ◌≤◌, List, [], ◌∷◌, ◌++◌, pos, neg_ℤ, nat_abs, ◌+ℤ◌, ◌-ℤ◌, ◌*ℤ◌}
use Rattle.rules.specs.Vocabulary.{joined}
use Rattle.rules.specs.Vp3.{big, toward_zero, text8, text16, vp3_opening, producer, color_text, hundred}
use Rattle.rules.specs.declared.Color.{Color}
use Rattle.geom.specs.declared.Bounds.{Bounds}
use Rattle.vp3.specs.declared.heads.Middle.{Middle}
use Rattle.vp3.specs.declared.heads.Way.{Way}

-- places in the range
pub record Near (b : Bounds) : Type 0 where
  pub left : nat_abs b.min.x ≤ 16000
  pub right : nat_abs b.max.x ≤ 16000
  pub top : nat_abs b.min.y ≤ 16000
  pub bottom : nat_abs b.max.y ≤ 16000

pub record Wide (m : Middle) : Type 0 where
  pub x : nat_abs m.x ≤ 32000
  pub y : nat_abs m.y ≤ 32000

pub record NearWay (w : Way) : Type 0 where
  pub x : nat_abs w.x ≤ 16000
  pub y : nat_abs w.y ≤ 16000
  pub to_x : nat_abs w.to_x ≤ 16000
  pub to_y : nat_abs w.to_y ≤ 16000
  pub len : w.len ≤ 1000000

unfoldable pub opening_text : ℕ → List ℕ
opening_text len = joined (vp3_opening ∷ text16 producer ∷ (0x00 ∷ 0x02 ∷ 0x00 ∷ []) ∷ big 4 len ∷ [])

unfoldable pub sizes_text : Bounds → ℕ → ℕ → ℕ → List ℕ
sizes_text b commands blocks len = joined
    (text16 []
    ∷ hundred b.max.x
    ∷ hundred (neg_ℤ b.min.y)
    ∷ hundred b.min.x
    ∷ hundred (neg_ℤ b.max.y)
    ∷ big 4 commands
    ∷ (0x00 ∷ blocks ∷ 0x0C ∷ 0x00 ∷ 0x01 ∷ [])
    ∷ (0x00 ∷ 0x03 ∷ 0x00 ∷ [])
    ∷ big 4 len
    ∷ [])

unfoldable pub halves_text : ℕ → ℕ → List ℕ
halves_text w h = joined
    (hundred (neg_ℤ (pos (w / 2)))
    ∷ hundred (pos (w / 2))
    ∷ hundred (neg_ℤ (pos (h / 2)))
    ∷ hundred (pos (h / 2))
    ∷ hundred (pos w)
    ∷ hundred (pos h)
    ∷ [])

unfoldable pub design_text : Bounds → Middle → ℕ → List ℕ
design_text b m blocks = joined
    (hundred (toward_zero m.x 2)
    ∷ hundred (neg_ℤ (toward_zero m.y 2))
    ∷ (0x00 ∷ 0x00 ∷ 0x00 ∷ [])
    ∷ halves_text (nat_abs (b.max.x -ℤ b.min.x)) (nat_abs (b.max.y -ℤ b.min.y))
    ∷ text16 []
    ∷ (0x64 ∷ 0x64 ∷ [])
    ∷ big 4 4096
    ∷ big 4 0
    ∷ big 4 0
    ∷ big 4 4096
    ∷ (0x78 ∷ 0x78 ∷ 0x50 ∷ 0x50 ∷ 0x01 ∷ 0x00 ∷ [])
    ∷ text16 producer
    ∷ big 2 blocks
    ∷ [])

unfoldable pub color_bytes : Color → List ℕ
color_bytes c = joined
    ((0x01 ∷ 0x00 ∷ c.0 ∷ c.1 ∷ c.2 ∷ 0x00 ∷ 0x00 ∷ 0x00 ∷ 0x05 ∷ 0x28 ∷ [])
    ∷ text8 []
    ∷ text8 (color_text c)
    ∷ text8 []
    ∷ [])

unfoldable pub block_text : Middle → Way → Color → List ℕ
block_text m w c = joined
    ((0x00 ∷ 0x05 ∷ 0x00 ∷ [])
    ∷ big 4 (w.len + 50)
    ∷ hundred (toward_zero (pos 2 *ℤ w.x -ℤ m.x) 2)
    ∷ hundred (neg_ℤ (toward_zero (pos 2 *ℤ w.y -ℤ m.y) 2))
    ∷ color_bytes c
    ∷ hundred (w.to_x -ℤ w.x)
    ∷ hundred (neg_ℤ (w.to_y -ℤ w.y))
    ∷ (0x00 ∷ 0x01 ∷ 0x00 ∷ [])
    ∷ big 4 (w.len + 3)
    ∷ (0x0A ∷ 0xF6 ∷ 0x00 ∷ [])
    ∷ [])

-- all that stands before the colour blocks of a file of n bytes
unfoldable pub head_text : Bounds → ℕ → ℕ → ℕ → List ℕ
head_text b n commands blocks =
    opening_text (n - 71)
    ++ sizes_text b (commands - 1) blocks (n - 105)
    ++ design_text b (record { x = b.max.x +ℤ b.min.x; y = b.max.y +ℤ b.min.y }) blocks
