-- The blocks from their parts, how long the parts are, the room that they have, and the places that the sections ask for. Assumes nothing.
use Prim.Native.Nat.{ℕ, ◌+◌, ◌*◌, ◌/◌, ◌≤◌}
use mathlib.Core.Path.{◌≡◌, refl, ◌∙◌}
use mathlib.Core.Bool.{false}
use mathlib.Core.List.{List, [], ◌∷◌, ◌++◌, append_assoc, append-nil}
use native.Mathlib.Omega.{arith}
use lib.IntN.{ℤ, pos}
use lib.ListN.{length, length-append}
use mir.Syntax.{w32}
use mir.Val.{SFits, to_z, of_z}
use mir.Facts.{to_z-of_z}
use Rattle.rules.specs.Vocabulary.{little, joined}
use Rattle.rules.specs.Lists.{min_x, max_y, width, height}
use Rattle.rules.specs.Pes.{pes_string, shorts, pes_start, pes_sections, section_count, color_log, pes_blocks}
use Rattle.rules.specs.Refusals.{place_outside}
use Rattle.rules.specs.declared.Cmd.{Cmd}
use Rattle.rules.specs.declared.Color.{Color}
use Rattle.laws.specs.Buffers.{Put, put_as, put-put}
use Rattle.laws.specs.Lengths.{length-matrix, length-shorts, blocks-length}
use Rattle.laws.specs.Little.{length-little}
use Rattle.laws.specs.Places.{Small, apart, every, small-min_x, small-max_y}
use Rattle.geom.specs.Frames.{bounds_of}
use Rattle.geom.specs.declared.Bounds.{Bounds}
use Rattle.pes_section_cmd.specs.States.{Near}
use Rattle.pes_sections.specs.States.{placed}
use Rattle.pes_blocks.specs.Parts.{emb_text, matrix_text, sizes_text, seg_text, frame_text, end_text}

-- ---- lengths

pub length-emb : length emb_text ≡ 25
unfolding joined pes_string shorts little
length-emb = refl

pub length_fields : (w h : ℕ) → length (matrix_text w h) ≡ 24
unfolding joined
length_fields w h = simp (length-append, length-matrix)

pub length-sizes : (w h : ℕ) → length (sizes_text w h) ≡ 18
unfolding joined shorts little
length-sizes w h = refl

length-seg : (n : ℕ) → length (seg_text n) ≡ 15
unfolding joined pes_string shorts little
length-seg n = refl

four : (a b c d : List ℕ) → length (joined (a ∷ b ∷ c ∷ d ∷ [])) ≡ length a + length b + length c + length d
unfolding joined
four a b c d = simp length-append (omega arith)

length-frame : (w h n : ℕ) → length (frame_text w h n) ≡ 82
length-frame w h n = four emb_text (matrix_text w h) (sizes_text w h) (seg_text n) ∙ omega (arith, length-emb, length_fields w h, length-sizes w h, length-seg n)

-- the log, and what it stands between
abbrev log : List Color → List Cmd → List ℕ
log ts cs = color_log ts 65 (pes_start ts) cs

module _ (n : ℕ) (ts : List Color) (cs : List Cmd) where
  length-end : length (end_text n ts cs) ≡ 6 + 2 * length (log ts cs)
  unfolding joined
  length-end = simp (length-append, length-shorts) (omega arith)

  module _ (d : List ℕ) (at : ℕ) (room : at + length (end_text n ts cs) ≤ length d) where
    module _ {d₁ : List ℕ} {k : ℕ} (p : Put d d₁ at k (little 2 n)) where
      pub room-log : k + length (shorts (log ts cs)) ≤ length d₁
      room-log = omega (arith, length-end, length-shorts (log ts cs), length-little 2 n, p.same)

      pub room-zeros : {d₂ : List ℕ} {m : ℕ} → Put d₁ d₂ k m (shorts (log ts cs)) → m + 4 ≤ length d₂
      room-zeros q = omega (arith, length-end, length-shorts (log ts cs), length-little 2 n, p.same, q.same)

-- ---- the edges, as a call passes them

module _ {b : Bounds} (cs : List Cmd) (e : b ≡ bounds_of cs) where
  pub left_is : SFits w32 b.min.x → to_z w32 (of_z w32 b.min.x) ≡ min_x cs
  unfolding bounds_of
  left_is f = to_z-of_z f ∙ rw e

  pub bottom-is : SFits w32 b.max.y → to_z w32 (of_z w32 b.max.y) ≡ max_y cs
  unfolding bounds_of
  bottom-is f = to_z-of_z f ∙ rw e

-- ---- places are near the edges

near : {left bottom : ℤ} (x y : ℤ) → Small left → Small bottom → Small x → Small y → Near left bottom x y
near {left} {bottom} x y l b p q = record { across = omega (arith, apart x left p l); up = omega (arith, apart y bottom q b) }

module _ (cs : List Cmd) (inside : place_outside cs ≡ false) {left bottom : ℤ} (l : left ≡ min_x cs) (b : bottom ≡ max_y cs) where
  small-left : Small left
  small-left = rw l (small-min_x cs inside)

  small-bottom : Small bottom
  small-bottom = rw b (small-max_y cs inside)

  pub near-start : Near left bottom (pos 0) (pos 0)
  near-start = near (pos 0) (pos 0) small-left small-bottom (omega arith) (omega arith)

  pub near-all : placed left bottom cs
  near-all i h = let p = every cs inside i h in near _ _ small-left small-bottom p.across p.down

-- ---- the blocks

module _ (cs : List Cmd) (ts : List Color) where
  module _ {w h n : ℕ} {left bottom : ℤ} (j : ℕ) (u : w ≡ width cs) (v : h ≡ height cs) (g : n ≡ section_count ts (pes_start ts) cs) (e : 2 * j ≡ length (log ts cs))
      (l : left ≡ min_x cs) (b : bottom ≡ max_y cs) where
    blocks-as : frame_text w h n ++ (pes_sections left bottom ts (pes_start ts) cs ++ end_text j ts cs) ≡ pes_blocks cs ts
    unfolding pes_blocks joined
    blocks-as =
        let half : j ≡ length (log ts cs) / 2 = omega arith in
        rw (u, v, g, half, l, b) (simp (append_assoc, append-nil))

    pub blocks-put : {d d₁ d₂ d₃ : List ℕ} {at k m r : ℕ} → Put d d₁ at k (frame_text w h n) → Put d₁ d₂ k m (pes_sections left bottom ts (pes_start ts) cs)
        → Put d₂ d₃ m r (end_text j ts cs) → Put d d₃ at r (pes_blocks cs ts)
    blocks-put p q o = put_as (put-put p (put-put q o)) blocks-as

  -- in a buffer that has room for the blocks
  module _ (d : List ℕ) (at : ℕ) (room : at + length (pes_blocks cs ts) ≤ length d) where
    pub room-frame : at + 82 ≤ length d
    room-frame = omega (arith, blocks-length cs ts)

    module _ (w h n : ℕ) {d₁ : List ℕ} {k : ℕ} (p : Put d d₁ at k (frame_text w h n)) {left bottom : ℤ} (l : left ≡ min_x cs) (b : bottom ≡ max_y cs) where
      pub room-sections : k + length (pes_sections left bottom ts (pes_start ts) cs) ≤ length d₁
      room-sections = rw (l, b) (omega (arith, blocks-length cs ts, length-frame w h n, p.same))

      pub room-end : {d₂ : List ℕ} {m : ℕ} → Put d₁ d₂ k m (pes_sections left bottom ts (pes_start ts) cs) → (j : ℕ) → m + length (end_text j ts cs) ≤ length d₂
      room-end q j = let r = rw (l, b) at q in
          omega (arith, r.ends, blocks-length cs ts, length-frame w h n, length-end j ts cs, p.same, r.same)
