-- The parts of a file as the code writes them: one text behind the other, and how long they are. Assumes nothing.
use Prim.Native.Nat.{ℕ, suc, ◌+◌, ◌-◌, ◌*◌}
use mathlib.Core.Path.{◌≡◌, refl, sym, ap, ◌∙◌}
use mathlib.Core.List.{List, [], ◌∷◌, ◌++◌, append_assoc, append-nil}
use native.Mathlib.Omega.{arith}
use lib.IntN.{ℤ, pos, neg_ℤ, ◌+ℤ◌, ◌-ℤ◌, ◌*ℤ◌}
use lib.ListN.{length, drop, length-append}
use Rattle.rules.specs.Vocabulary.{joined}
use Rattle.rules.specs.Lists.{width, height}
use Rattle.rules.specs.Thumbnails.{color_blocks}
use Rattle.rules.specs.Vp3.{big, toward_zero, sized, text8, text16, vp3_opening, producer, hex_text, color_text, end_x, end_y, stitches_from, hundred}
use Rattle.rules.specs.Vp3.{color_part, or_black, color_parts, design_part, file_part, vp3_file}
use Rattle.rules.specs.declared.Cmd.{Cmd}
use Rattle.rules.specs.declared.Color.{Color}
use Rattle.geom.specs.declared.Bounds.{Bounds}
use Rattle.geom.specs.Frames.{bounds_of}
use Rattle.laws.specs.Vp3Lengths.{length-hundred}
use Rattle.laws.specs.Vp3Reading.{length-big}
use Rattle.vp3.specs.declared.heads.Middle.{Middle}
use Rattle.vp3.specs.declared.heads.Way.{Way}
use Rattle.vp3.specs.Heads.{opening_text, sizes_text, halves_text, design_text, color_bytes, block_text, head_text}
use Rattle.vp3.specs.Blocks.{lens_of, sum}

abbrev pub centre : ℤ → ℤ → Middle
centre mx my = record { x = mx; y = my }

-- ---- lengths

length-empty : length (text16 []) ≡ 2
unfolding text16 text8 joined big
length-empty = refl

length-producer : length (text16 producer) ≡ 58
unfolding text16 text8 producer joined big
length-producer = refl

length-color : (c : Color) → length (color_bytes c) ≡ 23
unfolding color_bytes color_text hex_text text8 joined big
length-color c = refl

pub length-opening : (n : ℕ) → length (opening_text n) ≡ 71
unfolding opening_text vp3_opening joined
length-opening n = simp (length-append, length-producer, length-big)

pub length-sizes : (b : Bounds) (m k n : ℕ) → length (sizes_text b m k n) ≡ 34
unfolding sizes_text joined
length-sizes b m k n = simp (length-append, length-empty, length-hundred, length-big)

length-halves : (w h : ℕ) → length (halves_text w h) ≡ 24
unfolding halves_text joined
length-halves w h = simp (length-append, length-hundred)

pub length-design : (b : Bounds) (m : Middle) (k : ℕ) → length (design_text b m k) ≡ 121
unfolding design_text joined
length-design b m k = simp (length-append, length-hundred, length-halves, length-empty, length-producer, length-big)

pub length-block : (m : Middle) (w : Way) (c : Color) → length (block_text m w c) ≡ 56
unfolding block_text joined
length-block m w c = simp (length-append, length-hundred, length-color, length-big)

pub length-head : (b : Bounds) (n m k : ℕ) → length (head_text b n m k) ≡ 226
unfolding head_text
length-head b n m k = simp (length-append, length-opening, length-sizes, length-design)

-- by the coordinates of the centre
pub design-as : (b : Bounds) (m : Middle) (k : ℕ) {x y : ℤ} → m.x ≡ x → m.y ≡ y → design_text b m k ≡ design_text b (centre x y) k
design-as b m k e f = rw (← e, ← f)

-- ---- a colour block

abbrev pub way_of : ℤ → ℤ → List Cmd → Way
way_of x y b = record { x = x; y = y; to_x = end_x x b; to_y = end_y y b; len = length (stitches_from x y b) }

module _ (mx my x y : ℤ) (c : Color) (b : List Cmd) where
  abbrev stitches : List ℕ
  stitches = stitches_from x y b

  -- what stands between the length and the stitches
  abbrev front : List ℕ
  front = joined
      (hundred (toward_zero (pos 2 *ℤ x -ℤ mx) 2)
      ∷ hundred (neg_ℤ (toward_zero (pos 2 *ℤ y -ℤ my) 2))
      ∷ color_bytes c
      ∷ hundred (end_x x b -ℤ x)
      ∷ hundred (neg_ℤ (end_y y b -ℤ y))
      ∷ (0x00 ∷ 0x01 ∷ 0x00 ∷ [])
      ∷ big 4 (length stitches + 3)
      ∷ (0x0A ∷ 0xF6 ∷ 0x00 ∷ [])
      ∷ [])

  three : suc (suc (suc (length stitches))) ≡ length stitches + 3
  three = omega arith

  part-text : color_part mx my x y c b ≡ front ++ (stitches ++ 0x00 ∷ [])
  unfolding color_part color_bytes joined sized
  part-text = rw three (simp (append_assoc, append-nil))

  length_front : length front ≡ 49
  unfolding joined
  length_front = simp (length-append, length-hundred, length-color, length-big)

  length_part : length (color_part mx my x y c b) ≡ length stitches + 50
  length_part =
      ap length part-text ∙ length-append front (stitches ++ 0x00 ∷ []) ∙ omega (arith, length_front, length-append stitches (0x00 ∷ []))

  block-front : block_text (centre mx my) (way_of x y b) c ≡ (0x00 ∷ 0x05 ∷ 0x00 ∷ []) ++ (big 4 (length stitches + 50) ++ front)
  unfolding block_text joined
  block-front = refl

  block-text : (0x00 ∷ 0x05 ∷ 0x00 ∷ []) ++ sized (color_part mx my x y c b) ≡ block_text (centre mx my) (way_of x y b) c ++ (stitches ++ 0x00 ∷ [])
  unfolding sized
  block-text = rw (length_part, part-text, block-front) (simp append_assoc)

  pub parts_more : (threads : List Color) (bs : List (List Cmd)) → c ≡ or_black threads
      → color_parts mx my x y threads (b ∷ bs)
      ≡ (block_text (centre mx my) (way_of x y b) c ++ stitches ++ 0x00 ∷ []) ++ color_parts mx my (end_x x b) (end_y y b) (drop 1 threads) bs
  unfolding color_parts
  parts_more threads bs e =
      let text : List ℕ = block_text (centre mx my) (way_of x y b) c in
      rw (← e) (ap (λ (l : List ℕ). l ++ color_parts mx my (end_x x b) (end_y y b) (drop 1 threads) bs) (block-text ∙ sym (append_assoc text stitches (0x00 ∷ []))))

pub length-text : (m : Middle) (w : Way) (c : Color) (s : List ℕ) → length (block_text m w c ++ s ++ 0x00 ∷ []) ≡ 57 + length s
length-text m w c s = simp (length-append, length-block) (omega arith)

pub parts_none : (mx my x y : ℤ) (threads : List Color) → color_parts mx my x y threads [] ≡ []
unfolding color_parts
parts_none mx my x y threads = refl

pub length-parts : (mx my x y : ℤ) (threads : List Color) (bs : List (List Cmd)) → length (color_parts mx my x y threads bs) ≡ 57 * length bs + sum (lens_of x y bs)
unfolding sum lens_of
length-parts mx my x y threads [] = ap length (parts_none mx my x y threads)
length-parts mx my x y threads (b ∷ bs) =
    let c : Color = or_black threads in
    let block : List ℕ = block_text (centre mx my) (way_of x y b) c ++ stitches_from x y b ++ 0x00 ∷ [] in
    let behind : List ℕ = color_parts mx my (end_x x b) (end_y y b) (drop 1 threads) bs in
    ap length (parts_more mx my x y c b threads bs refl)
    ∙ length-append block behind
    ∙ omega (arith, length-text (centre mx my) (way_of x y b) c (stitches_from x y b), length-parts mx my (end_x x b) (end_y y b) (drop 1 threads) bs)

-- ---- the file

module _ (cs : List Cmd) (threads : List Color) where
  abbrev pub bounds : Bounds
  bounds = bounds_of cs

  abbrev pub middle_of : Middle
  middle_of = record { x = bounds.max.x +ℤ bounds.min.x; y = bounds.max.y +ℤ bounds.min.y }

  abbrev pub blocks : ℕ
  blocks = length (color_blocks cs)

  abbrev pub parts : List ℕ
  parts = color_parts middle_of.x middle_of.y (pos 0) (pos 0) threads (color_blocks cs)

  design_text_lem : design_part cs threads ≡ design_text bounds middle_of blocks ++ parts
  unfolding design_part design_text halves_text joined bounds_of width height
  design_text_lem = simp (append_assoc, append-nil)

  length-design_part : length (design_part cs threads) ≡ 121 + length parts
  length-design_part = ap length design_text_lem ∙ length-append (design_text bounds middle_of blocks) parts ∙ omega (arith, length-design bounds middle_of blocks)

  file-text : file_part cs threads ≡ sizes_text bounds (length cs - 1) blocks (length (design_part cs threads)) ++ design_part cs threads
  unfolding file_part sizes_text sized joined bounds_of
  file-text = simp (append_assoc, append-nil)

  length-file_part : length (file_part cs threads) ≡ 155 + length parts
  length-file_part =
      let sizes : List ℕ = sizes_text bounds (length cs - 1) blocks (length (design_part cs threads)) in
      ap length file-text
      ∙ length-append sizes (design_part cs threads)
      ∙ omega (arith, length-sizes bounds (length cs - 1) blocks (length (design_part cs threads)), length-design_part)

  whole-text : vp3_file cs threads ≡ opening_text (length (file_part cs threads)) ++ file_part cs threads
  unfolding vp3_file opening_text sized joined
  whole-text = simp (append_assoc, append-nil)

  pub length-file : length (vp3_file cs threads) ≡ 226 + length parts
  length-file =
      ap length whole-text
      ∙ length-append (opening_text (length (file_part cs threads))) (file_part cs threads)
      ∙ omega (arith, length-opening (length (file_part cs threads)), length-file_part)

  pub file-is : {n : ℕ} → n ≡ 226 + length parts → head_text bounds n (length cs) blocks ++ parts ≡ vp3_file cs threads
  unfolding head_text
  file-is {n} e =
      let p : n - 71 ≡ length (file_part cs threads) = omega (arith, length-file_part) in
      let q : n - 105 ≡ length (design_part cs threads) = omega (arith, length-design_part) in
      rw (p, q) (simp append_assoc (sym (whole-text ∙ rw (file-text, design_text_lem))))
