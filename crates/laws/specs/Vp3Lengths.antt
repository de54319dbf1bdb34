-- VP3: how long the parts of a file are. Assumes nothing.
use Rattle.std.specs.Prelude.{◌≡◌, refl, ◌&&◌, List, [], ◌∷◌, map, ℕ, suc, ◌+◌, ◌*◌, ◌≤◌, min, ℤ, pos, neg_ℤ, ◌-ℤ◌, ◌*ℤ◌, length, drop}
use Rattle.std.proofs.Common.{◌∙◌, arith, length-append}
use Rattle.rules.specs.Vocabulary.{between, count, bits_of, joined}
use Rattle.rules.specs.Lists.{op_of, is_change}
use Rattle.rules.specs.Refusals.{changes}
use Rattle.rules.specs.Thumbnails.{at_front, color_blocks}
use Rattle.rules.specs.Vp3.{big, field, sized, text8, text16, vp3_opening, producer, hex_text, color_text, end_x, end_y}
use Rattle.rules.specs.Vp3.{stitch_of, vp3_cmd, last_stitch, stitches_from, hundred, color_part, color_parts, design_part, file_part, vp3_file}
use Rattle.rules.specs.declared.Cmd.{Cmd}
use Rattle.rules.specs.declared.Color.{Color}
use Rattle.rules.specs.declared.Op.{Op}
use Rattle.rules.specs.declared.Op.TheVariants.{Stitch, Jump, Trim, ColorChange, End}
use Rattle.laws.specs.Tests.{by-test}
use Rattle.laws.specs.Lengths.{length-blocks}
use Rattle.laws.specs.Listing.{count-le}
use Rattle.laws.specs.Vp3Reading.{length-big}

-- ---- how long the parts are

pub length-field : (z : ℤ) → length (field z) ≡ 4
unfolding field
length-field z = length-big 4 (bits_of 31 z)

pub length-hundred : (z : ℤ) → length (hundred z) ≡ 4
unfolding hundred
length-hundred z = length-field (z *ℤ pos 100)

pub length-sized : (p : List ℕ) → length (sized p) ≡ 4 + length p
unfolding sized
length-sized p = length-append (big 4 (length p)) p ∙ omega (arith, length-big 4 (length p))

pub length-text8 : (s : List ℕ) → length (text8 s) ≡ 2 + length s
unfolding text8
length-text8 s = length-append (big 2 (length s)) s ∙ omega (arith, length-big 2 (length s))

-- a text in UTF-16
abbrev pub wide : List ℕ → List ℕ
wide s = joined (map (λ (b : ℕ). 0x00 ∷ b ∷ []) s)

pub length-wide : (s : List ℕ) → length (wide s) ≡ 2 * length s
unfolding joined
length-wide [] = refl
length-wide (b ∷ s) = omega (arith, length-wide s)

pub length-text16 : (s : List ℕ) → length (text16 s) ≡ 2 + 2 * length s
unfolding text16
length-text16 s = length-text8 (wide s) ∙ omega (arith, length-wide s)

pub length-producer : length producer ≡ 28
unfolding producer
length-producer = refl

pub length-color_text : (c : Color) → length (color_text c) ≡ 7
unfolding color_text hex_text
length-color_text c = refl

pub length-color_part : (mx my x y : ℤ) (c : Color) (b : List Cmd) → length (color_part mx my x y c b) ≡ 50 + length (stitches_from x y b)
unfolding color_part joined
length-color_part mx my x y c b = simp (length-append, length-hundred, length-text8, length-color_text, length-sized) (omega arith)

-- the bytes of the stitches of blocks, the first from (x, y)
unfoldable pub stitch_bytes : ℤ → ℤ → List (List Cmd) → ℕ
stitch_bytes x y [] = 0
stitch_bytes x y (b ∷ bs) = length (stitches_from x y b) + stitch_bytes (end_x x b) (end_y y b) bs

pub length-color_parts : (mx my x y : ℤ) (threads : List Color) (bs : List (List Cmd))
    → length (color_parts mx my x y threads bs) ≡ 57 * length bs + stitch_bytes x y bs
unfolding color_parts stitch_bytes
length-color_parts mx my x y threads [] = refl
length-color_parts mx my x y threads (b ∷ bs) =
    simp (length-append, length-sized, length-color_part, length-color_parts mx my (end_x x b) (end_y y b) (drop 1 threads) bs) (omega arith)

abbrev pub all_stitches : List Cmd → ℕ
all_stitches cs = stitch_bytes (pos 0) (pos 0) (color_blocks cs)

module _ (cs : List Cmd) (threads : List Color) where
  pub length-design_part : length (design_part cs threads) ≡ 121 + (57 * length (color_blocks cs) + all_stitches cs)
  unfolding design_part joined
  length-design_part = simp (length-append, length-hundred, length-text16, length-producer, length-big, length-color_parts) (omega arith)

  pub length-file_part : length (file_part cs threads) ≡ 155 + (57 * length (color_blocks cs) + all_stitches cs)
  unfolding file_part joined
  length-file_part = simp (length-append, length-hundred, length-text16, length-big, length-sized, length-design_part) (omega arith)

  pub length-vp3 : length (vp3_file cs threads) ≡ 226 + (57 * length (color_blocks cs) + all_stitches cs)
  unfolding vp3_file vp3_opening joined
  length-vp3 = simp (length-append, length-text16, length-producer, length-sized, length-file_part) (omega arith)

-- ---- how long they can be

-- the commands of blocks
unfoldable pub commands_in : List (List Cmd) → ℕ
commands_in [] = 0
commands_in (b ∷ bs) = length b + commands_in bs

onto-commands : (c : Cmd) (bs : List (List Cmd)) → commands_in (at_front c bs) ≡ suc (commands_in bs)
unfolding at_front commands_in
onto-commands c [] = refl
onto-commands c (b ∷ bs) = omega arith

pub blocks-commands : (cs : List Cmd) → commands_in (color_blocks cs) ≤ length cs
unfolding color_blocks commands_in
blocks-commands [] = omega arith
blocks-commands (c ∷ cs) = by-test (is_change (op_of c.kind))
    (λ t. rw t (omega (arith, blocks-commands cs)))
    (λ t. rw (t, onto-commands c (color_blocks cs)) (omega (arith, blocks-commands cs)))

stitch_of-length : (dx dy : ℤ) → length (stitch_of dx dy) ≤ 8
unfolding stitch_of
stitch_of-length dx dy = by-test (between (neg_ℤ (pos 127)) (pos 127) dx && between (neg_ℤ (pos 127)) (pos 127) dy)
    (λ t. rw t (omega arith))
    (λ t. rw t (simp (length-append, length-big) (omega arith)))

cmd-length : (op : Op) (dx dy : ℤ) → length (vp3_cmd op dx dy) ≤ 8
unfolding vp3_cmd
cmd-length Stitch dx dy = stitch_of-length dx dy
cmd-length Jump dx dy = omega arith
cmd-length Trim dx dy = omega arith
cmd-length ColorChange dx dy = omega arith
cmd-length End dx dy = omega arith

pub stitches-length : (x y : ℤ) (b : List Cmd) → length (stitches_from x y b) ≤ 8 * length b
unfolding stitches_from
stitches-length x y [] = omega arith
stitches-length x y (c ∷ cs) =
    let op : Op = op_of c.kind in
    simp length-append (omega (arith, cmd-length op (c.x -ℤ x) (c.y -ℤ y), stitches-length (last_stitch op x c.x) (last_stitch op y c.y) cs))

bytes-length : (x y : ℤ) (bs : List (List Cmd)) → stitch_bytes x y bs ≤ 8 * commands_in bs
unfolding stitch_bytes commands_in
bytes-length x y [] = omega arith
bytes-length x y (b ∷ bs) = omega (arith, stitches-length x y b, bytes-length (end_x x b) (end_y y b) bs)

pub most-stitches : (cs : List Cmd) → all_stitches cs ≤ 8 * length cs
most-stitches cs = omega (arith, bytes-length (pos 0) (pos 0) (color_blocks cs), blocks-commands cs)

pub most-vp3 : (cs : List Cmd) (threads : List Color) → count changes cs ≤ 254 → length (vp3_file cs threads) ≤ 283 + 8 * length cs + 57 * min (length cs) 254
most-vp3 cs threads h = omega (arith, length-vp3 cs threads, length-blocks cs, count-le changes cs, most-stitches cs)
