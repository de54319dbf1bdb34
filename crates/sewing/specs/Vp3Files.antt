-- VP3: a file is read back as the blocks of its list. Assumes nothing.
use Rattle.std.specs.Prelude.{◌≡◌, true, false, not, ℤ, pos, negsuc, neg_ℤ, nat_abs, ◌+ℤ◌, ◌-ℤ◌, ◌*ℤ◌, drop, Ok}
use Rattle.std.proofs.Math.Path.{refl, ap}
use Rattle.std.proofs.Common.{◌∙◌, arith, le-ltb}
use mathlib.Core.List.{List, [], ◌∷◌, ◌++◌, append_assoc}
use Prim.Native.Nat.{ℕ, zero, suc, ◌-◌, ◌*◌, ◌/◌, ◌^◌, ◌≤◌, ◌<◌}
use Rattle.std.proofs.Math.ListN.{length, length-append}
use Rattle.std.proofs.Math.Seq.{take_at, drop_at}
use Rattle.std.specs.Int.Signed.{le_z}
use Rattle.rules.specs.Vocabulary.{between, any, count, signed, bits_of, joined}
use Rattle.rules.specs.Lists.{op_of, is_change, width, height, min_x, min_y, max_x, max_y}
use Rattle.rules.specs.Refusals.{outside, place_outside, changes}
use Rattle.rules.specs.Thumbnails.{at_front, color_blocks}
use Rattle.rules.specs.Vp3.{big, from_big, toward_zero, field, sized, text8, text16, vp3_opening, producer, color_text, end_x, end_y}
use Rattle.rules.specs.Vp3.{stitches_from, hundred, color_part, or_black, color_parts, design_part, file_part, vp3_file}
use Rattle.rules.specs.Vp3.{Blocks, ended, block, fixed, skip, inside, part, text, beyond, starts, shift, stitch_part, shifts, color_of, in_color_part, blocks_from}
use Rattle.rules.specs.Vp3.{in_design_part, in_file_part, vp3_blocks}
use Rattle.rules.specs.declared.Cmd.{Cmd}
use Rattle.rules.specs.declared.Color.{Color}
use Rattle.laws.specs.Tests.{pick-both, or-no-left, or-no-right, and-true}
use Rattle.laws.specs.Ints.{ints, abs_is, abs_neg, neg-law, add-law, sub-law, mul-law, true-le}
use Rattle.laws.specs.Twos.{signed-bits, bits-lt}
use Rattle.laws.specs.Lengths.{joined-append, length-blocks}
use Rattle.laws.specs.Vp3Lengths.{length-hundred, wide, length-wide, length-producer, length-color_text}
use Rattle.laws.specs.Vp3Lengths.{length-color_part, length-design_part, length-file_part, commands_in, blocks-commands, stitches-length, most-stitches}
use Rattle.laws.specs.Places as places
use Rattle.laws.specs.Vp3Reading.{length-big, from-big-small}

-- ---- fields, read back

module _ (f rest : List ℕ) where
  pub fixed-at : (n : ℕ) (go : List ℕ → List ℕ → Blocks) → length f ≡ n → fixed n go (f ++ rest) ≡ go f rest
  unfolding fixed
  fixed-at n go e = rw (le-ltb (length (f ++ rest)) n (omega (arith, length-append f rest)), take_at f rest n e, drop_at f rest n e)

  pub skip_at : (n : ℕ) (go : List ℕ → Blocks) → length f ≡ n → skip n go (f ++ rest) ≡ go rest
  unfolding skip
  skip_at n go e = fixed-at n (λ f. go) e

  pub inside-at : (go : List ℕ → List ℕ → Blocks) → inside (length f) go (f ++ rest) ≡ go f rest
  unfolding inside
  inside-at go = rw (le-ltb (length (f ++ rest)) (length f) (omega (arith, length-append f rest)), take_at f rest (length f) refl, drop_at f rest (length f) refl)

-- behind its length in n bytes
module _ (p rest : List ℕ) where
  pub part_at : (n : ℕ) (go : List ℕ → List ℕ → Blocks) → length p < 256 ^ n → part n go (big n (length p) ++ p ++ rest) ≡ go p rest
  unfolding part
  part_at n go h =
      ap (fixed n (λ f. inside (from_big f) go)) (append_assoc (big n (length p)) p rest)
      ∙ fixed-at (big n (length p)) (p ++ rest) n (λ f. inside (from_big f) go) (length-big n (length p))
      ∙ ap (λ (m : ℕ). inside m go (p ++ rest)) (from-big-small n (length p) h)
      ∙ inside-at p rest go

  pub sized-at : (go : List ℕ → List ℕ → Blocks) → length p < 256 ^ 4 → part 4 go (sized p ++ rest) ≡ go p rest
  unfolding sized
  sized-at go h = part_at 4 go h

  pub text_at : (go : List ℕ → Blocks) → length p < 256 ^ 2 → text go (text8 p ++ rest) ≡ go rest
  unfolding text text8
  text_at go h = part_at 2 (λ t. go) h

pub text16-at : (s rest : List ℕ) (go : List ℕ → Blocks) → 2 * length s < 256 ^ 2 → text go (text16 s ++ rest) ≡ go rest
unfolding text16
text16-at s rest go h = text_at (wide s) rest go (omega (arith, length-wide s))

-- ---- places

-- every command of a list, and of blocks, is in the range of places
abbrev pub Placed : List Cmd → Type 0
Placed [] = Unit {0}
Placed (c ∷ cs) = places.Within c × Placed cs

abbrev pub AllPlaced : List (List Cmd) → Type 0
AllPlaced [] = Unit {0}
AllPlaced (b ∷ bs) = Placed b × AllPlaced bs

pub all_placed : (cs : List Cmd) → place_outside cs ≡ false → Placed cs
unfolding place_outside any
all_placed [] e = tt
all_placed (c ∷ cs) e = (places.inside c (or-no-left (outside c) (place_outside cs) e), all_placed cs (or-no-right (outside c) (place_outside cs) e))

onto-placed : (c : Cmd) (bs : List (List Cmd)) → places.Within c → AllPlaced bs → AllPlaced (at_front c bs)
unfolding at_front
onto-placed c [] w h = ((w, tt), tt)
onto-placed c (b ∷ bs) w h = ((w, h.0), h.1)

pub blocks-placed : (cs : List Cmd) → Placed cs → AllPlaced (color_blocks cs)
unfolding color_blocks
blocks-placed [] h = (tt, tt)
blocks-placed (c ∷ cs) h = pick-both AllPlaced (is_change (op_of c.kind)) (tt, blocks-placed cs h.1) (onto-placed c (color_blocks cs) h.0 (blocks-placed cs h.1))

pub end_x-small : (x : ℤ) (b : List Cmd) → places.Small x → Placed b → places.Small (end_x x b)
unfolding end_x
end_x-small x [] s h = s
end_x-small x (c ∷ cs) s h = end_x-small c.x cs h.0.across h.1

pub end_y-small : (y : ℤ) (b : List Cmd) → places.Small y → Placed b → places.Small (end_y y b)
unfolding end_y
end_y-small y [] s h = s
end_y-small y (c ∷ cs) s h = end_y-small c.y cs h.0.down h.1

pub not_beyond : (z : ℤ) → nat_abs z < 2147483648 → beyond z ≡ false
unfolding beyond between
not_beyond z h =
    let a : le_z (negsuc 2147483647) z ≡ true = true-le (negsuc 2147483647) z (omega (arith, abs_is z)) in
    let b : le_z z (pos 2147483647) ≡ true = true-le z (pos 2147483647) (omega (arith, abs_is z)) in
    ap not (and-true (le_z (negsuc 2147483647) z) (le_z z (pos 2147483647)) a b)

starts-small : (n : ℕ) (z : ℤ) (bs : Blocks) → places.Small z → starts n z bs ≡ bs
unfolding starts
starts-small zero z bs h = refl
starts-small (suc n) z bs h = rw (not_beyond z (omega arith))

-- ---- the shift field

toward-neg : (a : ℕ) → toward_zero (neg_ℤ (pos a)) 100 ≡ neg_ℤ (pos (a / 100))
unfolding toward_zero
toward-neg zero = refl
toward-neg (suc a) = refl

toward-hundred : (z : ℤ) → toward_zero (z *ℤ pos 100) 100 ≡ z
unfolding toward_zero
toward-hundred (pos n) = ap pos (omega arith)
toward-hundred (negsuc n) = toward-neg (suc n * 100) ∙ ap (λ (m : ℕ). neg_ℤ (pos m)) (let e : suc n * 100 / 100 ≡ suc n = omega arith in e)

shift-hundred : (z : ℤ) → nat_abs z ≤ 32000 → shift (hundred z) ≡ z
unfolding shift hundred field
shift-hundred z h =
    ap (λ (v : ℕ). toward_zero (signed 31 v) 100) (from-big-small 4 (bits_of 31 (z *ℤ pos 100)) (bits-lt 31 (z *ℤ pos 100)))
    ∙ ap (λ (v : ℤ). toward_zero v 100) (signed-bits 31 (z *ℤ pos 100) (omega (ints, abs_is z, mul-law z 100)))
    ∙ toward-hundred z

-- ---- parts, read back

-- where the shift leads
pub there : (x z : ℤ) → x +ℤ (z -ℤ x) ≡ z
there x z = omega (ints, sub-law z x, add-law x (z -ℤ x))

back : (y z : ℤ) → y -ℤ neg_ℤ (z -ℤ y) ≡ z
back y z = omega (ints, sub-law z y, neg-law (z -ℤ y), sub-law y (neg_ℤ (z -ℤ y)))

abs-back : (y z : ℤ) → places.Small y → places.Small z → nat_abs (neg_ℤ (z -ℤ y)) ≤ 32000
abs-back y z s h = omega (arith, abs_neg (z -ℤ y), places.apart z y h s)

-- the blocks that a list's blocks are read as, the first from (x, y)
unfoldable pub as_read : ℤ → ℤ → List Color → List (List Cmd) → Blocks
as_read x y threads [] = ended (Ok tt)
as_read x y threads (b ∷ bs) = block x y (or_black threads) (stitches_from x y b) (as_read (end_x x b) (end_y y b) (drop 1 threads) bs)

module _ (x y : ℤ) (c : Color) (b : List Cmd) (few : length b ≤ 65535) where
  abbrev stitch_block : List ℕ
  stitch_block = 0x0A ∷ 0xF6 ∷ 0x00 ∷ stitches_from x y b

  stitch-part : (bs : Blocks) (rest : List ℕ) → stitch_part x y c bs ((0x00 ∷ 0x01 ∷ 0x00 ∷ []) ++ (sized stitch_block ++ rest)) ≡ block x y c (stitches_from x y b) bs
  unfolding stitch_part
  stitch-part bs rest =
      skip_at (0x00 ∷ 0x01 ∷ 0x00 ∷ []) (sized stitch_block ++ rest) 3 _ refl
      ∙ sized-at stitch_block rest _ (omega (arith, stitches-length x y b))
      ∙ skip_at (0x0A ∷ 0xF6 ∷ 0x00 ∷ []) (stitches_from x y b) 3 _ refl

  module _ (sx : places.Small x) (sy : places.Small y) (in_place : Placed b) where
    abbrev ex : ℤ
    ex = end_x x b

    abbrev ey : ℤ
    ey = end_y y b

    small-ex : places.Small ex
    small-ex = end_x-small x b sx in_place

    small-ey : places.Small ey
    small-ey = end_y-small y b sy in_place

    x-shifted : x +ℤ shift (hundred (ex -ℤ x)) ≡ ex
    x-shifted = ap (λ (z : ℤ). x +ℤ z) (shift-hundred (ex -ℤ x) (places.apart ex x small-ex sx)) ∙ there x ex

    y-shifted : y -ℤ shift (hundred (neg_ℤ (ey -ℤ y))) ≡ ey
    y-shifted = ap (λ (z : ℤ). y -ℤ z) (shift-hundred (neg_ℤ (ey -ℤ y)) (abs-back y ey sy small-ey)) ∙ back y ey

    abbrev behind_shifts : List ℕ → List ℕ
    behind_shifts rest = (0x00 ∷ 0x01 ∷ 0x00 ∷ []) ++ (sized stitch_block ++ rest)

    shifts-part : (n : ℕ) (go : ℤ → ℤ → Blocks) (rest : List ℕ)
        → shifts n x y c go (hundred (ex -ℤ x) ++ (hundred (neg_ℤ (ey -ℤ y)) ++ behind_shifts rest)) ≡ block x y c (stitches_from x y b) (go ex ey)
    unfolding shifts
    shifts-part n go rest =
        let f : List ℕ = hundred (ex -ℤ x) in
        let g : List ℕ = hundred (neg_ℤ (ey -ℤ y)) in
        fixed-at f (g ++ behind_shifts rest) 4 _ (length-hundred (ex -ℤ x))
        ∙ ap (λ (x' : ℤ). starts n x' (fixed 4 (λ h r. starts n (y -ℤ shift h) (stitch_part x y c (go x' (y -ℤ shift h)) r)) (g ++ behind_shifts rest))) x-shifted
        ∙ starts-small n ex _ small-ex
        ∙ fixed-at g (behind_shifts rest) 4 _ (length-hundred (neg_ℤ (ey -ℤ y)))
        ∙ ap (λ (y' : ℤ). starts n y' (stitch_part x y c (go ex y') (behind_shifts rest))) y-shifted
        ∙ starts-small n ey _ small-ey
        ∙ stitch-part (go ex ey) rest

    -- 18 bytes at the front of a colour part, and what follows them
    abbrev fronts : ℤ → ℤ → List (List ℕ)
    fronts mx my =
        hundred (toward_zero (pos 2 *ℤ x -ℤ mx) 2)
        ∷ hundred (neg_ℤ (toward_zero (pos 2 *ℤ y -ℤ my) 2))
        ∷ (0x01 ∷ 0x00 ∷ c.0 ∷ c.1 ∷ c.2 ∷ 0x00 ∷ 0x00 ∷ 0x00 ∷ 0x05 ∷ 0x28 ∷ [])
        ∷ []

    abbrev behind_texts : List ℕ
    behind_texts = hundred (ex -ℤ x) ++ (hundred (neg_ℤ (ey -ℤ y)) ++ behind_shifts (0x00 ∷ []))

    part-is : (mx my : ℤ) → color_part mx my x y c b ≡ joined (fronts mx my) ++ (text8 [] ++ (text8 (color_text c) ++ (text8 [] ++ behind_texts)))
    unfolding color_part joined
    part-is mx my = joined-append (fronts mx my)
        (text8 []
        ∷ text8 (color_text c)
        ∷ text8 []
        ∷ hundred (ex -ℤ x)
        ∷ hundred (neg_ℤ (ey -ℤ y))
        ∷ (0x00 ∷ 0x01 ∷ 0x00 ∷ [])
        ∷ sized stitch_block
        ∷ (0x00 ∷ [])
        ∷ [])

    length-fronts : (mx my : ℤ) → length (joined (fronts mx my)) ≡ 18
    unfolding joined
    length-fronts mx my = simp (length-append, length-hundred)

    fronts-color : (mx my : ℤ) → color_of (joined (fronts mx my)) ≡ c
    unfolding color_of joined hundred field big
    fronts-color mx my = refl

    color-part : (n : ℕ) (mx my : ℤ) (go : ℤ → ℤ → Blocks) → in_color_part n x y go (color_part mx my x y c b) ≡ block x y c (stitches_from x y b) (go ex ey)
    unfolding in_color_part
    color-part n mx my go =
        let behind : List ℕ = text8 [] ++ (text8 (color_text c) ++ (text8 [] ++ behind_texts)) in
        ap (in_color_part n x y go) (part-is mx my)
        ∙ fixed-at (joined (fronts mx my)) behind 18 _ (length-fronts mx my)
        ∙ ap (λ (d : Color). text (text (text (shifts n x y d go))) behind) (fronts-color mx my)
        ∙ text_at [] (text8 (color_text c) ++ (text8 [] ++ behind_texts)) _ (omega arith)
        ∙ text_at (color_text c) (text8 [] ++ behind_texts) _ (omega (arith, length-color_text c))
        ∙ text_at [] behind_texts _ (omega arith)
        ∙ shifts-part n go (0x00 ∷ [])

-- ---- blocks, read back

read-blocks : (mx my x y : ℤ) (threads : List Color) (bs : List (List Cmd)) (rest : List ℕ) → commands_in bs ≤ 65535
    → places.Small x → places.Small y → AllPlaced bs
    → blocks_from (length bs) x y (color_parts mx my x y threads bs ++ rest) ≡ as_read x y threads bs
unfolding blocks_from color_parts as_read commands_in
read-blocks mx my x y threads [] rest few sx sy p = refl
read-blocks mx my x y threads (b ∷ bs) rest few sx sy p =
    let c : Color = or_black threads in
    let cp : List ℕ = color_part mx my x y c b in
    let more : List ℕ = color_parts mx my (end_x x b) (end_y y b) (drop 1 threads) bs ++ rest in
    let n : ℕ = length bs in
    let len : length b ≤ 65535 = omega arith in
    skip_at (0x00 ∷ 0x05 ∷ 0x00 ∷ []) (sized cp ++ color_parts mx my (end_x x b) (end_y y b) (drop 1 threads) bs ++ rest) 3 _ refl
    ∙ ap (λ (t : List ℕ). part 4 (λ q r. in_color_part n x y (λ x' y'. blocks_from n x' y' r) q) t) (append_assoc (sized cp) _ rest)
    ∙ sized-at cp more _ (omega (arith, length-color_part mx my x y c b, stitches-length x y b))
    ∙ color-part x y c b len sx sy p.0 n mx my (λ x' y'. blocks_from n x' y' more)
    ∙ ap (block x y c (stitches_from x y b))
    (read-blocks mx my (end_x x b) (end_y y b) (drop 1 threads) bs rest (omega arith) (end_x-small x b sx p.0) (end_y-small y b sy p.0) p.1)

-- ---- the file, read back

module _ (cs : List Cmd) (threads : List Color) where
  abbrev sizes : List (List ℕ)
  sizes =
      hundred (toward_zero (max_x cs +ℤ min_x cs) 2)
      ∷ hundred (neg_ℤ (toward_zero (max_y cs +ℤ min_y cs) 2))
      ∷ (0x00 ∷ 0x00 ∷ 0x00 ∷ [])
      ∷ hundred (neg_ℤ (pos (width cs / 2)))
      ∷ hundred (pos (width cs / 2))
      ∷ hundred (neg_ℤ (pos (height cs / 2)))
      ∷ hundred (pos (height cs / 2))
      ∷ hundred (pos (width cs))
      ∷ hundred (pos (height cs))
      ∷ []

  length-sizes : length (joined sizes) ≡ 35
  unfolding joined
  length-sizes = simp (length-append, length-hundred)

  abbrev numbers : List (List ℕ)
  numbers = (0x64 ∷ 0x64 ∷ []) ∷ big 4 4096 ∷ big 4 0 ∷ big 4 0 ∷ big 4 4096 ∷ (0x78 ∷ 0x78 ∷ 0x50 ∷ 0x50 ∷ 0x01 ∷ 0x00 ∷ []) ∷ []

  length-numbers : length (joined numbers) ≡ 24
  unfolding joined
  length-numbers = simp (length-append, length-big)

  abbrev parts : List ℕ
  parts = color_parts (max_x cs +ℤ min_x cs) (max_y cs +ℤ min_y cs) (pos 0) (pos 0) threads (color_blocks cs) ++ []

  abbrev counted : List ℕ
  counted = text16 producer ++ (big 2 (length (color_blocks cs)) ++ parts)

  design-is : design_part cs threads ≡ joined sizes ++ (text16 [] ++ (joined numbers ++ counted))
  unfolding design_part joined
  design-is =
      let behind : List (List ℕ)
      = text16 producer ∷ big 2 (length (color_blocks cs)) ∷ color_parts (max_x cs +ℤ min_x cs) (max_y cs +ℤ min_y cs) (pos 0) (pos 0) threads (color_blocks cs) ∷ [] in
      joined-append sizes (text16 [] ∷ (numbers ++ behind)) ∙ ap (λ (s : List ℕ). joined sizes ++ (text16 [] ++ s)) (joined-append numbers behind)

  module _ (placed : place_outside cs ≡ false) (few_changes : count changes cs ≤ 254) (few : length cs ≤ 65535) where
    read-design : in_design_part (design_part cs threads) ≡ as_read (pos 0) (pos 0) threads (color_blocks cs)
    unfolding in_design_part
    read-design =
        let n : ℕ = length (color_blocks cs) in
        ap in_design_part design-is
        ∙ skip_at (joined sizes) (text16 [] ++ (joined numbers ++ counted)) 35 _ length-sizes
        ∙ text16-at [] (joined numbers ++ counted) _ (omega arith)
        ∙ skip_at (joined numbers) counted 24 _ length-numbers
        ∙ text16-at producer (big 2 n ++ parts) _ (omega (arith, length-producer))
        ∙ fixed-at (big 2 n) parts 2 _ (length-big 2 n)
        ∙ ap (λ (m : ℕ). blocks_from m (pos 0) (pos 0) parts) (from-big-small 2 n (omega (arith, length-blocks cs)))
        ∙ read-blocks (max_x cs +ℤ min_x cs) (max_y cs +ℤ min_y cs) (pos 0) (pos 0) threads (color_blocks cs) [] (omega (arith, blocks-commands cs))
        (omega arith) (omega arith) (blocks-placed cs (all_placed cs placed))

    abbrev bounds : List (List ℕ)
    bounds =
        hundred (max_x cs)
        ∷ hundred (neg_ℤ (min_y cs))
        ∷ hundred (min_x cs)
        ∷ hundred (neg_ℤ (max_y cs))
        ∷ big 4 (length cs - 1)
        ∷ (0x00 ∷ length (color_blocks cs) ∷ 0x0C ∷ 0x00 ∷ 0x01 ∷ [])
        ∷ (0x00 ∷ 0x03 ∷ 0x00 ∷ [])
        ∷ []

    length-bounds : length (joined bounds) ≡ 28
    unfolding joined
    length-bounds = simp (length-append, length-hundred, length-big)

    file-is : file_part cs threads ≡ text16 [] ++ (joined bounds ++ (sized (design_part cs threads) ++ []))
    unfolding file_part joined
    file-is = ap (λ (s : List ℕ). text16 [] ++ s) (joined-append bounds (sized (design_part cs threads) ∷ []))

    read-file : in_file_part (file_part cs threads) ≡ as_read (pos 0) (pos 0) threads (color_blocks cs)
    unfolding in_file_part
    read-file =
        let design : List ℕ = design_part cs threads in
        ap in_file_part file-is
        ∙ text16-at [] (joined bounds ++ (sized design ++ [])) _ (omega arith)
        ∙ skip_at (joined bounds) (sized design ++ []) 28 _ length-bounds
        ∙ sized-at design [] _ (omega (arith, length-design_part cs threads, length-blocks cs, most-stitches cs))
        ∙ read-design

    -- the theorem: a file is read as the blocks of its list
    pub written-blocks : vp3_blocks (vp3_file cs threads) ≡ as_read (pos 0) (pos 0) threads (color_blocks cs)
    unfolding vp3_blocks vp3_file joined
    written-blocks =
        let file : List ℕ = file_part cs threads in
        let behind : List ℕ = text16 producer ++ ((0x00 ∷ 0x02 ∷ 0x00 ∷ []) ++ (sized file ++ [])) in
        ap (λ (s : List ℕ). text (skip 3 (part 4 (λ p rest. in_file_part p))) s) (drop_at vp3_opening behind (length vp3_opening) refl)
        ∙ text16-at producer ((0x00 ∷ 0x02 ∷ 0x00 ∷ []) ++ (sized file ++ [])) _ (omega (arith, length-producer))
        ∙ skip_at (0x00 ∷ 0x02 ∷ 0x00 ∷ []) (sized file ++ []) 3 _ refl
        ∙ sized-at file [] _ (omega (arith, length-file_part cs threads, length-blocks cs, most-stitches cs))
        ∙ read-file
