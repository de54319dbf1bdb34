-- Thumbnails: one for the whole, one per colour block, in f64 with each operation rounded as in `draw_scaled`.
-- A port of src/formats/pes.rs of zigzag, changed.
use Rattle.std.specs.Prelude.{ℕ, ◌+◌, ◌-◌, ◌*◌, ◌/◌, ◌%◌, ◌^◌, true, false, ◌&&◌, List, [], ◌∷◌, ◌++◌, map, ℤ, pos, negsuc, neg_ℤ, ltb, get_or, set, Float}
use Rattle.std.specs.Int.Bits.{bit_or}
use Rattle.std.specs.Float.{nan, inf, fin, binary64}
use Rattle.std.specs.Float.Ieee.{up, down, add, sub, mul, div, neg, lt, of_int, of_bits}
use Rattle.rules.specs.Vocabulary.{pick, joined}
use Rattle.rules.specs.Lists.{op_of, is_change, min_x, min_y, max_x, max_y}
use Rattle.rules.specs.Charts.{blank_icon}
use Rattle.rules.specs.declared.Cmd.{Cmd}
use Rattle.rules.specs.declared.Op.{Op}
use Rattle.rules.specs.declared.Op.TheVariants.{Stitch, Jump, Trim, ColorChange, End}
use Rattle.rules.specs.declared.Scale.{Scale}

-- `z as f64`
abbrev pub real : ℤ → Float
real z = of_int binary64 z

-- 0.5, 1.0, 4.0, 5.0, 19.0, 24.0, 38.0, 48.0
abbrev pub f0·5 : Float
f0·5 = of_bits binary64 0x3fe0_0000_0000_0000

abbrev pub f1 : Float
f1 = of_bits binary64 0x3ff0_0000_0000_0000

abbrev pub f4 : Float
f4 = of_bits binary64 0x4010_0000_0000_0000

abbrev pub f5 : Float
f5 = of_bits binary64 0x4014_0000_0000_0000

abbrev pub f19 : Float
f19 = of_bits binary64 0x4033_0000_0000_0000

abbrev pub f24 : Float
f24 = of_bits binary64 0x4038_0000_0000_0000

abbrev pub f38 : Float
f38 = of_bits binary64 0x4043_0000_0000_0000

abbrev pub f48 : Float
f48 = of_bits binary64 0x4048_0000_0000_0000

-- `f64::max` with 1.0 and `f64::min`, of finite numbers
unfoldable pub at_least_one : Float → Float
at_least_one x = pick (lt f1 x) x f1

unfoldable pub lesser : Float → Float → Float
lesser x y = pick (lt x y) x y

-- a width or a height, and the middle: min + (max - min) * 0.5
abbrev pub span_of : ℤ → ℤ → Float
span_of a b = sub binary64 (real b) (real a)

abbrev pub middle : ℤ → ℤ → Float
middle a b = add binary64 (real a) (mul binary64 (span_of a b) f0·5)

-- the scale that fits width and height into 48 and 38 less the buffer
abbrev pub scale_by : ℤ → ℤ → ℤ → ℤ → Float → Float
scale_by x y x' y' buffer =
    lesser (div binary64 (sub binary64 f48 buffer) (at_least_one (span_of x x'))) (div binary64 (sub binary64 f38 buffer) (at_least_one (span_of y y')))

-- an offset: -c * scale + half
abbrev pub offset : Float → Float → Float → Float
offset c scale half = add binary64 (mul binary64 (neg c) scale) half

-- The scale and the two offsets of a thumbnail are worked out once and travel together.
abbrev pub scale_of : ℤ → ℤ → ℤ → ℤ → Float → Scale
scale_of x y x' y' buffer = record {
  scale = scale_by x y x' y' buffer;
  tx = offset (middle x x') (scale_by x y x' y' buffer) f24;
  ty = offset (middle y y') (scale_by x y x' y' buffer) f19;
}

-- `x.floor()` as a whole number; -1, which is in no picture, for NaN and the infinities
unfoldable pub floor_of : Float → ℤ
floor_of nan = negsuc 0
floor_of (inf s) = negsuc 0
floor_of (fin false m e) = pos (m * up e / down e)
floor_of (fin true m e) = neg_ℤ (pos ((m * up e + (down e - 1)) / down e))

-- the pixel number, or 48 outside the picture
unfoldable pub within : ℤ → ℕ
within (pos n) = pick (ltb n 48) n 48
within (negsuc n) = 48

-- the pixel in column x and row y set; nothing outside the thumbnail, and nothing in row 0
unfoldable pub pixel : List ℕ → ℕ → ℕ → List ℕ
pixel icon x y =
    pick (ltb x 48 && (ltb 0 y && ltb y 38))
    (set icon (y * 6 + x / 8) (bit_or (get_or icon (y * 6 + x / 8) 0) (2 ^ (x % 8))))
    icon

-- from a place on one axis to its pixel number
abbrev pub pixel_at : ℤ → Float → Float → ℕ
pixel_at z scale t = within (floor_of (add binary64 (mul binary64 (real z) scale) t))

unfoldable pub painted : Scale → List ℕ → ℤ → ℤ → List ℕ
painted s icon x y = pixel icon (pixel_at x s.scale s.tx) (pixel_at y s.scale s.ty)

-- a stitch paints its place, any other command nothing
unfoldable pub marked : Scale → List ℕ → Op → ℤ → ℤ → List ℕ
marked s icon Stitch x y = painted s icon x y
marked s icon Jump x y = icon
marked s icon Trim x y = icon
marked s icon ColorChange x y = icon
marked s icon End x y = icon

unfoldable pub drawn : Scale → List ℕ → List Cmd → List ℕ
drawn s icon [] = icon
drawn s icon (c ∷ cs) = drawn s (marked s icon (op_of c.kind) c.x c.y) cs

-- a command at the front of the first block
unfoldable pub at_front : Cmd → List (List Cmd) → List (List Cmd)
at_front c [] = (c ∷ []) ∷ []
at_front c (b ∷ bs) = (c ∷ b) ∷ bs

-- the colour blocks: what stands between two colour changes
unfoldable pub color_blocks : List Cmd → List (List Cmd)
color_blocks [] = [] ∷ []
color_blocks (c ∷ cs) = pick (is_change (op_of c.kind)) ([] ∷ color_blocks cs) (at_front c (color_blocks cs))

-- the whole with a buffer of 4, then each block with a buffer of 5, all by the bounds of the whole
unfoldable pub icons : List Cmd → List ℕ
icons cs =
    let whole : Scale = scale_of (min_x cs) (min_y cs) (max_x cs) (max_y cs) f4 in
    let part : Scale = scale_of (min_x cs) (min_y cs) (max_x cs) (max_y cs) f5 in
    drawn whole blank_icon cs ++ joined (map (drawn part blank_icon) (color_blocks cs))
