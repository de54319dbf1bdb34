-- VP3: parts with their lengths in front, colour blocks in a row, numbers with the high byte first.
-- A port of src/formats/more.rs of zigzag, changed; the reader is new.
use Rattle.std.specs.Prelude.{ℕ, zero, suc, ◌+◌, ◌-◌, ◌*◌, ◌/◌, ◌%◌, ◌^◌, min, Bool, true, false, ◌&&◌, ◌||◌, not, List, [], ◌∷◌, ◌++◌, map, ℤ, pos, negsuc, neg_ℤ, ◌+ℤ◌, ◌-ℤ◌, ◌*ℤ◌, ltb, eqb, length, take, drop, get_or, Ok, Err, Result, ⊤}
use Rattle.rules.specs.Vocabulary.{pick, between, signed, bits_of, joined, fuelled}
use Rattle.rules.specs.Limits.{most_changes, furthest}
use Rattle.rules.specs.Lists.{op_of, width, height, min_x, min_y, max_x, max_y, threads_of}
use Rattle.rules.specs.Charts.{color}
use Rattle.rules.specs.Records.{Event, stitch, jump, change}
use Rattle.rules.specs.Text.{begins}
use Rattle.rules.specs.Thumbnails.{color_blocks}
use Rattle.rules.specs.Layout.{Layout, shade_at}
use Rattle.rules.specs.Answers.{cuts}
use Rattle.rules.specs.declared.Cmd.{Cmd}
use Rattle.rules.specs.declared.Color.{Color}
use Rattle.rules.specs.declared.Op.{Op}
use Rattle.rules.specs.declared.Op.TheVariants.{Stitch, Jump, Trim, ColorChange, End}
use Rattle.rules.specs.declared.Refusal.{Refusal}
use Rattle.rules.specs.declared.Refusal.TheVariants.{BadOpening, FileTooShort, OutOfRange}

-- v modulo 256 ^ n as n bytes, the high byte first
unfoldable pub big : ℕ → ℕ → List ℕ
big zero v = []
big (suc n) v = v / 256 ^ n % 256 ∷ big n v

-- the number that bytes make, the high byte first
unfoldable pub from_big : List ℕ → ℕ
from_big [] = 0
from_big (b ∷ bs) = b * 256 ^ length bs + from_big bs

-- z divided by n, rounded toward zero
unfoldable pub toward_zero : ℤ → ℕ → ℤ
toward_zero (pos a) n = pos (a / n)
toward_zero (negsuc a) n = neg_ℤ (pos (suc a / n))

-- ---- writing

-- a signed number of 32 bits
unfoldable pub field : ℤ → List ℕ
field z = big 4 (bits_of 31 z)

-- a part behind its length
unfoldable pub sized : List ℕ → List ℕ
sized p = big 4 (length p) ++ p

-- a text behind its length in bytes: in bytes, and in UTF-16
unfoldable pub text8 : List ℕ → List ℕ
text8 s = big 2 (length s) ++ s

unfoldable pub text16 : List ℕ → List ℕ
text16 s = text8 (joined (map (λ (b : ℕ). 0x00 ∷ b ∷ []) s))

-- `%vsm%` and a zero byte
unfoldable pub vp3_opening : List ℕ
vp3_opening = 0x25 ∷ 0x76 ∷ 0x73 ∷ 0x6D ∷ 0x25 ∷ 0x00 ∷ []

-- "Produced by     Software Ltd"
unfoldable pub producer : List ℕ
producer =
    0x50 ∷ 0x72 ∷ 0x6F ∷ 0x64 ∷ 0x75 ∷ 0x63 ∷ 0x65 ∷ 0x64 ∷ 0x20 ∷ 0x62 ∷ 0x79 ∷ 0x20 ∷ 0x20 ∷ 0x20 ∷ 0x20 ∷ 0x20
    ∷ 0x53 ∷ 0x6F ∷ 0x66 ∷ 0x74 ∷ 0x77 ∷ 0x61 ∷ 0x72 ∷ 0x65 ∷ 0x20 ∷ 0x4C ∷ 0x74 ∷ 0x64 ∷ []

-- a digit from 0 to 15 as a character, and a byte as two
unfoldable pub hex_char : ℕ → ℕ
hex_char d = pick (ltb d 10) (0x30 + d) (0x57 + d)

unfoldable pub hex_text : ℕ → List ℕ
hex_text b = hex_char (b / 16) ∷ hex_char (b % 16) ∷ []

-- `#rrggbb`
unfoldable pub color_text : Color → List ℕ
color_text c = 0x23 ∷ hex_text c.0 ++ hex_text c.1 ++ hex_text c.2

-- where a block ends that starts at x (or y): at its last command, one without a command where it starts
unfoldable pub end_x : ℤ → List Cmd → ℤ
end_x x [] = x
end_x x (c ∷ cs) = end_x c.x cs

unfoldable pub end_y : ℤ → List Cmd → ℤ
end_y y [] = y
end_y y (c ∷ cs) = end_y c.y cs

-- a stitch: both steps in a byte each, or behind 80 01 in two bytes each, with 80 02 behind them
unfoldable pub stitch_of : ℤ → ℤ → List ℕ
stitch_of dx dy =
    pick (between (neg_ℤ (pos 127)) (pos 127) dx && between (neg_ℤ (pos 127)) (pos 127) dy)
    (bits_of 7 dx ∷ bits_of 7 dy ∷ [])
    ((0x80 ∷ 0x01 ∷ []) ++ big 2 (bits_of 15 dx) ++ big 2 (bits_of 15 dy) ++ 0x80 ∷ 0x02 ∷ [])

-- Jumps write nothing, a trim and the end 80 03.
unfoldable pub vp3_cmd : Op → ℤ → ℤ → List ℕ
vp3_cmd Stitch dx dy = stitch_of dx dy
vp3_cmd Jump dx dy = []
vp3_cmd Trim dx dy = 0x80 ∷ 0x03 ∷ []
vp3_cmd ColorChange dx dy = []
vp3_cmd End dx dy = 0x80 ∷ 0x03 ∷ []

-- where the last stitch was, once a command that leads from z to z' is written
unfoldable pub last_stitch : Op → ℤ → ℤ → ℤ
last_stitch Stitch z z' = z'
last_stitch Jump z z' = z
last_stitch Trim z z' = z
last_stitch ColorChange z z' = z
last_stitch End z z' = z

-- the stitches of a block: steps are from the last stitch, the first from the block's start
unfoldable pub stitches_from : ℤ → ℤ → List Cmd → List ℕ
stitches_from x y [] = []
stitches_from x y (c ∷ cs) =
    vp3_cmd (op_of c.kind) (c.x -ℤ x) (c.y -ℤ y)
    ++ stitches_from (last_stitch (op_of c.kind) x c.x) (last_stitch (op_of c.kind) y c.y) cs

-- a hundred times z
unfoldable pub hundred : ℤ → List ℕ
hundred z = field (z *ℤ pos 100)

-- A colour part: start less centre (mx and my are twice the centre), colour, three texts, shift to where the block ends, stitches, 00.
unfoldable pub color_part : ℤ → ℤ → ℤ → ℤ → Color → List Cmd → List ℕ
color_part mx my x y c b = joined
    (hundred (toward_zero (pos 2 *ℤ x -ℤ mx) 2)
    ∷ hundred (neg_ℤ (toward_zero (pos 2 *ℤ y -ℤ my) 2))
    ∷ (0x01 ∷ 0x00 ∷ c.0 ∷ c.1 ∷ c.2 ∷ 0x00 ∷ 0x00 ∷ 0x00 ∷ 0x05 ∷ 0x28 ∷ [])
    ∷ text8 []
    ∷ text8 (color_text c)
    ∷ text8 []
    ∷ hundred (end_x x b -ℤ x)
    ∷ hundred (neg_ℤ (end_y y b -ℤ y))
    ∷ (0x00 ∷ 0x01 ∷ 0x00 ∷ [])
    ∷ sized (0x0A ∷ 0xF6 ∷ 0x00 ∷ stitches_from x y b)
    ∷ (0x00 ∷ [])
    ∷ [])

-- thread i colours block i; black where there are too few
unfoldable pub or_black : List Color → Color
or_black [] = color 0 0 0
or_black (c ∷ cs) = c

-- every block of the list, the first from (x, y), each later one from where the one before ended
unfoldable pub color_parts : ℤ → ℤ → ℤ → ℤ → List Color → List (List Cmd) → List ℕ
color_parts mx my x y threads [] = []
color_parts mx my x y threads (b ∷ bs) =
    (0x00 ∷ 0x05 ∷ 0x00 ∷ [])
    ++ sized (color_part mx my x y (or_black threads) b)
    ++ color_parts mx my (end_x x b) (end_y y b) (drop 1 threads) bs

-- The design part: centre, half sizes with both signs, size, a text, 4096 0 0 4096, the second fixed text, blocks.
unfoldable pub design_part : List Cmd → List Color → List ℕ
design_part cs threads =
    let w : ℕ = width cs in
    let h : ℕ = height cs in
    let mx : ℤ = max_x cs +ℤ min_x cs in
    let my : ℤ = max_y cs +ℤ min_y cs in
    joined
    (hundred (toward_zero mx 2)
    ∷ hundred (neg_ℤ (toward_zero my 2))
    ∷ (0x00 ∷ 0x00 ∷ 0x00 ∷ [])
    ∷ hundred (neg_ℤ (pos (w / 2)))
    ∷ hundred (pos (w / 2))
    ∷ hundred (neg_ℤ (pos (h / 2)))
    ∷ hundred (pos (h / 2))
    ∷ hundred (pos w)
    ∷ hundred (pos h)
    ∷ text16 []
    ∷ (0x64 ∷ 0x64 ∷ [])
    ∷ big 4 4096
    ∷ big 4 0
    ∷ big 4 0
    ∷ big 4 4096
    ∷ (0x78 ∷ 0x78 ∷ 0x50 ∷ 0x50 ∷ 0x01 ∷ 0x00 ∷ [])
    ∷ text16 producer
    ∷ big 2 (length (color_blocks cs))
    ∷ color_parts mx my (pos 0) (pos 0) threads (color_blocks cs)
    ∷ [])

-- The file part: a text, bounds, commands but the end, blocks, the design part.
unfoldable pub file_part : List Cmd → List Color → List ℕ
file_part cs threads = joined
    (text16 []
    ∷ hundred (max_x cs)
    ∷ hundred (neg_ℤ (min_y cs))
    ∷ hundred (min_x cs)
    ∷ hundred (neg_ℤ (max_y cs))
    ∷ big 4 (length cs - 1)
    ∷ (0x00 ∷ length (color_blocks cs) ∷ 0x0C ∷ 0x00 ∷ 0x01 ∷ [])
    ∷ (0x00 ∷ 0x03 ∷ 0x00 ∷ [])
    ∷ sized (design_part cs threads)
    ∷ [])

unfoldable pub vp3_file : List Cmd → List Color → List ℕ
vp3_file cs threads = joined
    (vp3_opening
    ∷ text16 producer
    ∷ (0x00 ∷ 0x02 ∷ 0x00 ∷ [])
    ∷ sized (file_part cs threads)
    ∷ [])

-- ---- reading: fields in order of place, up to the first fault

-- The colour blocks of a file in order: start, colour and stitch bytes of each; then how they end: by the stored count, or at a fault.
pub data Blocks : Type 0 where
  ended : Result ⊤ Refusal → Blocks
  block : ℤ → ℤ → Color → List ℕ → Blocks → Blocks

-- 4: a part that ends before or inside a fixed field; 12: a length that passes its part, a place or block start beyond 32 bits
unfoldable pub cut : Blocks
cut = ended (Err FileTooShort)

unfoldable pub passed : Blocks
passed = ended (Err OutOfRange)

-- Throughout, s is what is left of a part: a fixed field of n bytes, and what follows it
unfoldable pub fixed : ℕ → (List ℕ → List ℕ → Blocks) → List ℕ → Blocks
fixed n go s = pick (ltb (length s) n) cut (go (take n s) (drop n s))

-- its bytes do not matter
unfoldable pub skip : ℕ → (List ℕ → Blocks) → List ℕ → Blocks
skip n go s = fixed n (λ f. go) s

-- a part behind its length in n bytes, and what follows the part
unfoldable pub inside : ℕ → (List ℕ → List ℕ → Blocks) → List ℕ → Blocks
inside len go s = pick (ltb (length s) len) passed (go (take len s) (drop len s))

unfoldable pub part : ℕ → (List ℕ → List ℕ → Blocks) → List ℕ → Blocks
part n go s = fixed n (λ f. inside (from_big f) go) s

-- a text is skipped
unfoldable pub text : (List ℕ → Blocks) → List ℕ → Blocks
text go s = part 2 (λ t. go) s

-- beyond 32 signed bits
unfoldable pub beyond : ℤ → Bool
beyond z = not (between (negsuc 2147483647) (pos 2147483647) z)

-- z is a coordinate of a block's start, if n blocks follow
unfoldable pub starts : ℕ → ℤ → Blocks → Blocks
starts zero z bs = bs
starts (suc n) z bs = pick (beyond z) passed bs

-- the shift field: divided by 100, rounded toward zero
unfoldable pub shift : List ℕ → ℤ
shift f = toward_zero (signed 31 (from_big f)) 100

-- the stitch part: three bytes, then stitches
unfoldable pub stitch_part : ℤ → ℤ → Color → Blocks → List ℕ → Blocks
stitch_part x y c bs s = skip 3 (part 4 (λ p rest. skip 3 (λ bytes. block x y c bytes bs) p)) s

-- A colour part of the block from (x, y), which n blocks follow; `go` gives these by where they start.
-- 18 bytes: stored start, 01 00, colour, five bytes more.
unfoldable pub shifts : ℕ → ℤ → ℤ → Color → (ℤ → ℤ → Blocks) → List ℕ → Blocks
shifts n x y c go s =
    fixed 4 (λ f rest. let x' : ℤ = x +ℤ shift f in starts n x'
    (fixed 4 (λ g rest'. let y' : ℤ = y -ℤ shift g in starts n y' (stitch_part x y c (go x' y') rest')) rest)) s

unfoldable pub color_of : List ℕ → Color
color_of f = color (get_or f 10 0) (get_or f 11 0) (get_or f 12 0)

unfoldable pub in_color_part : ℕ → ℤ → ℤ → (ℤ → ℤ → Blocks) → List ℕ → Blocks
in_color_part n x y go s = fixed 18 (λ f. text (text (text (shifts n x y (color_of f) go)))) s

-- n colour blocks, the first from (x, y), each where the length of the one before ends
unfoldable pub blocks_from : ℕ → ℤ → ℤ → List ℕ → Blocks
blocks_from zero x y s = ended (Ok tt)
blocks_from (suc n) x y s = skip 3 (part 4 (λ p rest. in_color_part n x y (λ x' y'. blocks_from n x' y' rest) p)) s

-- 35 bytes: centre, three bytes, sizes; 24 bytes: 64 64, four numbers, `xxPP` 01 00; then the count
unfoldable pub in_design_part : List ℕ → Blocks
in_design_part s = skip 35 (text (skip 24 (text (fixed 2 (λ f. blocks_from (from_big f) (pos 0) (pos 0)))))) s

-- 28 bytes: bounds, commands, five bytes, 00 03 00
unfoldable pub in_file_part : List ℕ → Blocks
in_file_part s = text (skip 28 (part 4 (λ p rest. in_design_part p))) s

unfoldable pub vp3_blocks : List ℕ → Blocks
vp3_blocks s = text (skip 3 (part 4 (λ p rest. in_file_part p))) (drop (length vp3_opening) s)

-- ---- reading: stitches

-- 80 01 opens a stitch of two 16-bit steps
unfoldable pub long_then : (List ℕ → List Event) → List ℕ → List Event
long_then go s =
    pick (ltb (length s) 4) []
    (stitch (signed 15 (from_big (take 2 s))) (signed 15 (from_big (take 2 (drop 2 s)))) ∷ go (drop 4 s))

-- 80 03 ends the run; any other 80 pair does nothing
unfoldable pub control_then : (List ℕ → List Event) → ℕ → List ℕ → List Event
control_then go b s = pick (eqb b 0x01) (long_then go s) (pick (eqb b 0x03) (jump (pos 0) (pos 0) ∷ go s) (go s))

-- a pair is a stitch; bytes that run out end the block
unfoldable pub pair_then : (List ℕ → List Event) → List ℕ → List Event
pair_then go [] = []
pair_then go (a ∷ []) = []
pair_then go (a ∷ b ∷ s) = pick (eqb a 0x80) (control_then go b s) (stitch (signed 7 a) (signed 7 b) ∷ go s)

unfoldable pub stitch_events : List ℕ → List Event
stitch_events s = fuelled pair_then [] (suc (length s)) s

-- where the events lead from x (or y)
unfoldable pub reach_x : ℤ → List Event → ℤ
reach_x x [] = x
reach_x x (stitch dx dy ∷ es) = reach_x (x +ℤ dx) es
reach_x x (jump dx dy ∷ es) = reach_x (x +ℤ dx) es
reach_x x (change dx dy ∷ es) = reach_x (x +ℤ dx) es

unfoldable pub reach_y : ℤ → List Event → ℤ
reach_y y [] = y
reach_y y (stitch dx dy ∷ es) = reach_y (y +ℤ dy) es
reach_y y (jump dx dy ∷ es) = reach_y (y +ℤ dy) es
reach_y y (change dx dy ∷ es) = reach_y (y +ℤ dy) es

-- from (x, y) a change to the start of the block that follows, and then `es`; nothing if none follows
unfoldable pub change_to : ℤ → ℤ → Blocks → List Event → List Event
change_to x y (ended v) es = []
change_to x y (block x' y' c bytes bs) es = change (x' -ℤ x) (y' -ℤ y) ∷ es

unfoldable pub events_in : Blocks → List Event
events_in (ended v) = []
events_in (block x y c bytes bs) =
    let es : List Event = stitch_events bytes in
    es ++ change_to (reach_x x es) (reach_y y es) bs (events_in bs)

-- some stitch from (x, y) on leads beyond 32 bits
unfoldable pub strays : ℤ → ℤ → List Event → Bool
strays x y [] = false
strays x y (stitch dx dy ∷ es) = (beyond (x +ℤ dx) || beyond (y +ℤ dy)) || strays (x +ℤ dx) (y +ℤ dy) es
strays x y (jump dx dy ∷ es) = strays (x +ℤ dx) (y +ℤ dy) es
strays x y (change dx dy ∷ es) = strays (x +ℤ dx) (y +ℤ dy) es

-- the first fault, in order of place: a block's stitches come behind its fields, and before the next block's
unfoldable pub fault_in : Blocks → Result ⊤ Refusal
fault_in (ended v) = v
fault_in (block x y c bytes bs) = pick (strays x y (stitch_events bytes)) (Err OutOfRange) (fault_in bs)

unfoldable pub colors_in : Blocks → List Color
colors_in (ended v) = []
colors_in (block x y c bytes bs) = c ∷ colors_in bs

-- ---- the format

-- the row of a fault in the table of refusals
unfoldable pub row_of : Result ⊤ Refusal → List (Refusal × Bool)
row_of (Ok u) = []
row_of (Err r) = (r, true) ∷ []

-- no step limit beyond the place range
abbrev pub vp3_layout : Layout
vp3_layout = record {
  extension = 0x76 ∷ 0x70 ∷ 0x33 ∷ [];
  file = λ name cs threads. vp3_file cs (threads_of threads);
  bound = λ n t. 283 + 8 * n + 57 * min n most_changes;
  distance = λ threads. 0;
  least = neg_ℤ (pos (2 * furthest));
  greatest = pos (2 * furthest);
  refusals = λ s. (BadOpening, not (begins vp3_opening s)) ∷ row_of (fault_in (vp3_blocks s));
  events = λ s. events_in (vp3_blocks s);
  cuts = λ rs bs es. cuts rs bs;
  label = λ s. [];
  stored = λ s k. shade_at (colors_in (vp3_blocks s)) k;
}
