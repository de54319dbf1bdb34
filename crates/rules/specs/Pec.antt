-- PEC: label at 3, colour count less one at 48, stitches at 528.
-- A port of src/formats/pes.rs and src/formats/read.rs of zigzag, changed.
use Rattle.std.specs.Prelude.{ℕ, ◌+◌, ◌-◌, ◌*◌, ◌/◌, ◌%◌, min, Bool, true, false, not, ◌&&◌, ◌||◌, List, [], ◌∷◌, ◌++◌, map, ℤ, pos, neg_ℤ, ◌-ℤ◌, eqb, ltb, leb, length, take, drop, get_or, set, replicate, Some, None, Option}
use Rattle.rules.specs.Vocabulary.{pick, eq_z, between, any, signed, bits_of, little, joined, padded}
use Rattle.rules.specs.Limits.{most_changes}
use Rattle.rules.specs.Lists.{op_of, width, height, threads_of, pec_name}
use Rattle.rules.specs.Charts.{pec_chart}
use Rattle.rules.specs.Choices.{same_color, nearest_index, pec_palette, farthest}
use Rattle.rules.specs.Records.{Event, events}
use Rattle.rules.specs.Text.{trimmed}
use Rattle.rules.specs.Layout.{Layout, Stored, nothing, from_chart}
use Rattle.rules.specs.Answers.{cuts}
use Rattle.rules.specs.Thumbnails.{icons}
use Rattle.rules.specs.declared.Cmd.{Cmd}
use Rattle.rules.specs.declared.Color.{Color}
use Rattle.rules.specs.declared.Op.{Op}
use Rattle.rules.specs.declared.Op.TheVariants.{Stitch, Jump, Trim, ColorChange, End}
use Rattle.rules.specs.declared.Record.{Record}
use Rattle.rules.specs.declared.Record.TheVariants.{StitchBy, JumpBy, ChangeBy, Finish}
use Rattle.rules.specs.declared.Refusal.TheVariants.{FileTooShort}

-- ---- reading: records

-- the step on one axis: whether it says jump, the step, the bytes it takes; or too few bytes
pub data Axis : Type 0 where
  axis : Bool → ℤ → ℕ → Axis
  none : Axis

-- two bytes, high byte first: twelve bits; bit 0x10 or 0x20 in the first makes a jump
unfoldable pub long_axis : ℕ → List ℕ → Axis
long_axis a [] = none
long_axis a (b ∷ rest) = axis (not (eqb (a / 16 % 4) 0)) (signed 11 (a % 16 * 256 + b)) 2

-- a set top bit makes a step two bytes
unfoldable pub axis_of : List ℕ → Axis
axis_of [] = none
axis_of (a ∷ rest) = pick (ltb a 0x80) (axis false (signed 6 a) 1) (long_axis a rest)

unfoldable pub after_axis : Axis → List ℕ → Axis
after_axis none s = none
after_axis (axis j dx n) s = axis_of (drop n s)

-- a jump on either axis makes the pair a jump
unfoldable pub both_axes : Axis → Axis → Record
both_axes none y = Finish
both_axes (axis j dx n) none = Finish
both_axes (axis j dx n) (axis j' dy m) = pick (j || j') (JumpBy dx dy (n + m)) (StitchBy dx dy (n + m))

unfoldable pub starts : ℕ → ℕ → List ℕ → Bool
starts a b [] = false
starts a b (c ∷ []) = false
starts a b (c ∷ d ∷ s) = eqb c a && eqb d b

-- FE B0 and one byte change colour
unfoldable pub pec_change : List ℕ → Record
pec_change [] = Finish
pec_change (a ∷ []) = Finish
pec_change (a ∷ b ∷ []) = Finish
pec_change (a ∷ b ∷ c ∷ rest) = ChangeBy (pos 0) (pos 0) 3

-- FF 00 ends. Bytes that run out end the reading.
unfoldable pub pec_first : List ℕ → Record
pec_first s =
    pick (starts 0xFF 0x00 s) Finish
    (pick (starts 0xFE 0xB0 s) (pec_change s) (both_axes (axis_of s) (after_axis (axis_of s) s)))

-- ---- reading: a part by its start

unfoldable pub pec_events : ℕ → List ℕ → List Event
pec_events start s = events pec_first (drop (start + 528) s)

unfoldable pub pec_label : ℕ → List ℕ → List ℕ
pec_label start s = trimmed (take 16 (drop (start + 3) s))

-- the entry of block k: the byte at 49 + k from the start (0 where the file has ended) modulo 65
unfoldable pub pec_entry : ℕ → List ℕ → ℕ → ℕ
pec_entry start s k = get_or s (start + 49 + k) 0 % 65

-- stored for k up to the count byte at 48
unfoldable pub pec_stored : ℕ → List ℕ → ℕ → Stored
pec_stored start s k = pick (leb k (get_or s (start + 48) 0)) (from_chart pec_chart (pec_entry start s k)) nothing

-- 4: a part without its count byte
unfoldable pub no_count : ℕ → List ℕ → Bool
no_count start s = leb (length s) (start + 48)

-- ---- writing: stitches

-- 0x8000 plus twelve bits, plus 0x1000 or 0x2000 for a jump; `flag` is the first byte's share
unfoldable pub wide : ℕ → ℤ → List ℕ
wide flag z = (flag + bits_of 11 z / 256) ∷ bits_of 11 z % 256 ∷ []

-- A step from -63 to 62 of a stitch is one byte, the low seven bits; others are two.
unfoldable pub pec_value : ℤ → List ℕ
pec_value z = pick (between (neg_ℤ (pos 63)) (pos 62) z) (bits_of 6 z ∷ []) (wide 0x80 z)

-- what the writer knows between two commands: no stitch or colour change since the last jump, or since the list began;
-- the next colour byte is 02; no command yet
pub record PecState : Type 0 where
  pub jumped : Bool
  pub two : Bool
  pub opening : Bool

unfoldable pub pec_start : PecState
pec_start = record { jumped = true; two = true; opening = true }

unfoldable pub pec_next : PecState → Op → PecState
pec_next s Stitch = record { jumped = false; two = s.two; opening = false }
pec_next s Jump = record { jumped = true; two = s.two; opening = false }
pec_next s Trim = record { jumped = s.jumped; two = s.two; opening = false }
pec_next s ColorChange = record { jumped = false; two = not s.two; opening = false }
pec_next s End = record { jumped = s.jumped; two = s.two; opening = false }

-- a stitch 00 00
unfoldable pub pause : Bool → List ℕ
pause true = 0x00 ∷ 0x00 ∷ []
pause false = []

-- A trim writes nothing. The writer puts FF; the 00 is the first byte of the thumbnail.
unfoldable pub pec_cmd : PecState → Op → ℤ → ℤ → List ℕ
pec_cmd s Stitch dx dy = pause (s.jumped && (not (eq_z dx (pos 0)) && not (eq_z dy (pos 0)))) ++ (pec_value dx ++ pec_value dy)
pec_cmd s Jump dx dy = wide (pick s.opening 0x90 0xA0) dx ++ wide (pick s.opening 0x90 0xA0) dy
pec_cmd s Trim dx dy = []
pec_cmd s ColorChange dx dy = pause s.jumped ++ (0xFE ∷ 0xB0 ∷ pick s.two 0x02 0x01 ∷ [])
pec_cmd s End dx dy = 0xFF ∷ []

unfoldable pub pec_stitches : PecState → ℤ → ℤ → List Cmd → List ℕ
pec_stitches s x y [] = []
pec_stitches s x y (c ∷ cs) = pec_cmd s (op_of c.kind) (c.x -ℤ x) (c.y -ℤ y) ++ pec_stitches (pec_next s (op_of c.kind)) c.x c.y cs

-- ---- writing: palette

-- each distinct thread, at its first place
unfoldable pub distinct : List Color → List Color → List Color
distinct seen [] = []
distinct seen (t ∷ ts) = pick (any (same_color t) seen) (distinct seen ts) (t ∷ distinct (t ∷ seen) ts)

-- the entries that are free, and the threads given to the others
pub record Given : Type 0 where
  pub free : List (Option Color)
  pub chart : List (Option Color)

-- Each distinct thread gets the nearest free entry as its own. Past 64 distinct threads none is free.
unfoldable pub give : Option ℕ → Color → Given → Given
give (Some i) t g = record { free = set g.free i None; chart = set g.chart i (Some t) }
give None t g = g

unfoldable pub given_to : Given → List Color → Given
given_to g [] = g
given_to g (t ∷ ts) = given_to (give (nearest_index t g.free) t g) ts

unfoldable pub found_or : ℕ → Option ℕ → ℕ
found_or d (Some i) = i
found_or d None = d

-- then every thread is mapped to the nearest of those
unfoldable pub unique_palette : List Color → List ℕ
unique_palette threads =
    let g : Given = given_to (record { free = pec_palette; chart = replicate 65 None }) (distinct [] threads) in
    map (λ (t : Color). found_or 0 (nearest_index t g.chart)) threads

-- how far off the threads are, by the entries written in the part
unfoldable pub pec_distance : List Color → ℕ
pec_distance threads = farthest pec_palette threads (unique_palette threads)

-- ---- writing: the part

-- the count less one and the entries; no threads: count byte FF
unfoldable pub pec_colors : List ℕ → List ℕ
pec_colors [] = 0x20 ∷ 0x20 ∷ 0x20 ∷ 0x20 ∷ 0x64 ∷ 0x20 ∷ 0x00 ∷ 0x20 ∷ 0x00 ∷ 0x20 ∷ 0x20 ∷ 0x20 ∷ 0xFF ∷ []
pec_colors (e ∷ es) = joined (replicate 12 0x20 ∷ (length es ∷ []) ∷ (e ∷ es) ∷ [])

-- "LA:", the name in 16 places, a carriage return, 12 blanks, FF 00, 6 bytes by 38 rows, the colours, blanks
unfoldable pub pec_header : List ℕ → List Color → List ℕ
pec_header name threads = joined
    ((0x4C ∷ 0x41 ∷ 0x3A ∷ [])
    ∷ padded 16 (pec_name name)
    ∷ (0x0D ∷ [])
    ∷ replicate 12 0x20
    ∷ (0xFF ∷ 0x00 ∷ 0x06 ∷ 0x26 ∷ [])
    ∷ pec_colors (unique_palette threads)
    ∷ replicate (463 - length threads) 0x20
    ∷ [])

-- 00 00, the length up to the thumbnails, 31 FF F0, width, height, 0x1E0, 0x1B0, the stitches, the thumbnails
unfoldable pub pec_block : List Cmd → List ℕ
pec_block cs =
    let bytes : List ℕ = pec_stitches pec_start (pos 0) (pos 0) cs in
    joined
    ((0x00 ∷ 0x00 ∷ [])
    ∷ little 3 (16 + length bytes)
    ∷ (0x31 ∷ 0xFF ∷ 0xF0 ∷ [])
    ∷ little 2 (width cs)
    ∷ little 2 (height cs)
    ∷ little 2 0x1E0
    ∷ little 2 0x1B0
    ∷ bytes
    ∷ icons cs
    ∷ [])

unfoldable pub pec_part : List ℕ → List Cmd → List Color → List ℕ
pec_part name cs threads = pec_header name threads ++ pec_block cs

-- "#PEC0001", then the part
unfoldable pub pec_file : List ℕ → List Cmd → List Color → List ℕ
pec_file name cs threads = (0x23 ∷ 0x50 ∷ 0x45 ∷ 0x43 ∷ 0x30 ∷ 0x30 ∷ 0x30 ∷ 0x31 ∷ []) ++ pec_part name cs threads

-- ---- the format: a part at 8

abbrev pub pec_layout : Layout
pec_layout = record {
  extension = 0x70 ∷ 0x65 ∷ 0x63 ∷ [];
  file = λ name cs threads. pec_file name cs (threads_of threads);
  bound = λ n t. 992 + 6 * n + 228 * min n most_changes;
  distance = λ threads. pec_distance (threads_of threads);
  least = neg_ℤ (pos 2048);
  greatest = pos 2047;
  refusals = λ s. (FileTooShort, no_count 8 s) ∷ [];
  events = pec_events 8;
  cuts = λ rs bs es. cuts rs bs;
  label = pec_label 8;
  stored = pec_stored 8;
}
