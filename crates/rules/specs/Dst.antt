-- DST: 512 header bytes, then records of three.
-- A port of src/formats/dst.rs and src/formats/read.rs of zigzag, changed.
use Rattle.std.specs.Prelude.{ℕ, suc, ◌+◌, ◌-◌, ◌*◌, ◌/◌, ◌%◌, ◌^◌, Bool, true, false, ◌&&◌, List, [], ◌∷◌, ◌++◌, ℤ, pos, neg_ℤ, nat_abs, ◌+ℤ◌, ◌-ℤ◌, eqb, ltb, leb, length, take, drop, get_or, replicate, Some, None, Option}
use Rattle.std.specs.Int.Signed.{lt_z, non_neg}
use Rattle.std.specs.Int.Bits.{bit_and}
use Rattle.rules.specs.Vocabulary.{pick, count, joined, right, padded}
use Rattle.rules.specs.Limits.{dst_header}
use Rattle.rules.specs.Lists.{op_of, is_change, is_trim, written, last_x, last_y, min_x, min_y, max_x, max_y, dst_name}
use Rattle.rules.specs.Charts.{color}
use Rattle.rules.specs.Records.{Event, stitch, jump, change, events}
use Rattle.rules.specs.Text.{trimmed, lines_of, begins}
use Rattle.rules.specs.Layout.{Layout, shade_at}
use Rattle.rules.specs.declared.Cmd.{Cmd}
use Rattle.rules.specs.declared.Color.{Color}
use Rattle.rules.specs.declared.Op.{Op}
use Rattle.rules.specs.declared.Op.TheVariants.{Stitch, Jump, Trim, ColorChange, End}
use Rattle.rules.specs.declared.Record.{Record}
use Rattle.rules.specs.declared.Record.TheVariants.{StitchBy, JumpBy, ChangeBy, Finish}
use Rattle.rules.specs.declared.Refusal.TheVariants.{FileTooShort}

-- ---- reading: records

unfoldable pub bit : ℕ → ℕ → ℕ
bit i n = n / 2 ^ i % 2

unfoldable pub weigh : ℕ → ℕ → ℕ → ℕ → ℕ → ℕ
weigh d81 d27 d9 d3 d1 = 81 * d81 + 27 * d27 + 9 * d9 + 3 * d3 + d1

-- Each axis is a sum of ±81, ±27, ±9, ±3, ±1 by bit pairs; y is negated.
unfoldable pub dst_x : ℕ → ℕ → ℕ → ℤ
dst_x b₀ b₁ b₂ =
    pos (weigh (bit 2 b₂) (bit 2 b₁) (bit 2 b₀) (bit 0 b₁) (bit 0 b₀))
    -ℤ pos (weigh (bit 3 b₂) (bit 3 b₁) (bit 3 b₀) (bit 1 b₁) (bit 1 b₀))

unfoldable pub dst_y : ℕ → ℕ → ℕ → ℤ
dst_y b₀ b₁ b₂ = neg_ℤ
    (pos (weigh (bit 5 b₂) (bit 5 b₁) (bit 5 b₀) (bit 7 b₁) (bit 7 b₀))
    -ℤ pos (weigh (bit 4 b₂) (bit 4 b₁) (bit 4 b₀) (bit 6 b₁) (bit 6 b₀)))

-- a byte under a mask equal to itself
unfoldable pub under : ℕ → ℕ → Bool
under mask b = eqb (bit_and b mask) mask

-- The third byte is tested for 0xF3 (end), then 0xC3 (colour change), then 0x83 (jump); else it is a stitch.
unfoldable pub dst_record : ℕ → ℤ → ℤ → Record
dst_record b₂ dx dy =
    pick (under 0xF3 b₂) Finish
    (pick (under 0xC3 b₂) (ChangeBy dx dy 3)
    (pick (under 0x83 b₂) (JumpBy dx dy 3) (StitchBy dx dy 3)))

-- One or two bytes left over are ignored.
unfoldable pub dst_first : List ℕ → Record
dst_first [] = Finish
dst_first (b₀ ∷ []) = Finish
dst_first (b₀ ∷ b₁ ∷ []) = Finish
dst_first (b₀ ∷ b₁ ∷ b₂ ∷ rest) = dst_record b₂ (dst_x b₀ b₁ b₂) (dst_y b₀ b₁ b₂)

-- ---- reading: cuts

-- the jumps in a row that come first
unfoldable pub jumps_first : List Event → ℕ
jumps_first [] = 0
jumps_first (stitch dx dy ∷ es) = 0
jumps_first (jump dx dy ∷ es) = suc (jumps_first es)
jumps_first (change dx dy ∷ es) = 0

-- a stitch comes next, at once or behind such a row: it is of the same block, since a colour change ends the row
unfoldable pub stitch_next : List Event → Bool
stitch_next [] = false
stitch_next (stitch dx dy ∷ es) = true
stitch_next (jump dx dy ∷ es) = stitch_next es
stitch_next (change dx dy ∷ es) = false

-- A machine cuts only after three or more jump records in a row between two stitches of the same block; these come behind the first of
-- the two.
unfoldable pub cut_next : List Event → Bool
cut_next es = leb 3 (jumps_first es) && stitch_next es

-- The count is the number of such rows, however long.
unfoldable pub dst_cuts : List Event → ℕ
dst_cuts [] = 0
dst_cuts (stitch dx dy ∷ es) = pick (cut_next es) 1 0 + dst_cuts es
dst_cuts (jump dx dy ∷ es) = dst_cuts es
dst_cuts (change dx dy ∷ es) = dst_cuts es

-- ---- reading: the header's lines

-- The last line that begins `LA:` gives the label, the rest of that line.
unfoldable pub last_label : List ℕ → List (List ℕ) → List ℕ
last_label found [] = found
last_label found (l ∷ ls) = last_label (pick (begins (0x4C ∷ 0x41 ∷ 0x3A ∷ []) l) (drop 3 l) found) ls

unfoldable pub hex_digit : ℕ → ℕ
hex_digit b =
    pick (leb 0x30 b && leb b 0x39) (b - 0x30)
    (pick (leb 0x41 b && leb b 0x46) (b - 0x37)
    (pick (leb 0x61 b && leb b 0x66) (b - 0x57) 16))

-- a hexadecimal pair, or `+` and one digit; 256 where it is neither
unfoldable pub hex_pair : ℕ → ℕ → ℕ
hex_pair a b =
    pick (ltb (hex_digit b) 16)
    (pick (eqb a 0x2B) (hex_digit b) (pick (ltb (hex_digit a) 16) (16 * hex_digit a + hex_digit b) 256))
    256

unfoldable pub hex_color : ℕ → ℕ → ℕ → Option Color
hex_color r g b = pick (ltb r 256 && (ltb g 256 && ltb b 256)) (Some (color r g b)) None

-- exactly six bytes as three pairs
unfoldable pub six_digits : List ℕ → Option Color
six_digits s =
    pick (eqb (length s) 6)
    (hex_color (hex_pair (get_or s 0 0) (get_or s 1 0)) (hex_pair (get_or s 2 0) (get_or s 3 0)) (hex_pair (get_or s 4 0) (get_or s 5 0)))
    None

unfoldable pub drop_hashes : List ℕ → List ℕ
drop_hashes [] = []
drop_hashes (b ∷ s) = pick (eqb b 0x23) (drop_hashes s) (b ∷ s)

unfoldable pub before_comma : List ℕ → List ℕ
before_comma [] = []
before_comma (b ∷ s) = pick (eqb b 0x2C) [] (b ∷ before_comma s)

unfoldable pub line_color : List ℕ → Option Color
line_color l = pick (begins (0x54 ∷ 0x43 ∷ 0x3A ∷ []) l) (six_digits (drop_hashes (trimmed (before_comma (drop 3 l))))) None

-- A line that doesn't fit gives no colour.
unfoldable pub add_color : Option Color → List Color → List Color
add_color None cs = cs
add_color (Some c) cs = c ∷ cs

unfoldable pub line_colors : List (List ℕ) → List Color
line_colors [] = []
line_colors (l ∷ ls) = add_color (line_color l) (line_colors ls)

-- ---- writing: the greedy rule

pub data Digit : Type 0 where
  minus nought plus : Digit

-- the digit of z whose lower digits reach to h
unfoldable pub digit : ℕ → ℤ → Digit
digit h z = pick (lt_z (pos h) z) plus (pick (lt_z z (neg_ℤ (pos h))) minus nought)

-- what z leaves to its lower digits, its digit of weight w being d
unfoldable pub rest : ℕ → Digit → ℤ → ℤ
rest w minus z = z +ℤ pos w
rest w nought z = z
rest w plus z = z -ℤ pos w

unfoldable pub z27 : ℤ → ℤ
z27 z = rest 81 (digit 40 z) z

unfoldable pub z9 : ℤ → ℤ
z9 z = rest 27 (digit 13 (z27 z)) (z27 z)

unfoldable pub z3 : ℤ → ℤ
z3 z = rest 9 (digit 4 (z9 z)) (z9 z)

unfoldable pub z1 : ℤ → ℤ
z1 z = rest 3 (digit 1 (z3 z)) (z3 z)

-- the pair of bits of a digit: p for +, m for -
unfoldable pub pair : ℕ → ℕ → Digit → ℕ
pair p m minus = m
pair p m nought = 0
pair p m plus = p

-- a record that moves by (x, -y), with the bits of its kind in the third byte
unfoldable pub dst_bytes : ℕ → ℤ → ℤ → List ℕ
dst_bytes kind x y =
    (pair 0x01 0x02 (digit 0 (z1 x)) + pair 0x04 0x08 (digit 4 (z9 x)) + pair 0x20 0x10 (digit 4 (z9 y)) + pair 0x80 0x40 (digit 0 (z1 y)))
    ∷ (pair 0x01 0x02 (digit 1 (z3 x)) + pair 0x04 0x08 (digit 13 (z27 x)) + pair 0x20 0x10 (digit 13 (z27 y)) + pair 0x80 0x40 (digit 1 (z3 y)))
    ∷ (kind + pair 0x04 0x08 (digit 40 x) + pair 0x20 0x10 (digit 40 y))
    ∷ []

-- A trim is jumps (2, 2), (-4, -4), (2, 2).
unfoldable pub dst_cmd : Op → ℤ → ℤ → List ℕ
dst_cmd Stitch dx dy = dst_bytes 0x03 dx (neg_ℤ dy)
dst_cmd Jump dx dy = dst_bytes 0x83 dx (neg_ℤ dy)
dst_cmd Trim dx dy = dst_bytes 0x83 (pos 2) (neg_ℤ (pos 2)) ++ dst_bytes 0x83 (neg_ℤ (pos 4)) (pos 4) ++ dst_bytes 0x83 (pos 2) (neg_ℤ (pos 2))
dst_cmd ColorChange dx dy = 0x00 ∷ 0x00 ∷ 0xC3 ∷ []
dst_cmd End dx dy = 0x00 ∷ 0x00 ∷ 0xF3 ∷ []

-- a header line: two characters, a colon, a text, a carriage return
unfoldable pub line : ℕ → ℕ → List ℕ → List ℕ
line a b text = joined ((a ∷ b ∷ 0x3A ∷ []) ∷ text ∷ (0x0D ∷ []) ∷ [])

-- a sign and a number in five places
unfoldable pub signed_right : ℤ → List ℕ
signed_right z = pick (non_neg z) 0x2B 0x2D ∷ right 5 (nat_abs z)

-- records written: a trim is three
unfoldable pub record_count : List Cmd → ℕ
record_count cs = length cs + 2 * count (λ (c : Cmd). is_trim (op_of c.kind)) cs

-- the 125 bytes of text: LA, ST, CO, +X, -X, +Y, -Y, AX, AY, MX, MY, PD
unfoldable pub dst_text : List ℕ → List Cmd → List ℕ
dst_text name cs = joined
    (line 0x4C 0x41 (padded 16 (dst_name name))
    ∷ line 0x53 0x54 (right 7 (record_count cs))
    ∷ line 0x43 0x4F (right 3 (count (λ (c : Cmd). is_change (op_of c.kind)) cs))
    ∷ line 0x2B 0x58 (right 5 (nat_abs (max_x cs)))
    ∷ line 0x2D 0x58 (right 5 (nat_abs (min_x cs)))
    ∷ line 0x2B 0x59 (right 5 (nat_abs (max_y cs)))
    ∷ line 0x2D 0x59 (right 5 (nat_abs (min_y cs)))
    ∷ line 0x41 0x58 (signed_right (last_x cs))
    ∷ line 0x41 0x59 (signed_right (neg_ℤ (last_y cs)))
    ∷ line 0x4D 0x58 (signed_right (pos 0))
    ∷ line 0x4D 0x59 (signed_right (pos 0))
    ∷ line 0x50 0x44 (replicate 6 0x2A)
    ∷ (0x1A ∷ [])
    ∷ [])

unfoldable pub dst_file : List ℕ → List Cmd → List ℕ
dst_file name cs = padded dst_header (dst_text name cs) ++ written dst_cmd (pos 0) (pos 0) cs

-- ---- the format

abbrev pub dst_layout : Layout
dst_layout = record {
  extension = 0x64 ∷ 0x73 ∷ 0x74 ∷ [];
  file = λ name cs threads. dst_file name cs;
  bound = λ n t. dst_header + 9 * n;
  distance = λ threads. 0;
  least = neg_ℤ (pos 121);
  greatest = pos 121;
  refusals = λ s. (FileTooShort, ltb (length s) dst_header) ∷ [];
  events = λ s. events dst_first (drop dst_header s);
  cuts = λ rs bs es. dst_cuts es;
  label = λ s. trimmed (last_label [] (lines_of (take dst_header s)));
  stored = λ s. shade_at (line_colors (lines_of (take dst_header s)));
}
