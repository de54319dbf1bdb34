-- PES: a header, the sections of the design, the colour log, then a PEC part.
-- A port of src/formats/pes.rs of zigzag, changed.
use Rattle.std.specs.Prelude.{ℕ, suc, ◌+◌, ◌/◌, ◌*◌, min, Bool, true, false, not, List, [], ◌∷◌, ◌++◌, map, ℤ, pos, negsuc, neg_ℤ, nat_abs, ◌-ℤ◌, eqb, ltb, Float, length, get_or, replicate}
use Rattle.std.specs.Int.Signed.{lt_z}
use Rattle.std.specs.Float.{binary32}
use Rattle.std.specs.Float.Ieee.{round, to_bits}
use Rattle.rules.specs.Vocabulary.{pick, bits_of, little, joined}
use Rattle.rules.specs.Limits.{most_changes}
use Rattle.rules.specs.Lists.{op_of, width, height, min_x, max_y, threads_of}
use Rattle.rules.specs.Charts.{color}
use Rattle.rules.specs.Choices.{nearest_index, pec_palette}
use Rattle.rules.specs.Text.{word_at, begins}
use Rattle.rules.specs.Layout.{Layout}
use Rattle.rules.specs.Answers.{cuts}
use Rattle.rules.specs.Pec.{found_or, pec_distance, pec_part, pec_events, pec_label, pec_stored, no_count}
use Rattle.rules.specs.declared.Cmd.{Cmd}
use Rattle.rules.specs.declared.Color.{Color}
use Rattle.rules.specs.declared.Op.{Op}
use Rattle.rules.specs.declared.Op.TheVariants.{Stitch, Jump, Trim, ColorChange, End}
use Rattle.rules.specs.declared.Refusal.TheVariants.{BadOpening, FileTooShort, StartBelowZero}

-- PES matrix fields are f32 and exact in this domain: the f32 nearest to z / 2
unfoldable pub halves : ℤ → Float
halves (pos n) = round binary32 false n 2
halves (negsuc n) = round binary32 true (suc n) 2

-- a field of the matrix, from twice its value
unfoldable pub matrix_field : ℤ → List ℕ
matrix_field z = little 4 (to_bits binary32 (halves z))

-- the entry for thread i; black where there are too few threads
unfoldable pub thread_code : List Color → ℕ → ℕ
thread_code threads i = found_or 1 (nearest_index (get_or threads i (color 0 0 0)) pec_palette)

-- A section is a run of commands of one kind: all places of stitches, or for jumps where the last stitch was and where they lead.

-- the commands of kind k at the front, and the place that the last of them leaves the needle at
unfoldable pub run_length : ℕ → List Cmd → ℕ
run_length k [] = 0
run_length k (c ∷ cs) = pick (eqb c.kind k) (suc (run_length k cs)) 0

unfoldable pub run_x : ℕ → ℤ → List Cmd → ℤ
run_x k x [] = x
run_x k x (c ∷ cs) = pick (eqb c.kind k) (run_x k c.x cs) x

unfoldable pub run_y : ℕ → ℤ → List Cmd → ℤ
run_y k y [] = y
run_y k y (c ∷ cs) = pick (eqb c.kind k) (run_y k c.y cs) y

-- what is known between two commands: the kind of the one before (an end at first), the entry in use, the next thread,
-- the place of the last stitch, the sections so far
pub record PesState : Type 0 where
  pub before : ℕ
  pub code : ℕ
  pub thread : ℕ
  pub x : ℤ
  pub y : ℤ
  pub sections : ℕ

unfoldable pub pes_start : List Color → PesState
pes_start threads = record { before = 4; code = thread_code threads 0; thread = 1; x = pos 0; y = pos 0; sections = 0 }

-- a run opens where the kind changes
unfoldable pub opens : PesState → Cmd → Bool
opens s c = not (eqb c.kind s.before)

-- a run of stitches or of jumps opens a section; a run of colour changes moves on by one thread
unfoldable pub pes_next : List Color → PesState → Bool → Op → Cmd → PesState
pes_next threads s new Stitch c = record { before = c.kind; code = s.code; thread = s.thread; x = c.x; y = c.y; sections = s.sections + pick new 1 0 }
pes_next threads s new Jump c = record { before = c.kind; code = s.code; thread = s.thread; x = s.x; y = s.y; sections = s.sections + pick new 1 0 }
pes_next threads s new Trim c = record { before = c.kind; code = s.code; thread = s.thread; x = s.x; y = s.y; sections = s.sections }
pes_next threads s true ColorChange c = record { before = c.kind; code = thread_code threads s.thread; thread = s.thread + 1; x = s.x; y = s.y; sections = s.sections }
pes_next threads s false ColorChange c = record { before = c.kind; code = s.code; thread = s.thread; x = s.x; y = s.y; sections = s.sections }
pes_next threads s new End c = record { before = c.kind; code = s.code; thread = s.thread; x = s.x; y = s.y; sections = s.sections }

-- a place from the left and the bottom edge, as two numbers of 16 bits
unfoldable pub pes_point : ℤ → ℤ → ℤ → ℤ → List ℕ
pes_point left bottom x y = little 2 (bits_of 15 (x -ℤ left)) ++ little 2 (bits_of 15 (y -ℤ bottom))

-- a section's beginning: 0x8003 behind the section before, whether it is a jump, the entry, the points
unfoldable pub pes_open : PesState → ℕ → ℕ → List ℕ
pes_open s flag points = joined (pick (eqb s.sections 0) [] (little 2 0x8003) ∷ little 2 flag ∷ little 2 s.code ∷ little 2 points ∷ [])

-- what command c writes, cs being the list from it on
unfoldable pub pes_cmd : ℤ → ℤ → PesState → Bool → Op → Cmd → List Cmd → List ℕ
pes_cmd left bottom s true Stitch c cs = pes_open s 0 (run_length c.kind cs) ++ pes_point left bottom c.x c.y
pes_cmd left bottom s false Stitch c cs = pes_point left bottom c.x c.y
pes_cmd left bottom s true Jump c cs =
    joined (pes_open s 1 2 ∷ pes_point left bottom s.x s.y ∷ pes_point left bottom (run_x c.kind c.x cs) (run_y c.kind c.y cs) ∷ [])
pes_cmd left bottom s false Jump c cs = []
pes_cmd left bottom s new Trim c cs = []
pes_cmd left bottom s new ColorChange c cs = []
pes_cmd left bottom s new End c cs = []

unfoldable pub pes_sections : ℤ → ℤ → List Color → PesState → List Cmd → List ℕ
pes_sections left bottom threads s [] = []
pes_sections left bottom threads s (c ∷ cs) =
    pes_cmd left bottom s (opens s c) (op_of c.kind) c (c ∷ cs)
    ++ pes_sections left bottom threads (pes_next threads s (opens s c) (op_of c.kind) c) cs

unfoldable pub section_count : List Color → PesState → List Cmd → ℕ
section_count threads s [] = s.sections
section_count threads s (c ∷ cs) = section_count threads (pes_next threads s (opens s c) (op_of c.kind) c) cs

-- does the command open a section
unfoldable pub opens_section : Bool → Op → Bool
opens_section new Stitch = new
opens_section new Jump = new
opens_section new Trim = false
opens_section new ColorChange = false
opens_section new End = false

-- the colour log: section and entry where the entry is not that of the log before (65 at first, no entry), as numbers in a row
unfoldable pub color_log : List Color → ℕ → PesState → List Cmd → List ℕ
color_log threads last s [] = []
color_log threads last s (c ∷ cs) =
    let new : Bool = opens s c in
    let next : PesState = pes_next threads s new (op_of c.kind) c in
    pick (opens_section new (op_of c.kind))
    (pick (eqb last s.code) (color_log threads last next cs) (s.sections ∷ s.code ∷ color_log threads s.code next cs))
    (color_log threads last next cs)

-- a string: its length, its bytes
unfoldable pub pes_string : List ℕ → List ℕ
pes_string bytes = little 2 (length bytes) ++ bytes

-- numbers of 16 bits in a row
unfoldable pub shorts : List ℕ → List ℕ
shorts ns = joined (map (little 2) ns)

-- "CEmbOne", eight zeros, the matrix 1, 0, 0, 1, 1000 - width / 2, 1000 + height / 2, sizes, sections; "CSewSeg", the sections, the
-- colour log
unfoldable pub pes_blocks : List Cmd → List Color → List ℕ
pes_blocks cs threads =
    let log : List ℕ = color_log threads 65 (pes_start threads) cs in
    joined
    (pes_string (0x43 ∷ 0x45 ∷ 0x6D ∷ 0x62 ∷ 0x4F ∷ 0x6E ∷ 0x65 ∷ [])
    ∷ shorts (replicate 8 0)
    ∷ matrix_field (pos 2) ∷ matrix_field (pos 0) ∷ matrix_field (pos 0) ∷ matrix_field (pos 2)
    ∷ matrix_field (pos 2000 -ℤ pos (width cs)) ∷ matrix_field (pos (2000 + height cs))
    ∷ shorts (1 ∷ 0 ∷ 0 ∷ width cs ∷ height cs ∷ [])
    ∷ replicate 8 0x00
    ∷ shorts (section_count threads (pes_start threads) cs ∷ 0xFFFF ∷ 0 ∷ [])
    ∷ pes_string (0x43 ∷ 0x53 ∷ 0x65 ∷ 0x77 ∷ 0x53 ∷ 0x65 ∷ 0x67 ∷ [])
    ∷ pes_sections (min_x cs) (max_y cs) threads (pes_start threads) cs
    ∷ shorts (length log / 2 ∷ [])
    ∷ shorts log
    ∷ shorts (0 ∷ 0 ∷ [])
    ∷ [])

-- what stands between the start of the PEC part and that part: 1, 1, 1, 0xFFFF, 0, the blocks
unfoldable pub pes_middle : List Cmd → List Color → List ℕ
pes_middle cs threads = shorts (1 ∷ 1 ∷ 1 ∷ 0xFFFF ∷ 0 ∷ []) ++ pes_blocks cs threads

-- "#PES0001", the start of the PEC part, the header, the part
unfoldable pub pes_file : List ℕ → List Cmd → List Color → List ℕ
pes_file name cs threads = joined
    ((0x23 ∷ 0x50 ∷ 0x45 ∷ 0x53 ∷ 0x30 ∷ 0x30 ∷ 0x30 ∷ 0x31 ∷ [])
    ∷ little 4 (12 + length (pes_middle cs threads))
    ∷ pes_middle cs threads
    ∷ pec_part name cs threads
    ∷ [])

-- ---- the format

-- the number at 8 says where the PEC part begins
unfoldable pub part_at : List ℕ → ℕ
part_at s = nat_abs (word_at 8 s)

abbrev pub pes_layout : Layout
pes_layout = record {
  extension = 0x70 ∷ 0x65 ∷ 0x73 ∷ [];
  file = λ name cs threads. pes_file name cs (threads_of threads);
  bound = λ n t. 1094 + 26 * n + 228 * min n most_changes;
  -- by the entries of the part: the codes of the sections do not count
  distance = λ threads. pec_distance (threads_of threads);
  least = neg_ℤ (pos 2048);
  greatest = pos 2047;
  refusals = λ s.
      (BadOpening, not (begins (0x23 ∷ 0x50 ∷ 0x45 ∷ 0x53 ∷ []) s))
      ∷ (FileTooShort, ltb (length s) 12)
      ∷ (StartBelowZero, lt_z (word_at 8 s) (pos 0))
      ∷ (FileTooShort, no_count (part_at s) s)
      ∷ [];
  events = λ s. pec_events (part_at s) s;
  cuts = λ rs bs es. cuts rs bs;
  label = λ s. pec_label (part_at s) s;
  stored = λ s. pec_stored (part_at s) s;
}
