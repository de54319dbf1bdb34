-- JEF: a header, two tables of threads, then records as in EXP.
-- A port of src/formats/more.rs of zigzag, changed.
use Rattle.std.specs.Prelude.{ℕ, ◌+◌, ◌*◌, ◌/◌, ◌%◌, min, true, ◌&&◌, List, [], ◌∷◌, ◌++◌, map, ℤ, pos, negsuc, neg_ℤ, nat_abs, ◌-ℤ◌, ltb, leb, length, drop, replicate, None}
use Rattle.std.specs.Int.Signed.{le_z}
use Rattle.rules.specs.Vocabulary.{pick, bits_of, little, joined}
use Rattle.rules.specs.Lists.{op_of, written, width, height, threads_of}
use Rattle.rules.specs.Charts.{jef_chart}
use Rattle.rules.specs.Choices.{jef_palette, jef_entries, farthest}
use Rattle.rules.specs.Records.{events}
use Rattle.rules.specs.Text.{word_at}
use Rattle.rules.specs.Layout.{Layout, Stored, nothing, from_chart}
use Rattle.rules.specs.Answers.{cuts}
use Rattle.rules.specs.Exp.{pair_first, pair_of}
use Rattle.rules.specs.declared.Cmd.{Cmd}
use Rattle.rules.specs.declared.Color.{Color}
use Rattle.rules.specs.declared.Op.{Op}
use Rattle.rules.specs.declared.Op.TheVariants.{Stitch, Jump, Trim, ColorChange, End}
use Rattle.rules.specs.declared.Refusal.TheVariants.{FileTooShort}

-- ---- reading

-- the records: from the offset; one below zero or past the end gives none
unfoldable pub jef_records : List ℕ → List ℕ
jef_records s = pick (le_z (pos 0) (word_at 0 s)) (drop (nat_abs (word_at 0 s)) s) []

-- the count at 24, missing or negative being 0, at most 256
unfoldable pub jef_count : List ℕ → ℕ
jef_count s = pick (leb 28 (length s) && le_z (pos 0) (word_at 24 s)) (min (nat_abs (word_at 24 s)) 256) 0

-- the entry of block k: the absolute value of the number at 116 + 4 k, modulo 79
unfoldable pub jef_entry : List ℕ → ℕ → ℕ
jef_entry s k = nat_abs (word_at (116 + 4 * k) s) % 79

-- stored for k below the count, as far as the number is wholly in the file
unfoldable pub jef_stored : List ℕ → ℕ → Stored
jef_stored s k = pick (ltb k (jef_count s) && leb (120 + 4 * k) (length s)) (from_chart jef_chart (jef_entry s k)) nothing

-- ---- writing

-- Written after 0x80: a jump is 02, a colour change 01 00 00, the end 10; a trim no bytes at all.
unfoldable pub jef_cmd : Op → ℤ → ℤ → List ℕ
jef_cmd Stitch dx dy = pair_of dx dy
jef_cmd Jump dx dy = 0x80 ∷ 0x02 ∷ pair_of dx dy
jef_cmd Trim dx dy = []
jef_cmd ColorChange dx dy = 0x80 ∷ 0x01 ∷ 0x00 ∷ 0x00 ∷ []
jef_cmd End dx dy = 0x80 ∷ 0x10 ∷ []

-- a signed number of 32 bits, low byte first
unfoldable pub word : ℤ → List ℕ
word z = little 4 (bits_of 31 z)

-- the header's count: one, one for a stitch, two for a jump or a colour change
unfoldable pub points_in : Op → ℕ
points_in Stitch = 1
points_in Jump = 2
points_in Trim = 0
points_in ColorChange = 2
points_in End = 0

unfoldable pub point_count_of : List Cmd → ℕ
point_count_of [] = 1
point_count_of (c ∷ cs) = points_in (op_of c.kind) + point_count_of cs

unfoldable pub jef_hoop : ℕ → ℕ → ℕ
jef_hoop w h =
    pick (ltb w 500 && ltb h 500) 1
    (pick (ltb w 1260 && ltb h 1100) 3
    (pick (ltb w 1400 && ltb h 2000) 2
    (pick (ltb w 2000 && ltb h 2000) 4 0)))

-- half of a size, a half going up
unfoldable pub half_up : ℕ → ℕ
half_up n = (n + 1) / 2

-- the distances to the edges of a hoop of half sizes (ex, ey): x, y, x, y; -1 four times where the design does not fit
unfoldable pub edges : ℕ → ℕ → ℕ → ℕ → List ℕ
edges ex ey w h =
    let x : ℤ = pos ex -ℤ pos (half_up w) in
    let y : ℤ = pos ey -ℤ pos (half_up h) in
    pick (le_z (pos 0) x && le_z (pos 0) y)
    (word x ++ word y ++ word x ++ word y)
    (word (negsuc 0) ++ word (negsuc 0) ++ word (negsuc 0) ++ word (negsuc 0))

-- the thread table; no threads: one entry 1
unfoldable pub or_one : List ℕ → List ℕ
or_one [] = 1 ∷ []
or_one (e ∷ es) = e ∷ es

unfoldable pub jef_table : List Color → List ℕ
jef_table threads = or_one (jef_entries None threads)

-- how far off the threads are, by the entries written in the table
unfoldable pub jef_distance : List Color → ℕ
jef_distance threads = farthest jef_palette threads (jef_table threads)

unfoldable pub words : List ℕ → List ℕ
words ns = joined (map (little 4) ns)

-- offset, 0x14, "20260101000000", 00 00, threads, points, hoop, half sizes twice, edges of four hoops, threads, 0x0D for each
unfoldable pub jef_header : List Cmd → List Color → List ℕ
jef_header cs threads =
    let table : List ℕ = jef_table threads in
    let w : ℕ = width cs in
    let h : ℕ = height cs in
    joined
    (little 4 (0x74 + 8 * length table)
    ∷ little 4 0x14
    ∷ (0x32 ∷ 0x30 ∷ 0x32 ∷ 0x36 ∷ 0x30 ∷ 0x31 ∷ 0x30 ∷ 0x31 ∷ 0x30 ∷ 0x30 ∷ 0x30 ∷ 0x30 ∷ 0x30 ∷ 0x30 ∷ 0x00 ∷ 0x00 ∷ [])
    ∷ little 4 (length table)
    ∷ little 4 (point_count_of cs)
    ∷ little 4 (jef_hoop w h)
    ∷ words (half_up w ∷ half_up h ∷ half_up w ∷ half_up h ∷ [])
    ∷ edges 550 550 w h
    ∷ edges 250 250 w h
    ∷ edges 700 1000 w h
    ∷ edges 700 1000 w h
    ∷ words table
    ∷ words (replicate (length table) 0x0D)
    ∷ [])

unfoldable pub jef_file : List Cmd → List Color → List ℕ
jef_file cs threads = jef_header cs threads ++ written jef_cmd (pos 0) (pos 0) cs

-- ---- the format

abbrev pub jef_layout : Layout
jef_layout = record {
  extension = 0x6A ∷ 0x65 ∷ 0x66 ∷ [];
  file = λ name cs threads. jef_file cs (threads_of threads);
  bound = λ n t. 124 + 4 * n + 8 * t;
  distance = λ threads. jef_distance (threads_of threads);
  least = neg_ℤ (pos 127);
  greatest = pos 127;
  refusals = λ s. (FileTooShort, ltb (length s) 4) ∷ [];
  events = λ s. events (pair_first true) (jef_records s);
  cuts = λ rs bs es. cuts rs bs;
  label = λ s. [];
  stored = jef_stored;
}
