-- Files: what is written for a list, and what is read of a file: records, label, stored colours, refusals.
-- A port of src/formats/read.rs of zigzag, changed.
use Rattle.std.specs.Prelude.{ℕ, ◌+◌, ◌*◌, ◌%◌, Bool, true, ◌||◌, List, [], ◌∷◌, ◌++◌, ℤ, pos, ltb, length, drop, get_or, Some, None, Ok, Err, Option, Result, ⊤}
use Rattle.rules.specs.Limits.{longest_file}
use Rattle.rules.specs.Lists.{commands}
use Rattle.rules.specs.Refusals.{verdict, list_refusals}
use Rattle.rules.specs.Charts.{color}
use Rattle.rules.specs.Records.{Event}
use Rattle.rules.specs.Layout.{Stored, nothing, shade, charted}
use Rattle.rules.specs.Formats.{layout_of}
use Rattle.rules.specs.Answers.{places, runs, blocks, point_total, block_total}
use Rattle.rules.specs.declared.Cmd.{Cmd}
use Rattle.rules.specs.declared.Color.{Color}
use Rattle.rules.specs.declared.Counts.{Counts}
use Rattle.rules.specs.declared.Format.{Format}
use Rattle.rules.specs.declared.Refusal.{Refusal}
use Rattle.rules.specs.declared.Refusal.TheVariants.{UnknownExtension, FileTooLong, BufferTooShort}
use Rattle.rules.specs.declared.Written.{Written}

-- ---- writing

unfoldable pub file_of : Format → List ℕ → List Cmd → List ℕ → List ℕ
file_of f name cs threads = (layout_of f).file name cs threads

-- the largest distance between a thread and the chart's own colour of the entry written for it
unfoldable pub distance_of : Format → List ℕ → ℕ
distance_of f threads = (layout_of f).distance threads

-- ---- reading: events, label, colours

unfoldable pub events_of : Format → List ℕ → List Event
events_of f s = (layout_of f).events s

unfoldable pub label_of : Format → List ℕ → List ℕ
label_of f s = (layout_of f).label s

unfoldable pub stored : Format → List ℕ → ℕ → Stored
stored f s k = (layout_of f).stored s k

-- DEFAULT_COLORS
unfoldable pub defaults : List Color
defaults =
    color 30 30 30 ∷ color 200 40 40 ∷ color 30 90 170 ∷ color 240 180 30
    ∷ color 40 140 70 ∷ color 130 60 150 ∷ color 230 120 30 ∷ color 90 90 90 ∷ []

unfoldable pub color_number : Color → ℕ
color_number c = 65536 * c.0 + 256 * c.1 + c.2

-- A block takes the stored colour of its number, or else entry number modulo 8 of the defaults.
unfoldable pub or_default : Stored → ℕ → ℕ
or_default nothing k = color_number (get_or defaults (k % 8) (color 0 0 0))
or_default (shade c) k = color_number c
or_default (charted e c) k = color_number c

unfoldable pub colour_of : Format → List ℕ → ℕ → ℕ
colour_of f s k = or_default (stored f s k) k

-- ---- reading: the answer

unfoldable pub places_of : Format → List ℕ → List ℤ
places_of f s = places (pos 0) (pos 0) 0 (events_of f s)

unfoldable pub runs_of : Format → List ℕ → List ℕ
runs_of f s = runs 0 (events_of f s)

unfoldable pub blocks_of : Format → List ℕ → List ℕ
blocks_of f s = blocks (colour_of f s) 0 0 0 (events_of f s)

unfoldable pub cuts_of : Format → List ℕ → ℕ
cuts_of f s = (layout_of f).cuts (runs_of f s) (blocks_of f s) (events_of f s)

-- ---- reading: refusals

-- Reading checks 1, 2, those of the format, 11.
unfoldable pub file_refusals : Format → List ℕ → List (Refusal × Bool)
file_refusals f s = (FileTooLong, ltb longest_file (length s)) ∷ (layout_of f).refusals s

-- 11: a buffer shorter than the answer; n, m, k are the cells of the buffers for places, runs and blocks
unfoldable pub no_room : Format → List ℕ → ℕ → ℕ → ℕ → Bool
no_room f s n m k = ltb n (length (places_of f s)) || (ltb m (length (runs_of f s)) || ltb k (length (blocks_of f s)))

-- what the checks of a read say of the file alone, as the label's call meets them, and with the buffers
unfoldable pub file_verdict : Option Format → List ℕ → Result ⊤ Refusal
file_verdict None s = verdict ((UnknownExtension, true) ∷ [])
file_verdict (Some f) s = verdict (file_refusals f s)

unfoldable pub read_verdict : Option Format → List ℕ → ℕ → ℕ → ℕ → Result ⊤ Refusal
read_verdict None s n m k = verdict ((UnknownExtension, true) ∷ [])
read_verdict (Some f) s n m k = verdict (file_refusals f s ++ (BufferTooShort, no_room f s n m k) ∷ [])

-- ---- reading: what the calls give back

-- the three answers and the cuts by extension
unfoldable pub places_told : Option Format → List ℕ → List ℤ
places_told None s = []
places_told (Some f) s = places_of f s

unfoldable pub runs_told : Option Format → List ℕ → List ℕ
runs_told None s = []
runs_told (Some f) s = runs_of f s

unfoldable pub blocks_told : Option Format → List ℕ → List ℕ
blocks_told None s = []
blocks_told (Some f) s = blocks_of f s

unfoldable pub cuts_told : Option Format → List ℕ → ℕ
cuts_told None s = 0
cuts_told (Some f) s = cuts_of f s

-- points, runs and blocks listed, counted from the three answers, and the cuts
unfoldable pub counts_of : List ℤ → List ℕ → List ℕ → ℕ → Counts
counts_of ps rs bs n = record { points = point_total ps; runs = length rs; blocks = block_total bs; cuts = n }

-- what a read answers under a verdict
unfoldable pub read_answer : Result ⊤ Refusal → Counts → Result Counts Refusal
read_answer (Ok u) c = Ok c
read_answer (Err r) c = Err r

unfoldable pub read_counts : Result Counts Refusal → Counts
read_counts (Ok c) = c
read_counts (Err r) = record { points = 0; runs = 0; blocks = 0; cuts = 0 }

-- a caller-provided buffer after the call: the answer at its front, and cells past the answer stay; a refusal writes nothing
unfoldable pub filled : {A : Type 0} → Result ⊤ Refusal → List A → List A → List A
filled (Ok u) answer l = answer ++ drop (length answer) l
filled (Err r) answer l = l

-- ---- writing: what the call gives back

-- the file and the distance by extension
unfoldable pub file_told : Option Format → List ℕ → List Cmd → List ℕ → List ℕ
file_told None name cs threads = []
file_told (Some f) name cs threads = file_of f name cs threads

unfoldable pub distance_told : Option Format → List ℕ → ℕ
distance_told None threads = 0
distance_told (Some f) threads = distance_of f threads

-- Writing checks 1, 6, 7, 8, 9, 10, 11; n is the length of the caller-provided buffer.
unfoldable pub write_verdict : Option Format → List ℕ → List ℤ → List ℤ → List ℕ → List ℕ → ℕ → Result ⊤ Refusal
write_verdict None name xs ys kinds threads n = verdict ((UnknownExtension, true) ∷ [])
write_verdict (Some f) name xs ys kinds threads n = verdict
    (list_refusals f xs ys kinds threads
    ++ (BufferTooShort, ltb n (length (file_of f name (commands xs ys kinds) threads)))
    ∷ [])

-- what a write with a distance answers under a verdict: the length of the file, and the distance
unfoldable pub write_answer : ℕ → Result ⊤ Refusal → ℕ → Result Written Refusal
write_answer far (Ok u) len = Ok (record { len = len; distance = far })
write_answer far (Err r) len = Err r

unfoldable pub write_length : Result Written Refusal → ℕ
write_length (Ok w) = w.len
write_length (Err r) = 0

unfoldable pub write_distance : Result Written Refusal → ℕ
write_distance (Ok w) = w.distance
write_distance (Err r) = 0

-- ---- the label

-- the label by its own call, which meets every refusal of reading but 11: empty under each
unfoldable pub label_under : Result ⊤ Refusal → List ℕ → List ℕ
label_under (Ok u) label = label
label_under (Err r) label = []

unfoldable pub label_told : Option Format → List ℕ → List ℕ
label_told None s = []
label_told (Some f) s = label_under (file_verdict (Some f) s) (label_of f s)
