-- What the public calls promise, for every input: the answer, and the content of each buffer at exit, as equations with the definitions
-- before.
-- The same records are the contracts of the calls, of the C exports and what the theorems speak of.
use Rattle.std.specs.Prelude.{ℕ, ◌+◌, ◌≤◌, min, ◌≡◌, List, map, ℤ, length, take, drop, Some, None, Ok, Err, Option, Result, ⊤, Bool}
use Rattle.std.specs.Borrow.{MutBor}
use denote.Triple.Both.{Both}
use Rattle.rules.specs.Limits.{most_commands, most_threads}
use Rattle.rules.specs.Lists.{commands}
use Rattle.rules.specs.Formats.{layout_of}
use Rattle.rules.specs.Refusals.{number_of, list_verdict, answer_number}
use Rattle.rules.specs.Files.{file_of, file_told, distance_told, write_verdict, write_answer, write_length, write_distance, filled}
use Rattle.rules.specs.Files.{places_of, runs_of, blocks_of, places_told, runs_told, blocks_told, cuts_told, counts_of}
use Rattle.rules.specs.Files.{file_verdict, read_verdict, read_answer, read_counts, label_told}
use Rattle.rules.specs.Hoop.{fits_told, fits_bit}
use Rattle.rules.specs.Jobs.{job_xs, job_ys, job_kinds, job_threads, job_verdict, job_counts, import_verdict, import_answer, import_counts}
use Rattle.rules.specs.Jobs.{job_name_told, job_name_start, job_of, export_verdict, export_answer, export_length}
use Rattle.rules.specs.Sewing.{list_sewing, told_sewing, list_needles, told_needles}
use Rattle.rules.specs.declared.Cmd.{Cmd}
use Rattle.rules.specs.declared.Counts.{Counts}
use Rattle.rules.specs.declared.Format.{Format}
use Rattle.rules.specs.declared.Format.TheVariants.{Pes, Pec, Dst, Exp, Jef, Vp3}
use Rattle.rules.specs.declared.Hoop.{Hoop}
use Rattle.rules.specs.declared.RoundTripRefusal.TheVariants.{NotWritten, NotRead}
use Rattle.rules.specs.declared.RoundTripRefusal.{RoundTripRefusal}
use Rattle.rules.specs.declared.Refusal.{Refusal}
use Rattle.rules.specs.declared.Written.{Written}
use Rattle.rules.specs.declared.JobCounts.{JobCounts}

-- the content behind a reference as a function is called, and as it returns
abbrev pub was : {A X : Type 0} → Both (MutBor A) X → A
was r = r.entry.now

abbrev pub left : {A X : Type 0} → Both X (MutBor A) → A
left r = r.exit.now

-- ---- writing

-- the three columns of a list of command records
abbrev pub xs_of : List Cmd → List ℤ
xs_of cs = map (λ (c : Cmd). c.x) cs

abbrev pub ys_of : List Cmd → List ℤ
ys_of cs = map (λ (c : Cmd). c.y) cs

abbrev pub kinds_of : List Cmd → List ℕ
kinds_of cs = map (λ (c : Cmd). c.kind) cs

module _ (e : Option Format) (name : List ℕ) (xs ys : List ℤ) (kinds threads out : List ℕ) where
  -- `write`, where the buffer is `out` at entry and `out'` at exit
  pub record Wrote (out' : List ℕ) (w : Result Written Refusal) : Type 0 where
    pub answered : w ≡ write_answer
        (distance_told e threads)
        (write_verdict e name xs ys kinds threads (length out))
        (length (file_told e name (commands xs ys kinds) threads))
    pub stored : out' ≡ filled
        (write_verdict e name xs ys kinds threads (length out))
        (file_told e name (commands xs ys kinds) threads)
        out

  -- `stitch_box_write`: the answer's number, 0 without a refusal, and the length of the file and the distance, 0 with one
  pub record WroteNumbers (out' : List ℕ) (n len far : ℕ) : Type 0 where
    pub answer : Result Written Refusal
    pub wrote : Wrote out' answer
    pub number : n ≡ answer_number answer
    pub size : len ≡ write_length answer
    pub distance : far ≡ write_distance answer

-- `write_bound`: the cells that hold the file of any list of n commands and t threads that a format accepts
unfoldable pub bound_of : Format → ℕ → ℕ → ℕ
bound_of f n t = (layout_of f).bound n t

-- longer lists and more threads are refused, and count as the most that are accepted; an unknown extension has no file
unfoldable pub bound_told : Option Format → ℕ → ℕ → ℕ
bound_told None n t = 0
bound_told (Some f) n t = bound_of f (min n most_commands) (min t most_threads)

-- ---- reading

module _ (e : Option Format) (file : List ℕ) (places : List ℤ) (runs blocks : List ℕ) where
  -- `read`, where the buffers are `places'`, `runs'` and `blocks'` at exit
  pub record ReadOf (places' : List ℤ) (runs' blocks' : List ℕ) (r : Result Counts Refusal) : Type 0 where
    pub answered : r ≡ read_answer
        (read_verdict e file (length places) (length runs) (length blocks))
        (counts_of (places_told e file) (runs_told e file) (blocks_told e file) (cuts_told e file))
    pub places_are : places' ≡ filled (read_verdict e file (length places) (length runs) (length blocks)) (places_told e file) places
    pub runs_are : runs' ≡ filled (read_verdict e file (length places) (length runs) (length blocks)) (runs_told e file) runs
    pub blocks_are : blocks' ≡ filled (read_verdict e file (length places) (length runs) (length blocks)) (blocks_told e file) blocks

  -- `stitch_box_read`: the answer's number, 0 without a refusal, and the four counts, 0 with one
  pub record ReadNumbers (places' : List ℤ) (runs' blocks' : List ℕ) (n points runs-n blocks-n cuts : ℕ) : Type 0 where
    pub answer : Result Counts Refusal
    pub read : ReadOf places' runs' blocks' answer
    pub number : n ≡ answer_number answer
    pub point_count : points ≡ (read_counts answer).points
    pub run_count : runs-n ≡ (read_counts answer).runs
    pub block_count : blocks-n ≡ (read_counts answer).blocks
    pub cut_count : cuts ≡ (read_counts answer).cuts

-- buffers that hold the answer of a read
pub record Enough (e : Option Format) (file : List ℕ) (places : List ℤ) (runs blocks : List ℕ) : Type 0 where
  pub place_cells : length (places_told e file) ≤ length places
  pub run_cells : length (runs_told e file) ≤ length runs
  pub block_cells : length (blocks_told e file) ≤ length blocks

-- ---- the label

-- A label stands in its file from a start on, for a length; under a refusal both are 0. Where an empty label stands is free, but it is in
-- the file.
abbrev pub LabelAt : Result ⊤ Refusal → List ℕ → List ℕ → ℕ → ℕ → Type 0
LabelAt (Ok u) file label start len = (start + len ≤ length file) × (take len (drop start file) ≡ label)
LabelAt (Err r) file label start len = (start ≡ 0) × (len ≡ 0)

-- `stitch_box_label`: the number of the refusal, which is none but 11, and where the label stands
pub record LabelNumbers (e : Option Format) (file : List ℕ) (n start len : ℕ) : Type 0 where
  pub number : n ≡ answer_number (file_verdict e file)
  pub place : LabelAt (file_verdict e file) file (label_told e file) start len

-- ---- a hoop

-- `stitch_box_fits`: the number of the refusal, which is none but 11, 0 without one; and 1 for yes, 0 for no and under a refusal
pub record FitsNumbers (e : Option Format) (file : List ℕ) (h : Hoop) (n bit : ℕ) : Type 0 where
  pub answer : Result Bool Refusal
  pub told : answer ≡ fits_told e file h
  pub number : n ≡ answer_number answer
  pub yes : bit ≡ fits_bit answer

-- ---- jobs

module _ (job : List ℕ) (xs ys : List ℤ) (kinds threads : List ℕ) where
  abbrev pub imports : Result ⊤ Refusal
  imports = import_verdict job (length xs) (length ys) (length kinds) (length threads)

  -- `import_job`, where the buffers are `xs'`, `ys'`, `kinds'` and `threads'` at exit
  pub record ImportedOf (xs' ys' : List ℤ) (kinds' threads' : List ℕ) (r : Result JobCounts Refusal) : Type 0 where
    pub answered : r ≡ import_answer imports (job_counts job)
    pub xs_are : xs' ≡ filled imports (job_xs job) xs
    pub ys_are : ys' ≡ filled imports (job_ys job) ys
    pub kinds_are : kinds' ≡ filled imports (job_kinds job) kinds
    pub threads_are : threads' ≡ filled imports (job_threads job) threads

  -- `stitch_box_import_job`: the answer's number, 0 without a refusal, and the two counts, 0 with one
  pub record ImportedNumbers (xs' ys' : List ℤ) (kinds' threads' : List ℕ) (n commands-n thread-bytes-n : ℕ) : Type 0 where
    pub answer : Result JobCounts Refusal
    pub imported : ImportedOf xs' ys' kinds' threads' answer
    pub number : n ≡ answer_number answer
    pub command_count : commands-n ≡ (import_counts answer).commands
    pub thread_byte_count : thread-bytes-n ≡ (import_counts answer).thread_bytes

-- `stitch_box_job_name`: the number of the refusal, which is none but 11, and where the name stands
pub record JobNameNumbers (job : List ℕ) (n start len : ℕ) : Type 0 where
  pub number : n ≡ answer_number (job_verdict job)
  pub starts : start ≡ job_name_start (job_verdict job)
  pub long : len ≡ length (job_name_told job)
  pub text : take len (drop start job) ≡ job_name_told job

module _ (name : List ℕ) (xs ys : List ℤ) (kinds threads out : List ℕ) where
  -- `export_job`, where the buffer is `out` at entry and `out'` at exit
  pub record Exported (out' : List ℕ) (w : Result ℕ Refusal) : Type 0 where
    pub answered : w ≡ export_answer
        (export_verdict name xs ys kinds threads (length out))
        (length (job_of name (commands xs ys kinds) threads))
    pub stored : out' ≡ filled
        (export_verdict name xs ys kinds threads (length out))
        (job_of name (commands xs ys kinds) threads)
        out

  -- `stitch_box_export_job`: the answer's number, 0 without a refusal, and the length of the job, 0 with one
  pub record ExportedNumbers (out' : List ℕ) (n len : ℕ) : Type 0 where
    pub answer : Result ℕ Refusal
    pub exported : Exported out' answer
    pub number : n ≡ answer_number answer
    pub size : len ≡ export_length answer

-- ---- writing and reading back

-- the first that refuses
unfoldable pub or_then : Result ⊤ Refusal → Result ⊤ Refusal → Result ⊤ Refusal
or_then (Ok u) v = v
or_then (Err r) v = Err r

-- what `write_and_read` answers, by the verdicts of the write and of the read, the file's length and the counts of its read
unfoldable pub round_trip_answer : Result ⊤ Refusal → Result ⊤ Refusal → ℕ → Counts → Result (ℕ × Counts) RoundTripRefusal
round_trip_answer (Err r) v len c = Err (NotWritten r)
round_trip_answer (Ok u) (Err r) len c = Err (NotRead len r)
round_trip_answer (Ok u) (Ok v) len c = Ok (len, c)

-- its number, length and counts
unfoldable pub round_trip_number : Result (ℕ × Counts) RoundTripRefusal → ℕ
round_trip_number (Err (NotWritten r)) = number_of r
round_trip_number (Err (NotRead len r)) = number_of r
round_trip_number (Ok (len, c)) = 0

unfoldable pub round_trip_length : Result (ℕ × Counts) RoundTripRefusal → ℕ
round_trip_length (Err (NotWritten r)) = 0
round_trip_length (Err (NotRead len r)) = len
round_trip_length (Ok (len, c)) = len

unfoldable pub round_trip_counts : Result (ℕ × Counts) RoundTripRefusal → Counts
round_trip_counts (Err (NotWritten r)) = record { points = 0; runs = 0; blocks = 0; cuts = 0 }
round_trip_counts (Err (NotRead len r)) = record { points = 0; runs = 0; blocks = 0; cuts = 0 }
round_trip_counts (Ok (len, c)) = c

-- the formats of demand 3: VP3 drops jumps
abbrev pub KeepsJumps : Format → Type 0
KeepsJumps Pes = Unit {0}
KeepsJumps Pec = Unit {0}
KeepsJumps Dst = Unit {0}
KeepsJumps Exp = Unit {0}
KeepsJumps Jef = Unit {0}
KeepsJumps Vp3 = ⊥

-- buffers that hold a file and the answer of its read
pub record Room (f : Format) (file out : List ℕ) (places : List ℤ) (runs blocks : List ℕ) : Type 0 where
  pub bytes : length file ≤ length out
  pub place_cells : length (places_of f file) ≤ length places
  pub run_cells : length (runs_of f file) ≤ length runs
  pub block_cells : length (blocks_of f file) ≤ length blocks

module _ (e : Option Format) (name : List ℕ) (xs ys : List ℤ) (kinds threads out : List ℕ) (places : List ℤ) (runs blocks : List ℕ) where
  abbrev pub the_file : List ℕ
  the_file = file_told e name (commands xs ys kinds) threads

  abbrev pub writes : Result ⊤ Refusal
  writes = write_verdict e name xs ys kinds threads (length out)

  abbrev pub reads : Result ⊤ Refusal
  reads = read_verdict e the_file (length places) (length runs) (length blocks)

  -- If the list is accepted for the format that the extension names, and the buffers hold the file and its answer, nothing refuses. Demand
  -- 3: in the formats that keep jumps, what stands in the buffers sews what the list sews; in VP3 it has the needle places of the list.
  pub record Keeps (places' : List ℤ) (runs' blocks' : List ℕ) (a : Result (ℕ × Counts) RoundTripRefusal) : Type 0 where
    pub unrefused : (f : Format) → e ≡ Some f → list_verdict f xs ys kinds threads ≡ Ok tt
        → Room f (file_of f name (commands xs ys kinds) threads) out places runs blocks → round_trip_number a ≡ 0
    pub sewn : (f : Format) → KeepsJumps f → e ≡ Some f → list_verdict f xs ys kinds threads ≡ Ok tt
        → Room f (file_of f name (commands xs ys kinds) threads) out places runs blocks
        → told_sewing (round_trip_counts a) places' runs' blocks' ≡ list_sewing (commands xs ys kinds)
    pub needled : e ≡ Some Vp3 → list_verdict Vp3 xs ys kinds threads ≡ Ok tt
        → Room Vp3 (file_of Vp3 name (commands xs ys kinds) threads) out places runs blocks
        → told_needles (round_trip_counts a) places' runs' blocks' ≡ list_needles (commands xs ys kinds)

  -- `write_and_read`: not written, and nothing changed; or written but not read, and the file stands; or both
  pub record WroteAndRead (out' : List ℕ) (places' : List ℤ) (runs' blocks' : List ℕ) (a : Result (ℕ × Counts) RoundTripRefusal) : Type 0 where
    pub answered : a ≡ round_trip_answer writes reads (length the_file)
        (counts_of (places_told e the_file) (runs_told e the_file) (blocks_told e the_file) (cuts_told e the_file))
    pub stored : out' ≡ filled writes the_file out
    pub places_are : places' ≡ filled (or_then writes reads) (places_told e the_file) places
    pub runs_are : runs' ≡ filled (or_then writes reads) (runs_told e the_file) runs
    pub blocks_are : blocks' ≡ filled (or_then writes reads) (blocks_told e the_file) blocks
    pub keeps : Keeps places' runs' blocks' a
