-- Jobs: a name, threads and a list of commands, handed over as tagged fields; imported and exported.
use Rattle.std.specs.Prelude.{ℕ, suc, ◌%◌, Bool, ◌&&◌, ◌||◌, not, List, [], ◌∷◌, ◌++◌, map, ltb, leb, eqb, ℤ, length, take, drop, Ok, Err, Result, ⊤}
use Rattle.rules.specs.Vocabulary.{pick, any, signed, bits_of, little, from_little, joined, fuelled}
use Rattle.rules.specs.Limits.{longest_file, longest_name, field_commands}
use Rattle.rules.specs.Lists.{commands}
use Rattle.rules.specs.Vp3.{row_of}
use Rattle.rules.specs.Refusals.{verdict, command_refusals}
use Rattle.rules.specs.Files.{label_under}
use Rattle.rules.specs.declared.Cmd.{Cmd}
use Rattle.rules.specs.declared.JobCounts.{JobCounts}
use Rattle.rules.specs.declared.Refusal.{Refusal}
use Rattle.rules.specs.declared.Refusal.TheVariants.{FileTooLong, BufferTooShort, BadTag, BadLength}

-- ---- the fields of a job, in order of place

-- Tag and content of each field; then how they end: with the job, or at the first fault.
pub data Fields : Type 0 where
  ended : Result ⊤ Refusal → Fields
  field : ℕ → List ℕ → Fields → Fields

-- 13: an unknown tag or kind, a tag out of order, or no name; 14: a field that passes the end, or a length that its tag does not have
unfoldable pub bad_tag : Fields
bad_tag = ended (Err BadTag)

unfoldable pub bad_length : Fields
bad_length = ended (Err BadLength)

-- Tag 1 is the name (once, first); tag 2, a thread, comes before tag 3, commands. `before` is the tag of the field before, 0 at the front.
unfoldable pub follows : ℕ → ℕ → Bool
follows before tag = pick (eqb before 0) (eqb tag 1) (leb 2 tag && leb tag 3 && leb before tag)

-- at most 64 for a name, 3 for a thread, a multiple of 5 for commands
unfoldable pub length_allowed : ℕ → ℕ → Bool
length_allowed tag len = pick (eqb tag 1) (leb len longest_name) (pick (eqb tag 2) (eqb len 3) (eqb (len % 5) 0))

-- commands of five bytes: kind, then x and y as signed 16-bit numbers, low byte first
unfoldable pub rows_of : List ℕ → List Cmd
rows_of [] = []
rows_of (k ∷ []) = []
rows_of (k ∷ a ∷ []) = []
rows_of (k ∷ a ∷ b ∷ []) = []
rows_of (k ∷ a ∷ b ∷ c ∷ []) = []
rows_of (k ∷ a ∷ b ∷ c ∷ d ∷ s) =
    record { x = signed 15 (from_little (a ∷ b ∷ [])); y = signed 15 (from_little (c ∷ d ∷ [])); kind = k } ∷ rows_of s

-- a kind over 4
unfoldable pub unknown_kind : Cmd → Bool
unknown_kind c = ltb 4 c.kind

-- the commands of a field: only tag 3 has any
unfoldable pub rows_in : ℕ → List ℕ → List Cmd
rows_in tag content = pick (eqb tag 3) (rows_of content) []

-- The content, whose length is `len`, and the fields after it. s is what is left of the job.
unfoldable pub content_then : (ℕ → List ℕ → Fields) → ℕ → ℕ → List ℕ → Fields
content_then go tag len s =
    pick (ltb (length s) len || not (length_allowed tag len)) bad_length
    (pick (any unknown_kind (rows_in tag (take len s))) bad_tag
    (field tag (take len s) (go tag (drop len s))))

-- A tag byte, a two-byte length low byte first, the content; a job that ends at once has no name.
unfoldable pub field_then : (ℕ → List ℕ → Fields) → ℕ → List ℕ → Fields
field_then go before [] = pick (eqb before 0) bad_tag (ended (Ok tt))
field_then go before (tag ∷ s) =
    pick (not (follows before tag)) bad_tag
    (pick (ltb (length s) 2) bad_length
    (content_then go tag (from_little (take 2 s)) (drop 2 s)))

-- the fields of s behind one with the tag `before`
unfoldable pub fields_from : ℕ → List ℕ → Fields
fields_from before s =
    fuelled
    (λ (go : ℕ × List ℕ → Fields) (p : ℕ × List ℕ). field_then (λ t r. go (t, r)) p.0 p.1)
    (ended (Ok tt)) (suc (length s)) (before, s)

unfoldable pub job_fields : List ℕ → Fields
job_fields job = fields_from 0 job

-- the first fault, in order of place
unfoldable pub fault_of : Fields → Result ⊤ Refusal
fault_of (ended v) = v
fault_of (field tag content fs) = fault_of fs

-- the name is the first field
unfoldable pub name_of : Fields → List ℕ
name_of (ended v) = []
name_of (field tag content fs) = content

-- the bytes of the threads
unfoldable pub threads_in : Fields → List ℕ
threads_in (ended v) = []
threads_in (field tag content fs) = pick (eqb tag 2) content [] ++ threads_in fs

-- Several tag 3 fields join into one list.
unfoldable pub commands_in : Fields → List Cmd
commands_in (ended v) = []
commands_in (field tag content fs) = rows_in tag content ++ commands_in fs

-- ---- importing

unfoldable pub job_name : List ℕ → List ℕ
job_name job = name_of (job_fields job)

unfoldable pub job_threads : List ℕ → List ℕ
job_threads job = threads_in (job_fields job)

unfoldable pub job_commands : List ℕ → List Cmd
job_commands job = commands_in (job_fields job)

-- its three columns
unfoldable pub job_xs : List ℕ → List ℤ
job_xs job = map (λ (c : Cmd). c.x) (job_commands job)

unfoldable pub job_ys : List ℕ → List ℤ
job_ys job = map (λ (c : Cmd). c.y) (job_commands job)

unfoldable pub job_kinds : List ℕ → List ℕ
job_kinds job = map (λ (c : Cmd). c.kind) (job_commands job)

-- Importing checks 2, then 13 and 14 in order of place, then 6 to 9, then 11. Steps are not checked.
unfoldable pub job_refusals : List ℕ → List (Refusal × Bool)
job_refusals job =
    (FileTooLong, ltb longest_file (length job))
    ∷ row_of (fault_of (job_fields job))
    ++ command_refusals (job_xs job) (job_ys job) (job_kinds job) (job_threads job)

-- 11 counts each; the cells of the buffers for x, y, kinds and thread bytes
unfoldable pub job_no_room : List ℕ → ℕ → ℕ → ℕ → ℕ → Bool
job_no_room job xs ys kinds threads =
    ltb xs (length (job_xs job))
    || (ltb ys (length (job_ys job))
    || (ltb kinds (length (job_kinds job))
    || ltb threads (length (job_threads job))))

-- what the checks say of the job alone, as the name's call meets them, and with the buffers
unfoldable pub job_verdict : List ℕ → Result ⊤ Refusal
job_verdict job = verdict (job_refusals job)

unfoldable pub import_verdict : List ℕ → ℕ → ℕ → ℕ → ℕ → Result ⊤ Refusal
import_verdict job xs ys kinds threads = verdict (job_refusals job ++ (BufferTooShort, job_no_room job xs ys kinds threads) ∷ [])

unfoldable pub job_counts : List ℕ → JobCounts
job_counts job = record { commands = length (job_commands job); thread_bytes = length (job_threads job) }

-- what an import answers under a verdict
unfoldable pub import_answer : Result ⊤ Refusal → JobCounts → Result JobCounts Refusal
import_answer (Ok u) c = Ok c
import_answer (Err r) c = Err r

unfoldable pub import_counts : Result JobCounts Refusal → JobCounts
import_counts (Ok c) = c
import_counts (Err r) = record { commands = 0; thread_bytes = 0 }

-- the name by its own call, which meets every refusal of importing but 11: empty under each
unfoldable pub job_name_told : List ℕ → List ℕ
job_name_told job = label_under (job_verdict job) (job_name job)

-- where it stands, behind its tag and length; 0 under a refusal
unfoldable pub job_name_start : Result ⊤ Refusal → ℕ
job_name_start (Ok u) = 3
job_name_start (Err r) = 0

-- ---- exporting

unfoldable pub field_of : ℕ → List ℕ → List ℕ
field_of tag content = tag ∷ little 2 (length content) ++ content

unfoldable pub row_of_cmd : Cmd → List ℕ
row_of_cmd c = c.kind ∷ little 2 (bits_of 15 c.x) ++ little 2 (bits_of 15 c.y)

-- a field for each thread
unfoldable pub thread_fields : List ℕ → List ℕ
thread_fields [] = []
thread_fields (r ∷ []) = []
thread_fields (r ∷ g ∷ []) = []
thread_fields (r ∷ g ∷ b ∷ threads) = field_of 2 (r ∷ g ∷ b ∷ []) ++ thread_fields threads

-- 1,000 commands to a field, the rest in the last
unfoldable pub commands_then : (List Cmd → List ℕ) → List Cmd → List ℕ
commands_then go [] = []
commands_then go (c ∷ cs) = field_of 3 (joined (map row_of_cmd (take field_commands (c ∷ cs)))) ++ go (drop field_commands (c ∷ cs))

unfoldable pub command_fields : List Cmd → List ℕ
command_fields cs = fuelled commands_then [] (suc (length cs)) cs

unfoldable pub job_of : List ℕ → List Cmd → List ℕ → List ℕ
job_of name cs threads = field_of 1 name ++ thread_fields threads ++ command_fields cs

-- Exporting checks 14 (the name), 6 to 9, 11; n is the length of the caller-provided buffer.
unfoldable pub export_refusals : List ℕ → List ℤ → List ℤ → List ℕ → List ℕ → List (Refusal × Bool)
export_refusals name xs ys kinds threads = (BadLength, ltb longest_name (length name)) ∷ command_refusals xs ys kinds threads

unfoldable pub export_verdict : List ℕ → List ℤ → List ℤ → List ℕ → List ℕ → ℕ → Result ⊤ Refusal
export_verdict name xs ys kinds threads n = verdict
    (export_refusals name xs ys kinds threads
    ++ (BufferTooShort, ltb n (length (job_of name (commands xs ys kinds) threads)))
    ∷ [])

-- what an export answers under a verdict: the length of the job
unfoldable pub export_answer : Result ⊤ Refusal → ℕ → Result ℕ Refusal
export_answer (Ok u) len = Ok len
export_answer (Err r) len = Err r

unfoldable pub export_length : Result ℕ Refusal → ℕ
export_length (Ok len) = len
export_length (Err r) = 0
