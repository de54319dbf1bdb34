-- What is left of a read once the file is not refused: the records' answers, and refusal 11.
use Rattle.std.specs.Prelude.{ℕ, ◌+◌, ◌*◌, ◌≤◌, ◌<◌, ◌≡◌, Bool, ◌&&◌, ◌||◌, List, [], ◌∷◌, ltb, leb, ℤ, pos, length, drop, take, get_or, Ok, Result, ⊤}
use Rattle.std.specs.Borrow.{MutBor}
use denote.Triple.Both.{Both}
use Rattle.rules.specs.Answers.{places, runs, blocks, cuts}
use Rattle.rules.specs.Formats.{layout_of}
use Rattle.rules.specs.Limits.{block_cells_of}
use Rattle.rules.specs.Records.{Event, events}
use Rattle.rules.specs.Vp3.{events_in, colors_in, vp3_blocks}
use Rattle.rules.specs.Files.{places_of, runs_of, blocks_of, cuts_of, or_default, counts_of, read_answer, filled}
use Rattle.rules.specs.Text.{lines_of, word_at}
use Rattle.rules.specs.Layout.{Stored, nothing, shade_at}
use Rattle.rules.specs.Dst.{line_colors}
use Rattle.rules.specs.Pec.{pec_stored}
use Rattle.rules.specs.Jef.{jef_records, jef_stored}
use Rattle.read_records.specs.Firsts.{first_record_of}
use Rattle.read_records.specs.declared.Row.{Row}
use Rattle.read_records.specs.declared.Row.TheVariants.{Pec, Dst, Exp, Jef}
use Rattle.rules.specs.Promises.{was, left}
use Rattle.rules.specs.Refusals.{verdict}
use Rattle.rules.specs.declared.Format.{Format}
use Rattle.rules.specs.declared.Refusal.TheVariants.{BufferTooShort}
use Rattle.rules.specs.declared.Format.TheVariants.{Vp3}
use Rattle.read_passes.specs.Told.{cuts_in}
use Rattle.read_passes.specs.declared.Sizes.{Sizes}
use Rattle.read_refusals.specs.declared.Head.{Head}
use Rattle.read_refusals.specs.declared.Head.TheVariants as head
use Rattle.rules.specs.declared.Counts.{Counts}
use Rattle.rules.specs.declared.Refusal.{Refusal}

-- what a head says of its file
abbrev pub Says : Head → List ℕ → Type 0
Says (head.Pec start count) s = (start < length s) × (count ≡ get_or s (start + 48) 0)
Says head.Dst s = Unit {0}
Says head.Exp s = Unit {0}
Says (head.Jef offset) s = word_at 0 s ≡ offset
Says (head.Vp3 counts) s = (verdict ((layout_of Vp3).refusals s) ≡ Ok tt)
    × (counts ≡ counts_of (places_of Vp3 s) (runs_of Vp3 s) (blocks_of Vp3 s) (cuts_of Vp3 s))

-- the file is not too long, and the head is its own
pub record Opened (h : Head) (s : List ℕ) : Type 0 where
  pub short : length s ≤ 2097152
  pub told : Says h s

-- its events, its cuts by runs, blocks and events, and what is stored for a block
abbrev pub events_by : Head → List ℕ → List Event
events_by (head.Pec start count) s = events (first_record_of Pec) (drop (start + 528) s)
events_by head.Dst s = events (first_record_of Dst) (drop 512 s)
events_by head.Exp s = events (first_record_of Exp) s
events_by (head.Jef offset) s = events (first_record_of Jef) (jef_records s)
events_by (head.Vp3 counts) s = events_in (vp3_blocks s)

abbrev pub cuts_by : Head → List ℕ → List ℕ → List Event → ℕ
cuts_by (head.Pec start count) = cuts_in Pec
cuts_by head.Dst = cuts_in Dst
cuts_by head.Exp = cuts_in Exp
cuts_by (head.Jef offset) = cuts_in Jef
cuts_by (head.Vp3 counts) = λ rs bs es. cuts rs bs

abbrev pub stored_by : Head → List ℕ → ℕ → Stored
stored_by (head.Pec start count) s k = pec_stored start s k
stored_by head.Dst s k = shade_at (line_colors (lines_of (take 512 s))) k
stored_by head.Exp s k = nothing
stored_by (head.Jef offset) s k = jef_stored s k
stored_by (head.Vp3 counts) s k = shade_at (colors_in (vp3_blocks s)) k

-- answers of these sizes fit buffers of np, nr and nb cells
unfoldable pub room_for : Sizes → ℕ → ℕ → ℕ → Bool
room_for z np nr nb = leb (2 * z.points) np && (leb z.runs nr && leb (block_cells_of * z.blocks) nb)

-- refusal 11 or none
unfoldable pub room_verdict : List ℤ → List ℕ → List ℕ → ℕ → ℕ → ℕ → Result ⊤ Refusal
room_verdict ps rs bs np nr nb = verdict ((BufferTooShort, ltb np (length ps) || (ltb nr (length rs) || ltb nb (length bs))) ∷ [])

-- the answers ps, rs, bs go to buffers that hold P, R, B before and P', R', B' after, and the call answers r; n are the cuts
pub record Given (ps P P' : List ℤ) (rs R R' bs B B' : List ℕ) (n : ℕ) (r : Result Counts Refusal) : Type 0 where
  pub told : r ≡ read_answer (room_verdict ps rs bs (length P) (length R) (length B)) (counts_of ps rs bs n)
  pub places : P' ≡ filled (room_verdict ps rs bs (length P) (length R) (length B)) ps P
  pub runs : R' ≡ filled (room_verdict ps rs bs (length P) (length R) (length B)) rs R
  pub blocks : B' ≡ filled (room_verdict ps rs bs (length P) (length R) (length B)) bs B

-- the answers of events, c giving a block's colour and k the cuts
abbrev pub EventsGiven : (ℕ → ℕ) → (List ℕ → List ℕ → List Event → ℕ) → List Event → List ℤ → List ℤ → List ℕ → List ℕ → List ℕ → List ℕ
    → Result Counts Refusal → Type 0
EventsGiven c k es P P' R R' B B' r =
    Given (places (pos 0) (pos 0) 0 es) P P' (runs 0 es) R R' (blocks c 0 0 0 es) B B' (k (runs 0 es) (blocks c 0 0 0 es) es) r

-- those of the records in bytes
abbrev pub RecordsGiven : (ℕ → ℕ) → Row → List ℕ → List ℤ → List ℤ → List ℕ → List ℕ → List ℕ → List ℕ → Result Counts Refusal → Type 0
RecordsGiven c f bytes P P' R R' B B' r = EventsGiven c (cuts_in f) (events (first_record_of f) bytes) P P' R R' B B' r

-- the answers of a file by its head
abbrev pub HeadGiven : Head → List ℕ → List ℤ → List ℤ → List ℕ → List ℕ → List ℕ → List ℕ → Result Counts Refusal → Type 0
HeadGiven h s P P' R R' B B' r = EventsGiven (λ k. or_default (stored_by h s k) k) (cuts_by h) (events_by h s) P P' R R' B B' r

-- the answers of a file of format f
abbrev pub FileGiven : Format → List ℕ → List ℤ → List ℤ → List ℕ → List ℕ → List ℕ → List ℕ → Result Counts Refusal → Type 0
FileGiven f s P P' R R' B B' r = Given (places_of f s) P P' (runs_of f s) R R' (blocks_of f s) B B' (cuts_of f s) r

-- ---- the same of buffers that a call is passed, at entry and at exit

abbrev pub Lent : Type 0 → Type 0
Lent A = Both (MutBor A) (MutBor A)

abbrev pub Answered : (ℕ → ℕ) → Row → List ℕ → Lent (List ℤ) → Lent (List ℕ) → Lent (List ℕ) → Result Counts Refusal → Type 0
Answered c f bytes places runs blocks r = RecordsGiven c f bytes (was places) (left places) (was runs) (left runs) (was blocks) (left blocks) r

abbrev pub HeadAnswered : Head → List ℕ → Lent (List ℤ) → Lent (List ℕ) → Lent (List ℕ) → Result Counts Refusal → Type 0
HeadAnswered h s places runs blocks r = HeadGiven h s (was places) (left places) (was runs) (left runs) (was blocks) (left blocks) r
