-- The first pass over the fields of a job: what is to come of the fault and of the tally is the same from field to field.
use Rattle.std.specs.Prelude.{ℕ, ◌+◌, ◌≤◌, ◌<◌, ◌≡◌, Bool, false, ◌||◌, not, List, [], ltb, eqb, length, drop, Ok, Err, Result, ⊤}
use Rattle.rules.specs.Vocabulary.{pick}
use Rattle.rules.specs.Jobs.{Fields, rows_in, fields_from, fault_of, threads_in, commands_in, job_verdict, job_counts, job_name}
use Rattle.rules.specs.declared.JobCounts.{JobCounts}
use Rattle.rules.specs.declared.Refusal.{Refusal}
use Rattle.rules.specs.declared.Refusal.TheVariants.{BadTag}
use Rattle.read_header.specs.Spans.{Holds}
use Rattle.read_header.specs.declared.Span.{Span}
use Rattle.read_job_tally.specs.Tallies.{tallied, tally_verdict}
use Rattle.import_job.specs.declared.Walker.{Walker}

-- the walker behind a content that ends at `end`, if its kinds are known
abbrev pub content_walk : Walker → ℕ → List ℕ → ℕ → Result Walker Refusal
content_walk w tag content end =
    pick (tallied w.t (rows_in tag content)).unknown (Err BadTag)
    (Ok (record {
      before = tag;
      at = end;
      t = tallied w.t (rows_in tag content);
      thread_bytes = w.thread_bytes + length (pick (eqb tag 2) content []);
    }))

module _ (s : List ℕ) where
  -- the fields from a walker on
  abbrev pub fields_at : Walker → Fields
  fields_at w = fields_from w.before (drop w.at s)

  pub record Stands (w : Walker) : Type 0 where
    pub inside : w.at ≤ length s
    pub short : length s ≤ 2097152
    pub few : w.t.commands ≤ w.at
    pub fewer : w.t.changes ≤ w.t.commands
    pub threads : w.thread_bytes ≤ w.at
    pub known : w.t.unknown ≡ false

  -- from w to v
  pub record Passes (w v : Walker) : Type 0 where
    pub fault : fault_of (fields_at w) ≡ fault_of (fields_at v)
    pub tally : tallied w.t (commands_in (fields_at w)) ≡ tallied v.t (commands_in (fields_at v))
    pub threads : w.thread_bytes + length (threads_in (fields_at w)) ≡ v.thread_bytes + length (threads_in (fields_at v))
    pub later : w.at < v.at
    pub stands : Stands v

  abbrev pub Walks : Walker → Result Walker Refusal → Type 0
  Walks w (Ok v) = Passes w v
  Walks w (Err r) = fault_of (fields_at w) ≡ Err r

-- by a verdict
abbrev pub checked_by : Result ⊤ Refusal → JobCounts → Result JobCounts Refusal
checked_by (Ok u) c = Ok c
checked_by (Err r) c = Err r

-- a job that ends at a walker
abbrev pub end_check : Walker → Result JobCounts Refusal
end_check w =
    pick (eqb w.before 0) (Err BadTag)
    (checked_by (tally_verdict w.t w.thread_bytes) (record { commands = w.t.commands; thread_bytes = w.thread_bytes }))

-- the verdict on a job, and what it holds if it is accepted
abbrev pub Checks : List ℕ → Result JobCounts Refusal → Type 0
Checks s r = r ≡ checked_by (job_verdict s) (job_counts s)

-- so many commands and bytes of threads fit four buffers
abbrev pub room_for : JobCounts → ℕ → ℕ → ℕ → ℕ → Bool
room_for n xs ys kinds threads =
    not (ltb xs n.commands || (ltb ys n.commands || (ltb kinds n.commands || ltb threads n.thread_bytes)))

-- where its name stands: behind a tag and a length
abbrev pub NameAt : List ℕ → Span → Type 0
NameAt s p = (p.start ≡ 3) × Holds p s (job_name s)

-- that, or why the job is refused
abbrev pub NameRead : List ℕ → Result ⊤ Refusal → Result Span Refusal → Type 0
NameRead s (Ok u) (Ok p) = NameAt s p
NameRead s (Ok u) (Err r) = ⊥
NameRead s (Err r) answer = answer ≡ Err r
