-- The second pass over the fields of a job: what is written and what is to come are the same from field to field.
use Rattle.std.specs.Prelude.{ℕ, ◌+◌, ◌≤◌, ◌<◌, ◌≡◌, List, ◌++◌, ℤ, length, drop, Ok}
use Rattle.rules.specs.Jobs.{Fields, rows_of, fields_from, fault_of, threads_in, commands_in, job_xs, job_ys, job_kinds, job_threads}
use Rattle.rules.specs.Promises.{xs_of, ys_of, kinds_of}
use Rattle.rules.specs.declared.Cmd.{Cmd}
use Rattle.laws.specs.Buffers.{Put}
use Rattle.import_job.specs.declared.fill.Filler.{Filler}

-- n commands have room in buffers of nx, ny and nk cells from command `from` on
pub record Room (n from nx ny nk : ℕ) : Type 0 where
  pub in_xs : from + n ≤ nx
  pub in_ys : from + n ≤ ny
  pub in_kinds : from + n ≤ nk

-- the commands of a content have room
abbrev pub RowRoom : List ℕ → ℕ → ℕ → ℕ → ℕ → Type 0
RowRoom bytes from nx ny nk = Room (length (rows_of bytes)) from nx ny nk

-- commands stand in the buffers, from command `from` to before r
pub record RowsPut (cs : List Cmd) (from r : ℕ) (X X' Y Y' : List ℤ) (K K' : List ℕ) : Type 0 where
  pub xs : Put X X' from r (xs_of cs)
  pub ys : Put Y Y' from r (ys_of cs)
  pub kinds : Put K K' from r (kinds_of cs)

module _ (s : List ℕ) where
  -- the fields from a filler on
  abbrev pub fields_at : Filler → Fields
  fields_at f = fields_from f.before (drop f.at s)

  -- they are without fault, there is one, and their answers have room
  pub record Ready (f : Filler) (nx ny nk nt : ℕ) : Type 0 where
    pub inside : f.at < length s
    pub sound : fault_of (fields_at f) ≡ Ok tt
    pub rows : Room (length (commands_in (fields_at f))) f.commands nx ny nk
    pub threads : f.thread_bytes + length (threads_in (fields_at f)) ≤ nt

  -- from f to g: some commands and some bytes of threads
  pub record Fills (f : Filler) (X X' Y Y' : List ℤ) (K K' T T' : List ℕ) (g : Filler) : Type 0 where
    pub cs : List Cmd
    pub bytes : List ℕ
    pub commands_are : commands_in (fields_at f) ≡ cs ++ commands_in (fields_at g)
    pub threads_are : threads_in (fields_at f) ≡ bytes ++ threads_in (fields_at g)
    pub rows : RowsPut cs f.commands g.commands X X' Y Y' K K'
    pub threads : Put T T' f.thread_bytes g.thread_bytes bytes
    pub sound : fault_of (fields_at g) ≡ Ok tt
    pub later : f.at < g.at
    pub inside : g.at ≤ length s

  -- the answers of a job fit buffers of nx, ny, nk and nt cells
  pub record Fits (nx ny nk nt : ℕ) : Type 0 where
    pub in_xs : length (job_xs s) ≤ nx
    pub in_ys : length (job_ys s) ≤ ny
    pub in_kinds : length (job_kinds s) ≤ nk
    pub in_threads : length (job_threads s) ≤ nt

  -- and stand at the front of them
  pub record Filled (X X' Y Y' : List ℤ) (K K' T T' : List ℕ) : Type 0 where
    pub xs : X' ≡ job_xs s ++ drop (length (job_xs s)) X
    pub ys : Y' ≡ job_ys s ++ drop (length (job_ys s)) Y
    pub kinds : K' ≡ job_kinds s ++ drop (length (job_kinds s)) K
    pub threads : T' ≡ job_threads s ++ drop (length (job_threads s)) T
    pub same_xs : length X' ≡ length X
    pub same_ys : length Y' ≡ length Y
    pub same_kinds : length K' ≡ length K
    pub same_threads : length T' ≡ length T
