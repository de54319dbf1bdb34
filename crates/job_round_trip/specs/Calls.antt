-- The round trip of a job about the calls `export_job`, `import_job` and the name's: for every list accepted by 6 to 9, with a name of at
-- most 64 bytes and buffers long enough, no call refuses, and what the caller finds in the buffers is the list, its threads and the name.
-- Two exported jobs are equal exactly when these are. Assumes nothing.
use Rattle.std.specs.Prelude.{ℕ, ◌≤◌, ◌≡◌, ◌↔◌, List, ◌++◌, map, ℤ, take, drop, Ok, Result}
use Rattle.std.proofs.Math.Path.{sym, ap}
use Rattle.std.proofs.Common.{◌∙◌, le-ltb}
use Rattle.std.proofs.Math.ListN.{length}
use Rattle.std.proofs.lemmas.List.{length-map}
use Rattle.std.proofs.Math.Seq.{take-append_seam, drop-append_seam}
use Rattle.rules.specs.Limits.{longest_name}
use Rattle.rules.specs.Refusals.{verdict, command_verdict, answer_number}
use Rattle.rules.specs.Files.{filled, label_under}
use Rattle.rules.specs.Jobs.{job_xs, job_ys, job_kinds, job_commands, job_verdict, job_counts, job_name_told, export_refusals, export_verdict}
use Rattle.rules.specs.Jobs.{export_answer, export_length}
use Rattle.rules.specs.Jobs.{import_verdict, import_answer, import_counts}
use Rattle.rules.specs.Promises.{Exported, ImportedOf}
use Rattle.rules.specs.declared.Cmd.{Cmd}
use Rattle.laws.specs.Verdicts.{verdict-on}
use Rattle.job_round_trip.specs.Theorem.{job_for, Back, imports-back, import-accepted, Same, same-job}
use Rattle.rules.specs.declared.JobCounts.{JobCounts}
use Rattle.rules.specs.declared.Refusal.{Refusal}

-- A list accepted by 6 to 9, exported with a name of at most 64 bytes into a buffer that is long enough; the job is the front bytes of the
-- length reported. It is imported into four buffers, for x, y, kinds and thread bytes, that hold the list and its threads. A prime marks a
-- buffer after the call.
pub record Trip : Type 0 where
  pub name : List ℕ
  pub xs : List ℤ
  pub ys : List ℤ
  pub kinds : List ℕ
  pub threads : List ℕ
  pub out : List ℕ
  pub out' : List ℕ
  pub bx : List ℤ
  pub bx' : List ℤ
  pub by : List ℤ
  pub by' : List ℤ
  pub bk : List ℕ
  pub bk' : List ℕ
  pub bt : List ℕ
  pub bt' : List ℕ
  pub w : Result ℕ Refusal
  pub r : Result JobCounts Refusal
  pub short : length name ≤ longest_name
  pub accepted : command_verdict xs ys kinds threads ≡ Ok tt
  pub bytes : length (job_for name xs ys kinds threads) ≤ length out
  pub x_cells : length xs ≤ length bx
  pub y_cells : length ys ≤ length by
  pub kind_cells : length kinds ≤ length bk
  pub thread_cells : length threads ≤ length bt
  pub exported : Exported name xs ys kinds threads out out' w
  pub imported : ImportedOf (take (export_length w) out') bx by bk bt bx' by' bk' bt' r

-- the job, and the counts that its import reports
abbrev pub job : Trip → List ℕ
job t = take (export_length t.w) t.out'

abbrev pub command_count_of : Trip → ℕ
command_count_of t = (import_counts t.r).commands

abbrev pub thread_byte_count_of : Trip → ℕ
thread_byte_count_of t = (import_counts t.r).thread_bytes

-- a buffer afterwards: the answer in its first n cells, and the cells behind as they were
pub record Front {A : Type 0} (n : ℕ) (answer before after : List A) : Type 0 where
  pub front : take n after ≡ answer
  pub behind : drop n after ≡ drop n before

-- Neither call refuses, nor does the name's. The counts are those of the list and of its thread bytes. The buffers hold the list and its
-- threads at their fronts, and cells behind stay. The name told of the job is the name.
pub record Kept (t : Trip) : Type 0 where
  pub written : answer_number t.w ≡ 0
  pub read : answer_number t.r ≡ 0
  pub command_count : command_count_of t ≡ length t.kinds
  pub thread_byte_count : thread_byte_count_of t ≡ length t.threads
  pub xs_back : Front (command_count_of t) t.xs t.bx t.bx'
  pub ys_back : Front (command_count_of t) t.ys t.by t.by'
  pub kinds_back : Front (command_count_of t) t.kinds t.bk t.bk'
  pub threads_back : Front (thread_byte_count_of t) t.threads t.bt t.bt'
  pub named : answer_number (job_verdict (job t)) ≡ 0
  pub name_back : job_name_told (job t) ≡ t.name

-- ---- the claim

not-refused : (name : List ℕ) (xs ys : List ℤ) (kinds threads : List ℕ) → length name ≤ longest_name
    → command_verdict xs ys kinds threads ≡ Ok tt → verdict (export_refusals name xs ys kinds threads) ≡ Ok tt
unfolding export_refusals command_verdict verdict
not-refused name xs ys kinds threads h e = rw (le-ltb longest_name (length name) h) e

pub export-accepted : (name : List ℕ) (xs ys : List ℤ) (kinds threads : List ℕ) (n : ℕ) → length name ≤ longest_name
    → command_verdict xs ys kinds threads ≡ Ok tt → length (job_for name xs ys kinds threads) ≤ n
    → export_verdict name xs ys kinds threads n ≡ Ok tt
unfolding export_verdict verdict
export-accepted name xs ys kinds threads n h e l =
    verdict-on (export_refusals name xs ys kinds threads) _ (not-refused name xs ys kinds threads h e)
    ∙ rw (le-ltb n (length (job_for name xs ys kinds threads)) l)

front_of_lem : {A : Type 0} (answer : List A) {before after : List A} {n : ℕ} → after ≡ answer ++ drop (length answer) before
    → n ≡ length answer → Front n answer before after
front_of_lem answer {before} p e = record {
  front = rw (p, e) (take-append_seam answer (drop (length answer) before));
  behind = rw (p, e) (drop-append_seam answer (drop (length answer) before));
}

module _ (t : Trip) where
  abbrev file : List ℕ
  file = job_for t.name t.xs t.ys t.kinds t.threads

  back : Back t.name t.xs t.ys t.kinds t.threads
  back = imports-back t.name t.xs t.ys t.kinds t.threads t.short t.accepted

  exports : export_verdict t.name t.xs t.ys t.kinds t.threads (length t.out) ≡ Ok tt
  exports = export-accepted t.name t.xs t.ys t.kinds t.threads (length t.out) t.short t.accepted t.bytes

  is-written : t.w ≡ Ok (length file)
  unfolding export_answer
  is-written = t.exported.answered ∙ rw exports

  is-stored : t.out' ≡ file ++ drop (length file) t.out
  unfolding filled
  is-stored = t.exported.stored ∙ rw exports

  pub the-job : job t ≡ file
  unfolding export_length
  the-job = rw (is-written, is-stored) (take-append_seam file (drop (length file) t.out))

  importing : ImportedOf file t.bx t.by t.bk t.bt t.bx' t.by' t.bk' t.bt' t.r
  importing = rw the-job at t.imported

  imports : import_verdict file (length t.bx) (length t.by) (length t.bk) (length t.bt) ≡ Ok tt
  imports = import-accepted file _ _ _ _ back.accepted
      (rw back.xs_are t.x_cells) (rw back.ys_are t.y_cells)
      (rw back.kinds_are t.kind_cells) (rw back.threads_are t.thread_cells)

  is_read : t.r ≡ Ok (job_counts file)
  unfolding import_answer
  is_read = importing.answered ∙ rw imports

  -- a column has as many cells as are counted
  counted : {A : Type 0} (f : Cmd → A) {s : List A} → map f (job_commands file) ≡ s → command_count_of t ≡ length s
  unfolding import_counts job_counts
  counted f e = ap (λ (r : Result JobCounts Refusal). (import_counts r).commands) is_read ∙ sym (length-map (job_commands file) f) ∙ ap length e

  bytes_counted : thread_byte_count_of t ≡ length t.threads
  unfolding import_counts job_counts
  bytes_counted = ap (λ (r : Result JobCounts Refusal). (import_counts r).thread_bytes) is_read ∙ ap length back.threads_are

  -- a buffer that an import fills
  filled-by : {A : Type 0} {answer s before after : List A} {n : ℕ}
      → after ≡ filled (import_verdict file (length t.bx) (length t.by) (length t.bk) (length t.bt)) answer before
      → answer ≡ s → n ≡ length s → Front n s before after
  unfolding filled
  filled-by {s = s} p e n = front_of_lem s (p ∙ rw (imports, e)) n

  pub kept : Kept t
  unfolding answer_number job_xs job_ys job_kinds job_name_told label_under
  kept =
      let b = back in
      let i = importing in
      record {
        written = rw is-written;
        read = rw is_read;
        command_count = counted (λ (c : Cmd). c.kind) b.kinds_are;
        thread_byte_count = bytes_counted;
        xs_back = filled-by i.xs_are b.xs_are (counted (λ (c : Cmd). c.x) b.xs_are);
        ys_back = filled-by i.ys_are b.ys_are (counted (λ (c : Cmd). c.y) b.ys_are);
        kinds_back = filled-by i.kinds_are b.kinds_are (counted (λ (c : Cmd). c.kind) b.kinds_are);
        threads_back = filled-by i.threads_are b.threads_are bytes_counted;
        named = rw (the-job, b.accepted);
        name_back = rw (the-job, b.accepted) b.name_is;
      }

-- two exported jobs are equal exactly when name, threads and list are
pub apart : (t u : Trip) → (job t ≡ job u)
    ↔ Same t.name t.xs t.ys t.kinds t.threads u.name u.xs u.ys u.kinds u.threads
apart t u =
    rw (the-job t, the-job u)
    (same-job t.name t.xs t.ys t.kinds t.threads u.name u.xs u.ys u.kinds u.threads
    t.short t.accepted u.short u.accepted)
