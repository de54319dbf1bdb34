-- Where the calls for a label and for a job's name say that these stand. Assumes nothing.
use Rattle.std.specs.Prelude.{Ok, Err, Result, ⊤}
use Prim.Native.Nat.{ℕ}
use mathlib.Core.Path.{◌≡◌, refl, sym, ap, ◌∙◌}
use mathlib.Core.List.{List}
use native.Mathlib.Omega.{arith}
use lib.ListN.{length, take, drop, length-take, length-drop}
use Rattle.read_refusals.specs.Labels.{label_answered}
use Rattle.import_job.specs.Walks.{NameRead}
use Rattle.rules.specs.Files.{label_under}
use Rattle.rules.specs.Jobs.{job_name, job_verdict, job_name_told, job_name_start}
use Rattle.rules.specs.Promises.{LabelAt, JobNameNumbers}
use Rattle.stitch_box_c.specs.Exports.{label_start, label_length}
use Rattle.rules.specs.declared.Refusal.{Refusal}
use Rattle.read_header.specs.declared.Span.{Span}
use Rattle.rules.specs.Refusals.{answer_number}

pub by_answer : (v : Result ⊤ Refusal) (file label : List ℕ) (a : Result Span Refusal) → label_answered v file label a
    → (answer_number a ≡ answer_number v) × LabelAt v file label (label_start a) (label_length a)
unfolding answer_number
by_answer (Ok u) file label (Ok p) h = (refl, (h.inside, h.text))
by_answer (Ok u) file label (Err r) h = absurd h
by_answer (Err r) file label a e = rw e (refl, (refl, refl))

-- the same four facts, by a verdict
record Named (v : Result ⊤ Refusal) (job : List ℕ) (n start len : ℕ) : Type 0 where
  number : n ≡ answer_number v
  starts : start ≡ job_name_start v
  long : len ≡ length (label_under v (job_name job))
  text : take len (drop start job) ≡ label_under v (job_name job)

named : (v : Result ⊤ Refusal) (job : List ℕ) (a : Result Span Refusal) → NameRead job v a → Named v job (answer_number a) (label_start a) (label_length a)
unfolding answer_number job_name_start label_under
named (Ok u) job (Ok p) h = record {
  number = refl;
  starts = h.0;
  long = sym (sym (ap length h.1.text) ∙ simp (length-take, length-drop) (omega (arith, h.1.inside)));
  text = h.1.text;
}
named (Ok u) job (Err r) h = absurd h
named (Err r) job a e = rw e record { number = refl; starts = refl; long = refl; text = refl }

pub by_name : (job : List ℕ) (a : Result Span Refusal) → NameRead job (job_verdict job) a → JobNameNumbers job (answer_number a) (label_start a) (label_length a)
unfolding job_name_told
by_name job a h = let n = named (job_verdict job) job a h in record { number = n.number; starts = n.starts; long = n.long; text = n.text }
