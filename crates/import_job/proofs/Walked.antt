-- The first pass over a job: one field, from field to field, and the end. Assumes nothing.
use Rattle.std.specs.Prelude.{Ok, Err}
use Prim.Native.Nat.{ℕ, ◌+◌, ◌-◌, ◌≤◌, ◌<◌}
use mathlib.Core.Path.{◌≡◌, refl, sym, ap, ◌∙◌}
use mathlib.Core.Bool.{Bool, true, false}
use mathlib.Core.List.{List, []}
use native.Mathlib.Nat.{zero-add}
use native.Mathlib.Omega.{arith}
use borrow.Author.Tests.{le-ltb, lt-ltb}
use lib.Dec.{eqb}
use lib.ListN.{length, drop, length-append, length-take, length-drop}
use Rattle.rules.specs.Vocabulary.{pick, any}
use Rattle.rules.specs.Vp3.{row_of}
use Rattle.rules.specs.Refusals.{verdict, command_verdict}
use Rattle.rules.specs.Jobs.{Fields, ended, field, bad_tag, unknown_kind, rows_in, field_then, fields_from, job_fields, fault_of, threads_in, commands_in}
use Rattle.rules.specs.Jobs.{job_xs, job_ys, job_kinds, job_threads, job_commands, job_refusals, job_verdict, job_counts}
use Rattle.rules.specs.declared.Refusal.{Refusal}
use Rattle.rules.specs.declared.Refusal.TheVariants.{FileTooLong, BadTag}
use Rattle.laws.specs.Jobs.{fields-step, rows_long}
use Rattle.laws.specs.Listing.{list-end}
use Rattle.laws.specs.Tests.{by-test}
use Rattle.read_job_fields.specs.Fields.{content_of, Lies}
use Rattle.read_job_tally.specs.Tallies.{no_tally, tallied, tally_verdict, Spare}
use Rattle.read_job_tally.specs.Laws.{tallied-append, tallied-commands, tallied-fewer, tallied-unknown, tally-verdict}
use Rattle.read_job_tally.specs.declared.Tally.{Tally}
use Rattle.import_job.specs.Walks.{content_walk, fields_at, Stands, Passes, Walks, end_check, Checks}
use Rattle.import_job.specs.declared.Walker.{Walker}

-- ---- one field

-- a content is as long as its place says
pub content-long : {s : List ℕ} {before at tag start end : ℕ} → Lies s before at tag start end → length (content_of s start end) ≡ end - start
content-long {s} {start = start} l = simp (length-take, length-drop) (omega arith)

-- and no longer are the commands and the bytes of threads in it
rows_few : (tag : ℕ) (content : List ℕ) → length (rows_in tag content) ≤ length content
unfolding rows_in
rows_few tag content = by-test (eqb tag 3) (λ e. rw e (omega (arith, rows_long content))) (λ e. rw e (omega arith))

threads_few : (tag : ℕ) (content : List ℕ) → length (pick (eqb tag 2) content []) ≤ length content
threads_few tag content = by-test (eqb tag 2) (λ e. rw e (omega arith)) (λ e. rw e (omega arith))

by-kinds : (s : List ℕ) (w : Walker) (b : Bool) (v : Walker) → (b ≡ true → fault_of (fields_at s w) ≡ Err BadTag)
    → (b ≡ false → Passes s w v) → Walks s w (pick b (Err BadTag) (Ok v))
by-kinds s w true v f g = f refl
by-kinds s w false v f g = g refl

module _ {s : List ℕ} {w : Walker} {tag start end : ℕ} (st : Stands s w) (l : Lies s w.before w.at tag start end) where
  abbrev content : List ℕ
  content = content_of s start end

  abbrev t : Tally
  t = tallied w.t (rows_in tag content)

  -- the tally has room for it
  pub spare : Spare w.t (length content)
  spare = record { few = omega (arith, content-long l); fewer = st.fewer }

  pub room : w.thread_bytes + length content ≤ 4294967295
  room = omega (arith, content-long l)

  unknown-is : t.unknown ≡ any unknown_kind (rows_in tag content)
  unknown-is = tallied-unknown w.t (rows_in tag content) ∙ rw st.known

  module _ (u : any unknown_kind (rows_in tag content) ≡ false) where
    next : fields_at s w ≡ field tag content (fields_from tag (drop end s))
    next = l.tells ∙ rw u

    known-walk : Passes s w (record { before = tag; at = end; t = t; thread_bytes = w.thread_bytes + length (pick (eqb tag 2) content []) })
    unfolding fault_of commands_in threads_in
    known-walk = record {
      fault = ap fault_of next;
      tally = ap (λ (fs : Fields). tallied w.t (commands_in fs)) next ∙ tallied-append w.t (rows_in tag content) _;
      threads =
          let more = length-append (pick (eqb tag 2) content []) (threads_in (fields_from tag (drop end s))) in
          omega (arith, ap (λ (fs : Fields). length (threads_in fs)) next, more);
      later = omega arith;
      stands = record {
        inside = l.inside;
        short = st.short;
        few = omega (arith, tallied-commands w.t (rows_in tag content), rows_few tag content, content-long l);
        fewer = tallied-fewer w.t (rows_in tag content) st.fewer;
        threads = omega (arith, threads_few tag content, content-long l);
        known = unknown-is ∙ u;
      };
    }

  unknown-walk : any unknown_kind (rows_in tag content) ≡ true → fault_of (fields_at s w) ≡ Err BadTag
  unfolding fault_of bad_tag
  unknown-walk u = ap fault_of l.tells ∙ rw u

  pub walks : Walks s w (content_walk w tag content end)
  walks = by-kinds s w t.unknown _ (λ e. unknown-walk (sym unknown-is ∙ e)) (λ e. known-walk (sym unknown-is ∙ e))

-- ---- the verdict, by the fault among the fields

module _ (s : List ℕ) where
  pub too_long : 2097152 < length s → job_verdict s ≡ Err FileTooLong
  unfolding job_verdict job_refusals verdict
  too_long h = rw (lt-ltb 2097152 (length s) h)

  module _ (h : length s ≤ 2097152) where
    fault-verdict : {r : Refusal} → fault_of (job_fields s) ≡ Err r → job_verdict s ≡ Err r
    unfolding job_verdict job_refusals verdict row_of
    fault-verdict e = rw (le-ltb 2097152 (length s) h, e)

    sound-verdict : fault_of (job_fields s) ≡ Ok tt → job_verdict s ≡ command_verdict (job_xs s) (job_ys s) (job_kinds s) (job_threads s)
    unfolding job_verdict job_refusals command_verdict verdict row_of
    sound-verdict e = rw (le-ltb 2097152 (length s) h, e)

-- ---- from field to field

pub record Going (s : List ℕ) (w : Walker) : Type 0 where
  pub fault : fault_of (fields_at s w) ≡ fault_of (job_fields s)
  pub tally : tallied w.t (commands_in (fields_at s w)) ≡ tallied no_tally (job_commands s)
  pub threads : w.thread_bytes + length (threads_in (fields_at s w)) ≡ length (job_threads s)
  pub stands : Stands s w

pub going_start : {s : List ℕ} {t : Tally} → length s ≤ 2097152 → t ≡ no_tally → Going s (record { before = 0; at = 0; t = t; thread_bytes = 0 })
unfolding job_fields job_commands job_threads
going_start h e = rw e record {
  fault = refl;
  tally = refl;
  threads = omega arith;
  stands = record { inside = omega arith; short = h; few = omega arith; fewer = omega arith; threads = omega arith; known = refl };
}

module _ {s : List ℕ} {w : Walker} (g : Going s w) where
  pub going_on : {v : Walker} → Passes s w v → Going s v
  going_on p = record {
    fault = sym p.fault ∙ g.fault;
    tally = sym p.tally ∙ g.tally;
    threads = omega (arith, p.threads, g.threads);
    stands = p.stands;
  }

  pub going-not : {r : Refusal} → fault_of (fields_at s w) ≡ Err r → Checks s (Err r)
  going-not {r} e = rw (fault-verdict s g.stands.short (sym g.fault ∙ e))

  module _ (end : length s ≤ w.at) where
    last : fields_at s w ≡ pick (eqb w.before 0) bad_tag (ended (Ok tt))
    unfolding field_then
    last = rw (list-end s w.at end) (fields-step w.before [])

    no_name : eqb w.before 0 ≡ true → Checks s (Err BadTag)
    unfolding fault_of bad_tag
    no_name e = let f : fields_at s w ≡ bad_tag = last ∙ rw e in going-not (ap fault_of f)

    module _ (e : eqb w.before 0 ≡ false) where
      none_left : fields_at s w ≡ ended (Ok tt)
      none_left = last ∙ rw e

      tally-is : w.t ≡ tallied no_tally (job_commands s)
      unfolding commands_in tallied
      tally-is = sym (ap (λ (fs : Fields). tallied w.t (commands_in fs)) none_left) ∙ g.tally

      threads_are : w.thread_bytes ≡ length (job_threads s)
      unfolding threads_in
      threads_are = omega (arith, g.threads, ap (λ (fs : Fields). length (threads_in fs)) none_left)

      verdict-is : tally_verdict w.t w.thread_bytes ≡ job_verdict s
      unfolding fault_of job_xs job_ys job_kinds
      verdict-is =
          rw (tally-is, threads_are) (tally-verdict (job_commands s) (job_threads s))
          ∙ sym (sound-verdict s g.stands.short (sym g.fault ∙ ap fault_of none_left))

      counts-are : record { commands = w.t.commands; thread_bytes = w.thread_bytes } ≡ job_counts s
      unfolding job_counts
      counts-are = rw (tally-is, threads_are, tallied-commands no_tally (job_commands s), zero-add)

    pub going_done : Checks s (end_check w)
    going_done = by-test (eqb w.before 0) (λ e. rw e (no_name e)) (λ e. rw (e, verdict-is e, counts-are e) refl)
