-- What the import of a job and the call for its name answer, by the first pass. Assumes nothing.
use Rattle.std.specs.Prelude.{Ok, Err, Result, IsOk, ⊤}
use Prim.Native.Nat.{ℕ, ◌-◌, ◌≤◌, ◌<◌}
use mathlib.Core.Path.{◌≡◌, refl, sym, ap, ◌∙◌}
use mathlib.Core.Bool.{Bool, true, false, not}
use mathlib.Core.List.{List, [], ◌∷◌, ◌++◌}
use native.Mathlib.Omega.{arith}
use borrow.Author.Tests.{ltb-true, ltb-false}
use lib.Dec.{ltb}
use lib.IntN.{ℤ}
use lib.ListN.{length, take, drop, length-map}
use Rattle.rules.specs.Vocabulary.{any}
use Rattle.rules.specs.Vp3.{row_of}
use Rattle.rules.specs.Refusals.{verdict}
use Rattle.rules.specs.Files.{filled, label_under}
use Rattle.rules.specs.Jobs.{ended, field, bad_tag, unknown_kind, rows_in, field_then, fields_from, job_fields, fault_of, name_of}
use Rattle.rules.specs.Jobs.{job_name, job_threads, job_commands, job_xs, job_ys, job_kinds, job_refusals, job_no_room, job_verdict, import_verdict}
use Rattle.rules.specs.Jobs.{job_counts, import_answer, job_name_told}
use Rattle.rules.specs.Promises.{ImportedOf, imports}
use Rattle.rules.specs.declared.Cmd.{Cmd}
use Rattle.rules.specs.declared.JobCounts.{JobCounts}
use Rattle.rules.specs.declared.Refusal.{Refusal}
use Rattle.rules.specs.declared.Refusal.TheVariants.{BufferTooShort, BadTag}
use Rattle.laws.specs.Jobs.{fields-step}
use Rattle.laws.specs.Tests.{by-test, or-no-left, or-no-right}
use Rattle.laws.specs.Verdicts.{never_both, first-false, verdict-on, verdict-stop}
use Rattle.read_header.specs.declared.Span.{Span}
use Rattle.read_job_fields.specs.Fields.{content_of, Lies, FieldRead}
use Rattle.read_job_fields.specs.declared.Field.{Field}
use Rattle.import_job.specs.Fills.{Fits, Filled}
use Rattle.import_job.specs.Walks.{checked_by, room_for, NameAt, NameRead}

-- ---- what the first pass tells

sound-by : (v : Result ⊤ Refusal) (c : JobCounts) {n : JobCounts} → Ok n ≡ checked_by v c → (v ≡ Ok tt) × (n ≡ c)
sound-by (Ok u) c e = (refl, cc)
sound-by (Err r) c e = cc

not-by : (v : Result ⊤ Refusal) (c : JobCounts) {r : Refusal} → Err r ≡ checked_by v c → v ≡ Err r
not-by (Ok u) c e = cc
not-by (Err q) c e = cc

pub sound-is : (s : List ℕ) {n : JobCounts} → Ok n ≡ checked_by (job_verdict s) (job_counts s) → (job_verdict s ≡ Ok tt) × (n ≡ job_counts s)
sound-is s e = sound-by (job_verdict s) (job_counts s) e

-- an accepted job has no fault among its fields
fault-none : (v : Result ⊤ Refusal) (rs : List (Refusal × Bool)) → verdict (row_of v ++ rs) ≡ Ok tt → v ≡ Ok tt
unfolding row_of verdict
fault-none (Ok u) rs e = refl
fault-none (Err r) rs e = e

pub no-fault : (s : List ℕ) → job_verdict s ≡ Ok tt → fault_of (job_fields s) ≡ Ok tt
unfolding job_verdict job_refusals verdict
no-fault s e = fault-none (fault_of (job_fields s)) _ (first-false (ltb 2097152 (length s)) _ _ e).1

-- ---- room

module _ (s : List ℕ) {n : JobCounts} (e : n ≡ job_counts s) (nx ny nk nt : ℕ) where
  room-is : room_for n nx ny nk nt ≡ not (job_no_room s nx ny nk nt)
  unfolding job_no_room job_counts job_xs job_ys job_kinds
  room-is =
      let cs : List Cmd = job_commands s in
      rw (e, length-map cs (λ (c : Cmd). c.x), length-map cs (λ (c : Cmd). c.y), length-map cs (λ (c : Cmd). c.kind))

no-not : (b : Bool) → not b ≡ true → b ≡ false
no-not true e = sym e
no-not false e = refl

yes-not : (b : Bool) → not b ≡ false → b ≡ true
yes-not true e = refl
yes-not false e = sym e

fits : (s : List ℕ) (nx ny nk nt : ℕ) → job_no_room s nx ny nk nt ≡ false → Fits s nx ny nk nt
unfolding job_no_room
fits s nx ny nk nt e =
    let a = or-no-right (ltb nx (length (job_xs s))) _ e in
    let b = or-no-right (ltb ny (length (job_ys s))) _ a in
    record {
      in_xs = ltb-false nx (length (job_xs s)) (or-no-left _ _ e);
      in_ys = ltb-false ny (length (job_ys s)) (or-no-left _ _ a);
      in_kinds = ltb-false nk (length (job_kinds s)) (or-no-left _ _ b);
      in_threads = ltb-false nt (length (job_threads s)) (or-no-right (ltb nk (length (job_kinds s))) _ b);
    }

-- ---- the answer

module _ (s : List ℕ) (X Y : List ℤ) (K T : List ℕ) where
  abbrev roomless : Bool
  roomless = job_no_room s (length X) (length Y) (length K) (length T)

  pub refused : {r : Refusal} → Err r ≡ checked_by (job_verdict s) (job_counts s) → ImportedOf s X Y K T X Y K T (Err r)
  unfolding job_verdict import_verdict import_answer filled
  refused {r} e =
      let v : imports s X Y K T ≡ Err r = verdict-stop (job_refusals s) _ r (not-by (job_verdict s) (job_counts s) e) in
      record { answered = rw v; xs_are = rw v; ys_are = rw v; kinds_are = rw v; threads_are = rw v }

  module _ (e : job_verdict s ≡ Ok tt) {n : JobCounts} (c : n ≡ job_counts s) where
    by-room : imports s X Y K T ≡ verdict ((BufferTooShort, roomless) ∷ [])
    unfolding job_verdict import_verdict
    by-room = verdict-on (job_refusals s) _ e

    pub no_room_lem : false ≡ room_for n (length X) (length Y) (length K) (length T) → ImportedOf s X Y K T X Y K T (Err BufferTooShort)
    unfolding verdict import_answer filled
    no_room_lem h =
        let r : roomless ≡ true = yes-not _ (sym (room-is s c _ _ _ _) ∙ sym h) in
        let v : imports s X Y K T ≡ Err BufferTooShort = by-room ∙ rw r in
        record { answered = rw v; xs_are = rw v; ys_are = rw v; kinds_are = rw v; threads_are = rw v }

    module _ (h : true ≡ room_for n (length X) (length Y) (length K) (length T)) where
      some-room : roomless ≡ false
      some-room = no-not _ (sym (room-is s c _ _ _ _) ∙ sym h)

      pub has_room : Fits s (length X) (length Y) (length K) (length T)
      has_room = fits s _ _ _ _ some-room

      pub imported : {X' Y' : List ℤ} {K' T' : List ℕ} → Filled s X X' Y Y' K K' T T' → ImportedOf s X Y K T X' Y' K' T' (Ok n)
      unfolding verdict import_answer filled
      imported f =
          let v : imports s X Y K T ≡ Ok tt = by-room ∙ rw some-room in
          record {
            answered = rw v (ap Ok c);
            xs_are = rw v f.xs;
            ys_are = rw v f.ys;
            kinds_are = rw v f.kinds;
            threads_are = rw v f.threads;
          }

-- ---- the name

empty : (s : List ℕ) → length s ≤ 0 → fields_from 0 s ≡ ended (Err BadTag)
unfolding field_then bad_tag
empty [] h = fields-step 0 []
empty (x ∷ s) h = absurd (omega arith)

module _ (s : List ℕ) (e : fault_of (job_fields s) ≡ Ok tt) where
  not-refused : {X : Type 0} {r : Refusal} → fields_from 0 s ≡ ended (Err r) → X
  unfolding job_fields fault_of
  not-refused f = absurd (never_both (sym (ap fault_of f) ∙ e))

  pub found : (r : Result Field Refusal) → FieldRead s 0 0 r → IsOk r
  found (Ok f) l = refl
  found (Err r) e = not-refused e

  pub some-field : 0 < length s
  some-field = by-test (ltb 0 (length s)) (ltb-true 0 (length s)) (λ t. not-refused (empty s (ltb-false 0 (length s) t)))

  module _ {tag start end : ℕ} (l : Lies s 0 0 tag start end) where
    known : any unknown_kind (rows_in tag (content_of s start end)) ≡ false
    unfolding bad_tag
    known = by-test (any unknown_kind (rows_in tag (content_of s start end))) (λ u. not-refused {r = BadTag} (l.tells ∙ rw u)) (λ u. u)

    name_is : content_of s start end ≡ job_name s
    unfolding job_name job_fields name_of
    name_is = let f : fields_from 0 s ≡ field tag (content_of s start end) (fields_from tag (drop end s)) = l.tells ∙ rw known in sym (ap name_of f)

    pub name-there : NameAt s (record { start = start; len = end - start })
    name-there = (l.begins, record { inside = omega arith; text = name_is })

-- what the call gives back of it, by a verdict
told-by : (s : List ℕ) (p : Span) (v : Result ⊤ Refusal) → NameRead s v (Ok p) → take p.len (drop p.start s) ≡ label_under v (job_name s)
unfolding label_under
told-by s p (Ok u) h = h.1.text
told-by s p (Err r) h = cc

none-by : (s : List ℕ) (r : Refusal) (v : Result ⊤ Refusal) → NameRead s v (Err r) → [] ≡ label_under v (job_name s)
unfolding label_under
none-by s r (Ok u) h = absurd h
none-by s r (Err q) h = refl

module _ (s : List ℕ) where
  pub name-told : (p : Span) → NameRead s (job_verdict s) (Ok p) → take p.len (drop p.start s) ≡ job_name_told s
  unfolding job_name_told
  name-told p h = told-by s p (job_verdict s) h

  pub no-name-told : (r : Refusal) → NameRead s (job_verdict s) (Err r) → [] ≡ job_name_told s
  unfolding job_name_told
  no-name-told r h = none-by s r (job_verdict s) h
