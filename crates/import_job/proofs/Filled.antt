-- The second pass over a job without fault: one field, from field to field, and the end. Assumes nothing.
use Rattle.std.specs.Prelude.{Ok, Err, Result, IsOk}
use Prim.Native.Nat.{ℕ, ◌+◌, ◌≤◌, ◌<◌}
use mathlib.Core.Path.{◌≡◌, refl, sym, ap, ◌∙◌}
use mathlib.Core.Bool.{false}
use mathlib.Core.List.{List, [], ◌++◌, map, map-append}
use native.Mathlib.Omega.{arith}
use borrow.Author.Tests.{eq-eqb, ne_eqb}
use lib.Dec.{eqb}
use lib.IntN.{ℤ}
use lib.ListN.{length, drop, length-append, length-map}
use Rattle.rules.specs.Vocabulary.{pick, any}
use Rattle.rules.specs.Jobs.{Fields, ended, field, bad_tag, unknown_kind, rows_of, rows_in, field_then, fields_from, job_fields, fault_of, threads_in, commands_in}
use Rattle.rules.specs.Jobs.{job_xs, job_ys, job_kinds, job_threads, job_commands}
use Rattle.rules.specs.Promises.{xs_of, ys_of, kinds_of}
use Rattle.rules.specs.declared.Cmd.{Cmd}
use Rattle.rules.specs.declared.Refusal.{Refusal}
use Rattle.rules.specs.declared.Refusal.TheVariants.{BadTag}
use Rattle.laws.specs.Buffers.{Put, put-nothing, put_front, Writing, writing_start, writing_more, writing-done}
use Rattle.laws.specs.Jobs.{fields-step}
use Rattle.laws.specs.Listing.{list-end}
use Rattle.laws.specs.Tests.{by-test, pick-both}
use Rattle.laws.specs.Verdicts.{never_both}
use Rattle.read_job_fields.specs.Fields.{content_of, Lies, FieldRead}
use Rattle.read_job_fields.specs.declared.Field.{Field}
use Rattle.import_job.specs.Fills.{RowRoom, RowsPut, fields_at, Ready, Fills, Fits, Filled}
use Rattle.import_job.specs.declared.fill.Filler.{Filler}

-- ---- one field

module _ {s : List ℕ} {f : Filler} {nx ny nk nt : ℕ} (r : Ready s f nx ny nk nt) where
  not-refused : {X : Type 0} {why : Refusal} → fields_at s f ≡ ended (Err why) → X
  unfolding fault_of
  not-refused e = absurd (never_both (sym (ap fault_of e) ∙ r.sound))

  pub found : (a : Result Field Refusal) → FieldRead s f.before f.at a → IsOk a
  found (Ok t) l = refl
  found (Err why) e = not-refused e

  module _ {tag start end : ℕ} (l : Lies s f.before f.at tag start end) where
    abbrev content : List ℕ
    content = content_of s start end

    abbrev rest : Fields
    rest = fields_from tag (drop end s)

    known : any unknown_kind (rows_in tag content) ≡ false
    unfolding bad_tag
    known = by-test (any unknown_kind (rows_in tag content)) (λ u. not-refused {why = BadTag} (l.tells ∙ rw u)) (λ u. u)

    next : fields_at s f ≡ field tag content rest
    next = l.tells ∙ rw known

    commands-here : commands_in (fields_at s f) ≡ rows_in tag content ++ commands_in rest
    unfolding commands_in
    commands-here = ap commands_in next

    threads-here : threads_in (fields_at s f) ≡ pick (eqb tag 2) content [] ++ threads_in rest
    unfolding threads_in
    threads-here = ap threads_in next

    -- room for what the field holds
    pub row_room : tag ≡ 3 → RowRoom content f.commands nx ny nk
    unfolding rows_in
    row_room e =
        let here : commands_in (fields_at s f) ≡ rows_of content ++ commands_in rest = commands-here ∙ rw (eq-eqb tag 3 e) in
        let long = ap length here ∙ length-append (rows_of content) (commands_in rest) in
        let h = r.rows in record { in_xs = omega arith; in_ys = omega arith; in_kinds = omega arith }

    pub thread-room : tag ≡ 2 → f.thread_bytes + length content ≤ nt
    thread-room e =
        let here : threads_in (fields_at s f) ≡ content ++ threads_in rest = threads-here ∙ rw (eq-eqb tag 2 e) in
        let long = ap length here ∙ length-append content (threads_in rest) in
        omega (arith, r.threads)

    module _ {X X' Y Y' : List ℤ} {K K' T T' : List ℕ} where
      by_field : {n m : ℕ} → RowsPut (rows_in tag content) f.commands n X X' Y Y' K K' → Put T T' f.thread_bytes m (pick (eqb tag 2) content [])
          → Fills s f X X' Y Y' K K' T T' (record { before = tag; at = end; commands = n; thread_bytes = m })
      unfolding fault_of
      by_field p q = record {
        cs = rows_in tag content;
        bytes = pick (eqb tag 2) content [];
        commands_are = commands-here;
        threads_are = threads-here;
        rows = p;
        threads = q;
        sound = sym (ap fault_of next) ∙ r.sound;
        later = omega arith;
        inside = l.inside;
      }

    -- commands, a thread, or neither
    pub fills-rows : {X X' Y Y' : List ℤ} {K K' T : List ℕ} {n : ℕ} → tag ≡ 3 → RowsPut (rows_of content) f.commands n X X' Y Y' K K'
        → Fills s f X X' Y Y' K K' T T (record { before = tag; at = end; commands = n; thread_bytes = f.thread_bytes })
    unfolding rows_in
    fills-rows {T = T} e p = by_field (rw (eq-eqb tag 3 e) p) (rw e (put-nothing T f.thread_bytes))

    nothing_put : {X Y : List ℤ} {K : List ℕ} → (tag ≡ 3 → ⊥) → RowsPut (rows_in tag content) f.commands f.commands X X Y Y K K
    unfolding rows_in
    nothing_put n = rw (ne_eqb tag 3 n) record { xs = put-nothing _ _; ys = put-nothing _ _; kinds = put-nothing _ _ }

    pub fills-thread : {X Y : List ℤ} {K T T' : List ℕ} {m : ℕ} → (tag ≡ 3 → ⊥) → tag ≡ 2 → Put T T' f.thread_bytes m content
        → Fills s f X X Y Y K K T T' (record { before = tag; at = end; commands = f.commands; thread_bytes = m })
    fills-thread n e p = by_field (nothing_put n) (rw (eq-eqb tag 2 e) p)

    pub fills-name : {X Y : List ℤ} {K T : List ℕ} → (tag ≡ 3 → ⊥) → (tag ≡ 2 → ⊥)
        → Fills s f X X Y Y K K T T (record { before = tag; at = end; commands = f.commands; thread_bytes = f.thread_bytes })
    fills-name {T = T} n m = by_field (nothing_put n) (rw (ne_eqb tag 2 m) (put-nothing T f.thread_bytes))

-- ---- from field to field

module _ (s : List ℕ) (X₀ Y₀ : List ℤ) (K₀ T₀ : List ℕ) where
  pub record Filling (X Y : List ℤ) (K T : List ℕ) (f : Filler) : Type 0 where
    pub xs : Writing X₀ 0 (job_xs s) X f.commands (xs_of (commands_in (fields_at s f)))
    pub ys : Writing Y₀ 0 (job_ys s) Y f.commands (ys_of (commands_in (fields_at s f)))
    pub kinds : Writing K₀ 0 (job_kinds s) K f.commands (kinds_of (commands_in (fields_at s f)))
    pub threads : Writing T₀ 0 (job_threads s) T f.thread_bytes (threads_in (fields_at s f))
    pub sound : fault_of (fields_at s f) ≡ Ok tt
    pub inside : f.at ≤ length s

  abbrev first : Filler
  first = record { before = 0; at = 0; commands = 0; thread_bytes = 0 }

  pub filling-start : fault_of (job_fields s) ≡ Ok tt → Fits s (length X₀) (length Y₀) (length K₀) (length T₀) → Filling X₀ Y₀ K₀ T₀ first
  unfolding job_fields job_xs job_ys job_kinds job_threads job_commands
  filling-start e h = record {
    xs = writing_start X₀ 0 _ (omega (arith, h.in_xs));
    ys = writing_start Y₀ 0 _ (omega (arith, h.in_ys));
    kinds = writing_start K₀ 0 _ (omega (arith, h.in_kinds));
    threads = writing_start T₀ 0 _ (omega (arith, h.in_threads));
    sound = e;
    inside = omega arith;
  }

module _ {s : List ℕ} {X₀ X Y₀ Y : List ℤ} {K₀ K T₀ T : List ℕ} {f : Filler} (g : Filling s X₀ Y₀ K₀ T₀ X Y K T f) where
  pub filling-ready : f.at < length s → Ready s f (length X) (length Y) (length K) (length T)
  filling-ready h =
      let cs : List Cmd = commands_in (fields_at s f) in
      record {
        inside = h;
        sound = g.sound;
        rows = record {
          in_xs = omega (arith, g.xs.place, g.xs.room, g.xs.same, length-map cs (λ (c : Cmd). c.x));
          in_ys = omega (arith, g.ys.place, g.ys.room, g.ys.same, length-map cs (λ (c : Cmd). c.y));
          in_kinds = omega (arith, g.kinds.place, g.kinds.room, g.kinds.same, length-map cs (λ (c : Cmd). c.kind));
        };
        threads = omega (arith, g.threads.place, g.threads.room, g.threads.same);
      }

  pub filling-on : {X' Y' : List ℤ} {K' T' : List ℕ} {h : Filler} → Fills s f X X' Y Y' K K' T T' h → Filling s X₀ Y₀ K₀ T₀ X' Y' K' T' h
  filling-on {h = h} p = record {
    xs = writing_more g.xs (column (λ (c : Cmd). c.x)) p.rows.xs;
    ys = writing_more g.ys (column (λ (c : Cmd). c.y)) p.rows.ys;
    kinds = writing_more g.kinds (column (λ (c : Cmd). c.kind)) p.rows.kinds;
    threads = writing_more g.threads p.threads_are p.threads;
    sound = p.sound;
    inside = p.inside;
  }
    where
      column : {A : Type 0} (k : Cmd → A) → map k (commands_in (fields_at s f)) ≡ map k p.cs ++ map k (commands_in (fields_at s h))
      column k = ap (map k) p.commands_are ∙ map-append k p.cs _

  -- nothing is left
  module _ (end : length s ≤ f.at) where
    last : fields_at s f ≡ pick (eqb f.before 0) bad_tag (ended (Ok tt))
    unfolding field_then
    last = rw (list-end s f.at end) (fields-step f.before [])

    no-commands : commands_in (fields_at s f) ≡ []
    unfolding commands_in bad_tag
    no-commands = ap commands_in last ∙ pick-both (λ fs. commands_in fs ≡ []) (eqb f.before 0) refl refl

    no_threads : threads_in (fields_at s f) ≡ []
    unfolding threads_in bad_tag
    no_threads = ap threads_in last ∙ pick-both (λ fs. threads_in fs ≡ []) (eqb f.before 0) refl refl

    front : {A : Type 0} {d₀ d whole coming : List A} {n : ℕ} → Writing d₀ 0 whole d n coming → coming ≡ [] → d ≡ whole ++ drop (length whole) d₀
    front w e = (put_front (omega (arith, w.room)) (writing-done w e)).1

    pub filling-done : Filled s X₀ X Y₀ Y K₀ K T₀ T
    filling-done = record {
      xs = front g.xs (ap xs_of no-commands);
      ys = front g.ys (ap ys_of no-commands);
      kinds = front g.kinds (ap kinds_of no-commands);
      threads = front g.threads no_threads;
      same_xs = g.xs.same;
      same_ys = g.ys.same;
      same_kinds = g.kinds.same;
      same_threads = g.threads.same;
    }
