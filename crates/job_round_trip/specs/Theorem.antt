-- The round trip of a job over the definitions: what is exported from a list accepted by 6 to 9, with a name of at most 64 bytes, is not
-- refused, and imports as that name, those thread bytes and that list. So two jobs are equal exactly when these are. Any job fits buffers
-- of a fifth of its length for the commands, and of half of it for the threads. Assumes nothing.
use Prim.Native.Nat.{ℕ, zero, suc, ◌+◌, ◌*◌, ◌/◌, ◌%◌, ◌≤◌, ◌<◌}
use Rattle.std.specs.Prelude.{◌≡◌, ◌↔◌, Bool, true, false, ◌||◌, ltb, eqb, ℤ, take, drop, get_or, Ok, Result, ⊤}
use Rattle.std.proofs.Math.Path.{refl}
use Rattle.std.proofs.Common.{sym, ap, ◌∙◌, mod-eq_of_lt, arith, length-append, take-append-drop, take_at, drop_at}
use Rattle.std.proofs.Math.Bool.{not}
use mathlib.Core.List.{List, [], ◌∷◌, ◌++◌, map, append_assoc}
use Rattle.std.proofs.Math.Nat.{suc_inj}
use borrow.Author.Tests.{ltb-false, le-ltb, le-leb, eq-eqb, ne_eqb, eqb-true, not-false}
use Rattle.std.proofs.Math.ListN.{length, length-take, length-drop}
use Rattle.std.proofs.lemmas.List.{length-map}
use Rattle.std.proofs.Math.Seq.{take-append_seam, drop-append_seam}
use Rattle.rules.specs.Vocabulary.{pick, any, count, signed, bits_of, little, from_little, joined, fuelled}
use Rattle.rules.specs.Limits.{longest_file, longest_name, field_commands}
use Rattle.rules.specs.Lists.{commands}
use Rattle.rules.specs.Vp3.{row_of}
use Rattle.rules.specs.Refusals.{bad_list, place_outside, outside, changes, too_many, verdict, command_verdict}
use Rattle.rules.specs.Jobs.{Fields, ended, field, bad_tag, bad_length, follows, length_allowed, rows_of, unknown_kind, rows_in, content_then}
use Rattle.rules.specs.Jobs.{field_then, fields_from, job_fields, fault_of, name_of, threads_in, commands_in, job_name, job_threads, job_commands}
use Rattle.rules.specs.Jobs.{job_xs, job_ys, job_kinds, job_refusals, job_no_room, job_verdict, import_verdict}
use Rattle.rules.specs.Jobs.{field_of, row_of_cmd, thread_fields, commands_then, command_fields, job_of}
use Rattle.rules.specs.Promises.{xs_of, ys_of, kinds_of}
use Rattle.rules.specs.declared.Cmd.{Cmd}
use Rattle.laws.specs.Tests.{by-test, or-no-left, or-no-right}
use Rattle.laws.specs.Ints.{ints, InBits, abs_is}
use Rattle.laws.specs.Twos.{bits-lt, signed-bits}
use Rattle.laws.specs.Little.{length-little, from-little}
use Rattle.laws.specs.Listing.{no_cmd, length-commands}
use Rattle.laws.specs.Places.{Small, every}
use Rattle.laws.specs.Verdicts.{first-false, verdict-on}
use Rattle.laws.specs.Jobs.{fields-step, rows_long}
use Rattle.export_job.specs.Lengths.{fields-of-commands, length-rows, job-length}
use Rattle.rules.specs.declared.Refusal.{Refusal}

-- ---- a field comes back

pub field_back : (before tag : ℕ) (content rest : List ℕ) → follows before tag ≡ true → length content < 65536
    → length_allowed tag (length content) ≡ true → any unknown_kind (rows_in tag content) ≡ false
    → fields_from before (field_of tag content ++ rest) ≡ field tag content (fields_from tag rest)
unfolding field_of field_then content_then
field_back before tag content rest f l a k =
    let n : ℕ = length content in
    let s : List ℕ = little 2 n ++ (content ++ rest) in
    let two = le-ltb (length s) 2 (omega (arith, length-append (little 2 n) (content ++ rest), length-little 2 n)) in
    let front = take_at (little 2 n) (content ++ rest) 2 (length-little 2 n) in
    let size : from_little (take 2 s) ≡ n = rw (front, from-little 2 n) (mod-eq_of_lt l) in
    let left : drop 2 s ≡ content ++ rest = drop_at (little 2 n) (content ++ rest) 2 (length-little 2 n) in
    let fits = le-ltb (length (content ++ rest)) n (omega (arith, length-append content rest)) in
    fields-step before (field_of tag content ++ rest)
    ∙ rw (append_assoc (little 2 n) content rest, f, two, size, left, fits, a)
    (rw (take-append_seam content rest, k, drop-append_seam content rest))

-- a field behind another
follows_on : (before tag : ℕ) → 0 < before → before ≤ tag → 2 ≤ tag → tag ≤ 3 → follows before tag ≡ true
unfolding follows
follows_on before tag p q l h = rw (ne_eqb before 0 (λ e. omega arith), le-leb 2 tag l, le-leb tag 3 h, le-leb before tag q)

-- ---- commands come back

-- places of 16 bits
pub record Short (c : Cmd) : Type 0 where
  pub across : InBits 15 c.x
  pub down : InBits 15 c.y

place-back : (z : ℤ) → InBits 15 z → signed 15 (from_little (little 2 (bits_of 15 z))) ≡ z
place-back z h = rw (from-little 2 (bits_of 15 z), mod-eq_of_lt (bits-lt 15 z)) (signed-bits 15 z h)

pub rows_back : (cs : List Cmd) → ((i : ℕ) → i < length cs → Short (get_or cs i no_cmd)) → rows_of (joined (map row_of_cmd cs)) ≡ cs
unfolding rows_of row_of_cmd joined little
rows_back [] h = refl
rows_back (c ∷ cs) h =
    let s = h 0 (omega arith) in
    rw (place-back c.x s.across, place-back c.y s.down, rows_back cs (λ i l. h (suc i) (omega arith)))

-- no place is outside the range, and no kind unknown
pub record Plain (cs : List Cmd) : Type 0 where
  pub inside : place_outside cs ≡ false
  pub known : any unknown_kind cs ≡ false

any_append : {A : Type 0} (p : A → Bool) (s t : List A) → any p (s ++ t) ≡ false → (any p s ≡ false) × (any p t ≡ false)
unfolding any
any_append p [] t e = (refl, e)
any_append p (x ∷ s) t e =
    let r = any_append p s t (or-no-right (p x) (any p (s ++ t)) e) in
    (rw (or-no-left (p x) (any p (s ++ t)) e, r.0), r.1)

-- some of them, and those behind
any-parts : {A : Type 0} (p : A → Bool) (n : ℕ) (s : List A) → any p s ≡ false → (any p (take n s) ≡ false) × (any p (drop n s) ≡ false)
any-parts p n s e = any_append p (take n s) (drop n s) (rw (take-append-drop n s) e)

plain-parts : (n : ℕ) (cs : List Cmd) → Plain cs → Plain (take n cs) × Plain (drop n cs)
unfolding place_outside
plain-parts n cs p =
    let i = any-parts outside n cs p.inside in
    let k = any-parts unknown_kind n cs p.known in
    (record { inside = i.0; known = k.0 }, record { inside = i.1; known = k.1 })

bits : (z : ℤ) → Small z → InBits 15 z
bits z h = omega (ints, abs_is z)

chunk-rows : (cs : List Cmd) → Plain cs → rows_of (joined (map row_of_cmd cs)) ≡ cs
chunk-rows cs p = rows_back cs (λ i l.
    let w = every cs p.inside i l in
    record { across = bits _ w.across; down = bits _ w.down })

-- a field of up to 1,000 commands
chunk_back : (before : ℕ) (cs : List Cmd) (rest : List ℕ) → 0 < before → before ≤ 3 → length cs ≤ 1000 → Plain cs
    → fields_from before (field_of 3 (joined (map row_of_cmd cs)) ++ rest) ≡ field 3 (joined (map row_of_cmd cs)) (fields_from 3 rest)
unfolding length_allowed rows_in
chunk_back before cs rest h l few p =
    let n = length-rows cs in
    field_back before 3 (joined (map row_of_cmd cs)) rest (follows_on before 3 h l (omega arith) (omega arith)) (omega arith)
    (eq-eqb (length (joined (map row_of_cmd cs)) % 5) 0 (omega arith))
    (rw (chunk-rows cs p) p.known)

-- ---- the fields of a job

-- fields without a fault, their threads and commands
pub record Holds (fs : Fields) (threads : List ℕ) (cs : List Cmd) : Type 0 where
  pub sound : fault_of fs ≡ Ok tt
  pub threads_are : threads_in fs ≡ threads
  pub commands_are : commands_in fs ≡ cs

no_more : (before : ℕ) → 0 < before → Holds (fields_from before []) [] []
unfolding field_then fault_of threads_in commands_in
no_more before h =
    rw (fields-step before [], ne_eqb before 0 (λ e. omega arith))
    (record { sound = refl; threads_are = refl; commands_are = refl })

-- the commands, 1,000 to a field
commands-back : (n : ℕ) (cs : List Cmd) (before : ℕ) → length cs < n → 0 < before → before ≤ 3 → Plain cs
    → Holds (fields_from before (command_fields cs)) [] cs
unfolding commands_then fault_of threads_in commands_in rows_in
commands-back zero cs before l h b p = absurd (omega arith)
commands-back (suc n) [] before l h b p = rw (fields-of-commands []) (no_more before h)
commands-back (suc n) (c ∷ cs) before l h b p =
    let first : List Cmd = take field_commands (c ∷ cs) in
    let behind : List Cmd = drop field_commands (c ∷ cs) in
    let ps = plain-parts field_commands (c ∷ cs) p in
    let r = commands-back n behind 3 (simp length-drop (omega arith)) (omega arith) (omega arith) ps.1 in
    let e = chunk_back before first (command_fields behind) h b (simp length-take (omega arith)) ps.0 in
    rw (fields-of-commands (c ∷ cs), e)
    (record {
      sound = r.sound;
      threads_are = r.threads_are;
      commands_are = rw (chunk-rows first ps.0, r.commands_are) (take-append-drop field_commands (c ∷ cs));
    })

-- a field for each thread
threads_back : (threads rest : List ℕ) (cs : List Cmd) (before : ℕ) → length threads % 3 ≡ 0 → 0 < before → before ≤ 2
    → ((b : ℕ) → 0 < b → b ≤ 3 → Holds (fields_from b rest) [] cs) → Holds (fields_from before (thread_fields threads ++ rest)) threads cs
unfolding thread_fields length_allowed rows_in any fault_of threads_in commands_in
threads_back [] rest cs before m h b f = f before h (omega arith)
threads_back (red ∷ []) rest cs before m h b f = absurd (omega arith)
threads_back (red ∷ green ∷ []) rest cs before m h b f = absurd (omega arith)
threads_back (red ∷ green ∷ blue ∷ threads) rest cs before m h b f =
    let thread : List ℕ = red ∷ green ∷ blue ∷ [] in
    let r = threads_back threads rest cs 2 (omega arith) (omega arith) (omega arith) f in
    let f₂ = follows_on before 2 h b (omega arith) (omega arith) in
    let e = field_back before 2 thread (thread_fields threads ++ rest) f₂ (omega arith) refl refl in
    rw (append_assoc (field_of 2 thread) (thread_fields threads) rest, e)
    (record {
      sound = r.sound;
      threads_are = ap (λ (t : List ℕ). thread ++ t) r.threads_are;
      commands_are = r.commands_are;
    })

module _ (name : List ℕ) (cs : List Cmd) (threads : List ℕ)
    (short : length name ≤ longest_name) (plain : Plain cs) (three : length threads % 3 ≡ 0) where
  -- the name first, then the threads and the commands
  fields-are : job_fields (job_of name cs threads) ≡ field 1 name (fields_from 1 (thread_fields threads ++ command_fields cs))
  unfolding job_fields job_of follows length_allowed rows_in any
  fields-are =
      rw (append_assoc (field_of 1 name) (thread_fields threads) (command_fields cs))
      (field_back 0 1 name (thread_fields threads ++ command_fields cs) refl (omega arith) (le-leb _ _ short) refl)

  behind-name : Holds (fields_from 1 (thread_fields threads ++ command_fields cs)) threads cs
  behind-name =
      threads_back threads (command_fields cs) cs 1 three (omega arith) (omega arith) (λ b h l.
      commands-back (suc (length cs)) cs b (omega arith) h l plain)

  name_back : job_name (job_of name cs threads) ≡ name
  unfolding job_name name_of
  name_back = rw fields-are

  job-holds : Holds (job_fields (job_of name cs threads)) threads cs
  unfolding fault_of threads_in commands_in rows_in
  job-holds = let h = behind-name in
      rw fields-are (record { sound = h.sound; threads_are = h.threads_are; commands_are = h.commands_are })

-- ---- what acceptance by 6 to 9 says

record Checked (xs ys : List ℤ) (kinds threads : List ℕ) : Type 0 where
  few : length kinds ≤ 65535
  across : length xs ≡ length kinds
  down : length ys ≡ length kinds
  known : any (ltb 4) kinds ≡ false
  inside : place_outside (commands xs ys kinds) ≡ false
  threads_few : length threads / 3 ≤ 255
  three : length threads % 3 ≡ 0

checked : (xs ys : List ℤ) (kinds threads : List ℕ) → command_verdict xs ys kinds threads ≡ Ok tt → Checked xs ys kinds threads
unfolding command_verdict verdict bad_list too_many
checked xs ys kinds threads e =
    let b = first-false (bad_list xs ys kinds) _ _ e in
    let p = first-false (place_outside (commands xs ys kinds)) _ _ b.1 in
    let t = first-false (too_many (commands xs ys kinds) threads) _ _ p.1 in
    let b₁ = or-no-right (eqb (length kinds) 0) _ b.0 in
    let b₂ = or-no-right (ltb 65535 (length kinds)) _ b₁ in
    let b₃ = or-no-right (not (eqb (length xs) (length kinds))) _ b₂ in
    let b₄ = or-no-right (not (eqb (length ys) (length kinds))) _ b₃ in
    let t₁ = or-no-right (ltb 254 (count changes (commands xs ys kinds))) _ t.0 in
    record {
      few = ltb-false _ _ (or-no-left (ltb 65535 (length kinds)) _ b₁);
      across = eqb-true _ _ (not-false _ (or-no-left (not (eqb (length xs) (length kinds))) _ b₂));
      down = eqb-true _ _ (not-false _ (or-no-left (not (eqb (length ys) (length kinds))) _ b₃));
      known = or-no-left (any (ltb 4) kinds) _ b₄;
      inside = p.0;
      threads_few = ltb-false _ _ (or-no-left (ltb 255 (length threads / 3)) _ t₁);
      three = eqb-true _ _ (not-false _ (or-no-right (ltb 255 (length threads / 3)) _ t₁));
    }

-- the columns of a list that three slices of one length hold
record Columns (xs ys : List ℤ) (kinds : List ℕ) : Type 0 where
  across : xs_of (commands xs ys kinds) ≡ xs
  down : ys_of (commands xs ys kinds) ≡ ys
  kind : kinds_of (commands xs ys kinds) ≡ kinds

columns-back : (xs ys : List ℤ) (kinds : List ℕ) → length xs ≡ length kinds → length ys ≡ length kinds → Columns xs ys kinds
unfolding commands
columns-back [] [] [] p q = record { across = refl; down = refl; kind = refl }
columns-back [] [] (k ∷ kinds) p q = absurd (omega arith)
columns-back [] (y ∷ ys) [] p q = absurd (omega arith)
columns-back [] (y ∷ ys) (k ∷ kinds) p q = absurd (omega arith)
columns-back (x ∷ xs) [] [] p q = absurd (omega arith)
columns-back (x ∷ xs) [] (k ∷ kinds) p q = absurd (omega arith)
columns-back (x ∷ xs) (y ∷ ys) [] p q = absurd (omega arith)
columns-back (x ∷ xs) (y ∷ ys) (k ∷ kinds) p q =
    let r = columns-back xs ys kinds (suc_inj p) (suc_inj q) in
    record {
      across = ap (λ (l : List ℤ). x ∷ l) r.across;
      down = ap (λ (l : List ℤ). y ∷ l) r.down;
      kind = ap (λ (l : List ℕ). k ∷ l) r.kind;
    }

kinds-known : (cs : List Cmd) → any (ltb 4) (kinds_of cs) ≡ false → any unknown_kind cs ≡ false
unfolding any unknown_kind
kinds-known [] e = refl
kinds-known (c ∷ cs) e = rw (or-no-left (ltb 4 c.kind) _ e, kinds-known cs (or-no-right (ltb 4 c.kind) _ e))

-- ---- the claim

-- the job of a list that three slices hold
abbrev pub job_for : List ℕ → List ℤ → List ℤ → List ℕ → List ℕ → List ℕ
job_for name xs ys kinds threads = job_of name (commands xs ys kinds) threads

-- The job is not refused, and its name, thread bytes and columns are those that were exported.
pub record Back (name : List ℕ) (xs ys : List ℤ) (kinds threads : List ℕ) : Type 0 where
  pub accepted : job_verdict (job_for name xs ys kinds threads) ≡ Ok tt
  pub name_is : job_name (job_for name xs ys kinds threads) ≡ name
  pub threads_are : job_threads (job_for name xs ys kinds threads) ≡ threads
  pub xs_are : job_xs (job_for name xs ys kinds threads) ≡ xs
  pub ys_are : job_ys (job_for name xs ys kinds threads) ≡ ys
  pub kinds_are : job_kinds (job_for name xs ys kinds threads) ≡ kinds

module _ (name : List ℕ) (xs ys : List ℤ) (kinds threads : List ℕ) (short : length name ≤ longest_name)
    (e : command_verdict xs ys kinds threads ≡ Ok tt) where
  -- the longest job: 64 bytes of a name, 255 threads, 65,535 commands in 66 fields
  pub job-bound : length (job_for name xs ys kinds threads) ≤ 329470
  job-bound =
      let c = checked xs ys kinds threads e in
      omega (arith, job-length name (commands xs ys kinds) threads, length-commands xs ys kinds)

  pub imports-back : Back name xs ys kinds threads
  unfolding job_threads job_xs job_ys job_kinds job_commands job_verdict job_refusals command_verdict verdict row_of
  imports-back =
      let c = checked xs ys kinds threads e in
      let k = columns-back xs ys kinds c.across c.down in
      let p : Plain (commands xs ys kinds) = record { inside = c.inside; known = kinds-known _ (rw k.kind c.known) } in
      let h = job-holds name (commands xs ys kinds) threads short p c.three in
      let long = le-ltb longest_file (length (job_for name xs ys kinds threads)) (omega (arith, job-bound)) in
      record {
        accepted = rw (long, h.sound, h.threads_are, h.commands_are, k.across, k.down, k.kind) e;
        name_is = name_back name (commands xs ys kinds) threads short p c.three;
        threads_are = h.threads_are;
        xs_are = rw h.commands_are k.across;
        ys_are = rw h.commands_are k.down;
        kinds_are = rw h.commands_are k.kind;
      }

-- with buffers that hold what it has, an accepted job is not refused
pub import-accepted : (job : List ℕ) (n m k l : ℕ) → job_verdict job ≡ Ok tt → length (job_xs job) ≤ n → length (job_ys job) ≤ m
    → length (job_kinds job) ≤ k → length (job_threads job) ≤ l → import_verdict job n m k l ≡ Ok tt
unfolding job_verdict import_verdict job_no_room verdict
import-accepted job n m k l e a b c d =
    verdict-on (job_refusals job) _ e
    ∙ rw (le-ltb n (length (job_xs job)) a, le-ltb m (length (job_ys job)) b)
    (rw (le-ltb k (length (job_kinds job)) c, le-ltb l (length (job_threads job)) d))

-- ---- two jobs

-- name, threads and list are the same
pub record Same (name : List ℕ) (xs ys : List ℤ) (kinds threads name' : List ℕ) (xs' ys' : List ℤ) (kinds' threads' : List ℕ) : Type 0 where
  pub same_name : name ≡ name'
  pub same_xs : xs ≡ xs'
  pub same_ys : ys ≡ ys'
  pub same_kinds : kinds ≡ kinds'
  pub same_threads : threads ≡ threads'

pub same-job : (name : List ℕ) (xs ys : List ℤ) (kinds threads name' : List ℕ) (xs' ys' : List ℤ) (kinds' threads' : List ℕ)
    → length name ≤ longest_name → command_verdict xs ys kinds threads ≡ Ok tt
    → length name' ≤ longest_name → command_verdict xs' ys' kinds' threads' ≡ Ok tt
    → (job_for name xs ys kinds threads ≡ job_for name' xs' ys' kinds' threads') ↔ Same name xs ys kinds threads name' xs' ys' kinds' threads'
same-job name xs ys kinds threads name' xs' ys' kinds' threads' h e h' e' =
    let b = imports-back name xs ys kinds threads h e in
    let b' = imports-back name' xs' ys' kinds' threads' h' e' in (
      λ p. record {
        same_name = sym b.name_is ∙ ap job_name p ∙ b'.name_is;
        same_xs = sym b.xs_are ∙ ap job_xs p ∙ b'.xs_are;
        same_ys = sym b.ys_are ∙ ap job_ys p ∙ b'.ys_are;
        same_kinds = sym b.kinds_are ∙ ap job_kinds p ∙ b'.kinds_are;
        same_threads = sym b.threads_are ∙ ap job_threads p ∙ b'.threads_are;
      },
      λ s. rw (s.same_name, s.same_xs, s.same_ys, s.same_kinds, s.same_threads),
    )

-- ---- buffers that hold any job

-- what holds at the bottom and is kept by each step holds of a recursion by fuel
fuelled-holds : {X R : Type 0} (P : X → R → Type 0) (body : (X → R) → X → R) (none : R) → ((x : X) → P x none)
    → ((f : X → R) → ((y : X) → P y (f y)) → (x : X) → P x (body f x)) → (n : ℕ) (x : X) → P x (fuelled body none n x)
unfolding fuelled
fuelled-holds P body none z s zero x = z x
fuelled-holds P body none z s (suc n) x = s (fuelled body none n) (fuelled-holds P body none z s n) x

-- five for a command, two for a byte of a thread
size : Fields → ℕ
size fs = 5 * length (commands_in fs) + 2 * length (threads_in fs)

ended-fits : (v : Result ⊤ Refusal) (n : ℕ) → size (ended v) ≤ n
unfolding size commands_in threads_in
ended-fits v n = omega arith

size-field : (tag : ℕ) (s : List ℕ) (fs : Fields)
    → size (field tag s fs) ≡ 5 * length (rows_in tag s) + 2 * length (pick (eqb tag 2) s []) + size fs
unfolding size commands_in threads_in
size-field tag s fs = simp length-append (omega arith)

-- tag and length take three bytes, and three bytes of a thread count as six
content-size : (tag : ℕ) (s : List ℕ) → length_allowed tag (length s) ≡ true
    → 5 * length (rows_in tag s) + 2 * length (pick (eqb tag 2) s []) ≤ 3 + length s
unfolding length_allowed rows_in
content-size tag s e = by-test (eqb tag 2)
    (λ t. let two = eqb-true tag 2 t in let three : length s ≡ 3 = eqb-true _ _ (rw two at e) in rw two (omega arith))
    (λ t. rw t (by-test (eqb tag 3) (λ u. rw u (omega (arith, rows_long s))) (λ u. rw u (omega arith))))

pick-by : {A : Type 0} (P : A → Type 0) (b : Bool) {x y : A} → P x → (b ≡ false → P y) → P (pick b x y)
pick-by P true h f = h
pick-by P false h f = f refl

module _ (go : ℕ → List ℕ → Fields) (h : (t : ℕ) (r : List ℕ) → size (go t r) ≤ length r) where
  content-fits : (tag len : ℕ) (s : List ℕ) → size (content_then go tag len s) ≤ 3 + length s
  unfolding content_then bad_tag bad_length
  content-fits tag len s =
      pick-by Fits (ltb (length s) len || not (length_allowed tag len)) (ended-fits _ _) (λ t.
      pick-by Fits (any unknown_kind (rows_in tag content)) (ended-fits _ _) (λ u.
      let l : len ≤ length s = ltb-false (length s) len (or-no-left (ltb (length s) len) _ t) in
      let long : length content ≡ len = omega (arith, length-take len s) in
      let a = content-size tag content (rw long (not-false _ (or-no-right (ltb (length s) len) _ t))) in
      omega (arith, size-field tag content (go tag (drop len s)), h tag (drop len s), length-drop len s)))
    where
      Fits : Fields → Type 0
      Fits fs = size fs ≤ 3 + length s

      content : List ℕ
      content = take len s

  field_fits : (before : ℕ) (s : List ℕ) → size (field_then go before s) ≤ length s
  unfolding field_then bad_tag bad_length
  field_fits before [] = pick-by (λ (fs : Fields). size fs ≤ 0) (eqb before 0) (ended-fits _ _) (λ _. ended-fits _ _)
  field_fits before (tag ∷ s) =
      pick-by (λ (fs : Fields). size fs ≤ suc (length s)) (not (follows before tag)) (ended-fits _ _) (λ _.
      pick-by (λ (fs : Fields). size fs ≤ suc (length s)) (ltb (length s) 2) (ended-fits _ _) (λ t.
      omega (arith, ltb-false (length s) 2 t, content-fits tag (from_little (take 2 s)) (drop 2 s), length-drop 2 s)))

fields_fit : (before : ℕ) (s : List ℕ) → size (fields_from before s) ≤ length s
unfolding fields_from
fields_fit before s =
    fuelled-holds (λ (p : ℕ × List ℕ) (fs : Fields). size fs ≤ length p.1)
    (λ (go : ℕ × List ℕ → Fields) (p : ℕ × List ℕ). field_then (λ t r. go (t, r)) p.0 p.1) (ended (Ok tt))
    (λ p. ended-fits (Ok tt) (length p.1))
    (λ go h p. field_fits (λ t r. go (t, r)) (λ t r. h (t, r)) p.0 p.1)
    (suc (length s)) (before, s)

-- n bytes have at most n / 5 commands and n / 2 bytes of threads
pub record Ample (job : List ℕ) : Type 0 where
  pub commands_fit : 5 * length (job_commands job) ≤ length job
  pub threads_fit : 2 * length (job_threads job) ≤ length job

pub ample : (job : List ℕ) → Ample job
unfolding job_commands job_threads job_fields size
ample job = let h = fields_fit 0 job in record { commands_fit = omega arith; threads_fit = omega arith }

-- so with a fifth and half of the bytes for cells 11 never comes
pub never-short : (job : List ℕ) (n m k l : ℕ) → length job / 5 ≤ n → length job / 5 ≤ m → length job / 5 ≤ k → length job / 2 ≤ l
    → job_no_room job n m k l ≡ false
unfolding job_no_room job_xs job_ys job_kinds
never-short job n m k l a b c d =
    let h = ample job in
    rw (fits (λ c. c.x) n a, fits (λ c. c.y) m b, fits (λ c. c.kind) k c, le-ltb l (length (job_threads job)) (omega arith))
  where
    fits : {A : Type 0} (f : Cmd → A) (i : ℕ) → length job / 5 ≤ i → ltb i (length (map f (job_commands job))) ≡ false
    fits f i le = let h = ample job in le-ltb i (length (map f (job_commands job))) (omega (arith, length-map (job_commands job) f))
