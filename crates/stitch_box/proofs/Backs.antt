-- A list written and read back, from what the two calls promise. Assumes nothing.
use Rattle.std.specs.Prelude.{Some, Ok, Err, Option, Result, ⊤}
use Prim.Native.Nat.{ℕ, ◌≤◌}
use mathlib.Core.Path.{◌≡◌, refl, sym, ap, ◌∙◌}
use mathlib.Core.List.{List, ◌++◌}
use native.Mathlib.Omega.{arith}
use lib.IntN.{ℤ}
use lib.ListN.{length, take, drop, length-append, length-take}
use Rattle.rules.specs.Files.{file_of, read_verdict, read_answer, read_counts, filled, file_told, write_verdict, write_answer, write_length}
use Rattle.rules.specs.Lists.{commands}
use Rattle.rules.specs.Promises.{Wrote, ReadOf, Room, WroteAndRead, or_then, round_trip_answer, round_trip_number, round_trip_counts}
use Rattle.rules.specs.Refusals.{list_verdict, answer_number}
use Rattle.rules.specs.declared.Counts.{Counts}
use Rattle.rules.specs.declared.Format.{Format}
use Rattle.rules.specs.declared.Format.TheVariants.{Vp3}
use Rattle.rules.specs.declared.Refusal.{Refusal}
use Rattle.rules.specs.declared.RoundTripRefusal.TheVariants.{NotWritten}
use Rattle.laws.specs.Verdicts.{never_both}
use Rattle.sewing.specs.Calls.{RoundTrip, front, write-accepts, sewn}
use Rattle.stitch_box.specs.Back.{back_answer, ReadBackOf}
use Rattle.rules.specs.declared.Written.{Written}
use Rattle.rules.specs.declared.RoundTripRefusal.{RoundTripRefusal}

-- ---- what an answer says of the verdict

apart : {w : Written} {why : Refusal} → ◌≡◌ {A = Result Written Refusal} (Ok w) (Err why) → ⊥
apart e = let z : ◌≡◌ {A = ℕ} 0 1 = cc in omega arith

length-of : {w w' : Written} → ◌≡◌ {A = Result Written Refusal} (Ok w) (Ok w') → w.len ≡ w'.len
unfolding write_length
length-of e = ap write_length e

why-of : {r s : Refusal} → ◌≡◌ {A = Result Written Refusal} (Err r) (Err s) → ◌≡◌ {A = Result ⊤ Refusal} (Err r) (Err s)
why-of e = let z : ◌≡◌ {A = Refusal} _ _ = cc in ap Err z

if-written : (v : Result ⊤ Refusal) (far len : ℕ) (w : Written) → Ok w ≡ write_answer far v len → (v ≡ Ok tt) × (w.len ≡ len)
unfolding write_answer
if-written (Ok u) far len w e = (refl, length-of e)
if-written (Err r) far len w e = absurd (apart e)

if-unwritten : (v : Result ⊤ Refusal) (far len : ℕ) (why : Refusal) → Err why ≡ write_answer far v len → v ≡ Err why
unfolding write_answer
if-unwritten (Ok u) far len why e = absurd (apart (sym e))
if-unwritten (Err r) far len why e = sym (why-of e)

-- ---- an answer of both calls

number-back : (n : ℕ) (r : Result Counts Refusal) → round_trip_number (back_answer n r) ≡ answer_number r
unfolding round_trip_number back_answer answer_number
number-back n (Ok c) = refl
number-back n (Err why) = refl

counts-back : (n : ℕ) (r : Result Counts Refusal) → round_trip_counts (back_answer n r) ≡ read_counts r
unfolding round_trip_counts back_answer read_counts
counts-back n (Ok c) = refl
counts-back n (Err why) = refl

answer_back : (n : ℕ) (v : Result ⊤ Refusal) (c : Counts) {len : ℕ} → n ≡ len → back_answer n (read_answer v c) ≡ round_trip_answer (Ok tt) v len c
unfolding back_answer read_answer round_trip_answer
answer_back n (Ok u) c e = rw e
answer_back n (Err r) c e = rw e

module _ {e : Option Format} {name : List ℕ} {xs ys : List ℤ} {kinds threads d d' : List ℕ} {w : Result Written Refusal} (p : Wrote e name xs ys kinds threads d d' w) where
  abbrev says : Result ⊤ Refusal
  says = write_verdict e name xs ys kinds threads (length d)

  abbrev file : List ℕ
  file = file_told e name (commands xs ys kinds) threads

  -- ---- the list is written

  module _ {n far : ℕ} (is : w ≡ Ok (record { len = n; distance = far })) where
    accepted : (says ≡ Ok tt) × (n ≡ length file)
    accepted = if-written says _ (length file) (record { len = n; distance = far }) (sym is ∙ p.answered)

    held : d' ≡ file ++ drop (length file) d
    unfolding filled
    held = p.stored ∙ rw accepted.0

    pub short : n ≤ length d'
    short = omega (arith, accepted.1, ap length held, length-append file (drop (length file) d))

    pub front_long : n ≡ length (take n d')
    front_long = omega (arith, short, length-take n d')

    pub the_file_lem : take n d' ≡ file
    the_file_lem = rw held (front file d n accepted.1)

    -- as the write's length tells it
    told-length : take (write_length w) d' ≡ take n d'
    unfolding write_length
    told-length = rw is

    module _ {ps : List ℤ} {rs bs : List ℕ} {ps' : List ℤ} {rs' bs' : List ℕ} {a : Result (ℕ × Counts) RoundTripRefusal} (q : ReadBackOf e n (take n d') ps rs bs ps' rs' bs' a) where
      abbrev reading : Result ⊤ Refusal
      reading = read_verdict e file (length ps) (length rs) (length bs)

      -- the read was of the file
      read-too : ReadOf e file ps rs bs ps' rs' bs' q.answer
      read-too = rw the_file_lem at q.read

      -- both calls together
      abbrev trip : (f : Format) → e ≡ Some f → list_verdict f xs ys kinds threads ≡ Ok tt → Room f (file_of f name (commands xs ys kinds) threads) d ps rs bs → RoundTrip
      trip f n a m = record {
        format = f;
        extension = e;
        name = name;
        xs = xs;
        ys = ys;
        kinds = kinds;
        threads = threads;
        d = d;
        d' = d';
        ps = ps;
        ps' = ps';
        rs = rs;
        rs' = rs';
        bs = bs;
        bs' = bs';
        w = w;
        r = q.answer;
        named = n;
        accepted = a;
        room = m;
        wrote = p;
        read_back = rw (← told-length) at q.read;
      }

      -- the read back, in the answer of both
      as_read_lem : round_trip_number a ≡ answer_number q.answer
      as_read_lem = ap round_trip_number q.told ∙ number-back n q.answer

      as-counted : round_trip_counts a ≡ read_counts q.answer
      as-counted = ap round_trip_counts q.told ∙ counts-back n q.answer

      pub both : WroteAndRead e name xs ys kinds threads d ps rs bs d' ps' rs' bs' a
      unfolding or_then round_trip_answer
      both = record {
        answered = q.told ∙ ap (back_answer n) read-too.answered ∙ rw accepted.0 (answer_back n reading _ accepted.1);
        stored = p.stored;
        places_are = read-too.places_are ∙ rw accepted.0;
        runs_are = read-too.runs_are ∙ rw accepted.0;
        blocks_are = read-too.blocks_are ∙ rw accepted.0;
        keeps = record {
          unrefused = λ f n a m. as_read_lem ∙ (sewn (trip f n a m)).read;
          sewn = λ f j n a m. rw as-counted ((sewn (trip f n a m)).same j);
          needled = λ n a m. rw as-counted ((sewn (trip Vp3 n a m)).needled refl);
        };
      }

  -- ---- the list is refused

  module _ {why : Refusal} (is : w ≡ Err why) where
    refused : says ≡ Err why
    refused = if-unwritten says _ (length file) why (sym is ∙ p.answered)

    pub none : (ps : List ℤ) (rs bs : List ℕ) → WroteAndRead e name xs ys kinds threads d ps rs bs d' ps rs bs (Err (NotWritten why))
    unfolding or_then round_trip_answer filled
    none ps rs bs = record {
      answered = rw refused;
      stored = p.stored;
      places_are = rw refused;
      runs_are = rw refused;
      blocks_are = rw refused;
      keeps = record {
        unrefused = λ f n a m. absurd (never_both (sym refused ∙ write-accepts f e name xs ys kinds threads (length d) n a m.bytes));
        sewn = λ f j n a m. absurd (never_both (sym refused ∙ write-accepts f e name xs ys kinds threads (length d) n a m.bytes));
        needled = λ n a m. absurd (never_both (sym refused ∙ write-accepts Vp3 e name xs ys kinds threads (length d) n a m.bytes));
      };
    }
