-- What a writer answers, from the checks of its list and the room for its file. Assumes nothing.
use Rattle.std.specs.Prelude.{Some, Ok, Err, Result, ⊤}
use Prim.Native.Nat.{ℕ, ◌/◌, ◌%◌, ◌≤◌, ◌<◌}
use mathlib.Core.Path.{◌≡◌, refl, sym, ◌∙◌}
use mathlib.Core.Bool.{Bool, true, false, not}
use mathlib.Core.List.{List}
use native.Mathlib.Omega.{arith}
use borrow.Author.Tests.{lt-ltb, le-ltb, ltb-true, ltb-false, eqb-true, eqb-false}
use lib.Dec.{ltb, eqb}
use lib.IntN.{ℤ}
use lib.ListN.{length}
use Rattle.rules.specs.Files.{file_of, file_told, distance_told, write_verdict, write_answer, filled}
use Rattle.rules.specs.Lists.{commands}
use Rattle.rules.specs.Promises.{Wrote}
use Rattle.rules.specs.Refusals.{bad_list, place_outside, changes, too_many, moved, step_too_long, verdict, list_refusals, list_verdict}
use Rattle.rules.specs.Vocabulary.{count}
use Rattle.rules.specs.declared.Cmd.{Cmd}
use Rattle.rules.specs.declared.Format.{Format}
use Rattle.rules.specs.declared.Refusal.{Refusal}
use Rattle.rules.specs.declared.Refusal.TheVariants.{BufferTooShort}
use Rattle.laws.specs.Buffers.{Put, put_front}
use Rattle.laws.specs.Tests.{by-test, or-no-left, or-no-right}
use Rattle.laws.specs.Verdicts.{first-false, verdict-on, verdict-stop}
use Rattle.emit.specs.Answered.{room_verdict, Answered, FileAnswered}
use Rattle.rules.specs.declared.Written.{Written}

-- ---- room: the file is n cells long

pub fits : {n room long : ℕ} → n ≤ room → long ≡ n → long ≤ room
fits h e = rw e h

module _ {file d : List ℕ} {n : ℕ} where
  module _ {A : Type 0} (answer : Result ⊤ Refusal → ℕ → A) where
    pub put_all : {d' : List ℕ} {r : ℕ} → n ≤ length d → length file ≡ n → Put d d' 0 r file → Answered answer file d d' (answer (Ok tt) r)
    unfolding room_verdict verdict filled
    put_all h e p =
        let v = le-ltb (length d) (length file) (fits h e) in
        let q = put_front (fits h e) p in
        record { told = rw (v, q.0); stored = rw v q.1 }

    pub no_room_lem : length d < n → length file ≡ n → Answered answer file d d (answer (Err BufferTooShort) (length file))
    unfolding room_verdict verdict filled
    no_room_lem h e = let v = lt-ltb (length d) (length file) (rw e h) in record { told = rw v; stored = rw v }

  pub written : {d' : List ℕ} {r k far : ℕ} → n ≤ length d → length file ≡ n → Put d d' 0 r file → k ≡ far → Answered (write_answer far) file d d' (Ok (record { len = r; distance = k }))
  unfolding write_answer
  written {far = far} h e p q = rw q (put_all (write_answer far) h e p)

  pub unwritten : (far : ℕ) → length d < n → length file ≡ n → Answered (write_answer far) file d d (Err BufferTooShort)
  unfolding write_answer
  unwritten far h e = no_room_lem (write_answer far) h e

-- ---- the checks: v is what they told

no-not : (b : Bool) → not b ≡ false → b ≡ true
no-not true e = refl
no-not false e = sym e

module _ {f : Format} {name : List ℕ} {xs ys : List ℤ} {kinds threads d : List ℕ} {v : Result ⊤ Refusal} where
  -- the list is refused
  pub not-wrote : {s : Refusal} → v ≡ list_verdict f xs ys kinds threads → v ≡ Err s → Wrote (Some f) name xs ys kinds threads d d (Err s)
  unfolding list_verdict write_verdict write_answer filled
  not-wrote {s} t e =
      let w : write_verdict (Some f) name xs ys kinds threads (length d) ≡ Err s = verdict-stop (list_refusals f xs ys kinds threads) _ s (sym t ∙ e) in
      record { answered = rw w; stored = rw w }

  -- the list is accepted, and its room decides
  pub wrote : {d' : List ℕ} {r : Result Written Refusal} → v ≡ list_verdict f xs ys kinds threads → v ≡ Ok tt
      → FileAnswered f name (commands xs ys kinds) threads d d' r → Wrote (Some f) name xs ys kinds threads d d' r
  unfolding list_verdict write_verdict room_verdict file_told distance_told
  wrote t e a =
      let rs = list_refusals f xs ys kinds threads in
      let w : write_verdict (Some f) name xs ys kinds threads (length d) ≡ room_verdict (file_of f name (commands xs ys kinds) threads) (length d)
      = verdict-on rs _ (sym t ∙ e) in
      record { answered = rw w a.told; stored = rw w a.stored }

-- ---- what an accepted list is known for

pub record Fine (f : Format) (xs ys : List ℤ) (kinds threads : List ℕ) : Type 0 where
  pub some : 1 ≤ length kinds
  pub long : length kinds ≤ 65535
  pub same_xs : length xs ≡ length kinds
  pub same_ys : length ys ≡ length kinds
  pub few : length threads ≤ 765
  pub few_changes : count changes (commands xs ys kinds) ≤ 254
  pub places : place_outside (commands xs ys kinds) ≡ false
  pub steps : step_too_long f (commands xs ys kinds) ≡ false

few_threads : (cs : List Cmd) (threads : List ℕ) → too_many cs threads ≡ false → length threads ≤ 765
unfolding too_many
few_threads cs threads t =
    let u = or-no-right (ltb 254 (count changes cs)) _ t in
    let a = ltb-false 255 (length threads / 3) (or-no-left _ _ u) in
    let b = eqb-true (length threads % 3) 0 (no-not _ (or-no-right (ltb 255 (length threads / 3)) _ u)) in
    omega arith

few-blocks : (cs : List Cmd) (threads : List ℕ) → too_many cs threads ≡ false → count changes cs ≤ 254
unfolding too_many
few-blocks cs threads t = ltb-false 254 (count changes cs) (or-no-left _ _ t)

-- as many places as kinds, from 1 to 65,535
record Even (xs ys : List ℤ) (kinds : List ℕ) : Type 0 where
  some : 1 ≤ length kinds
  long : length kinds ≤ 65535
  same_xs : length xs ≡ length kinds
  same_ys : length ys ≡ length kinds

even : (xs ys : List ℤ) (kinds : List ℕ) → bad_list xs ys kinds ≡ false → Even xs ys kinds
unfolding bad_list
even xs ys kinds t =
    let a = or-no-right (eqb (length kinds) 0) _ t in
    let b = or-no-right (ltb 65535 (length kinds)) _ a in
    let c = or-no-right (not (eqb (length xs) (length kinds))) _ b in
    record {
      some = above (length kinds) (or-no-left _ _ t);
      long = ltb-false 65535 (length kinds) (or-no-left _ _ a);
      same_xs = eqb-true (length xs) (length kinds) (no-not _ (or-no-left _ _ b));
      same_ys = eqb-true (length ys) (length kinds) (no-not _ (or-no-left _ _ c));
    }
  where
    above : (n : ℕ) → eqb n 0 ≡ false → 1 ≤ n
    above n e = by-test (ltb 0 n) (λ t. ltb-true 0 n t) (λ t. absurd (eqb-false n 0 e (omega (arith, ltb-false 0 n t))))

pub fine : {f : Format} {xs ys : List ℤ} {kinds threads : List ℕ} {v : Result ⊤ Refusal}
    → v ≡ list_verdict f xs ys kinds threads → v ≡ Ok tt → Fine f xs ys kinds threads
unfolding list_verdict list_refusals verdict
fine {f} {xs} {ys} {kinds} {threads} t e =
    let cs = commands xs ys kinds in
    let a = first-false (bad_list xs ys kinds) _ _ (sym t ∙ e) in
    let b = first-false (place_outside cs) _ _ a.1 in
    let c = first-false (too_many cs threads) _ _ b.1 in
    let d = first-false (moved cs) _ _ c.1 in
    let s = first-false (step_too_long f cs) _ _ d.1 in
    let g = even xs ys kinds a.0 in
    record {
      some = g.some;
      long = g.long;
      same_xs = g.same_xs;
      same_ys = g.same_ys;
      few = few_threads cs threads c.0;
      few_changes = few-blocks cs threads c.0;
      places = b.0;
      steps = s.0;
    }
