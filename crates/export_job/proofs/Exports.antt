-- What the export answers, from the checks of the name and of the list, and the room for the job. Assumes nothing.
use Rattle.std.specs.Prelude.{Ok, Err, Result, ⊤}
use Prim.Native.Nat.{ℕ, ◌/◌, ◌≤◌, ◌<◌}
use mathlib.Core.Path.{◌≡◌, sym, ◌∙◌}
use mathlib.Core.List.{List}
use borrow.Author.Tests.{lt-ltb, le-ltb, ltb-false}
use lib.Dec.{ltb, eqb}
use lib.IntN.{ℤ}
use lib.ListN.{length}
use Rattle.rules.specs.Files.{filled}
use Rattle.rules.specs.Jobs.{job_of, export_refusals, export_verdict, export_answer}
use Rattle.rules.specs.Lists.{commands}
use Rattle.rules.specs.Promises.{Exported}
use Rattle.rules.specs.Refusals.{bad_list, place_outside, changes, too_many, verdict, command_verdict}
use Rattle.rules.specs.Vocabulary.{count}
use Rattle.rules.specs.declared.Cmd.{Cmd}
use Rattle.rules.specs.declared.Refusal.{Refusal}
use Rattle.rules.specs.declared.Refusal.TheVariants.{BadLength, BufferTooShort}
use Rattle.laws.specs.Tests.{or-no-left, or-no-right}
use Rattle.laws.specs.Verdicts.{first-false, verdict-on, verdict-stop}
use Rattle.laws.specs.Buffers.{Put}
use Rattle.emit.specs.Answered.{room_verdict, Answered}
use Rattle.emit.proofs.Writes.{put_all, no_room_lem}
use Rattle.export_job.specs.Lists.{Known}

-- the name is taken, and then the list decides
after-name : (name : List ℕ) (xs ys : List ℤ) (kinds threads : List ℕ) {v : Result ⊤ Refusal} → length name ≤ 64 → v ≡ command_verdict xs ys kinds threads
    → verdict (export_refusals name xs ys kinds threads) ≡ v
unfolding export_refusals verdict command_verdict
after-name name xs ys kinds threads h t = rw (le-ltb 64 (length name) h) (sym t)

-- the job is n cells long
module _ {job d : List ℕ} {n : ℕ} where
  pub sent : {d' : List ℕ} {r : ℕ} → n ≤ length d → length job ≡ n → Put d d' 0 r job → Answered export_answer job d d' (Ok r)
  unfolding export_answer
  sent h e p = put_all export_answer h e p

  pub not-sent : length d < n → length job ≡ n → Answered export_answer job d d (Err BufferTooShort)
  unfolding export_answer
  not-sent h e = no_room_lem export_answer h e

module _ {name : List ℕ} {xs ys : List ℤ} {kinds threads d : List ℕ} where
  -- the name is refused
  pub name-long : 64 < length name → Exported name xs ys kinds threads d d (Err BadLength)
  unfolding export_verdict export_refusals verdict export_answer filled
  name-long h = let t = lt-ltb 64 (length name) h in record { answered = rw t; stored = rw t }

  module _ {v : Result ⊤ Refusal} (h : length name ≤ 64) (t : v ≡ command_verdict xs ys kinds threads) where
    -- the list is refused
    pub not-exported : {s : Refusal} → v ≡ Err s → Exported name xs ys kinds threads d d (Err s)
    unfolding export_verdict export_answer filled
    not-exported {s} e =
        let w : export_verdict name xs ys kinds threads (length d) ≡ Err s
        = verdict-stop (export_refusals name xs ys kinds threads) _ s (after-name name xs ys kinds threads h t ∙ e) in
        record { answered = rw w; stored = rw w }

    -- it is accepted, and the job's room decides
    pub exported : {d' : List ℕ} {r : Result ℕ Refusal} → v ≡ Ok tt → Answered export_answer (job_of name (commands xs ys kinds) threads) d d' r
        → Exported name xs ys kinds threads d d' r
    unfolding export_verdict room_verdict
    exported e a =
        let w : export_verdict name xs ys kinds threads (length d) ≡ room_verdict (job_of name (commands xs ys kinds) threads) (length d)
        = verdict-on (export_refusals name xs ys kinds threads) _ (after-name name xs ys kinds threads h t ∙ e) in
        record { answered = rw w a.told; stored = rw w a.stored }

-- what an accepted list is known for
pub known : (xs ys : List ℤ) (kinds threads : List ℕ) {v : Result ⊤ Refusal} → v ≡ command_verdict xs ys kinds threads → v ≡ Ok tt
    → Known xs ys kinds × (length threads / 3 ≤ 255)
unfolding command_verdict verdict bad_list too_many
known xs ys kinds threads t e =
    let cs : List Cmd = commands xs ys kinds in
    let a = first-false (bad_list xs ys kinds) _ _ (sym t ∙ e) in
    let b = first-false (place_outside cs) _ _ a.1 in
    let c = first-false (too_many cs threads) _ _ b.1 in
    let many = or-no-left (ltb 65535 (length kinds)) _ (or-no-right (eqb (length kinds) 0) _ a.0) in
    let few = or-no-left (ltb 255 (length threads / 3)) _ (or-no-right (ltb 254 (count changes cs)) _ c.0) in
    (record { long = ltb-false 65535 (length kinds) many; places = b.0 }, ltb-false 255 (length threads / 3) few)
