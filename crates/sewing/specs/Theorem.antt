-- Demand 3 over the definitions: for every list accepted for a format, with any name and threads, the file that is written is not
-- refused, and what is
-- read of it sews what the list sews. Two lists, in one format or two, read back as equal sewings exactly when they sew the same. Assumes
-- nothing.
use Rattle.std.specs.Prelude.{◌≡◌, ◌↔◌, false, List, ℕ, ◌/◌, ◌≤◌, ℤ, pos, ltb, length, Some, Ok}
use Rattle.std.proofs.Common.{sym, ◌∙◌, arith, ltb-false, le-ltb}
use Rattle.rules.specs.Vocabulary.{count}
use Rattle.rules.specs.Lists.{commands, threads_of}
use Rattle.rules.specs.Refusals.{changes, place_outside, too_many, verdict, list_verdict, step_in}
use Rattle.rules.specs.Files.{file_of, events_of, colour_of, places_of, runs_of, blocks_of, file_refusals, no_room, file_verdict, read_verdict}
use Rattle.rules.specs.Promises.{KeepsJumps}
use Rattle.rules.specs.Sewing.{Entry, list_sewing, file_sewing, Needle, list_needles, file_needles}
use Rattle.rules.specs.declared.Cmd.{Cmd}
use Rattle.rules.specs.declared.Format.{Format}
use Rattle.rules.specs.declared.Format.TheVariants.{Pes, Pec, Dst, Exp, Jef, Vp3}
use Rattle.laws.specs.Threads.{length-threads}
use Rattle.laws.specs.Tests.{or-no-left, or-no-right}
use Rattle.laws.specs.Listing.{length-commands}
use Rattle.laws.specs.Verdicts.{verdict-on}
use Rattle.sewing.specs.EventSewing.{event_sewing, answer-sewing, answer-needles}
use Rattle.sewing.specs.Accepting.{Taken, taken, Good, shape_of, accepted-good}
use Rattle.sewing.specs.DstSewing.{dst-sewing, dst-taken}
use Rattle.sewing.specs.PairSewing.{exp-sewing, exp-taken, jef-sewing, jef-taken}
use Rattle.sewing.specs.Vp3Needles.{event_needles, vp3-needles, vp3-taken}
use Rattle.sewing.specs.PecFiles.{Few, pec_sewing_lem, pec-taken, pes-sewing, pes-taken}

-- the sewing of what a read of the file answers, under its own format
abbrev pub read_sewing : Format → List ℕ → List Entry
read_sewing f s = file_sewing (places_of f s) (runs_of f s) (blocks_of f s)

-- ---- what acceptance says of sizes

pub few : (f : Format) (xs ys : List ℤ) (kinds threads : List ℕ) → Taken f xs ys kinds threads → Few (commands xs ys kinds) threads
unfolding too_many
few f xs ys kinds threads t =
    let s = shape_of f xs ys kinds t.shape in
    let a = or-no-left (ltb 254 (count changes (commands xs ys kinds))) _ t.few in
    let b = or-no-right (ltb 254 (count changes (commands xs ys kinds))) _ t.few in
    let c = or-no-left (ltb 255 (length threads / 3)) _ b in
    record {
      commands_few = omega (arith, ltb-false 65535 (length kinds) s.short, length-commands xs ys kinds);
      changes_few = ltb-false 254 (count changes (commands xs ys kinds)) a;
      threads_few = omega (arith, ltb-false 255 (length threads / 3) c, length-threads threads);
    }

-- ---- by format

events-sew : (f : Format) → KeepsJumps f → (name : List ℕ) (cs : List Cmd) (threads : List ℕ) → Few cs threads → Good (step_in f) (pos 0) (pos 0) cs
    → event_sewing 0 (pos 0) (pos 0) (events_of f (file_of f name cs threads)) ≡ list_sewing cs
events-sew Pes j name cs threads n g = pes-sewing name cs threads n.commands_few n.threads_few g
events-sew Pec j name cs threads n g = pec_sewing_lem name cs threads n.threads_few g
events-sew Dst j name cs threads n g = dst-sewing name cs threads g
events-sew Exp j name cs threads n g = exp-sewing name cs threads g
events-sew Jef j name cs threads n g = jef-sewing name cs threads n.threads_few g
events-sew Vp3 j name cs threads n g = absurd j

not-refused : (f : Format) (name : List ℕ) (cs : List Cmd) (threads : List ℕ) → Few cs threads → place_outside cs ≡ false
    → file_verdict (Some f) (file_of f name cs threads) ≡ Ok tt
unfolding file_verdict file_refusals file_of
not-refused Pes name cs threads n p = pes-taken name cs threads n
not-refused Pec name cs threads n p = pec-taken name cs threads n
not-refused Dst name cs threads n p = dst-taken name cs threads n.commands_few
not-refused Exp name cs threads n p = exp-taken name cs threads n.commands_few
not-refused Jef name cs threads n p = jef-taken name cs threads n.commands_few n.threads_few
not-refused Vp3 name cs threads n p = vp3-taken cs (threads_of threads) p n.changes_few n.commands_few

-- ---- the claim

-- the file is not refused, and what is read of it sews what the list sews, in the formats that keep jumps
pub record Kept (f : Format) (name : List ℕ) (xs ys : List ℤ) (kinds threads : List ℕ) : Type 0 where
  pub taken_back : file_verdict (Some f) (file_of f name (commands xs ys kinds) threads) ≡ Ok tt
  pub sews_same : KeepsJumps f → read_sewing f (file_of f name (commands xs ys kinds) threads) ≡ list_sewing (commands xs ys kinds)

pub kept : (f : Format) (name : List ℕ) (xs ys : List ℤ) (kinds threads : List ℕ) → list_verdict f xs ys kinds threads ≡ Ok tt → Kept f name xs ys kinds threads
unfolding places_of runs_of blocks_of
kept f name xs ys kinds threads e =
    let t = taken f xs ys kinds threads e in
    let n = few f xs ys kinds threads t in
    let cs = commands xs ys kinds in
    let s = file_of f name cs threads in
    record {
      taken_back = not-refused f name cs threads n t.place;
      sews_same = λ j. answer-sewing (colour_of f s) (events_of f s) ∙ events-sew f j name cs threads n (accepted-good f xs ys kinds threads t);
    }

-- two things, each equal to another, are equal exactly when the others are
pub alike : {A : Type 0} {a b c d : A} → a ≡ b → c ≡ d → (a ≡ c) ↔ (b ≡ d)
alike p q = (λ e. sym p ∙ e ∙ q, λ e. p ∙ e ∙ sym q)

-- two lists, each accepted for its own format, read back as equal sewings exactly when they sew the same
pub same-sewing : (f g : Format) → KeepsJumps f → KeepsJumps g → (name name' : List ℕ) (xs ys xs' ys' : List ℤ) (kinds threads kinds' threads' : List ℕ)
    → list_verdict f xs ys kinds threads ≡ Ok tt → list_verdict g xs' ys' kinds' threads' ≡ Ok tt
    → (read_sewing f (file_of f name (commands xs ys kinds) threads) ≡ read_sewing g (file_of g name' (commands xs' ys' kinds') threads'))
    ↔ (list_sewing (commands xs ys kinds) ≡ list_sewing (commands xs' ys' kinds'))
same-sewing f g j j' name name' xs ys xs' ys' kinds threads kinds' threads' e e' =
    alike ((kept f name xs ys kinds threads e).sews_same j) ((kept g name' xs' ys' kinds' threads' e').sews_same j')

-- ---- VP3

-- the needle places of what a read of the file answers
abbrev pub read_needles : List ℕ → List Needle
read_needles s = file_needles (places_of Vp3 s) (runs_of Vp3 s) (blocks_of Vp3 s)

-- they are the list's stitches, with their places and block numbers
pub kept-needles : (name : List ℕ) (xs ys : List ℤ) (kinds threads : List ℕ) → list_verdict Vp3 xs ys kinds threads ≡ Ok tt
    → read_needles (file_of Vp3 name (commands xs ys kinds) threads) ≡ list_needles (commands xs ys kinds)
unfolding places_of runs_of blocks_of events_of file_of event_needles
kept-needles name xs ys kinds threads e =
    let t = taken Vp3 xs ys kinds threads e in
    let n = few Vp3 xs ys kinds threads t in
    let cs = commands xs ys kinds in
    let s = file_of Vp3 name cs threads in
    answer-needles (colour_of Vp3 s) (events_of Vp3 s) ∙ vp3-needles cs (threads_of threads) t.place n.changes_few n.commands_few

-- so of two accepted lists the needle places agree exactly when the stitches do
pub same-needles : (name name' : List ℕ) (xs ys xs' ys' : List ℤ) (kinds threads kinds' threads' : List ℕ)
    → list_verdict Vp3 xs ys kinds threads ≡ Ok tt → list_verdict Vp3 xs' ys' kinds' threads' ≡ Ok tt
    → (read_needles (file_of Vp3 name (commands xs ys kinds) threads) ≡ read_needles (file_of Vp3 name' (commands xs' ys' kinds') threads'))
    ↔ (list_needles (commands xs ys kinds) ≡ list_needles (commands xs' ys' kinds'))
same-needles name name' xs ys xs' ys' kinds threads kinds' threads' e e' =
    alike (kept-needles name xs ys kinds threads e) (kept-needles name' xs' ys' kinds' threads' e')

-- ---- with buffers that hold the answer, the read is not refused either

pub read-accepted : (f : Format) (s : List ℕ) (n m k : ℕ) → file_verdict (Some f) s ≡ Ok tt
    → length (places_of f s) ≤ n → length (runs_of f s) ≤ m → length (blocks_of f s) ≤ k → read_verdict (Some f) s n m k ≡ Ok tt
unfolding file_verdict read_verdict no_room verdict
read-accepted f s n m k e a b c =
    verdict-on (file_refusals f s) _ e
    ∙ (rw (le-ltb n (length (places_of f s)) a, le-ltb m (length (runs_of f s)) b, le-ltb k (length (blocks_of f s)) c))
