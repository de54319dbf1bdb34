-- How long a written file can be: `bound_of` and what `write_bound` answers. No accepted list's file is longer, and a write into a buffer
-- that is
-- at least as long as `write_bound` answers is never refused by 11. Assumes nothing.
use Rattle.std.specs.Prelude.{◌≡◌, Bool, List, [], ◌∷◌, ℕ, ◌/◌, ◌≤◌, min, ℤ, pos, length, Some, None, Ok, Err, Option, Result, ⊤}
use Rattle.std.proofs.Math.Path.{refl}
use Rattle.std.proofs.Common.{sym, ◌∙◌, ap}
use native.Mathlib.Omega.{arith}
use Rattle.std.proofs.Math.ListN.{length-append}
use Rattle.rules.specs.Vocabulary.{padded}
use Rattle.rules.specs.Lists.{commands, threads_of, written}
use Rattle.rules.specs.Refusals.{number_of, changes, verdict, list_refusals, list_verdict, answer_number}
use Rattle.rules.specs.Dst.{dst_cmd, dst_text, dst_file}
use Rattle.rules.specs.Exp.{exp_cmd, exp_file}
use Rattle.rules.specs.Jef.{jef_cmd, jef_header, jef_file}
use Rattle.rules.specs.Pec.{pec_start}
use Rattle.rules.specs.Files.{file_of, write_verdict, write_answer}
use Rattle.rules.specs.Promises.{Wrote, bound_of, bound_told}
use Rattle.rules.specs.declared.Cmd.{Cmd}
use Rattle.rules.specs.declared.Format.{Format}
use Rattle.rules.specs.declared.Format.TheVariants.{Pes, Pec, Dst, Exp, Jef, Vp3}
use Rattle.rules.specs.declared.Refusal.{Refusal}
use Rattle.rules.specs.declared.Refusal.TheVariants.{BufferTooShort}
use Rattle.laws.specs.Lengths.{length-stitches, length-middle, part_length, pec-length, pes-length}
use Rattle.laws.specs.Listing.{count-le, length-commands}
use Rattle.laws.specs.Vp3Lengths.{most-vp3}
use Rattle.laws.specs.Tests.{by-test}
use Rattle.laws.specs.Threads.{length-threads}
use Rattle.laws.specs.Verdicts.{verdict-stop}
use Rattle.sewing.specs.Accepting.{taken}
use Rattle.sewing.specs.Calls.{write-accepts}
use Rattle.sewing.specs.DstSewing as dst
use Rattle.sewing.specs.PairSewing.{header-length, table-length, written-length, exp-four-bytes, jef-four-bytes}
use Rattle.sewing.specs.PecFiles.{Few}
use Rattle.sewing.specs.Theorem.{few}
use Rattle.rules.specs.declared.Written.{Written}

-- ---- by format

module _ (name : List ℕ) (cs : List Cmd) (threads : List ℕ) (n : Few cs threads) where
  bounded-file : (f : Format) → length (file_of f name cs threads) ≤ bound_of f (length cs) (length (threads_of threads))
  unfolding file_of bound_of dst_file exp_file jef_file
  bounded-file Pes = omega (
    arith,
    pes-length name cs (threads_of threads),
    part_length name cs (threads_of threads) n.threads_few,
    length-stitches pec_start (pos 0) (pos 0) cs,
    length-middle cs (threads_of threads),
    count-le changes cs,
    n,
  )
  bounded-file Pec = omega (
    arith,
    pec-length name cs (threads_of threads),
    part_length name cs (threads_of threads) n.threads_few,
    length-stitches pec_start (pos 0) (pos 0) cs,
    count-le changes cs,
    n,
  )
  bounded-file Dst = omega (
    arith,
    length-append (padded 512 (dst_text name cs)) (written dst_cmd (pos 0) (pos 0) cs),
    dst.length-header name cs,
    dst.length-written (pos 0) (pos 0) cs,
  )
  bounded-file Exp = written-length exp_cmd exp-four-bytes (pos 0) (pos 0) cs
  bounded-file Jef = omega (
    arith,
    length-append (jef_header cs (threads_of threads)) (written jef_cmd (pos 0) (pos 0) cs),
    header-length cs (threads_of threads),
    table-length (threads_of threads),
    written-length jef_cmd jef-four-bytes (pos 0) (pos 0) cs,
  )
  bounded-file Vp3 = most-vp3 cs (threads_of threads) n.changes_few

-- fewer commands and threads have no greater bound
grows : (f : Format) (n n' t t' : ℕ) → n ≤ n' → t ≤ t' → bound_of f n t ≤ bound_of f n' t'
unfolding bound_of
grows Pes n n' t t' h k = omega arith
grows Pec n n' t t' h k = omega arith
grows Dst n n' t t' h k = omega arith
grows Exp n n' t t' h k = omega arith
grows Jef n n' t t' h k = omega arith
grows Vp3 n n' t t' h k = omega arith

-- ---- the claim

-- no accepted list's file is longer
pub bounded : (f : Format) (name : List ℕ) (xs ys : List ℤ) (kinds threads : List ℕ) → list_verdict f xs ys kinds threads ≡ Ok tt
    → length (file_of f name (commands xs ys kinds) threads) ≤ bound_told (Some f) (length kinds) (length threads / 3)
unfolding bound_told
bounded f name xs ys kinds threads e =
    let n = few f xs ys kinds threads (taken f xs ys kinds threads e) in
    let cs = commands xs ys kinds in
    let a = bounded-file name cs threads n f in
    let b = grows f (length cs) (min (length kinds) 65535) (length (threads_of threads)) (min (length threads / 3) 255)
    (omega (arith, n.commands_few, length-commands xs ys kinds)) (omega (arith, n.threads_few, length-threads threads)) in
    omega arith

-- ---- no 11

-- a refusal other than 11
abbrev pub Other : Refusal → Type 0
Other r = number_of r ≡ 11 → ⊥

-- a first refusal is one of those asked: none of them is 11
abbrev pub Below : List (Refusal × Bool) → Type 0
Below [] = Unit {0}
Below (c ∷ cs) = Other c.0 × Below cs

abbrev pub Small : Result ⊤ Refusal → Type 0
Small (Ok u) = Unit {0}
Small (Err r) = Other r

small : (cs : List (Refusal × Bool)) → Below cs → Small (verdict cs)
unfolding verdict
small [] h = tt
small (c ∷ cs) h = by-test c.1 (λ t. rw t h.0) (λ t. rw t (small cs h.1))

module _ (f : Format) (name : List ℕ) (xs ys : List ℤ) (kinds threads : List ℕ) (n : ℕ) (room : bound_told (Some f) (length kinds) (length threads / 3) ≤ n) where
  -- by what is said of the list
  by-list : (v : Result ⊤ Refusal) → list_verdict f xs ys kinds threads ≡ v → Small v → Small (write_verdict (Some f) name xs ys kinds threads n)
  unfolding list_verdict write_verdict
  by-list (Ok u) e s = rw (write-accepts f (Some f) name xs ys kinds threads n refl e (omega (arith, room, bounded f name xs ys kinds threads e))) tt
  by-list (Err r) e s = rw (verdict-stop (list_refusals f xs ys kinds threads) _ r e) s

  below : Below (list_refusals f xs ys kinds threads)
  unfolding list_refusals number_of
  below = (λ e. omega arith, (λ e. omega arith, (λ e. omega arith, (λ e. omega arith, (λ e. omega arith, tt)))))

  known_small : Small (write_verdict (Some f) name xs ys kinds threads n)
  unfolding list_verdict
  known_small = by-list (list_verdict f xs ys kinds threads) refl (small (list_refusals f xs ys kinds threads) below)

any_small : (e : Option Format) (name : List ℕ) (xs ys : List ℤ) (kinds threads : List ℕ) (n : ℕ) → bound_told e (length kinds) (length threads / 3) ≤ n
    → Small (write_verdict e name xs ys kinds threads n)
unfolding write_verdict verdict number_of
any_small None name xs ys kinds threads n room = λ e. omega arith
any_small (Some f) name xs ys kinds threads n room = known_small f name xs ys kinds threads n room

not-eleven : (v : Result ⊤ Refusal) (far len : ℕ) → Small v → write_answer far v len ≡ Err BufferTooShort → ⊥
unfolding write_answer number_of answer_number
not-eleven (Ok u) far len s e = let z : ◌≡◌ {A = ℕ} 0 1 = cc in omega arith
not-eleven (Err r) far len s e = s (ap answer_number e)

-- `write` into a buffer that is at least as long as `write_bound` answers is never refused by 11
pub never-short : (e : Option Format) (name : List ℕ) (xs ys : List ℤ) (kinds threads d d' : List ℕ) (w : Result Written Refusal) → Wrote e name xs ys kinds threads d d' w
    → bound_told e (length kinds) (length threads / 3) ≤ length d → w ≡ Err BufferTooShort → ⊥
never-short e name xs ys kinds threads d d' w p room is =
    not-eleven (write_verdict e name xs ys kinds threads (length d)) _ _ (any_small e name xs ys kinds threads (length d) room) (sym p.answered ∙ is)
