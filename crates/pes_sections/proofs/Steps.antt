-- The loops over the list: the sections, their count and the colour log by one command more, and at the end. Assumes nothing.
use Prim.Native.Nat.{ℕ, ◌+◌, ◌*◌, ◌^◌, ◌≤◌, ◌<◌}
use mathlib.Core.Path.{◌≡◌, refl, sym, ap, ◌∙◌}
use mathlib.Core.Bool.{Bool, true, false, not, ◌&&◌}
use mathlib.Core.List.{List, [], ◌∷◌, ◌++◌}
use native.Mathlib.Omega.{arith}
use borrow.Author.Tests.{eqb-true, not-false}
use lib.Dec.{eqb}
use lib.IntN.{ℤ, pos}
use lib.ListN.{length, drop, get_or, length-append}
use lib.Signed.{mag}
use mir.Syntax.{w32}
use mir.Val.{hbits}
use Rattle.rules.specs.Vocabulary.{pick, little, joined}
use Rattle.rules.specs.Lists.{op_of, commands}
use Rattle.rules.specs.Pes.{PesState, run_length, pes_start, opens, pes_next, pes_point, pes_cmd, pes_sections, section_count, opens_section, color_log, shorts}
use Rattle.rules.specs.declared.Cmd.{Cmd}
use Rattle.rules.specs.declared.Color.{Color}
use Rattle.rules.specs.declared.Op.{Op}
use Rattle.rules.specs.declared.Op.TheVariants.{Stitch, Jump, Trim, ColorChange, End}
use Rattle.laws.specs.Tests.{by-test}
use Rattle.laws.specs.Listing.{cmd_at, length-commands, commands-more, list-end}
use Rattle.laws.specs.Lengths.{length-point}
use Rattle.laws.specs.Ints.{ret}
use Rattle.pes_section_cmd.specs.States.{moved_to, open_len, cmd_len, logs}
use Rattle.pes_section_cmd.proofs.Distances.{back}
use Rattle.pes_section_cmd.proofs.Lengths.{gap, open-long}
use Rattle.pes_sections.specs.States.{measures}
use Rattle.pes_sections.proofs.Lengths.{stitch-long, jump-long}
use Rattle.pes_sections.proofs.Shorts.{shorts-append}

-- ---- the bytes of a command

gap-long : (sections : ℕ) → length (gap sections) + 6 ≡ open_len sections
unfolding open_len little
gap-long sections = by-test (eqb sections 0) (λ e. rw e) (λ e. rw e)

cmd-long : (left bottom : ℤ) (s : PesState) (new : Bool) (op : Op) (c : Cmd) (cs : List Cmd) → length (pes_cmd left bottom s new op c cs) ≡ cmd_len s.sections new op
unfolding pes_cmd cmd_len
cmd-long left bottom s true Stitch c cs = omega (arith, stitch-long s left bottom c cs, open-long s 0 (run_length c.kind cs), gap-long s.sections)
cmd-long left bottom s false Stitch c cs = length-point left bottom c.x c.y
cmd-long left bottom s true Jump c cs = omega (arith, jump-long s left bottom c cs, open-long s 1 2, gap-long s.sections)
cmd-long left bottom s false Jump c cs = refl
cmd-long left bottom s new Trim c cs = refl
cmd-long left bottom s new ColorChange c cs = refl
cmd-long left bottom s new End c cs = refl

-- ---- what the loops know

-- a walk over the n commands of the lists has come to the one at i: how many threads and sections that makes
pub record Walk (xs ys : List ℤ) (ks : List ℕ) (n i : ℕ) (s : PesState) : Type 0 where
  pub all : n ≡ length (commands xs ys ks)
  pub across : n ≤ length xs
  pub down : n ≤ length ys
  pub kinds : n ≤ length ks
  pub few : n ≤ 65535
  pub few_threads : s.thread ≤ 1 + i
  pub few_sections : s.sections ≤ i

-- what is said of a state at some place: two of the loops do not move it along a run
pub record Somewhere (P : PesState → Type 0) (s : PesState) : Type 0 where
  pub x : ℤ
  pub y : ℤ
  pub there : P (moved_to s x y)

-- what is measured before the command at i, and what is left, come to the whole
pub record Sizing (ts : List Color) (cs : List Cmd) (i : ℕ) (s : PesState) (bytes logged last : ℕ) : Type 0 where
  pub long : (left bottom : ℤ) → length (pes_sections left bottom ts (pes_start ts) cs) ≡ bytes + length (pes_sections left bottom ts s (drop i cs))
  pub count : section_count ts (pes_start ts) cs ≡ section_count ts s (drop i cs)
  pub log : length (color_log ts 65 (pes_start ts) cs) ≡ 2 * logged + length (color_log ts last s (drop i cs))

-- at first
pub walk_start : {xs ys : List ℤ} {ks : List ℕ} {n : ℕ} (ts : List Color) {s : PesState} → n ≡ length (commands xs ys ks) → length ks ≤ 65535 → s ≡ pes_start ts
    → Walk xs ys ks n 0 s
unfolding pes_start
walk_start {xs} {ys} {ks} ts e l first =
    let long = length-commands xs ys ks in
    rw first (record {
      all = e;
      across = omega arith;
      down = omega arith;
      kinds = omega arith;
      few = omega arith;
      few_threads = omega arith;
      few_sections = omega arith;
    })

pub somewhere-start : {P : PesState → Type 0} {s : PesState} → P s → Somewhere P s
somewhere-start {s = s} p = record { x = s.x; y = s.y; there = p }

pub sizing-start : (ts : List Color) (cs : List Cmd) → Sizing ts cs 0 (pes_start ts) 0 0 65
sizing-start ts cs = record { long = λ left bottom. omega arith; count = refl; log = omega arith }

-- ---- at most one thread and one section more
one_more : (n : ℕ) (b : Bool) → n + pick b 1 0 ≤ n + 1
one_more n true = omega arith
one_more n false = omega arith

few-more : (ts : List Color) (s : PesState) (new : Bool) (op : Op) (c : Cmd)
    → ((pes_next ts s new op c).thread ≤ s.thread + 1) × ((pes_next ts s new op c).sections ≤ s.sections + 1)
unfolding pes_next
few-more ts s new Stitch c = (omega arith, one_more s.sections new)
few-more ts s new Jump c = (omega arith, one_more s.sections new)
few-more ts s new Trim c = (omega arith, omega arith)
few-more ts s true ColorChange c = (omega arith, omega arith)
few-more ts s false ColorChange c = (omega arith, omega arith)
few-more ts s new End c = (omega arith, omega arith)

-- ---- one more command, and the end

-- an entry is logged, or none is
entry-or-none : (f : ℕ → List ℕ) (o e : Bool) (section code last : ℕ)
    → pick o (pick e (f last) (section ∷ code ∷ f code)) (f last) ≡ pick (o && not e) (section ∷ code ∷ []) [] ++ f (pick (o && not e) code last)
entry-or-none f true true section code last = refl
entry-or-none f true false section code last = refl
entry-or-none f false e section code last = refl

two-or-none : (b : Bool) (m n : ℕ) (ns : List ℕ) → length (pick b (m ∷ n ∷ []) [] ++ ns) ≡ 2 * pick b 1 0 + length ns
two-or-none true m n ns = omega arith
two-or-none false m n ns = omega arith

shorts-or-none : (b : Bool) (ms ns : List ℕ) → shorts (pick b ms [] ++ ns) ≡ pick b (shorts ms) [] ++ shorts ns
unfolding shorts
shorts-or-none true ms ns = shorts-append ms ns
shorts-or-none false ms ns = refl

module _ (xs ys : List ℤ) (ks : List ℕ) (i : ℕ) (s : PesState) where
  abbrev cs : List Cmd
  cs = commands xs ys ks

  -- whether the command at i opens a run
  abbrev pub new_at : Bool
  new_at = not (eqb (get_or ks i 0) s.before)

  -- whether it is logged
  abbrev pub logs_at : ℕ → Bool
  logs_at last = logs last s.code new_at (op_of (get_or ks i 0))

  -- what the log has for it
  abbrev pub entry_at : ℕ → List ℕ
  entry_at last = pick (logs_at last) (shorts (s.sections ∷ s.code ∷ [])) []

  module _ (ts : List Color) where
    abbrev pub state_after : PesState
    state_after = pes_next ts s new_at (op_of (get_or ks i 0)) (cmd_at xs ys ks i)

    abbrev pub bytes_at : ℤ → ℤ → List ℕ
    bytes_at left bottom = pes_cmd left bottom s new_at (op_of (get_or ks i 0)) (cmd_at xs ys ks i) (drop i cs)

    abbrev pub bytes_after : ℤ → ℤ → List ℕ
    bytes_after left bottom = pes_sections left bottom ts state_after (drop (i + 1) cs)

    abbrev pub log_after : ℕ → List ℕ
    log_after last = color_log ts (pick (logs_at last) s.code last) state_after (drop (i + 1) cs)

    module _ (l : i < length cs) where
      pub next-bytes : (left bottom : ℤ) → pes_sections left bottom ts s (drop i cs) ≡ bytes_at left bottom ++ bytes_after left bottom
      unfolding pes_sections opens
      next-bytes left bottom = rw (commands-more xs ys ks i l)

      next-long : (left bottom : ℤ) → length (pes_sections left bottom ts s (drop i cs))
          ≡ cmd_len s.sections new_at (op_of (get_or ks i 0)) + length (bytes_after left bottom)
      next-long left bottom = ap length (next-bytes left bottom) ∙ rw (length-append, cmd-long)

      next-count : section_count ts s (drop i cs) ≡ section_count ts state_after (drop (i + 1) cs)
      unfolding section_count opens
      next-count = rw (commands-more xs ys ks i l)

      next-log : (last : ℕ) → color_log ts last s (drop i cs)
          ≡ pick (logs_at last) (s.sections ∷ s.code ∷ []) [] ++ log_after last
      unfolding color_log opens logs
      next-log last = rw (commands-more xs ys ks i l)
          (entry-or-none (λ n. color_log ts n state_after (drop (i + 1) cs)) (opens_section new_at (op_of (get_or ks i 0))) (eqb last s.code) s.sections s.code last)

      pub next-entry : (last : ℕ) → shorts (color_log ts last s (drop i cs)) ≡ entry_at last ++ shorts (log_after last)
      next-entry last = ap shorts (next-log last) ∙ shorts-or-none (logs_at last) _ _

      pub sizing-more : {bytes logged last : ℕ} → Sizing ts cs i s bytes logged last
          → Sizing ts cs (i + 1) state_after (bytes + cmd_len s.sections new_at (op_of (get_or ks i 0))) (logged + pick (logs_at last) 1 0) (pick (logs_at last) s.code last)
      sizing-more {last = last} w = record {
        long = λ left bottom. omega (arith, w.long left bottom, next-long left bottom);
        count = w.count ∙ next-count;
        log = omega (arith, w.log, ap length (next-log last), two-or-none (logs_at last) s.sections s.code (log_after last));
      }

    -- a stitch of an open section: four bytes, no entry of the log, another place
    module _ (old : new_at ≡ false) (stitch : get_or ks i 0 ≡ 0) where
      pub on_op : op_of (get_or ks i 0) ≡ Stitch
      unfolding op_of
      on_op = rw stitch

      pub on-state : state_after ≡ moved_to s (get_or xs i (pos 0)) (get_or ys i (pos 0))
      unfolding pes_next
      on-state =
          let kept : get_or ks i 0 ≡ s.before = eqb-true _ _ (not-false _ old) in
          let none : s.sections + 0 ≡ s.sections = omega arith in
          rw (old, on_op, kept, none)

      -- a stitch of an open section is its point
      pub on-bytes : (left bottom : ℤ) → bytes_at left bottom ≡ pes_point left bottom (get_or xs i (pos 0)) (get_or ys i (pos 0))
      unfolding pes_cmd
      on-bytes left bottom = rw (old, on_op)

      on-long : cmd_len s.sections new_at (op_of (get_or ks i 0)) ≡ 4
      unfolding cmd_len
      on-long = rw (old, on_op)

      on-log : (last : ℕ) → logs_at last ≡ false
      unfolding logs opens_section
      on-log last = rw (old, on_op)

      module _ (l : i < length cs) where
        pub sizing-on : {bytes logged last : ℕ} → Sizing ts cs i s bytes logged last
            → Sizing ts cs (i + 1) (moved_to s (get_or xs i (pos 0)) (get_or ys i (pos 0))) (bytes + 4) logged last
        sizing-on {logged = logged} {last = last} w =
            let none : logged + 0 ≡ logged = omega arith in
            rw none at (rw (on-state, on-long, on-log last) at (sizing-more l w))

        pub log-on : (last : ℕ) → shorts (color_log ts last s (drop i cs))
            ≡ shorts (color_log ts last (moved_to s (get_or xs i (pos 0)) (get_or ys i (pos 0))) (drop (i + 1) cs))
        log-on last = rw (on-log last, on-state) at (next-entry l last)

-- the state after, where the place of the last stitch was another
next-moved : (ts : List Color) (s : PesState) (x y : ℤ) (new : Bool) (op : Op) (c : Cmd)
    → pes_next ts (moved_to s x y) new op c ≡ moved_to (pes_next ts s new op c) (pes_next ts (moved_to s x y) new op c).x (pes_next ts (moved_to s x y) new op c).y
unfolding pes_next
next-moved ts s x y new Stitch c = refl
next-moved ts s x y new Jump c = refl
next-moved ts s x y new Trim c = refl
next-moved ts s x y true ColorChange c = refl
next-moved ts s x y false ColorChange c = refl
next-moved ts s x y new End c = refl

-- the command at i takes the state s to t
pub record Turn (xs ys : List ℤ) (ks : List ℕ) (i : ℕ) (s : PesState) (ts : List Color) (new : Bool) (t : PesState) : Type 0 where
  pub is_new : new ≡ new_at xs ys ks i s
  pub after : t ≡ state_after xs ys ks i s ts

-- as the code has it
pub turned : {xs ys : List ℤ} {ks : List ℕ} {i : ℕ} {s : PesState} {ts : List Color} {new : Bool} {t : PesState} → new ≡ new_at xs ys ks i s
    → mag (get_or xs i (pos 0)) < 2 ^ hbits w32 → mag (get_or ys i (pos 0)) < 2 ^ hbits w32
    → t ≡ pes_next ts s new (op_of (get_or ks i 0)) (record { x = back (get_or xs i (pos 0)); y = back (get_or ys i (pos 0)); kind = get_or ks i 0 })
    → Turn xs ys ks i s ts new t
turned {xs} {ys} {i = i} e f g h =
    record { is_new = e; after = rw (e, ret w32 (get_or xs i (pos 0)) f, ret w32 (get_or ys i (pos 0)) g) at h }

-- further on, with at most one thread and one section more
module _ {xs ys : List ℤ} {ks : List ℕ} {n i j : ℕ} {s : PesState} (w : Walk xs ys ks n i s) (l : i < j) where
  walk-to : {t : PesState} → t.thread ≤ s.thread + 1 → t.sections ≤ s.sections + 1 → Walk xs ys ks n j t
  walk-to h k = record {
    all = w.all;
    across = w.across;
    down = w.down;
    kinds = w.kinds;
    few = w.few;
    few_threads = omega arith;
    few_sections = omega arith;
  }

  pub walk-on : (x y : ℤ) → Walk xs ys ks n j (moved_to s x y)
  walk-on x y = walk-to (omega arith) (omega arith)

module _ {xs ys : List ℤ} {ks : List ℕ} {i : ℕ} {s : PesState} {ts : List Color} {new : Bool} {t : PesState} (e : Turn xs ys ks i s ts new t) where
  pub walk_more : {n : ℕ} → Walk xs ys ks n i s → Walk xs ys ks n (i + 1) t
  walk_more w =
      let few = few-more ts s (new_at xs ys ks i s) (op_of (get_or ks i 0)) (cmd_at xs ys ks i) in
      rw e.after (walk-to w (omega arith) few.0 few.1)

  pub somewhere-more : {P Q : PesState → Type 0} → ((x y : ℤ) → P (moved_to s x y) → Q (state_after xs ys ks i (moved_to s x y) ts))
      → Somewhere P s → Somewhere Q t
  somewhere-more f w =
      let u = f w.x w.y w.there in
      rw e.after
      (record { x = _; y = _; there = rw (next-moved ts s w.x w.y (new_at xs ys ks i s) (op_of (get_or ks i 0)) (cmd_at xs ys ks i)) at u })

-- no more
module _ (ts : List Color) (cs : List Cmd) (i : ℕ) (l : length cs ≤ i) where
  pub no_bytes : (s : PesState) (left bottom : ℤ) → pes_sections left bottom ts s (drop i cs) ≡ []
  unfolding pes_sections
  no_bytes s left bottom = rw (list-end cs i l)

  pub no-entry : (s : PesState) (last : ℕ) → shorts (color_log ts last s (drop i cs)) ≡ []
  unfolding shorts joined color_log
  no-entry s last = rw (list-end cs i l)

  pub sizing-done : (s : PesState) {bytes logged last : ℕ} → Sizing ts cs i s bytes logged last → measures ts cs (record { bytes = bytes; sections = s.sections; logged = logged })
  unfolding pes_sections section_count color_log
  sizing-done s w = record {
    long = λ left bottom. omega (arith, rw (list-end cs i l) at (w.long left bottom));
    count = sym (w.count ∙ rw (list-end cs i l));
    log = omega (arith, rw (list-end cs i l) at w.log);
  }
