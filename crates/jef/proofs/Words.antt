-- Numbers of four bytes one after the other, and the thread table of such numbers. Assumes nothing.
use Rattle.std.specs.Prelude.{Some, None, Option}
use Prim.Native.Nat.{ℕ, suc, ◌+◌, ◌-◌, ◌*◌, ◌/◌, ◌≤◌, ◌<◌, max}
use mathlib.Core.Path.{◌≡◌, refl, sym, ap, ◌∙◌}
use mathlib.Core.List.{List, [], ◌∷◌, ◌++◌, append-nil}
use native.Mathlib.Omega.{arith}
use lib.ListN.{length, drop, replicate, length-append, length-drop, length-replicate}
use Rattle.rules.specs.Vocabulary.{little, joined}
use Rattle.rules.specs.Choices.{jef_choice, jef_entries}
use Rattle.rules.specs.Jef.{words, or_one, jef_table}
use Rattle.rules.specs.Lists.{threads_of}
use Rattle.rules.specs.declared.Color.{Color}
use Rattle.laws.specs.Decimals.{replicate_more}
use Rattle.laws.specs.Little.{length-little}
use Rattle.laws.specs.Threads.{thread_at, threads_more, threads-none, length-threads}

pub length-words : (ns : List ℕ) → length (words ns) ≡ 4 * length ns
unfolding words joined
length-words [] = refl
length-words (n ∷ ns) = omega (arith, length-append (little 4 n) (words ns), length-little 4 n, length-words ns)

-- one more of equal numbers
pub same_more : (k v : ℕ) → 0 < k → words (replicate k v) ≡ little 4 v ++ words (replicate (k - 1) v)
unfolding words joined
same_more k v h = ap words (replicate_more k v h)

pub length-same : (k v : ℕ) → length (words (replicate k v)) ≡ 4 * k
length-same k v = length-words (replicate k v) ∙ ap (λ (n : ℕ). 4 * n) (length-replicate k v)

-- ---- the threads' entries

-- three bytes are a thread
pub chunk-more : (rest chunk more : List ℕ) → rest ≡ chunk ++ more → length chunk ≡ 3 → threads_of rest ≡ thread_at chunk 0 ∷ threads_of more
unfolding threads_of
chunk-more rest [] more e h = absurd (omega arith)
chunk-more rest (r ∷ []) more e h = absurd (omega arith)
chunk-more rest (r ∷ g ∷ []) more e h = absurd (omega arith)
chunk-more rest (r ∷ g ∷ b ∷ []) more e h = rw e
chunk-more rest (r ∷ g ∷ b ∷ x ∷ t) more e h = absurd (omega arith)

-- one more thread, whose entry is e
pub entries-more : (last : Option (ℕ × Color)) (rest more : List ℕ) (t : Color) {e : ℕ} → threads_of rest ≡ t ∷ threads_of more → e ≡ jef_choice last t
    → words (jef_entries last (threads_of rest)) ≡ little 4 e ++ words (jef_entries (Some (e, t)) (threads_of more))
unfolding words joined jef_entries
entries-more last rest more t h f = rw (h, f)

-- no more
pub entries_none : (last : Option (ℕ × Color)) (rest : List ℕ) → length rest < 3 → words (jef_entries last (threads_of rest)) ≡ []
unfolding words joined jef_entries
entries_none last rest h = rw (threads-none rest h)

length-entries : (last : Option (ℕ × Color)) (ts : List Color) → length (jef_entries last ts) ≡ length ts
unfolding jef_entries
length-entries last [] = refl
length-entries last (t ∷ ts) = ap suc (length-entries (Some (jef_choice last t, t)) ts)

length-or-one : (es : List ℕ) → length (or_one es) ≡ max 1 (length es)
unfolding or_one
length-or-one [] = refl
length-or-one (e ∷ es) = omega arith

pub length-table : (s : List ℕ) → length (jef_table (threads_of s)) ≡ max 1 (length s / 3)
unfolding jef_table
length-table s = length-or-one (jef_entries None (threads_of s)) ∙ ap (max 1) (length-entries None (threads_of s) ∙ length-threads s)

-- a table of 255 threads at most is short
pub table-short : (s : List ℕ) {n : ℕ} → length s ≤ 765 → n ≡ length (jef_table (threads_of s)) → n ≤ 65535
table-short s h e = omega (arith, length-table s)

-- the table without a thread, and with one
pub table_none : (s : List ℕ) → length s < 3 → little 4 1 ≡ words (jef_table (threads_of s))
unfolding words joined jef_table jef_entries or_one
table_none s h = rw (threads-none s h) (sym (append-nil (little 4 1)))

pub table-some : (s : List ℕ) → 3 ≤ length s → words (jef_entries None (threads_of s)) ≡ words (jef_table (threads_of s))
unfolding jef_table jef_entries or_one
table-some s h = rw (threads_more s 0 h)
