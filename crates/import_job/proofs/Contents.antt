-- The walker behind a content, by its tag. Assumes nothing.
use Rattle.std.specs.Prelude.{Ok, Err, Result}
use Prim.Native.Nat.{ℕ, ◌+◌}
use mathlib.Core.Path.{◌≡◌, sym, ap, ◌∙◌}
use mathlib.Core.Bool.{true, false}
use mathlib.Core.List.{List, []}
use native.Mathlib.Nat.{add-zero}
use borrow.Author.Tests.{eq-eqb, ne_eqb}
use lib.Dec.{eqb}
use lib.ListN.{length}
use Rattle.rules.specs.Vocabulary.{pick}
use Rattle.rules.specs.Jobs.{rows_of, rows_in}
use Rattle.rules.specs.declared.Refusal.TheVariants.{BadTag}
use Rattle.laws.specs.Tests.{pick_true, pick-false}
use Rattle.read_job_tally.specs.Tallies.{tallied}
use Rattle.read_job_tally.specs.declared.Tally.{Tally}
use Rattle.import_job.specs.Walks.{content_walk}
use Rattle.import_job.specs.declared.Walker.{Walker}
use Rattle.rules.specs.declared.Refusal.{Refusal}

module _ (w : Walker) (tag : ℕ) (content : List ℕ) (end : ℕ) where
  abbrev walker : Tally → ℕ → Walker
  walker t n = record { before = tag; at = end; t = t; thread_bytes = n }

  abbrev walk_by : Tally → ℕ → Result Walker Refusal
  walk_by t n = pick t.unknown (Err BadTag) (Ok (walker t n))

  -- t is the tally, and n the bytes of threads
  same-walk : {t : Tally} {n : ℕ} → t ≡ tallied w.t (rows_in tag content) → n ≡ w.thread_bytes + length (pick (eqb tag 2) content [])
      → content_walk w tag content end ≡ walk_by t n
  same-walk {t} {n} e f = sym (ap (λ (u : Tally). walk_by u n) e ∙ ap (λ (m : ℕ). walk_by (tallied w.t (rows_in tag content)) m) f)

  module _ (is : tag ≡ 3) {t : Tally} (e : t ≡ tallied w.t (rows_of content)) where
    rows-walk : content_walk w tag content end ≡ walk_by t w.thread_bytes
    unfolding rows_in
    rows-walk = same-walk {t = t} {n = w.thread_bytes} (rw (eq-eqb tag 3 is) e) (rw is (sym (add-zero w.thread_bytes)))

    pub rows-unknown : t.unknown ≡ true → Err BadTag ≡ content_walk w tag content end
    rows-unknown u = sym (rows-walk ∙ pick_true _ _ u)

    pub rows-known : t.unknown ≡ false → Ok (walker t w.thread_bytes) ≡ content_walk w tag content end
    rows-known u = sym (rows-walk ∙ pick-false _ _ u)

  module _ (other : tag ≡ 3 → ⊥) (u : w.t.unknown ≡ false) where
    no_rows : w.t ≡ tallied w.t (rows_in tag content)
    unfolding rows_in tallied
    no_rows = rw (ne_eqb tag 3 other)

    pub thread-walk : tag ≡ 2 → Ok (walker w.t (w.thread_bytes + length content)) ≡ content_walk w tag content end
    thread-walk is = sym (same-walk {t = w.t} {n = w.thread_bytes + length content} no_rows (rw (eq-eqb tag 2 is)) ∙ pick-false _ _ u)

    pub name-walk : (tag ≡ 2 → ⊥) → Ok (walker w.t w.thread_bytes) ≡ content_walk w tag content end
    name-walk n = sym (same-walk {t = w.t} {n = w.thread_bytes} no_rows (rw (ne_eqb tag 2 n) (sym (add-zero w.thread_bytes))) ∙ pick-false _ _ u)
