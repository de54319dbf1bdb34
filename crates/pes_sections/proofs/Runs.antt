-- The run of one kind that begins at a command: its length by one command more, its commands, and the place of the last one. Assumes
-- nothing.
use Prim.Native.Nat.{ℕ, zero, suc, ◌+◌, ◌-◌, ◌≤◌, ◌<◌}
use mathlib.Core.Path.{◌≡◌, refl, sym, ap, ◌∙◌}
use mathlib.Core.List.{List, [], ◌∷◌}
use native.Mathlib.Omega.{arith}
use borrow.Author.Tests.{eqb-true, eq-eqb, ne_eqb}
use lib.Dec.{eqb}
use lib.IntN.{ℤ, pos}
use lib.ListN.{length, drop, get_or, length-drop}
use lib.Seq.{get_or-drop}
use Rattle.rules.specs.Lists.{commands}
use Rattle.rules.specs.Pes.{run_length, run_x, run_y}
use Rattle.rules.specs.declared.Cmd.{Cmd}
use Rattle.laws.specs.Tests.{by-test}
use Rattle.laws.specs.Listing.{cmd_at, no_cmd, commands-at, commands-more, list-end}
use Rattle.pes_sections.specs.Alike.{Alike}

module _ (k : ℕ) where
  -- a run is within the list
  run-within : (cs : List Cmd) → run_length k cs ≤ length cs
  unfolding run_length
  run-within [] = omega arith
  run-within (c ∷ cs) = by-test (eqb c.kind k) (λ e. rw e (omega (arith, run-within cs))) (λ e. rw e (omega arith))

  -- each of its commands is of the kind
  run-kind : (cs : List Cmd) (n : ℕ) → n < run_length k cs → (get_or cs n no_cmd).kind ≡ k
  unfolding run_length
  run-kind [] n l = absurd (omega arith)
  run-kind (c ∷ cs) zero l = by-test (eqb c.kind k) (λ e. eqb-true c.kind k e) (λ e. absurd (omega (arith, rw e at l)))
  run-kind (c ∷ cs) (suc n) l = by-test (eqb c.kind k)
      (λ e. let h = rw e at l in run-kind cs n (omega (arith, h)))
      (λ e. absurd (omega (arith, rw e at l)))

  -- where the run behind c leaves the needle
  last-place : (c : Cmd) (cs : List Cmd)
      → (run_x k c.x cs ≡ (get_or (c ∷ cs) (run_length k cs) no_cmd).x) × (run_y k c.y cs ≡ (get_or (c ∷ cs) (run_length k cs) no_cmd).y)
  unfolding run_length run_x run_y
  last-place c [] = (refl, refl)
  last-place c (d ∷ cs) = by-test (eqb d.kind k) (λ e. rw e (last-place d cs)) (λ e. rw e (refl, refl))

module _ (xs ys : List ℤ) (ks : List ℕ) (i : ℕ) where
  abbrev cs : List Cmd
  cs = commands xs ys ks

  -- at i: one more of the kind, another kind, and the end
  module _ (k : ℕ) where
    pub run_more : i < length cs → get_or ks i 0 ≡ k → run_length k (drop i cs) ≡ suc (run_length k (drop (i + 1) cs))
    unfolding run_length
    run_more l e = rw (commands-more xs ys ks i l, eq-eqb (get_or ks i 0) k e)

    pub run-stops : i < length cs → (get_or ks i 0 ≡ k → ⊥) → run_length k (drop i cs) ≡ 0
    unfolding run_length
    run-stops l e = rw (commands-more xs ys ks i l, ne_eqb (get_or ks i 0) k e)

    pub run_none : length cs ≤ i → run_length k (drop i cs) ≡ 0
    unfolding run_length
    run_none l = rw (list-end cs i l)

  -- the run that begins with the command at i, and its last command
  module _ (l : i < length cs) where
    abbrev kind : ℕ
    kind = get_or ks i 0

    abbrev pub run_from : ℕ
    run_from = run_length kind (drop i cs)

    pub run-some : 0 < run_from
    run-some = omega (arith, run_more kind l refl)

    pub run_inside : i + run_from - 1 < length cs
    run_inside = omega (arith, run-some, run-within kind (drop i cs), length-drop i cs)

    -- from i to its end
    pub run-span : {j : ℕ} → j ≡ i + run_from → (i < j) × (j ≤ length cs)
    run-span e = (omega (arith, run-some), omega (arith, run-some, run_inside))

    pub run-alike : Alike ks kind i (i + run_from)
    run-alike n a b =
        let m = n - i in
        let there : i + m ≡ n = omega arith in
        sym (ap (λ (c : Cmd). c.kind) (commands-at xs ys ks n (omega (arith, run_inside))))
        ∙ (rw there at (sym (ap (λ (c : Cmd). c.kind) (get_or-drop i cs m no_cmd))))
        ∙ run-kind kind (drop i cs) m (omega arith)

    -- its last command is that many behind the one at i
    behind : get_or (drop i cs) (run_length kind (drop (i + 1) cs)) no_cmd ≡ cmd_at xs ys ks (i + run_from - 1)
    behind = get_or-drop i cs _ no_cmd ∙ ap (λ (n : ℕ). get_or cs n no_cmd) (omega (arith, run_more kind l refl)) ∙ commands-at xs ys ks _ run_inside

    pub run-place : (run_x kind (get_or xs i (pos 0)) (drop i cs) ≡ get_or xs (i + run_from - 1) (pos 0))
        × (run_y kind (get_or ys i (pos 0)) (drop i cs) ≡ get_or ys (i + run_from - 1) (pos 0))
    unfolding run_x run_y
    run-place =
        let more = commands-more xs ys ks i l in
        let last = rw (← more, behind) at (last-place kind (cmd_at xs ys ks i) (drop (i + 1) cs)) in
        (rw (more, eq-eqb kind kind refl) refl ∙ last.0, rw (more, eq-eqb kind kind refl) refl ∙ last.1)
