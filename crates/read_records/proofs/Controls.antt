-- EXP and JEF: the record of a control by its kind. Assumes nothing.
use Prim.Native.Nat.{ℕ, ◌+◌, ◌≤◌, ◌<◌}
use mathlib.Core.Path.{◌≡◌, sym, ◌∙◌}
use mathlib.Core.Bool.{Bool}
use mathlib.Core.List.{List}
use native.Mathlib.Omega.{arith}
use borrow.Author.Tests.{eq-eqb, eqb-true, eqb-false}
use lib.Dec.{eqb}
use lib.ListN.{length, get_or, drop}
use lib.IntN.{ℤ, pos, neg_ℤ}
use Rattle.rules.specs.Vocabulary.{pick, signed}
use Rattle.rules.specs.Exp.{two, control, pair_first}
use Rattle.rules.specs.declared.Record.{Record}
use Rattle.rules.specs.declared.Record.TheVariants.{StitchBy, JumpBy, ChangeBy, Finish}
use Rattle.laws.specs.Tests.{by-test, pick-both}
use Rattle.read_records.specs.Tables.{kind_of}
use Rattle.read_records.proofs.Pairs.{pair_end, pair-control}

-- the record of a kind, its step being that of control c
abbrev of_kind : ℕ → ℕ → ℤ → ℤ → Record
of_kind c k dx dy =
    pick (eqb k 0) (StitchBy dx dy 4)
    (pick (eqb k 1) (JumpBy (pick (eqb c 0x80) (pos 0) dx) (pick (eqb c 0x80) (pos 0) dy) 4)
    (pick (eqb k 2) (ChangeBy dx dy 4) Finish))

control-is : (jef : Bool) (c : ℕ) (dx dy : ℤ) → control jef c dx dy ≡ of_kind c (kind_of jef c) dx dy
unfolding control two
control-is jef c dx dy = by-test (eqb c 0x80)
    (λ e. rw e)
    (λ e. by-test (eqb c 0x01)
    (λ f. rw (e, f))
    (λ f. by-test (eqb c 0x02)
    (λ g. by-test jef (λ j. rw (e, f, g, j)) (λ j. rw (e, f, g, j)))
    (λ g. by-test (eqb c 0x04) (λ k. rw (e, f, g, k)) (λ k. rw (e, f, g, k)))))

module _ (jef : Bool) (c : ℕ) where
  pub kind-few : kind_of jef c ≤ 3
  kind-few =
      pick-both (λ (k : ℕ). k ≤ 3) (eqb c 0x80) (omega arith)
      (pick-both (λ (k : ℕ). k ≤ 3) (eqb c 0x01) (omega arith)
      (pick-both (λ (k : ℕ). k ≤ 3) (eqb c 0x02) (pick-both (λ (k : ℕ). k ≤ 3) jef (omega arith) (omega arith))
      (pick-both (λ (k : ℕ). k ≤ 3) (eqb c 0x04) (omega arith) (omega arith))))

  -- control 80 jumps
  kind-80 : c ≡ 0x80 → kind_of jef c ≡ 1
  kind-80 e = rw (eq-eqb c 0x80 e)

  pub kind-sewn : kind_of jef c ≡ 0 → c ≡ 0x80 → ⊥
  kind-sewn h e = omega (arith, sym h ∙ kind-80 e)

  pub kind-changed : kind_of jef c ≡ 2 → c ≡ 0x80 → ⊥
  kind-changed h e = omega (arith, sym h ∙ kind-80 e)

module _ (jef : Bool) (s : List ℕ) (i : ℕ) (h : i + 3 < length s) (e : get_or s i 0 ≡ 128) where
  by_kind : pair_first jef (drop i s) ≡ of_kind (get_or s (i + 1) 0) (kind_of jef (get_or s (i + 1) 0)) (signed 7 (get_or s (i + 2) 0)) (neg_ℤ (signed 7 (get_or s (i + 3) 0)))
  by_kind = by-test (eqb (get_or s (i + 1) 0) 16)
      (λ t. let c : get_or s (i + 1) 0 ≡ 16 = eqb-true _ _ t in pair_end jef s i h e c ∙ rw c)
      (λ t. pair-control jef s i h e (eqb-false _ _ t) ∙ control-is jef _ _ _)

  pub kind-stitch : kind_of jef (get_or s (i + 1) 0) ≡ 0 → pair_first jef (drop i s) ≡ StitchBy (signed 7 (get_or s (i + 2) 0)) (neg_ℤ (signed 7 (get_or s (i + 3) 0))) 4
  kind-stitch k = by_kind ∙ rw k

  pub kind-jump : kind_of jef (get_or s (i + 1) 0) ≡ 1
      → pair_first jef (drop i s)
      ≡ JumpBy (pick (eqb (get_or s (i + 1) 0) 0x80) (pos 0) (signed 7 (get_or s (i + 2) 0)))
      (pick (eqb (get_or s (i + 1) 0) 0x80) (pos 0) (neg_ℤ (signed 7 (get_or s (i + 3) 0)))) 4
  kind-jump k = by_kind ∙ rw k

  pub kind-change : kind_of jef (get_or s (i + 1) 0) ≡ 2 → pair_first jef (drop i s) ≡ ChangeBy (signed 7 (get_or s (i + 2) 0)) (neg_ℤ (signed 7 (get_or s (i + 3) 0))) 4
  kind-change k = by_kind ∙ rw k

  pub kind-end : kind_of jef (get_or s (i + 1) 0) ≡ 3 → pair_first jef (drop i s) ≡ Finish
  kind-end k = by_kind ∙ rw k
