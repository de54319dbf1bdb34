-- The cuts that `read` answers: in DST the rows of jumps, in every other format runs less blocks listed, as before. Assumes nothing.
use Rattle.std.specs.Prelude.{ℕ, ◌-◌, ◌≡◌, refl, List, ℤ, Some, Ok, Err, Result, ⊤}
use Rattle.std.proofs.Math.Path.{ap}
use Rattle.std.proofs.Common.{◌∙◌, arith}
use Rattle.rules.specs.Answers.{cuts}
use Rattle.rules.specs.Dst.{dst_cuts}
use Rattle.rules.specs.Files.{events_of, runs_of, blocks_of, places_of, cuts_of, counts_of, places_told, runs_told, blocks_told, cuts_told}
use Rattle.rules.specs.Files.{read_answer, read_counts}
use Rattle.rules.specs.Promises.{ReadOf}
use Rattle.rules.specs.declared.Counts.{Counts}
use Rattle.rules.specs.declared.Format.{Format}
use Rattle.rules.specs.declared.Format.TheVariants.{Pes, Pec, Dst, Exp, Jef, Vp3}
use Rattle.rules.specs.declared.Refusal.{Refusal}

never : {k : Counts} {r : Refusal} → Ok k ≡ Err r → ⊥
never e = let z : ◌≡◌ {A = ℕ} 0 1 = cc in omega arith

-- an answer that is no refusal has the counts
counted : (v : Result ⊤ Refusal) {k c : Counts} → Ok k ≡ read_answer v c → k ≡ c
unfolding read_answer read_counts
counted (Ok u) e = ap read_counts e
counted (Err r) e = absurd (never e)

-- less blocks listed, by the numbers of the answer
less : (f : Format) (file : List ℕ) → (f ≡ Dst → ⊥) → let k = counts_of (places_of f file) (runs_of f file) (blocks_of f file) (cuts_of f file) in
    k.cuts ≡ k.runs - k.blocks
unfolding counts_of cuts_of cuts
less Pes file n = refl
less Pec file n = refl
less Dst file n = absurd (n refl)
less Exp file n = refl
less Jef file n = refl
less Vp3 file n = refl

-- a read that answers k
module _ {f : Format} {file : List ℕ} {ps : List ℤ} {rs bs : List ℕ} {ps' : List ℤ} {rs' bs' : List ℕ} {k : Counts}
    (p : ReadOf (Some f) file ps rs bs ps' rs' bs' (Ok k)) where
  answers : k ≡ counts_of (places_of f file) (runs_of f file) (blocks_of f file) (cuts_of f file)
  unfolding places_told runs_told blocks_told cuts_told
  answers = counted _ p.answered

  pub dst_cuts_lem : f ≡ Dst → k.cuts ≡ dst_cuts (events_of Dst file)
  unfolding counts_of cuts_of
  dst_cuts_lem e = ap (λ (c : Counts). c.cuts) answers ∙ rw e

  pub other-cuts : (f ≡ Dst → ⊥) → k.cuts ≡ k.runs - k.blocks
  other-cuts n = rw answers (less f file n)
