-- What a file's opening says, as an answer of `fits`. Assumes nothing.
use Rattle.std.specs.Prelude.{Some, Ok, Err}
use Prim.Native.Nat.{ℕ}
use mathlib.Core.Path.{◌≡◌, refl, sym}
use mathlib.Core.Bool.{Bool}
use mathlib.Core.List.{List}
use lib.IntN.{pos}
use Rattle.rules.specs.Answers.{places}
use Rattle.rules.specs.Files.{events_of, places_of, places_told, file_refusals, file_verdict}
use Rattle.rules.specs.Hoop.{all_in_hoop, fits_answer, fits_told}
use Rattle.rules.specs.Pec.{pec_events}
use Rattle.rules.specs.Refusals.{verdict}
use Rattle.rules.specs.Vocabulary.{pick}
use Rattle.rules.specs.declared.Format.{Format}
use Rattle.rules.specs.declared.Format.TheVariants.{Pes, Pec, Dst, Exp, Jef, Vp3}
use Rattle.rules.specs.declared.Hoop.{Hoop}
use Rattle.rules.specs.declared.Refusal.{Refusal}
use Rattle.read_records.specs.Firsts.{first_record_of}
use Rattle.read_refusals.specs.Openings.{head_of, front_of}
use Rattle.read_refusals.specs.declared.Head.{Head}
use Rattle.read.proofs.Openings.{begun, refused}
use Rattle.read.specs.Answered.{events_by}

-- the places by a file's own head are its places
by-head : (f : Format) (s : List ℕ) → places (pos 0) (pos 0) 0 (events_by (head_of f s) s) ≡ places_of f s
unfolding places_of events_of pec_events first_record_of
by-head Pes s = refl
by-head Pec s = refl
by-head Dst s = refl
by-head Exp s = refl
by-head Jef s = refl
by-head Vp3 s = refl

module _ (f : Format) (s : List ℕ) (h : Hoop) where
  -- the file is refused
  pub not-told : {r : Refusal} → front_of f s ≡ Err r → Err r ≡ fits_told (Some f) s h
  unfolding front_of fits_told file_verdict fits_answer
  not-told e = rw (refused (verdict (file_refusals f s)) (head_of f s) e)

  -- it is not, and the places decide
  pub is-told : {k : Head} {b : Bool} → front_of f s ≡ Ok k → b ≡ all_in_hoop h (places (pos 0) (pos 0) 0 (events_by k s))
      → Ok b ≡ fits_told (Some f) s h
  unfolding front_of fits_told file_verdict fits_answer places_told
  is-told {k} {b} e t =
      let o = begun (verdict (file_refusals f s)) (head_of f s) e in
      let p : b ≡ all_in_hoop h (places_of f s) = rw (sym o.1, by-head f s) at t in
      rw (o.0, p)
