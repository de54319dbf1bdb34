-- What a file's opening says of the file, and the verdict of the whole read. Assumes nothing.
use Rattle.std.specs.Prelude.{Some, Ok, Err, Result, ⊤}
use Prim.Native.Nat.{ℕ, ◌+◌, ◌<◌}
use mathlib.Core.Path.{◌≡◌, refl, sym, subst}
use mathlib.Core.Bool.{false, not}
use mathlib.Core.List.{List, [], ◌∷◌}
use native.Mathlib.Omega.{arith}
use borrow.Author.Tests.{ltb-false, leb-false}
use lib.Dec.{ltb}
use lib.IntN.{ℤ, pos}
use lib.Signed.{lt_z}
use lib.ListN.{length}
use Rattle.rules.specs.Files.{events_of, places_of, runs_of, blocks_of, colour_of, stored, file_refusals, no_room, read_verdict, read_answer, filled}
use Rattle.rules.specs.Files.{places_told, runs_told, blocks_told, cuts_of, cuts_told}
use Rattle.rules.specs.Promises.{ReadOf}
use Rattle.read_records.specs.Firsts.{first_record_of}
use Rattle.rules.specs.Text.{word_at, begins}
use Rattle.rules.specs.Pec.{pec_events, no_count}
use Rattle.rules.specs.Pes.{part_at}
use Rattle.rules.specs.Formats.{layout_of}
use Rattle.rules.specs.Refusals.{verdict}
use Rattle.rules.specs.declared.Format.{Format}
use Rattle.rules.specs.declared.Format.TheVariants.{Pes, Pec, Dst, Exp, Jef, Vp3}
use Rattle.rules.specs.declared.Refusal.{Refusal}
use Rattle.laws.specs.Verdicts.{first-false, verdict-on, verdict-stop}
use Rattle.read_refusals.specs.Openings.{head_of, started, front_of}
use Rattle.read_refusals.specs.declared.Head.{Head}
use Rattle.read.specs.Answered.{Says, Opened, room_verdict, HeadGiven, FileGiven}
use Rattle.rules.specs.declared.Counts.{Counts}

never : {h : Head} {r : Refusal} → Ok h ≡ Err r → ⊥
never e = let z : ◌≡◌ {A = ℕ} 0 1 = cc in omega arith

pub begun : (v : Result ⊤ Refusal) (h : Head) {g : Head} → started v h ≡ Ok g → (v ≡ Ok tt) × (h ≡ g)
begun (Ok u) h {g} e = (refl, cc)
begun (Err r) h e = absurd (never (sym e))

pub refused : (v : Result ⊤ Refusal) (h : Head) {r : Refusal} → started v h ≡ Err r → v ≡ Err r
refused (Ok u) h e = absurd (never e)
refused (Err q) h {r} e = cc

-- ---- what each format's head says of a file that is not refused

module _ (s : List ℕ) where
  passed : (f : Format) → verdict (file_refusals f s) ≡ Ok tt → (ltb 2097152 (length s) ≡ false) × (verdict ((layout_of f).refusals s) ≡ Ok tt)
  unfolding file_refusals verdict
  passed f o = first-false (ltb 2097152 (length s)) _ _ o

  pes-counted : verdict (file_refusals Pes s) ≡ Ok tt → part_at s + 48 < length s
  unfolding verdict no_count
  pes-counted o =
      let a = first-false (not (begins (0x23 ∷ 0x50 ∷ 0x45 ∷ 0x53 ∷ []) s)) _ _ (passed Pes o).1 in
      let b = first-false (ltb (length s) 12) _ _ a.1 in
      let c = first-false (lt_z (word_at 8 s) (pos 0)) _ _ b.1 in
      let d = first-false (no_count (part_at s) s) _ _ c.1 in
      leb-false (length s) (part_at s + 48) d.0

  pec-counted : verdict (file_refusals Pec s) ≡ Ok tt → 56 < length s
  unfolding verdict no_count
  pec-counted o = leb-false (length s) 56 (first-false (no_count 8 s) _ _ (passed Pec o).1).0

  says : (f : Format) → verdict (file_refusals f s) ≡ Ok tt → Says (head_of f s) s
  says Pes o = (omega (arith, pes-counted o), refl)
  says Pec o = (omega (arith, pec-counted o), refl)
  says Dst o = tt
  says Exp o = tt
  says Jef o = refl
  says Vp3 o = ((passed Vp3 o).1, refl)

  -- the answers by its head are the file's
  by-head : (f : Format) {P P' : List ℤ} {R R' B B' : List ℕ} {r : Result Counts Refusal} → HeadGiven (head_of f s) s P P' R R' B B' r → FileGiven f s P P' R R' B B' r
  unfolding places_of runs_of blocks_of cuts_of events_of pec_events first_record_of colour_of stored
  by-head Pes g = g
  by-head Pec g = g
  by-head Dst g = g
  by-head Exp g = g
  by-head Jef g = g
  by-head Vp3 g = g

module _ (f : Format) (s : List ℕ) where
  pub opened : {h : Head} → front_of f s ≡ Ok h → Opened h s
  unfolding front_of
  opened e =
      let b = begun (verdict (file_refusals f s)) (head_of f s) e in
      record { short = ltb-false 2097152 (length s) (passed s f b.0).0; told = subst (λ (h : Head). Says h s) b.1 (says s f b.0) }

  -- ---- the whole read

  module _ {P : List ℤ} {R B : List ℕ} where
    -- the file is refused
    pub not-read : {r : Refusal} → front_of f s ≡ Err r → ReadOf (Some f) s P R B P R B (Err r)
    unfolding front_of read_verdict read_answer filled
    not-read {r} e =
        let w = refused (verdict (file_refusals f s)) (head_of f s) e in
        let v : read_verdict (Some f) s (length P) (length R) (length B) ≡ Err r = verdict-stop (file_refusals f s) _ r w in
        record { answered = rw v; places_are = rw v; runs_are = rw v; blocks_are = rw v }

    -- the file is not refused, and the room decides
    pub has-read : {h : Head} {P' : List ℤ} {R' B' : List ℕ} {r : Result Counts Refusal} → front_of f s ≡ Ok h → HeadGiven h s P P' R R' B B' r → ReadOf (Some f) s P R B P' R' B' r
    unfolding front_of read_verdict no_room room_verdict places_told runs_told blocks_told cuts_told
    has-read {P' = P'} {R' = R'} {B' = B'} {r = r} e w =
        let b = begun (verdict (file_refusals f s)) (head_of f s) e in
        let g = by-head s f (subst (λ (k : Head). HeadGiven k s P P' R R' B B' r) (sym b.1) w) in
        let room = room_verdict (places_of f s) (runs_of f s) (blocks_of f s) (length P) (length R) (length B) in
        let v : read_verdict (Some f) s (length P) (length R) (length B) ≡ room = verdict-on (file_refusals f s) _ b.0 in
        record { answered = rw v g.told; places_are = rw v g.places; runs_are = rw v g.runs; blocks_are = rw v g.blocks }
