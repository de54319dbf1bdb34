-- The checks of a file, in the order that the code has. Assumes nothing.
use Rattle.std.specs.Prelude.{Some, None, Ok, Err}
use Prim.Native.Nat.{ℕ, ◌+◌, ◌≤◌, ◌<◌}
use mathlib.Core.Path.{◌≡◌, sym, ◌∙◌}
use mathlib.Core.Bool.{true, false}
use mathlib.Core.List.{List, [], ◌∷◌}
use native.Mathlib.Omega.{arith}
use borrow.Author.Tests.{lt-ltb, le-ltb, ltb-true, ltb-false, leb-true, leb-false}
use lib.Dec.{leb, ltb}
use lib.IntN.{ℤ, pos, nat_abs}
use lib.Signed.{lt_z}
use lib.ListN.{length, get_or}
use Rattle.rules.specs.Refusals.{verdict}
use Rattle.rules.specs.Pec.{no_count}
use Rattle.rules.specs.Pes.{part_at}
use Rattle.rules.specs.Files.{events_of, colour_of, places_of, runs_of, blocks_of, cuts_of, file_refusals}
use Rattle.rules.specs.Vp3.{vp3_opening, row_of, fault_in, events_in, vp3_blocks}
use Rattle.rules.specs.Text.{begins, word_at}
use Rattle.rules.specs.declared.Counts.{Counts}
use Rattle.rules.specs.declared.Format.{Format}
use Rattle.rules.specs.declared.Format.TheVariants.{Pes, Pec, Dst, Exp, Jef, Vp3}
use Rattle.rules.specs.declared.Refusal.{Refusal}
use Rattle.rules.specs.declared.Refusal.TheVariants.{FileTooLong, BadOpening, FileTooShort, StartBelowZero}
use Rattle.laws.specs.Tests.{by-test, false-true}
use Rattle.read_vp3.proofs.Tallied.{counts-are}
use Rattle.read_vp3.specs.Walks.{Told}
use Rattle.read_refusals.proofs.Signature.{too_few}
use Rattle.read_refusals.specs.Openings.{byte_of, started, front_of, pec_front, pes_front, dst_front, jef_front, vp3_front}
use Rattle.read_refusals.specs.declared.Head.TheVariants as head

never : {b : ℕ} → Some b ≡ None → ⊥
never e = let z : ◌≡◌ {A = ℕ} 0 1 = cc in omega arith

-- a byte that is there, and one that is missing
module _ (start k : ℕ) (s : List ℕ) where
  pub byte-there : {b : ℕ} → byte_of start k s ≡ Some b → (start + k < length s) × (b ≡ get_or s (start + k) 0)
  byte-there e = by-test (ltb (start + k) (length s)) (λ t. let v = rw t at e in (ltb-true _ _ t, cc)) (λ t. absurd (never (sym (rw t at e))))

  pub byte-missing : byte_of start k s ≡ None → length s ≤ start + k
  byte-missing e = by-test (ltb (start + k) (length s)) (λ t. absurd (never (rw t at e))) (ltb-false _ _)

-- ---- the checks that a format has

module _ (start : ℕ) (s : List ℕ) where
  pub counted : {b : ℕ} → (start + 48 < length s) × (b ≡ get_or s (start + 48) 0) → Ok (head.Pec start b) ≡ pec_front start s
  unfolding pec_front
  counted h = rw (h.1, lt-ltb (start + 48) (length s) h.0)

  pub uncounted : length s ≤ start + 48 → Err FileTooShort ≡ pec_front start s
  unfolding pec_front
  uncounted h = rw (le-ltb (start + 48) (length s) h)

  -- the check of the count byte, as the rules say it
  count-byte : pec_front start s ≡ started (verdict ((FileTooShort, leb (length s) (start + 48)) ∷ [])) (head.Pec start (get_or s (start + 48) 0))
  unfolding pec_front verdict
  count-byte = by-test (leb (length s) (start + 48))
      (λ e. rw (e, le-ltb (start + 48) (length s) (leb-true _ _ e)))
      (λ e. rw (e, lt-ltb (start + 48) (length s) (leb-false _ _ e)))

module _ (s : List ℕ) where
  pub pes-unlike : begins (0x23 ∷ 0x50 ∷ 0x45 ∷ 0x53 ∷ []) s ≡ false → Err BadOpening ≡ pes_front s
  unfolding pes_front verdict
  pes-unlike b = rw b

  module _ (b : begins (0x23 ∷ 0x50 ∷ 0x45 ∷ 0x53 ∷ []) s ≡ true) where
    pub pes-short : length s < 12 → Err FileTooShort ≡ pes_front s
    unfolding pes_front verdict
    pes-short h = rw (b, lt-ltb (length s) 12 h)

    module _ {z : ℤ} (t : (12 ≤ length s) × (word_at 8 s ≡ z)) where
      pub pes-below : lt_z z (pos 0) ≡ true → Err StartBelowZero ≡ pes_front s
      unfolding pes_front verdict
      pes-below e = rw (b, le-ltb (length s) 12 t.0, t.1, e)

      pub pes_start_lem : lt_z z (pos 0) ≡ false → pec_front (nat_abs z) s ≡ pes_front s
      unfolding pes_front verdict no_count part_at
      pes_start_lem e = rw (b, le-ltb (length s) 12 t.0, t.1, e) (count-byte (nat_abs z) s)

  pub dst-short : length s < 512 → Err FileTooShort ≡ dst_front s
  unfolding dst_front verdict
  dst-short h = rw (lt-ltb (length s) 512 h)

  pub dst-whole : 512 ≤ length s → Ok head.Dst ≡ dst_front s
  unfolding dst_front verdict
  dst-whole h = rw (le-ltb (length s) 512 h)

  pub jef-short : length s < 4 → Err FileTooShort ≡ jef_front s
  unfolding jef_front verdict
  jef-short h = rw (lt-ltb (length s) 4 h)

  pub jef-whole : {z : ℤ} → (4 ≤ length s) × (word_at 0 s ≡ z) → Ok (head.Jef z) ≡ jef_front s
  unfolding jef_front verdict
  jef-whole t = rw (le-ltb (length s) 4 t.0, t.1)

  pub vp3-unlike : begins vp3_opening s ≡ false → Err BadOpening ≡ vp3_front s
  unfolding vp3_front verdict
  vp3-unlike b = rw b

  module _ (b : begins vp3_opening s ≡ true) where
    pub vp3-faulty : {r : Refusal} → fault_in (vp3_blocks s) ≡ Err r → Err r ≡ vp3_front s
    unfolding vp3_front verdict row_of
    vp3-faulty e = rw (b, e)

    pub vp3-sound : {k : Counts} → fault_in (vp3_blocks s) ≡ Ok tt → Told (events_in (vp3_blocks s)) k → Ok (head.Vp3 k) ≡ vp3_front s
    unfolding vp3_front verdict row_of places_of runs_of blocks_of cuts_of events_of
    vp3-sound e t = rw (b, e, counts-are (events_in (vp3_blocks s)) (colour_of Vp3 s) t)

    -- it is long enough to be gone through
    pub vp3-opened : 6 ≤ length s
    unfolding vp3_opening
    vp3-opened = by-test (ltb (length s) 6) (λ t. false-true (sym (too_few vp3_opening s (ltb-true _ _ t)) ∙ b)) (ltb-false _ _)

  -- ---- every format: first that the file is not too long

  pub too_long : (f : Format) → 2097152 < length s → Err FileTooLong ≡ front_of f s
  unfolding front_of file_refusals verdict
  too_long f h = rw (lt-ltb 2097152 (length s) h)

  module _ (h : length s ≤ 2097152) where
    pub of-pes : pes_front s ≡ front_of Pes s
    unfolding front_of pes_front file_refusals verdict
    of-pes = rw (le-ltb 2097152 (length s) h)

    pub of-pec : pec_front 8 s ≡ front_of Pec s
    unfolding front_of file_refusals verdict no_count
    of-pec = rw (le-ltb 2097152 (length s) h) (count-byte 8 s)

    pub of-dst : dst_front s ≡ front_of Dst s
    unfolding front_of dst_front file_refusals verdict
    of-dst = rw (le-ltb 2097152 (length s) h)

    pub of-exp : Ok head.Exp ≡ front_of Exp s
    unfolding front_of file_refusals verdict
    of-exp = rw (le-ltb 2097152 (length s) h)

    pub of-jef : jef_front s ≡ front_of Jef s
    unfolding front_of jef_front file_refusals verdict
    of-jef = rw (le-ltb 2097152 (length s) h)

    pub of-vp3 : vp3_front s ≡ front_of Vp3 s
    unfolding front_of vp3_front file_refusals verdict
    of-vp3 = rw (le-ltb 2097152 (length s) h)
