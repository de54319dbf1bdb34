-- A PES file from its parts: sizes, lengths and rooms. Assumes nothing.
use Prim.Native.Nat.{ℕ, ◌+◌, ◌*◌, ◌≤◌}
use mathlib.Core.Path.{◌≡◌, refl, sym, ap, ◌∙◌}
use mathlib.Core.List.{List, [], ◌∷◌, ◌++◌, append-nil, append_assoc}
use native.Mathlib.Omega.{arith}
use lib.IntN.{ℤ}
use lib.ListN.{length, length-append}
use Rattle.rules.specs.Vocabulary.{little, joined}
use Rattle.rules.specs.Lists.{commands, min_x, max_y}
use Rattle.rules.specs.Pec.{pec_part, pec_file}
use Rattle.rules.specs.Pes.{pes_start, shorts, pes_blocks, pes_middle, pes_file}
use Rattle.rules.specs.Refusals.{steps_past, step_too_long, step_in, least_step, greatest_step}
use Rattle.rules.specs.declared.Cmd.{Cmd}
use Rattle.rules.specs.declared.Color.{Color}
use Rattle.rules.specs.declared.Format.TheVariants.{Pes, Pec}
use Rattle.laws.specs.Buffers.{Put}
use Rattle.laws.specs.Lengths.{joined-append, length-shorts, length-sections, length-log, blocks-length, middle-length, pec-length, pes-length}
use Rattle.laws.specs.Listing.{length-commands}
use Rattle.laws.specs.Little.{length-little}
use Rattle.pec_part.specs.Parts.{part_long}
use Rattle.pes_sections.specs.States.{measures}
use Rattle.pes_sections.specs.declared.Sizes.{Sizes}
use Rattle.pes.specs.Lists.{start_parts, start_text}

-- PES takes the steps that PEC takes
pub same-steps : (cs : List Cmd) → step_too_long Pes cs ≡ step_too_long Pec cs
unfolding step_too_long steps_past step_in least_step greatest_step
same-steps cs = refl

-- ---- sizes

module _ (xs ys : List ℤ) (kinds : List ℕ) (ts : List Color) (h : length kinds ≤ 65535) (z : Sizes) (m : measures ts (commands xs ys kinds) z) where
  abbrev cs : List Cmd
  cs = commands xs ys kinds

  pub bytes_small : z.bytes ≤ 1048560
  bytes_small = omega (arith, m.long (min_x cs) (max_y cs), length-sections (min_x cs) (max_y cs) ts (pes_start ts) cs, length-commands xs ys kinds)

  pub logged-small : z.logged ≤ 65535
  logged-small = omega (arith, m.log, length-log ts 65 (pes_start ts) cs, length-commands xs ys kinds)

-- the blocks, and the whole file
module _ (cs : List Cmd) (ts : List Color) (z : Sizes) (m : measures ts cs z) where
  pub blocks-long : 88 + z.bytes + 4 * z.logged ≡ length (pes_blocks cs ts)
  blocks-long = omega (arith, blocks-length cs ts, m.long (min_x cs) (max_y cs), m.log)

  pub start-long : 22 + (88 + z.bytes + 4 * z.logged) ≡ 12 + length (pes_middle cs ts)
  start-long = omega (arith, blocks-long, middle-length cs ts)

pub file-long : (name : List ℕ) (cs : List Cmd) (ts : List Color) → length (pes_file name cs ts) ≡ 22 + length (pes_blocks cs ts) + length (pec_part name cs ts)
file-long name cs ts = omega (arith, pes-length name cs ts, middle-length cs ts)

-- how long the files are, by what a writer measures
pub pec-long : (name : List ℕ) {cs : List Cmd} {ts : List Color} {p : ℕ} → part_long ts cs p → length (pec_file name cs ts) ≡ 8 + p
pec-long name {cs} {ts} l = omega (arith, l.long name, pec-length name cs ts)

pub pes-long : (name : List ℕ) {cs : List Cmd} {ts : List Color} {z : Sizes} {b p : ℕ} → measures ts cs z → b ≡ 88 + z.bytes + 4 * z.logged → part_long ts cs p
    → length (pes_file name cs ts) ≡ 22 + b + p
pes-long name {cs} {ts} {z} m e l = omega (arith, blocks-long cs ts z m, e, l.long name, file-long name cs ts)

-- ---- the parts in a row

length-start : (n : ℕ) → length (start_text n) ≡ 22
unfolding joined
length-start n = simp (length-append, length-little, length-shorts)

module _ (name : List ℕ) (cs : List Cmd) (ts : List Color) where
  pub file-as : {n : ℕ} → n ≡ 12 + length (pes_middle cs ts) → start_text n ++ (pes_blocks cs ts ++ pec_part name cs ts) ≡ pes_file name cs ts
  unfolding pes_file pes_middle joined
  file-as e =
      let part = pec_part name cs ts in
      let n = 12 + length (pes_middle cs ts) in
      let five : List ℕ = shorts (1 ∷ 1 ∷ 1 ∷ 0xFFFF ∷ 0 ∷ []) in
      rw e
      (ap (λ (t : List ℕ). start_text n ++ (pes_blocks cs ts ++ t)) (sym (append-nil part))
      ∙ sym (joined-append (start_parts n) (pes_blocks cs ts ∷ part ∷ []))
      ∙ ap (λ (t : List ℕ). 0x23 ∷ 0x50 ∷ 0x45 ∷ 0x53 ∷ 0x30 ∷ 0x30 ∷ 0x30 ∷ 0x31 ∷ little 4 n ++ t) (sym (append_assoc five (pes_blocks cs ts) (part ++ []))))

  module _ (d : List ℕ) (room : length (pes_file name cs ts) ≤ length d) where
    pub room-start : 22 ≤ length d
    room-start = omega (arith, file-long name cs ts)

    module _ (n : ℕ) {d₁ : List ℕ} {k : ℕ} (p : Put d d₁ 0 k (start_text n)) where
      pub room-blocks : k + length (pes_blocks cs ts) ≤ length d₁
      room-blocks = omega (arith, file-long name cs ts, length-start n, p.same)

      pub room-part : {d₂ : List ℕ} {l : ℕ} → Put d₁ d₂ k l (pes_blocks cs ts) → l + length (pec_part name cs ts) ≤ length d₂
      room-part q = omega (arith, file-long name cs ts, length-start n, p.same, q.same)
