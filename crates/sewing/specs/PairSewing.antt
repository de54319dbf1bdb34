-- EXP and JEF: the file of a list, read, sews what the list sews, and no check of a file refuses it. Assumes nothing.
use Rattle.std.specs.Prelude.{◌≡◌, refl, Bool, true, false, ◌&&◌, List, [], ◌∷◌, ◌++◌, ℕ, suc, ◌+◌, ◌*◌, ◌≤◌, ◌<◌, ◌^◌, ℤ, pos, neg_ℤ, ◌+ℤ◌, ◌-ℤ◌, eqb, length, take, Some, None, Ok, Option}
use Rattle.std.proofs.Common.{sym, ◌∙◌, ap₂, append_assoc, append-nil, mod-eq_of_lt, arith, le-ltb, length-append, drop_at}
use Rattle.std.proofs.Math.Path.{ap}
use Rattle.std.proofs.Math.IntN.{neg_ℤ-neg_ℤ}
use Rattle.std.proofs.lemmas.List.{length-replicate}
use Rattle.std.specs.Int.Signed.{le_z}
use Rattle.rules.specs.Vocabulary.{between, signed, bits_of, little, from_little, joined}
use Rattle.rules.specs.Lists.{op_of, written, threads_of}
use Rattle.rules.specs.Sewing.{entry, list_sewing}
use Rattle.rules.specs.Exp.{two, control, after80, pair_first, pair_of, exp_cmd, exp_file}
use Rattle.rules.specs.Jef.{jef_records, jef_cmd, word, half_up, edges, or_one, jef_table, words, jef_header, jef_file}
use Rattle.rules.specs.Choices.{jef_choice, jef_entries}
use Rattle.rules.specs.Refusals.{verdict, least_step, greatest_step, step_in}
use Rattle.rules.specs.Files.{file_of, events_of, file_refusals, file_verdict}
use Rattle.rules.specs.Text.{word_at}
use Rattle.rules.specs.declared.Cmd.{Cmd}
use Rattle.rules.specs.declared.Color.{Color}
use Rattle.rules.specs.declared.Format.TheVariants.{Exp, Jef}
use Rattle.rules.specs.declared.Op.{Op}
use Rattle.rules.specs.declared.Op.TheVariants.{Stitch, Jump, Trim, ColorChange, End}
use Rattle.rules.specs.declared.Record.{Record}
use Rattle.rules.specs.declared.Record.TheVariants.{StitchBy, JumpBy, Finish}
use Rattle.laws.specs.Tests.{and_left, and_right, pick-ne, pick-le, pick-false, pick-both}
use Rattle.laws.specs.Ints.{dn, ints, up_neg, dn-neg, between-true}
use Rattle.laws.specs.Twos.{signed-bits, signed_low}
use Rattle.laws.specs.Little.{length-little, little-at}
use Rattle.laws.specs.Reading.{Within, Inside, within-pick, read-stitch, read-jump, read-change, read-finish}
use Rattle.sewing.specs.EventSewing.{event_sewing, sew-stitch, sew-jump, sew-nil, sew-jump-spot, sew-change-spot}
use Rattle.sewing.specs.Accepting.{Good}
use Rattle.sewing.specs.Round.{sewn, Owed, round}

-- ---- records lie in the bytes

two_in : (jef : Bool) (len : ℕ) (dx dy : ℤ) → 4 ≤ len → Within len (two jef dx dy)
unfolding two
two_in true len dx dy h = omega arith
two_in false len dx dy h = omega arith

control-in : (jef : Bool) (len c : ℕ) (dx dy : ℤ) → 4 ≤ len → Within len (control jef c dx dy)
unfolding control
control-in jef len c dx dy h =
    within-pick len (eqb c 0x80) _ _ (omega arith)
    (within-pick len (eqb c 0x01) _ _ (omega arith)
    (within-pick len (eqb c 0x02) _ _ (two_in jef len dx dy h)
    (within-pick len (eqb c 0x04) _ _ (omega arith) tt)))

after80-in : (jef : Bool) (s : List ℕ) → Within (suc (length s)) (after80 jef s)
unfolding after80
after80-in jef [] = tt
after80-in jef (c ∷ []) = tt
after80-in jef (c ∷ a ∷ []) = tt
after80-in jef (c ∷ a ∷ b ∷ rest) = within-pick _ (eqb c 0x10) Finish _ tt (control-in jef _ c _ _ (omega arith))

pub pair_inside : (jef : Bool) → Inside (pair_first jef)
unfolding pair_first
pair_inside jef [] = tt
pair_inside jef (a ∷ []) = tt
pair_inside jef (a ∷ b ∷ rest) = within-pick _ (eqb a 0x80) _ _ (after80-in jef (b ∷ rest)) (omega arith)

-- ---- a step, written and read back

-- -127 to 127, the limits of both formats
abbrev near : ℤ → Bool
near z = between (neg_ℤ (pos 127)) (pos 127) z

back : (z : ℤ) → near z ≡ true → signed 7 (bits_of 7 z) ≡ z
back z e = let h = between-true (neg_ℤ (pos 127)) (pos 127) z e in signed-bits 7 z (omega ints)

back-neg : (z : ℤ) → near z ≡ true → neg_ℤ (signed 7 (bits_of 7 (neg_ℤ z))) ≡ z
back-neg z e =
    let h = between-true (neg_ℤ (pos 127)) (pos 127) z e in
    ap neg_ℤ (signed-bits 7 (neg_ℤ z) (omega (ints, up_neg z, dn-neg z))) ∙ neg_ℤ-neg_ℤ z

-- 0x80 would be -128
not-80 : (z : ℤ) → near z ≡ true → bits_of 7 z ≡ 0x80 → ⊥
unfolding signed
not-80 z e p =
    let h = between-true (neg_ℤ (pos 127)) (pos 127) z e in
    let q : signed 7 0x80 ≡ z = sym (ap (signed 7) p) ∙ back z e in
    omega (ints, ap dn q)

-- what a record makes of a step that was written
step_back : (f : ℤ → ℤ → Record) (dx dy : ℤ) → near dx && near dy ≡ true → f (signed 7 (bits_of 7 dx)) (neg_ℤ (signed 7 (bits_of 7 (neg_ℤ dy)))) ≡ f dx dy
step_back f dx dy e = ap₂ f (back dx (and_left (near dx) (near dy) e)) (back-neg dy (and_right (near dx) (near dy) e))

-- ---- what the bytes of a command sew

module _ (jef : Bool) where
  sews-stitch : (dx dy : ℤ) (rest : List ℕ) → near dx && near dy ≡ true → (k : ℕ) (x y : ℤ)
      → sewn (pair_first jef) (pair_of dx dy ++ rest) k x y ≡ entry k x y (x +ℤ dx) (y +ℤ dy) (sewn (pair_first jef) rest k (x +ℤ dx) (y +ℤ dy))
  unfolding pair_of pair_first
  sews-stitch dx dy rest e k x y =
      ap (event_sewing k x y) (read-stitch (pair_first jef) (pair_inside jef) (pair_of dx dy ++ rest)
      (pick-ne (bits_of 7 dx) 0x80 _ _ (not-80 dx (and_left (near dx) (near dy) e)) ∙ step_back (λ a b. StitchBy a b 2) dx dy e))
      ∙ sew-stitch k x y dx dy _

  -- by a control c that jumps and is not the end
  sews-jump : (c : ℕ) → eqb c 0x10 ≡ false → ((dx dy : ℤ) → control jef c dx dy ≡ JumpBy dx dy 4)
      → (dx dy : ℤ) (rest : List ℕ) → near dx && near dy ≡ true → (k : ℕ) (x y : ℤ)
      → sewn (pair_first jef) (0x80 ∷ c ∷ (pair_of dx dy ++ rest)) k x y ≡ sewn (pair_first jef) rest k (x +ℤ dx) (y +ℤ dy)
  unfolding pair_of pair_first after80
  sews-jump c n jumps dx dy rest e k x y =
      ap (event_sewing k x y) (read-jump (pair_first jef) (pair_inside jef) (0x80 ∷ c ∷ (pair_of dx dy ++ rest))
      (pick-false Finish _ n ∙ step_back (control jef c) dx dy e ∙ jumps dx dy))
      ∙ sew-jump k x y dx dy _

  -- control 80 moves nothing, whatever its step
  sews-trim : (rest : List ℕ) (k : ℕ) (x y : ℤ) → sewn (pair_first jef) (0x80 ∷ 0x80 ∷ 0x07 ∷ 0x00 ∷ rest) k x y ≡ sewn (pair_first jef) rest k x y
  unfolding pair_first after80 control
  sews-trim rest k x y = ap (event_sewing k x y) (read-jump (pair_first jef) (pair_inside jef) (0x80 ∷ 0x80 ∷ 0x07 ∷ 0x00 ∷ rest) refl) ∙ sew-jump-spot k x y _

  sews-change : (rest : List ℕ) (k : ℕ) (x y : ℤ) → sewn (pair_first jef) (0x80 ∷ 0x01 ∷ 0x00 ∷ 0x00 ∷ rest) k x y ≡ sewn (pair_first jef) rest (suc k) x y
  unfolding pair_first after80 control signed
  sews-change rest k x y = ap (event_sewing k x y) (read-change (pair_first jef) (pair_inside jef) (0x80 ∷ 0x01 ∷ 0x00 ∷ 0x00 ∷ rest) refl) ∙ sew-change-spot k x y _

  sews-end : (s : List ℕ) → pair_first jef s ≡ Finish → (k : ℕ) (x y : ℤ) → sewn (pair_first jef) s k x y ≡ []
  sews-end s e k x y = ap (event_sewing k x y) (read-finish (pair_first jef) (pair_inside jef) s e) ∙ sew-nil k x y

pub exp-owed : Owed {S = Unit {0}} (pair_first false) (step_in Exp) (λ s op dx dy. exp_cmd op dx dy) []
unfolding step_in least_step greatest_step exp_cmd pair_first control
exp-owed = record {
  stitches = λ s. sews-stitch false;
  jumps = λ s. sews-jump false 0x04 refl (λ dx dy. refl);
  trims = λ s. sews-trim false;
  changes = λ s. sews-change false;
  ends = λ s. sews-end false [] refl;
}

pub jef-owed : Owed {S = Unit {0}} (pair_first true) (step_in Jef) (λ s op dx dy. jef_cmd op dx dy) []
unfolding step_in least_step greatest_step jef_cmd pair_first after80 control two
jef-owed = record {
  stitches = λ s. sews-stitch true;
  jumps = λ s. sews-jump true 0x02 refl (λ dx dy. refl);
  trims = λ s rest k x y. refl;
  changes = λ s. sews-change true;
  ends = λ s. sews-end true (0x80 ∷ 0x10 ∷ []) refl;
}

-- ---- what is written sews what the list sews

-- with one command's bytes after the other's, and nothing behind them
written-sewing : (first : List ℕ → Record) (fits : ℤ → ℤ → Bool) (cmd : Op → ℤ → ℤ → List ℕ) → Owed {S = Unit {0}} first fits (λ s op dx dy. cmd op dx dy) []
    → (cs : List Cmd) → Good fits (pos 0) (pos 0) cs → sewn first (written cmd (pos 0) (pos 0) cs) 0 (pos 0) (pos 0) ≡ list_sewing cs
unfolding written list_sewing
written-sewing first fits cmd owed cs g =
    ap (λ (b : List ℕ). sewn first b 0 (pos 0) (pos 0)) (sym (append-nil (written cmd (pos 0) (pos 0) cs)))
    ∙ round first fits (λ s op dx dy. cmd op dx dy) (λ s op. s) [] (λ s x y ds. written cmd x y ds) (λ s x y. refl) (λ s x y c ds. refl) owed tt (pos 0) (pos 0) cs g 0

pub exp-sewing : (name : List ℕ) (cs : List Cmd) (threads : List ℕ) → Good (step_in Exp) (pos 0) (pos 0) cs
    → event_sewing 0 (pos 0) (pos 0) (events_of Exp (file_of Exp name cs threads)) ≡ list_sewing cs
unfolding events_of file_of exp_file
exp-sewing name cs threads g = written-sewing (pair_first false) (step_in Exp) exp_cmd exp-owed cs g

-- ---- JEF's header

length-words : (ns : List ℕ) → length (words ns) ≡ 4 * length ns
unfolding words joined
length-words [] = refl
length-words (n ∷ ns) = simp (length-append, length-little) (omega (arith, length-words ns))

length-edges : (ex ey w h : ℕ) → length (edges ex ey w h) ≡ 16
unfolding edges word
length-edges ex ey w h =
    pick-both (λ (s : List ℕ). length s ≡ 16) (le_z (pos 0) (pos ex -ℤ pos (half_up w)) && le_z (pos 0) (pos ey -ℤ pos (half_up h)))
    (simp (length-append, length-little)) (simp (length-append, length-little))

pub header-length : (cs : List Cmd) (threads : List Color) → length (jef_header cs threads) ≡ 0x74 + 8 * length (jef_table threads)
unfolding jef_header joined
header-length cs threads = simp (length-append, length-little, length-words, length-edges, length-replicate) (omega arith)

-- the table holds an entry for each thread, or one
entries-length : (last : Option (ℕ × Color)) (threads : List Color) → length (jef_entries last threads) ≡ length threads
unfolding jef_entries
entries-length last [] = refl
entries-length last (t ∷ ts) = ap suc (entries-length (Some (jef_choice last t, t)) ts)

or-one-length : (es : List ℕ) → length (or_one es) ≤ suc (length es)
unfolding or_one
or-one-length [] = omega arith
or-one-length (e ∷ es) = omega arith

pub table-length : (threads : List Color) → length (jef_table threads) ≤ suc (length threads)
unfolding jef_table
table-length threads = omega (arith, or-one-length (jef_entries None threads), entries-length None threads)

-- the offset is the header's length
offset : (cs : List Cmd) (threads : List Color) → length threads ≤ 255 → word_at 0 (jef_file cs threads) ≡ pos (length (jef_header cs threads))
unfolding word_at jef_file jef_header joined
offset cs threads h =
    let n : ℕ = 0x74 + 8 * length (jef_table threads) in
    let small : n < 2 ^ 31 = omega (arith, table-length threads) in
    ap (signed 31) (ap (λ (s : List ℕ). from_little (take 4 s)) (append_assoc (little 4 n) _ _) ∙ little-at [] _ 4 n 0 refl ∙ mod-eq_of_lt (omega arith))
    ∙ signed_low 31 n small ∙ ap pos (sym (header-length cs threads))

-- so the records are found
jef-stitches : (cs : List Cmd) (threads : List Color) → length threads ≤ 255 → jef_records (jef_file cs threads) ≡ written jef_cmd (pos 0) (pos 0) cs
unfolding jef_records jef_file
jef-stitches cs threads h =
    let n : ℕ = length (jef_header cs threads) in
    rw (offset cs threads h) (pick-le 0 n _ _ (omega arith) ∙ drop_at (jef_header cs threads) _ n refl)

pub jef-sewing : (name : List ℕ) (cs : List Cmd) (threads : List ℕ) → length (threads_of threads) ≤ 255 → Good (step_in Jef) (pos 0) (pos 0) cs
    → event_sewing 0 (pos 0) (pos 0) (events_of Jef (file_of Jef name cs threads)) ≡ list_sewing cs
unfolding events_of file_of
jef-sewing name cs threads h g =
    ap (λ (b : List ℕ). sewn (pair_first true) b 0 (pos 0) (pos 0)) (jef-stitches cs (threads_of threads) h)
    ∙ written-sewing (pair_first true) (step_in Jef) jef_cmd jef-owed cs g

-- ---- what is written is accepted: it is short enough, and JEF's header long enough

pub written-length : (cmd : Op → ℤ → ℤ → List ℕ) → ((op : Op) (dx dy : ℤ) → length (cmd op dx dy) ≤ 4) → (x y : ℤ) (cs : List Cmd)
    → length (written cmd x y cs) ≤ 4 * length cs
unfolding written
written-length cmd h x y [] = omega arith
written-length cmd h x y (c ∷ cs) =
    simp length-append (omega (arith, h (op_of c.kind) (c.x -ℤ x) (c.y -ℤ y), written-length cmd h c.x c.y cs))

pub exp-four-bytes : (op : Op) (dx dy : ℤ) → length (exp_cmd op dx dy) ≤ 4
unfolding exp_cmd pair_of
exp-four-bytes Stitch dx dy = omega arith
exp-four-bytes Jump dx dy = omega arith
exp-four-bytes Trim dx dy = omega arith
exp-four-bytes ColorChange dx dy = omega arith
exp-four-bytes End dx dy = omega arith

pub jef-four-bytes : (op : Op) (dx dy : ℤ) → length (jef_cmd op dx dy) ≤ 4
unfolding jef_cmd pair_of
jef-four-bytes Stitch dx dy = omega arith
jef-four-bytes Jump dx dy = omega arith
jef-four-bytes Trim dx dy = omega arith
jef-four-bytes ColorChange dx dy = omega arith
jef-four-bytes End dx dy = omega arith

pub exp-taken : (name : List ℕ) (cs : List Cmd) (threads : List ℕ) → length cs ≤ 65535 → file_verdict (Some Exp) (file_of Exp name cs threads) ≡ Ok tt
unfolding file_verdict file_refusals verdict file_of exp_file
exp-taken name cs threads h =
    rw (le-ltb 2097152 (length (written exp_cmd (pos 0) (pos 0) cs)) (omega (arith, written-length exp_cmd exp-four-bytes (pos 0) (pos 0) cs)))

pub jef-taken : (name : List ℕ) (cs : List Cmd) (threads : List ℕ) → length cs ≤ 65535 → length (threads_of threads) ≤ 255
    → file_verdict (Some Jef) (file_of Jef name cs threads) ≡ Ok tt
unfolding file_verdict file_refusals verdict file_of jef_file
jef-taken name cs threads h l =
    let header = jef_header cs (threads_of threads) in
    let body = written jef_cmd (pos 0) (pos 0) cs in
    let n = length-append header body in
    let e = header-length cs (threads_of threads) in
    rw (
      le-ltb 2097152 (length (header ++ body)) (omega (arith, table-length (threads_of threads), written-length jef_cmd jef-four-bytes (pos 0) (pos 0) cs)),
      le-ltb (length (header ++ body)) 4 (omega arith),
    )
