-- The DST file of an accepted list is accepted when it is read, and sews what the list sews. Assumes nothing.
use Rattle.std.specs.Prelude.{◌≡◌, refl, Bool, true, ◌&&◌, List, [], ◌∷◌, ◌++◌, ℕ, suc, ◌+◌, ◌*◌, ◌≤◌, ℤ, pos, negsuc, nat_abs, ◌+ℤ◌, ◌-ℤ◌, T, eqb, length, take, drop, Some, Ok}
use Rattle.std.proofs.Common.{sym, ◌∙◌, append-nil, arith, le-ltb, eqb→eq, length-append, length-take, drop_at}
use Rattle.std.proofs.Math.Path.{ap, ap₂}
use Rattle.std.proofs.Math.IntN.{neg_ℤ, neg_ℤ-neg_ℤ, +ℤ_assoc, +ℤ_idr}
use Rattle.std.proofs.Math.Facts.{and_yes}
use Rattle.rules.specs.Vocabulary.{eq_z, between, same_bytes, padded, joined}
use Rattle.rules.specs.Lists.{op_of, written, dst_name}
use Rattle.rules.specs.Sewing.{list_sewing, entry}
use Rattle.rules.specs.Refusals.{verdict, step_in, least_step, greatest_step}
use Rattle.rules.specs.Dst.{bit, weigh, dst_x, dst_y, under, dst_record, dst_first, Digit, minus, nought, plus, digit, rest, z27, z9, z3, z1, pair, dst_bytes, dst_cmd, line}
use Rattle.rules.specs.Dst.{signed_right, dst_text, dst_file}
use Rattle.rules.specs.Files.{file_of, events_of, file_refusals, file_verdict}
use Rattle.rules.specs.declared.Cmd.{Cmd}
use Rattle.rules.specs.declared.Format.TheVariants.{Dst}
use Rattle.rules.specs.declared.Op.{Op}
use Rattle.rules.specs.declared.Op.TheVariants.{Stitch, Jump, Trim, ColorChange, End}
use Rattle.rules.specs.declared.Record.TheVariants.{StitchBy, JumpBy, Finish}
use Rattle.laws.specs.Tests.{is_true, and_left, and_right}
use Rattle.laws.specs.Ints.{eqz-true, between-true, abs-le, abs_neg, ints}
use Rattle.laws.specs.Tables.{checked}
use Rattle.laws.specs.Decimals.{length-right, length-padded}
use Rattle.laws.specs.Reading.{Within, Inside, within-pick, read-stitch, read-jump, read-change, read-finish}
use Rattle.sewing.specs.EventSewing.{event_sewing, sew-stitch, sew-jump, sew-nil, sew-change-spot}
use Rattle.sewing.specs.Accepting.{Good}
use Rattle.sewing.specs.Round.{sewn, Owed, round}

-- ---- what is so for each digit

by-digit : (P : Digit → Type 0) → P minus → P nought → P plus → (d : Digit) → P d
by-digit P m n p minus = m
by-digit P m n p nought = n
by-digit P m n p plus = p

-- a test of each digit, computed once
abbrev every : (Digit → Bool) → Bool
every P = P minus && (P nought && P plus)

each : (P : Digit → Bool) → T (every P) → (d : Digit) → T (P d)
each P t =
    let u = and_yes (P minus) (P nought && P plus) t in
    let v = and_yes (P nought) (P plus) u.1 in
    by-digit _ u.0 v.0 v.1

each2 : (P : Digit → Digit → Bool) → T (every (λ a. every (P a))) → (a b : Digit) → T (P a b)
each2 P t a = each (P a) (each (λ a. every (P a)) t a)

-- ---- single bits

-- a digit's two bits
plus_bit : Digit → ℕ
plus_bit minus = 0
plus_bit nought = 0
plus_bit plus = 1

minus_bit : Digit → ℕ
minus_bit minus = 1
minus_bit nought = 0
minus_bit plus = 0

-- a passed test of two lists is an equation
same : (s t : List ℕ) → T (same_bytes s t) → s ≡ t
unfolding same_bytes
same [] [] h = refl
same [] (b ∷ t) h = absurd h
same (a ∷ s) [] h = absurd h
same (a ∷ s) (b ∷ t) h = let u = and_yes (eqb a b) (same_bytes s t) h in ap₂ (λ (x : ℕ) (xs : List ℕ). x ∷ xs) (eqb→eq a b u.0) (same s t u.1)

abbrev bits : ℕ → List ℕ
bits n = bit 0 n ∷ bit 1 n ∷ bit 2 n ∷ bit 3 n ∷ bit 4 n ∷ bit 5 n ∷ bit 6 n ∷ bit 7 n ∷ []

-- a record's first and second byte: digits a and b are x's, c and d are y's
abbrev byte : Digit → Digit → Digit → Digit → ℕ
byte a b c d = pair 0x01 0x02 a + pair 0x04 0x08 b + pair 0x20 0x10 c + pair 0x80 0x40 d

abbrev byte_bits : Digit → Digit → Digit → Digit → List ℕ
byte_bits a b c d = plus_bit a ∷ minus_bit a ∷ plus_bit b ∷ minus_bit b ∷ minus_bit c ∷ plus_bit c ∷ minus_bit d ∷ plus_bit d ∷ []

byte-is : (a b c d : Digit) → bits (byte a b c d) ≡ byte_bits a b c d
unfolding bit pair plus_bit minus_bit same_bytes
byte-is a b c d = same _ _ (each2 (λ c d. same_bytes (bits (byte a b c d)) (byte_bits a b c d))
    (each2 (λ a b. every (λ c. every (λ d. same_bytes (bits (byte a b c d)) (byte_bits a b c d)))) tt a b) c d)

-- its third byte
abbrev third : ℕ → Digit → Digit → ℕ
third kind b c = kind + pair 0x04 0x08 b + pair 0x20 0x10 c

abbrev third_bits : ℕ → Digit → Digit → List ℕ
third_bits kind b c = 1 ∷ 1 ∷ plus_bit b ∷ minus_bit b ∷ minus_bit c ∷ plus_bit c ∷ 0 ∷ bit 7 kind ∷ []

stitch-bits : (b c : Digit) → bits (third 0x03 b c) ≡ third_bits 0x03 b c
unfolding bit pair plus_bit minus_bit
stitch-bits = by-digit _ (by-digit _ refl refl refl) (by-digit _ refl refl refl) (by-digit _ refl refl refl)

jump-bits : (b c : Digit) → bits (third 0x83 b c) ≡ third_bits 0x83 b c
unfolding bit pair plus_bit minus_bit
jump-bits = by-digit _ (by-digit _ refl refl refl) (by-digit _ refl refl refl) (by-digit _ refl refl refl)

-- ---- what a record is, by its third byte

stitch-record : (dx dy : ℤ) (b c : Digit) → dst_record (third 0x03 b c) dx dy ≡ StitchBy dx dy 3
unfolding dst_record under pair
stitch-record dx dy = by-digit _ (by-digit _ refl refl refl) (by-digit _ refl refl refl) (by-digit _ refl refl refl)

jump-record : (dx dy : ℤ) (b c : Digit) → dst_record (third 0x83 b c) dx dy ≡ JumpBy dx dy 3
unfolding dst_record under pair
jump-record dx dy = by-digit _ (by-digit _ refl refl refl) (by-digit _ refl refl refl) (by-digit _ refl refl refl)

record-in : (len b₂ : ℕ) (dx dy : ℤ) → 3 ≤ len → Within len (dst_record b₂ dx dy)
unfolding dst_record
record-in len b₂ dx dy h =
    within-pick len (under 0xF3 b₂) Finish _ tt
    (within-pick len (under 0xC3 b₂) _ _ (omega arith, h) (within-pick len (under 0x83 b₂) _ _ (omega arith, h) (omega arith, h)))

pub dst-inside : Inside dst_first
unfolding dst_first
dst-inside [] = tt
dst-inside (b₀ ∷ []) = tt
dst-inside (b₀ ∷ b₁ ∷ []) = tt
dst-inside (b₀ ∷ b₁ ∷ b₂ ∷ t) = record-in _ b₂ _ _ (omega arith)

-- ---- the steps

-- what the digits of z come to
value : ℤ → ℤ
value z =
    pos (weigh (plus_bit (digit 40 z)) (plus_bit (digit 13 (z27 z))) (plus_bit (digit 4 (z9 z))) (plus_bit (digit 1 (z3 z))) (plus_bit (digit 0 (z1 z))))
    -ℤ pos (weigh (minus_bit (digit 40 z)) (minus_bit (digit 13 (z27 z))) (minus_bit (digit 4 (z9 z))) (minus_bit (digit 1 (z3 z))) (minus_bit (digit 0 (z1 z))))

value-is : (z : ℤ) → nat_abs z ≤ 121 → value z ≡ z
unfolding value weigh plus_bit minus_bit digit rest z27 z9 z3 z1
value-is (pos n) h = eqz-true _ _ (is_true _ (checked (λ n. eq_z (value (pos n)) (pos n)) 122 tt n (omega arith)))
value-is (negsuc n) h = eqz-true _ _ (is_true _ (checked (λ n. eq_z (value (negsuc n)) (negsuc n)) 121 tt n (omega arith)))

-- a step within the limits
within-121 : (z : ℤ) → between (negsuc 120) (pos 121) z ≡ true → nat_abs z ≤ 121
within-121 z e = let p = between-true (negsuc 120) (pos 121) z e in abs-le z 121 (omega ints) (omega ints)

-- the first two bytes of a record that moves by (x, -y)
abbrev byte₀ : ℤ → ℤ → ℕ
byte₀ x y = byte (digit 0 (z1 x)) (digit 4 (z9 x)) (digit 4 (z9 y)) (digit 0 (z1 y))

abbrev byte₁ : ℤ → ℤ → ℕ
byte₁ x y = byte (digit 1 (z3 x)) (digit 13 (z27 x)) (digit 13 (z27 y)) (digit 1 (z3 y))

bits₀ : (x y : ℤ) → bits (byte₀ x y) ≡ byte_bits (digit 0 (z1 x)) (digit 4 (z9 x)) (digit 4 (z9 y)) (digit 0 (z1 y))
bits₀ x y = byte-is _ _ _ _

bits₁ : (x y : ℤ) → bits (byte₁ x y) ≡ byte_bits (digit 1 (z3 x)) (digit 13 (z27 x)) (digit 13 (z27 y)) (digit 1 (z3 y))
bits₁ x y = byte-is _ _ _ _

module _ (kind : ℕ) (bits₂ : (b c : Digit) → bits (third kind b c) ≡ third_bits kind b c) where
  -- its digits, read back
  read-x : (x y : ℤ) → dst_x (byte₀ x y) (byte₁ x y) (third kind (digit 40 x) (digit 40 y)) ≡ value x
  unfolding dst_x value
  read-x x y = cc (ap (take 4) (bits₀ x y), ap (take 4) (bits₁ x y), ap (take 4) (bits₂ (digit 40 x) (digit 40 y)))

  read-y : (x y : ℤ) → dst_y (byte₀ x y) (byte₁ x y) (third kind (digit 40 x) (digit 40 y)) ≡ neg_ℤ (value y)
  unfolding dst_y value
  read-y x y = cc (ap (drop 4) (bits₀ x y), ap (drop 4) (bits₁ x y), ap (drop 4) (bits₂ (digit 40 x) (digit 40 y)))

  -- what is read of a step that was written
  step_back : (dx dy : ℤ) (t : List ℕ) → step_in Dst dx dy ≡ true
      → dst_first (dst_bytes kind dx (neg_ℤ dy) ++ t) ≡ dst_record (third kind (digit 40 dx) (digit 40 (neg_ℤ dy))) dx dy
  unfolding dst_first dst_bytes step_in least_step greatest_step
  step_back dx dy t h =
      let p = within-121 dx (and_left (between (negsuc 120) (pos 121) dx) _ h) in
      let q = within-121 dy (and_right (between (negsuc 120) (pos 121) dx) _ h) in
      ap₂ (dst_record (third kind (digit 40 dx) (digit 40 (neg_ℤ dy)))) (read-x dx (neg_ℤ dy) ∙ value-is dx p)
      (read-y dx (neg_ℤ dy) ∙ ap neg_ℤ (value-is (neg_ℤ dy) (rw abs_neg q)) ∙ neg_ℤ-neg_ℤ dy)

-- ---- what each kind of command comes to

module _ (dx dy : ℤ) (t : List ℕ) (h : step_in Dst dx dy ≡ true) (k : ℕ) (x y : ℤ) where
  dst-stitch : sewn dst_first (dst_bytes 0x03 dx (neg_ℤ dy) ++ t) k x y ≡ entry k x y (x +ℤ dx) (y +ℤ dy) (sewn dst_first t k (x +ℤ dx) (y +ℤ dy))
  unfolding dst_bytes
  dst-stitch =
      ap (event_sewing k x y) (read-stitch dst_first dst-inside (dst_bytes 0x03 dx (neg_ℤ dy) ++ t) (step_back 0x03 stitch-bits dx dy t h ∙ stitch-record dx dy _ _))
      ∙ sew-stitch k x y dx dy _

  dst-jump : sewn dst_first (dst_bytes 0x83 dx (neg_ℤ dy) ++ t) k x y ≡ sewn dst_first t k (x +ℤ dx) (y +ℤ dy)
  unfolding dst_bytes
  dst-jump =
      ap (event_sewing k x y) (read-jump dst_first dst-inside (dst_bytes 0x83 dx (neg_ℤ dy) ++ t) (step_back 0x83 jump-bits dx dy t h ∙ jump-record dx dy _ _))
      ∙ sew-jump k x y dx dy _

-- a trim ends where it began
home : (z : ℤ) → z +ℤ pos 2 +ℤ negsuc 3 +ℤ pos 2 ≡ z
home z = ap (λ (a : ℤ). a +ℤ pos 2) (+ℤ_assoc z (pos 2) (negsuc 3)) ∙ +ℤ_assoc z (negsuc 1) (pos 2) ∙ +ℤ_idr z

dst-trim : (t : List ℕ) (k : ℕ) (x y : ℤ) → sewn dst_first (dst_cmd Trim (pos 0) (pos 0) ++ t) k x y ≡ sewn dst_first t k x y
unfolding dst_cmd dst_bytes step_in least_step greatest_step between
dst-trim t k x y =
    dst-jump (pos 2) (pos 2) _ refl k x y ∙ dst-jump (negsuc 3) (negsuc 3) _ refl k _ _ ∙ dst-jump (pos 2) (pos 2) t refl k _ _
    ∙ ap₂ (λ (a b : ℤ). sewn dst_first t k a b) (home x) (home y)

dst-change : (t : List ℕ) (k : ℕ) (x y : ℤ) → sewn dst_first (dst_cmd ColorChange (pos 0) (pos 0) ++ t) k x y ≡ sewn dst_first t (suc k) x y
unfolding dst_cmd dst_first dst_record under dst_x dst_y weigh bit
dst-change t k x y = ap (event_sewing k x y) (read-change dst_first dst-inside (dst_cmd ColorChange (pos 0) (pos 0) ++ t) refl) ∙ sew-change-spot k x y _

dst-end : (k : ℕ) (x y : ℤ) → sewn dst_first (dst_cmd End (pos 0) (pos 0) ++ []) k x y ≡ []
unfolding dst_cmd dst_first dst_record under
dst-end k x y = ap (event_sewing k x y) (read-finish dst_first dst-inside (dst_cmd End (pos 0) (pos 0) ++ []) refl) ∙ sew-nil k x y

pub dst-owed : Owed {S = Unit {0}} dst_first (step_in Dst) (λ s op dx dy. dst_cmd op dx dy) []
unfolding dst_cmd
dst-owed = record { stitches = λ s. dst-stitch; jumps = λ s. dst-jump; trims = λ s. dst-trim; changes = λ s. dst-change; ends = λ s. dst-end }

-- ---- the file

length-line : (a b : ℕ) (text : List ℕ) → length (line a b text) ≡ length text + 4
unfolding line joined
length-line a b text = simp length-append (omega arith)

length-signed : (z : ℤ) → length (signed_right z) ≡ 6
unfolding signed_right
length-signed z = ap suc (length-right 5 (nat_abs z))

length-name : (name : List ℕ) → length (padded 16 (dst_name name)) ≡ 16
unfolding dst_name
length-name name = length-padded 16 _ (simp length-take (omega arith))

pub length-header : (name : List ℕ) (cs : List Cmd) → length (padded 512 (dst_text name cs)) ≡ 512
unfolding dst_text joined
length-header name cs = length-padded 512 _ (simp (length-append, length-line, length-signed, length-right, length-name) (omega arith))

pub dst-sewing : (name : List ℕ) (cs : List Cmd) (threads : List ℕ) → Good (step_in Dst) (pos 0) (pos 0) cs
    → event_sewing 0 (pos 0) (pos 0) (events_of Dst (file_of Dst name cs threads)) ≡ list_sewing cs
unfolding file_of dst_file events_of list_sewing written
dst-sewing name cs threads g =
    ap (λ (b : List ℕ). sewn dst_first b 0 (pos 0) (pos 0)) (drop_at (padded 512 (dst_text name cs)) _ 512 (length-header name cs) ∙ sym (append-nil _))
    ∙ round dst_first (step_in Dst) (λ s op dx dy. dst_cmd op dx dy) (λ s op. s) [] (λ s x y cs. written dst_cmd x y cs)
    (λ s x y. refl) (λ s x y c cs. refl) dst-owed tt (pos 0) (pos 0) cs g 0

length-cmd : (op : Op) (dx dy : ℤ) → length (dst_cmd op dx dy) ≤ 9
unfolding dst_cmd dst_bytes
length-cmd Stitch dx dy = omega arith
length-cmd Jump dx dy = omega arith
length-cmd Trim dx dy = omega arith
length-cmd ColorChange dx dy = omega arith
length-cmd End dx dy = omega arith

pub length-written : (x y : ℤ) (cs : List Cmd) → length (written dst_cmd x y cs) ≤ 9 * length cs
unfolding written
length-written x y [] = omega arith
length-written x y (c ∷ cs) = simp length-append (omega (arith, length-cmd (op_of c.kind) (c.x -ℤ x) (c.y -ℤ y), length-written c.x c.y cs))

pub dst-taken : (name : List ℕ) (cs : List Cmd) (threads : List ℕ) → length cs ≤ 65535 → file_verdict (Some Dst) (file_of Dst name cs threads) ≡ Ok tt
unfolding file_of dst_file file_verdict file_refusals verdict
dst-taken name cs threads h =
    let p = length-append (padded 512 (dst_text name cs)) (written dst_cmd (pos 0) (pos 0) cs) in
    let q = length-header name cs in
    let r = length-written (pos 0) (pos 0) cs in
    rw (le-ltb 2097152 (length (dst_file name cs)) (omega arith), le-ltb (length (dst_file name cs)) 512 (omega arith))
