-- PEC's stitches, read, sew what the list sews, for any state of the writer and any bytes after the end that begin with 00. Assumes
-- nothing.
use Rattle.std.specs.Prelude.{◌≡◌, ◌≢◌, Bool, true, false, not, ◌||◌, List, [], ◌∷◌, ◌++◌, ℕ, suc, ◌+◌, ◌*◌, ◌/◌, ◌%◌, ◌≤◌, ◌<◌, ℤ, pos, neg_ℤ, ◌+ℤ◌, eqb, ltb, length, drop}
use Rattle.std.proofs.Math.Path.{refl, ap}
use Rattle.std.proofs.Common.{sym, ◌∙◌, ap₂, append_assoc, arith, lt-ltb, le-ltb, ne_eqb, lit≤, drop-drop}
use Rattle.std.proofs.Math.ListN.{length-drop}
use Rattle.rules.specs.Vocabulary.{pick, between, signed, bits_of}
use Rattle.rules.specs.Records.{stitch, jump, change, events}
use Rattle.rules.specs.Pec.{Axis, axis, none, long_axis, axis_of, after_axis, both_axes, starts, pec_change, pec_first, wide, pec_value, pause, pec_cmd}
use Rattle.rules.specs.Sewing.{entry}
use Rattle.rules.specs.declared.Record.{Record}
use Rattle.rules.specs.declared.Record.TheVariants.{StitchBy, JumpBy, Finish}
use Rattle.laws.specs.Tests.{pick_true, pick-false, by-test, and-no-left}
use Rattle.laws.specs.Ints.{InBits, ints, between-true}
use Rattle.laws.specs.Twos.{bits-lt, signed-bits}
use Rattle.laws.specs.Reading.{Within, Inside, within-pick, read-stitch, read-jump, read-change, read-finish}
use Rattle.sewing.specs.EventSewing.{event_sewing, sew-stitch, sew-jump, sew-nil, sew-spot, sew-change-spot}
use Rattle.sewing.specs.Round.{sewn, Owed}

-- ---- a record stays in its bytes

abbrev AxisIn : ℕ → Axis → Type 0
AxisIn len (axis j z n) = (0 < n) × (n ≤ len)
AxisIn len none = Unit {0}

axis-pick : (len : ℕ) (b : Bool) (p q : Axis) → AxisIn len p → AxisIn len q → AxisIn len (pick b p q)
axis-pick len true p q h l = h
axis-pick len false p q h l = l

long-in : (a : ℕ) (s : List ℕ) → AxisIn (suc (length s)) (long_axis a s)
unfolding long_axis
long-in a [] = tt
long-in a (b ∷ s) = omega arith

axis-in : (s : List ℕ) → AxisIn (length s) (axis_of s)
unfolding axis_of
axis-in [] = tt
axis-in (a ∷ s) = axis-pick _ (ltb a 0x80) _ _ (omega arith) (long-in a s)

both-in : (len n : ℕ) (j : Bool) (dx : ℤ) (q : Axis) (left : ℕ) → 0 < n → left + n ≤ len → AxisIn left q → Within len (both_axes (axis j dx n) q)
unfolding both_axes
both-in len n j dx (axis j' dy m) left h l k = within-pick len (j || j') (JumpBy dx dy (n + m)) (StitchBy dx dy (n + m)) (omega arith) (omega arith)
both-in len n j dx none left h l k = tt

step_in_lem : (s : List ℕ) (p : Axis) → AxisIn (length s) p → Within (length s) (both_axes p (after_axis p s))
step_in_lem s (axis j dx n) h = unfold after_axis in both-in (length s) n j dx (axis_of (drop n s)) (length (drop n s)) h.0 (simp length-drop (omega arith)) (axis-in (drop n s))
step_in_lem s none h = unfold both_axes in tt

change-in : (s : List ℕ) → Within (length s) (pec_change s)
unfolding pec_change
change-in [] = tt
change-in (a ∷ []) = tt
change-in (a ∷ b ∷ []) = tt
change-in (a ∷ b ∷ c ∷ s) = omega arith

pub pec-inside : Inside pec_first
unfolding pec_first
pec-inside s = within-pick _ (starts 0xFF 0x00 s) Finish _ tt (within-pick _ (starts 0xFE 0xB0 s) _ _ (change-in s) (step_in_lem s (axis_of s) (axis-in s)))

-- ---- the bytes of one axis

wide_value : (flag n : ℕ) → flag % 16 ≡ 0 → n < 4096 → (flag + n / 256) % 16 * 256 + n % 256 ≡ n
wide_value flag n f h = omega arith

wide-flag : (flag n : ℕ) → flag % 16 ≡ 0 → n < 4096 → (flag + n / 256) / 16 ≡ flag / 16
wide-flag flag n f h = omega arith

read_wide : (flag : ℕ) (z : ℤ) (rest : List ℕ) → 0x80 ≤ flag → flag % 16 ≡ 0 → InBits 11 z
    → axis_of (wide flag z ++ rest) ≡ axis (not (eqb (flag / 16 % 4) 0)) z 2
unfolding axis_of wide long_axis
read_wide flag z rest g f h =
    let n : bits_of 11 z < 4096 = bits-lt 11 z in
    pick-false _ _ (le-ltb (flag + bits_of 11 z / 256) 0x80 (omega arith))
    ∙ ap₂ (λ (a : ℕ) (b : ℤ). axis (not (eqb (a % 4) 0)) b 2) (wide-flag flag (bits_of 11 z) f n)
    (ap (signed 11) (wide_value flag (bits_of 11 z) f n) ∙ signed-bits 11 z h)

-- the bytes of a step of a stitch
size : ℤ → ℕ
size z = pick (between (neg_ℤ (pos 63)) (pos 62) z) 1 2

short-in : (z : ℤ) → between (neg_ℤ (pos 63)) (pos 62) z ≡ true → InBits 6 z
short-in z t = let p = between-true (neg_ℤ (pos 63)) (pos 62) z t in (omega ints, omega ints)

read_short : (z : ℤ) (rest : List ℕ) → InBits 6 z → axis_of (bits_of 6 z ∷ rest) ≡ axis false z 1
unfolding axis_of
read_short z rest h = pick_true _ _ (lt-ltb (bits_of 6 z) 0x80 (bits-lt 6 z)) ∙ ap (λ (a : ℤ). axis false a 1) (signed-bits 6 z h)

read-value : (z : ℤ) (rest : List ℕ) → InBits 11 z → axis_of (pec_value z ++ rest) ≡ axis false z (size z)
unfolding pec_value size
read-value z rest h = by-test (between (neg_ℤ (pos 63)) (pos 62) z)
    (λ t. rw t (read_short z rest (short-in z t)))
    (λ t. rw t (read_wide 0x80 z rest (lit≤ tt) refl h))

drop-value : (z : ℤ) (rest : List ℕ) → drop (size z) (pec_value z ++ rest) ≡ rest
unfolding pec_value size wide
drop-value z rest = by-test (between (neg_ℤ (pos 63)) (pos 62) z) (λ t. rw t) (λ t. rw t)

-- ---- two axes

starts-no : (a b c : ℕ) (s : List ℕ) → c ≢ a → starts a b (c ∷ s) ≡ false
unfolding starts
starts-no a b c [] h = refl
starts-no a b c (d ∷ s) h = and-no-left (eqb c a) (eqb d b) (ne_eqb c a h)

abbrev step_of : List ℕ → Record
step_of s = both_axes (axis_of s) (after_axis (axis_of s) s)

low-head : (c : ℕ) (s : List ℕ) → c < 0xC0 → pec_first (c ∷ s) ≡ step_of (c ∷ s)
unfolding pec_first
low-head c s h = rw (starts-no 0xFF 0x00 c s (λ e. omega arith), starts-no 0xFE 0xB0 c s (λ e. omega arith))

wide-plain : (flag : ℕ) (z : ℤ) (rest : List ℕ) → flag ≤ 0xB0 → pec_first (wide flag z ++ rest) ≡ step_of (wide flag z ++ rest)
unfolding wide
wide-plain flag z rest f = low-head _ _ (omega (arith, bits-lt 11 z))

value-plain : (z : ℤ) (rest : List ℕ) → pec_first (pec_value z ++ rest) ≡ step_of (pec_value z ++ rest)
unfolding pec_value
value-plain z rest = by-test (between (neg_ℤ (pos 63)) (pos 62) z)
    (λ t. rw t (low-head _ _ (omega (arith, bits-lt 6 z))))
    (λ t. rw t (wide-plain 0x80 z rest (lit≤ tt)))

step_is : (s : List ℕ) {j j' : Bool} {dx dy : ℤ} {n m : ℕ} → axis_of s ≡ axis j dx n → axis_of (drop n s) ≡ axis j' dy m
    → step_of s ≡ both_axes (axis j dx n) (axis j' dy m)
unfolding after_axis
step_is s {j} {j'} {dx} {dy} {n} {m} e e' = ap (λ (p : Axis). both_axes p (after_axis p s)) e ∙ ap (both_axes (axis j dx n)) e'

-- ---- each command's bytes

pec-move : (dx dy : ℤ) (rest : List ℕ) → InBits 11 dx → InBits 11 dy
    → events pec_first (pec_value dx ++ (pec_value dy ++ rest)) ≡ stitch dx dy ∷ events pec_first rest
unfolding both_axes
pec-move dx dy rest h l =
    let tl : List ℕ = pec_value dy ++ rest in
    let s : List ℕ = pec_value dx ++ tl in
    read-stitch pec_first pec-inside s
    (value-plain dx tl ∙ step_is s (read-value dx tl h) (ap axis_of (drop-value dx tl) ∙ read-value dy rest l))
    ∙ ap (λ (t : List ℕ). stitch dx dy ∷ events pec_first t)
    (sym (drop-drop (size dy) (size dx) s) ∙ ap (drop (size dy)) (drop-value dx tl) ∙ drop-value dy rest)

-- the first byte's share of a jump
record Leap (flag : ℕ) : Type 0 where
  high : 0x80 ≤ flag
  plain : flag ≤ 0xB0
  clear : flag % 16 ≡ 0
  leaps : not (eqb (flag / 16 % 4) 0) ≡ true

pec-leap : (flag : ℕ) → Leap flag → (dx dy : ℤ) (rest : List ℕ) → InBits 11 dx → InBits 11 dy
    → events pec_first (wide flag dx ++ (wide flag dy ++ rest)) ≡ jump dx dy ∷ events pec_first rest
unfolding both_axes wide
pec-leap flag f dx dy rest h l =
    let tl : List ℕ = wide flag dy ++ rest in
    let s : List ℕ = wide flag dx ++ tl in
    read-jump pec_first pec-inside s
    (wide-plain flag dx tl f.plain
    ∙ step_is s (read_wide flag dx tl f.high f.clear h ∙ ap (λ (j : Bool). axis j dx 2) f.leaps)
    (read_wide flag dy rest f.high f.clear l ∙ ap (λ (j : Bool). axis j dy 2) f.leaps))

flag-of : (opening : Bool) → Leap (pick opening 0x90 0xA0)
flag-of true = record { high = lit≤ tt; plain = lit≤ tt; clear = refl; leaps = refl }
flag-of false = record { high = lit≤ tt; plain = lit≤ tt; clear = refl; leaps = refl }

pec-end : (rest : List ℕ) → events pec_first (0xFF ∷ 0x00 ∷ rest) ≡ []
pec-end rest = unfold pec_first starts in read-finish pec_first pec-inside (0xFF ∷ 0x00 ∷ rest) refl

pec_change_lem : (c : ℕ) (rest : List ℕ) → events pec_first (0xFE ∷ 0xB0 ∷ c ∷ rest) ≡ change (pos 0) (pos 0) ∷ events pec_first rest
pec_change_lem c rest = unfold pec_first starts pec_change in read-change pec_first pec-inside (0xFE ∷ 0xB0 ∷ c ∷ rest) refl

-- a stitch 00 00 sews nothing
pec-pause : (b : Bool) (rest : List ℕ) (k : ℕ) (x y : ℤ) → sewn pec_first (pause b ++ rest) k x y ≡ sewn pec_first rest k x y
unfolding pause pec_first starts axis_of after_axis both_axes signed
pec-pause true rest k x y = ap (event_sewing k x y) (read-stitch pec_first pec-inside (0 ∷ 0 ∷ rest) {dx = pos 0} {dy = pos 0} {n = 2} refl) ∙ sew-spot k x y _
pec-pause false rest k x y = refl

-- ---- what PEC owes, for any test of a step that keeps it in twelve bits

module _ (fits : ℤ → ℤ → Bool) (keeps : (dx dy : ℤ) → fits dx dy ≡ true → InBits 11 dx × InBits 11 dy) (t : List ℕ) where
  stitch-sewn : (b : Bool) (dx dy : ℤ) (rest : List ℕ) → InBits 11 dx → InBits 11 dy → (k : ℕ) (x y : ℤ)
      → sewn pec_first ((pause b ++ (pec_value dx ++ pec_value dy)) ++ rest) k x y ≡ entry k x y (x +ℤ dx) (y +ℤ dy) (sewn pec_first rest k (x +ℤ dx) (y +ℤ dy))
  stitch-sewn b dx dy rest h l k x y =
      let e : (pause b ++ (pec_value dx ++ pec_value dy)) ++ rest ≡ pause b ++ (pec_value dx ++ (pec_value dy ++ rest)) = simp append_assoc in
      ap (λ (s : List ℕ). sewn pec_first s k x y) e ∙ pec-pause b (pec_value dx ++ (pec_value dy ++ rest)) k x y
      ∙ ap (event_sewing k x y) (pec-move dx dy rest h l) ∙ sew-stitch k x y dx dy _

  jump-sewn : (flag : ℕ) → Leap flag → (dx dy : ℤ) (rest : List ℕ) → InBits 11 dx → InBits 11 dy → (k : ℕ) (x y : ℤ)
      → sewn pec_first ((wide flag dx ++ wide flag dy) ++ rest) k x y ≡ sewn pec_first rest k (x +ℤ dx) (y +ℤ dy)
  jump-sewn flag f dx dy rest h l k x y =
      ap (λ (s : List ℕ). sewn pec_first s k x y) (append_assoc (wide flag dx) (wide flag dy) rest)
      ∙ ap (event_sewing k x y) (pec-leap flag f dx dy rest h l) ∙ sew-jump k x y dx dy _

  change-sewn : (b : Bool) (c : ℕ) (rest : List ℕ) (k : ℕ) (x y : ℤ)
      → sewn pec_first ((pause b ++ (0xFE ∷ 0xB0 ∷ c ∷ [])) ++ rest) k x y ≡ sewn pec_first rest (suc k) x y
  change-sewn b c rest k x y =
      ap (λ (s : List ℕ). sewn pec_first s k x y) (append_assoc (pause b) (0xFE ∷ 0xB0 ∷ c ∷ []) rest)
      ∙ pec-pause b (0xFE ∷ 0xB0 ∷ c ∷ rest) k x y ∙ ap (event_sewing k x y) (pec_change_lem c rest) ∙ sew-change-spot k x y _

  pub pec-owed : Owed pec_first fits pec_cmd (0x00 ∷ t)
  unfolding pec_cmd
  pec-owed = record {
    stitches = λ s dx dy rest h k x y. let p = keeps dx dy h in stitch-sewn _ dx dy rest p.0 p.1 k x y;
    jumps = λ s dx dy rest h k x y. let p = keeps dx dy h in jump-sewn _ (flag-of s.opening) dx dy rest p.0 p.1 k x y;
    trims = λ s rest k x y. refl;
    changes = λ s rest k x y. change-sewn s.jumped (pick s.two 0x02 0x01) rest k x y;
    ends = λ s k x y. ap (event_sewing k x y) (pec-end t) ∙ sew-nil k x y;
  }
