-- How long the parts of PEC and PES files are. Assumes nothing.
use Rattle.std.specs.Prelude.{◌≡◌, Bool, true, false, not, ◌&&◌, ℕ, suc, ◌+◌, ◌*◌, ◌/◌, ◌≤◌, ◌<◌, ℤ, pos, neg_ℤ, ◌-ℤ◌, eqb, ltb, length}
use Rattle.std.proofs.Math.Path.{refl}
use Rattle.std.proofs.Common.{◌∙◌, ap, length-take, length-set}
use mathlib.Core.List.{List, [], ◌∷◌, ◌++◌, append_assoc, append-nil, map}
use native.Mathlib.Omega.{arith}
use Rattle.std.proofs.Math.ListN.{length-append}
use Rattle.std.proofs.lemmas.List.{length-map, length-replicate}
use Rattle.rules.specs.Vocabulary.{eq_z, between, count, little, joined, padded}
use Rattle.rules.specs.Lists.{op_of, is_change, width, height, pec_name, min_x, min_y, max_x, max_y}
use Rattle.rules.specs.Refusals.{changes}
use Rattle.rules.specs.Charts.{blank_icon}
use Rattle.rules.specs.Thumbnails.{f4, f5, scale_of, pixel, painted, marked, drawn, at_front, color_blocks, icons}
use Rattle.rules.specs.Pec.{wide, pec_value, PecState, pec_start, pec_next, pause, pec_cmd, pec_stitches, unique_palette, pec_colors, pec_header, pec_block, pec_part, pec_file}
use Rattle.rules.specs.Pes.{matrix_field, run_length, PesState, pes_start, opens, pes_next, pes_point, pes_open, pes_cmd, pes_sections, opens_section, color_log, pes_string, shorts}
use Rattle.rules.specs.Pes.{pes_blocks, pes_middle, pes_file}
use Rattle.rules.specs.declared.Cmd.{Cmd}
use Rattle.rules.specs.declared.Color.{Color}
use Rattle.rules.specs.declared.Op.{Op}
use Rattle.rules.specs.declared.Op.TheVariants.{Stitch, Jump, Trim, ColorChange, End}
use Rattle.rules.specs.declared.Scale.{Scale}
use Rattle.laws.specs.Tests.{by-test}
use Rattle.laws.specs.Little.{length-little}
use Rattle.laws.specs.Decimals.{length-padded}

-- two rows of parts as one
pub joined-append : (ps qs : List (List ℕ)) → joined (ps ++ qs) ≡ joined ps ++ joined qs
unfolding joined
joined-append [] qs = refl
joined-append (p ∷ ps) qs = rw (joined-append ps qs, append_assoc)

-- ---- thumbnails

pub length-pixel : (icon : List ℕ) (x y : ℕ) → length (pixel icon x y) ≡ length icon
unfolding pixel
length-pixel icon x y = by-test (ltb x 48 && (ltb 0 y && ltb y 38)) (λ t. rw t (length-set icon (y * 6 + x / 8) _)) (λ t. rw t)

pub blank-length : length blank_icon ≡ 228
unfolding blank_icon joined
blank-length = refl

module _ (s : Scale) where
  pub length_marked : (op : Op) (icon : List ℕ) (x y : ℤ) → length (marked s icon op x y) ≡ length icon
  unfolding marked painted
  length_marked Stitch icon x y = length-pixel icon _ _
  length_marked Jump icon x y = refl
  length_marked Trim icon x y = refl
  length_marked ColorChange icon x y = refl
  length_marked End icon x y = refl

  pub length-drawn : (cs : List Cmd) (icon : List ℕ) → length (drawn s icon cs) ≡ length icon
  unfolding drawn
  length-drawn [] icon = refl
  length-drawn (c ∷ cs) icon = length-drawn cs _ ∙ length_marked (op_of c.kind) icon c.x c.y

  pub length-drawns : (bs : List (List Cmd)) → length (joined (map (drawn s blank_icon) bs)) ≡ 228 * length bs
  unfolding joined
  length-drawns [] = refl
  length-drawns (b ∷ bs) = length-append (drawn s blank_icon b) _ ∙ omega (arith, length-drawn b blank_icon, blank-length, length-drawns bs)

abbrev pub whole : List Cmd → Scale
whole cs = scale_of (min_x cs) (min_y cs) (max_x cs) (max_y cs) f4

abbrev pub part : List Cmd → Scale
part cs = scale_of (min_x cs) (min_y cs) (max_x cs) (max_y cs) f5

abbrev pub parts : List Cmd → List ℕ
parts cs = joined (map (drawn (part cs) blank_icon) (color_blocks cs))

pub front_length : (c : Cmd) (bs : List (List Cmd)) → 0 < length bs → length (at_front c bs) ≡ length bs
unfolding at_front
front_length c [] h = absurd (omega arith)
front_length c (b ∷ bs) h = refl

pub length-blocks : (cs : List Cmd) → length (color_blocks cs) ≡ suc (count changes cs)
unfolding color_blocks count changes
length-blocks [] = refl
length-blocks (c ∷ cs) = by-test (is_change (op_of c.kind))
    (λ t. rw t (omega (arith, length-blocks cs)))
    (λ t. rw t (front_length c (color_blocks cs) (omega (arith, length-blocks cs)) ∙ omega (arith, length-blocks cs)))

pub length-icons : (cs : List Cmd) → length (icons cs) ≡ 456 + 228 * count changes cs
unfolding icons
length-icons cs =
    length-append (drawn (whole cs) blank_icon cs) (parts cs)
    ∙ omega (arith, length-drawn (whole cs) cs blank_icon, blank-length, length-drawns (part cs) (color_blocks cs), length-blocks cs)

-- ---- PEC: the front of a part has 528 bytes

pub length-name : (name : List ℕ) → length (padded 16 (pec_name name)) ≡ 16
unfolding pec_name
length-name name = length-padded 16 _ (simp length-take (omega arith))

pub length-unique : (threads : List Color) → length (unique_palette threads) ≡ length threads
unfolding unique_palette
length-unique threads = length-map threads _

pub length-colors : (es : List ℕ) → length (pec_colors es) ≡ 13 + length es
unfolding pec_colors joined
length-colors [] = refl
length-colors (e ∷ es) = simp length-append (omega arith)

pub length-header : (name : List ℕ) (threads : List Color) → length threads ≤ 255 → length (pec_header name threads) ≡ 512
unfolding pec_header joined
length-header name threads h =
    simp (length-append, length-name, length-colors, length-unique, length-replicate) (omega arith)

-- the bytes between the header and the stitches
abbrev pub block_front : List Cmd → List ℕ
block_front cs = joined
    ((0x00 ∷ 0x00 ∷ [])
    ∷ little 3 (16 + length (pec_stitches pec_start (pos 0) (pos 0) cs))
    ∷ (0x31 ∷ 0xFF ∷ 0xF0 ∷ [])
    ∷ little 2 (width cs) ∷ little 2 (height cs) ∷ little 2 0x1E0 ∷ little 2 0x1B0 ∷ [])

pub length_front : (cs : List Cmd) → length (block_front cs) ≡ 16
unfolding joined
length_front cs = simp (length-append, length-little)

abbrev pub part_front : List ℕ → List Cmd → List Color → List ℕ
part_front name cs threads = pec_header name threads ++ block_front cs

pub length-part_front : (name : List ℕ) (cs : List Cmd) (threads : List Color) → length threads ≤ 255 → length (part_front name cs threads) ≡ 528
length-part_front name cs threads h = length-append (pec_header name threads) (block_front cs) ∙ omega (arith, length-header name threads h, length_front cs)

abbrev pub stitches_of : List Cmd → List ℕ
stitches_of cs = pec_stitches pec_start (pos 0) (pos 0) cs

pub part-is : (name : List ℕ) (cs : List Cmd) (threads : List Color) → pec_part name cs threads ≡ part_front name cs threads ++ (stitches_of cs ++ icons cs)
unfolding pec_part pec_block joined
part-is name cs threads = simp (append_assoc, append-nil)

-- ---- PEC: stitches

pub length-value : (z : ℤ) → length (pec_value z) ≤ 2
unfolding pec_value wide
length-value z = by-test (between (neg_ℤ (pos 63)) (pos 62) z) (λ t. rw t (omega arith)) (λ t. rw t (omega arith))

pub length-pause : (b : Bool) → length (pause b) ≤ 2
unfolding pause
length-pause true = omega arith
length-pause false = omega arith

pub length-pec_cmd : (s : PecState) (op : Op) (dx dy : ℤ) → length (pec_cmd s op dx dy) ≤ 6
unfolding pec_cmd wide
length-pec_cmd s Stitch dx dy =
    simp length-append (omega (arith, length-pause (s.jumped && (not (eq_z dx (pos 0)) && not (eq_z dy (pos 0)))), length-value dx, length-value dy))
length-pec_cmd s Jump dx dy = omega arith
length-pec_cmd s Trim dx dy = omega arith
length-pec_cmd s ColorChange dx dy = simp length-append (omega (arith, length-pause s.jumped))
length-pec_cmd s End dx dy = omega arith

pub length-stitches : (s : PecState) (x y : ℤ) (cs : List Cmd) → length (pec_stitches s x y cs) ≤ 6 * length cs
unfolding pec_stitches
length-stitches s x y [] = omega arith
length-stitches s x y (c ∷ cs) =
    simp length-append
    (omega (arith, length-pec_cmd s (op_of c.kind) (c.x -ℤ x) (c.y -ℤ y), length-stitches (pec_next s (op_of c.kind)) c.x c.y cs))

-- ---- PES

pub length-shorts : (ns : List ℕ) → length (shorts ns) ≡ 2 * length ns
unfolding shorts joined
length-shorts [] = refl
length-shorts (n ∷ ns) = length-append (little 2 n) _ ∙ omega (arith, length-little 2 n, length-shorts ns)

pub length-matrix : (z : ℤ) → length (matrix_field z) ≡ 4
unfolding matrix_field
length-matrix z = length-little 4 _

pub length-point : (left bottom x y : ℤ) → length (pes_point left bottom x y) ≡ 4
unfolding pes_point
length-point left bottom x y = simp (length-append, length-little)

pub length-open : (s : PesState) (flag points : ℕ) → length (pes_open s flag points) ≤ 8
unfolding pes_open joined
length-open s flag points = by-test (eqb s.sections 0)
    (λ t. rw t (simp (length-append, length-little) (omega arith)))
    (λ t. rw t (simp (length-append, length-little) (omega arith)))

pub length-cmd : (left bottom : ℤ) (s : PesState) (new : Bool) (op : Op) (c : Cmd) (cs : List Cmd) → length (pes_cmd left bottom s new op c cs) ≤ 16
unfolding pes_cmd joined
length-cmd left bottom s true Stitch c cs = simp (length-append, length-point) (omega (arith, length-open s 0 (run_length c.kind cs)))
length-cmd left bottom s false Stitch c cs = simp length-point (omega arith)
length-cmd left bottom s true Jump c cs = simp (length-append, length-point) (omega (arith, length-open s 1 2))
length-cmd left bottom s false Jump c cs = omega arith
length-cmd left bottom s true Trim c cs = omega arith
length-cmd left bottom s false Trim c cs = omega arith
length-cmd left bottom s true ColorChange c cs = omega arith
length-cmd left bottom s false ColorChange c cs = omega arith
length-cmd left bottom s true End c cs = omega arith
length-cmd left bottom s false End c cs = omega arith

pub length-sections : (left bottom : ℤ) (threads : List Color) (s : PesState) (cs : List Cmd) → length (pes_sections left bottom threads s cs) ≤ 16 * length cs
unfolding pes_sections
length-sections left bottom threads s [] = omega arith
length-sections left bottom threads s (c ∷ cs) =
    simp length-append
    (omega (arith, length-cmd left bottom s (opens s c) (op_of c.kind) c (c ∷ cs), length-sections left bottom threads (pes_next threads s (opens s c) (op_of c.kind) c) cs))

pub length-log : (threads : List Color) (last : ℕ) (s : PesState) (cs : List Cmd) → length (color_log threads last s cs) ≤ 2 * length cs
unfolding color_log
length-log threads last s [] = omega arith
length-log threads last s (c ∷ cs) =
    let next : PesState = pes_next threads s (opens s c) (op_of c.kind) c in
    by-test (opens_section (opens s c) (op_of c.kind))
    (λ t. rw t (by-test (eqb last s.code)
    (λ u. rw u (omega (arith, length-log threads last next cs)))
    (λ u. rw u (omega (arith, length-log threads s.code next cs)))))
    (λ t. rw t (omega (arith, length-log threads last next cs)))

-- the blocks, and what stands before the PEC part
pub blocks-length : (cs : List Cmd) (threads : List Color)
    → length (pes_blocks cs threads) ≡ 88 + length (pes_sections (min_x cs) (max_y cs) threads (pes_start threads) cs) + 2 * length (color_log threads 65 (pes_start threads) cs)
unfolding pes_blocks pes_string joined
blocks-length cs threads = simp (length-append, length-little, length-shorts, length-matrix) (omega arith)

pub middle-length : (cs : List Cmd) (threads : List Color) → length (pes_middle cs threads) ≡ 10 + length (pes_blocks cs threads)
unfolding pes_middle
middle-length cs threads = simp (length-append, length-shorts)

pub length-middle : (cs : List Cmd) (threads : List Color) → length (pes_middle cs threads) ≤ 98 + 20 * length cs
length-middle cs threads = omega (
  arith,
  middle-length cs threads,
  blocks-length cs threads,
  length-sections (min_x cs) (max_y cs) threads (pes_start threads) cs,
  length-log threads 65 (pes_start threads) cs,
)

-- ---- whole files

module _ (name : List ℕ) (cs : List Cmd) (ts : List Color) where
  pub part_length : length ts ≤ 255 → length (pec_part name cs ts) ≡ 984 + length (stitches_of cs) + 228 * count changes cs
  part_length few = ap length (part-is name cs ts)
      ∙ simp length-append (omega (arith, length-append (pec_header name ts) (block_front cs), length-part_front name cs ts few, length-icons cs))

  pub pec-length : length (pec_file name cs ts) ≡ 8 + length (pec_part name cs ts)
  unfolding pec_file
  pec-length = omega arith

  pub pes-length : length (pes_file name cs ts) ≡ 12 + length (pes_middle cs ts) + length (pec_part name cs ts)
  unfolding pes_file joined
  pes-length = simp (length-append, length-little) (omega arith)
