-- The header and the block from their parts, and the rooms that the parts have. Assumes nothing.
use Prim.Native.Nat.{ℕ, ◌+◌, ◌-◌, ◌≤◌}
use mathlib.Core.Path.{◌≡◌, sym, ap, ◌∙◌}
use mathlib.Core.List.{List, [], ◌∷◌, ◌++◌, append-nil}
use native.Mathlib.Omega.{arith}
use lib.ListN.{length, replicate, length-append}
use Rattle.rules.specs.Vocabulary.{joined}
use Rattle.rules.specs.Lists.{width, height}
use Rattle.rules.specs.Pec.{unique_palette, pec_colors, pec_header, pec_block, pec_part}
use Rattle.rules.specs.Thumbnails.{icons}
use Rattle.rules.specs.declared.Cmd.{Cmd}
use Rattle.rules.specs.declared.Color.{Color}
use Rattle.laws.specs.Buffers.{Put}
use Rattle.laws.specs.Lengths.{joined-append, length-name, length-unique, length-colors, length-header, stitches_of, length-icons, part_length}
use Rattle.laws.specs.Little.{length-little}
use Rattle.pec_part.specs.Parts.{label_parts, label_text, sizes_parts, sizes_text}

pub length_label : (name : List ℕ) → length (label_text name) ≡ 36
unfolding joined
length_label name = simp (length-append, length-name)

length-sizes : (n w h : ℕ) → length (sizes_text n w h) ≡ 16
unfolding joined
length-sizes n w h = simp (length-append, length-little)

pub length-entries : (ts : List Color) → length (pec_colors (unique_palette ts)) ≡ 13 + length ts
length-entries ts = omega (arith, length-colors (unique_palette ts), length-unique ts)

pub header-as : (name : List ℕ) (ts : List Color) {n : ℕ} → n ≡ length ts
    → label_text name ++ (pec_colors (unique_palette ts) ++ replicate (463 - n) 0x20) ≡ pec_header name ts
unfolding pec_header joined
header-as name ts e =
    let es = pec_colors (unique_palette ts) in
    let fill : List ℕ = replicate (463 - length ts) 0x20 in
    rw e (ap (λ (t : List ℕ). label_text name ++ (es ++ t)) (sym (append-nil fill)) ∙ sym (joined-append (label_parts name) (es ∷ fill ∷ [])))

module _ (name : List ℕ) (cs : List Cmd) (ts : List Color) where
  pub part-as : {n w h : ℕ} → n ≡ length (stitches_of cs) → w ≡ width cs → h ≡ height cs
      → pec_header name ts ++ (sizes_text n w h ++ (stitches_of cs ++ icons cs)) ≡ pec_part name cs ts
  unfolding pec_part pec_block joined
  part-as a b c =
      let n : ℕ = length (stitches_of cs) in
      rw (a, b, c)
      (ap (λ (t : List ℕ). pec_header name ts ++ (sizes_text n (width cs) (height cs) ++ (stitches_of cs ++ t))) (sym (append-nil (icons cs)))
      ∙ ap (λ (t : List ℕ). pec_header name ts ++ t) (sym (joined-append (sizes_parts n (width cs) (height cs)) (stitches_of cs ∷ icons cs ∷ []))))

  -- in a buffer that has room for the part
  module _ (d : List ℕ) (at : ℕ) (few : length ts ≤ 255) (room : at + length (pec_part name cs ts) ≤ length d) where
    pub room-header : at + 512 ≤ length d
    room-header = omega (arith, part_length name cs ts few)

    module _ {d₁ : List ℕ} {k : ℕ} (p : Put d d₁ at k (pec_header name ts)) where
      pub room-sizes : k + 16 ≤ length d₁
      room-sizes = omega (arith, part_length name cs ts few, length-header name ts few, p.same)

      module _ (n w h : ℕ) {d₂ : List ℕ} {l : ℕ} (q : Put d₁ d₂ k l (sizes_text n w h)) where
        pub room-stitches : l + length (stitches_of cs) ≤ length d₂
        room-stitches = omega (arith, part_length name cs ts few, length-header name ts few, length-sizes n w h, p.same, q.same)

        pub room-icons : {d₃ : List ℕ} {m : ℕ} → Put d₂ d₃ l m (stitches_of cs) → m + length (icons cs) ≤ length d₃
        room-icons r = omega (arith, part_length name cs ts few, length-header name ts few, length-sizes n w h, length-icons cs, p.same, q.same, r.same)
