-- The parts of the header, their lengths and their order. Assumes nothing.
use Prim.Native.Nat.{ℕ, ◌+◌, ◌*◌}
use mathlib.Core.Path.{◌≡◌, refl, ap}
use mathlib.Core.List.{List, ◌++◌, append-nil, append_assoc}
use native.Mathlib.Omega.{arith}
use lib.ListN.{length, replicate, length-append}
use Rattle.rules.specs.Vocabulary.{joined}
use Rattle.rules.specs.Lists.{width, height}
use Rattle.rules.specs.Jef.{point_count_of, jef_hoop, jef_table, edges, words, jef_header}
use Rattle.rules.specs.declared.Cmd.{Cmd}
use Rattle.rules.specs.declared.Color.{Color}
use Rattle.laws.specs.Buffers.{Put}
use Rattle.laws.specs.Little.{length-little}
use Rattle.jef.specs.Header.{start_text, sizes_text}
use Rattle.jef.proofs.Words.{length-words, length-same}
use Rattle.jef.proofs.Hoops.{length-edges}

pub length-start : (n points hoop : ℕ) → length (start_text n points hoop) ≡ 36
unfolding joined
length-start n points hoop = simp (length-append, length-little)

pub length-sizes : (w h : ℕ) → length (sizes_text w h) ≡ 80
unfolding joined
length-sizes w h = simp (length-append, length-words, length-edges)

-- the place after each part, as omega reads it of a put
module _ (d d' : List ℕ) (at r : ℕ) where
  pub start-ends : (n points hoop : ℕ) → Put d d' at r (start_text n points hoop) → r ≡ at + 36
  start-ends n points hoop p = omega (arith, length-start n points hoop)

  pub sizes-ends : (w h : ℕ) → Put d d' at r (sizes_text w h) → r ≡ at + 80
  sizes-ends w h p = omega (arith, length-sizes w h)

  pub edges-ends : (ex ey w h : ℕ) → Put d d' at r (edges ex ey w h) → r ≡ at + 16
  edges-ends ex ey w h p = omega (arith, length-edges ex ey w h)

  pub words-ends : (ns : List ℕ) → Put d d' at r (words ns) → r ≡ at + 4 * length ns
  words-ends ns p = omega (arith, length-words ns)

-- the header of what the code has found: n entries, the points, the hoop and the sizes
module _ (cs : List Cmd) (ts : List Color) where
  pub header-as : {n points hoop w h : ℕ} → n ≡ length (jef_table ts) → points ≡ point_count_of cs → hoop ≡ jef_hoop w h → w ≡ width cs → h ≡ height cs
      → start_text n points hoop ++ (sizes_text w h ++ (words (jef_table ts) ++ words (replicate n 0x0D))) ≡ jef_header cs ts
  unfolding jef_header joined
  header-as a b c d e = rw (a, b, c, d, e) (simp (append_assoc, append-nil))

  pub length-header : length (jef_header cs ts) ≡ 116 + 8 * length (jef_table ts)
  length-header =
      let es : List ℕ = jef_table ts in
      let w : ℕ = width cs in
      let h : ℕ = height cs in
      let twos : List ℕ = words (replicate (length es) 0x0D) in
      let start : List ℕ = start_text (length es) (point_count_of cs) (jef_hoop w h) in
      omega (
        arith,
        ap length (header-as refl refl refl refl refl),
        length-append start (sizes_text w h ++ (words es ++ twos)),
        length-append (sizes_text w h) (words es ++ twos),
        length-append (words es) twos,
        length-start (length es) (point_count_of cs) (jef_hoop w h),
        length-sizes w h,
        length-words es,
        length-same (length es) 0x0D,
      )
