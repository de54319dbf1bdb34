-- Pictures drawn by tables: what the loop draws, and that it is what the definition draws, but for row 0, which is put empty.
use Rattle.std.proofs.Common.{◌≡◌, ℕ, zero, suc, ◌+◌, ◌-◌, ◌*◌, ◌/◌, ◌%◌, ◌^◌, ◌<◌, ◌≤◌, Bool, true, false, ◌&&◌, eqb, ltb, List, [], ◌∷◌, ◌++◌, map, length, get_or, take, drop, set, replicate, ℤ, pos, ◌+ℤ◌, ◌-ℤ◌, nat_abs, sym, refl, ap, ◌∙◌, append-nil, arith, length-set, take-append-drop, get_or-drop, drop-set-lt, pow_mono, ltb-false, ltb-true, le-ltb, lt-ltb, ne_eqb}
use lib.Bits.{bit_or, or_zero_r}
use lib.Ieee.{Float}
use lib.Seq.{set-get_or, take-set-le, drop-set-add}
use Rattle.rules.specs.Charts.{blank_icon}
use Rattle.rules.specs.Lists.{op_of, is_change}
use Rattle.rules.specs.Thumbnails.{pixel, pixel_at, painted, marked, drawn, at_front, color_blocks}
use Rattle.rules.specs.Vocabulary.{pick, joined}
use Rattle.rules.specs.declared.Cmd.{Cmd}
use Rattle.rules.specs.declared.Scale.{Scale}
use Rattle.laws.specs.Lengths.{blank-length, length-blocks}
use Rattle.laws.specs.Listing.{no_cmd}
use Rattle.laws.specs.Tests.{by-test}
use Rattle.thumbnail_tables.specs.Blocks.{block_icons, icons_by, icons_after}
use Rattle.thumbnail_tables.specs.Cells.{column_cell, row_cell, Filled, Inside, AllInside, bit_set, From, Framed}
use Rattle.thumbnail_tables.specs.Looked.{rowless, looked, all_looked, blocks_looked, icons_looked}
use Rattle.thumbnail_tables.proofs.Places.{by_index, index-lt}

-- ---- pictures that agree below row 0

pub record Like (p q : List ℕ) : Type 0 where
  pub long : length p ≡ 228
  pub rest : drop 6 p ≡ drop 6 q
  pub first : take 6 q ≡ replicate 6 0

pub like-blank : Like blank_icon blank_icon
unfolding blank_icon joined
like-blank = record { long = blank-length; rest = refl; first = refl }

pub like-done : (p q : List ℕ) → Like p q → rowless p ≡ q
like-done p q l = ap (λ (a : List ℕ). a ++ drop 6 p) (sym l.first) ∙ ap (λ (b : List ℕ). take 6 q ++ b) l.rest ∙ take-append-drop 6 q

-- ---- the cells of pixel numbers

bit_le : (k : ℕ) → k < 8 → 2 ^ k ≤ 128
bit_le k h = let l : k ≤ 7 = omega arith in pow_mono l

pub inside : (x y : ℕ) → Inside (column_cell x) (row_cell y)
unfolding column_cell row_cell
inside x y = record {
  across = by-test (ltb x 48) (λ t. rw t (omega (arith, ltb-true x 48 t))) (λ t. rw t (omega arith));
  down = by-test (ltb y 38) (λ t. rw t (omega (arith, ltb-true y 38 t))) (λ t. rw t (omega arith));
}

module _ (x : ℕ) (h : x < 48) where
  byte_of : column_cell x % 256 ≡ x / 8
  unfolding column_cell
  byte_of = rw (lt-ltb x 48 h) (omega arith)

  bit-of : column_cell x / 256 ≡ 2 ^ (x % 8)
  unfolding column_cell
  bit-of = rw (lt-ltb x 48 h) (omega arith)

row-of : (y : ℕ) → y < 38 → row_cell y ≡ y * 6
unfolding row_cell
row-of y h = rw (lt-ltb y 38 h)

no_row : (y : ℕ) → ltb y 38 ≡ false → row_cell y ≡ 0
unfolding row_cell
no_row y t = rw t

row_zero : (y : ℕ) → y ≤ 0 → row_cell y ≡ 0
unfolding row_cell
row_zero zero h = refl
row_zero (suc y) h = absurd (omega arith)

and_none : (a : Bool) {b : Bool} → b ≡ false → a && b ≡ false
and_none true e = e
and_none false e = refl

-- ---- a pixel set in both

module _ {p q : List ℕ} (l : Like p q) where
  -- at an index below row 0, to a value that depends on what is there
  like-set : (i b : ℕ) → Like (set p (6 + i) (bit_or (get_or p (6 + i) 0) b)) (set q (6 + i) (bit_or (get_or q (6 + i) 0) b))
  like-set i b = record {
    long = length-set p (6 + i) _ ∙ l.long;
    rest = drop-set-add 6 p i _ ∙ rw (← get_or-drop 6 p i 0, ← get_or-drop 6 q i 0, l.rest) (sym (drop-set-add 6 q i _));
    first = take-set-le 6 q (6 + i) _ (omega arith) ∙ l.first;
  }

  -- in row 0
  like-row : (i v : ℕ) → i < 6 → Like (set p i v) q
  like-row i v h = record { long = length-set p i v ∙ l.long; rest = drop-set-lt 6 p i v h ∙ l.rest; first = l.first }

  like-inner : (x y : ℕ) → x < 48 → 0 < y → y < 38 → Like (bit_set p (column_cell x) (row_cell y)) (pixel q x y)
  unfolding bit_set pixel
  like-inner x y h k b =
      let e : y * 6 + x / 8 ≡ 6 + (y * 6 + x / 8 - 6) = omega arith in
      rw (byte_of x h, bit-of x h, row-of y b, lt-ltb x 48 h, lt-ltb 0 y k, lt-ltb y 38 b, e) (like-set (y * 6 + x / 8 - 6) (2 ^ (x % 8)))

  -- outside the picture nothing is set there, and here at most row 0
  like-beside : (x y : ℕ) → 48 ≤ x → Like (bit_set p (column_cell x) (row_cell y)) (pixel q x y)
  unfolding bit_set pixel column_cell
  like-beside x y h = rw (le-ltb x 48 h, or_zero_r (get_or p (row_cell y + 0) 0), set-get_or p (row_cell y + 0) 0) l

  like-above : (x y : ℕ) → row_cell y ≡ 0 → ltb 0 y && ltb y 38 ≡ false → Like (bit_set p (column_cell x) (row_cell y)) (pixel q x y)
  unfolding bit_set pixel
  like-above x y e t = rw (and_none (ltb x 48) t) (like-row (row_cell y + column_cell x % 256) _ (omega (arith, e, (inside x y).across)))

  pub like-pixel : (x y : ℕ) → Like (bit_set p (column_cell x) (row_cell y)) (pixel q x y)
  like-pixel x y =
      by-test (ltb x 48)
      (λ t. by-test (ltb 0 y)
      (λ s. by-test (ltb y 38) (λ r. like-inner x y (ltb-true x 48 t) (ltb-true 0 y s) (ltb-true y 38 r)) (λ r. like-above x y (no_row y r) (rw (s, r))))
      (λ s. like-above x y (row_zero y (ltb-false 0 y s)) (rw s)))
      (λ t. like-beside x y (ltb-false x 48 t))

-- ---- kinds

mark-kind : (s : Scale) (icon : List ℕ) (k : ℕ) (x y : ℤ) → marked s icon (op_of k) x y ≡ pick (eqb k 0) (painted s icon x y) icon
unfolding marked op_of
mark-kind s icon zero x y = refl
mark-kind s icon (suc zero) x y = refl
mark-kind s icon (suc (suc zero)) x y = refl
mark-kind s icon (suc (suc (suc zero))) x y = refl
mark-kind s icon (suc (suc (suc (suc k)))) x y = rw (ne_eqb (suc (suc (suc (suc k)))) 0 (λ e. absurd (omega arith)))

change-kind : (k : ℕ) → is_change (op_of k) ≡ eqb k 3
unfolding is_change op_of
change-kind zero = refl
change-kind (suc zero) = refl
change-kind (suc (suc zero)) = refl
change-kind (suc (suc (suc zero))) = refl
change-kind (suc (suc (suc (suc k)))) = sym (ne_eqb (suc (suc (suc (suc k)))) 3 (λ e. absurd (omega arith)))

-- ---- what the tables draw is what the definition draws

module _ (columns rows : List ℕ) (left top : ℤ) where
  module _ (s : Scale) (w h : ℕ) (f : Filled false s.scale s.tx left w columns) (g : Filled true s.scale s.ty top h rows) where
    like-looked : (p q : List ℕ) (c : Cmd) → From left w c.x → From top h c.y → Like p q → Like (looked columns rows left top p c) (marked s q (op_of c.kind) c.x c.y)
    unfolding looked painted
    like-looked p q c a b l =
        let e = f (nat_abs (c.x -ℤ left)) (index-lt left c.x w a.start a.end) ∙ ap (λ (z : ℤ). column_cell (pixel_at z s.scale s.tx)) (by_index left c.x a.start) in
        let d = g (nat_abs (c.y -ℤ top)) (index-lt top c.y h b.start b.end) ∙ ap (λ (z : ℤ). row_cell (pixel_at z s.scale s.ty)) (by_index top c.y b.start) in
        rw (mark-kind s q c.kind c.x c.y) (by-test (eqb c.kind 0)
        (λ t. rw (t, e, d) (like-pixel l (pixel_at c.x s.scale s.tx) (pixel_at c.y s.scale s.ty))) (λ t. rw t l))

    pub like-all : (cs : List Cmd) (p q : List ℕ) → ((i : ℕ) → i < length cs → From left w (get_or cs i no_cmd).x × From top h (get_or cs i no_cmd).y) → Like p q → Like
        (all_looked columns rows left top p cs) (drawn s q cs)
    unfolding drawn all_looked
    like-all [] p q a l = l
    like-all (c ∷ cs) p q a l = like-all cs (looked columns rows left top p c) _ (λ i k. a (suc i) (omega arith)) (like-looked p q c (a 0 (omega arith)).0 (a 0 (omega arith)).1 l)

    pub like-blocks : (cs : List Cmd) (p q : List ℕ) → ((i : ℕ) → i < length cs → From left w (get_or cs i no_cmd).x × From top h (get_or cs i no_cmd).y) → Like p q →
        blocks_looked columns rows left top p cs ≡ icons_after s q cs
    unfolding icons_after blocks_looked
    like-blocks [] p q a l = like-done p q l
    like-blocks (c ∷ cs) p q a l =
        let rest : (i : ℕ) → i < length cs → From left w (get_or cs i no_cmd).x × From top h (get_or cs i no_cmd).y = λ i k. a (suc i) (omega arith) in
        rw (change-kind c.kind)
        (by-test (eqb c.kind 3)
        (λ t. rw (t, like-blocks cs blank_icon blank_icon rest like-blank) (ap (λ (v : List ℕ). v ++ icons_after s blank_icon cs) (like-done p q l)))
        (λ t. rw t (like-blocks cs (looked columns rows left top p c) _ rest (like-looked p q c (a 0 (omega arith)).0 (a 0 (omega arith)).1 l))))

-- ---- the blocks of a list one after the other

-- the first block drawn on a picture begun
begun : Scale → List ℕ → List (List Cmd) → List ℕ
begun s icon [] = icon
begun s icon (b ∷ bs) = drawn s icon b ++ joined (map (drawn s blank_icon) bs)

begun-front : (s : Scale) (icon : List ℕ) (c : Cmd) (bs : List (List Cmd)) → begun s icon (at_front c bs) ≡ begun s (marked s icon (op_of c.kind) c.x c.y) bs
unfolding begun at_front drawn joined
begun-front s icon c [] = append-nil _
begun-front s icon c (b ∷ bs) = refl

begun-blank : (s : Scale) (cs : List Cmd) → joined (map (drawn s blank_icon) (color_blocks cs)) ≡ begun s blank_icon (color_blocks cs)
unfolding begun joined
begun-blank s cs = go (color_blocks cs) (omega (arith, length-blocks cs))
  where
    go : (bs : List (List Cmd)) → 0 < length bs → joined (map (drawn s blank_icon) bs) ≡ begun s blank_icon bs
    go [] h = absurd (omega arith)
    go (b ∷ bs) h = refl

begun_all : (s : Scale) (cs : List Cmd) (icon : List ℕ) → begun s icon (color_blocks cs) ≡ icons_after s icon cs
unfolding icons_after color_blocks begun drawn joined
begun_all s [] icon = append-nil icon
begun_all s (c ∷ cs) icon =
    by-test (is_change (op_of c.kind))
    (λ t. rw t (ap (λ (v : List ℕ). icon ++ v) (begun-blank s cs ∙ begun_all s cs blank_icon)))
    (λ t. rw t (begun-front s icon c (color_blocks cs) ∙ begun_all s cs _))

pub blocks-after : (s : Scale) (cs : List Cmd) → block_icons s cs ≡ icons_after s blank_icon cs
unfolding block_icons
blocks-after s cs = begun-blank s cs ∙ begun_all s cs blank_icon

-- ---- the tables of both scales

pub all-inside : (scale t scale' t' : Float) (left top : ℤ) (w h : ℕ) (columns rows : List ℕ) → w ≤ length columns → h ≤ length rows
    → Filled false scale t left w columns → Filled true scale' t' top h rows → AllInside w h columns rows
all-inside scale t scale' t' left top w h columns rows p q f g x y a b =
    ((omega arith, omega arith), rw (f x a, g y b) (inside (pixel_at (left +ℤ pos x) scale t) (pixel_at (top +ℤ pos y) scale' t')))

module _ (columns rows bcolumns brows : List ℕ) (left top : ℤ) (w h : ℕ) (cs : List Cmd) (k : Framed left w top h cs) where
  module _ (part : Scale) (f : Filled false part.scale part.tx left w bcolumns) (g : Filled true part.scale part.ty top h brows) where
    pub blocks-told : blocks_looked bcolumns brows left top blank_icon cs ≡ block_icons part cs
    blocks-told = like-blocks bcolumns brows left top part w h f g cs blank_icon blank_icon k like-blank ∙ sym (blocks-after part cs)

    pub pictures-told : (whole : Scale) → Filled false whole.scale whole.tx left w columns → Filled true whole.scale whole.ty top h rows
        → icons_looked columns rows bcolumns brows left top cs ≡ icons_by whole part cs
    pictures-told whole d e =
        ap (λ (v : List ℕ). v ++ blocks_looked bcolumns brows left top blank_icon cs) (like-done _ _ (like-all columns rows left top whole w h d e cs blank_icon blank_icon k like-blank))
        ∙ ap (λ (v : List ℕ). drawn whole blank_icon cs ++ v) blocks-told
