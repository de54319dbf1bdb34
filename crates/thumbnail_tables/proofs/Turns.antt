-- A turn of the loop that draws by tables, and the picture of the whole put before those of the blocks.
use Rattle.std.proofs.Common.{◌≡◌, ℕ, suc, ◌+◌, ◌<◌, ◌≤◌, false, eqb, List, [], ◌∷◌, ◌++◌, length, get_or, drop, set, ℤ, pos, ◌-ℤ◌, nat_abs, sym, refl, ap, ◌∙◌, append-nil, arith, length-append, length-drop, length-set}
use lib.Seq.{sets, set_comm}
use Rattle.rules.specs.Charts.{blank_icon}
use Rattle.rules.specs.Lists.{commands}
use Rattle.laws.specs.Buffers.{Put, Writing, sets-append, put_as, writing_start, writing-room, writing_more, writing-done}
use Rattle.laws.specs.Lengths.{blank-length}
use Rattle.rules.specs.declared.Cmd.{Cmd}
use Rattle.laws.specs.Listing.{cmd_at, commands-more, list-end}
use Rattle.thumbnail_tables.specs.Cells.{bit_set}
use Rattle.thumbnail_tables.specs.Looked.{rowless, looked, all_looked, blocks_looked}

-- ---- two stores that lie apart

module _ {A : Type 0} where
  set-sets : (d : List A) (i j : ℕ) (u : A) (vs : List A) → i < j → set (sets d j vs) i u ≡ sets (set d i u) j vs
  set-sets d i j u [] h = refl
  set-sets d i j u (v ∷ vs) h = set-sets (set d j v) i (suc j) u vs (omega arith) ∙ ap (λ (e : List A). sets e (suc j) vs) (set_comm d j i v u (λ e. absurd (omega arith)))

  sets-sets : (d : List A) (i j : ℕ) (us vs : List A) → i + length us ≤ j → sets (sets d j vs) i us ≡ sets (sets d i us) j vs
  sets-sets d i j [] vs h = refl
  sets-sets d i j (u ∷ us) vs h = ap (λ (e : List A). sets e (suc i) us) (set-sets d i j u vs (omega arith)) ∙ sets-sets (set d i u) (suc i) j us vs (omega arith)

  -- what is put before what has been put
  pub put-before : {d d₁ d₂ us vs : List A} {at m k r : ℕ} → m ≡ at + length us → Put d d₁ m r vs → Put d₁ d₂ at k us → Put d d₂ at r (us ++ vs)
  put-before {d} {us = us} {vs = vs} {at = at} e p q = record {
    ends = omega (arith, length-append us vs, p.ends);
    same = q.same ∙ p.same;
    stored = q.stored ∙ rw (p.stored, e) (sets-sets d at (at + length us) us vs (omega arith) ∙ sym (sets-append d at us vs));
  }

-- ---- the loop

rowless-long : (icon : List ℕ) → length icon ≡ 228 → length (rowless icon) ≡ 228
rowless-long icon e = omega (arith, length-drop 6 icon)

bit-long : (icon : List ℕ) (column row : ℕ) {icon' : List ℕ} → icon' ≡ bit_set icon column row → length icon ≡ 228 → length icon' ≡ 228
unfolding bit_set
bit-long icon column row e l = ap length e ∙ length-set icon _ _ ∙ l

-- a command: a stitch sets a bit of a picture, any other leaves it
module _ (columns rows : List ℕ) (left top : ℤ) (icon : List ℕ) (c : Cmd) where
  looked-stitch : {a b : ℕ} {u v : ℤ} {icon' : List ℕ} → c.kind ≡ 0 → u ≡ c.x → v ≡ c.y → a ≡ nat_abs (u -ℤ left) → b ≡ nat_abs (v -ℤ top)
      → icon' ≡ bit_set icon (get_or columns a 0) (get_or rows b 0) → looked columns rows left top icon c ≡ icon'
  unfolding looked
  looked-stitch e ux uy ea eb t = rw (e, t, ea, eb, ux, uy)

  looked-other : eqb c.kind 0 ≡ false → looked columns rows left top icon c ≡ icon
  unfolding looked
  looked-other e = rw e

  module _ {icon' : List ℕ} (e : looked columns rows left top icon c ≡ icon') (cs : List Cmd) where
    all_more : all_looked columns rows left top icon (c ∷ cs) ≡ all_looked columns rows left top icon' cs
    unfolding all_looked
    all_more = ap (λ (v : List ℕ). all_looked columns rows left top v cs) e

    blocks_more : eqb c.kind 3 ≡ false → blocks_looked columns rows left top icon (c ∷ cs) ≡ blocks_looked columns rows left top icon' cs
    unfolding blocks_looked
    blocks_more f = rw f (ap (λ (v : List ℕ). blocks_looked columns rows left top v cs) e)

-- what is drawn is as far as the place i; what comes is what the commands left draw
pub record Drawing (columns rows bcolumns brows : List ℕ) (left top : ℤ) (xs ys : List ℤ) (ks out₀ : List ℕ) (base n : ℕ) (out icon block : List ℕ) (to i : ℕ) : Type 0 where
  pub count : n ≡ length (commands xs ys ks)
  pub icon_long : length icon ≡ 228
  pub block_long : length block ≡ 228
  pub whole : all_looked columns rows left top icon (drop i (commands xs ys ks)) ≡ all_looked columns rows left top blank_icon (commands xs ys ks)
  pub blocks : Writing out₀ base (blocks_looked bcolumns brows left top blank_icon (commands xs ys ks)) out to (blocks_looked bcolumns brows left top block (drop i (commands xs ys ks)))

module _ {columns rows bcolumns brows : List ℕ} {left top : ℤ} {xs ys : List ℤ} {ks out₀ : List ℕ} {base n : ℕ} where
  pub drawing-start : {icon block : List ℕ} → n ≡ length (commands xs ys ks) → icon ≡ blank_icon → block ≡ blank_icon
      → base + length (blocks_looked bcolumns brows left top blank_icon (commands xs ys ks)) ≤ length out₀ → Drawing columns rows bcolumns brows left top xs ys ks out₀ base n out₀ icon block base 0
  drawing-start c e f h = rw (e, f) record {
    count = c;
    icon_long = blank-length;
    block_long = blank-length;
    whole = refl;
    blocks = writing_start out₀ base (blocks_looked bcolumns brows left top blank_icon (commands xs ys ks)) h;
  }

  module _ {out icon block : List ℕ} {to i : ℕ} (d : Drawing columns rows bcolumns brows left top xs ys ks out₀ base n out icon block to i) where
    module _ (h : i < n) where
      next : drop i (commands xs ys ks) ≡ cmd_at xs ys ks i ∷ drop (i + 1) (commands xs ys ks)
      next = commands-more xs ys ks i (omega arith)

      -- the picture of the whole after a command
      on : {icon' : List ℕ} → looked columns rows left top icon (cmd_at xs ys ks i) ≡ icon'
          → all_looked columns rows left top icon' (drop (i + 1) (commands xs ys ks)) ≡ all_looked columns rows left top blank_icon (commands xs ys ks)
      on e = sym (rw next (all_more columns rows left top icon (cmd_at xs ys ks i) e _)) ∙ d.whole

      -- a command that is no colour change
      more : {icon' block' : List ℕ} → looked columns rows left top icon (cmd_at xs ys ks i) ≡ icon' → looked bcolumns brows left top block (cmd_at xs ys ks i) ≡ block'
          → eqb (get_or ks i 0) 3 ≡ false → length icon' ≡ 228 → length block' ≡ 228 → Drawing columns rows bcolumns brows left top xs ys ks out₀ base n out icon' block' to (i + 1)
      more e f k l m = record {
        count = d.count;
        icon_long = l;
        block_long = m;
        whole = on e;
        blocks = rw (next, blocks_more bcolumns brows left top block (cmd_at xs ys ks i) f _ k) at d.blocks;
      }

      pub stitched : {a b : ℕ} {u v : ℤ} {icon' block' : List ℕ} → get_or ks i 0 ≡ 0 → u ≡ get_or xs i (pos 0) → v ≡ get_or ys i (pos 0) → a ≡ nat_abs (u -ℤ left) → b ≡ nat_abs (v -ℤ top)
          → icon' ≡ bit_set icon (get_or columns a 0) (get_or rows b 0) → block' ≡ bit_set block (get_or bcolumns a 0) (get_or brows b 0)
          → Drawing columns rows bcolumns brows left top xs ys ks out₀ base n out icon' block' to (i + 1)
      stitched e ux uy ea eb s t =
          let c = cmd_at xs ys ks i in
          more (looked-stitch columns rows left top icon c e ux uy ea eb s) (looked-stitch bcolumns brows left top block c e ux uy ea eb t) (ap (λ (k : ℕ). eqb k 3) e)
          (bit-long icon _ _ s d.icon_long) (bit-long block _ _ t d.block_long)

      pub passed : eqb (get_or ks i 0) 0 ≡ false → eqb (get_or ks i 0) 3 ≡ false → Drawing columns rows bcolumns brows left top xs ys ks out₀ base n out icon block to (i + 1)
      passed e k =
          let c = cmd_at xs ys ks i in
          more (looked-other columns rows left top icon c e) (looked-other bcolumns brows left top block c e) k d.icon_long d.block_long

      -- a colour change
      module _ (e : get_or ks i 0 ≡ 3) where
        change : blocks_looked bcolumns brows left top block (drop i (commands xs ys ks)) ≡ rowless block ++ blocks_looked bcolumns brows left top blank_icon (drop (i + 1) (commands xs ys ks))
        unfolding blocks_looked
        change = rw (next, e)

        pub change-room : to + 228 ≤ length out
        change-room = omega (arith, rowless-long block d.block_long, writing-room (rowless block) _ d.blocks change)

        pub changed : {out' block' : List ℕ} {m : ℕ} → Put out out' to m (rowless block) → block' ≡ blank_icon
            → Drawing columns rows bcolumns brows left top xs ys ks out₀ base n out' icon block' m (i + 1)
        changed p f = rw f record {
          count = d.count;
          icon_long = d.icon_long;
          block_long = blank-length;
          whole = on (looked-other columns rows left top icon (cmd_at xs ys ks i) (ap (λ (k : ℕ). eqb k 0) e));
          blocks = writing_more d.blocks change p;
        }

    -- the end: the picture of the last block, then that of the whole before all
    module _ (h : n ≤ i) where
      none : drop i (commands xs ys ks) ≡ []
      none = list-end (commands xs ys ks) i (omega arith)

      last : blocks_looked bcolumns brows left top block (drop i (commands xs ys ks)) ≡ rowless block ++ []
      unfolding blocks_looked
      last = rw none (sym (append-nil (rowless block)))

      all : icon ≡ all_looked columns rows left top blank_icon (commands xs ys ks)
      unfolding all_looked
      all = rw none at d.whole

      pub last-room : to + 228 ≤ length out
      last-room = omega (arith, rowless-long block d.block_long, writing-room (rowless block) _ d.blocks last)

      pub drawn-all : {d₁ d₂ : List ℕ} {r at k : ℕ} → base ≡ at + 228 → Put out d₁ to r (rowless block) → Put d₁ d₂ at k (rowless icon)
          → Put out₀ d₂ at r (rowless (all_looked columns rows left top blank_icon (commands xs ys ks)) ++ blocks_looked bcolumns brows left top blank_icon (commands xs ys ks))
      drawn-all e p q =
          let put = put-before (omega (arith, rowless-long icon d.icon_long)) (writing-done (writing_more d.blocks last p) refl) q in
          put_as put (ap (λ (v : List ℕ). rowless v ++ blocks_looked bcolumns brows left top blank_icon (commands xs ys ks)) all)
