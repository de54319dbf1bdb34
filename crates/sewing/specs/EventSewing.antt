-- A read's three answers tell what its events tell, of the sewing and of the needle places: no place, run or block is lost on the way.
-- Assumes nothing.
use Rattle.std.specs.Prelude.{◌≡◌, Bool, true, false, ℤ, pos, ◌+ℤ◌, drop}
use Rattle.std.proofs.Math.Path.{refl, ap}
use Rattle.std.proofs.Common.{sym, ◌∙◌, ap₂, arith, one-add, add-zero, zero-add, drop-drop}
use mathlib.Core.List.{List, [], ◌∷◌, ◌++◌, append_assoc, append-nil}
use Prim.Native.Nat.{ℕ, zero, suc, ◌+◌, ◌*◌}
use Rattle.std.proofs.Math.IntN.{+ℤ_idr}
use Rattle.rules.specs.Vocabulary.{pick, eq_z}
use Rattle.rules.specs.Lists.{same_place}
use Rattle.rules.specs.Records.{Event, stitch, jump, change}
use Rattle.rules.specs.Answers.{points_after, start_of, places, run_of, runs, block_of, begun_after, blocks}
use Rattle.rules.specs.Sewing.{Entry, entry, Adding, along_run, of_run, of_runs, cells, of_blocks, file_sewing, Needle, needle, file_needles}
use Rattle.laws.specs.Tests.{and-true, pick_true}
use Rattle.laws.specs.Ints.{eq-eqz}

-- what events' stitches add, from block k and place (x, y)
unfoldable pub of_events : {A : Type 0} → Adding A → ℕ → ℤ → ℤ → List Event → List A
of_events add k x y [] = []
of_events add k x y (stitch dx dy ∷ es) = add k x y (x +ℤ dx) (y +ℤ dy) (of_events add k (x +ℤ dx) (y +ℤ dy) es)
of_events add k x y (jump dx dy ∷ es) = of_events add k (x +ℤ dx) (y +ℤ dy) es
of_events add k x y (change dx dy ∷ es) = of_events add (suc k) (x +ℤ dx) (y +ℤ dy) es

-- what they sew
unfoldable pub event_sewing : ℕ → ℤ → ℤ → List Event → List Entry
event_sewing k x y es = of_events entry k x y es

-- its cases, cited where it stays shut
pub sew-stitch : (k : ℕ) (x y dx dy : ℤ) (es : List Event)
    → event_sewing k x y (stitch dx dy ∷ es) ≡ entry k x y (x +ℤ dx) (y +ℤ dy) (event_sewing k (x +ℤ dx) (y +ℤ dy) es)
unfolding event_sewing of_events
sew-stitch k x y dx dy es = refl

pub sew-jump : (k : ℕ) (x y dx dy : ℤ) (es : List Event) → event_sewing k x y (jump dx dy ∷ es) ≡ event_sewing k (x +ℤ dx) (y +ℤ dy) es
unfolding event_sewing of_events
sew-jump k x y dx dy es = refl

pub sew-nil : (k : ℕ) (x y : ℤ) → event_sewing k x y [] ≡ []
unfolding event_sewing of_events
sew-nil k x y = refl

-- events with no step: a stitch leaves no entry, a jump and a change leave the place
pub entry-spot : (k : ℕ) (x y : ℤ) (t : List Entry) → entry k x y x y t ≡ t
unfolding entry same_place
entry-spot k x y t = pick_true t _ (and-true (eq_z x x) (eq_z y y) (eq-eqz x x refl) (eq-eqz y y refl))

pub sew-spot : (k : ℕ) (x y : ℤ) (es : List Event) → event_sewing k x y (stitch (pos 0) (pos 0) ∷ es) ≡ event_sewing k x y es
unfolding event_sewing of_events
sew-spot k x y es = ap₂ (λ (a b : ℤ). entry k x y a b (event_sewing k a b es)) (+ℤ_idr x) (+ℤ_idr y) ∙ entry-spot k x y _

pub sew-jump-spot : (k : ℕ) (x y : ℤ) (es : List Event) → event_sewing k x y (jump (pos 0) (pos 0) ∷ es) ≡ event_sewing k x y es
unfolding event_sewing of_events
sew-jump-spot k x y es = ap₂ (λ (a b : ℤ). event_sewing k a b es) (+ℤ_idr x) (+ℤ_idr y)

pub sew-change-spot : (k : ℕ) (x y : ℤ) (es : List Event) → event_sewing k x y (change (pos 0) (pos 0) ∷ es) ≡ event_sewing (suc k) x y es
unfolding event_sewing of_events
sew-change-spot k x y es = ap₂ (λ (a b : ℤ). event_sewing (suc k) a b es) (+ℤ_idr x) (+ℤ_idr y)

-- ---- the answers, taken apart

-- What is left to tell from inside block k: m of its runs, then the blocks bs.
abbrev Left : {A : Type 0} → Adding A → ℕ → ℕ → List ℤ → List ℕ → List ℕ → List A
Left add k m ps rs bs = of_runs add k m ps rs ++ of_blocks add (drop (cells m rs) ps) (drop m rs) bs

double : (a : ℕ) → 2 * suc a ≡ suc (suc (2 * a))
double a = omega arith

-- `add` puts something before what follows, whatever that is
module _ {A : Type 0} (add : Adding A) (add-++ : (k : ℕ) (x y x' y' : ℤ) (s t : List A) → add k x y x' y' s ++ t ≡ add k x y x' y' (s ++ t)) where
  -- a block's three cells, if it was listed, lead to its runs
  from_block : (colour : ℕ → ℕ) (k m : ℕ) (ps : List ℤ) (rs bs : List ℕ) → of_blocks add ps rs (block_of colour k m ++ bs) ≡ Left add k m ps rs bs
  unfolding of_blocks block_of of_runs cells
  from_block colour k zero ps rs bs = refl
  from_block colour k (suc m) ps rs bs = refl

  -- a run's cell leads to its points
  from-run : (k m n : ℕ) (ps : List ℤ) (rs bs : List ℕ) → Left add k (suc m) ps (n ∷ rs) bs ≡ of_run add k n ps ++ Left add k m (drop (2 * n) ps) rs bs
  unfolding of_runs cells
  from-run k m n ps rs bs =
      rw (sym (drop-drop (cells m rs) (2 * n) ps)) (append_assoc (of_run add k n ps) (of_runs add k m (drop (2 * n) ps) rs) _)

  -- a point's two cells add once, before what is added after it
  from-point : (k : ℕ) (x y x' y' : ℤ) (a : ℕ) (ps : List ℤ) (after : List ℤ → List A)
      → add k x y x' y' (along_run add k x' y' a ps) ++ after (drop (2 * suc a) (x' ∷ y' ∷ ps)) ≡ add k x y x' y' (along_run add k x' y' a ps ++ after (drop (2 * a) ps))
  from-point k x y x' y' a ps after = rw (double a) (add-++ k x y x' y' (along_run add k x' y' a ps) (after (drop (2 * a) ps)))

  -- ---- the answers, put together

  module _ (colour : ℕ → ℕ) where
    -- What the events to come add to the answers of a read that stands at (x, y) in block k, and that this tells what they tell.
    record Adds (k : ℕ) (x y : ℤ) (es : List Event) : Type 0 where
      -- points to the open run, runs to the block while a run is open and while none is; the runs and the blocks that follow
      points : ℕ
      open_runs : ℕ
      shut_runs : ℕ
      next_runs : List ℕ
      next_blocks : List ℕ
      runs_are : (n : ℕ) → runs (suc n) es ≡ suc (n + points) ∷ next_runs
      open_blocks : (m n : ℕ) → blocks colour k m (suc n) es ≡ block_of colour k (m + open_runs) ++ next_blocks
      shut_blocks : (m : ℕ) → blocks colour k m 0 es ≡ block_of colour k (m + shut_runs) ++ next_blocks
      open_tells : (n : ℕ)
          → along_run add k x y points (places x y (suc n) es) ++ Left add k open_runs (drop (2 * points) (places x y (suc n) es)) next_runs next_blocks
          ≡ of_events add k x y es
      shut_tells : Left add k shut_runs (places x y 0 es) (runs 0 es) next_blocks ≡ of_events add k x y es

    -- so a block that begins here tells them
    begun : {k : ℕ} {x y : ℤ} {es : List Event} → Adds k x y es → of_blocks add (places x y 0 es) (runs 0 es) (blocks colour k 0 0 es) ≡ of_events add k x y es
    begun {k} {x} {y} {es} a =
        ap (of_blocks add (places x y 0 es) (runs 0 es)) (a.shut_blocks 0 ∙ ap (λ (m : ℕ). block_of colour k m ++ a.next_blocks) (zero-add a.shut_runs))
        ∙ from_block colour k a.shut_runs (places x y 0 es) (runs 0 es) a.next_blocks
        ∙ a.shut_tells

    -- and a stitch of an open run adds before them
    joined : (k : ℕ) (x y dx dy : ℤ) (es : List Event) (a : Adds k (x +ℤ dx) (y +ℤ dy) es) (n : ℕ)
        → along_run add k x y (suc a.points) (places x y (suc n) (stitch dx dy ∷ es))
        ++ Left add k a.open_runs (drop (2 * suc a.points) (places x y (suc n) (stitch dx dy ∷ es))) a.next_runs a.next_blocks
        ≡ of_events add k x y (stitch dx dy ∷ es)
    unfolding places start_of points_after along_run of_events
    joined k x y dx dy es a n =
        from-point k x y (x +ℤ dx) (y +ℤ dy) a.points _ (λ (q : List ℤ). Left add k a.open_runs q a.next_runs a.next_blocks)
        ∙ ap (add k x y (x +ℤ dx) (y +ℤ dy)) (a.open_tells (suc n))

    adds : (k : ℕ) (x y : ℤ) (es : List Event) → Adds k x y es
    unfolding places start_of points_after runs run_of blocks begun_after of_events of_blocks of_runs of_run along_run cells
    adds k x y [] = record {
      points = 0;
      open_runs = 0;
      shut_runs = 0;
      next_runs = [];
      next_blocks = [];
      runs_are = λ n. rw (add-zero n);
      open_blocks = λ m n. rw (add-zero m, append-nil);
      shut_blocks = λ m. rw (add-zero m, append-nil);
      open_tells = λ n. refl;
      shut_tells = refl;
    }
    adds k x y (stitch dx dy ∷ es) = let a : Adds k (x +ℤ dx) (y +ℤ dy) es = adds k (x +ℤ dx) (y +ℤ dy) es in record {
      points = suc a.points;
      open_runs = a.open_runs;
      shut_runs = suc a.open_runs;
      next_runs = a.next_runs;
      next_blocks = a.next_blocks;
      runs_are = λ n. a.runs_are (suc n) ∙ ap (λ (p : ℕ). suc p ∷ a.next_runs) (omega arith);
      open_blocks = λ m n. a.open_blocks m (suc n);
      shut_blocks = λ m. a.open_blocks (suc m) 1 ∙ ap (λ (p : ℕ). block_of colour k p ++ a.next_blocks) (omega arith);
      open_tells = joined k x y dx dy es a;
      shut_tells =
          ap (λ (rs : List ℕ). Left add k (suc a.open_runs) (places x y 0 (stitch dx dy ∷ es)) rs a.next_blocks) (a.runs_are 1)
          ∙ from-run k a.open_runs (suc (1 + a.points)) (places x y 0 (stitch dx dy ∷ es)) a.next_runs a.next_blocks
          ∙ rw (one-add a.points, double (suc a.points)) (joined k x y dx dy es a 0);
    }
    adds k x y (jump dx dy ∷ es) = let a : Adds k (x +ℤ dx) (y +ℤ dy) es = adds k (x +ℤ dx) (y +ℤ dy) es in record {
      points = 0;
      open_runs = a.shut_runs;
      shut_runs = a.shut_runs;
      next_runs = runs 0 es;
      next_blocks = a.next_blocks;
      runs_are = λ n. rw (add-zero n);
      open_blocks = λ m n. a.shut_blocks m;
      shut_blocks = a.shut_blocks;
      open_tells = λ n. a.shut_tells;
      shut_tells = a.shut_tells;
    }
    adds k x y (change dx dy ∷ es) = let a : Adds (suc k) (x +ℤ dx) (y +ℤ dy) es = adds (suc k) (x +ℤ dx) (y +ℤ dy) es in record {
      points = 0;
      open_runs = 0;
      shut_runs = 0;
      next_runs = runs 0 es;
      next_blocks = blocks colour (suc k) 0 0 es;
      runs_are = λ n. rw (add-zero n);
      open_blocks = λ m n. rw (add-zero m);
      shut_blocks = λ m. rw (add-zero m);
      open_tells = λ n. begun a;
      shut_tells = begun a;
    }

    pub answer-tells : (es : List Event)
        → of_blocks add (places (pos 0) (pos 0) 0 es) (runs 0 es) (blocks colour 0 0 0 es) ≡ of_events add 0 (pos 0) (pos 0) es
    answer-tells es = begun (adds 0 (pos 0) (pos 0) es)

entry-++ : (k : ℕ) (x y x' y' : ℤ) (s t : List Entry) → entry k x y x' y' s ++ t ≡ entry k x y x' y' (s ++ t)
unfolding entry
entry-++ k x y x' y' s t = either (same_place x y x' y') _
  where
    either : (b : Bool) (e : Entry) → pick b s (e ∷ s) ++ t ≡ pick b (s ++ t) (e ∷ (s ++ t))
    either true e = refl
    either false e = refl

needle-++ : (k : ℕ) (x y x' y' : ℤ) (s t : List Needle) → needle k x y x' y' s ++ t ≡ needle k x y x' y' (s ++ t)
unfolding needle
needle-++ k x y x' y' s t = refl

module _ (colour : ℕ → ℕ) (es : List Event) where
  pub answer-sewing : file_sewing (places (pos 0) (pos 0) 0 es) (runs 0 es) (blocks colour 0 0 0 es) ≡ event_sewing 0 (pos 0) (pos 0) es
  unfolding file_sewing event_sewing
  answer-sewing = answer-tells entry entry-++ colour es

  pub answer-needles : file_needles (places (pos 0) (pos 0) 0 es) (runs 0 es) (blocks colour 0 0 0 es) ≡ of_events needle 0 (pos 0) (pos 0) es
  unfolding file_needles
  answer-needles = answer-tells needle needle-++ colour es
