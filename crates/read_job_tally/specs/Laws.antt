-- What a tally of commands tells: refusals 6 to 9 of the list. Assumes nothing.
use Rattle.std.specs.Prelude.{ℕ, ◌+◌, ◌≤◌, ◌≡◌, refl, Bool, true, false, ◌&&◌, ◌||◌, not, List, [], ◌∷◌, ◌++◌, map, ltb, eqb, length}
use Rattle.std.proofs.Common.{sym, ap, ◌∙◌, zero-add, arith, eq-eqb}
use Rattle.std.proofs.Math.Bool.{or_assoc}
use Rattle.std.proofs.lemmas.List.{length-map}
use Rattle.rules.specs.Vocabulary.{any, count}
use Rattle.rules.specs.Lists.{ends_once, any_from}
use Rattle.rules.specs.Refusals.{bad_list, place_outside, outside, changes, too_many, moves, moved, command_verdict}
use Rattle.rules.specs.Jobs.{unknown_kind}
use Rattle.rules.specs.Promises.{xs_of, ys_of, kinds_of}
use Rattle.rules.specs.declared.Cmd.{Cmd}
use Rattle.laws.specs.Listing.{count-le, columns}
use Rattle.read_job_tally.specs.Tallies.{no_tally, counted, tallied, bad_tally, many_tally, tally_verdict}
use Rattle.read_job_tally.specs.declared.Tally.{Tally}

-- commands behind others
pub tallied-append : (t : Tally) (cs ds : List Cmd) → tallied t (cs ++ ds) ≡ tallied (tallied t cs) ds
unfolding tallied
tallied-append t [] ds = refl
tallied-append t (c ∷ cs) ds = tallied-append (counted t c) cs ds

or-none : (b : Bool) → b ≡ (b || false)
or-none true = refl
or-none false = refl

-- ---- each part of a tally

pub tallied-commands : (t : Tally) (cs : List Cmd) → (tallied t cs).commands ≡ t.commands + length cs
unfolding tallied counted
tallied-commands t [] = omega arith
tallied-commands t (c ∷ cs) = omega (arith, tallied-commands (counted t c) cs)

tallied-changes : (t : Tally) (cs : List Cmd) → (tallied t cs).changes ≡ t.changes + count changes cs
unfolding tallied counted count
tallied-changes t [] = omega arith
tallied-changes t (c ∷ cs) = omega (arith, tallied-changes (counted t c) cs)

-- no more changes than commands
pub tallied-fewer : (t : Tally) (cs : List Cmd) → t.changes ≤ t.commands → (tallied t cs).changes ≤ (tallied t cs).commands
tallied-fewer t cs h = omega (arith, tallied-changes t cs, tallied-commands t cs, count-le changes cs)

pub tallied-unknown : (t : Tally) (cs : List Cmd) → (tallied t cs).unknown ≡ (t.unknown || any unknown_kind cs)
unfolding tallied counted any unknown_kind
tallied-unknown t [] = or-none t.unknown
tallied-unknown t (c ∷ cs) = tallied-unknown (counted t c) cs ∙ or_assoc t.unknown (ltb 4 c.kind) (any unknown_kind cs)

tallied-outside : (t : Tally) (cs : List Cmd) → (tallied t cs).outside ≡ (t.outside || any outside cs)
unfolding tallied counted any
tallied-outside t [] = or-none t.outside
tallied-outside t (c ∷ cs) = tallied-outside (counted t c) cs ∙ or_assoc t.outside (outside c) (any outside cs)

tallied-moved : (t : Tally) (cs : List Cmd) → (tallied t cs).moved ≡ (t.moved || any_from moves t.x t.y cs)
unfolding tallied counted any_from
tallied-moved t [] = or-none t.moved
tallied-moved t (c ∷ cs) = tallied-moved (counted t c) cs ∙ or_assoc t.moved (moves t.x t.y c) (any_from moves c.x c.y cs)

-- an end that is early, repeated or missing
late : (a b e : Bool) → ((a || b) || not e) ≡ (a || not (not b && e))
late true b e = refl
late false true e = refl
late false false e = refl

tallied-ends : (t : Tally) (c : Cmd) (cs : List Cmd)
    → ((tallied t (c ∷ cs)).early || not (tallied t (c ∷ cs)).ended) ≡ ((t.early || t.ended) || not (ends_once (kinds_of (c ∷ cs))))
unfolding tallied counted ends_once
tallied-ends t c [] = refl
tallied-ends t c (d ∷ cs) =
    tallied-ends (counted t c) d cs ∙ late (t.early || t.ended) (eqb c.kind 4) (ends_once (kinds_of (d ∷ cs)))

-- ---- the four conditions

-- a column is as long as another
same-long : {A B : Type 0} (f : Cmd → A) (g : Cmd → B) (cs : List Cmd) → eqb (length (map f cs)) (length (map g cs)) ≡ true
same-long f g cs = eq-eqb _ _ (length-map cs f ∙ sym (length-map cs g))

unknown-kinds : (cs : List Cmd) → any (ltb 4) (kinds_of cs) ≡ any unknown_kind cs
unfolding any unknown_kind
unknown-kinds [] = refl
unknown-kinds (c ∷ cs) = ap (λ (b : Bool). ltb 4 c.kind || b) (unknown-kinds cs)

bad-is : (cs : List Cmd) → bad_tally (tallied no_tally cs) ≡ bad_list (xs_of cs) (ys_of cs) (kinds_of cs)
unfolding bad_tally bad_list tallied
bad-is [] = refl
bad-is (c ∷ cs) =
    rw (
      same-long (λ (d : Cmd). d.x) (λ (d : Cmd). d.kind) (c ∷ cs),
      same-long (λ (d : Cmd). d.y) (λ (d : Cmd). d.kind) (c ∷ cs),
      length-map (c ∷ cs) (λ (d : Cmd). d.kind),
      unknown-kinds (c ∷ cs),
      tallied-commands no_tally (c ∷ cs),
      tallied-unknown no_tally (c ∷ cs),
      tallied-ends no_tally c cs,
      zero-add,
    )

pub tally-verdict : (cs : List Cmd) (threads : List ℕ)
    → tally_verdict (tallied no_tally cs) (length threads) ≡ command_verdict (xs_of cs) (ys_of cs) (kinds_of cs) threads
unfolding tally_verdict command_verdict many_tally too_many place_outside moved
tally-verdict cs threads = rw (columns cs, bad-is cs, tallied-outside no_tally cs, tallied-changes no_tally cs, tallied-moved no_tally cs, zero-add)
