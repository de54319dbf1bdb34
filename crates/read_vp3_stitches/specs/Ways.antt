-- Stitches followed place by place.
use Rattle.std.specs.Prelude.{ℕ, ◌+◌, ◌-◌, ◌≤◌, ◌<◌, ◌≡◌, ◌||◌, List, ℤ, ◌+ℤ◌, length, drop, Some, None, Option}
use Rattle.rules.specs.Vocabulary.{pick}
use Rattle.rules.specs.Records.{Event}
use Rattle.rules.specs.Vp3.{beyond, strays, stitch_events}
use Rattle.read_count.specs.Tallies.{tallied}
use Rattle.read_count.specs.declared.tally.Tally.{Tally}
use Rattle.read_vp3_stitches.specs.Tallies.{tally_all, Spare}
use Rattle.read_vp3_stitches.specs.declared.follow.Way.{Way}

-- all of them, from (x, y) on
abbrev pub followed : Tally → ℤ → ℤ → List Event → Option Tally
followed t x y es = pick (strays x y es) None (Some (tally_all t es))

abbrev pub stitch_way : Way → ℤ → ℤ → ℕ → Option Way
stitch_way w dx dy n =
    pick (beyond (w.x +ℤ dx) || beyond (w.y +ℤ dy)) None
    (Some (record { t = tallied 1 w.t; x = w.x +ℤ dx; y = w.y +ℤ dy; at = w.at + n }))

-- what the steps from a place on come to
abbrev pub on_way : List ℕ → Way → Option Tally
on_way s w = followed w.t w.x w.y (stitch_events (drop w.at s))

-- some steps from w on are followed, one at least
abbrev pub Follows : List ℕ → Way → Option Way → Type 0
Follows s w (Some v) = (on_way s w ≡ on_way s v) × ((w.at < v.at) × ((v.at ≤ length s) × Spare v.t (length s - v.at)))
Follows s w None = on_way s w ≡ None
