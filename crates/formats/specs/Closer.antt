-- One turn of the choice of an entry.
use Rattle.std.specs.Prelude.{ℕ, Bool, true, leb, ltb, eqb, Some, None, Option}
use Rattle.rules.specs.Vocabulary.{pick}
use Rattle.rules.specs.Choices.{distance}
use Rattle.rules.specs.declared.Color.{Color}

-- a thread at distance d takes the lead: of equal distances the later or the first
abbrev pub takes_over : Bool → Option (ℕ × ℕ) → ℕ → Bool
takes_over later (Some (k, e)) d = pick later (leb d e) (ltb d e)
takes_over later None d = true

-- what leads after entry i
abbrev pub closer_of : Bool → Color → Option (ℕ × ℕ) → Option Color → ℕ → Option (ℕ × ℕ)
closer_of later c best None i = best
closer_of later c best (Some t) i = pick (takes_over later best (distance c t)) (Some (i, distance c t)) best

-- the same test by the least distance so far
abbrev pub leads_by : Bool → ℕ → ℕ → Bool
leads_by later least d = pick later (leb d least) (ltb d least)

-- what leads, by its entry and its distance
abbrev pub seen : ℕ → ℕ → Option (ℕ × ℕ)
seen at least = pick (eqb least 4294967296) None (Some (at, least))
