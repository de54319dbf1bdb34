-- Two lists, each written and read back by `write_and_read`, in one format or two: what each sews, and what comes back. The theorems on them are
-- in proofs/Two.antt.
use Rattle.std.specs.Prelude.{◌≡◌, List, ℕ, ℤ, Some, Ok, Result}
use Rattle.rules.specs.Files.{file_of}
use Rattle.rules.specs.Lists.{commands}
use Rattle.rules.specs.Promises.{Room, WroteAndRead, round_trip_counts}
use Rattle.rules.specs.Refusals.{extension_of, list_verdict}
use Rattle.rules.specs.Sewing.{Entry, list_sewing, told_sewing, Needle, list_needles, told_needles}
use Rattle.rules.specs.declared.Format.{Format}
use Rattle.rules.specs.declared.Counts.{Counts}
use Rattle.rules.specs.declared.RoundTripRefusal.{RoundTripRefusal}
use Rattle.rules.specs.declared.Refusal.{Refusal}

-- a call of `write_and_read` that answers a, for a list accepted for its format and buffers that hold the file and its answer; `promised`
-- is its contract
pub record Call : Type 0 where
  pub format : Format
  pub ext : List ℕ
  pub name : List ℕ
  pub xs : List ℤ
  pub ys : List ℤ
  pub kinds : List ℕ
  pub threads : List ℕ
  pub d : List ℕ
  pub ps : List ℤ
  pub rs : List ℕ
  pub bs : List ℕ
  pub d' : List ℕ
  pub ps' : List ℤ
  pub rs' : List ℕ
  pub bs' : List ℕ
  pub a : Result (ℕ × Counts) RoundTripRefusal
  pub named : extension_of ext ≡ Some format
  pub accepted : list_verdict format xs ys kinds threads ≡ Ok tt
  pub room : Room format (file_of format name (commands xs ys kinds) threads) d ps rs bs
  pub promised : WroteAndRead (extension_of ext) name xs ys kinds threads d ps rs bs d' ps' rs' bs' a

-- the list's sewing, and the sewing that comes back
abbrev pub sewing : Call → List Entry
sewing t = list_sewing (commands t.xs t.ys t.kinds)

abbrev pub back : Call → List Entry
back t = told_sewing (round_trip_counts t.a) t.ps' t.rs' t.bs'

-- ---- in VP3: needle places

abbrev pub needles : Call → List Needle
needles t = list_needles (commands t.xs t.ys t.kinds)

abbrev pub needles_back : Call → List Needle
needles_back t = told_needles (round_trip_counts t.a) t.ps' t.rs' t.bs'
