-- A list whose commands are near the edges, its sizes, and what is written of it.
use Rattle.std.specs.Prelude.{ℕ, ◌*◌, ◌<◌, ◌≡◌, Bool, List, ℤ, length, drop, get_or}
use Rattle.rules.specs.Lists.{commands, threads_of}
use Rattle.rules.specs.Pes.{pes_start, pes_cmd, pes_sections, section_count, color_log, shorts}
use Rattle.rules.specs.declared.Cmd.{Cmd}
use Rattle.rules.specs.declared.Color.{Color}
use Rattle.rules.specs.declared.Op.{Op}
use Rattle.laws.specs.Listing.{cmd_at, no_cmd}
use Rattle.pes_section_cmd.specs.declared.State.{State}
use Rattle.pes_section_cmd.specs.States.{Near, state_of}
use Rattle.pes_sections.specs.declared.Sizes.{Sizes}

-- every command of a list is near
abbrev pub placed : ℤ → ℤ → List Cmd → Type 0
placed left bottom cs = (i : ℕ) → i < length cs → Near left bottom (get_or cs i no_cmd).x (get_or cs i no_cmd).y

-- the sizes of the sections and the log of a list
pub record measures (threads : List Color) (cs : List Cmd) (z : Sizes) : Type 0 where
  pub long : (left bottom : ℤ) → z.bytes ≡ length (pes_sections left bottom threads (pes_start threads) cs)
  pub count : z.sections ≡ section_count threads (pes_start threads) cs
  pub log : 2 * z.logged ≡ length (color_log threads 65 (pes_start threads) cs)

-- what the command at i writes as op, all sections, and their log
abbrev pub cmd_text : ℤ → ℤ → State → Bool → Op → List ℤ → List ℤ → List ℕ → ℕ → List ℕ
cmd_text left bottom s new op xs ys kinds i = pes_cmd left bottom (state_of s) new op (cmd_at xs ys kinds i) (drop i (commands xs ys kinds))

abbrev pub sections_text : ℤ → ℤ → List ℕ → List ℤ → List ℤ → List ℕ → List ℕ
sections_text left bottom threads xs ys kinds = pes_sections left bottom (threads_of threads) (pes_start (threads_of threads)) (commands xs ys kinds)

abbrev pub log_text : List ℕ → List ℤ → List ℤ → List ℕ → List ℕ
log_text threads xs ys kinds = shorts (color_log (threads_of threads) 65 (pes_start (threads_of threads)) (commands xs ys kinds))
