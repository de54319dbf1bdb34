-- EXP, and JEF from its offset: pairs x, -y; 0x80 opens a control.
-- A port of src/formats/more.rs and src/formats/read.rs of zigzag, changed.
use Rattle.std.specs.Prelude.{ℕ, ◌*◌, Bool, true, false, List, [], ◌∷◌, ℤ, pos, neg_ℤ, eqb}
use Rattle.rules.specs.Vocabulary.{pick, signed, bits_of}
use Rattle.rules.specs.Lists.{written}
use Rattle.rules.specs.Records.{events}
use Rattle.rules.specs.Layout.{Layout, nothing}
use Rattle.rules.specs.Answers.{cuts}
use Rattle.rules.specs.declared.Cmd.{Cmd}
use Rattle.rules.specs.declared.Op.{Op}
use Rattle.rules.specs.declared.Op.TheVariants.{Stitch, Jump, Trim, ColorChange, End}
use Rattle.rules.specs.declared.Record.{Record}
use Rattle.rules.specs.declared.Record.TheVariants.{StitchBy, JumpBy, ChangeBy, Finish}

-- what control 02 does: a stitch in EXP, a jump in JEF
unfoldable pub two : Bool → ℤ → ℤ → Record
two true dx dy = JumpBy dx dy 4
two false dx dy = StitchBy dx dy 4

-- A control with its step: 80 ends the run and moves nothing, 01 changes colour and then moves, 04 jumps; any other ends the reading.
unfoldable pub control : Bool → ℕ → ℤ → ℤ → Record
control jef c dx dy =
    pick (eqb c 0x80) (JumpBy (pos 0) (pos 0) 4)
    (pick (eqb c 0x01) (ChangeBy dx dy 4)
    (pick (eqb c 0x02) (two jef dx dy)
    (pick (eqb c 0x04) (JumpBy dx dy 4) Finish)))

-- what follows 0x80; 10 is the end
unfoldable pub after80 : Bool → List ℕ → Record
after80 jef [] = Finish
after80 jef (c ∷ []) = Finish
after80 jef (c ∷ a ∷ []) = Finish
after80 jef (c ∷ a ∷ b ∷ rest) = pick (eqb c 0x10) Finish (control jef c (signed 7 a) (neg_ℤ (signed 7 b)))

unfoldable pub pair_first : Bool → List ℕ → Record
pair_first jef [] = Finish
pair_first jef (a ∷ []) = Finish
pair_first jef (a ∷ b ∷ rest) = pick (eqb a 0x80) (after80 jef (b ∷ rest)) (StitchBy (signed 7 a) (neg_ℤ (signed 7 b)) 2)

-- a step's two bytes
unfoldable pub pair_of : ℤ → ℤ → List ℕ
pair_of dx dy = bits_of 7 dx ∷ bits_of 7 (neg_ℤ dy) ∷ []

-- Written after 0x80: a jump is 04, a colour change 01 00 00, a trim 80 07 00; the end no bytes at all.
unfoldable pub exp_cmd : Op → ℤ → ℤ → List ℕ
exp_cmd Stitch dx dy = pair_of dx dy
exp_cmd Jump dx dy = 0x80 ∷ 0x04 ∷ pair_of dx dy
exp_cmd Trim dx dy = 0x80 ∷ 0x80 ∷ 0x07 ∷ 0x00 ∷ []
exp_cmd ColorChange dx dy = 0x80 ∷ 0x01 ∷ 0x00 ∷ 0x00 ∷ []
exp_cmd End dx dy = []

unfoldable pub exp_file : List Cmd → List ℕ
exp_file cs = written exp_cmd (pos 0) (pos 0) cs

-- ---- the format

abbrev pub exp_layout : Layout
exp_layout = record {
  extension = 0x65 ∷ 0x78 ∷ 0x70 ∷ [];
  file = λ name cs threads. exp_file cs;
  bound = λ n t. 4 * n;
  distance = λ threads. 0;
  least = neg_ℤ (pos 127);
  greatest = pos 127;
  refusals = λ s. [];
  events = events (pair_first false);
  cuts = λ rs bs es. cuts rs bs;
  label = λ s. [];
  stored = λ s k. nothing;
}
