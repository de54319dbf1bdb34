-- Both digits.
use Rattle.rules.specs.Vp3.{hex_text}
use Rattle.vp3.proofs.heads.put_hex.Goals as goal

pub returns : goal.returns
unfolding hex_text
returns c =
    rw (c.hex_char.ensures, c.hex_char-2.ensures) at c.put2.ensures
