-- A JEF file has its first number. Assumes nothing.
use Rattle.read_header.proofs.Colors.{word-there, word-missing}
use Rattle.read_refusals.proofs.Checked.{jef-short, jef-whole}
use Rattle.read_refusals.proofs.jef_front.Goals as goal

pub returns-in_default : goal.returns-in_default
returns-in_default c = let s = c.args.file.now in
    jef-short s (word-missing 0 s c.i32le.ensures c.in_default.is)

pub returns : goal.returns
returns c = let s = c.args.file.now in
    jef-whole s (word-there 0 s c.i32le.ensures c.in-Some.is c.in-Some.known_told-1-own.given.0.1)
