-- The formats: the layout of each, and all of them in a row.
use Rattle.std.specs.Prelude.{List, [], ◌∷◌}
use Rattle.rules.specs.Layout.{Layout}
use Rattle.rules.specs.Dst.{dst_layout}
use Rattle.rules.specs.Pec.{pec_layout}
use Rattle.rules.specs.Pes.{pes_layout}
use Rattle.rules.specs.Exp.{exp_layout}
use Rattle.rules.specs.Jef.{jef_layout}
use Rattle.rules.specs.Vp3.{vp3_layout}
use Rattle.rules.specs.declared.Format.{Format}
use Rattle.rules.specs.declared.Format.TheVariants.{Pes, Pec, Dst, Exp, Jef, Vp3}

abbrev pub layout_of : Format → Layout
layout_of Pes = pes_layout
layout_of Pec = pec_layout
layout_of Dst = dst_layout
layout_of Exp = exp_layout
layout_of Jef = jef_layout
layout_of Vp3 = vp3_layout

abbrev pub formats : List Format
formats = Pes ∷ Pec ∷ Dst ∷ Exp ∷ Jef ∷ Vp3 ∷ []
