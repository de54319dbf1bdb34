-- In an arm of two formats, what holds of both holds of the format. Assumes nothing.
use Rattle.std.specs.Prelude.{ℕ, ◌≡◌, refl, [], ◌∷◌, get_or}
use Rattle.std.proofs.Common.{sym, ap, ◌∙◌, subst, inl, inr}
use types.Run.{OneOf}
use denote.Enum.Declared.{tag_of}
use Rattle.rules.specs.contracts.Format.{the_type}
use Rattle.rules.specs.declared.Format.{Format}
use Rattle.rules.specs.declared.Format.TheVariants.{Pes, Pec, Dst, Exp, Jef, Vp3}

-- the format of each number
abbrev numbered : ℕ → Format
numbered n = get_or (Pes ∷ Pec ∷ Dst ∷ Exp ∷ Jef ∷ Vp3 ∷ []) n Pes

back : (f : Format) → numbered (tag_of the_type f) ≡ f
back Pes = refl
back Pec = refl
back Dst = refl
back Exp = refl
back Jef = refl
back Vp3 = refl

module _ (P : Format → Type 0) where
  either : (k l : ℕ) → P (numbered k) → P (numbered l) → (f : Format) → OneOf (k ∷ l ∷ []) (tag_of the_type f) → P f
  either k l p q f (inl e) = subst P (ap numbered (sym e) ∙ back f) p
  either k l p q f (inr e) = subst P (ap numbered (sym e) ∙ back f) q

  pub pes-pec : P Pes → P Pec → (f : Format) → OneOf (0 ∷ 1 ∷ []) (tag_of the_type f) → P f
  pes-pec = either 0 1

  pub exp-jef : P Exp → P Jef → (f : Format) → OneOf (3 ∷ 4 ∷ []) (tag_of the_type f) → P f
  exp-jef = either 3 4
