-- No fact rests on one of no locals.
use Rattle.std.proofs.Common.{◌≡◌, ℕ, Bool, false, if◌then◌else◌, List, [], ◌∷◌, refl, ◌∙◌, ap}
use Rattle.ir_tree.specs.declared.operand.Operand.{Operand}
use Rattle.ir_tree.specs.declared.operand.Operand.TheVariants.{Local, Null, Number as Constant, Poison as PoisonOf, Symbol as Named}
use Rattle.fact_sources.specs.Apart.{resting}
use Rattle.fact_sources.specs.Membership.{is_member}

module _ (among : ℕ → Bool) (none : (x : ℕ) → among x ≡ false) where
  no_member : (v : Operand) → is_member among v ≡ false
  no_member (Local x) = none x
  no_member (Constant w n) = refl
  no_member Null = refl
  no_member (PoisonOf reg) = refl
  no_member (Named t i) = refl

  pub none_rest : (fs : List (ℕ × Operand)) → resting among fs ≡ []
  none_rest [] = refl
  none_rest ((x, v) ∷ fs) = ap (λ (b : Bool). if b then (x, v) ∷ resting among fs else resting among fs) (no_member v) ∙ none_rest fs
