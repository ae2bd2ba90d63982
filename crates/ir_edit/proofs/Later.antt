-- Of two answers the later one.
use Rattle.std.proofs.Common.{◌≡◌, Bool, true, false, cond, Option, Some, None, refl}
use Rattle.ir_edit.specs.Numbered.{later_or}

pub later_or-assoc : {A : Type 0} (a b c : Option A) → later_or (later_or a b) c ≡ later_or a (later_or b c)
later_or-assoc (Some k) b c = refl
later_or-assoc None b c = refl

pub later_or-test : {A : Type 0} (same : Bool) (v : A) (o : Option A) → later_or (cond same (Some v) None) o ≡ cond same (Some v) o
later_or-test true v o = refl
later_or-test false v o = refl
