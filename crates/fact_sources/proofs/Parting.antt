-- Facts parted by a set: what one of them adds.
use Rattle.std.proofs.Common.{◌≡◌, ℕ, Bool, true, false, if◌then◌else◌, List, [], ◌∷◌, ◌++◌, refl}
use Rattle.std.proofs.Math.Bool.{beq}
use Rattle.ir_tree.specs.declared.operand.Operand.{Operand}
use Rattle.fact_sources.specs.Apart.{firm, resting}
use Rattle.fact_sources.specs.Membership.{is_member}

-- those in the set, or the others
abbrev pub parted : Bool → (ℕ → Bool) → List (ℕ × Operand) → List (ℕ × Operand)
parted inside among fs = if inside then resting among fs else firm among fs

abbrev pub kept : Bool → ℕ × Operand → List (ℕ × Operand)
kept true p = p ∷ []
kept false p = []

pub none_parted : (inside : Bool) (among : ℕ → Bool) → parted inside among [] ≡ []
none_parted true among = refl
none_parted false among = refl

pub one_parted : (inside : Bool) (among : ℕ → Bool) (p : ℕ × Operand) (fs : List (ℕ × Operand)) → parted inside among (p ∷ fs) ≡ kept (beq (is_member among p.1) inside) p ++ parted inside among fs
one_parted inside among p fs = by inside (is_member among p.1)
  where
    by : (t b : Bool) →
        (if t then (if b then p ∷ resting among fs else resting among fs) else (if b then firm among fs else p ∷ firm among fs)) ≡ kept (beq b t) p ++ (if t then resting among fs else firm among fs)
    by true true = refl
    by true false = refl
    by false true = refl
    by false false = refl
