-- The order of faults: by their lines, and on one line by their rules' numbers.
use Rattle.std.specs.Prelude.{◌≡◌, ℕ, ◌<◌, ◌≤◌, ◌⊎◌, List, slice_get, Option, Some, None}
use Rattle.ir_tree.specs.declared.function.Function.{Function}
use Rattle.ir_tree.specs.declared.rule.Rule.{Rule}
use Rattle.ir_tree.specs.Items.{Item, items}
use Rattle.ir_tree.specs.Rules.{Keeps, Sound, Breaks}
use Rattle.ir_verify.specs.declared.fault.VerifyFault.{VerifyFault}
use Rattle.ir_verify.specs.Faults.{number}

-- a fault comes before this line and rule, or is there
abbrev pub IsBefore : VerifyFault → ℕ → Rule → Type 0
IsBefore e line rule = (e.line < line) ⊎ ((e.line ≡ line) × (number e.kind ≤ number rule))

-- so does what was found
abbrev pub AtMost : Option VerifyFault → ℕ → Rule → Type 0
AtMost None line rule = ⊥
AtMost (Some e) line rule = IsBefore e line rule

abbrev pub fault : Option ℕ → ℕ → Rule → VerifyFault
fault function line kind = record { function = function; line = line; kind = kind }

-- what is found after an item whose first broken rule, if it breaks one, is this
pub record IsNoted (old : Option VerifyFault) (function : Option ℕ) (line : ℕ) (broken : Option Rule) (new : Option VerifyFault) : Type 0 where
  pub here : (rule : Rule) → broken ≡ Some rule → AtMost new line rule
  pub before : (l : ℕ) (rule : Rule) → AtMost old l rule → AtMost new l rule
  -- of two faults on one line with one rule the earlier stays
  pub origin : (new ≡ old) ⊎ ((rule : Rule) × (broken ≡ Some rule) × (new ≡ Some (fault function line rule)) × (AtMost old line rule → ⊥))

-- what is found over the items from i up to j of the function g, which stand on these lines
pub record Went (f : Function) (lines : List ℕ) (g : ℕ) (i : ℕ) (old : Option VerifyFault) (j : ℕ) (new : Option VerifyFault) : Type 0 where
  pub covers : (k : ℕ) (item : Item) (line : ℕ) (rule : Rule) → i ≤ k → k < j → slice_get (items f) k ≡ Some item → slice_get lines k ≡ Some line → (Keeps f rule item → ⊥) → AtMost new line rule
  pub kept : new ≡ None → (k : ℕ) (item : Item) (rule : Rule) → i ≤ k → k < j → slice_get (items f) k ≡ Some item → Keeps f rule item
  pub before : (line : ℕ) (rule : Rule) → AtMost old line rule → AtMost new line rule
  pub origin : (new ≡ old) ⊎ ((e : VerifyFault) × (new ≡ Some e) × (e.function ≡ Some g) × Breaks f lines e.kind e.line × (AtMost old e.line e.kind → ⊥))

-- what is found after the function g, whose items stand on these lines
pub record IsPast (f : Function) (lines : List ℕ) (g : ℕ) (old new : Option VerifyFault) : Type 0 where
  -- nothing only where all is sound
  pub sound : new ≡ None → Sound f
  pub covers : (rule : Rule) (line : ℕ) → Breaks f lines rule line → AtMost new line rule
  pub before : (line : ℕ) (rule : Rule) → AtMost old line rule → AtMost new line rule
  pub origin : (new ≡ old) ⊎ ((e : VerifyFault) × (new ≡ Some e) × (e.function ≡ Some g) × Breaks f lines e.kind e.line × (AtMost old e.line e.kind → ⊥))
