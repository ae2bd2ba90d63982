-- What is found over the globals of a module.
use Rattle.std.specs.Prelude.{◌≡◌, ℕ, ◌<◌, ◌≤◌, ◌⊎◌, List, slice_get, Option, Some, None}
use Rattle.ir_tree.specs.declared.module.GlobalValue.{GlobalValue}
use Rattle.ir_tree.specs.declared.module.GlobalValue.TheVariants as global
use Rattle.ir_tree.specs.declared.rule.Rule.{Rule}
use Rattle.ir_tree.specs.Wholes.{GlobalSound, GlobalBreaks}
use Rattle.ir_verify.specs.declared.fault.VerifyFault.{VerifyFault}
use Rattle.ir_verify.specs.Orders.{AtMost, IsBefore}

-- where a fault is said to be: in a function by its place, and in no function where it is of a variable
abbrev pub place_of : GlobalValue → ℕ → Option ℕ
place_of (global.Variable v) k = None
place_of (global.Function f) k = Some k

-- what is found after the global k, whose parts stand on these lines
pub record GlobalPast (g : GlobalValue) (lines : List ℕ) (k : ℕ) (old new : Option VerifyFault) : Type 0 where
  -- nothing only where it is sound
  pub sound : new ≡ None → GlobalSound g
  pub covers : (rule : Rule) (line : ℕ) → GlobalBreaks g lines rule line → AtMost new line rule
  pub before : (line : ℕ) (rule : Rule) → AtMost old line rule → AtMost new line rule
  pub origin : (new ≡ old) ⊎ ((e : VerifyFault) × (new ≡ Some e) × (e.function ≡ place_of g k) × GlobalBreaks g lines e.kind e.line × (AtMost old e.line e.kind → ⊥))

-- no global before the place k breaks the rule of this fault on its line
abbrev pub NoneBefore : List GlobalValue → List (List ℕ) → ℕ → VerifyFault → Type 0
NoneBefore gs lines k e = (j : ℕ) (g : GlobalValue) (ls : List ℕ) → j < k → slice_get gs j ≡ Some g → slice_get lines j ≡ Some ls → GlobalBreaks g ls e.kind e.line → ⊥

-- what is found over the first n of these globals, whose parts stand on these lines: nothing only where all are sound, else a rule that
-- one of them breaks, and none breaks a rule before it
pub record IsFirst (gs : List GlobalValue) (lines : List (List ℕ)) (n : ℕ) (new : Option VerifyFault) : Type 0 where
  pub sound : new ≡ None → (k : ℕ) (g : GlobalValue) → k < n → slice_get gs k ≡ Some g → GlobalSound g
  pub covers : (k : ℕ) (g : GlobalValue) (ls : List ℕ) (rule : Rule) (line : ℕ) → k < n → slice_get gs k ≡ Some g → slice_get lines k ≡ Some ls → GlobalBreaks g ls rule line → AtMost new line rule
  pub found : (e : VerifyFault) → new ≡ Some e → (k : ℕ) × (g : GlobalValue) × (ls : List ℕ) × (e.function ≡ place_of g k) × (slice_get gs k ≡ Some g) × (slice_get lines k ≡ Some ls) × GlobalBreaks g ls e.kind e.line × NoneBefore gs lines k e

-- ---- the least fault

-- the global at the place k breaks the rule on this line
pub record BreaksAt (gs : List GlobalValue) (lines : List (List ℕ)) (k : ℕ) (rule : Rule) (line : ℕ) : Type 0 where
  pub global : GlobalValue
  pub on : List ℕ
  pub got : slice_get gs k ≡ Some global
  pub lined : slice_get lines k ≡ Some on
  pub broken : GlobalBreaks global on rule line

-- the fault is of a rule that is broken; none is broken on an earlier line, nor on its line one of a smaller number, nor the same one
-- by an earlier global
pub record IsLeastFault (gs : List GlobalValue) (lines : List (List ℕ)) (e : VerifyFault) : Type 0 where
  pub place : ℕ
  pub broken : BreaksAt gs lines place e.kind e.line
  pub named : e.function ≡ place_of broken.global place
  pub least : (k : ℕ) (rule : Rule) (line : ℕ) → BreaksAt gs lines k rule line → IsBefore e line rule
  pub first : (k : ℕ) → BreaksAt gs lines k e.kind e.line → place ≤ k
