-- When one program refines another: each of its runs is matched by a run of the other, which shows the same, or
-- which reaches undefined behaviour or an uninitialised byte after a front of it (LangRef, "Poison Values",
-- "Undefined Values"; Lee et al., "Taming Undefined Behavior in LLVM", 2017).
use Rattle.std.specs.Prelude.{◌≡◌, ℕ, ◌<◌, ◌≤◌, List, ◌++◌, map, Option, Some, None, ◌⊎◌}
use Rattle.ir_tree.specs.declared.operand.Symbol.{Symbol}
use Rattle.ir_meaning.specs.Program.{Failure, Program, State, variables}
use Rattle.ir_meaning.specs.Run.{Ending, Failed, Ran, Returned, Running, run, start}
use Rattle.ir_meaning.specs.declared.event.Event.{Event}
use Rattle.ir_meaning.specs.declared.value.Base.{Base}
use Rattle.ir_meaning.specs.declared.value.Base.TheVariants.{Cell, Code, Nowhere}
use Rattle.ir_meaning.specs.declared.value.Value.{Value}
use Rattle.ir_meaning.specs.declared.value.Value.TheVariants.{Number, Pointer, Poison}

-- other names: the program's symbol and variable for each of the better side's, and the numbers of variables on both sides
pub record Naming : Type 0 where
  pub symbol : Symbol → Symbol
  pub variable : ℕ → ℕ
  pub count : ℕ
  pub count' : ℕ

-- all names stay, and there are g variables
abbrev pub own_names : ℕ → Naming
own_names g = record { symbol = λ s. s; variable = λ l. l; count = g; count' = g }

-- both are one variable, or both are stack blocks
abbrev pub SameCell : Naming → ℕ → ℕ → Type 0
SameCell t l r = ((l < t.count) × (t.variable l ≡ r)) ⊎ ((t.count ≤ l) × (t.count' ≤ r))

abbrev pub SameKind : Naming → Base → Base → Type 0
SameKind t Nowhere Nowhere = Unit {0}
SameKind t (Code s) (Code u) = t.symbol s ≡ u
SameKind t (Cell l) (Cell r) = SameCell t l r
SameKind t _ _ = ⊥

-- the first value may be returned for the second
abbrev pub MayStandFor : Naming → Value → Value → Type 0
MayStandFor t w Poison = Unit {0}
MayStandFor t (Number a) (Number b) = a ≡ b
MayStandFor t (Pointer x i) (Pointer y j) = SameKind t x y × (i ≡ j)
MayStandFor t _ _ = ⊥

abbrev pub AnswerMayStandFor : Naming → Option Value → Option Value → Type 0
AnswerMayStandFor t None None = Unit {0}
AnswerMayStandFor t (Some w) (Some v) = MayStandFor t w v
AnswerMayStandFor t _ _ = ⊥

abbrev pub SameEnding : Naming → Ending → Ending → Type 0
SameEnding t Running Running = Unit {0}
SameEnding t (Returned w) (Returned v) = AnswerMayStandFor t w v
SameEnding t _ _ = ⊥

-- by some choices the program ends badly after a front of the trace
pub record EndsBadly (p : Program) (input : List ℕ) (s : State) (trace : List Event) : Type 0 where
  pub choices : List ℕ
  pub failure : Failure
  pub ends : (run p input choices s).ending ≡ Failed failure
  pub later : List Event
  pub front : trace ≡ (run p input choices s).trace ++ later

-- by some choices the program shows the same in at least as many steps
pub record ShowsTheSame (t : Naming) (p : Program) (input : List ℕ) (s : State) (ran : Ran) : Type 0 where
  pub choices : List ℕ
  pub steps : ran.steps ≤ (run p input choices s).steps
  pub trace : (run p input choices s).trace ≡ ran.trace
  pub ending : SameEnding t ran.ending (run p input choices s).ending

-- the run is matched by the program from this state
abbrev pub Matched : Naming → Program → List ℕ → State → Ran → Type 0
Matched t p input s ran = EndsBadly p input s ran.trace ⊎ ShowsTheSame t p input s ran

abbrev pub RefinesFrom : Naming → Program → Program → Option State → Option State → Type 0
RefinesFrom t q p None None = Unit {0}
RefinesFrom t q p (Some l) (Some r) = (input choices : List ℕ) → Matched t p input r (run q input choices l)
RefinesFrom t q p _ _ = ⊥

-- each run of q from a root with integer arguments is matched by p from the root's symbol there
abbrev pub RefinesUnder : Naming → Program → Program → (Symbol → Type 0) → Type 0
RefinesUnder t q p IsRoot = (root : Symbol) → IsRoot root → (arguments : List ℕ) →
    RefinesFrom t q p (start q root (map Number arguments)) (start p (t.symbol root) (map Number arguments))

-- each run of q from a root with integer arguments is matched by p, under the same names
abbrev pub Refines : Program → Program → (Symbol → Type 0) → Type 0
Refines q p IsRoot = RefinesUnder (own_names (variables p)) q p IsRoot
