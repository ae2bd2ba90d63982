-- Uses of a local replaced by an operand that may stand for it.
use Rattle.std.specs.Prelude.{◌≡◌, ℕ, Bool, true, false, not, ◌||◌, ◌==◌, if◌then◌else◌, List, [], ◌∷◌, Option, Some, None, ◌⊎◌}
use Rattle.ir_tree.specs.declared.block.Block.{Block}
use Rattle.ir_tree.specs.declared.block.Case.{Case}
use Rattle.ir_tree.specs.declared.block.Terminator.{Terminator}
use Rattle.ir_tree.specs.declared.block.Terminator.TheVariants.{Branch, Jump, Return, Switch, Unreachable}
use Rattle.ir_tree.specs.declared.function.Function.{Function}
use Rattle.ir_tree.specs.declared.instr.Incoming.{Incoming}
use Rattle.ir_tree.specs.declared.instr.Instr.{Instr}
use Rattle.ir_tree.specs.declared.instr.Instr.TheVariants.{Freeze, Icmp}
use Rattle.ir_tree.specs.declared.instr.Line.{Line}
use Rattle.ir_tree.specs.declared.instr.Phi.{Phi}
use Rattle.ir_tree.specs.declared.operand.Argument.{Argument}
use Rattle.ir_tree.specs.declared.operand.Operand.{Operand}
use Rattle.ir_tree.specs.declared.operand.Operand.TheVariants.{Local}
use Rattle.ir_tree.specs.declared.operand.Symbol.{Symbol}
use Rattle.ir_tree.specs.Edited.{with_operands}
use Rattle.ir_meaning.specs.Act.{find_block}
use Rattle.ir_meaning.specs.Execute.{Asked, Broke, Effect, Went, evaluate, execute}
use Rattle.ir_meaning.specs.Frame.{AVariable, Locals, Signature, value_of}
use Rattle.ir_meaning.specs.Memory.{Lives, Memory}
use Rattle.ir_meaning.specs.declared.value.Value.{Value}
use Rattle.ir_meaning.specs.declared.value.Value.TheVariants.{Poison}
use Rattle.ir_meaning.specs.Needed.{EndReads, IsKept, UsesKept}

-- the facts "x to v" that hold at a point
abbrev pub Facts : Type 0
Facts = List (ℕ × Operand)

abbrev pub is_local : ℕ → Operand → Bool
is_local y (Local x) = x == y
is_local y _ = false

-- the facts that a new value of y leaves
abbrev pub without : ℕ → Facts → Facts
without y [] = []
without y ((x, v) ∷ fs) = if (x == y) || is_local y v then without y fs else (x, v) ∷ without y fs

-- with the fact of y itself
abbrev pub with_fact : ℕ → Option Operand → Facts → Facts
with_fact y None fs = fs
with_fact y (Some v) fs = (y, v) ∷ fs

abbrev pub behind_local : (ℕ → Option Operand) → Option ℕ → Facts → Facts
behind_local candidate None fs = fs
behind_local candidate (Some y) fs = with_fact y (candidate y) (without y fs)

abbrev pub behind_lines : (ℕ → Option Operand) → List Line → Facts → Facts
behind_lines candidate [] fs = fs
behind_lines candidate (l ∷ ls) fs = behind_lines candidate ls (behind_local candidate l.local fs)

-- an operand, by the facts
abbrev pub replaced_local : Facts → ℕ → Operand
replaced_local [] x = Local x
replaced_local ((y, v) ∷ fs) x = if y == x then v else replaced_local fs x

abbrev pub replaced : Facts → Operand → Operand
replaced fs (Local x) = replaced_local fs x
replaced fs o = o

abbrev pub lines_replaced : (ℕ → Option Operand) → Facts → List Line → List Line
lines_replaced candidate fs [] = []
lines_replaced candidate fs (l ∷ ls) =
    record { local = l.local; instr = with_operands (replaced fs) l.instr } ∷ lines_replaced candidate
    (behind_local candidate l.local fs) ls

abbrev pub argument_replaced : Facts → Option Argument → Option Argument
argument_replaced fs None = None
argument_replaced fs (Some a) = Some (record { reg = a.reg; operand = replaced fs a.operand })

abbrev pub end_replaced : Facts → Terminator → Terminator
end_replaced fs (Return argument) = Return (argument_replaced fs argument)
end_replaced fs (Jump target) = Jump target
end_replaced fs (Branch c t f) = Branch (replaced fs c) t f
end_replaced fs (Switch w o default cases) = Switch w (replaced fs o) default cases
end_replaced fs Unreachable = Unreachable

-- a phi's entry, by the facts at the end of its predecessor
abbrev pub edges_replaced : (ℕ → Facts) → List Incoming → List Incoming
edges_replaced ends [] = []
edges_replaced ends (e ∷ es) = record { from = e.from; value = replaced (ends e.from) e.value } ∷ edges_replaced ends es

abbrev pub phis_replaced : (ℕ → Facts) → List Phi → List Phi
phis_replaced ends [] = []
phis_replaced ends (p ∷ ps) = record { local = p.local; reg = p.reg; incoming = edges_replaced ends p.incoming } ∷ phis_replaced ends ps

abbrev pub block_replaced : (ℕ → Option Operand) → (ℕ → Facts) → (ℕ → Facts) → Block → Block
block_replaced candidate starts ends b =
    record {
      number = b.number;
      phis = phis_replaced ends b.phis;
      lines = lines_replaced candidate (starts b.number) b.lines;
      end = end_replaced (ends b.number) b.end;
    }

abbrev pub blocks_replaced : (ℕ → Option Operand) → (ℕ → Facts) → (ℕ → Facts) → List Block → List Block
blocks_replaced candidate starts ends [] = []
blocks_replaced candidate starts ends (b ∷ bs) = block_replaced candidate starts ends b ∷ blocks_replaced candidate starts ends bs

abbrev pub function_replaced : (ℕ → Option Operand) → (ℕ → Facts) → (ℕ → Facts) → Function → Function
function_replaced candidate starts ends f = record f { blocks = blocks_replaced candidate starts ends f.blocks }

-- ---- when the facts hold

-- the first value may stand for the second
abbrev pub Stands : Value → Value → Type 0
Stands u w = (w ≡ Poison) ⊎ (u ≡ w)

-- what is done gives a value for which v may stand, or breaks
abbrev pub GivesFor : Memory → ℕ → Value → Effect → Type 0
GivesFor m place v (Broke why) = Unit {0}
GivesFor m place v (Went (Some r) None m' place' es) = Stands v r × (m' ≡ m) × (place' ≡ place) × (es ≡ [])
GivesFor m place v (Went _ _ m' place' es) = ⊥
GivesFor m place v (Asked s vs) = ⊥

-- the program's variables live
abbrev pub VariablesLive : Signature → Memory → Type 0
VariablesLive sig m = (s : Symbol) (number : ℕ) → sig.kind s ≡ AVariable number → Lives m number

-- where the program's variables live, the operand may stand for what the instruction gives, whatever the free choice
abbrev pub RuleAlways : Instr → Operand → Type 0
RuleAlways i v = (sig : Signature) (input : List ℕ) (m : Memory) (place choice : ℕ) (ls : Locals) → VariablesLive sig m →
    GivesFor m place (value_of sig ls v) (execute sig input m place choice (evaluate (value_of sig ls) i))

-- or for some free choice
abbrev pub RuleSometimes : Instr → Operand → Type 0
RuleSometimes i v = (sig : Signature) (input : List ℕ) (m : Memory) (place : ℕ) (ls : Locals) → VariablesLive sig m →
    (choice : ℕ) × GivesFor m place (value_of sig ls v) (execute sig input m place choice (evaluate (value_of sig ls) i))

abbrev pub is_free : Instr → Bool
is_free (Freeze w o) = true
is_free (Icmp p reg l r) = true
is_free _ = false

-- the candidate of a line: of a loose local under some free choice alone
abbrev pub RuleFor : Bool → Instr → Option Operand → Type 0
RuleFor true i None = ⊥
RuleFor true i (Some v) = (is_free i ≡ true) × RuleSometimes i v
RuleFor false i None = Unit {0}
RuleFor false i (Some v) = RuleAlways i v

abbrev pub IsOther : ℕ → Option Operand → Type 0
IsOther y None = Unit {0}
IsOther y (Some v) = is_local y v ≡ false

abbrev pub LineRule : (ℕ → Option Operand) → (ℕ → Bool) → Option ℕ → Instr → Type 0
LineRule candidate loose None i = Unit {0}
LineRule candidate loose (Some y) i = RuleFor (loose y) i (candidate y) × IsOther y (candidate y)

-- each line's candidate is right, and what is read after replacing is not loose
abbrev pub LinesRight : (ℕ → Option Operand) → (ℕ → Bool) → Facts → List Line → Type 0
LinesRight candidate loose fs [] = Unit {0}
LinesRight candidate loose fs (l ∷ ls) =
    LineRule candidate loose l.local l.instr × UsesKept (λ x. not (loose x)) (with_operands (replaced fs) l.instr) ×
    LinesRight candidate loose (behind_local candidate l.local fs) ls

abbrev pub Has : Facts → ℕ → Operand → Type 0
Has [] x v = ⊥
Has ((y, u) ∷ fs) x v = ((y ≡ x) × (u ≡ v)) ⊎ Has fs x v

-- the phis give no value to the local
abbrev pub is_phi : ℕ → List Phi → Bool
is_phi x [] = false
is_phi x (p ∷ ps) = (p.local == x) || is_phi x ps

abbrev pub is_phi_operand : Operand → List Phi → Bool
is_phi_operand (Local x) ps = is_phi x ps
is_phi_operand _ ps = false

-- the operand that the phis give to x on the edge from a block
abbrev pub edge_operand : ℕ → List Incoming → Option Operand
edge_operand from [] = None
edge_operand from (e ∷ es) = if e.from == from then Some e.value else edge_operand from es

abbrev pub phi_operand : ℕ → ℕ → List Phi → Option Operand
phi_operand x from [] = None
phi_operand x from (p ∷ ps) = if p.local == x then edge_operand from p.incoming else phi_operand x from ps

-- an entry is v, or is x itself with the fact at the predecessor's end
abbrev pub EntryIs : Facts → ℕ → Operand → Option Operand → Type 0
EntryIs fs x v None = Unit {0}
EntryIs fs x v (Some e) = (e ≡ v) ⊎ ((e ≡ Local x) × Has fs x v)

-- facts at the start of a block, by those at the end of a predecessor
abbrev pub EdgeFacts : Facts → ℕ → List Phi → Facts → Type 0
EdgeFacts end from ps [] = Unit {0}
EdgeFacts end from ps ((x, v) ∷ fs) =
    (is_phi_operand v ps ≡ false) × (((is_phi x ps ≡ false) × Has end x v) ⊎
    ((is_phi x ps ≡ true) × EntryIs end x v (phi_operand x from ps))) × EdgeFacts end from ps fs

abbrev pub InCases : List Case → ℕ → Type 0
InCases [] n = ⊥
InCases (c ∷ cs) n = (c.target ≡ n) ⊎ InCases cs n

abbrev pub IsTarget : Terminator → ℕ → Type 0
IsTarget (Return a) n = ⊥
IsTarget (Jump t) n = t ≡ n
IsTarget (Branch c t f) n = (t ≡ n) ⊎ (f ≡ n)
IsTarget (Switch w o default cases) n = (default ≡ n) ⊎ InCases cases n
IsTarget Unreachable n = ⊥

abbrev pub EdgesRead : (ℕ → Bool) → (ℕ → Facts) → List Incoming → Type 0
EdgesRead keeps ends [] = Unit {0}
EdgesRead keeps ends (e ∷ es) = IsKept keeps (replaced (ends e.from) e.value) × EdgesRead keeps ends es

abbrev pub PhisRead : (ℕ → Bool) → (ℕ → Facts) → List Phi → Type 0
PhisRead keeps ends [] = Unit {0}
PhisRead keeps ends (p ∷ ps) = EdgesRead keeps ends p.incoming × PhisRead keeps ends ps

-- a block where the facts are right
pub record BlockRight (f : Function) (candidate : ℕ → Option Operand) (loose : ℕ → Bool) (starts ends : ℕ → Facts) (b : Block) :
    Type 0 where
  pub phis : PhisRead (λ x. not (loose x)) ends b.phis
  pub lines : LinesRight candidate loose (starts b.number) b.lines
  pub ends_are : ends b.number ≡ behind_lines candidate b.lines (starts b.number)
  pub end : EndReads (λ x. not (loose x)) (end_replaced (ends b.number) b.end)
  pub targets : (n : ℕ) (x : Block) → IsTarget b.end n → find_block f.blocks n ≡ Some x →
      EdgeFacts (ends b.number) b.number x.phis (starts x.number)

abbrev pub BlocksRight : Function → (ℕ → Option Operand) → (ℕ → Bool) → (ℕ → Facts) → (ℕ → Facts) → List Block → Type 0
BlocksRight f candidate loose starts ends [] = Unit {0}
BlocksRight f candidate loose starts ends (b ∷ bs) = BlockRight f candidate loose starts ends b ×
    BlocksRight f candidate loose starts ends bs

-- there is an entry, and no facts at it
abbrev pub EntryBare : (ℕ → Facts) → List Block → Type 0
EntryBare starts [] = ⊥
EntryBare starts (b ∷ bs) = starts b.number ≡ []

pub record FactsRight (f : Function) (candidate : ℕ → Option Operand) (loose : ℕ → Bool) (starts ends : ℕ → Facts) : Type 0 where
  pub blocks : BlocksRight f candidate loose starts ends f.blocks
  pub entry : EntryBare starts f.blocks
