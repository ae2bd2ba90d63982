-- The laws: when a program, or a function in a program, is better.
use Rattle.std.specs.Prelude.{◌≡◌, ℕ, ◌+◌, ◌*◌, ◌≤◌, Bool, IsTrue, Option}
use Rattle.ir_tree.specs.declared.function.Function.{Function}
use Rattle.ir_tree.specs.declared.operand.Operand.{Operand}
use Rattle.ir_tree.specs.declared.operand.Symbol.{Symbol}
use Rattle.ir_meaning.specs.Near.{BetterThan, IsBetter}
use Rattle.ir_meaning.specs.Program.{Program, variables}
use Rattle.ir_meaning.specs.Refine.{Refines}
use Rattle.ir_meaning.specs.Facts.{Facts, FactsRight, function_replaced}
use Rattle.ir_meaning.specs.Formed.{IsFormed, OpensInside}
use Rattle.ir_meaning.specs.Inline.{CanInline, Site, inlined}
use Rattle.ir_meaning.specs.Needed.{BlocksClosed, needed}
use Rattle.ir_meaning.specs.Promote.{Plan, PlanRight, promoted}
use Rattle.ir_meaning.specs.Reshape.{IsShape, Layout, laid}

-- a program whose functions are each better than the program's own, with the program's own callees, refines it
abbrev pub Congruence : Type 0
Congruence = (q p : Program) (bound : ℕ) → OpensInside p → IsBetter q p bound → (IsRoot : Symbol → Bool) →
    Refines q p (λ s. IsTrue (IsRoot s))

-- each function of p better than q's own, f better than g in p, and g better than h in q: f is better than h in q
abbrev pub Composition : Type 0
Composition = (p q : Program) (b1 b2 : ℕ) (f g h : Function) → IsBetter p q b2 → BetterThan p b1 f g → BetterThan q b2 g h →
    BetterThan q (b1 * b2) f h

-- each function is better than itself
abbrev pub Reflexivity : Type 0
Reflexivity = (p : Program) → IsFormed p → (f : Function) → BetterThan p 1 f f

-- a function without what nobody needs is better
abbrev pub NeededBetter : Type 0
NeededBetter = (p : Program) → IsFormed p → (keeps : ℕ → Bool) (k : ℕ) (f : Function) → BlocksClosed keeps k f.blocks →
    BetterThan p (k + 1) (needed keeps f) f

-- a function with a call replaced by the body of the program's own callee is better
abbrev pub InlinedBetter : Type 0
InlinedBetter = (p : Program) → IsFormed p → (f : Function) (t : Site) → CanInline p f t → BetterThan p 1 (inlined t f) f

-- refining composes, over programs with as many variables
abbrev pub Transitivity : Type 0
Transitivity = (a b c : Program) (IsRoot : Symbol → Bool) → variables b ≡ variables c → Refines a b (λ s. IsTrue (IsRoot s)) →
    Refines b c (λ s. IsTrue (IsRoot s)) → Refines a c (λ s. IsTrue (IsRoot s))

-- a function with uses replaced by right facts is better
abbrev pub ReplacedBetter : Type 0
ReplacedBetter = (p : Program) → IsFormed p →
    (f : Function) (candidate : ℕ → Option Operand) (loose : ℕ → Bool) (starts ends : ℕ → Facts) →
    FactsRight f candidate loose starts ends → BetterThan p 1 (function_replaced candidate starts ends f) f

-- a function with stack slots promoted to values is better
abbrev pub PromotedBetter : Type 0
PromotedBetter = (p : Program) → IsFormed p → (f : Function) (t : Plan) → PlanRight t f → BetterThan p (t.longest + 1) (promoted t f) f

-- a function with the same instructions in other blocks is better
abbrev pub ReshapedBetter : Type 0
ReshapedBetter = (p : Program) → IsFormed p → (t : Layout) (most : ℕ) (first second : Function) →
    IsShape (laid t) most first second → BetterThan p (most + 1) first second

-- a larger bound serves as well
abbrev pub LargerBounds : Type 0
LargerBounds = (p : Program) (b1 b2 : ℕ) → b1 ≤ b2 → (f g : Function) → BetterThan p b1 f g → BetterThan p b2 f g

-- passes in a row, in one program
abbrev pub InARow : Type 0
InARow = (p : Program) → IsFormed p → (b1 b2 : ℕ) → 1 ≤ b2 → (f g h : Function) → BetterThan p b1 f g → BetterThan p b2 g h →
    BetterThan p (b1 * b2) f h
