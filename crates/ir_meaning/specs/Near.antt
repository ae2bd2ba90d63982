-- When a function is better than another in a program: each step of the first is answered by the program with the
-- second, a call of one callee by that same call, and behind it both go on with whatever is agreed and kept
-- (a simulation with an open world of callees, as in compositional compiler correctness).
use Rattle.std.specs.Prelude.{◌≡◌, ℕ, zero, suc, ◌<◌, ◌≤◌, List, [], ◌++◌, Option, Some, None, ◌⊎◌}
use Rattle.ir_tree.specs.declared.function.Function.{Function}
use Rattle.ir_tree.specs.declared.operand.Symbol.{Symbol}
use Rattle.ir_meaning.specs.Act.{Act, Breaks, Calls, Gives, Goes, act, enter, resume}
use Rattle.ir_meaning.specs.Frame.{Frame}
use Rattle.ir_meaning.specs.Memory.{Memory}
use Rattle.ir_meaning.specs.Program.{Broken, Done, Failure, Leads, Next, On, Program, State, variables}
use Rattle.ir_meaning.specs.Relate.{ArgumentsAgree, Fixes, Kept, Point, Related, ValuesAgree}
use Rattle.ir_meaning.specs.declared.event.Event.{Event}
use Rattle.ir_meaning.specs.declared.value.Value.{Value}

-- a program, the input that it reads, and the most steps that an answer takes
pub record Setting : Type 0 where
  pub program : Program
  pub input : List ℕ
  pub bound : ℕ

-- within k steps the program ends badly, and shows until then a front of the events
pub record FailsWithin (p : Program) (input : List ℕ) (k : ℕ) (right : State) (events : List Event) : Type 0 where
  pub steps : ℕ
  pub few : steps ≤ k
  pub seen : List Event
  pub later : List Event
  pub front : events ≡ seen ++ later
  pub failure : Failure
  pub leads : Leads p input steps right seen (Broken failure)

abbrev pub Fails : Setting → State → List Event → Type 0
Fails z right events = FailsWithin z.program z.input z.bound right events

-- one to the most steps lead there
pub record Answers (z : Setting) (right : State) (events : List Event) (next : Next) : Type 0 where
  pub steps : ℕ
  pub some : 1 ≤ steps
  pub few : steps ≤ z.bound
  pub leads : Leads z.program z.input steps right events next

-- the frame of the better function and its memory against a state of the program, from this entry on
abbrev pub Against : Type 1
Against = Frame → Memory → State → Type 0

-- both go on with agreed answers and kept memories
abbrev pub GoesOn : ℕ → Against → Point → Frame → Frame → List Frame → Type 0
GoesOn g near q waiting waiting' below =
    (q' : Point) (v v' : Option Value) (place : ℕ) → Kept g q q' → ValuesAgree q' v v' →
    near (resume waiting v) q'.left (record { top = resume waiting' v'; below = below; memory = q'.right; place = place })

-- the program makes the same call
pub record CallsToo (z : Setting) (near : Against) (memory : Memory) (right : State) (callee : Symbol) (arguments : List Value)
    (waiting : Frame) : Type 0 where
  pub steps : ℕ
  pub few : steps < z.bound
  pub state : State
  pub leads : Leads z.program z.input steps right [] (On state)
  pub place : state.place ≡ right.place
  pub choice : ℕ
  pub arguments' : List Value
  pub waiting' : Frame
  pub calls : act z.program.signature z.input state.top state.memory state.place choice ≡ Calls callee arguments' waiting'
  pub point : Point
  pub left : point.left ≡ memory
  pub right_is : point.right ≡ state.memory
  pub related : Related point
  pub fixes : Fixes (variables z.program) point
  pub agree : ArgumentsAgree point arguments arguments'
  pub goes_on : GoesOn (variables z.program) near point waiting waiting' state.below

-- the program goes on too
pub record GoesToo (z : Setting) (near : Against) (frame : Frame) (memory : Memory) (place : ℕ) (events : List Event)
    (right : State) : Type 0 where
  pub state : State
  pub answers : Answers z right events (On state)
  pub place_is : state.place ≡ place
  pub near_still : near frame memory state

-- the program returns too, an agreed answer and kept memories
pub record GivesToo (z : Setting) (entry : Point) (answer : Option Value) (memory : Memory) (right : State) : Type 0 where
  pub answer' : Option Value
  pub point : Point
  pub answers : Answers z right [] (Done answer' point.right right.place)
  pub left : point.left ≡ memory
  pub kept : Kept (variables z.program) entry point
  pub agree : ValuesAgree point answer answer'

-- what the better function does is answered
abbrev pub IsAnswered : Setting → Against → Point → Memory → State → Act → Type 0
IsAnswered z near entry memory right (Goes frame memory' place events) =
    Fails z right events ⊎ GoesToo z near frame memory' place events right
IsAnswered z near entry memory right (Calls callee arguments waiting) =
    Fails z right [] ⊎ CallsToo z near memory right callee arguments waiting
IsAnswered z near entry memory right (Gives answer memory') =
    Fails z right [] ⊎ GivesToo z entry answer memory' right
IsAnswered z near entry memory right (Breaks why) = Fails z right []

-- simulation: n steps of the better function are answered
abbrev pub Near : Setting → ℕ → Point → Frame → Memory → State → Type 0
Near z zero entry frame memory right = Unit {0}
Near z (suc n) entry frame memory right =
    (choice : ℕ) → IsAnswered z (Near z n entry) entry memory right (act z.program.signature z.input frame memory right.place choice)

-- refinement: the function f is better than g in the program, with answers of at most so many steps
abbrev pub BetterThan : Program → ℕ → Function → Function → Type 0
BetterThan p bound f g =
    (input : List ℕ) (n : ℕ) (entry : Point) (arguments arguments' : List Value) (place : ℕ) → Related entry →
    Fixes (variables p) entry → ArgumentsAgree entry arguments arguments' →
    Near (record { program = p; input = input; bound = bound }) n entry (enter f arguments) entry.left
    (record { top = enter g arguments'; below = []; memory = entry.right; place = place })

-- f, if there is one, is better than what the program has
abbrev pub Replaces : Program → ℕ → Option Function → Option Function → Type 0
Replaces p bound None None = Unit {0}
Replaces p bound (Some f) (Some g) = BetterThan p bound f g
Replaces p bound _ _ = ⊥

-- each function of the first program is better than the second's own
pub record IsBetter (q p : Program) (bound : ℕ) : Type 0 where
  pub signature : q.signature ≡ p.signature
  pub opening : q.opening ≡ p.opening
  pub code : (s : Symbol) → Replaces p bound (q.code s) (p.code s)
