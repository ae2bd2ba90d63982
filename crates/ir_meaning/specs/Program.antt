-- Whole programs, their states and steps (LangRef, "Module Structure", "call Instruction"). Nothing here looks
-- at an instruction: a step is what the topmost frame does.
use Rattle.std.specs.Prelude.{◌≡◌, ℕ, zero, suc, ◌+◌, ◌-◌, ◌==◌, if◌then◌else◌, List, [], ◌∷◌, ◌++◌, length, Option, Some, None}
use Rattle.ir_tree.specs.declared.block.Block.{Block}
use Rattle.ir_tree.specs.declared.function.Function.{Function}
use Rattle.ir_tree.specs.declared.operand.Symbol.{Symbol}
use Rattle.ir_meaning.specs.Act.{Act, Breaks, Calls, Gives, Goes, act, enter, resume}
use Rattle.ir_meaning.specs.Fault.{Fault, Undefined}
use Rattle.ir_meaning.specs.Frame.{Frame, Signature}
use Rattle.ir_meaning.specs.Memory.{Memory}
use Rattle.ir_meaning.specs.declared.event.Event.{Event}
use Rattle.ir_tree.specs.declared.cause.Cause.TheVariants.{CallOfNoFunction}
use Rattle.ir_meaning.specs.declared.fault.Place.{Place}
use Rattle.ir_meaning.specs.declared.value.Value.{Value}

pub record Program : Type 0 where
  pub signature : Signature
  pub code : Symbol → Option Function
  -- the variables as initialised
  pub opening : Memory

abbrev pub variables : Program → ℕ
variables p = length p.opening

pub record State : Type 0 where
  pub top : Frame
  pub below : List Frame
  pub memory : Memory
  pub place : ℕ

-- a bad ending: why and where
pub record Failure : Type 0 where
  pub why : Fault
  pub at : Place

-- ---- places in a function: its phis, instructions and terminators, counted from 1 in text order

abbrev pub counted : Block → ℕ
counted b = length b.phis + length b.lines + 1

-- the number of the instruction or terminator in block n behind which so many instructions are left
abbrev pub numbered : List Block → ℕ → ℕ → ℕ
numbered [] n left = 1
numbered (b ∷ bs) n left = if b.number == n then length b.phis + (length b.lines - left) + 1 else counted b + numbered bs n left

-- where a frame stands
abbrev pub place_of : Frame → Place
place_of frame = record { symbol = frame.function.symbol; instruction = numbered frame.function.blocks frame.block (length frame.rest) }

-- what a step leads to
pub data Next : Type 0 where
  On : (state : State) → Next
  Done : (answer : Option Value) (memory : Memory) (place : ℕ) → Next
  Broken : (failure : Failure) → Next

-- a step, with what it shows
pub record Took : Type 0 where
  pub events : List Event
  pub next : Next

-- the frame under the one that returned goes on
abbrev pub back : List Frame → Option Value → Memory → ℕ → Next
back [] answer memory place = Done answer memory place
back (waiting ∷ below) answer memory place = On (record { top = resume waiting answer; below = below; memory = memory; place = place })

-- a call of a function of the program
abbrev pub go_in : Place → Option Function → List Value → List Frame → Memory → ℕ → Next
go_in at None arguments below memory place = Broken (record { why = Undefined CallOfNoFunction; at = at })
go_in at (Some f) arguments below memory place = On (record { top = enter f arguments; below = below; memory = memory; place = place })

-- what the program does where its topmost frame, at this place, does this
abbrev pub advance : Program → Place → List Frame → Memory → ℕ → Act → Took
advance p at below memory place (Goes frame memory' place' events) =
    record { events = events; next = On (record { top = frame; below = below; memory = memory'; place = place' }) }
advance p at below memory place (Calls callee arguments frame) =
    record { events = []; next = go_in at (p.code callee) arguments (frame ∷ below) memory place }
advance p at below memory place (Gives answer memory') = record { events = []; next = back below answer memory' place }
advance p at below memory place (Breaks why) = record { events = []; next = Broken (record { why = why; at = at }) }

-- one step, with this answer to a free choice
abbrev pub step : Program → List ℕ → State → ℕ → Took
step p input s choice = advance p (place_of s.top) s.below s.memory s.place (act p.signature input s.top s.memory s.place choice)

-- what follows a step that showed these events and led there, where k more steps are left
abbrev pub After : (State → List Event → Next → Type 0) → ℕ → List Event → Next → List Event → Next → Type 0
After leads k shown (On s) events end = (later : List Event) × (events ≡ shown ++ later) × leads s later end
After leads k shown (Done answer memory place) events end = (k ≡ 0) × (events ≡ shown) × (end ≡ Done answer memory place)
After leads k shown (Broken failure) events end = (k ≡ 0) × (events ≡ shown) × (end ≡ Broken failure)

-- by some choices, k steps lead from the state there, and show these events
abbrev pub Leads : Program → List ℕ → ℕ → State → List Event → Next → Type 0
Leads p input zero s events end = (events ≡ []) × (end ≡ On s)
Leads p input (suc k) s events end =
    (choice : ℕ) × After (Leads p input k) k (step p input s choice).events (step p input s choice).next events end
