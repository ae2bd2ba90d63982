-- The walk as the code has it: the table of bodies, and a function while it is walked over.
use Rattle.std.specs.Prelude.{◌≡◌, ℕ, ◌+◌, All, List, ◌∷◌, Option, option_map}
use Rattle.std.specs.Borrow.{Bor}
use Rattle.std.specs.HashMap.{HashMap, get_by}
use Rattle.std.specs.Str.{bytes_eq}
use Rattle.ir_tree.specs.declared.block.Block.{Block}
use Rattle.ir_tree.specs.declared.block.Terminator.{Terminator}
use Rattle.ir_tree.specs.declared.function.Function.{Function}
use Rattle.ir_tree.specs.declared.instr.Instr.{Instr}
use Rattle.ir_tree.specs.declared.instr.Line.{Line}
use Rattle.ir_tree.specs.declared.operand.Symbol.{Symbol}
use Rattle.inline_site.specs.Callers.{IsReady, counted_done, made_of, next_in, opened_with}
use Rattle.inline_site.specs.declared.open.Open.{Open}
use Rattle.back_end.specs.Inlinable.{count}
use Rattle.back_end.specs.Walk.{IsWalk, Takes, Walks}
use Rattle.back_end.specs.declared.bodies.Bodies.{Bodies}
use Rattle.back_end.specs.declared.walker.Walker.{Walker}

-- the function that the table has under a name
abbrev pub named : {S : Type 0} → HashMap (Bor (List ℕ)) (Bor Function) S → List ℕ → Option Function
named table name = option_map (λ f. f.now) (get_by (λ key. bytes_eq name key.now) table)

-- the function whose body may be inlined, by its name
abbrev pub bodies_in : Bodies → List ℕ → Option Function
bodies_in b name = named b.table name

-- ---- one instruction

-- in a function of so many phis, instructions and terminators the instruction takes the body of the callee, with the room that is left
pub record TakesNow (bodies : List ℕ → Option Function) (symbol : Symbol) (many : ℕ) (instr : Instr) (callee : Function) : Type 0 where
  pub room : ℕ
  pub has_room : many + room ≡ 20000
  pub takes : Takes bodies symbol room instr callee

abbrev pub TakesNone : (List ℕ → Option Function) → Symbol → ℕ → Instr → Type 0
TakesNone bodies symbol many instr = (c : Function) → TakesNow bodies symbol many instr c → ⊥

abbrev pub LineTakesNone : (List ℕ → Option Function) → Symbol → ℕ → Line → Type 0
LineTakesNone bodies symbol many line = TakesNone bodies symbol many line.instr

-- no instruction of the block takes a body
abbrev pub LinesTakeNone : (List ℕ → Option Function) → Symbol → ℕ → Block → Type 0
LinesTakeNone bodies symbol many b = All (LineTakesNone bodies symbol many) b.lines

-- ---- the function

-- the function h is f as it is now, of known size, and a walk over it from a place on is one over f
pub record IsHere (bodies : List ℕ → Option Function) (f : Function) (w : Walker) (h : Function) (from : ℕ) : Type 0 where
  pub ready : IsReady h w.caller
  pub counts : w.count ≡ count h
  pub walks : (k : ℕ) (g : Function) → Walks k bodies from h g → IsWalk bodies f g

-- these blocks are ahead
abbrev pub IsAhead : (List ℕ → Option Function) → Function → Walker → List Block → Type 0
IsAhead bodies f w ahead = IsHere bodies f w (made_of f w.caller ahead) (counted_done w.caller + 1)

-- these instructions are ahead in the block that is open, and these blocks behind it
abbrev pub IsBegun : (List ℕ → Option Function) → Function → Walker → Open → List Line → Terminator → List Block → Type 0
IsBegun bodies f w o lines end ahead = IsHere bodies f w (made_of f w.caller (opened_with o lines end ∷ ahead)) (next_in w.caller o)
