-- The inline walk over one function.
use Rattle.std.specs.Prelude.{◌≡◌, ◌≢◌, ℕ, zero, suc, ◌+◌, ◌-◌, ◌<◌, ◌≤◌, List, [], Option, Some}
use Rattle.ir_tree.specs.declared.function.Function.{Function}
use Rattle.ir_tree.specs.declared.instr.Instr.{Instr}
use Rattle.ir_tree.specs.declared.operand.Argument.{Argument}
use Rattle.ir_tree.specs.declared.operand.Symbol.{Symbol}
use Rattle.inline_site.specs.Inlined.{IsInlined}
use Rattle.inline_site.specs.Sites.{IsCallOf, Site, StandsAt}
use Rattle.back_end.specs.Inlinable.{count}

-- in a function of this symbol, with so much room, the instruction takes the body of the callee: it is a direct call of it, of its
-- type, the callee has a body and is another function, and there is room for the body
pub record Takes (bodies : List ℕ → Option Function) (symbol : Symbol) (room : ℕ) (instr : Instr) (callee : Function) : Type 0 where
  pub body : bodies callee.symbol.name ≡ Some callee
  pub some : callee.blocks ≢ []
  pub other : callee.symbol ≢ symbol
  pub arguments : List Argument
  pub call : IsCallOf callee instr arguments
  pub small : count callee ≤ room

-- the instruction at this place of f does, which has room up to 20,000 phis, instructions and terminators
pub record TakesAt (bodies : List ℕ → Option Function) (f : Function) (place : ℕ) (callee : Function) : Type 0 where
  pub room : ℕ
  pub has_room : count f + room ≡ 20000
  pub site : Site
  pub stands : StandsAt f.blocks place site
  pub takes : Takes bodies f.symbol room site.call.instr callee

-- it is the first from a place on that does
pub record IsFirst (bodies : List ℕ → Option Function) (f : Function) (from place : ℕ) (callee : Function) : Type 0 where
  pub behind : from ≤ place
  pub takes : TakesAt bodies f place callee
  pub first : (q : ℕ) (c : Function) → from ≤ q → q < place → TakesAt bodies f q c → ⊥

-- what stood behind this place of f stands last in h: the place where it begins
abbrev pub next_place : Function → ℕ → Function → ℕ
next_place f place h = count h - (count f - place) + 1

-- with so many calls inlined: the first call from a place on that takes a body takes it, and the walk goes on with what stood behind the
-- call, until no call takes one
unfoldable pub Walks : ℕ → (List ℕ → Option Function) → ℕ → Function → Function → Type 0
Walks zero bodies from f g = ((place : ℕ) (callee : Function) → from ≤ place → TakesAt bodies f place callee → ⊥) × (g ≡ f)
Walks (suc k) bodies from f g =
    (place : ℕ) × (callee : Function) × IsFirst bodies f from place callee × (h : Function) × IsInlined f place callee (Some h)
    × Walks k bodies (next_place f place h) h g

-- one walk, from the first place on
abbrev pub IsWalk : (List ℕ → Option Function) → Function → Function → Type 0
IsWalk bodies f g = (k : ℕ) × Walks k bodies 1 f g

-- so many walks, one after another
unfoldable pub AreWalks : ℕ → (List ℕ → Option Function) → Function → Function → Type 0
AreWalks zero bodies f g = g ≡ f
AreWalks (suc n) bodies f g = (h : Function) × IsWalk bodies f h × AreWalks n bodies h g
