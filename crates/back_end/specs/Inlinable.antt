-- Which bodies may be inlined, by the names of their functions.
use Rattle.std.specs.Prelude.{◌≡◌, ℕ, Bool, true, false, ◌&&◌, not, nat_eq, nat_le, List, [], ◌∷◌, Option, Some, None, if◌then◌else◌}
use Rattle.std.specs.List.{list_any}
use Rattle.std.specs.Str.{bytes_eq}
use Rattle.ir_tree.specs.Linkages.{defines, is_replaceable}
use Rattle.ir_tree.specs.Rules.{Sound}
use Rattle.ir_tree.specs.declared.block.Block.{Block}
use Rattle.ir_tree.specs.declared.function.Function.{Function}
use Rattle.ir_tree.specs.declared.instr.Instr.{Instr}
use Rattle.ir_tree.specs.declared.instr.Instr.TheVariants.{Call}
use Rattle.ir_tree.specs.declared.module.GlobalValue.{GlobalValue}
use Rattle.ir_tree.specs.declared.module.GlobalValue.TheVariants as global
use Rattle.ir_tree.specs.declared.operand.Operand.{Operand}
use Rattle.ir_tree.specs.declared.operand.Operand.TheVariants.{Symbol as Named}
use Rattle.ir_tree.specs.declared.operand.Symbol.{Symbol}
use Rattle.ir_meaning.specs.Program.{Program}
use Rattle.inline_site.specs.Laws.{IsOwn}
use Rattle.inline_site.specs.Sites.{counted_in}

-- how many phis, instructions and terminators a function has
abbrev pub count : Function → ℕ
count f = counted_in f.blocks

-- ---- calls

abbrev pub directly : Operand → Option Symbol
directly (Named symbol offset) = if nat_eq offset 0 then Some symbol else None
directly _ = None

-- the function that an instruction calls directly, whatever the type that is written
abbrev pub callee_of : Instr → Option Symbol
callee_of (Call result callee arguments) = directly callee
callee_of _ = None

abbrev pub has_name : List ℕ → Option Symbol → Bool
has_name name None = false
has_name name (Some s) = bytes_eq name s.name

-- a direct call of a function of this name is among the instructions
abbrev pub calls : List ℕ → List Block → Bool
calls name bs = list_any (λ b. list_any (λ l. has_name name (callee_of l.instr)) b.lines) bs

-- ---- functions

abbrev pub has_blocks : List Block → Bool
has_blocks [] = false
has_blocks (b ∷ bs) = true

-- the body of a function may be inlined where calls of it stand: it is a definition, the function's for good, and no attribute forbids it;
-- it doesn't call itself, and is no longer than the limit
abbrev pub may_inline : ℕ → Function → Bool
may_inline limit f =
    has_blocks f.blocks && defines f.linkage && not (is_replaceable f.linkage) && not f.noinline && not f.optnone
    && not (calls f.symbol.name f.blocks) && nat_le (count f) limit

-- ---- by name

abbrev pub offered : ℕ → GlobalValue → List ℕ → Option Function
offered limit (global.Variable v) name = None
offered limit (global.Function f) name = if may_inline limit f && bytes_eq f.symbol.name name then Some f else None

abbrev pub or_else : Option Function → Option Function → Option Function
or_else (Some f) later = Some f
or_else None later = later

-- the bodies that may be inlined, of the functions of these global values
abbrev pub bodies_of : ℕ → List GlobalValue → List ℕ → Option Function
bodies_of limit [] name = None
bodies_of limit (g ∷ gs) name = or_else (offered limit g name) (bodies_of limit gs name)

-- ---- what is asked of bodies

abbrev pub AreSound : (List ℕ → Option Function) → Type 0
AreSound bodies = (name : List ℕ) (c : Function) → bodies name ≡ Some c → Sound c

-- they are the program's own
abbrev pub HasBodies : Program → (List ℕ → Option Function) → Type 0
HasBodies p bodies = (name : List ℕ) (c : Function) → bodies name ≡ Some c → IsOwn p c
