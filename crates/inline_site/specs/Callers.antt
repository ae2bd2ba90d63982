-- A function that calls are inlined into block by block, and what is put off until its end.
use Rattle.std.specs.Prelude.{◌≡◌, ℕ, nat_eq, ◌+◌, ◌<◌, List, [], ◌∷◌, ◌++◌, All, length, map, Option, Some, None}
use Rattle.std.specs.HashMap as hash
use Rattle.ir_tree.specs.declared.block.Block.{Block}
use Rattle.ir_tree.specs.declared.block.Terminator.{Terminator}
use Rattle.ir_tree.specs.declared.function.Function.{Function}
use Rattle.ir_tree.specs.declared.instr.Incoming.{Incoming}
use Rattle.ir_tree.specs.declared.instr.Line.{Line}
use Rattle.ir_tree.specs.declared.instr.Phi.{Phi}
use Rattle.ir_tree.specs.declared.operand.Operand.{Operand}
use Rattle.ir_tree.specs.declared.operand.Operand.TheVariants.{Poison}
use Rattle.ir_tree.specs.declared.operand.Reg.{Reg}
use Rattle.ir_tree.specs.Edited.{block_edited}
use Rattle.ir_edit.specs.Substituted.{operand_replaced, replacement}
use Rattle.inline_site.specs.Copies.{first_free}
use Rattle.inline_site.specs.Inlined.{IsInlined, block_named, result_phis, return_entries}
use Rattle.inline_site.specs.Sites.{counted_in}
use Rattle.inline_site.specs.declared.caller.Caller.{Caller}
use Rattle.inline_site.specs.declared.late.Late.{Late}
use Rattle.inline_site.specs.declared.names.Halves.{Halves}
use Rattle.inline_site.specs.declared.names.Names.{Names}
use Rattle.inline_site.specs.declared.open.Open.{Open}

-- ---- names

-- a block that is cut at calls has the name of the one behind the call, call after call
abbrev pub named_by : List Halves → ℕ → ℕ
named_by [] n = n
named_by (h ∷ hs) n = named_by hs (block_named h.block h.behind n)

abbrev pub entry_by : (ℕ → ℕ) → Incoming → Incoming
entry_by name e = record { from = name e.from; value = e.value }

abbrev pub phi_by : (ℕ → ℕ) → Phi → Phi
phi_by name p = record { local = p.local; reg = p.reg; incoming = map (entry_by name) p.incoming }

-- phi entries name blocks by these names
abbrev pub with_names : (ℕ → ℕ) → Block → Block
with_names name b = record { number = b.number; phis = map (phi_by name) b.phis; lines = b.lines; end = b.end }

abbrev pub name_or : Option ℕ → ℕ → ℕ
name_or (Some last) n = last
name_or None n = n

-- the name that the table has
abbrev pub name_in : Names → ℕ → ℕ
name_in names n = name_or (hash.get nat_eq names.last n) n

-- ---- lost results

-- a result that no return gives
abbrev pub lost_of : Option ℕ → Option Reg → List Incoming → Option (ℕ × Reg)
lost_of (Some x) (Some reg) [] = Some (x, reg)
lost_of local result entries = None

-- poison at each use of such results, call after call
abbrev pub without : List (ℕ × Reg) → Operand → Operand
without [] o = o
without (r ∷ rs) o = without rs (operand_replaced (replacement ((r.0, Poison r.1) ∷ [])) o)

-- poison for each of them, the first one last
abbrev pub poisons : List (ℕ × Reg) → List (ℕ × Operand)
poisons [] = []
poisons (r ∷ rs) = poisons rs ++ (r.0, Poison r.1) ∷ []

-- ---- blocks

abbrev pub started : Block → Open
started b = record { number = b.number; phis = b.phis; lines = [] }

abbrev pub ended : Open → Terminator → Block
ended o end = record { number = o.number; phis = o.phis; lines = o.lines; end = end }

-- the block that is open, with these instructions ahead
abbrev pub opened_with : Open → List Line → Terminator → Block
opened_with o lines end = record { number = o.number; phis = o.phis; lines = o.lines ++ lines; end = end }

-- the block behind a call, up to its phis
abbrev pub behind_open : Option ℕ → Option Reg → ℕ → List Block → Open
behind_open local result behind copy = record { number = behind; phis = result_phis local result (return_entries copy); lines = [] }

-- ---- functions

abbrev pub late_given : Late → Function → Function
late_given l g = record g { blocks = map (block_edited (λ n. n) (without l.lost.items)) (map (with_names (named_by l.halves.items)) g.blocks) }

-- the function f as it is now, with these blocks ahead
abbrev pub made_of : Function → Caller → List Block → Function
made_of f c ahead = late_given c.late (record f { blocks = c.done.items ++ ahead })

-- how many phis, instructions and terminators the blocks have that are done
abbrev pub counted_done : Caller → ℕ
counted_done c = counted_in c.done.items

-- the first number that is free in g, which is the function as it is now, is known, and what is put off is of numbers below it
pub record IsReady (g : Function) (c : Caller) : Type 0 where
  pub free : c.free ≡ first_free g
  pub halves : All (λ h. h.block < c.free) c.late.halves.items
  pub lost : All (λ r. r.0 < c.free) c.late.lost.items

-- the place of the next instruction of the block that is open
abbrev pub next_in : Caller → Open → ℕ
next_in c o = counted_done c + (length o.phis + (length o.lines + 1))

-- from one state of f to another, where this is ahead, the callee is inlined at the call
pub record Inlines (f : Function) (c c' : Caller) (o o' : Open) (call : Line) (callee : Function) (lines : List Line) (end : Terminator) (ahead : List Block) : Type 0 where
  pub inlined : IsReady (made_of f c (opened_with o (call ∷ lines) end ∷ ahead)) c
      → IsInlined (made_of f c (opened_with o (call ∷ lines) end ∷ ahead)) (next_in c o) callee (Some (made_of f c' (opened_with o' lines end ∷ ahead)))
  pub ready : IsReady (made_of f c (opened_with o (call ∷ lines) end ∷ ahead)) c → IsReady (made_of f c' (opened_with o' lines end ∷ ahead)) c'
