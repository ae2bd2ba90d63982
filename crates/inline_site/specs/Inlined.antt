-- A function with a call replaced by the callee's body.
use Rattle.std.specs.Prelude.{◌≡◌, ◌≢◌, ℕ, ◌==◌, if◌then◌else◌, List, [], ◌∷◌, ◌++◌, map, Option, Some, None}
use Rattle.ir_tree.specs.declared.block.Block.{Block}
use Rattle.ir_tree.specs.declared.block.Terminator.{Terminator}
use Rattle.ir_tree.specs.declared.block.Terminator.TheVariants.{Jump, Return}
use Rattle.ir_tree.specs.declared.function.Function.{Function}
use Rattle.ir_tree.specs.declared.instr.Incoming.{Incoming}
use Rattle.ir_tree.specs.declared.instr.Phi.{Phi}
use Rattle.ir_tree.specs.declared.operand.Argument.{Argument}
use Rattle.ir_tree.specs.declared.operand.Operand.TheVariants.{Poison}
use Rattle.ir_tree.specs.declared.operand.Reg.{Reg}
use Rattle.ir_edit.specs.Substituted.{substituted}
use Rattle.inline_site.specs.Copies.{behind_call, copied, first_free}
use Rattle.inline_site.specs.Sites.{IsCallOf, Site, StandsAt}

-- ---- returns

-- a return goes to the block behind the call
abbrev pub end_leading : ℕ → Terminator → Terminator
end_leading behind (Return argument) = Jump behind
end_leading behind end = end

abbrev pub leading_to : ℕ → Block → Block
leading_to behind b = record b { end = end_leading behind b.end }

-- one entry for each return of a value, in block order
abbrev pub return_entry : ℕ → Terminator → List Incoming → List Incoming
return_entry n (Return (Some a)) es = record { from = n; value = a.operand } ∷ es
return_entry n end es = es

abbrev pub return_entries : List Block → List Incoming
return_entries [] = []
return_entries (b ∷ bs) = return_entry b.number b.end (return_entries bs)

-- ---- the block of the call, in two

-- phi entries that named the block of the call name the one behind it
abbrev pub block_named : ℕ → ℕ → ℕ → ℕ
block_named block behind n = if n == block then behind else n

abbrev pub entry_named : ℕ → ℕ → Incoming → Incoming
entry_named block behind e = record { from = block_named block behind e.from; value = e.value }

abbrev pub phi_named : ℕ → ℕ → Phi → Phi
phi_named block behind p = record { local = p.local; reg = p.reg; incoming = map (entry_named block behind) p.incoming }

abbrev pub named : ℕ → ℕ → Block → Block
named block behind b = record { number = b.number; phis = map (phi_named block behind) b.phis; lines = b.lines; end = b.end }

abbrev pub entry_of : List Block → ℕ
entry_of [] = 0
entry_of (b ∷ bs) = b.number

-- what stands before the call, and goes to the copy's entry
abbrev pub before_call : Site → ℕ → List Block → Block
before_call s behind copy = record {
  number = s.block.number;
  phis = map (phi_named s.block.number behind) s.block.phis;
  lines = s.before;
  end = Jump (entry_of copy);
}

-- the call's result is a phi of the returned values; there is none without a result or without a return
abbrev pub result_phis : Option ℕ → Option Reg → List Incoming → List Phi
result_phis (Some x) (Some reg) (e ∷ es) = record { local = x; reg = reg; incoming = e ∷ es } ∷ []
result_phis local result entries = []

-- what stands behind the call
abbrev pub after_call : Site → Option Reg → ℕ → List Block → Block
after_call s result behind copy = record {
  number = behind;
  phis = result_phis s.call.local result (return_entries copy);
  lines = s.after;
  end = s.block.end;
}

-- ---- the function

-- the callee's copy between the two
abbrev pub spliced : Site → Option Reg → ℕ → List Block → Function → Function
spliced s result behind copy f = record f {
  blocks = map (named s.block.number behind) s.front
      ++ before_call s behind copy ∷ (map (leading_to behind) copy ++ after_call s result behind copy ∷ map (named s.block.number behind) s.back);
}

-- a result that no return gives is poison at each use
abbrev pub result_given : Option ℕ → Option Reg → List Incoming → Function → Function
result_given (Some x) (Some reg) [] f = substituted ((x, Poison reg) ∷ []) f
result_given local result entries f = f

-- f with the callee's body in the place of the call at this site, of these arguments
abbrev pub inlined : Site → Function → List Argument → Function → Function
inlined s callee arguments f =
    result_given s.call.local callee.result (return_entries (copied (first_free f) callee arguments))
    (spliced s callee.result (behind_call (first_free f) callee) (copied (first_free f) callee arguments) f)

-- what inlining gives: f with the callee's body in the place of the call that stands at this place of f; none where no direct call of the
-- callee, of its type, stands there, or the callee has no blocks
abbrev pub IsInlined : Function → ℕ → Function → Option Function → Type 0
IsInlined f place callee (Some g) =
    (callee.blocks ≢ []) × (s : Site) × (arguments : List Argument) × StandsAt f.blocks place s × IsCallOf callee s.call.instr arguments
    × (g ≡ inlined s callee arguments f)
IsInlined f place callee None = (s : Site) (arguments : List Argument) → StandsAt f.blocks place s → IsCallOf callee s.call.instr arguments → callee.blocks ≡ []
