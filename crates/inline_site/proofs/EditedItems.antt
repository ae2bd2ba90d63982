-- What an edit that leaves constants alone keeps of instructions, phis and terminators.
use Rattle.std.proofs.Common.{◌≡◌, ℕ, List, [], ◌∷◌, Option, Some, None, map, option_map, refl, sym, ◌∙◌, ap}
use Rattle.std.specs.Prelude.{All, IsSome}
use Rattle.std.proofs.lemmas.List.Elements.{All-map}
use Rattle.ir_tree.specs.Forms.{Form, int, pointer, array, structure}
use Rattle.ir_tree.specs.Flow.{successors}
use Rattle.ir_tree.specs.Formed.{CaseFormed, CasesFormed, InstrFormed, ResultFormed}
use Rattle.ir_tree.specs.Items.{end_reads, phi_reads, reads, taken, typed}
use Rattle.ir_tree.specs.Rules.{CaseHas, CasesDiffer, EndDiffers, Follow, IndicesFollow, IsNoPhi, LineCasts, LineFollows, LineOnEdges, LineTypes, result_type}
use Rattle.ir_tree.specs.declared.block.Case.{Case}
use Rattle.ir_tree.specs.declared.block.Terminator.{Terminator}
use Rattle.ir_tree.specs.declared.block.Terminator.TheVariants.{Return, Switch}
use Rattle.ir_tree.specs.declared.function.Function.{Function}
use Rattle.ir_tree.specs.declared.instr.Instr.{Instr}
use Rattle.ir_tree.specs.declared.instr.Instr.TheVariants as kind
use Rattle.ir_tree.specs.declared.operand.Argument.{Argument}
use Rattle.ir_tree.specs.declared.operand.Operand.{Operand}
use Rattle.ir_tree.specs.declared.operand.Operand.TheVariants as operand
use Rattle.ir_tree.specs.declared.operand.Reg.TheVariants.{Int}
use Rattle.ir_tree.specs.Edited.{argument_edited, case_edited, end_edited, instr_edited}
use Rattle.inline_site.proofs.Elements.{Changed, changed}

abbrev pub IsConstant : Operand → Type 0
IsConstant (operand.Local x) = ⊥
IsConstant _ = Unit {0}

-- ---- no phi among the lines

pub no_phi_reads : (i : Instr) → IsNoPhi i → phi_reads i ≡ []
no_phi_reads (kind.Phi reg incoming) n = absurd n
no_phi_reads _ n = refl

pub no_taken : (i : Instr) → IsNoPhi i → taken i ≡ []
no_taken (kind.Phi reg incoming) n = absurd n
no_taken _ n = refl

pub no_edges : (f : Function) (b : ℕ) (i : Instr) → IsNoPhi i → LineOnEdges f b i
no_edges f b (kind.Phi reg incoming) n = absurd n
no_edges f b _ n = tt

-- ---- the edit

module _ (number : ℕ → ℕ) (op : Operand → Operand) where
  abbrev argument : Argument → Argument
  argument = argument_edited op

  abbrev instr : Instr → Instr
  instr = instr_edited number op

  abbrev end : Terminator → Terminator
  end = end_edited number op

  pub no_phi : (i : Instr) → IsNoPhi i → IsNoPhi (instr i)
  no_phi (kind.Phi reg incoming) n = n
  no_phi _ n = tt

  pub reads_edited : (i : Instr) → reads (instr i) ≡ map argument (reads i)
  reads_edited (kind.Phi reg incoming) = refl
  reads_edited _ = refl

  pub end_reads_edited : (t : Terminator) → end_reads (end t) ≡ map argument (end_reads t)
  end_reads_edited (Return None) = refl
  end_reads_edited (Return (Some a)) = refl
  end_reads_edited _ = refl

  map_targets : (cs : List Case) → map (λ c. c.target) (map (case_edited number) cs) ≡ map number (map (λ c. c.target) cs)
  map_targets [] = refl
  map_targets (c ∷ cs) = ap (λ (l : List ℕ). number c.target ∷ l) (map_targets cs)

  pub targets_edited : (t : Terminator) → successors (end t) ≡ map number (successors t)
  targets_edited (Switch width value default cases) = ap (λ (l : List ℕ). number default ∷ l) (map_targets cases)
  targets_edited _ = refl

  pub result_edited : (i : Instr) → result_type (instr i) ≡ result_type i
  result_edited (kind.Phi reg incoming) = refl
  result_edited _ = refl

  pub instr_formed : (i : Instr) → InstrFormed i → InstrFormed (instr i)
  instr_formed (kind.Phi reg incoming) h = h
  instr_formed _ h = h

  some_still : (o : Option ℕ) → IsSome o → IsSome (option_map number o)
  some_still None h = h
  some_still (Some x) h = h

  pub result_formed : (i : Instr) (local : Option ℕ) → ResultFormed i local → ResultFormed (instr i) (option_map number local)
  result_formed (kind.Store reg value address align) local h = ap (option_map number) h
  result_formed (kind.Call None callee arguments) local h = tt
  result_formed (kind.Call (Some reg) callee arguments) local h = some_still local h
  result_formed _ local h = some_still local h

  pub cases_formed : (t : Terminator) → CasesFormed t → CasesFormed (end t)
  cases_formed (Switch width value default cases) h = All-map CaseFormed (case_edited number) cases h
  cases_formed _ h = tt

  pub line_types : (local : Option ℕ) (i : Instr) → LineTypes local i → LineTypes (option_map number local) (instr i)
  line_types local (kind.Select condition if_true if_false) h = h
  line_types local (kind.Call None callee arguments) h = ap (option_map number) h
  line_types local (kind.Call (Some reg) callee arguments) h = tt
  line_types local _ h = tt

  pub cases_have : (width : ℕ) (cs : List Case) → All (CaseHas width) cs → All (CaseHas width) (map (case_edited number) cs)
  cases_have width cs h = All-map (CaseHas width) (case_edited number) cs h

  pub line_casts : (i : Instr) → LineCasts i → LineCasts (instr i)
  line_casts (kind.Phi reg incoming) h = h
  line_casts _ h = h

  cases_differ : (cs : List Case) → CasesDiffer cs → CasesDiffer (map (case_edited number) cs)
  cases_differ cs h i j c d at_i at_j same = by (changed (case_edited number) cs i c at_i) (changed (case_edited number) cs j d at_j)
    where
      by : Changed (case_edited number) cs i c → Changed (case_edited number) cs j d → i ≡ j
      by (x, x_at, x_is) (y, y_at, y_is) = h i j x y x_at y_at (ap (λ (z : Case). z.bits) x_is ∙ same ∙ ap (λ (z : Case). z.bits) (sym y_is))

  pub end_differs : (t : Terminator) → EndDiffers t → EndDiffers (end t)
  end_differs (Switch width value default cases) h = cases_differ cases h
  end_differs _ h = tt

  module _ (fixed : (o : Operand) → IsConstant o → op o ≡ o) where
    follow : (form : Form) (as' : List Argument) → Follow form as' → Follow form (map argument as')
    follow form [] h = tt
    follow (int w) (a ∷ more) h = h
    follow pointer (a ∷ more) h = h
    follow (array n of) (a ∷ more) h = (h.0, follow of more h.1)
    follow (structure packed parts) (a ∷ more) (k, form, is, part, rest) =
        (k, form, ap argument is ∙ ap (typed (Int 32)) (fixed (operand.Number 32 k) tt), part, follow form more rest)

    indices_follow : (form : Form) (as' : List Argument) → IndicesFollow form as' → IndicesFollow form (map argument as')
    indices_follow form [] h = tt
    indices_follow form (a ∷ more) h = (h.0, follow form more h.1)

    pub line_follows : (i : Instr) → LineFollows i → LineFollows (instr i)
    line_follows (kind.Address inbounds shape base indices) h = indices_follow shape indices h
    line_follows _ h = tt
