-- The live part of a program of better functions under its final names refines the program: congruence, then renaming and dropping.
use Rattle.std.proofs.Common.{◌≡◌, IsTrue, ℕ, length, sym, ap, ◌∙◌, subst}
use Rattle.ir_tree.specs.declared.operand.Symbol.{Symbol}
use Rattle.ir_meaning.specs.Program.{variables}
use Rattle.ir_meaning.specs.Refine.{own_names, RefinesUnder}
use Rattle.ir_meaning.specs.Rename.{LinkedRefines}
use Rattle.ir_meaning.proofs.Names.Emitted.{emitted_all}
use Rattle.ir_meaning.proofs.Runs.Transitive.{under_trans}
use Rattle.ir_meaning.proofs.Runs.WholeRuns.{congruent}

pub linked_all : LinkedRefines
linked_all t final live most bound l q p inside better r IsRoot roots =
    let Renamed = λ (u : Symbol). (s : Symbol) × IsTrue (IsRoot s) × (final.symbol s ≡ u) in
    let same : variables q ≡ variables p = ap length better.opening in
    let middle : t.count' ≡ variables p = r.count' ∙ same in
    let first = emitted_all t final live most l q r IsRoot roots in
    let second = congruent q p bound inside better IsRoot in
    let back = λ (u : Symbol) (h : Renamed u). subst (λ (s : Symbol). IsTrue (IsRoot s))
    (sym (r.symbol_back h.0 (roots h.0 h.1)) ∙ ap t.symbol h.2) h.1 in
    let both = under_trans t (own_names (variables p)) (record { middle = middle; within = r.within }) l q p Renamed
    (λ s. IsTrue (IsRoot s)) back first second in
    subst (λ (n : ℕ). RefinesUnder (record { symbol = t.symbol; variable = t.variable; count = t.count; count' = n }) l p
    Renamed) (sym middle) both
