use Rattle.std.proofs.Common.{List, sym, subst, rules}
use Rattle.std.specs.Prelude.{All}
use Rattle.ir_tree.specs.declared.instr.Incoming.{Incoming}
use Rattle.ir_tree.specs.Formed.{OperandFormed}
use Rattle.ir_tree.specs.Items.{phi_item, taken_as}
use Rattle.ir_tree.specs.Rules.{HasType, IsThereAtEnd, OnEdges, place}
use Rattle.ir_verify.proofs.Broken.{first_2, first_3, first_4, all_kept}
use Rattle.ir_verify.proofs.Kept.{values_formed}
use Rattle.ir_verify.proofs.items.phi_broken.Goals as goal

pub entries_there-requires-clause-values : goal.entries_there-requires-clause-values
entries_there-requires-clause-values c =
    subst (λ (es : List Incoming). All (λ e. OperandFormed c.args.function.now e.value) es) (sym c.as_slice-entries.ensures)
    (values_formed c.args.function.now c.args.phi.now.reg c.args.phi.now.incoming c.requires.item.operands)

pub returns-then-not-entries_there : goal.returns-then-not-entries_there
returns-then-not-entries_there c =
    let types : All (HasType c.args.function.now) (taken_as c.args.phi.now.reg c.args.phi.now.incoming) = search rules in
    let never : All (λ (e : Incoming). IsThereAtEnd c.args.function.now (place c.args.function.now.blocks e.from) e.value) c.args.phi.now.incoming → ⊥ = search rules in
    first_2 c.args.function.now (phi_item c.args.block c.args.phi.now) (types, tt) (λ h. never h.1)

pub returns-then-not-branch : goal.returns-then-not-branch
returns-then-not-branch c =
    let types : All (HasType c.args.function.now) (taken_as c.args.phi.now.reg c.args.phi.now.incoming) = search rules in
    let are : All (λ (e : Incoming). IsThereAtEnd c.args.function.now (place c.args.function.now.blocks e.from) e.value) c.args.phi.now.incoming = search rules in
    let off : OnEdges c.args.function.now c.args.block c.args.phi.now.incoming → ⊥ = search rules in
    first_3 c.args.function.now (phi_item c.args.block c.args.phi.now) (types, tt) (tt, are) off

pub returns-then-block-eq0 : goal.returns-then-block-eq0
returns-then-block-eq0 c =
    let types : All (HasType c.args.function.now) (taken_as c.args.phi.now.reg c.args.phi.now.incoming) = search rules in
    let are : All (λ (e : Incoming). IsThereAtEnd c.args.function.now (place c.args.function.now.blocks e.from) e.value) c.args.phi.now.incoming = search rules in
    let on : OnEdges c.args.function.now c.args.block c.args.phi.now.incoming = search rules in
    first_4 c.args.function.now (phi_item c.args.block c.args.phi.now) (types, tt) (tt, are) on (λ h. h c.if-block-eq0.true)

pub returns : goal.returns
returns c =
    let types : All (HasType c.args.function.now) (taken_as c.args.phi.now.reg c.args.phi.now.incoming) = search rules in
    let are : All (λ (e : Incoming). IsThereAtEnd c.args.function.now (place c.args.function.now.blocks e.from) e.value) c.args.phi.now.incoming = search rules in
    let on : OnEdges c.args.function.now c.args.block c.args.phi.now.incoming = search rules in
    all_kept c.args.function.now (phi_item c.args.block c.args.phi.now) (types, tt) (tt, are) on c.if-block-eq0.false tt tt tt tt
