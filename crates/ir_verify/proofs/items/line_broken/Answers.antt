use Rattle.std.proofs.Common.{refl, sym, subst, rules, inl, inr, List}
use Rattle.std.specs.Prelude.{All, Some}
use Rattle.std.proofs.lemmas.List.Elements.{All-append}
use Rattle.ir_tree.specs.declared.operand.Argument.{Argument}
use Rattle.ir_tree.specs.declared.instr.Incoming.{Incoming}
use Rattle.ir_tree.specs.declared.rule.Rule.{Rule}
use Rattle.ir_tree.specs.Formed.{ArgumentFormed}
use Rattle.ir_tree.specs.Items.{line_item, reads, phi_reads}
use Rattle.ir_tree.specs.Rules.{HasType, EntriesThere, IsThere, OnEdges, IsNoPhi}
use Rattle.ir_verify.specs.Faults.{FirstBroken}
use Rattle.ir_verify.specs.Kept.{LineTyped}
use Rattle.ir_verify.proofs.Broken.{first_1, first_2, first_3, first_4, first_6, first_7, all_kept}
use Rattle.ir_verify.proofs.Kept.{all_left, all_right, no_phi_edges, phi_edges}
use Rattle.ir_verify.proofs.items.line_broken.Goals as goal
use Rattle.ir_verify.proofs.items.line_broken.Goals.{then-not-reads_there-via-then-not-reads_there, then-not-reads_there-via-else-not-reads_there+then-not-taken_there}

pub reads_there-requires-clause-reads : goal.reads_there-requires-clause-reads
reads_there-requires-clause-reads c = all_left (ArgumentFormed c.args.function.now) (reads c.args.line.now.instr) (phi_reads c.args.line.now.instr) c.requires.item.operands

pub returns-then-not-line_typed : goal.returns-then-not-line_typed
returns-then-not-line_typed c =
    first_1 c.args.function.now (line_item c.args.block c.args.place c.args.line.now) (λ h.
    let typed : LineTyped c.args.function.now c.args.line.now = record {
      reads = all_left (HasType c.args.function.now) (reads c.args.line.now.instr) (phi_reads c.args.line.now.instr) h.0;
      phi = all_right (HasType c.args.function.now) (reads c.args.line.now.instr) (phi_reads c.args.line.now.instr) h.0;
      kind = h.1;
    } in
    let e = c.if-not-line_typed.ensures.1 typed in absurd (cc e))

pub returns-then-not-reads_there : goal.returns-then-not-reads_there
returns-then-not-reads_there c =
    let typed : LineTyped c.args.function.now c.args.line.now = search rules in
    let types = All-append (HasType c.args.function.now) (reads c.args.line.now.instr) (phi_reads c.args.line.now.instr) typed.reads typed.phi in
    first_2 c.args.function.now (line_item c.args.block c.args.place c.args.line.now) (types, typed.kind) (λ h. elim c.then-not-reads_there.branch [
      | then-not-reads_there-via-then-not-reads_there w ↦ (let e = w.if-not-reads_there.ensures.1 h.0 in absurd (cc e))
      | then-not-reads_there-via-else-not-reads_there+then-not-taken_there w ↦ (let e = w.if-not-taken_there.ensures.1 h.1 in absurd (cc e))
    ])

pub returns-then-not-is_no_phi : goal.returns-then-not-is_no_phi
returns-then-not-is_no_phi c =
    let typed : LineTyped c.args.function.now c.args.line.now = search rules in
    let types = All-append (HasType c.args.function.now) (reads c.args.line.now.instr) (phi_reads c.args.line.now.instr) typed.reads typed.phi in
    let mine : All (λ (a : Argument). IsThere c.args.function.now c.args.block c.args.place a.operand) (reads c.args.line.now.instr) = search rules in
    let theirs : EntriesThere c.args.function.now (line_item c.args.block c.args.place c.args.line.now) = search rules in
    let late : IsNoPhi c.args.line.now.instr → ⊥ = search rules in
    let edges = phi_edges c.args.function.now c.args.block c.args.line.now.instr late in
    elim c.in_ok-rule.ensures [
      | inl w ↦ subst (λ (r : Rule). FirstBroken c.args.function.now (line_item c.args.block c.args.place c.args.line.now) (Some r)) (sym w.0) (first_3 c.args.function.now (line_item c.args.block c.args.place c.args.line.now) (types, typed.kind) (mine, theirs) (λ h. w.1 (subst (λ (es : List Incoming). OnEdges c.args.function.now c.args.block es) (sym c.taken.ensures) (edges.0 h))))
      | inr w ↦ subst (λ (r : Rule). FirstBroken c.args.function.now (line_item c.args.block c.args.place c.args.line.now) (Some r)) (sym w.0) (first_4 c.args.function.now (line_item c.args.block c.args.place c.args.line.now) (types, typed.kind) (mine, theirs) (edges.1 (subst (λ (es : List Incoming). OnEdges c.args.function.now c.args.block es) c.taken.ensures w.1)) late)
    ]

pub returns-then-not-line_follows : goal.returns-then-not-line_follows
returns-then-not-line_follows c =
    let typed : LineTyped c.args.function.now c.args.line.now = search rules in
    let types = All-append (HasType c.args.function.now) (reads c.args.line.now.instr) (phi_reads c.args.line.now.instr) typed.reads typed.phi in
    let mine : All (λ (a : Argument). IsThere c.args.function.now c.args.block c.args.place a.operand) (reads c.args.line.now.instr) = search rules in
    let theirs : EntriesThere c.args.function.now (line_item c.args.block c.args.place c.args.line.now) = search rules in
    let plain : IsNoPhi c.args.line.now.instr = search rules in
    let edges = no_phi_edges c.args.function.now c.args.block c.args.line.now.instr plain in
    first_6 c.args.function.now (line_item c.args.block c.args.place c.args.line.now) (types, typed.kind) (mine, theirs) edges plain tt (λ h. let e = c.if-not-line_follows.ensures.1 h in absurd (cc e))

pub returns-then-not-casts_right : goal.returns-then-not-casts_right
returns-then-not-casts_right c =
    let typed : LineTyped c.args.function.now c.args.line.now = search rules in
    let types = All-append (HasType c.args.function.now) (reads c.args.line.now.instr) (phi_reads c.args.line.now.instr) typed.reads typed.phi in
    let mine : All (λ (a : Argument). IsThere c.args.function.now c.args.block c.args.place a.operand) (reads c.args.line.now.instr) = search rules in
    let theirs : EntriesThere c.args.function.now (line_item c.args.block c.args.place c.args.line.now) = search rules in
    let plain : IsNoPhi c.args.line.now.instr = search rules in
    let edges = no_phi_edges c.args.function.now c.args.block c.args.line.now.instr plain in
    first_7 c.args.function.now (line_item c.args.block c.args.place c.args.line.now) (types, typed.kind) (mine, theirs) edges plain tt (c.if-not-line_follows.ensures.0 refl) (λ h. let e = c.if-not-casts_right.ensures.1 h in absurd (cc e))

pub returns : goal.returns
returns c =
    let typed : LineTyped c.args.function.now c.args.line.now = search rules in
    let types = All-append (HasType c.args.function.now) (reads c.args.line.now.instr) (phi_reads c.args.line.now.instr) typed.reads typed.phi in
    let mine : All (λ (a : Argument). IsThere c.args.function.now c.args.block c.args.place a.operand) (reads c.args.line.now.instr) = search rules in
    let theirs : EntriesThere c.args.function.now (line_item c.args.block c.args.place c.args.line.now) = search rules in
    let plain : IsNoPhi c.args.line.now.instr = search rules in
    let edges = no_phi_edges c.args.function.now c.args.block c.args.line.now.instr plain in
    all_kept c.args.function.now (line_item c.args.block c.args.place c.args.line.now) (types, typed.kind) (mine, theirs) edges plain tt (c.if-not-line_follows.ensures.0 refl) (c.if-not-casts_right.ensures.0 refl) tt
