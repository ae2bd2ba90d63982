use Rattle.std.proofs.Common.{ap, subst, ◌∙◌, ◌<◌, List, length, get_or}
use Rattle.ir_tree.specs.declared.instr.Phi.{Phi}
use Rattle.ir_verify.proofs.Walked.{phi_formed, phi_below, went_phi}
use Rattle.ir_verify.proofs.blocks.Walk.phis_fault.Goals as goal

pub phi_broken-requires-clause-known : goal.phi_broken-requires-clause-known
phi_broken-requires-clause-known c = c.requires.walk.known

pub phi_broken-requires-clause-formed : goal.phi_broken-requires-clause-formed
phi_broken-requires-clause-formed c = c.requires.walk.formed

pub phi_broken-requires-clause-item : goal.phi_broken-requires-clause-item
phi_broken-requires-clause-item c =
    phi_formed c.args.self.now.function.now c.args.self.now.lines.now c.requires.walk.formed c.requires.walk.lined c.args.place c.args.block.now c.args.at c.requires.stands
    c.loop-phi.phi c.index-phis-phi.result (subst (λ (ps : List Phi). c.loop-phi.phi < length ps) c.as_slice-phis.ensures c.loop-phi-test.true) (c.index-phis-phi.is ∙ ap (λ (ps : List Phi). get_or ps c.loop-phi.phi c.index-phis-phi.result) c.as_slice-phis.ensures)

pub line_of-on-requires : goal.line_of-on-requires
line_of-on-requires c =
    phi_below c.args.self.now.function.now c.args.self.now.lines.now c.requires.walk.formed c.requires.walk.lined c.args.place c.args.block.now c.args.at c.requires.stands
    c.loop-phi.phi c.index-phis-phi.result (subst (λ (ps : List Phi). c.loop-phi.phi < length ps) c.as_slice-phis.ensures c.loop-phi-test.true) (c.index-phis-phi.is ∙ ap (λ (ps : List Phi). get_or ps c.loop-phi.phi c.index-phis-phi.result) c.as_slice-phis.ensures)

pub loop-phi-preserved : goal.loop-phi-preserved
loop-phi-preserved c =
    went_phi c.args.self.now.function.now c.args.self.now.lines.now c.requires.walk.formed c.requires.walk.lined c.args.place c.args.block.now c.args.at c.requires.stands
    c.loop-phi.phi c.index-phis-phi.result (subst (λ (ps : List Phi). c.loop-phi.phi < length ps) c.as_slice-phis.ensures c.loop-phi-test.true) (c.index-phis-phi.is ∙ ap (λ (ps : List Phi). get_or ps c.loop-phi.phi c.index-phis-phi.result) c.as_slice-phis.ensures)
    c.args.self.now.number c.line_of-on.result c.in_ok-broken.broken c.args.found c.loop-phi.best c.noted-best.result c.line_of-on.ensures c.in_ok-broken.ensures c.noted-best.ensures c.loop-phi.invariant
