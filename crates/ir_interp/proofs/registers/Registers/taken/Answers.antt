use Rattle.std.proofs.Common.{◌∙◌}
use Rattle.ir_interp.specs.declared.source.Source.TheVariants.{Register}
use Rattle.ir_interp.proofs.Edges.{edge_known, edge_taken}
use Rattle.ir_interp.proofs.registers.Registers.taken.Goals as goal

pub returns-then-edge-from-clause-value : goal.returns-then-edge-from-clause-value
returns-then-edge-from-clause-value c = λ names m memory locals a k.
    let es = c.args.edges.now in
    let i = c.loop-edge.edge-index in
    (c.value.ensures names m memory locals a (edge_known names m memory es i (record { from = 0; source = Register 0 }) k c.loop-edge-test.true)).0
    ∙ edge_taken names locals c.args.from es i (record { from = 0; source = Register 0 }) c.loop-edge-test.true c.if-edge-from.true
    ∙ c.loop-edge.invariant names locals

pub returns-then-edge-from-clause-valid : goal.returns-then-edge-from-clause-valid
returns-then-edge-from-clause-valid c = λ names m memory locals a k.
    (c.value.ensures names m memory locals a (edge_known names m memory c.args.edges.now c.loop-edge.edge-index (record { from = 0; source = Register 0 }) k c.loop-edge-test.true)).1
