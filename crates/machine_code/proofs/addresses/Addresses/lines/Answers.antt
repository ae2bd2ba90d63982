use Rattle.std.proofs.Common.{arith}
use Rattle.ir_tree.specs.declared.instr.Line.{Line}
use Rattle.machine_code.specs.Blocks.{IsLineFor}
use Rattle.machine_code.specs.Tasks.{IsSoundInstr}
use Rattle.machine_code.proofs.Zips.{all_at, zip_pushed, zip_start, zip_whole}
use Rattle.machine_code.proofs.addresses.Addresses.lines.Goals as goal

pub loop-line-init : goal.loop-line-init
loop-line-init c = zip_start (IsLineFor c.args.self.now) c.args.lines.now c.in_ok-all.all.items c.in_ok-all.ensures.items

pub line-requires : goal.line-requires
line-requires c = all_at (λ (l : Line). IsSoundInstr l.instr) c.args.lines.now c.loop-line.line-index c.line-item.result c.loop-line-test.true c.line-item.is c.requires

pub loop-line-preserved : goal.loop-line-preserved
loop-line-preserved c =
    zip_pushed (IsLineFor c.args.self.now) c.args.lines.now c.loop-line.all.items _ c.loop-line.line-index c.line-item.result c.in_ok-made.made
    c.loop-line-test.true c.line-item.is c.loop-line.invariant c.in_ok-made.ensures c.in_ok-push.ensures.items

pub returns : goal.returns
returns c = zip_whole (IsLineFor c.args.self.now) c.args.lines.now c.loop-line.all.items c.loop-line.line-index (omega arith) c.loop-line.invariant
