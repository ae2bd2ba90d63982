use Rattle.std.proofs.Common.{◌≡◌, ◌+◌, ℕ, suc, List, length, sym, subst, arith}
use Rattle.ir_tree.specs.declared.module.GlobalValue.{GlobalValue}
use Rattle.ir_machine.specs.declared.block.Block.{Block}
use Rattle.ir_machine.specs.declared.memory.Memory.{Memory}
use Rattle.machine_code.specs.Openings.{IsGlobalSound}
use Rattle.machine_code.proofs.Lists.{read_got}
use Rattle.machine_code.proofs.Beginning.{is_opening, sound_globals}
use Rattle.machine_code.proofs.Storing.{AreAdded, added_more, none_added}
use Rattle.machine_code.proofs.start.opening.Goals as goal

pub loop-global-init : goal.loop-global-init
loop-global-init c = subst (λ (bs : List Block). AreAdded c.args.bases.now c.args.globals.now 0 bs) (sym c.new-blocks.ensures.items) (none_added c.args.bases.now c.args.globals.now)

pub add-requires : goal.add-requires
add-requires c =
    subst (λ (g : GlobalValue). IsGlobalSound g) (sym c.global-item.is)
    (sound_globals c.args.globals.now c.requires.runnable c.loop-global.global-index c.global-item.result c.loop-global-test.true)

pub loop-global-preserved : goal.loop-global-preserved
loop-global-preserved c =
    let gs = c.args.globals.now in
    let k = c.loop-global.global-index in
    let g = c.global-item.result in
    let one : suc k ≡ k + 1 = omega arith in
    subst (λ (j : ℕ). AreAdded c.args.bases.now gs j c.add.new.blocks.items) one
    (added_more c.args.bases.now gs k g (read_got gs k g c.loop-global-test.true c.global-item.is) c.loop-global.blocks.items c.loop-global.invariant c.add.new.blocks.items c.in_ok-add.ensures)

pub returns : goal.returns
returns c =
    let m : Memory = record { blocks = c.loop-global.blocks; made = c.len-made.result } in
    let made : c.len-made.result ≡ length c.loop-global.blocks.items = omega (arith, c.len-made.ensures, c.loop-global.blocks.ok) in
    is_opening c.args.globals.now c.requires.runnable.once c.args.bases.now c.requires.table c.loop-global.global-index (omega (arith, c.loop-global-test.false)) m c.loop-global.invariant made
