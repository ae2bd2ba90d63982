use Rattle.std.proofs.Common.{◌∙◌, ap, arith, sym, is_none}
use Rattle.ir_tree.specs.declared.module.GlobalValue.{GlobalValue}
use Rattle.ir_meaning.specs.Programs.{symbol_of}
use Rattle.merge_meaning.specs.Merged.{standing_of}
use Rattle.merge_meaning.proofs.Own.{not_own, own_more}
use Rattle.merge_meaning.proofs.scope.own_names.Goals as goal
use Rattle.merge_meaning.proofs.scope.own_names.Goals.{then-is_local+in_ok-insert, else-is_local}

pub loop-global-preserved : goal.loop-global-preserved
loop-global-preserved c =
    let same = sym (ap (λ (g : GlobalValue). is_none (standing_of g)) c.global-item.is) ∙ sym c.is_local.ensures in
    elim c.if-is_local.branch [
      | then-is_local+in_ok-insert w ↦
          rw w.own-is
          (own_more c.args.globals.now c.loop-global.global-index c.global-item.result (omega arith) c.loop-global.own.keys c.loop-global.invariant w.insert.new.self.keys w.name_of.result
          (w.name_of.ensures ∙ ap (λ (g : GlobalValue). (symbol_of g).name) c.global-item.is) (same ∙ w.if-is_local.true) w.in_ok-insert.ensures.keys)
      | else-is_local w ↦
          rw w.own-is
          (not_own c.args.globals.now c.loop-global.global-index c.global-item.result (omega arith) c.loop-global.own.keys c.loop-global.invariant (same ∙ w.if-is_local.false))
    ]
