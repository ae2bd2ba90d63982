use Rattle.std.proofs.Common.{◌∙◌, [], ℕ, Bor, List, ap, arith, take_all}
use Rattle.std.specs.Prelude.{filter_map}
use Rattle.ir_summary.specs.Once.{texts}
use Rattle.importer.specs.Brought.{joined}
use Rattle.importer.specs.Tables.{lacked_as, value_in}
use Rattle.importer.proofs.Tabled.{found_more}
use Rattle.importer.proofs.setting.Setting.declarations.Goals as goal

pub loop-name-preserved : goal.loop-name-preserved
loop-name-preserved c =
    found_more (lacked_as (joined c.args.self.now.parts.now) (value_in c.args.own.now)) c.loop-name.declared c.push_some.new.list [] c.args.names.now c.loop-name.name-index _ c.in_ok-value.value (omega arith)
    c.loop-name.invariant c.in_ok-value.ensures c.in_ok-push_some.ensures

pub returns : goal.returns
returns c =
    c.loop-name.invariant
    ∙ ap (λ (ns : List (Bor (List ℕ))). filter_map (lacked_as (joined c.args.self.now.parts.now) (value_in c.args.own.now)) (texts ns)) (take_all c.loop-name.name-index c.args.names.now (omega (arith, c.loop-name-test.false)))
