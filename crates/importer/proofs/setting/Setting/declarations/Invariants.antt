use Rattle.std.proofs.Common.{◌≡◌, take}
use Rattle.std.specs.Prelude.{filter_map}
use Rattle.ir_summary.specs.Once.{texts}
use Rattle.importer.specs.Brought.{joined}
use Rattle.importer.specs.Tables.{lacked_as, value_in}
use Rattle.importer.proofs.setting.Setting.declarations.Given as goal

abbrev pub invariant-loop-name : goal.invariant-loop-name
invariant-loop-name l = l.declared ≡ filter_map (lacked_as (joined l.self.parts.now) (value_in l.own)) (texts (take l.name-index l.names))
