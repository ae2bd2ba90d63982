use Rattle.std.proofs.Common.{◌≡◌, ◌++◌, take}
use Rattle.importer.specs.Brought.{brought, joined}
use Rattle.importer.specs.Tables.{values}
use Rattle.importer.proofs.setting.Setting.push_brought.Given as goal

abbrev pub invariant-loop-number : goal.invariant-loop-number
invariant-loop-number l =
    values l.list.items ≡ values l.fn.list.items ++ brought (joined l.self.parts.now) l.self.symbols.now l.self.suffixes.now (take l.number-index l.numbers)
