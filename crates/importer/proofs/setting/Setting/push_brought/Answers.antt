use Rattle.std.proofs.Common.{◌∙◌, ◌++◌, ℕ, List, ap, Option, arith, take_all}
use Rattle.std.specs.Prelude.{option_copied, slice_get}
use Rattle.ir_tree.specs.declared.operand.Symbol.{Symbol}
use Rattle.importer.specs.Brought.{brought, joined, value_of}
use Rattle.importer.specs.Tables.{values}
use Rattle.importer.proofs.Tabled.{given_more}
use Rattle.importer.proofs.setting.Setting.push_brought.Goals as goal

pub loop-number-preserved : goal.loop-number-preserved
loop-number-preserved c =
    given_more (λ n. value_of (joined c.args.self.now.parts.now) c.args.self.now.suffixes.now (slice_get c.args.self.now.symbols.now n)) c.loop-number.list.items c.push_some.new.list.items c.args.list.now.items
    c.args.numbers.now c.loop-number.number-index (option_copied c.in_ok-value.value) (omega arith) c.loop-number.invariant
    (c.in_ok-value.ensures ∙ ap (λ (o : Option Symbol). value_of (joined c.args.self.now.parts.now) c.args.self.now.suffixes.now o) c.symbol_at.ensures) c.in_ok-push_some.ensures

pub returns : goal.returns
returns c =
    c.loop-number.invariant
    ∙ ap (λ (ns : List ℕ). values c.args.list.now.items ++ brought (joined c.args.self.now.parts.now) c.args.self.now.symbols.now c.args.self.now.suffixes.now ns)
    (take_all c.loop-number.number-index c.args.numbers.now (omega (arith, c.loop-number-test.false)))
