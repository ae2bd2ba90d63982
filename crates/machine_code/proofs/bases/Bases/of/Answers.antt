use Rattle.std.proofs.Common.{◌≡◌, ℕ, suc, ◌+◌, List, sym, ap, ◌∙◌, arith}
use Rattle.std.specs.Map.{lookup}
use Rattle.ir_tree.specs.Symbols.{symbol_eq}
use Rattle.ir_tree.specs.declared.operand.Symbol.{Symbol}
use Rattle.ir_machine.specs.declared.scalar.Base.{Base}
use Rattle.ir_meaning.specs.Programs.{behind, defined}
use Rattle.machine_code.specs.MemoryAddresses.{base_in, key_symbol}
use Rattle.machine_code.specs.Tables.{base_at, noted, number_at}
use Rattle.machine_code.specs.declared.key.Key.{Key}
use Rattle.machine_code.proofs.Lists.{read_got}
use Rattle.machine_code.proofs.Tabling.{few_behind, next_at, next_table, no_number, no_table, whole_table}
use Rattle.machine_code.proofs.bases.Bases.of.Goals as goal

pub loop-index-init : goal.loop-index-init
loop-index-init c = record {
  within = omega arith;
  few = omega arith;
  count = sym (no_number 0 c.args.globals.now);
  table = λ once. no_table c.args.globals.now _ (λ s. ap (λ (es : List (Key × Base)). lookup (λ (key : Key). symbol_eq s (key_symbol key)) es) c.new.ensures.empty);
}

pub loop-index-preserved : goal.loop-index-preserved
loop-index-preserved c =
    let g = c.index-globals-index.result in
    let gs = c.args.globals.now in
    let i = c.loop-index.index in
    let here = read_got gs i g c.loop-index-test.true c.index-globals-index.is in
    let few = few_behind c.loop-index.number (defined c.loop-index.number g) in
    let one : suc i ≡ i + 1 = omega arith in
    record {
      within = omega (arith, c.loop-index-test.true);
      few = omega (arith, few, c.next_number-number.ensures, c.loop-index.invariant.few);
      count = c.next_number-number.ensures ∙ ap (λ (n : ℕ). behind n (defined n g)) c.loop-index.invariant.count ∙ sym (next_at 0 gs i g here) ∙ ap (λ (j : ℕ). number_at 0 gs j) one;
      table = λ once. next_table gs once i g here c.loop-index.bases c.note.new.self c.base-made.result (c.base-made.ensures ∙ ap (λ (n : ℕ). base_at i n g) c.loop-index.invariant.count)
          (λ s. c.in_ok-note.ensures s ∙ ap (λ (at : Symbol). noted at c.base-made.result s (base_in c.loop-index.bases s)) (c.of.ensures ∙ c.symbol_of.ensures))
          (c.loop-index.invariant.table once);
    }

pub returns : goal.returns
returns c = λ once.
    let gs = c.args.globals.now in
    whole_table gs c.loop-index.index c.loop-index.bases (omega (arith, c.loop-index-test.false)) (c.loop-index.invariant.table once)
