use Rattle.std.proofs.Common.{◌≡◌, ◌∙◌, ◌+◌, [], ℕ, List, Vec, Global, length, ap, get_or, subst, sym, slice_index_or, arith}
use Rattle.std.proofs.lemmas.List.{get_or_read, length-map, length_push}
use Rattle.ir_tree.specs.declared.operand.Symbol.{Symbol}
use Rattle.combined_index.specs.declared.definition.Definition.{Definition}
use Rattle.thin_link.specs.Plans.{Imports, definitions_at}
use Rattle.thin_link.specs.Views.{rows}
use Rattle.thin_link.proofs.Planned.{one_module}
use Rattle.thin_link.proofs.planning.plan.Goals as goal

pub loop-definitions-preserved : goal.loop-definitions-preserved
loop-definitions-preserved c = record {
  size = c.in_ok-imports.ensures.0 ∙ c.loop-definitions.invariant.size;
  modules =
      ap length c.in_ok-push.ensures.items ∙ length_push c.loop-definitions.lists.items c.in_ok-imports.field-0 ∙ ap (λ (n : ℕ). n + 1) c.loop-definitions.invariant.modules;
  imports = λ m h.
      subst (λ (all : List (Vec ℕ Global)). Imports c.args.index.now c.args.live.now c.args.limit (definitions_at c.args.index.now m) (slice_index_or (rows all) m [])) (sym c.in_ok-push.ensures.items)
      (one_module c.args.index.now c.args.live.now c.args.limit c.loop-definitions.lists.items c.loop-definitions.definitions-index c.in_ok-imports.field-0 c.loop-definitions.invariant.modules
      (subst (λ (own : List Definition). Imports c.args.index.now c.args.live.now c.args.limit own c.in_ok-imports.field-0.items)
      (c.as_slice.ensures
      ∙ get_or_read c.modules-definitions-items.result.now c.loop-definitions.definitions-index c.definitions-item.result c.loop-definitions-test.true c.definitions-item.is []
      ∙ ap (λ (ms : List (List Definition)). get_or ms c.loop-definitions.definitions-index []) c.modules-definitions-items.ensures.modules) c.in_ok-imports.ensures.1)
      c.loop-definitions.invariant.imports m h);
}

pub returns : goal.returns
returns c =
    let whole : length c.modules-definitions-items.result.now ≡ length c.args.index.now.modules = ap length c.modules-definitions-items.ensures.modules in
    let all : c.loop-definitions.definitions-index ≡ length c.args.index.now.modules = omega (arith, whole) in
    record {
      modules = length-map c.loop-definitions.lists.items (λ (v : Vec ℕ Global). v.items) ∙ c.loop-definitions.invariant.modules ∙ all;
      imports = λ m h. c.loop-definitions.invariant.imports m (omega (arith, h, all));
    }

pub loop-definitions-init : goal.loop-definitions-init
loop-definitions-init c =
    let symbols = ap (λ (ss : List Symbol). length ss) c.symbols.ensures.symbols in
    record {
      size = omega (arith, symbols, c.in_ok-seen.ensures);
      modules = ap length c.new-lists.ensures.items;
      imports = λ m h. absurd (omega (arith, h));
    }
