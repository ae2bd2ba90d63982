use Rattle.std.proofs.Common.{◌≡◌, ◌∙◌, ◌↔◌, ◌++◌, [], ℕ, List, Bor, ap, map, refl, slice_index_or, subst}
use Rattle.std.specs.List.{Contains}
use Rattle.ir_summary.specs.Once.{texts}
use Rattle.ir_tree.specs.declared.module.GlobalValue.{GlobalValue}
use Rattle.lto_task.specs.Tasks.{globals_of}
use Rattle.merge_meaning.specs.ByName.{IsInOrder}
use Rattle.importer.specs.Brought.{brought, joined, names_of}
use Rattle.importer.specs.Tables.{values}
use Rattle.importer.specs.Tasks.{IsModuleOf, name_of}
use Rattle.importer.proofs.setting.Setting.task_of.Goals as goal

pub returns : goal.returns
returns c =
    let s = c.args.self.now in
    let part : c.part_at-part.result.now ≡ slice_index_or s.parts.now c.args.number [] = c.part_at-part.ensures in
    record {
      limit_is = refl;
      exports_rise = c.in_ok-exports.ensures.rise;
      exports_are = λ name.
          subst (λ (gs : List GlobalValue). Contains (texts c.in_ok-exports.exports.items) name ↔ (Contains s.exports.now name × Contains (map name_of gs) name)) part (c.in_ok-exports.ensures.are name);
      promoted_rise = c.in_ok-promoted.ensures.rise;
      promoted_are = λ name. subst (λ (ns : List ℕ). Contains c.in_ok-promoted.promoted.items name ↔ Contains (names_of s.symbols.now s.suffixes.now ns) name) c.list_at.ensures (c.in_ok-promoted.ensures.are name);
      own =
          subst (λ (gs : List GlobalValue). IsModuleOf (joined s.parts.now) gs (globals_of c.in_ok-own.own))
          (c.in_ok-push_all.ensures ∙ ap (λ (l : List (Bor GlobalValue)). values l ++ c.part_at-part.result.now) c.new-defined.ensures.items ∙ part) c.in_ok-own.ensures;
      bodies = values c.in_ok-bodies.bodies.items;
      bodies_are = subst (λ (ns : List ℕ). IsInOrder (brought (joined s.parts.now) s.symbols.now s.suffixes.now ns) (values c.in_ok-bodies.bodies.items)) c.list_at-2.ensures c.in_ok-bodies.ensures;
      imported = c.in_ok-imported.ensures;
    }
