-- What stays of the modules of a link says of them what they said.
use Rattle.std.proofs.Common.{◌≡◌, ◌∙◌, ℕ, Bool, List, All, ap, ap₂, arith, length, subst, sym}
use Rattle.std.specs.List.{flat_map}
use Rattle.ir_tree.specs.Wholes.{IsVerified}
use Rattle.ir_tree.specs.declared.module.GlobalValue.{GlobalValue}
use Rattle.ir_tree.specs.declared.module.Module.{Module}
use Rattle.combined_index.specs.Combined.{Combined}
use Rattle.combined_index.specs.Finals.{NoneTaken, final_names}
use Rattle.combined_index.specs.Promotions.{ArePromoted}
use Rattle.thin_link.specs.Linking.{IsThinLink}
use Rattle.thin_link.specs.Views.{rows}
use Rattle.merge_meaning.specs.Lives.{parts}
use Rattle.lto_task.specs.Tasks.{TaskView}
use Rattle.emit.specs.Joins.{IsJoin}
use Rattle.importer.specs.ModuleTasks.{IsTaskOfNumber}
use Rattle.link_one.specs.LinkedLaws.{IsLinkedText, UnitsAreLinked}
use Rattle.link_one.specs.ModuleUnits.{AreUnits, IsTaskInLink}
use Rattle.link_one.specs.Preparing.{IsJoined, IsPrepared, IsTaskPrepared, header_of}
use Rattle.link_one.specs.declared.prepare.Prepared.{Prepared}
use Rattle.link_one.proofs.LinkTasks.{parts_long}

-- what stays of decided modules is what was decided
pub prepared_of : (exports : List (List ℕ)) (limit : ℕ) (suffixes : List (List ℕ)) (ms : List Module) (index : Combined) (live : List Bool) (imports : List (List ℕ)) (p : Prepared)
    → IsThinLink ms exports limit index live imports → NoneTaken (final_names suffixes index.symbols live)
    → p.index ≡ index → p.live ≡ live → rows p.imports.items ≡ imports
    → ArePromoted index imports (rows p.promoted.items) → p.parts.items ≡ parts ms index.symbols live suffixes → p.header ≡ header_of ms
    → IsPrepared exports limit suffixes ms p
prepared_of exports limit suffixes ms index live imports p thin named same_index same_live same_imports promoted_are parts_are header_is = record {
  thin =
      subst (λ (x : Combined). IsThinLink ms exports limit x p.live (rows p.imports.items)) (sym same_index)
      (subst (λ (x : List Bool). IsThinLink ms exports limit index x (rows p.imports.items)) (sym same_live)
      (subst (λ (x : List (List ℕ)). IsThinLink ms exports limit index live x) (sym same_imports) thin));
  named =
      subst (λ (x : Combined). NoneTaken (final_names suffixes x.symbols p.live)) (sym same_index)
      (subst (λ (x : List Bool). NoneTaken (final_names suffixes index.symbols x)) (sym same_live) named);
  promoted_are =
      subst (λ (x : Combined). ArePromoted x (rows p.imports.items) (rows p.promoted.items)) (sym same_index)
      (subst (λ (x : List (List ℕ)). ArePromoted index x (rows p.promoted.items)) (sym same_imports) promoted_are);
  parts_are = parts_are ∙ ap₂ (λ (x : Combined) (l : List Bool). parts ms x.symbols l suffixes) (sym same_index) (sym same_live);
  header_is = header_is;
}

module _ (exports : List (List ℕ)) (import_limit inline_limit : ℕ) (suffixes : List (List ℕ)) (ms : List Module) (p : Prepared) (prepared : IsPrepared exports import_limit suffixes ms p) where
  -- there is a part for each module
  pub parts_counted : length p.parts.items ≡ length ms
  parts_counted = ap length prepared.parts_are ∙ parts_long ms p.index.symbols p.live suffixes 0 ms

  -- the task of a part is one of the link
  pub task_in_link : (t : TaskView) → IsTaskPrepared exports inline_limit suffixes p t → IsTaskInLink exports import_limit inline_limit suffixes ms t
  task_in_link t task = record {
    index = p.index;
    live = p.live;
    imports = rows p.imports.items;
    thin = prepared.thin;
    named = prepared.named;
    promoted = rows p.promoted.items;
    promoted_are = prepared.promoted_are;
    number = task.number;
    within = omega (arith, task.within, parts_counted);
    task = subst (λ (gs : List (List GlobalValue)). IsTaskOfNumber exports inline_limit p.index.symbols suffixes (rows p.imports.items) (rows p.promoted.items) gs task.number t) prepared.parts_are task.task;
  }

  -- what is joined of units of the parts is the text of a linked module
  pub joined_is_linked : UnitsAreLinked → All IsVerified ms → (text : List ℕ) → IsJoined exports inline_limit suffixes p text → IsLinkedText exports import_limit inline_limit suffixes ms text
  joined_is_linked law verified text joined =
      law exports import_limit inline_limit suffixes ms p.index p.live (rows p.imports.items) joined.units text verified prepared.thin prepared.named
      (record {
        promoted = rows p.promoted.items;
        promoted_are = prepared.promoted_are;
        are = subst (λ (gs : List (List GlobalValue)). AreUnits exports inline_limit p.index.symbols suffixes (rows p.imports.items) (rows p.promoted.items) gs joined.units) prepared.parts_are joined.are;
      })
      (subst (λ (h : List ℕ). IsJoin exports (flat_map (λ u. u) joined.units) h text) prepared.header_is joined.join)
