use Rattle.std.proofs.Common.{All, ◌∙◌, ℕ, List, subst, sym}
use Rattle.std.proofs.lemmas.List.Elements.{All-filter}
use Rattle.std.proofs.lemmas.Result.{IfOk-weaker}
use Rattle.std.specs.List.{AllZip}
use Rattle.ir_tree.specs.Wholes.{GlobalSound}
use Rattle.ir_tree.specs.declared.module.GlobalValue.{GlobalValue}
use Rattle.emit.specs.Strips.{IsStripped}
use Rattle.lto_task.specs.Tasks.{task_view}
use Rattle.link_one.specs.TaskUnits.{AreKeptPieces, bodies_in_task, is_defined}
use Rattle.link_one.specs.Units.{IsLinkedPiece}
use Rattle.link_one.proofs.task_unit.kept_pieces.Goals as goal

pub pieces_of-requires-clause-sound : goal.pieces_of-requires-clause-sound
pieces_of-requires-clause-sound c =
    subst (λ (gs : List GlobalValue). All GlobalSound gs) (sym c.requires.defined) (All-filter is_defined GlobalSound (task_view c.args.task.now).own c.requires.own)

pub offers_of-requires : goal.offers_of-requires
offers_of-requires c = c.requires.defined

pub returns : goal.returns
returns c =
    let t = task_view c.args.task.now in
    let pieces = c.in_ok-pieces.pieces in
    IfOk-weaker c.strip.result (IsStripped (record { offers = c.as_slice.result.now; pieces = pieces })) (AreKeptPieces t)
    (λ kept stripped. record {
      pieces = pieces;
      made = subst (λ (gs : List GlobalValue). AllZip (IsLinkedPiece (bodies_in_task t) t.exports) gs pieces) c.requires.defined c.in_ok-pieces.ensures;
      stripped = subst (λ (names : List (List ℕ)). IsStripped (record { offers = names; pieces = pieces }) kept) (c.as_slice.ensures ∙ c.in_ok-offers.ensures) stripped;
    })
    c.strip.ensures
