use Rattle.std.proofs.Common.{◌≡◌, ◌∙◌, ◌++◌, ℕ, List, Option, ap, subst, sym}
use Rattle.std.proofs.lemmas.List.Elements.{All-append}
use Rattle.std.specs.List.{AllZip}
use Rattle.std.specs.Prelude.{IfOk}
use Rattle.ir_summary.specs.Once.{texts}
use Rattle.ir_tree.specs.Wholes.{GlobalSound}
use Rattle.ir_tree.specs.declared.function.Function.{Function}
use Rattle.back_end.specs.Inlinable.{AreSound}
use Rattle.back_end.specs.Walking.{bodies_in}
use Rattle.back_end.proofs.Offered.{are_sound}
use Rattle.lto_task.specs.Tasks.{task_view}
use Rattle.importer.specs.Tables.{values}
use Rattle.link_one.specs.Units.{IsLinkedPiece}
use Rattle.link_one.proofs.task_unit.pieces_of.Goals as goal

pub linked_pieces-requires-clause-bodies : goal.linked_pieces-requires-clause-bodies
linked_pieces-requires-clause-bodies c =
    let t = task_view c.args.task.now in
    subst AreSound (sym c.in_ok-bodies.ensures) (are_sound t.inline_limit (t.imported ++ t.own) (All-append GlobalSound t.imported t.own c.requires.imported c.requires.own))

pub returns : goal.returns
returns c =
    let exports : c.in_ok-exported.exported.exports.now ≡ texts c.args.task.now.exports.items =
    c.in_ok-exported.ensures ∙ c.as_slice.ensures ∙ c.in_ok-exports.ensures ∙ ap texts c.deref.ensures.value in
    subst (λ (b : List ℕ → Option Function). IfOk c.linked_pieces.result (λ rows. AllZip (IsLinkedPiece b (texts c.args.task.now.exports.items)) (values c.args.globals.now) rows)) c.in_ok-bodies.ensures
    (subst (λ (es : List (List ℕ)). IfOk c.linked_pieces.result (λ rows. AllZip (IsLinkedPiece (bodies_in c.in_ok-bodies.bodies) es) (values c.args.globals.now) rows)) exports c.linked_pieces.ensures)
