use Rattle.std.proofs.Common.{◌∙◌, List, ℕ, sym, ap, subst}
use Rattle.std.specs.Prelude.{◌==◌, All, length}
use Rattle.std.proofs.lemmas.Bool.{false≢true}
use Rattle.std.proofs.lemmas.List.Elements.{All-push}
use Rattle.lto_task.specs.Units.{IsWritten}
use Rattle.lto_task.specs.declared.piece.Piece.{Piece}
use Rattle.lto_task.proofs.Apart.{next_piece, shorter, text_more}
use Rattle.lto_task.proofs.taking_apart.all_pieces.Goals as goal

pub returns-in_default : goal.returns-in_default
returns-in_default c = λ ps all is.
    let next = next_piece c.loop-reader.pieces c.loop-reader.reader.rest.now ps c.loop-reader.invariant.written all (λ e. false≢true (sym c.loop-reader-test.true ∙ c.is_empty.ensures ∙ ap (λ (l : List ℕ). length l == 0) e)) (sym c.loop-reader.invariant.read ∙ is) in
    (rw c.in_default.is at c.in_ok-piece.ensures) next.0 next.1 next.2 next.3

pub loop-reader-preserved : goal.loop-reader-preserved
loop-reader-preserved c =
    let read = rw c.in-Some.is at c.in_ok-piece.ensures in record {
      written = subst (λ (ps : List Piece). All IsWritten ps) (sym c.in_ok-push.ensures.ok) (All-push IsWritten c.loop-reader.pieces c.in-Some.piece c.loop-reader.invariant.written read.0);
      read = text_more c.args.bytes.now c.loop-reader.pieces c.push.new.self c.in-Some.piece c.loop-reader.reader.rest.now c.piece.new.self.rest.now c.loop-reader.invariant.read read.1 c.in_ok-push.ensures.ok;
    }

pub loop-reader-smaller : goal.loop-reader-smaller
loop-reader-smaller c =
    let read = rw c.in-Some.is at c.in_ok-piece.ensures in
    shorter c.in-Some.piece c.loop-reader.reader.rest.now c.piece.new.self.rest.now read.1
