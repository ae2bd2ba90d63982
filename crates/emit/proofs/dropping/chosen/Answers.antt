use Rattle.std.proofs.Common.{◌≡◌, ◌∙◌, ◌+◌, ◌++◌, ◌∷◌, [], if◌then◌else◌, false, ℕ, List, ap, get_or, length, sym}
use Rattle.std.proofs.lemmas.List.{length_push}
use Rattle.lto_task.specs.declared.piece.Piece.{Piece}
use Rattle.emit.specs.Strips.{chosen}
use Rattle.emit.proofs.Chosen.{chosen_more}
use Rattle.emit.proofs.dropping.chosen.Goals as goal

pub loop-piece-preserved : goal.loop-piece-preserved
loop-piece-preserved c =
    let place : c.loop-piece.place ≡ length c.loop-piece.yielded = c.loop-piece.invariant.place in record {
      place = ap (λ (n : ℕ). n + 1) place ∙ sym (length_push c.loop-piece.yielded c.in-Some.piece);
      kept =
          c.in_ok-keep.ensures
          ∙ ap (λ (l : List Piece). l ++ (if get_or c.args.marks.now c.loop-piece.place false then c.in-Some.piece ∷ [] else [])) c.loop-piece.invariant.kept
          ∙ ap (λ (n : ℕ). chosen c.loop-piece.yielded c.args.marks.now ++ (if get_or c.args.marks.now n false then c.in-Some.piece ∷ [] else [])) place
          ∙ sym (chosen_more c.loop-piece.yielded c.args.marks.now c.in-Some.piece);
    }
