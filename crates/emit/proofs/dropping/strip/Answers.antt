use Rattle.std.proofs.Common.{◌≡◌, ◌∙◌, ◌↔◌, true, Bool, List, ap, length, map, subst, sym}
use Rattle.std.proofs.lemmas.List.{length-map}
use Rattle.std.proofs.lemmas.Result.{IfOk-weaker}
use Rattle.lto_task.specs.declared.piece.Piece.{Piece}
use Rattle.emit.specs.Joins.{IsUsed}
use Rattle.emit.specs.Strips.{chosen}
use Rattle.emit.proofs.Chosen.{chosen_passes}
use Rattle.emit.proofs.dropping.strip.Goals as goal

pub chosen-requires : goal.chosen-requires
chosen-requires c =
    let marks = c.in_ok-marks.ensures in
    ap (λ (l : List Bool). length l) (c.deref.ensures.value ∙ marks.are) ∙ length-map c.as_slice.result.now (λ (p : Piece). marks.keeps p.name)
    ∙ ap (λ (l : List Piece). length l) (c.as_slice.ensures ∙ sym c.into_vec.ensures)

pub returns : goal.returns
returns c =
    let marks = c.in_ok-marks.ensures in
    let pieces : c.as_slice.result.now ≡ c.args.pieces = c.as_slice.ensures in
    IfOk-weaker c.chosen.result _ _
    (λ kept is. record {
      keeps = marks.keeps;
      reached = λ name. subst (λ (ps : List Piece). (marks.keeps name ≡ true) ↔ IsUsed c.args.offers.now ps name) pieces (marks.reached name);
      is =
          is
          ∙ ap (λ (ms : List Bool). chosen c.into_vec.result.items ms) (c.deref.ensures.value ∙ marks.are ∙ ap (map (λ (p : Piece). marks.keeps p.name)) pieces)
          ∙ ap (λ (ps : List Piece). chosen ps (map (λ (p : Piece). marks.keeps p.name) c.args.pieces)) c.into_vec.ensures
          ∙ chosen_passes (λ (p : Piece). marks.keeps p.name) c.args.pieces;
    })
    c.chosen.ensures
