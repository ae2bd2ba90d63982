use Rattle.std.proofs.Common.{◌∙◌, ◌||◌, [], List, ℕ, Bor, get_or, refl, ap, arith, sym}
use Rattle.emit.specs.Graphs.{is_key, is_marked}
use Rattle.emit.proofs.Keeping.{marked_done, marked_more, marked_same}
use Rattle.emit.proofs.kept.marked.Goals as goal
use Rattle.emit.proofs.kept.marked.Goals.{then-has+in_ok-insert, else-has}

abbrev none : Bor (List ℕ)
none = record { ref_ptr = (0, 0); now = [] }

pub loop-number-init : goal.loop-number-init
loop-number-init c = λ name. ap (λ (keys : List (Bor (List ℕ))). is_key keys name || is_marked c.args.names.now c.args.marks.now name) c.new-kept.ensures.empty

pub loop-number-preserved : goal.loop-number-preserved
loop-number-preserved c =
    elim c.if-has.branch [
      | then-has+in_ok-insert w ↦
          rw w.kept-is
          (marked_more c.args.names.now c.args.marks.now c.loop-number.number none (omega arith) (omega arith) c.loop-number.kept.keys c.loop-number.invariant
          w.insert.new.self.keys (get_or c.args.names.now c.loop-number.number none) refl (sym c.has.ensures ∙ w.if-has.true) w.in_ok-insert.ensures.keys)
      | else-has w ↦
          rw w.kept-is
          (marked_same c.args.names.now c.args.marks.now c.loop-number.number none (omega arith) (omega arith) c.loop-number.kept.keys c.loop-number.invariant
          (sym c.has.ensures ∙ w.if-has.false))
    ]

pub returns : goal.returns
returns c = marked_done c.args.names.now c.args.marks.now c.loop-number.number c.loop-number.kept.keys (omega arith) c.loop-number.invariant
