use Rattle.std.proofs.Common.{◌∙◌, ◌++◌, List, ℕ, length, take, take-append-drop, drop, sym, ap}
use Rattle.std.proofs.Math.Seq.{take-append_seam}
use Rattle.std.proofs.lemmas.Bool.{false≢true}
use Rattle.std.proofs.lemmas.Slice.Eq.{bytes_eq-Decides}
use Rattle.lto_task.proofs.splits.behind.Goals as goal

pub returns-in-Some : goal.returns-in-Some
returns-in-Some c =
    sym (take-append-drop (length c.args.front.now) c.args.bytes.now)
    ∙ ap (λ (l : List ℕ). l ++ drop (length c.args.front.now) c.args.bytes.now) ((bytes_eq-Decides (take (length c.args.front.now) c.args.bytes.now) c.args.front.now).0 c.in-Some.ensures.cases.0)
    ∙ ap (λ (l : List ℕ). c.args.front.now ++ l) (sym c.in-Some.ensures.cases.1)

pub returns-in-None : goal.returns-in-None
returns-in-None c = λ rest is.
    false≢true
    (sym c.in-None.ensures.cases
    ∙ (bytes_eq-Decides (take (length c.args.front.now) c.args.bytes.now) c.args.front.now).1 (ap (take (length c.args.front.now)) is ∙ take-append_seam c.args.front.now rest))
