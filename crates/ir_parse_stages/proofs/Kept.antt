-- One more mark that is kept.
use Rattle.std.proofs.Common.{◌≡◌, sym, ap, ◌∙◌, List, [], ◌∷◌, ◌++◌, append_assoc}
use Rattle.std.proofs.lemmas.List.{append-nil}
use Rattle.ir_parse_stages.specs.declared.mark.Mark as code
use Rattle.ir_parse_stages.specs.MarkViews.{standing, marks}

pub pushed : (ms : List code.Mark) (m : code.Mark) → marks (ms ++ m ∷ []) ≡ marks ms ++ standing m
pushed [] m = append-nil (standing m)
pushed (x ∷ ms) m = ap (λ more. standing x ++ more) (pushed ms m) ∙ sym (append_assoc (standing x) (marks ms) (standing m))
