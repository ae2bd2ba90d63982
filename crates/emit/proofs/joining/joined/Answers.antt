use Rattle.std.proofs.Common.{◌≡◌, ◌∙◌, ◌++◌, ℕ, List, append_assoc, ap, ap₂, codes, subst}
use Rattle.lto_task.specs.declared.piece.Piece.{Piece}
use Rattle.emit.specs.Graphs.{is_key}
use Rattle.emit.specs.Joins.{IsInNameOrder, getchar_line, lines_of, putchar_line}
use Rattle.emit.specs.declared.order.Group.TheVariants.{Functions, Variables}
use Rattle.emit.proofs.Listing.{line_used, units_due}
use Rattle.emit.proofs.joining.joined.Goals as goal

-- what is added part by part
in_parts : (header vs hs fs a b c d : List ℕ) → a ≡ header → b ≡ a ++ vs → c ≡ b ++ hs → d ≡ c ++ fs → d ≡ header ++ (vs ++ (hs ++ fs))
in_parts header vs hs fs a b c d begun variables hosts functions =
    functions
    ∙ ap (λ (l : List ℕ). l ++ fs) (hosts ∙ ap (λ (l : List ℕ). l ++ hs) (variables ∙ ap (λ (l : List ℕ). l ++ vs) begun))
    ∙ append_assoc (header ++ vs) hs fs ∙ append_assoc header vs (hs ++ fs)

pub returns : goal.returns
returns c = λ exports kept.
    let variables = c.in_ok-push_group.ensures in
    let functions = c.in_ok-push_group-2.ensures in record {
      keeps = is_key c.args.kept.now.keys;
      kept = kept;
      variables = variables.0;
      variables_are = subst (λ (ps : List Piece). IsInNameOrder ps variables.0) (units_due c.args.kept.now.keys Variables c.args.units.now) variables.1;
      functions = functions.0;
      functions_are = subst (λ (ps : List Piece). IsInNameOrder ps functions.0) (units_due c.args.kept.now.keys Functions c.args.units.now) functions.1;
      is =
          in_parts c.args.header.now (lines_of variables.0) _ (lines_of functions.0) c.in_ok-out.out c.push_group.new.out c.push_hosts.new.out c.push_group-2.new.out c.in_ok-out.ensures
          variables.2
          (c.in_ok-push_hosts.ensures
          ∙ ap (λ (l : List ℕ). c.push_group.new.out ++ l)
          (ap₂ (λ (a b : List ℕ). a ++ b) (line_used c.args.kept.now.keys c.args.units.now (codes "getchar") getchar_line)
          (line_used c.args.kept.now.keys c.args.units.now (codes "putchar") putchar_line)))
          functions.2;
    }
