use Rattle.std.proofs.Common.{ℕ, ◌+◌, List, [], ◌∷◌, ◌++◌, drop, map, append_assoc, append-nil, sym, ap, ◌∙◌}
use Rattle.std.proofs.lemmas.List.{drop_all}
use Rattle.ir_parse_parts.specs.declared.raw.WrittenLine.{WrittenLine}
use Rattle.ir_parse_names.proofs.Each.{here}
use Rattle.ir_parse.proofs.value_lines.push_block.Goals as goal

abbrev lines : List WrittenLine → List ℕ
lines written = map (λ k. k.line) written

pub each-preserved : goal.each-preserved
each-preserved c =
    let written = c.as_slice-line-items.result.now in
    ap (λ (ls : List ℕ). ls ++ lines (drop (c.each.line-index + 1) written)) c.in_ok-push.ensures.ok
    ∙ append_assoc c.each.lines (c.line-item.result.line ∷ []) (lines (drop (c.each.line-index + 1) written))
    ∙ sym (ap (λ (ws : List WrittenLine). c.each.lines ++ lines ws) (here written c.each.line-index c.line-item.result c.each-test.true c.line-item.is))
    ∙ c.each.invariant

pub returns : goal.returns
returns c =
    let written = c.as_slice-line-items.result.now in
    c.in_ok-push-2.ensures.ok
    ∙ ap (λ (ls : List ℕ). ls ++ c.args.block.now.end_line ∷ []) (sym (append-nil c.each.lines) ∙ sym (ap (λ (ws : List WrittenLine). c.each.lines ++ lines ws) (drop_all c.each.line-index written c.each-test.false)) ∙ c.each.invariant)
    ∙ append_assoc c.args.lines.now (lines written) (c.args.block.now.end_line ∷ [])
    ∙ ap (λ (ws : List WrittenLine). c.args.lines.now ++ (lines ws ++ c.args.block.now.end_line ∷ [])) c.as_slice-line-items.ensures
