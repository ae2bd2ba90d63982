use Rattle.std.proofs.Common.{◌∙◌, ℕ, List, map, ap}
use Rattle.ir_tree.specs.declared.operand.Reg.{Reg}
use Rattle.ir_edit.specs.Substituted.{substituted}
use Rattle.inline_site.specs.Callers.{named_by, poisons, with_names}
use Rattle.inline_site.specs.declared.names.Halves.{Halves}
use Rattle.inline_site.proofs.Later.{done_late}
use Rattle.inline_site.proofs.late.Late.done.Goals as goal

pub returns : goal.returns
returns c =
    done_late c.args.self.now c.args.f.now c.in_ok-renamed.renamed c.in_ok-g.g c.args.blocks.items c.rename.new.blocks.items
    (c.in_ok-rename.ensures ∙ ap (λ (hs : List Halves). map (with_names (named_by hs)) c.args.blocks.items) c.deref.ensures.value) c.in_ok-renamed.ensures
    (c.in_ok-g.ensures ∙ ap (λ (l : List (ℕ × Reg)). substituted (poisons l) c.in_ok-renamed.renamed) c.deref-2.ensures.value)
