use Rattle.std.proofs.Common.{◌≡◌, ◌∙◌, Bool, Some, ap, false, not, sym, true}
use Rattle.clap.specs.Words.{Rule, rule_of}
use Rattle.clap.specs.declared.builder.Arg.{Arg}
use Rattle.clap.specs.declared.builder.ArgAction.TheVariants.{Append}
use Rattle.lto_words.specs.Table.{option, rule}
use Rattle.lto_words.proofs.argument.Argument.to_arg.Goals as goal

swap_not : (a b : Bool) → not a ≡ b → a ≡ not b
swap_not true b e = ap not e
swap_not false b e = ap not e

pub returns-in-Text-clause-rule : goal.returns-in-Text-clause-rule
returns-in-Text-clause-rule c = c.option.ensures.rule ∙ sym (ap rule c.in-Text.is)

pub returns-in-Number-clause-rule : goal.returns-in-Number-clause-rule
returns-in-Number-clause-rule c = c.option-in-Number.ensures.rule ∙ ap (option c.in-Number.number.name.now) (swap_not _ _ (sym c.is_none.ensures)) ∙ sym (ap rule c.in-Number.is)

pub returns-in-Out-clause-rule : goal.returns-in-Out-clause-rule
returns-in-Out-clause-rule c =
    ap rule_of (c.required.ensures ∙ ap (λ (a : Arg). record a { required = true }) c.short.ensures)
    ∙ ap (λ (r : Rule). record r { short = Some 111; required = true }) c.new.ensures.rule ∙ sym (ap rule c.in-Out.is)

pub returns-in-Files-clause-rule : goal.returns-in-Files-clause-rule
returns-in-Files-clause-rule c =
    ap rule_of (c.required-in-Files.ensures ∙ ap (λ (a : Arg). record a { required = true }) c.action.ensures)
    ∙ ap (λ (r : Rule). record r { action = Some Append; required = true }) c.new-in-Files.ensures.rule ∙ sym (ap rule c.in-Files.is)

pub returns-in-ListFile-clause-rule : goal.returns-in-ListFile-clause-rule
returns-in-ListFile-clause-rule c =
    ap rule_of c.required-in-ListFile.ensures ∙ ap (λ (r : Rule). record r { required = true }) c.new-in-ListFile.ensures.rule ∙ sym (ap rule c.in-ListFile.is)

pub returns-in-Text-clause-local : goal.returns-in-Text-clause-local
returns-in-Text-clause-local c = c.option.ensures.local

pub returns-in-Number-clause-local : goal.returns-in-Number-clause-local
returns-in-Number-clause-local c = c.option-in-Number.ensures.local

pub returns-in-Out-clause-local : goal.returns-in-Out-clause-local
returns-in-Out-clause-local c = ap (λ (a : Arg). a.global) c.required.ensures ∙ ap (λ (a : Arg). a.global) c.short.ensures ∙ c.new.ensures.optional.1

pub returns-in-Files-clause-local : goal.returns-in-Files-clause-local
returns-in-Files-clause-local c = ap (λ (a : Arg). a.global) c.required-in-Files.ensures ∙ ap (λ (a : Arg). a.global) c.action.ensures ∙ c.new-in-Files.ensures.optional.1

pub returns-in-ListFile-clause-local : goal.returns-in-ListFile-clause-local
returns-in-ListFile-clause-local c = ap (λ (a : Arg). a.global) c.required-in-ListFile.ensures ∙ c.new-in-ListFile.ensures.optional.1
