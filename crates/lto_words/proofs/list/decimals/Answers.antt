use Rattle.std.proofs.Common.{◌≡◌, ◌∙◌, List, Some, ap, map, subst}
use Rattle.clap.specs.Walk.{texts}
use Rattle.clap.specs.Words.{Text}
use Rattle.lto_words.specs.Reads.{Tells}
use Rattle.lto_words.specs.Values.{decimal}
use Rattle.lto_words.specs.declared.list.Decimal.{Decimal}
use Rattle.lto_words.proofs.list.decimals.Goals as goal

pub returns : goal.returns
returns c =
    let parts = ap texts c.deref.ensures.value ∙ c.in_ok-parts.ensures in
    subst (λ (parts : List Text). Tells {T = List Decimal} (λ numbers. map decimal parts ≡ map (λ d. Some d) numbers) c.all_decimals.result) parts c.all_decimals.ensures
