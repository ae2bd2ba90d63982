use Rattle.std.proofs.Common.{◌≡◌, ◌∙◌, sym, subst, List, Option, Some}
use Rattle.std.specs.Prelude.{MatchOption}
use Rattle.clap.specs.Words.{Row, Text}
use Rattle.lto_words.specs.Commands.{Means, MeansEntered, kind_named}
use Rattle.lto_words.specs.Given.{rows_in}
use Rattle.lto_words.specs.Reads.{Tells}
use Rattle.lto_words.specs.declared.request.Command.{Command}
use Rattle.lto_words.specs.declared.request.CommandKind.{CommandKind}
use Rattle.lto_words.proofs.Reading.{found_is}
use Rattle.lto_words.proofs.words.entered.Goals as goal

pub returns : goal.returns
unfolding rows_in
returns c =
    let name = c.in-Some.name.now in
    let rows = rows_in c.in-Some.given.now in
    let found = found_is c.args.matches.now name rows c.in-Some.ensures.name c.in-Some.ensures.rows in
    let kind : Some c.in-Some-kind_named.kind ≡ kind_named name = sym c.in-Some-kind_named.is ∙ c.kind_named.ensures in
    let read = subst (λ (o : Option CommandKind). Tells {T = Command} (λ x. MatchOption o ⊥ (λ k. Means k rows x)) c.requested.result) kind c.requested.ensures in
    subst (λ (o : Option (Text × List Row)). Tells (MeansEntered o) c.requested.result) (sym found) read
