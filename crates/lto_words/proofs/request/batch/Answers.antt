use Rattle.std.proofs.Common.{codes}
use Rattle.lto_words.specs.Commands.{HasLinkOptions, IsBatch}
use Rattle.lto_words.specs.Given.{HasFile, rows_in}
use Rattle.lto_words.proofs.Reading.{of_batch, refused}
use Rattle.lto_words.proofs.request.batch.Goals as goal

pub returns-in_err-options : goal.returns-in_err-options
returns-in_err-options c =
    let rows = rows_in c.args.matches.now in
    refused (HasLinkOptions rows) (IsBatch rows) (λ command is. let parts = of_batch rows command is in (parts.0, parts.2)) c.from_residual.result _ c.from_residual.ensures.1 c.in_err-options.ensures

pub returns-in_err-list : goal.returns-in_err-list
returns-in_err-list c =
    let rows = rows_in c.args.matches.now in
    refused (HasFile (codes "LISTFILE") rows) (IsBatch rows) (λ command is. let parts = of_batch rows command is in (parts.1, parts.3)) c.from_residual-in_err-list.result _ c.from_residual-in_err-list.ensures.1 c.in_err-list.ensures

pub returns : goal.returns
returns c = (c.in_ok-options.ensures, c.in_ok-list.ensures)
